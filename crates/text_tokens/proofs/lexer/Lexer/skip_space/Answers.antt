use Rattle.std.proofs.Common.{◌∙◌, ap, arith, drop}
use Rattle.text_meaning.specs.Lexing.{is_space}
use Rattle.text_tokens.proofs.Fronting.{front_length, drop_front}
use Rattle.text_tokens.proofs.lexer.Lexer.skip_space.Goals as goal

pub after-self-requires : goal.after-self-requires
after-self-requires c = omega (arith, front_length is_space c.args.self.now.rest.now)

pub returns : goal.returns
returns c = c.after-self.ensures ∙ ap (λ n. drop n c.args.self.now.rest.now) c.space_length-count.ensures ∙ drop_front is_space c.args.self.now.rest.now
