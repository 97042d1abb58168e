use Rattle.std.proofs.Common.{◌≡◌, ◌∙◌, sym, ap, arith, length, drop, Some}
use Rattle.text_meaning.specs.Names.{is_word_byte}
use Rattle.text_tokens.specs.declared.lexeme.LexemeKind.TheVariants.{Word}
use Rattle.text_tokens.specs.Fronts.{front}
use Rattle.text_tokens.proofs.Fronting.{front_length, drop_front}
use Rattle.text_tokens.proofs.lexer.Lexer.word.Goals as goal

pub after-self-requires : goal.after-self-requires
after-self-requires c = omega (arith, front_length is_word_byte c.args.self.now.rest.now, ap length c.in_ok-text.ensures)

pub returns : goal.returns
returns c =
    let e = c.new.ensures ∙ c.in_ok-text.ensures in
    let g : c.len.result ≡ length (front is_word_byte c.args.self.now.rest.now) = omega (arith, ap length c.in_ok-text.ensures) in
    let f = c.after-self.ensures ∙ ap (λ n. drop n c.args.self.now.rest.now) g ∙ drop_front is_word_byte c.args.self.now.rest.now in
    λ i. Some (Word (sym e i), sym f i)
