use Rattle.std.proofs.Common.{◌≡◌, ◌∙◌, sym, ap, arith, length, drop, length-append, ◌-◌, Some}
use Rattle.std.specs.Char.{is_ascii_digit}
use Rattle.std.specs.String.{string_bytes}
use Rattle.text_tokens.specs.declared.lexeme.LexemeKind.TheVariants.{Number}
use Rattle.text_tokens.specs.Fronts.{front}
use Rattle.text_tokens.proofs.Fronting.{front_length, drop_front}
use Rattle.text_tokens.proofs.lexer.Lexer.number.Goals as goal

pub after-self-requires : goal.after-self-requires
after-self-requires c = omega (arith, ap length c.in_ok-text.ensures, length-append (string_bytes c.args.sign) (front is_ascii_digit c.args.self.now.rest.now), front_length is_ascii_digit c.args.self.now.rest.now)

pub returns : goal.returns
returns c =
    let e = c.new.ensures ∙ c.in_ok-text.ensures in
    let g : c.len.result - c.len-before.result ≡ length (front is_ascii_digit c.args.self.now.rest.now) = omega (arith, ap length c.in_ok-text.ensures, length-append (string_bytes c.args.sign) (front is_ascii_digit c.args.self.now.rest.now)) in
    let f = c.after-self.ensures ∙ ap (λ n. drop n c.args.self.now.rest.now) g ∙ drop_front is_ascii_digit c.args.self.now.rest.now in
    λ i. Some (Number (sym e i), sym f i)
