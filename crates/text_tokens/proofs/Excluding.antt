-- Which class of bytes excludes which.
use Rattle.std.proofs.Common.{◌≡◌, ℕ, true, false, arith}
use Rattle.std.specs.Prelude.{◌==◌}
use Rattle.std.specs.Char.{is_ascii_digit}
use Rattle.std.proofs.lemmas.Bool.Decides.{nat_tests}
use Rattle.text_meaning.specs.Names.{is_word_start}
use Rattle.text_meaning.specs.Lexing.{is_space}

pub digit_not_start : (c : ℕ) → is_ascii_digit c ≡ true → is_word_start c ≡ false
digit_not_start c h = grind (arith, nat_tests)

pub digit_not_space : (c : ℕ) → is_ascii_digit c ≡ true → is_space c ≡ false
digit_not_space c h = grind (arith, nat_tests)

pub start_not_space : (c : ℕ) → is_word_start c ≡ true → is_space c ≡ false
start_not_space c h = grind (arith, nat_tests)

pub digit_not_minus : (c : ℕ) → is_ascii_digit c ≡ true → (c == 45) ≡ false
digit_not_minus c h = grind (arith, nat_tests)
