-- Tokens of the grammar whose lexemes say something, and what they say.
use Rattle.std.proofs.Common.{◌≡◌, refl, ap, ◌∙◌, ℕ, true, List, ◌++◌, ℤ, pos, arith}
use Rattle.std.specs.Fmt.{signed_decimal}
use Rattle.std.specs.List.{list_all}
use Rattle.std.specs.Prelude.{not, codes}
use Rattle.std.proofs.lemmas.Fmt.{decimal_digit}
use Rattle.aen_base.specs.declared.int_ty.IntTy.{IntTy}
use Rattle.aen_base.specs.declared.int_ty.IntTy.TheVariants.{U8, U16, U32, U64, U128, Usize, I8, I16, I32, I64, I128, Isize}
use Rattle.text_meaning.specs.Ranges.{IsSmall}
use Rattle.text_meaning.specs.Tokens.{word, id, number, var_text, loop_text, back_text}
use Rattle.text_meaning.specs.Words.{int_word}
use Rattle.text_table.specs.declared.lexeme.Lexeme.{Lexeme}
use Rattle.text_table.specs.declared.terminal.Terminal.{Terminal}
use Rattle.text_table.specs.declared.terminal.Terminal.TheVariants as T
use Rattle.text_table.specs.Classes.{classes}
use Rattle.text_table.specs.Lexemes.{has_class}
use Rattle.text_syntax.specs.Classing.{class_of, class_of_word, class_of_number, is_fixed, text_of}
use Rattle.text_syntax.specs.Standing.{token_said}
use Rattle.raw_ways.specs.Words.{int_of}
use Rattle.raw_completeness.specs.Classes.{fits, fitting, is_the_word, is_the_number, name_taken, name_text, number_fits, variable_fits, loop_fits, back_fits, int_fits}
use Rattle.raw_completeness.specs.Rows.{Taking}

-- a lexeme's text
abbrev pub Says : List ℕ → Lexeme → Type 0
Says w x = x.text ≡ w

pub names : (n : List ℕ) → Taking T.Name (id n) (Says n)
names n = λ l s. (name_taken n l.kind s, name_text n l.kind s)

words : (t : Terminal) (w : List ℕ) → list_all (λ d. not (is_fixed d)) (classes t) ≡ true → fits t (word w) ≡ true → Taking t (word w) (Says w)
words t w a f = λ l s. (fitting t (word w) l.kind f s, ap text_of (is_the_word l.kind w s) ∙ token_said t (class_of_word w) w a f)

pub variables : (v : ℕ) → IsSmall v → Taking T.Variable (word (var_text v)) (Says (var_text v))
variables v small = words T.Variable (var_text v) refl (variable_fits v small)

pub loops : (k : ℕ) → IsSmall k → Taking T.LoopNumber (word (loop_text k)) (Says (loop_text k))
loops k small = words T.LoopNumber (loop_text k) refl (loop_fits k small)

pub backs : (k : ℕ) → IsSmall k → Taking T.Back (word (back_text k)) (Says (back_text k))
backs k small = words T.Back (back_text k) refl (back_fits k small)

pub numbers : (z : ℤ) → Taking T.Number (number z) (Says (signed_decimal z))
numbers z = λ l s. (fitting T.Number (number z) l.kind (number_fits z) s, ap text_of (is_the_number l.kind z s))

int_class : (t : IntTy) → int_of (class_of_word (int_word t)) ≡ t
int_class U8 = refl
int_class U16 = refl
int_class U32 = refl
int_class U64 = refl
int_class U128 = refl
int_class Usize = refl
int_class I8 = refl
int_class I16 = refl
int_class I32 = refl
int_class I64 = refl
int_class I128 = refl
int_class Isize = refl

-- a lexeme is the word of an integer type
abbrev pub IsInt : IntTy → Lexeme → Type 0
IsInt t x = int_of x.class ≡ t

pub ints : (t : IntTy) → Taking T.Int (word (int_word t)) (IsInt t)
ints t = λ l s. (fitting T.Int (word (int_word t)) l.kind (int_fits t) s, ap (λ k. int_of (class_of k)) (is_the_word l.kind (int_word t) s) ∙ int_class t)

-- ---- lexemes that say nothing more

abbrev pub Any : Lexeme → Type 0
Any x = Unit {0}

pub zeros : Taking T.Zero (number (pos 0)) Any
zeros = λ l s. (fitting T.Zero (number (pos 0)) l.kind (ap (λ (w : List ℕ). has_class T.Zero (class_of_number w)) (decimal_digit 0 (omega arith))) s, tt)

pub ones : Taking T.One (number (pos 1)) Any
ones = λ l s. (fitting T.One (number (pos 1)) l.kind (ap (λ (w : List ℕ). has_class T.One (class_of_number w)) (decimal_digit 1 (omega arith))) s, tt)

pub back_zeros : Taking T.BackZero (word (back_text 0)) Any
back_zeros = λ l s. (fitting T.BackZero (word (back_text 0)) l.kind (ap (λ (w : List ℕ). fits T.BackZero (word (codes "back" ++ w))) (decimal_digit 0 (omega arith))) s, tt)

pub back_ones : Taking T.BackOne (word (back_text 1)) Any
back_ones = λ l s. (fitting T.BackOne (word (back_text 1)) l.kind (ap (λ (w : List ℕ). fits T.BackOne (word (codes "back" ++ w))) (decimal_digit 1 (omega arith))) s, tt)
