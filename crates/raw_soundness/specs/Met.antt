-- A lexeme that a token takes is what the token wants.
use Rattle.std.specs.Prelude.{◌≡◌, refl, ℕ, true, List}
use Rattle.std.proofs.Common.{subst}
use Rattle.text_meaning.specs.declared.mark.Mark.TheVariants as M
use Rattle.text_meaning.specs.Lists.{Each}
use Rattle.text_meaning.specs.Tokens.{word}
use Rattle.text_meaning.specs.Words.{int_word}
use Rattle.text_tokens.specs.declared.lexeme.LexemeKind.{LexemeKind}
use Rattle.text_tokens.specs.declared.lexeme.Lexeme.{Lexeme as Spelled}
use Rattle.text_tokens.specs.Stands.{Stands}
use Rattle.text_table.specs.declared.class.Class.{Class}
use Rattle.text_table.specs.declared.class.Class.TheVariants as C
use Rattle.text_table.specs.declared.terminal.Terminal.{Terminal}
use Rattle.text_table.specs.declared.terminal.Terminal.TheVariants as T
use Rattle.text_table.specs.Classes.{classes, spelling}
use Rattle.text_table.specs.Lexemes.{has_class}
use Rattle.text_syntax.specs.Among.{each_class}
use Rattle.text_syntax.specs.Classing.{class_of, lexeme_of}
use Rattle.text_syntax.specs.Standing.{word_stands, one_word_stands, token_some_word, is_id, is_digits, zero_stands, one_stands, mark_stands}
use Rattle.raw_ways.specs.Words.{int_of, is_true}
use Rattle.raw_meaning.specs.Wants.{Meets, truth_word}
use Rattle.raw_soundness.specs.Symbols.{want_of}

-- the class of an integer type is spelled as the type
abbrev IsIntWord : Class → Type 0
IsIntWord c = spelling c ≡ int_word (int_of c)

int_words : Each IsIntWord (classes T.Int)
int_words = (refl, (refl, (refl, (refl, (refl, (refl, (refl, (refl, (refl, (refl, (refl, (refl, tt))))))))))))

abbrev IsTruthWord : Class → Type 0
IsTruthWord c = spelling c ≡ truth_word (is_true c)

truth_words : Each IsTruthWord (classes T.Truth)
truth_words = (refl, (refl, tt))

int_stands : (k : LexemeKind) → has_class T.Int (class_of k) ≡ true → Stands k (word (int_word (int_of (class_of k))))
int_stands k h = subst (λ (x : List ℕ). Stands k (word x)) (each_class IsIntWord (classes T.Int) (class_of k) int_words h) (word_stands T.Int k refl h)

truth_stands : (k : LexemeKind) → has_class T.Truth (class_of k) ≡ true → Stands k (word (truth_word (is_true (class_of k))))
truth_stands k h = subst (λ (x : List ℕ). Stands k (word x)) (each_class IsTruthWord (classes T.Truth) (class_of k) truth_words h) (word_stands T.Truth k refl h)

pub met : (t : Terminal) (l : Spelled) → has_class t (class_of l.kind) ≡ true → Meets (want_of t (lexeme_of l)) l.kind
met T.Name l h = is_id l.kind h
met T.Variable l h = token_some_word T.Variable l.kind refl h
met T.LoopNumber l h = token_some_word T.LoopNumber l.kind refl h
met T.Back l h = token_some_word T.Back l.kind refl h
met T.Number l h = is_digits l.kind h
met T.Zero l h = zero_stands l.kind h
met T.One l h = one_stands l.kind h
met T.Int l h = int_stands l.kind h
met T.Truth l h = truth_stands l.kind h
met T.BoolOperator l h = word_stands T.BoolOperator l.kind refl h
met T.IntOperator l h = word_stands T.IntOperator l.kind refl h
met T.OpenBracket l h = mark_stands M.Open l.kind h
met T.CloseBracket l h = mark_stands M.Close l.kind h
met T.UnitValue l h = mark_stands M.Unit l.kind h
met T.OpenBrace l h = mark_stands M.OpenBrace l.kind h
met T.CloseBrace l h = mark_stands M.CloseBrace l.kind h
met T.Colon l h = mark_stands M.Colon l.kind h
met T.Becomes l h = mark_stands M.Becomes l.kind h
met T.Comma l h = mark_stands M.Comma l.kind h
met T.Semicolon l h = mark_stands M.Semicolon l.kind h
met T.Dot l h = mark_stands M.Dot l.kind h
met T.Hash l h = mark_stands M.Hash l.kind h
met T.Bar l h = mark_stands M.Bar l.kind h
met T.Gives l h = mark_stands M.Gives l.kind h
met T.Plus l h = mark_stands M.Plus l.kind h
met T.To l h = mark_stands M.To l.kind h
met T.From l h = mark_stands M.From l.kind h
met T.Times l h = mark_stands M.Times l.kind h
met T.Import l h = one_word_stands C.Import l.kind refl h
met T.AenPrelude l h = one_word_stands C.AenPrelude l.kind refl h
met T.Open l h = one_word_stands C.Open l.kind refl h
met T.Inductive l h = one_word_stands C.Inductive l.kind refl h
met T.Structure l h = one_word_stands C.Structure l.kind refl h
met T.Type l h = one_word_stands C.Type l.kind refl h
met T.Where l h = one_word_stands C.Where l.kind refl h
met T.Def l h = one_word_stands C.Def l.kind refl h
met T.Fuel l h = one_word_stands C.Fuel l.kind refl h
met T.Nat l h = one_word_stands C.Nat l.kind refl h
met T.Result l h = one_word_stands C.Result l.kind refl h
met T.Match l h = one_word_stands C.Match l.kind refl h
met T.With l h = one_word_stands C.With l.kind refl h
met T.OutOfFuel l h = one_word_stands C.OutOfFuel l.kind refl h
met T.Do l h = one_word_stands C.Do l.kind refl h
met T.Let l h = one_word_stands C.Let l.kind refl h
met T.Ok l h = one_word_stands C.Ok l.kind refl h
met T.Fail l h = one_word_stands C.Fail l.kind refl h
met T.Brk l h = one_word_stands C.Brk l.kind refl h
met T.Ret l h = one_word_stands C.Ret l.kind refl h
met T.Bool l h = one_word_stands C.Bool l.kind refl h
met T.Unit l h = one_word_stands C.Unit l.kind refl h
met T.Exit l h = one_word_stands C.Exit l.kind refl h
met T.Fn l h = one_word_stands C.Fn l.kind refl h
met T.Cast l h = one_word_stands C.Cast l.kind refl h
met T.Box l h = one_word_stands C.Box l.kind refl h
met T.New l h = one_word_stands C.New l.kind refl h
met T.Mem l h = one_word_stands C.Mem l.kind refl h
met T.Replace l h = one_word_stands C.Replace l.kind refl h
met T.Swap l h = one_word_stands C.Swap l.kind refl h
met T.BackZero l h = one_word_stands C.BackZero l.kind refl h
met T.BackOne l h = one_word_stands C.BackOne l.kind refl h
