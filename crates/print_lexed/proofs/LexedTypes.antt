-- The tokens of words, types and paths are lexed as themselves.
use Rattle.std.proofs.Common.{◌≡◌, refl, ℕ, Bool, true, false, List, ◌∷◌, codes}
use Rattle.aen_base.specs.declared.operators.BinOp.{BinOp}
use Rattle.aen_base.specs.declared.operators.BinOp.TheVariants as bin
use Rattle.aen_base.specs.declared.operators.CmpOp.{CmpOp}
use Rattle.aen_base.specs.declared.operators.CmpOp.TheVariants as cmp
use Rattle.rust_ast.specs.Patterns as suffixes
use Rattle.rust_ast.specs.SourceTypes as t
use Rattle.source_grammar.specs.declared.class.Class.{Class}
use Rattle.source_grammar.specs.declared.class.Class.TheVariants as C
use Rattle.rust_lex.specs.Words.{is_word, is_excluded}
use Rattle.rust_printer.specs.Tok.{Tok, mark, named, after}
use Rattle.rust_printer.specs.WordTokens.{bin_tokens, update_tokens, cmp_tokens, truth_tokens, mut_tokens, sign_tokens, number_tokens}
use Rattle.rust_printer.specs.TypeTokens.{lifetime_tokens, type_tokens, arguments_tokens, types_tokens, turbo_tokens, std_tokens, path_tokens}
use Rattle.print_lexed.proofs.Sequences.{IsLexed, AreLexed, then_blank}
use Rattle.print_lexed.proofs.LexedNames.{name_lexed, ascii_normal}
use Rattle.print_lexed.proofs.LexedMarks.{is_plain, mark_lexed}
use Rattle.print_lexed.proofs.LexedNumbers.{int_lexed, number_lexed}
use Rattle.print_lexed.proofs.Spellable.{IsName, IsLifetime, IsSize, IsType, AreTypes, IsTurbo, IsPath}

pub then_mark : (c : Class) → is_plain c ≡ true → after (mark c) ≡ codes " " → {more : List Tok} → AreLexed false more → AreLexed false (mark c ∷ more)
then_mark c p a m = then_blank (mark_lexed c p) a m

pub then_name : (name : List ℕ) → IsName name → {more : List Tok} → AreLexed false more → AreLexed false (named name ∷ more)
then_name name n m = then_blank n.0 refl m

-- the names that are written of themselves
pub std_lexed : IsLexed false (named (codes "std"))
unfolding is_word is_excluded
std_lexed = name_lexed (codes "std") (ascii_normal (codes "std") refl refl) refl

pub mem_lexed : IsLexed false (named (codes "mem"))
unfolding is_word is_excluded
mem_lexed = name_lexed (codes "mem") (ascii_normal (codes "mem") refl refl) refl

new_lexed : IsLexed false (named (codes "new"))
unfolding is_word is_excluded
new_lexed = name_lexed (codes "new") (ascii_normal (codes "new") refl refl) refl

replace_lexed : IsLexed false (named (codes "replace"))
unfolding is_word is_excluded
replace_lexed = name_lexed (codes "replace") (ascii_normal (codes "replace") refl refl) refl

swap_lexed : IsLexed false (named (codes "swap"))
unfolding is_word is_excluded
swap_lexed = name_lexed (codes "swap") (ascii_normal (codes "swap") refl refl) refl

pub panic_lexed : IsLexed false (named (codes "panic"))
unfolding is_word is_excluded
panic_lexed = name_lexed (codes "panic") (ascii_normal (codes "panic") refl refl) refl

-- ---- words and marks

pub bin_lexed : (op : BinOp) → {more : List Tok} → AreLexed false more → AreLexed false (bin_tokens op more)
bin_lexed bin.Add m = then_mark C.Plus refl refl m
bin_lexed bin.Sub m = then_mark C.Minus refl refl m
bin_lexed bin.Mul m = then_mark C.Star refl refl m
bin_lexed bin.Div m = then_mark C.Slash refl refl m
bin_lexed bin.Rem m = then_mark C.Percent refl refl m
bin_lexed bin.Shl m = then_mark C.Shl refl refl m
bin_lexed bin.Shr m = then_mark C.Shr refl refl m
bin_lexed bin.And m = then_mark C.And refl refl m
bin_lexed bin.Or m = then_mark C.Bar refl refl m
bin_lexed bin.Xor m = then_mark C.Caret refl refl m

pub update_lexed : (op : BinOp) → {more : List Tok} → AreLexed false more → AreLexed false (update_tokens op more)
update_lexed bin.Add m = then_mark C.PlusEquals refl refl m
update_lexed bin.Sub m = then_mark C.MinusEquals refl refl m
update_lexed bin.Mul m = then_mark C.StarEquals refl refl m
update_lexed bin.Div m = then_mark C.SlashEquals refl refl m
update_lexed bin.Rem m = then_mark C.PercentEquals refl refl m
update_lexed bin.Shl m = then_mark C.ShlEquals refl refl m
update_lexed bin.Shr m = then_mark C.ShrEquals refl refl m
update_lexed bin.And m = then_mark C.AndEquals refl refl m
update_lexed bin.Or m = then_mark C.BarEquals refl refl m
update_lexed bin.Xor m = then_mark C.CaretEquals refl refl m

pub cmp_lexed : (op : CmpOp) → {more : List Tok} → AreLexed false more → AreLexed false (cmp_tokens op more)
cmp_lexed cmp.Eq m = then_mark C.EqualsEquals refl refl m
cmp_lexed cmp.Ne m = then_mark C.NotEquals refl refl m
cmp_lexed cmp.Lt m = then_mark C.Less refl refl m
cmp_lexed cmp.Le m = then_mark C.LessEquals refl refl m
cmp_lexed cmp.Gt m = then_mark C.Greater refl refl m
cmp_lexed cmp.Ge m = then_mark C.GreaterEquals refl refl m

pub truth_lexed : (b : Bool) → {more : List Tok} → AreLexed false more → AreLexed false (truth_tokens b more)
truth_lexed true m = then_mark C.True refl refl m
truth_lexed false m = then_mark C.False refl refl m

pub mut_lexed : (b : Bool) → {more : List Tok} → AreLexed false more → AreLexed false (mut_tokens b more)
mut_lexed true m = then_mark C.Mut refl refl m
mut_lexed false m = m

sign_lexed : (b : Bool) → {more : List Tok} → AreLexed false more → AreLexed false (sign_tokens b more)
sign_lexed true m = then_mark C.Minus refl refl m
sign_lexed false m = m

pub size_lexed : (negative : Bool) (size : ℕ) (suffix : suffixes.Suffix) → IsSize size → {more : List Tok} → AreLexed false more → AreLexed false (number_tokens negative size suffix more)
size_lexed negative size suffix k m = sign_lexed negative (then_blank (number_lexed size (suffixes.suffix_option suffix) k) refl m)

-- ---- types

lifetime_lexed : (x : t.Lifetime) → IsLifetime x → {more : List Tok} → AreLexed false more → AreLexed false (lifetime_tokens x more)
lifetime_lexed t.elided k m = m
lifetime_lexed (t.lifetime name) k m = then_blank k refl m

mutual
  pub type_lexed : (x : t.Written) → IsType x → {more : List Tok} → AreLexed false more → AreLexed false (type_tokens x more)
  type_lexed (t.int span ty) k m = then_blank (int_lexed ty) refl m
  type_lexed (t.bool span) k m = then_mark C.Bool refl refl m
  type_lexed (t.unit span) k m = then_mark C.OpenBracket refl refl (then_mark C.CloseBracket refl refl m)
  type_lexed (t.tuple span parts) k m = then_mark C.OpenBracket refl refl (types_lexed parts k (then_mark C.CloseBracket refl refl m))
  type_lexed (t.ref span life mutable ty) k m = then_mark C.And refl refl (lifetime_lexed life k.0 (mut_lexed mutable (type_lexed ty k.1 m)))
  type_lexed (t.boxed span ty) k m = then_mark C.Box refl refl (then_mark C.Less refl refl (type_lexed ty k (then_mark C.Greater refl refl m)))
  type_lexed (t.named span name args) k m = then_name name.name k.0 (arguments_lexed args k.1 m)

  arguments_lexed : (x : t.Writtens) → AreTypes x → {more : List Tok} → AreLexed false more → AreLexed false (arguments_tokens x more)
  arguments_lexed t.no_writtens k m = m
  arguments_lexed (t.more_writtens ty rest) k m = then_mark C.Less refl refl (type_lexed ty k.0 (then_mark C.Comma refl refl (types_lexed rest k.1 (then_mark C.Greater refl refl m))))

  pub types_lexed : (x : t.Writtens) → AreTypes x → {more : List Tok} → AreLexed false more → AreLexed false (types_tokens x more)
  types_lexed t.no_writtens k m = m
  types_lexed (t.more_writtens ty rest) k m = type_lexed ty k.0 (then_mark C.Comma refl refl (types_lexed rest k.1 m))

pub turbo_lexed : (x : t.Turbo) → IsTurbo x → {more : List Tok} → AreLexed false more → AreLexed false (turbo_tokens x more)
turbo_lexed t.no_turbo k m = m
turbo_lexed (t.turbo tys) k m = then_mark C.Colons refl refl (then_mark C.Less refl refl (types_lexed tys k (then_mark C.Greater refl refl m)))

-- ---- paths

after_std_lexed : (b : Bool) → {more : List Tok} → AreLexed false more → AreLexed false (std_tokens b more)
after_std_lexed true m = then_blank std_lexed refl (then_mark C.Colons refl refl m)
after_std_lexed false m = m

pub path_lexed : (x : t.Path) → IsPath x → {more : List Tok} → AreLexed false more → AreLexed false (path_tokens x more)
path_lexed (t.one name) k m = then_name name.name k m
path_lexed (t.two first tys second) k m = then_name first.name k.0 (turbo_lexed tys k.1.0 (then_mark C.Colons refl refl (then_name second.name k.1.1 m)))
path_lexed (t.box_new span) k m = then_mark C.Box refl refl (then_mark C.Colons refl refl (then_blank new_lexed refl m))
path_lexed (t.mem_replace span mem after_std) k m = after_std_lexed after_std (then_blank mem_lexed refl (then_mark C.Colons refl refl (then_blank replace_lexed refl m)))
path_lexed (t.mem_swap span mem after_std) k m = after_std_lexed after_std (then_blank mem_lexed refl (then_mark C.Colons refl refl (then_blank swap_lexed refl m)))
