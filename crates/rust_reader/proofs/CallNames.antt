-- Lexemes that are a function's name with its types, and lexemes that are none.
use Rattle.std.proofs.Common.{◌≡◌, ◌↔◌, refl, IsTrue, Bool, true, false, ap, sym, subst, ◌∙◌, ◌-◌, ℕ, suc, ◌≤◌, ◌<◌, Option, Some, None, List, [], ◌∷◌, length, get_or, take, drop, arith, Result, Ok, Err, IfOk}
use Rattle.std.proofs.Math.Seq.{take-length}
use Rattle.aen_base.specs.declared.memory.NoMem.{NoMem}
use Rattle.aen_base.specs.declared.span.Span.{Span}
use Rattle.table_reader.specs.declared.take.Take.TheVariants as K
use Rattle.table_reader.specs.Reading as R
use Rattle.source_grammar.specs.declared.lexeme.Lexeme.{Lexeme}
use Rattle.source_grammar.specs.declared.part.Part.TheVariants as N
use Rattle.source_grammar.specs.declared.part.Listed.TheVariants as Of
use Rattle.source_grammar.specs.declared.terminal.Terminal.TheVariants as T
use Rattle.source_grammar.specs.Lexemes.{takes}
use Rattle.source_ways.specs.Carriers.{Carrier}
use Rattle.source_ways.specs.Reading.{made}
use Rattle.source_ways.specs.Says.{name_in}
use Rattle.source_values.specs.declared.value.Value.{Value}
use Rattle.source_values.specs.declared.value.Value.TheVariants as V
use Rattle.source_values.specs.Held.{held}
use Rattle.source_values.specs.Stacked.{Is}
use Rattle.rust_ast.specs.SourceTypes as t
use Rattle.rust_reader.specs.Answers.{ReadsList, ReadsTypes, ReadsCallName, AreListed, AreTypes, IsCallName, nothing, given, by}

abbrev Types : Type 0
Types = Carrier (N.List Of.TypesInAngles)

-- a slice is its first item and the others
first_and_rest : {A : Type 0} (xs : List A) (x : A) → 1 ≤ length xs → x ≡ get_or xs 0 x → xs ≡ x ∷ take (length xs - 1) (drop 1 xs)
first_and_rest [] x h e = absurd (omega (arith, h))
first_and_rest (y ∷ ys) x h e =
    let count : suc (length ys) - 1 ≡ length ys = omega arith in
    λ i. (sym e i) ∷ (sym (take-length ys) ∙ ap (λ n. take n ys) (sym count)) i

-- what a name with types begins with, and what follows
name_parts : (first : Lexeme) (rest : List Lexeme) (name : List ℕ) (tys : List t.Written) → ReadsCallName (first ∷ rest) name tys →
    (takes T.Identifier first ≡ K.Whole) × ReadsTypes rest tys × (name ≡ name_in first.content)
name_parts first rest _ tys (by _ _ _ taken types) = (taken, types, refl)

-- what types are given by
record TypeParts (colons less : Lexeme) (rest : List Lexeme) (tys : List t.Written) : Type 0 where
  first : takes T.Colons colons ≡ K.Whole
  second : takes T.Less less ≡ K.Whole
  carried : Types
  reads : ReadsList rest carried
  is : tys ≡ carried.value

type_parts : (colons less : Lexeme) (rest : List Lexeme) (tys : List t.Written) → ReadsTypes (colons ∷ (less ∷ rest)) tys → TypeParts colons less rest tys
type_parts colons less rest _ (given _ _ _ v first second types) = record { first = first; second = second; carried = v; reads = types; is = refl }

-- a test that fails, of what holds
fails : (holds : Type 0) (test : Bool) → (IsTrue test ↔ holds) → test ≡ false → holds → ⊥
fails holds test h failed w = let e : true ≡ false = sym (h.1 w) ∙ failed in absurd cc

-- a name is an identifier first
pub no_identifier : (first : Lexeme) (rest : List Lexeme) (test : Bool) → (IsTrue test ↔ (takes T.Identifier first ≡ K.Whole)) → test ≡ false →
    (name : List ℕ) (tys : List t.Written) → ReadsCallName (first ∷ rest) name tys → ⊥
no_identifier first rest test is failed name tys h = fails (takes T.Identifier first ≡ K.Whole) test is failed (name_parts first rest name tys h).0

-- and types, or nothing, then
pub no_types : (first : Lexeme) (rest : List Lexeme) → ((tys : List t.Written) → ReadsTypes rest tys → ⊥) → (name : List ℕ) (tys : List t.Written) → ReadsCallName (first ∷ rest) name tys → ⊥
no_types first rest failed name tys h = failed tys (name_parts first rest name tys h).1

pub is_named : (first : Lexeme) (rest : List Lexeme) (name : List ℕ) (tys : List t.Written) (test : Bool) → (IsTrue test ↔ (takes T.Identifier first ≡ K.Whole)) → test ≡ true →
    AreTypes rest (Some tys) → name ≡ name_in first.content → IsCallName (first ∷ rest) None (Some (name, tys))
is_named first rest name tys test is met (types, only) e = (
  refl,
  subst (λ (w : List ℕ). ReadsCallName (first ∷ rest) w tys) (sym e) (by first rest tys (is.0 met) types),
  λ other others h. let p = name_parts first rest other others h in (p.2 ∙ sym e, only others p.1),
)

-- no lexemes are no name
no_name : (name : List ℕ) (tys : List t.Written) → ReadsCallName [] name tys → ⊥
no_name name tys h = elim h [ ]

pub empty_is_no_name : (ls : List Lexeme) → length ls < 1 → (name : List ℕ) (tys : List t.Written) → ReadsCallName ls name tys → ⊥
empty_is_no_name [] e name tys h = no_name name tys h
empty_is_no_name (l ∷ ls) e name tys h = absurd (omega (arith, e))

-- no lexemes are no types that are given
only_nothing : (tys : List t.Written) → ReadsTypes [] tys → tys ≡ []
only_nothing _ nothing = refl

pub empty_is_nothing : (ls : List Lexeme) (tys : List t.Written) → length ls < 1 → tys ≡ [] → AreTypes ls (Some tys)
empty_is_nothing [] tys n e = (subst (λ (w : List t.Written). ReadsTypes [] w) (sym e) nothing, λ others h. only_nothing others h ∙ sym e)
empty_is_nothing (l ∷ ls) tys n e = absurd (omega (arith, n))

-- one lexeme gives no types
one_alone : (colons : Lexeme) (tys : List t.Written) → ReadsTypes (colons ∷ []) tys → ⊥
one_alone colons tys h = elim h [ ]

pub one_is_no_types : (colons : Lexeme) (ls : List Lexeme) → length ls < 1 → (tys : List t.Written) → ReadsTypes (colons ∷ ls) tys → ⊥
one_is_no_types colons [] e tys h = one_alone colons tys h
one_is_no_types colons (l ∷ ls) e tys h = absurd (omega (arith, e))

-- types begin with `::` and `<`
pub no_colons : (colons less : Lexeme) (rest : List Lexeme) (test : Bool) → (IsTrue test ↔ (takes T.Colons colons ≡ K.Whole)) → test ≡ false →
    (tys : List t.Written) → ReadsTypes (colons ∷ (less ∷ rest)) tys → ⊥
no_colons colons less rest test is failed tys h = fails (takes T.Colons colons ≡ K.Whole) test is failed (type_parts colons less rest tys h).first

pub no_less : (colons less : Lexeme) (rest : List Lexeme) (test : Bool) → (IsTrue test ↔ (takes T.Less less ≡ K.Whole)) → test ≡ false →
    (tys : List t.Written) → ReadsTypes (colons ∷ (less ∷ rest)) tys → ⊥
no_less colons less rest test is failed tys h = fails (takes T.Less less ≡ K.Whole) test is failed (type_parts colons less rest tys h).second

-- types stand between `::<` and `>`
after_angles : (colons less : Lexeme) (rest : List Lexeme) (o : Option (List t.Written)) → takes T.Colons colons ≡ K.Whole → takes T.Less less ≡ K.Whole → AreListed rest o →
    AreTypes (colons ∷ (less ∷ rest)) o
after_angles colons less rest None first second failed = λ tys h. let p = type_parts colons less rest tys h in failed p.carried p.reads
after_angles colons less rest (Some tys) first second (v, (types, e, only)) = (
  subst (λ (w : List t.Written). ReadsTypes (colons ∷ (less ∷ rest)) w) (sym e) (given colons less rest v first second types),
  λ others h. let p = type_parts colons less rest others h in p.is ∙ ap (λ (w : Types). w.value) (only p.carried p.reads) ∙ sym e,
)

pub in_angles : (colons less : Lexeme) (rest : List Lexeme) (result : Result (Option (List t.Written)) NoMem) (first second : Bool) →
    (IsTrue first ↔ (takes T.Colons colons ≡ K.Whole)) → first ≡ true → (IsTrue second ↔ (takes T.Less less ≡ K.Whole)) → second ≡ true →
    IfOk result (AreListed rest) → IfOk result (AreTypes (colons ∷ (less ∷ rest)))
in_angles colons less rest (Ok o) first second a p b q h = after_angles colons less rest o (a.0 p) (b.0 q) h
in_angles colons less rest (Err e) first second a p b q h = h

-- the value is that of types
pub holds_types : (ls : List Lexeme) (value : Value) → R.IsReadAs takes Carrier made held (N.List Of.TypesInAngles) ls value → Is V.Writtens value
holds_types ls value h = record { value = h.carried; is = h.holds }

pub listed : (ls : List Lexeme) (value : Value) (tys : List t.Written) → R.IsReadAs takes Carrier made held (N.List Of.TypesInAngles) ls value →
    ((v : Types) → value ≡ held (N.List Of.TypesInAngles) v → tys ≡ v.value) → AreListed ls (Some tys)
listed ls value tys h is = (h.carried, (h.reads, is h.carried h.holds, h.only))

-- what is said of the first lexeme and the others is said of all
pub all_named : (ls : List Lexeme) (first : Lexeme) (result : Result (Option (List ℕ × List t.Written)) NoMem) → 1 ≤ length ls → first ≡ get_or ls 0 first →
    IfOk result (IsCallName (first ∷ take (length ls - 1) (drop 1 ls)) None) → IfOk result (IsCallName ls None)
all_named ls first result n e h = subst (λ (l : List Lexeme). IfOk result (IsCallName l None)) (sym (first_and_rest ls first n e)) h

pub all_types : (ls : List Lexeme) (first : Lexeme) (result : Result (Option (List t.Written)) NoMem) → 1 ≤ length ls → first ≡ get_or ls 0 first →
    IfOk result (AreTypes (first ∷ take (length ls - 1) (drop 1 ls))) → IfOk result (AreTypes ls)
all_types ls first result n e h = subst (λ (l : List Lexeme). IfOk result (AreTypes l)) (sym (first_and_rest ls first n e)) h

pub all_after : (colons : Lexeme) (ls : List Lexeme) (first : Lexeme) (result : Result (Option (List t.Written)) NoMem) → 1 ≤ length ls → first ≡ get_or ls 0 first →
    IfOk result (AreTypes (colons ∷ (first ∷ take (length ls - 1) (drop 1 ls)))) → IfOk result (AreTypes (colons ∷ ls))
all_after colons ls first result n e h = subst (λ (l : List Lexeme). IfOk result (AreTypes (colons ∷ l))) (sym (first_and_rest ls first n e)) h

-- a name before no lexical fault
pub of_text : (ls all : List Lexeme) (bad : Option Span) (result : Result (Option (List ℕ × List t.Written)) NoMem) → ls ≡ all → bad ≡ None →
    IfOk result (IsCallName ls None) → IfOk result (IsCallName all bad)
of_text ls all bad result e b h =
    subst (λ (o : Option Span). IfOk result (IsCallName all o)) (sym b) (subst (λ (l : List Lexeme). IfOk result (IsCallName l None)) e h)
