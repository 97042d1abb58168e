-- The classes of tokens, and which of them are names.
use Rattle.std.proofs.Common.{◌≡◌, refl, ap, ◌∙◌, inl, inr, Bool, true, false, not, ◌||◌, ◌&&◌, List, [], ◌∷◌}
use Rattle.std.specs.List.{list_any, list_all}
use denote.Enum.Bare.{sameb, same_true}
use Rattle.table_reader.specs.Derivations.{IsOneOf}
use Rattle.source_grammar.specs.declared.class.Class.{Class}
use Rattle.source_grammar.specs.declared.class.Class.TheVariants as C
use Rattle.source_grammar.specs.contracts.class.Class as cls
use Rattle.source_grammar.specs.declared.lexeme.Lexeme.{Lexeme}
use Rattle.source_grammar.specs.declared.terminal.Terminal.{Terminal}
use Rattle.source_grammar.specs.declared.terminal.Terminal.TheVariants as T
use Rattle.source_grammar.specs.contracts.terminal.Terminal.{the_type}
use Rattle.source_grammar.specs.Classes.{classes}
use Rattle.source_grammar.specs.Lexemes.{has_class}
use Rattle.source_grammar.specs.Spelled.{class_named}
use Rattle.source_ways.specs.Says.{name_in}
use Rattle.rust_printer.proofs.Printable.{IsName}
use Rattle.rust_printer.specs.ReadFrom.{IsLexeme}

pub no_true : {A : Type 0} (b : Bool) → b ≡ false → b ≡ true → A
no_true true p q = absurd cc
no_true false p q = absurd cc

one_by : (b : Bool) (c d : Class) (ds : List Class) → sameb cls.the_type c d ≡ b → (list_any (sameb cls.the_type c) ds ≡ true → IsOneOf c ds) →
    b || list_any (sameb cls.the_type c) ds ≡ true → IsOneOf c (d ∷ ds)
one_by true c d ds e f h = inl (same_true cls.the_type tt c d e)
one_by false c d ds e f h = inr (f h)

one_among : (c : Class) (cs : List Class) → list_any (sameb cls.the_type c) cs ≡ true → IsOneOf c cs
one_among c [] h = absurd cc
one_among c (d ∷ ds) h = one_by (sameb cls.the_type c d) c d ds refl (λ k. one_among c ds k) h

-- the classes of a token are those of its list
pub one_of : (t : Terminal) (c : Class) → has_class t c ≡ true → IsOneOf c (classes t)
one_of t c h = one_among c (classes t) h

first_true : (a b : Bool) → a && b ≡ true → a ≡ true
first_true true b h = refl
first_true false b h = absurd cc

second_true : (a b : Bool) → a && b ≡ true → b ≡ true
second_true true b h = h
second_true false b h = absurd cc

-- what holds of all classes of a list
of_all : (test : Class → Bool) (c : Class) (cs : List Class) → list_all test cs ≡ true → IsOneOf c cs → test c ≡ true
of_all test c [] all one = absurd one
of_all test c (d ∷ ds) all (inl e) = ap test e ∙ first_true (test d) (list_all test ds) all
of_all test c (d ∷ ds) all (inr one) = of_all test c ds (second_true (test d) (list_all test ds) all) one

-- what is known of the lexeme that a token took
abbrev pub Took : Terminal → Lexeme → Type 0
Took t l = IsLexeme l × (sameb the_type t T.TypesEnd ≡ false → has_class t l.class ≡ true)

-- a token that takes identifiers alone
abbrev pub TakesNames : Terminal → Type 0
TakesNames t = (list_all (has_class T.Identifier) (classes t) ≡ true) × (sameb the_type t T.TypesEnd ≡ false)

-- an identifier's name has its class
pub classed : (t : Terminal) (l : Lexeme) → TakesNames t → Took t l → has_class t (class_named (name_in l.content) C.Other) ≡ true
classed t l names took =
    let has : has_class t l.class ≡ true = took.1 names.1 in
    let e : class_named (name_in l.content) C.Other ≡ l.class = took.0.0 (of_all (has_class T.Identifier) l.class (classes t) names.0 (one_of t l.class has)) in
    ap (has_class t) e ∙ has

pub name_is : (t : Terminal) (l : Lexeme) → TakesNames t → Took t l → IsName (name_in l.content)
name_is t l names took =
    of_all (has_class T.Identifier) (class_named (name_in l.content) C.Other) (classes t) names.0
    (one_of t (class_named (name_in l.content) C.Other) (classed t l names took))

abbrev pub is_not_mem : Class → Bool
is_not_mem c = not (has_class T.Mem c)

-- a name other than `mem`
pub not_mem : (t : Terminal) (l : Lexeme) → TakesNames t → list_all is_not_mem (classes t) ≡ true → Took t l → class_named (name_in l.content) C.Other ≡ C.Mem → ⊥
not_mem t l names none took e =
    let other : is_not_mem (class_named (name_in l.content) C.Other) ≡ true =
    of_all is_not_mem (class_named (name_in l.content) C.Other) (classes t) none
    (one_of t (class_named (name_in l.content) C.Other) (classed t l names took)) in
    let same : is_not_mem (class_named (name_in l.content) C.Other) ≡ false = ap is_not_mem e in
    cc
