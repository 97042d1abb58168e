-- Lexemes that say what is lexed as itself, and what tokens of the grammar take of them.
use Rattle.std.proofs.Common.{◌≡◌, refl, ap, ◌∙◌, inl, inr, Bool, true, false, ◌||◌, List, [], ◌∷◌}
use Rattle.std.specs.Prelude.{if◌then◌else◌}
use Rattle.std.specs.List.{list_any, list_all}
use denote.Enum.Bare.{sameb, same_true}
use Rattle.table_reader.specs.Derivations.{IsOneOf}
use Rattle.rust_ast.specs.SourceTypes as t
use Rattle.source_grammar.specs.declared.class.Class.{Class}
use Rattle.source_grammar.specs.declared.class.Class.TheVariants as C
use Rattle.source_grammar.specs.contracts.class.Class as cls
use Rattle.source_grammar.specs.declared.lexeme.Lexeme.{Lexeme}
use Rattle.source_grammar.specs.declared.terminal.Terminal.{Terminal}
use Rattle.source_grammar.specs.declared.terminal.Terminal.TheVariants as T
use Rattle.source_grammar.specs.contracts.terminal.Terminal.{the_type}
use Rattle.source_grammar.specs.Classes.{classes}
use Rattle.source_grammar.specs.Lexemes.{has_class}
use Rattle.source_ways.specs.Says.{name_in, number_in, is_class, ident, lifetime}
use Rattle.print_lexed.proofs.Blanks.{and_first, and_second}
use Rattle.print_lexed.proofs.Spellable.{IsName, IsPlace, IsLife, IsLifetime, IsSize}

-- by its class
pub record IsProper (l : Lexeme) : Type 0 where
  pub name : has_class T.Identifier l.class ≡ true → IsName (name_in l.content)
  pub life : has_class T.Lifetime l.class ≡ true → IsLife (name_in l.content)
  pub digits : has_class T.Digits l.class ≡ true → IsPlace (name_in l.content)
  pub size : IsSize (number_in l.content).0

abbrev pub AreProper : List Lexeme → Type 0
AreProper [] = Unit {0}
AreProper (l ∷ ls) = IsProper l × AreProper ls

-- ---- the classes of a token

pub no_true : {A : Type 0} (b : Bool) → b ≡ false → b ≡ true → A
no_true true p q = absurd cc
no_true false p q = absurd cc

one_by : (b : Bool) (c d : Class) (ds : List Class) → sameb cls.the_type c d ≡ b → (list_any (sameb cls.the_type c) ds ≡ true → IsOneOf c ds) →
    b || list_any (sameb cls.the_type c) ds ≡ true → IsOneOf c (d ∷ ds)
one_by true c d ds e f h = inl (same_true cls.the_type tt c d e)
one_by false c d ds e f h = inr (f h)

one_among : (c : Class) (cs : List Class) → list_any (sameb cls.the_type c) cs ≡ true → IsOneOf c cs
one_among c [] h = absurd cc
one_among c (d ∷ ds) h = one_by (sameb cls.the_type c d) c d ds refl (λ k. one_among c ds k) h

pub one_of : (t : Terminal) (c : Class) → has_class t c ≡ true → IsOneOf c (classes t)
one_of t c h = one_among c (classes t) h

-- what holds of all classes of a list
pub of_all : (test : Class → Bool) (c : Class) (cs : List Class) → list_all test cs ≡ true → IsOneOf c cs → test c ≡ true
of_all test c [] all one = absurd one
of_all test c (d ∷ ds) all (inl e) = ap test e ∙ and_first (test d) (list_all test ds) all
of_all test c (d ∷ ds) all (inr one) = of_all test c ds (and_second (test d) (list_all test ds) all) one

-- ---- what a token takes

abbrev pub Took : Terminal → Lexeme → Type 0
Took t l = IsProper l × (sameb the_type t T.TypesEnd ≡ false → has_class t l.class ≡ true)

-- a token that takes identifiers alone
abbrev pub TakesNames : Terminal → Type 0
TakesNames t = (list_all (has_class T.Identifier) (classes t) ≡ true) × (sameb the_type t T.TypesEnd ≡ false)

pub name_is : (t : Terminal) (l : Lexeme) → TakesNames t → Took t l → IsName (name_in l.content)
name_is t l names took = took.0.name (of_all (has_class T.Identifier) l.class (classes t) names.0 (one_of t l.class (took.1 names.1)))

pub place_is : (t : Terminal) (l : Lexeme) → TakesNames t → Took t l → IsPlace (name_in l.content)
place_is t l names took = (name_is t l names took).1

pub digits_are : (l : Lexeme) → Took T.Digits l → IsPlace (name_in l.content)
digits_are l took = took.0.digits (took.1 refl)

pub life_is : (l : Lexeme) → Took T.Lifetime l → IsLife (name_in l.content)
life_is l took = took.0.life (took.1 refl)

pub lifetime_is : (l : Lexeme) → Took T.AnyLifetime l → IsLifetime (lifetime l)
lifetime_is l took = by_class (one_of T.AnyLifetime l.class (took.1 refl)) where
  by_test : (b : Bool) → is_class l.class C.Elided ≡ b → (b ≡ false → IsLife (name_in l.content)) → IsLifetime (if b then t.elided else t.lifetime (ident l))
  by_test true e f = tt
  by_test false e f = f refl

  by_class : IsOneOf l.class (classes T.AnyLifetime) → IsLifetime (lifetime l)
  by_class (inl e) = by_test (is_class l.class C.Elided) refl (λ h. took.0.life (ap (has_class T.Lifetime) e))
  by_class (inr (inl e)) = by_test (is_class l.class C.Elided) refl (λ h. no_true (is_class l.class C.Elided) h (ap (λ (c : Class). is_class c C.Elided) e))
  by_class (inr (inr h)) = absurd h

pub size_is : (l : Lexeme) → Took T.Integer l → IsSize (number_in l.content).0
size_is l took = took.0.size
