-- Tokens without a class in common take no lexeme both.
use Rattle.std.specs.Prelude.{◌≡◌, refl, Bool, true, false, not, ◌&&◌, ◌||◌, if◌then◌else◌, List, [], ◌∷◌}
use Rattle.std.specs.List.{list_any, list_all}
use Rattle.std.proofs.Common.{ap, sym, ◌∙◌}
use denote.Enum.Bare.{sameb, same_true}
use Rattle.table_reader.specs.Conditions.{accepts}
use Rattle.table_reader.specs.declared.take.Take.{Take}
use Rattle.table_reader.specs.declared.take.Take.TheVariants as K
use Rattle.source_grammar.specs.declared.class.Class.{Class}
use Rattle.source_grammar.specs.declared.lexeme.Lexeme.{Lexeme}
use Rattle.source_grammar.specs.declared.terminal.Terminal.{Terminal}
use Rattle.source_grammar.specs.declared.terminal.Terminal.TheVariants as T
use Rattle.source_grammar.specs.contracts.class.Class as cls
use Rattle.source_grammar.specs.contracts.terminal.Terminal.{the_type}
use Rattle.source_grammar.specs.Classes.{classes}
use Rattle.source_grammar.specs.Lexemes.{takes, end_of_types, has_class}

abbrev pub disjoint : List Class → List Class → Bool
disjoint cs ds = list_all (λ c. not (list_any (sameb cls.the_type c) ds)) cs

-- no class in common
abbrev pub apart : Terminal → Terminal → Bool
apart t u = disjoint (classes t) (classes u)

abbrev pub same : Terminal → Terminal → Bool
same t u = sameb the_type t u

pub same_right : (t u : Terminal) → same t u ≡ true → t ≡ u
same_right t u h = same_true the_type tt t u h

both_true : (a b : Bool) → a && b ≡ true → (a ≡ true) × (b ≡ true)
both_true true b h = (refl, h)
both_true false b h = absurd cc

opposed : (b : Bool) → not b ≡ true → b ≡ true → ⊥
opposed true h g = cc
opposed false h g = cc

outside_by : (b : Bool) (l c : Class) (cs ds : List Class) → sameb cls.the_type l c ≡ b → not (list_any (sameb cls.the_type c) ds) && disjoint cs ds ≡ true →
    (disjoint cs ds ≡ true → list_any (sameb cls.the_type l) cs ≡ true → ⊥) → b || list_any (sameb cls.the_type l) cs ≡ true → list_any (sameb cls.the_type l) ds ≡ true → ⊥
outside_by true l c cs ds e h f a g =
    opposed (list_any (sameb cls.the_type c) ds) (both_true (not (list_any (sameb cls.the_type c) ds)) (disjoint cs ds) h).0
    (ap (λ (x : Class). list_any (sameb cls.the_type x) ds) (sym (same_true cls.the_type tt l c e)) ∙ g)
outside_by false l c cs ds e h f a g = f (both_true (not (list_any (sameb cls.the_type c) ds)) (disjoint cs ds) h).1 a

outside : (l : Class) (cs ds : List Class) → disjoint cs ds ≡ true → list_any (sameb cls.the_type l) cs ≡ true → list_any (sameb cls.the_type l) ds ≡ true → ⊥
outside l [] ds h a g = cc
outside l (c ∷ cs) ds h a g = outside_by (sameb cls.the_type l c) l c cs ds refl h (λ i b. outside l cs ds i b g) a g

accepted_by : (b : Bool) (k : Take Lexeme) → accepts (if b then k else K.No) ≡ true → b ≡ true
accepted_by true k h = refl
accepted_by false k h = absurd cc

pub apart_right : (t u : Terminal) (l : Lexeme) → apart t u ≡ true → accepts (takes t l) ≡ true → accepts (takes u l) ≡ true → ⊥
apart_right t u l h a b =
    outside l.class (classes t) (classes u) h
    (accepted_by (has_class t l.class) (if same t T.TypesEnd then end_of_types l else K.Whole) a)
    (accepted_by (has_class u l.class) (if same u T.TypesEnd then end_of_types l else K.Whole) b)
