-- What coverage asks of patterns: those of a tuple have as many parts as the type, those of a variant
-- stand at a type that is declared and name each field once at most.
use Rattle.std.specs.Prelude.{ℕ, true, Option, Some, None, List, [], ◌∷◌, ◌≡◌, ⊤}
use Rattle.core_ty.specs.declared.decl.TypeDecl.{TypeDecl}
use Rattle.type_rules.specs.FitsCalls.{are_distinct}
use Rattle.type_rules.specs.FitsPatterns.{IsDeclared, IsTuple, arguments_of, field_numbers, pat_count, tuple_parts}
use Rattle.type_rules.specs.Frames.{field_at}
use Rattle.type_rules.specs.Skeletons.{content}
use Rattle.rust_ast.specs.SpelledPatterns as q
use Rattle.core_ty.specs.Types as t

abbrev mutual
  -- of a field that a type doesn't have only what meets all is a pattern
  pub Suits : List TypeDecl → q.Pat → Option t.Ty → Type 0
  Suits ds q.wild o = ⊤
  Suits ds (q.bind s k m) o = ⊤
  Suits ds (q.number n) None = ⊥
  Suits ds (q.number n) (Some x) = ⊤
  Suits ds (q.truth b) None = ⊥
  Suits ds (q.truth b) (Some x) = ⊤
  Suits ds (q.tuple ps) None = ⊥
  Suits ds (q.tuple ps) (Some x) = IsTuple (pat_count ps) x × AllSuit ds ps (tuple_parts x)
  Suits ds (q.construct d v ps) None = ⊥
  Suits ds (q.construct d v ps) (Some x) =
      IsDeclared d.0 x × (are_distinct (field_numbers ps) ≡ true) × FieldsSuit ds d.0 v (arguments_of x) ps
  Suits ds (q.through m p) None = ⊥
  Suits ds (q.through m p) (Some x) = Suits ds p (Some (content x))

  pub AllSuit : List TypeDecl → q.Pats → List t.Ty → Type 0
  AllSuit ds q.no_pats xs = ⊤
  AllSuit ds (q.more_pats p ps) [] = ⊥
  AllSuit ds (q.more_pats p ps) (x ∷ xs) = Suits ds p (Some x) × AllSuit ds ps xs

  pub FieldsSuit : List TypeDecl → ℕ → ℕ → List t.Ty → q.FieldPats → Type 0
  FieldsSuit ds d v args q.no_fieldpats = ⊤
  FieldsSuit ds d v args (q.more_fieldpats k p ps) = Suits ds p (field_at ds d v args k) × FieldsSuit ds d v args ps

-- all these patterns suit the type
abbrev pub PatternsSuit : List TypeDecl → List q.Pat → t.Ty → Type 0
PatternsSuit ds [] x = ⊤
PatternsSuit ds (p ∷ ps) x = Suits ds p (Some x) × PatternsSuit ds ps x
