-- Patterns of a spelled program that fit what they meet.
use Rattle.std.specs.Prelude.{ℕ, length, slice_get, Bool, true, false, suc, Option, Some, None, List, [], ◌∷◌, is_none, ◌≡◌, ⊤}
use Rattle.aen_base.specs.Numbers.{in_range}
use Rattle.type_rules.specs.FitsCalls.{are_distinct, is_variant}
use Rattle.type_rules.specs.Fields.{fields_of}
use Rattle.core_ty.specs.Shape.{is_copy}
use Rattle.type_rules.specs.Frames.{Found, Frame, Same, field_at}
use Rattle.type_rules.specs.TypeFacts.{count}
use Rattle.rust_ast.specs.SpelledPatterns as q
use Rattle.rust_ast.specs.Spelled as s
use Rattle.core_ty.specs.Types as t

-- what a name of this type takes of a part; nothing is moved from behind a reference
abbrev pub Takes : Bool → Option t.Ty → q.Mode → t.Ty → Type 0
Takes behind None m x = ⊥
Takes behind (Some y) q.copy x = Same y x × (is_copy x ≡ true)
Takes behind (Some y) q.move x = Same y x × (is_copy x ≡ false) × (behind ≡ false)
Takes behind (Some (t.ref r true y)) (q.refer true) x = Same y x
Takes behind (Some (t.ref r false y)) (q.refer false) x = Same y x
Takes behind (Some y) (q.refer m) x = ⊥

abbrev pub field_numbers : q.FieldPats → List ℕ
field_numbers q.no_fieldpats = []
field_numbers (q.more_fieldpats k p ps) = k ∷ field_numbers ps

abbrev pub arguments_of : t.Ty → List t.Ty
arguments_of (t.named d args) = t.tys_list args
arguments_of x = []

abbrev pub IsDeclared : ℕ → t.Ty → Type 0
IsDeclared d (t.named e args) = d ≡ e.0
IsDeclared d x = ⊥

abbrev pub IsTuple : ℕ → t.Ty → Type 0
IsTuple n t.unit = n ≡ 0
IsTuple n (t.tuple xs) = n ≡ count xs
IsTuple n x = ⊥

abbrev pub pat_count : q.Pats → ℕ
pat_count q.no_pats = 0
pat_count (q.more_pats x xs) = suc (pat_count xs)

abbrev pub tuple_parts : t.Ty → List t.Ty
tuple_parts (t.tuple xs) = t.tys_list xs
tuple_parts x = []

abbrev pub referent : Bool → t.Ty → Option t.Ty
referent true (t.ref r true x) = Some x
referent false (t.ref r false x) = Some x
referent m x = None

abbrev mutual
  -- a pattern fits what it meets, which may stand behind a reference
  pub PatFits : Frame → Bool → q.Pat → Option t.Ty → Type 0
  PatFits c behind q.wild o = ⊤
  PatFits c behind (q.bind p k m) None = ⊥
  PatFits c behind (q.bind p k m) (Some x) = Takes behind (slice_get c.types k) m x
  PatFits c behind (q.number n) o = Found o (t.int n.ty) × (in_range n.ty n.value ≡ true)
  PatFits c behind (q.truth b) o = Found o t.bool
  PatFits c behind (q.tuple ps) None = ⊥
  PatFits c behind (q.tuple ps) (Some x) = IsTuple (pat_count ps) x × PatsFit c behind ps (tuple_parts x)
  PatFits c behind (q.construct d v ps) None = ⊥
  PatFits c behind (q.construct d v ps) (Some x) =
      IsDeclared d.0 x × (is_variant (slice_get c.decls d.0) v ≡ true) × (length (field_numbers ps) ≡ length (fields_of c.decls d.0 v))
      × (are_distinct (field_numbers ps) ≡ true) × FieldPatsFit c behind d.0 v (arguments_of x) ps
  PatFits c behind (q.through m p) None = ⊥
  PatFits c behind (q.through m p) (Some x) = PatFits c true p (referent m x)

  pub PatsFit : Frame → Bool → q.Pats → List t.Ty → Type 0
  PatsFit c behind q.no_pats xs = ⊤
  PatsFit c behind (q.more_pats p ps) [] = ⊥
  PatsFit c behind (q.more_pats p ps) (x ∷ xs) = PatFits c behind p (Some x) × PatsFit c behind ps xs

  pub FieldPatsFit : Frame → Bool → ℕ → ℕ → List t.Ty → q.FieldPats → Type 0
  FieldPatsFit c behind d v args q.no_fieldpats = ⊤
  FieldPatsFit c behind d v args (q.more_fieldpats k p ps) =
      PatFits c behind p (field_at c.decls d v args k) × FieldPatsFit c behind d v args ps

abbrev pub NamesFit : Frame → s.Variables → Type 0
NamesFit c s.no_variables = ⊤
NamesFit c (s.more_variables k ks) = (is_none (slice_get c.types k) ≡ false) × NamesFit c ks
