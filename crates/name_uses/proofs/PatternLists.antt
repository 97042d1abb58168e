-- To resolve a list of patterns is to resolve each of them.
use Rattle.std.proofs.Common.{◌≡◌, Bool, List, [], ◌∷◌, refl}
use Rattle.rust_ast.specs.SourcePatterns as s
use Rattle.rust_ast.specs.Patterns as p
use Rattle.name_tables.specs.declared.tables.Tables.{Tables}
use Rattle.name_tables.specs.declared.tables.Generics.{Generics}
use Rattle.name_uses.specs.PatternUses.{read_pat, read_pats, read_field, read_fields}
use Rattle.name_uses.specs.Scopes.{State}
use Rattle.name_uses.specs.Walks.{on_ok, walk, in_form}
use Rattle.name_uses.proofs.Walking.{walk_form}

pub walk_pats : (t : Tables) (g : Generics) (late : Bool) (xs : List s.Pat) (st : State) →
    read_pats t g late (s.pats xs) st ≡ on_ok (in_form p.pats) (walk (read_pat t g late) xs st)
walk_pats t g late [] st = refl
walk_pats t g late (x ∷ xs) st =
    walk_form p.more_pats p.pats (λ y ys. refl) (read_pat t g late x st) (read_pats t g late (s.pats xs)) (walk (read_pat t g late) xs) (walk_pats t g late xs)

pub walk_fields : (t : Tables) (g : Generics) (late : Bool) (xs : List s.FieldPat) (st : State) →
    read_fields t g late (s.fieldpats xs) st ≡ on_ok (in_form p.fieldpats) (walk (read_field t g late) xs st)
walk_fields t g late [] st = refl
walk_fields t g late (x ∷ xs) st =
    walk_form (λ y ys. p.more_fieldpats y.0 y.1 y.2 ys) p.fieldpats (λ y ys. refl) (read_field t g late x st) (read_fields t g late (s.fieldpats xs)) (walk (read_field t g late) xs) (walk_fields t g late xs)
