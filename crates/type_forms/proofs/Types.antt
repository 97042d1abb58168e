-- The types of values in a list.
use Rattle.std.proofs.Common.{◌≡◌, ℕ, ◌≤◌, List, [], ◌∷◌, ◌++◌, drop, length, map, refl, ap, sym, ◌∙◌}
use Rattle.std.proofs.lemmas.List.{append-nil, drop_all}
use Rattle.rust_ast.specs.Spelled as s
use Rattle.type_rules.specs.Operands.{types_of}
use Rattle.type_rules.specs.Places.{type_of}
use Rattle.core_ty.specs.Types as t

types_are : (vs : List s.Val) → t.tys (map type_of vs) ≡ types_of (s.values vs)
types_are [] = refl
types_are (v ∷ vs) = ap (t.more_tys (type_of v)) (types_are vs)

-- those of all values
pub all_types : (ts : List t.Ty) (vs : List s.Val) (n : ℕ) → ts ++ map type_of (drop n vs) ≡ map type_of vs → length vs ≤ n → t.tys ts ≡ types_of (s.values vs)
all_types ts vs n h l =
    ap t.tys (sym (append-nil ts) ∙ ap (λ ws. ts ++ map type_of ws) (sym (drop_all n vs l)) ∙ h) ∙ types_are vs
