-- Atoms are told one by one, and nothing stands behind no items.
use Rattle.std.proofs.Common.{◌≡◌, List, [], ◌∷◌, refl, ap}
use Rattle.std.specs.Prelude.{Result, Ok, Err}
use Rattle.aen_base.specs.declared.span.Span.{Span}
use Rattle.raw_ast.specs.Atoms.{RawAtom, rawatoms}
use Rattle.raw_meaning.specs.declared.outline.Outline.{Outline}
use Rattle.text_trees.specs.Atoms.{atom_told, atoms_told}
use Rattle.text_trees.specs.Told.{and_then, on_ok, each, behind}

-- atoms are told one by one
pub each_atom : (h : Outline) (xs : List RawAtom) → atoms_told h (rawatoms xs) ≡ each (atom_told h) xs
each_atom h [] = refl
each_atom h (x ∷ xs) = ap (λ o. and_then (atom_told h x) (λ y. on_ok (λ ys. y ∷ ys) o)) (each_atom h xs)

pub behind_nothing : {B : Type 0} (o : Result (List B) Span) → behind [] o ≡ o
behind_nothing (Ok ys) = refl
behind_nothing (Err place) = refl
