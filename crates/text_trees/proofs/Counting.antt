-- The parts of a type or an atom are as many as the items of their list.
use Rattle.std.proofs.Common.{◌≡◌, ℕ, ◌<◌, List, [], ◌∷◌, length, ap, arith}
use Rattle.std.specs.Prelude.{Some}
use Rattle.raw_ast.specs.declared.names.Constructor.{Constructor}
use Rattle.raw_ast.specs.declared.spelling.Spelling.{Spelling}
use Rattle.raw_ast.specs.Atoms.{RawAtom, built, rawatoms, rawatoms_back}
use Rattle.raw_ast.specs.Types.{RawType, named, rawtypes, rawtypes_back, nodes_rawtypes}
use Rattle.raw_meaning.specs.declared.outline.Outline.{Outline}
use Rattle.text_trees.specs.Atoms as a
use Rattle.text_trees.specs.Nodes.{type_name, constructor}
use Rattle.text_trees.specs.Told.{and_then, on_ok}
use Rattle.text_trees.specs.Types as t

pub named_is : (h : Outline) (ps : List (List ℕ)) (s : Spelling) (args : List RawType) → t.type_told h ps (named s (rawtypes args)) ≡ t.named_told h ps s args
named_is h ps s args =
    ap (λ (xs : List RawType). and_then (type_name h ps s (length xs)) (λ m. t.by_name m (t.types_told h ps (rawtypes args)))) (rawtypes_back args)

pub built_is : (h : Outline) (name : Constructor) (parts : List RawAtom) → a.atom_told h (built name (rawatoms parts)) ≡ a.built_told h name parts
built_is h name parts =
    ap (λ (xs : List RawAtom). and_then (constructor h name (length xs)) (λ k. on_ok (a.made (Some k)) (a.atoms_told h (rawatoms parts)))) (rawatoms_back parts)

pub some_nodes : (args : List RawType) → 0 < nodes_rawtypes (rawtypes args)
some_nodes [] = omega arith
some_nodes (x ∷ args) = omega arith
