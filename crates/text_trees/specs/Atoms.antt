-- What atoms come to, step by step, and parts of atoms on a stack.
use Rattle.std.specs.Prelude.{ℕ, ◌+◌, List, [], ◌∷◌, ◌++◌, length, Option, Some, None, Result, Ok}
use Rattle.aen_base.specs.declared.span.Span.{Span}
use Rattle.pure_ast.specs.declared.ctor.CtorId.{CtorId}
use Rattle.pure_ast.specs.Terms as term
use Rattle.pure_ast.specs.Terms.{Term, terms}
use Rattle.raw_ast.specs.declared.names.Constructor.{Constructor}
use Rattle.raw_ast.specs.Atoms as a
use Rattle.raw_ast.specs.Atoms.{RawAtom, RawAtoms, rawatoms, rawatoms_list, nodes_rawatom, nodes_rawatoms}
use Rattle.raw_meaning.specs.declared.outline.Outline.{Outline}
use Rattle.text_trees.specs.declared.atoms.AtomFrame.{AtomFrame}
use Rattle.text_trees.specs.declared.atoms.AtomStep.{AtomStep}
use Rattle.text_trees.specs.declared.atoms.AtomStep.TheVariants.{Whole, Within}
use Rattle.text_trees.specs.Nodes.{variable, number, constructor}
use Rattle.text_trees.specs.Told.{and_then, on_ok}

-- a tuple, or a constructor with its parts
abbrev pub made : Option CtorId → List Term → Term
made None parts = term.tuple (terms parts)
made (Some k) parts = term.built k (terms parts)

abbrev mutual
  pub atom_told : Outline → RawAtom → Result Term Span
  atom_told h (a.var s) = on_ok (λ k. term.var k) (variable s)
  atom_told h (a.literal s i) = on_ok (λ n. term.literal n) (number s i)
  atom_told h (a.truth b) = Ok (term.truth b)
  atom_told h (a.tuple parts) = on_ok (made None) (atoms_told h parts)
  atom_told h (a.built name parts) = and_then (constructor h name (length (rawatoms_list parts))) (λ k. on_ok (made (Some k)) (atoms_told h parts))

  pub atoms_told : Outline → RawAtoms → Result (List Term) Span
  atoms_told h a.no_rawatoms = Ok []
  atoms_told h (a.more_rawatoms x rest) = and_then (atom_told h x) (λ y. on_ok (λ ys. y ∷ ys) (atoms_told h rest))

-- a constructor with these parts
abbrev pub built_told : Outline → Constructor → List RawAtom → Result Term Span
built_told h name parts = and_then (constructor h name (length parts)) (λ k. on_ok (made (Some k)) (atoms_told h (rawatoms parts)))

-- ---- on a stack

-- parts, of which these are told
abbrev pub listed : Outline → Option CtorId → List RawAtom → List Term → Result Term Span
listed h head left done = on_ok (λ ys. made head (done ++ ys)) (atoms_told h (rawatoms left))

-- what waits for an atom in it
abbrev pub frame_told : Outline → AtomFrame → Term → Result Term Span
frame_told h f x = listed h f.head f.left.now (f.done ++ x ∷ [])

abbrev pub step_told : Outline → AtomStep → Result Term Span
step_told h (Whole x) = Ok x
step_told h (Within frame part) = and_then (atom_told h part.now) (frame_told h frame)

-- how much is left to do
abbrev pub frame_cost : AtomFrame → ℕ
frame_cost f = nodes_rawatoms (rawatoms f.left.now)

abbrev pub step_cost : AtomStep → ℕ
step_cost (Whole x) = 0
step_cost (Within frame part) = frame_cost frame + nodes_rawatom part.now
