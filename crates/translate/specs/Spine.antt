-- An expression along its left sides: what it adds, and how large its parts are (TEXT.md, "Code").
use Rattle.std.specs.Prelude.{ℕ, ◌<◌, List, [], slice_get}
use Rattle.sums_ast.specs.Tree.{Expr, exprs, nodes_exprs}
use Rattle.source_meaning.specs.Spine.{after_rights}
pub use Rattle.source_meaning.specs.Spine.{AreBelow}
use Rattle.translate.specs.declared.atom.Atom.{Atom}
use Rattle.translate.specs.declared.spine.First.{First}
use Rattle.translate.specs.declared.spine.First.TheVariants as F
use Rattle.translate.specs.declared.spine.Right.{Right}
use Rattle.translate.specs.declared.spine.Spine.{Spine}
pub use Rattle.translate.specs.Emit.{emit}
use Rattle.translate.specs.Emit.{known, Emitted, with_right, called, emit_all}

abbrev pub atom_at : List Atom → ℕ → Atom
atom_at atoms k = known (slice_get atoms k)

abbrev pub first_emitted : ℕ → List Atom → First → Emitted
first_emitted n atoms (F.Atom a) = record { comps = []; atom = a }
first_emitted n atoms (F.Call f args) = called n f.0 (emit_all n atoms (exprs args.now))

abbrev pub right_side : Right → Expr
right_side r = r.side.now

-- an operator with its right side after what was emitted for the left side
abbrev pub with_side : ℕ → List Atom → Right → Emitted → Emitted
with_side n atoms r left = with_right n r.op left (λ m. emit m atoms r.side.now)

-- the operators after what was emitted for the left side, the last of them first
abbrev pub rights_emitted : ℕ → List Atom → Emitted → List Right → Emitted
rights_emitted n atoms left rights = after_rights (with_side n atoms) left rights

abbrev pub spine_emitted : ℕ → List Atom → Spine → Emitted
spine_emitted n atoms s = rights_emitted n atoms (first_emitted n atoms s.first) s.rights

-- how many nodes the arguments have
abbrev pub first_nodes : First → ℕ
first_nodes (F.Atom a) = 0
first_nodes (F.Call f args) = nodes_exprs (exprs args.now)

-- the parts are smaller than this number
pub record IsBelow (n : ℕ) (s : Spine) : Type 0 where
  pub first : first_nodes s.first < n
  pub rights : AreBelow right_side n s.rights
