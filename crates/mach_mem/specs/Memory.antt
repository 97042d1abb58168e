-- A memory: the declared types of its program, and a list of cells (LANGUAGE.md, "Memory").
use Rattle.std.specs.Prelude.{ℕ, zero, suc, List, [], ◌∷◌, ◌++◌, slice_get, slice_set, Option, Some, None}
use Rattle.std.specs.Option.{option_map, option_and_then, unwrap_or}
use Rattle.std.specs.Coded.{Coded, coded×, coded_list, coded_option, code_by}
use Rattle.std.proofs.Common.{refl}
use Rattle.core_ty.specs.declared.decl.TypeDecl.{TypeDecl}
use Rattle.core_ty.specs.contracts.decl.TypeDecl as type_decl
use Rattle.mach_mem.specs.Addresses.{CellNumber, Path, Address}
use Rattle.mach_mem.specs.Trees.{MTree, tuple, ctor, MTrees, no_mtrees, more_mtrees, coded_mtree}

-- a cell: None where it is gone, Some None where it is empty, Some (Some t) where it holds the tree t
abbrev pub Slot : Type 0
Slot = Option (Option MTree)

pub record Memory : Type 0 where
  pub decls : List TypeDecl
  pub cells : List Slot

abbrev pub coded_memory : Coded Memory
coded_memory = code_by (List TypeDecl × List Slot) (coded× (coded_list type_decl.the_row.coded) (coded_list (coded_option (coded_option coded_mtree))))
    (λ m. (m.decls, m.cells)) (λ p. record { decls = p.0; cells = p.1 }) (λ _. refl)

-- a tree without parts
abbrev pub unit : MTree
unit = tuple no_mtrees

abbrev pub nth : MTrees → ℕ → Option MTree
nth no_mtrees k = None
nth (more_mtrees t ts) zero = Some t
nth (more_mtrees t ts) (suc k) = nth ts k

abbrev pub set_nth : MTrees → ℕ → MTree → Option MTrees
set_nth no_mtrees k x = None
set_nth (more_mtrees t ts) zero x = Some (more_mtrees x ts)
set_nth (more_mtrees t ts) (suc k) x = option_map (more_mtrees t) (set_nth ts k x)

-- a part of a tree
abbrev pub child : ℕ → MTree → Option MTree
child k (tuple ts) = nth ts k
child k (ctor d v ts) = nth ts k
child k t = None

-- the tree with another part in its place
abbrev pub set_child : ℕ → MTree → MTree → Option MTree
set_child k x (tuple ts) = option_map tuple (set_nth ts k x)
set_child k x (ctor d v ts) = option_map (ctor d v) (set_nth ts k x)
set_child k x t = None

-- what a cell holds, where there is such a cell
abbrev pub held : Option Slot → Option MTree
held None = None
held (Some None) = None
held (Some (Some o)) = o

abbrev pub read_at : Memory → CellNumber → Path → Option MTree
read_at m c [] = held (slice_get m.cells c)
read_at m c (k ∷ path) = option_and_then (child k) (read_at m c path)

-- what stands at an address
abbrev pub read : Memory → Address → Option MTree
read m at = read_at m at.0 at.1

abbrev pub with_cells : Memory → List Slot → Memory
with_cells m cells = record { decls = m.decls; cells = cells }

-- the memory with this tree in a cell that is there
abbrev pub fill : Memory → CellNumber → MTree → Option Slot → Option Memory
fill m c t None = None
fill m c t (Some None) = None
fill m c t (Some (Some o)) = Some (with_cells m (slice_set m.cells c (Some (Some t))))

abbrev pub write_at : Memory → CellNumber → Path → MTree → Option Memory
write_at m c [] t = fill m c t (slice_get m.cells c)
write_at m c (k ∷ path) t = option_and_then (write_at m c path) (option_and_then (set_child k t) (read_at m c path))

-- the memory with this tree at the address: a whole cell may be empty, all else must be there
abbrev pub write : Memory → Address → MTree → Option Memory
write m at t = write_at m at.0 at.1 t

-- what a write hands back: what stood there, or `()` where the cell was empty
abbrev pub stood : Memory → Address → MTree
stood m at = unwrap_or (read m at) unit

-- a fresh cell has the number of cells that there ever were
abbrev pub with_fresh : Option MTree → Memory → Memory
with_fresh o m = with_cells m (m.cells ++ Some o ∷ [])

-- these cells are gone from then on
abbrev pub without : List CellNumber → Memory → Memory
without [] m = m
without (c ∷ cs) m = without cs (with_cells m (slice_set m.cells c None))
