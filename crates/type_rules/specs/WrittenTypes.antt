-- A written type as a type, or the first fault in it (LANGUAGE.md, "Types", "Regions").
use Rattle.std.specs.Prelude.{Bool, true, Result, Ok, ℕ, ◌+◌, ◌==◌, not, Option, Some, None, List, unwrap_or, length, slice_get, is_none}
use Rattle.aen_base.specs.declared.ids.RegionId.{RegionId}
use Rattle.type_rules.specs.Faults.{Fault, and_then, limited, refuse}
use Rattle.type_rules.specs.TypeFacts.{is_large}
use Rattle.type_rules.specs.declared.fault.KindOfFault.TheVariants.{NestedBorrow, NoRegion, Arity}
use Rattle.core_ty.specs.Types as t
use Rattle.rust_ast.specs.Written as w

-- what lifetimes mean where a type stands: nothing; each elided one is a new region; an elided one
-- is the region given, or a fault
pub data Standing : Type 0 where
  plain : Standing
  input : Standing
  output : Option ℕ → Standing

-- the region of a reference, where it has one, and the next new region
abbrev pub region_of : Standing → w.Lifetime → ℕ → Option ℕ
region_of plain l next = Some 0
region_of input w.elided next = Some next
region_of input (w.declared k) next = Some k
region_of input w.undeclared next = None
region_of (output one) w.elided next = one
region_of (output one) (w.declared k) next = Some k
region_of (output one) w.undeclared next = None

abbrev pub next_region : Standing → w.Lifetime → ℕ → ℕ
next_region plain l next = next
next_region input w.elided next = next + 1
next_region input (w.declared k) next = next
next_region input w.undeclared next = next
next_region (output one) l next = next

abbrev pub to_region : Option ℕ → RegionId
to_region o = record { 0 = unwrap_or o 0 }

-- a type and the next new region
abbrev pub Typing : Type 0
Typing = Result (t.Ty × ℕ) Fault

abbrev pub as_type : t.Ty → ℕ → Typing
as_type x next = limited (is_large x) (Ok (x, next))

abbrev mutual
  -- a written type; `inside` a declared type, Box, type argument or reference no borrow may stand
  pub written : List ℕ → Standing → Bool → w.Written → ℕ → Typing
  written ns p inside (w.int s i) next = as_type (t.int i) next
  written ns p inside (w.bool s) next = as_type t.bool next
  written ns p inside (w.unit s) next = as_type t.unit next
  written ns p inside (w.tuple s xs) next =
      and_then (written_all ns p inside xs next) (λ r. as_type (t.tuple r.0) r.1)
  written ns p inside (w.boxed s x) next =
      and_then (written ns p true x next) (λ r. as_type (t.boxed r.0) r.1)
  written ns p inside (w.ref s l m x) next =
      and_then (written ns p true x next) (λ r.
      refuse inside s NestedBorrow (
      refuse (is_none (region_of p l r.1)) s NoRegion (
      as_type (t.ref (to_region (region_of p l r.1)) m r.0) (next_region p l r.1))))
  written ns p inside (w.named s d xs) next =
      and_then (written_all ns p true xs next) (λ r.
      refuse (not (length (t.tys_list r.0) == unwrap_or (slice_get ns d.0) 0)) s Arity (
      as_type (t.named d r.0) r.1))
  written ns p inside (w.param s k xs) next =
      and_then (written_all ns p true xs next) (λ r.
      refuse (not (length (t.tys_list r.0) == 0)) s Arity (
      as_type (t.param k) r.1))

  -- from left to right
  pub written_all : List ℕ → Standing → Bool → w.Writtens → ℕ → Result (t.Tys × ℕ) Fault
  written_all ns p inside w.no_writtens next = Ok (t.no_tys, next)
  written_all ns p inside (w.more_writtens x xs) next =
      and_then (written ns p inside x next) (λ r.
      and_then (written_all ns p inside xs r.1) (λ q. Ok (t.more_tys r.0 q.0, q.1)))
