use Rattle.std.proofs.Common.{◌≡◌, drop}
use Rattle.std.specs.List.{list_all}
use Rattle.rust_sums.specs.Sums.{is_u32}
use Rattle.rust_sums.proofs.types.are_u32.Given as goal

abbrev pub invariant-loop-ty : goal.invariant-loop-ty
invariant-loop-ty l = list_all is_u32 (drop l.ty-index l.types) ≡ list_all is_u32 l.types
