use Rattle.std.proofs.Common.{◌≡◌, ◌+◌, ◌*◌, drop}
use Rattle.std.specs.List.{All, list_all, list_any}
use Rattle.type_cover.specs.Remembered.{IsRight}
use Rattle.type_cover.specs.Splitting.{is_void, void_variant}
use Rattle.type_cover.proofs.void.+void.Given as goal

abbrev pub decreases-void_at : goal.decreases-void_at
decreases-void_at l = 4 * l.level

abbrev pub decreases-void_level : goal.decreases-void_level
decreases-void_level l = 4 * l.below + 3

abbrev pub decreases-any_void : goal.decreases-any_void
decreases-any_void l = 4 * l.level + 1

abbrev pub decreases-all_void : goal.decreases-all_void
decreases-all_void l = 4 * l.level + 2

abbrev pub invariant-any_void-loop-ty : goal.invariant-any_void-loop-ty
invariant-any_void-loop-ty l =
    (list_any (is_void l.decls l.level) (drop l.ty-index l.types) ≡ list_any (is_void l.decls l.level) l.types) × All (IsRight l.decls) l.known

abbrev pub invariant-all_void-loop-variant : goal.invariant-all_void-loop-variant
invariant-all_void-loop-variant l =
    (list_all (void_variant (is_void l.decls l.level) l.args) (drop l.variant-index l.variants)
    ≡ list_all (void_variant (is_void l.decls l.level) l.args) l.variants)
    × All (IsRight l.decls) l.known
