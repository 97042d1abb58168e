-- What a list lends by `get_mut`: one item, and the list ends with that item as it was last written.
use Rattle.std.specs.Prelude.{ℕ, Option, List, slice_set}
use Rattle.std.specs.Borrow.{MutBor, LendsIf, Fml}
use denote.RattleType.{RattleType}
use Rattle.aen_base.specs.contracts.list.List as L

module _ (T : RattleType) where
  abbrev pub LendsItem : MutBor (List T.Denot) → ℕ → Option (MutBor T.Denot) → Fml
  LendsItem s at r = LendsIf (L.the_row T) T s r (λ w. slice_set s.now at w) s.now
