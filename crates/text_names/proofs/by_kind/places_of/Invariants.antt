use Rattle.std.proofs.Common.{take}
use Rattle.indexmap.specs.IndexMap.{get}
use Rattle.text_names.specs.contracts.kind_key.KindKeyPartialEq.TheImpl as key
use Rattle.text_names.proofs.Placing.{Agreeing}
use Rattle.text_names.proofs.by_kind.places_of.Given as goal

abbrev pub invariant-loop-place : goal.invariant-loop-place
invariant-loop-place g l = Agreeing key.eq-value.it g.T.Kinded.key_of (take l.place l.items) (get key.eq-value.it l.table)
