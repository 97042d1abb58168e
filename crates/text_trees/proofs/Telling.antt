-- What a rule tells of a node, in one answer.
use Rattle.std.proofs.Common.{◌≡◌, List, [], ◌∷◌, Some, refl, ap}
use Rattle.std.specs.Prelude.{Option, Result, Ok, Err}
use Rattle.aen_base.specs.declared.span.Span.{Span}
use Rattle.text_names.specs.Settled.{first, Settles, Keeps}
use Rattle.text_trees.specs.Told.{told, kept}

told_fault : {A : Type 0} (faults : List Span) (value : Option A) (place : Span) → first faults ≡ Some place → told faults value ≡ Err place
told_fault [] value place h = absurd cc
told_fault (p ∷ faults) value place h = ap Err cc

kept_fault : (faults : List Span) (place : Span) → first faults ≡ Some place → kept faults ≡ Err place
kept_fault [] place h = absurd cc
kept_fault (p ∷ faults) place h = ap Err cc

pub told_is : {A : Type 0} (faults : List Span) (value : Option A) (r : Result A Span) → Settles faults value r → told faults value ≡ r
told_is faults value (Ok x) h = rw (h.0, h.1) refl
told_is faults value (Err place) h = told_fault faults value place h

pub kept_is : (faults : List Span) (r : Result Unit Span) → Keeps faults r → kept faults ≡ r
kept_is faults (Ok tt) h = ap kept h
kept_is faults (Err place) h = kept_fault faults place h
