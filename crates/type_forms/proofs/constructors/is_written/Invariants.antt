use Rattle.std.proofs.Common.{◌≡◌, drop}
use Rattle.type_forms.specs.Inits.{is_written}
use Rattle.type_forms.proofs.constructors.is_written.Given as goal

abbrev pub invariant-loop-field : goal.invariant-loop-field
invariant-loop-field l = is_written l.number (drop l.field-index l.before) ≡ is_written l.number l.before
