-- The rows at the whole of a call, as code says them.
use Rattle.type_calls.specs.declared.calls.Rows as code
use Rattle.type_rules.specs.Calls.{Whole}

abbrev pub as_rows : code.Rows → Whole
as_rows r = record { nested = r.nested; lacks = r.lacks; wrong = r.wrong; missing = r.missing }
