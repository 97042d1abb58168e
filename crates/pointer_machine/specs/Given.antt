-- What a reply of the code says of a meaning; want of memory says nothing.
use Rattle.std.specs.Prelude.{◌≡◌, List, Result, Ok, Err}
use Rattle.aen_base.specs.Numbers.{Number}
use Rattle.aen_base.specs.declared.span.Span.{Span}
use Rattle.sums_ast.specs.Tree.{Stmts, MaybeExpr}
use Rattle.pointer_machine.specs.declared.halt.Stop.{Stop}
use Rattle.pointer_machine.specs.declared.halt.Stop.TheVariants.{Halted, Memory}
use Rattle.pointer_machine.specs.Values.{Valued, Call, body_value, last_value}

abbrev pub Gives : Valued → Result Number Stop → Type 0
Gives v (Ok n) = v ≡ Ok n
Gives v (Err (Halted h)) = v ≡ Err h
Gives v (Err Memory) = Unit {0}

-- numbers in order, for all that may be done with them
abbrev pub GivesAll : ((List Number → Valued) → Valued) → Result (List Number) Stop → Type 0
GivesAll v (Ok ns) = (f : List Number → Valued) → v f ≡ f ns
GivesAll v (Err (Halted h)) = (f : List Number → Valued) → v f ≡ Err h
GivesAll v (Err Memory) = Unit {0}

-- the variables after statements, whatever block they begin
abbrev pub Declares : Call → List Number → Stmts → Result (List Number) Stop → Type 0
Declares c vars rest (Ok all) = (s : Span) (last : MaybeExpr) → body_value c s vars rest last ≡ last_value c s all last
Declares c vars rest (Err (Halted h)) = (s : Span) (last : MaybeExpr) → body_value c s vars rest last ≡ Err h
Declares c vars rest (Err Memory) = Unit {0}
