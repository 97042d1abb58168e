-- What an expression is read as without brackets around it (LANGUAGE.md, "Grammar").
use Rattle.std.specs.Prelude.{Bool, true, false, not}
use Rattle.rust_ast.specs.Source as s

-- an operand of every operator
abbrev pub is_operand : s.Expr → Bool
is_operand (s.number a0 a1 a2 a3) = true
is_operand (s.truth a0 a1) = true
is_operand (s.tuple a0 a1) = true
is_operand (s.inner a0) = false
is_operand (s.branch a0 a1 a2 a3) = false
is_operand (s.select a0 a1 a2) = false
is_operand (s.let_branch a0 a1 a2 a3 a4) = false
is_operand (s.forever a0 a1 a2) = false
is_operand (s.panic a0) = true
is_operand (s.path a0 a1) = true
is_operand (s.call a0 a1 a2 a3) = true
is_operand (s.literal a0 a1 a2 a3) = true
is_operand (s.field a0 a1 a2 a3) = true
is_operand (s.minus a0 a1) = true
is_operand (s.negation a0 a1) = true
is_operand (s.deref a0 a1) = true
is_operand (s.borrow a0 a1 a2) = true
is_operand (s.binary a0 a1 a2 a3) = false
is_operand (s.compare a0 a1 a2 a3) = false
is_operand (s.both a0 a1 a2) = false
is_operand (s.either a0 a1 a2) = false
is_operand (s.cast a0 a1 a2) = false
is_operand (s.assign a0 a1 a2) = false
is_operand (s.update a0 a1 a2 a3) = false
is_operand (s.give a0 a1) = false
is_operand (s.leave a0 a1) = false
is_operand (s.go_on a0) = false

-- an operand after which fields may stand
abbrev pub is_core : s.Expr → Bool
is_core (s.number a0 a1 a2 a3) = not a1
is_core (s.truth a0 a1) = true
is_core (s.tuple a0 a1) = true
is_core (s.inner a0) = false
is_core (s.branch a0 a1 a2 a3) = false
is_core (s.select a0 a1 a2) = false
is_core (s.let_branch a0 a1 a2 a3 a4) = false
is_core (s.forever a0 a1 a2) = false
is_core (s.panic a0) = true
is_core (s.path a0 a1) = true
is_core (s.call a0 a1 a2 a3) = true
is_core (s.literal a0 a1 a2 a3) = true
is_core (s.field a0 a1 a2 a3) = false
is_core (s.minus a0 a1) = false
is_core (s.negation a0 a1) = false
is_core (s.deref a0 a1) = false
is_core (s.borrow a0 a1 a2) = false
is_core (s.binary a0 a1 a2 a3) = false
is_core (s.compare a0 a1 a2 a3) = false
is_core (s.both a0 a1 a2) = false
is_core (s.either a0 a1 a2) = false
is_core (s.cast a0 a1 a2) = false
is_core (s.assign a0 a1 a2) = false
is_core (s.update a0 a1 a2 a3) = false
is_core (s.give a0 a1) = false
is_core (s.leave a0 a1) = false
is_core (s.go_on a0) = false

-- an operand, or what ends at its last brace: it may begin a statement
abbrev pub is_leading : s.Expr → Bool
is_leading (s.number a0 a1 a2 a3) = true
is_leading (s.truth a0 a1) = true
is_leading (s.tuple a0 a1) = true
is_leading (s.inner a0) = true
is_leading (s.branch a0 a1 a2 a3) = true
is_leading (s.select a0 a1 a2) = true
is_leading (s.let_branch a0 a1 a2 a3 a4) = true
is_leading (s.forever a0 a1 a2) = true
is_leading (s.panic a0) = true
is_leading (s.path a0 a1) = true
is_leading (s.call a0 a1 a2 a3) = true
is_leading (s.literal a0 a1 a2 a3) = true
is_leading (s.field a0 a1 a2 a3) = true
is_leading (s.minus a0 a1) = true
is_leading (s.negation a0 a1) = true
is_leading (s.deref a0 a1) = true
is_leading (s.borrow a0 a1 a2) = true
is_leading (s.binary a0 a1 a2 a3) = false
is_leading (s.compare a0 a1 a2 a3) = false
is_leading (s.both a0 a1 a2) = false
is_leading (s.either a0 a1 a2) = false
is_leading (s.cast a0 a1 a2) = false
is_leading (s.assign a0 a1 a2) = false
is_leading (s.update a0 a1 a2 a3) = false
is_leading (s.give a0 a1) = false
is_leading (s.leave a0 a1) = false
is_leading (s.go_on a0) = false
