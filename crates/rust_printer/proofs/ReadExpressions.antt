-- Expressions, statements and blocks are read of their tokens.
use Rattle.std.proofs.Common.{refl, ap, inl, inr, ℕ, Bool, true, false}
use Rattle.table_reader.specs.Reading as R
use Rattle.aen_base.specs.declared.span.Span.{Span}
use Rattle.rust_ast.specs.Patterns as suffixes
use Rattle.rust_ast.specs.Source as s
use Rattle.rust_printer.proofs.Printable.{IsExpr, IsMaybe, IsInner, IsWhile, IsBlock, AreNotOne, AreStmts, AreExprs, AreArms, AreInits}
use Rattle.rust_printer.proofs.ReadCommon.{read_by}
use Rattle.rust_printer.proofs.ReadOperands.{Reader}
use Rattle.rust_printer.proofs.ReadOperators.{binary_read, update_read, compare_read, both_read, either_read, assign_read}
use Rattle.rust_printer.proofs.ReadForms.{BlockReader, InnerReader, MaybeReader, PartsReader, InitsReader, ArmsReader, negative_read, positive_read, true_read, false_read, unit_read, tuple_read, inner_node, branch_read, let_branch_read, select_read, while_holds, while_matches, loop_read, panic_read, path_read, call_read, literal_read, field_node, minus_read, negation_read, deref_read, borrow_mut_read, borrow_shared_read, cast_read, give_read, leave_read, go_on_read}
use Rattle.rust_printer.proofs.ReadBlocks.{BodyReader, GivenReader, block_of, no_body, value_body, run_body, ending_body, bind_body, none_given, one_given, no_parts, more_parts, no_inits_read, more_inits_read, no_arms_read, more_arms_read, inner_of}

number_read : (span : Span) (negative : Bool) (size : ℕ) (suffix : suffixes.Suffix) → Reader (s.number span negative size suffix)
number_read span true size suffix = negative_read span size suffix
number_read span false size suffix = positive_read span size suffix

truth_read : (span : Span) (value : Bool) → Reader (s.truth span value)
truth_read span true = true_read span
truth_read span false = false_read span

borrow_read : (span : Span) (mutable : Bool) (e : s.Expr) → Reader e → Reader (s.borrow span mutable e)
borrow_read span true e r = borrow_mut_read span e r
borrow_read span false e r = borrow_shared_read span e r

no_operand : MaybeReader s.no_maybeexpr
no_operand at more ls laid = read_by _ (inl refl) _ ls R.nothing refl laid

some_operand : (e : s.Expr) → Reader e → MaybeReader (s.some_maybeexpr e)
some_operand e r at more ls laid = let x = (r at more ls laid).expression in read_by _ (inr (inl refl)) _ x.rest (R.part x.reads R.nothing) (ap s.some_maybeexpr x.is) x.left

mutual
  pub expr_read : (e : s.Expr) → IsExpr e → Reader e
  expr_read (s.number span negative size suffix) ok = number_read span negative size suffix
  expr_read (s.truth span value) ok = truth_read span value
  expr_read (s.tuple span parts) ok = tuple_of span parts ok.0 ok.1
  expr_read (s.inner b) ok = inner_node b (block_read b ok)
  expr_read (s.branch span e b other) ok = branch_read span e b other (expr_read e ok.0) (block_read b ok.1.0) ok.1.1.0 (expr_read other ok.1.1.1)
  expr_read (s.select span e arms) ok = select_read span e arms (expr_read e ok.0) (arms_read arms ok.1)
  expr_read (s.let_branch span pat e b other) ok = let_branch_read span pat e b other ok.0 (expr_read e ok.1.0) (inner_read b ok.1.1.0) ok.1.1.1.0 (expr_read other ok.1.1.1.1)
  expr_read (s.forever span by_while b) ok = forever_read span by_while b ok
  expr_read (s.panic span) ok = panic_read span
  expr_read (s.path span path) ok = path_read span path ok
  expr_read (s.call span path tys parts) ok = call_read span path tys parts ok.0 ok.1.0 (exprs_read parts ok.1.1)
  expr_read (s.literal span name tys parts) ok = literal_read span name tys parts ok.0 ok.1.0 (inits_read parts ok.1.1)
  expr_read (s.field span e place name) ok = field_node span e place name (expr_read e ok.0) ok.1
  expr_read (s.minus span e) ok = minus_read span e (expr_read e ok)
  expr_read (s.negation span e) ok = negation_read span e (expr_read e ok)
  expr_read (s.deref span e) ok = deref_read span e (expr_read e ok)
  expr_read (s.borrow span mutable e) ok = borrow_read span mutable e (expr_read e ok)
  expr_read (s.binary span op a b) ok = binary_read span op a b (expr_read a ok.0) (expr_read b ok.1)
  expr_read (s.compare span op a b) ok = compare_read span op a b (expr_read a ok.0) (expr_read b ok.1)
  expr_read (s.both span a b) ok = both_read span a b (expr_read a ok.0) (expr_read b ok.1)
  expr_read (s.either span a b) ok = either_read span a b (expr_read a ok.0) (expr_read b ok.1)
  expr_read (s.cast span e ty) ok = cast_read span e ty (expr_read e ok)
  expr_read (s.assign span a b) ok = assign_read span a b (expr_read a ok.0) (expr_read b ok.1)
  expr_read (s.update span op a b) ok = update_read span op a b (expr_read a ok.0) (expr_read b ok.1)
  expr_read (s.give span value) ok = give_read span value (maybe_read value ok)
  expr_read (s.leave span value) ok = leave_read span value (maybe_read value ok)
  expr_read (s.go_on span) ok = go_on_read span

  tuple_of : (span : Span) (parts : s.Exprs) → AreNotOne parts → AreExprs parts → Reader (s.tuple span parts)
  tuple_of span s.no_exprs some ok = unit_read span
  tuple_of span (s.more_exprs one s.no_exprs) some ok = absurd some
  tuple_of span (s.more_exprs one (s.more_exprs two rest)) some ok = tuple_read span one two rest (expr_read one ok.0) (expr_read two ok.1.0) (exprs_read rest ok.1.1)

  maybe_read : (value : s.MaybeExpr) → IsMaybe value → MaybeReader value
  maybe_read s.no_maybeexpr ok = no_operand
  maybe_read (s.some_maybeexpr e) ok = some_operand e (expr_read e ok)

  forever_read : (span : Span) (by_while : Bool) (b : s.Block) → IsExpr (s.forever span by_while b) → Reader (s.forever span by_while b)
  forever_read span true (s.block w s.no_stmts (s.some_maybeexpr e)) ok = while_read span w e ok
  forever_read span true (s.block w s.no_stmts s.no_maybeexpr) ok = absurd ok
  forever_read span true (s.block w (s.more_stmts one rest) value) ok = absurd ok
  forever_read span false (s.block w before value) ok = loop_read span w before value (block_of w before value (body_read before ok.0 value (value_read value ok.1)))

  while_read : (span w : Span) (e : s.Expr) → IsWhile (s.block w s.no_stmts (s.some_maybeexpr e)) → Reader (s.forever span true (s.block w s.no_stmts (s.some_maybeexpr e)))
  while_read span w (s.branch whole e b other) ok = while_holds span w whole e b other (expr_read e ok.0) (block_read b ok.1.0) ok.1.1
  while_read span w (s.let_branch whole pat e b other) ok = while_matches span w whole pat e b other ok.0 (expr_read e ok.1.0) (inner_read b ok.1.1.0) ok.1.1.1
  while_read span w (s.number a0 a1 a2 a3) ok = absurd ok
  while_read span w (s.truth a0 a1) ok = absurd ok
  while_read span w (s.tuple a0 a1) ok = absurd ok
  while_read span w (s.inner a0) ok = absurd ok
  while_read span w (s.select a0 a1 a2) ok = absurd ok
  while_read span w (s.forever a0 a1 a2) ok = absurd ok
  while_read span w (s.panic a0) ok = absurd ok
  while_read span w (s.path a0 a1) ok = absurd ok
  while_read span w (s.call a0 a1 a2 a3) ok = absurd ok
  while_read span w (s.literal a0 a1 a2 a3) ok = absurd ok
  while_read span w (s.field a0 a1 a2 a3) ok = absurd ok
  while_read span w (s.minus a0 a1) ok = absurd ok
  while_read span w (s.negation a0 a1) ok = absurd ok
  while_read span w (s.deref a0 a1) ok = absurd ok
  while_read span w (s.borrow a0 a1 a2) ok = absurd ok
  while_read span w (s.binary a0 a1 a2 a3) ok = absurd ok
  while_read span w (s.compare a0 a1 a2 a3) ok = absurd ok
  while_read span w (s.both a0 a1 a2) ok = absurd ok
  while_read span w (s.either a0 a1 a2) ok = absurd ok
  while_read span w (s.cast a0 a1 a2) ok = absurd ok
  while_read span w (s.assign a0 a1 a2) ok = absurd ok
  while_read span w (s.update a0 a1 a2 a3) ok = absurd ok
  while_read span w (s.give a0 a1) ok = absurd ok
  while_read span w (s.leave a0 a1) ok = absurd ok
  while_read span w (s.go_on a0) ok = absurd ok

  -- a block as the expression that it is
  inner_read : (e : s.Expr) → IsInner e → InnerReader e
  inner_read (s.inner b) ok = inner_of b (block_read b ok)
  inner_read (s.number a0 a1 a2 a3) ok = absurd ok
  inner_read (s.truth a0 a1) ok = absurd ok
  inner_read (s.tuple a0 a1) ok = absurd ok
  inner_read (s.branch a0 a1 a2 a3) ok = absurd ok
  inner_read (s.select a0 a1 a2) ok = absurd ok
  inner_read (s.let_branch a0 a1 a2 a3 a4) ok = absurd ok
  inner_read (s.forever a0 a1 a2) ok = absurd ok
  inner_read (s.panic a0) ok = absurd ok
  inner_read (s.path a0 a1) ok = absurd ok
  inner_read (s.call a0 a1 a2 a3) ok = absurd ok
  inner_read (s.literal a0 a1 a2 a3) ok = absurd ok
  inner_read (s.field a0 a1 a2 a3) ok = absurd ok
  inner_read (s.minus a0 a1) ok = absurd ok
  inner_read (s.negation a0 a1) ok = absurd ok
  inner_read (s.deref a0 a1) ok = absurd ok
  inner_read (s.borrow a0 a1 a2) ok = absurd ok
  inner_read (s.binary a0 a1 a2 a3) ok = absurd ok
  inner_read (s.compare a0 a1 a2 a3) ok = absurd ok
  inner_read (s.both a0 a1 a2) ok = absurd ok
  inner_read (s.either a0 a1 a2) ok = absurd ok
  inner_read (s.cast a0 a1 a2) ok = absurd ok
  inner_read (s.assign a0 a1 a2) ok = absurd ok
  inner_read (s.update a0 a1 a2 a3) ok = absurd ok
  inner_read (s.give a0 a1) ok = absurd ok
  inner_read (s.leave a0 a1) ok = absurd ok
  inner_read (s.go_on a0) ok = absurd ok

  pub block_read : (b : s.Block) → IsBlock b → BlockReader b
  block_read (s.block span before value) ok = block_of span before value (body_read before ok.0 value (value_read value ok.1))

  body_read : (before : s.Stmts) → AreStmts before → (value : s.MaybeExpr) → BodyReader s.no_stmts value → BodyReader before value
  body_read s.no_stmts ok value f = f
  body_read (s.more_stmts (s.run e true) rest) ok value f = run_body e rest value (expr_read e ok.0) (body_read rest ok.1 value f)
  body_read (s.more_stmts (s.run e false) rest) ok value f = ending_body e rest value ok.0.0 (expr_read e ok.0.1) (body_read rest ok.1 value f)
  body_read (s.more_stmts (s.bind span pat ty given) rest) ok value f = bind_body span pat ty given rest value ok.0.0 ok.0.1.0 (given_read given ok.0.1.1) (body_read rest ok.1 value f)

  value_read : (value : s.MaybeExpr) → IsMaybe value → BodyReader s.no_stmts value
  value_read s.no_maybeexpr ok = no_body
  value_read (s.some_maybeexpr e) ok = value_body e (expr_read e ok)

  given_read : (value : s.MaybeExpr) → IsMaybe value → GivenReader value
  given_read s.no_maybeexpr ok = none_given
  given_read (s.some_maybeexpr e) ok = one_given e (expr_read e ok)

  exprs_read : (parts : s.Exprs) → AreExprs parts → PartsReader parts
  exprs_read s.no_exprs ok = no_parts
  exprs_read (s.more_exprs e rest) ok = more_parts e rest (expr_read e ok.0) (exprs_read rest ok.1)

  inits_read : (parts : s.Inits) → AreInits parts → InitsReader parts
  inits_read s.no_inits ok = no_inits_read
  inits_read (s.more_inits span name e rest) ok = more_inits_read span name e rest ok.0 (expr_read e ok.1.0) (inits_read rest ok.1.1)

  arms_read : (arms : s.Arms) → AreArms arms → ArmsReader arms
  arms_read s.no_arms ok = no_arms_read
  arms_read (s.more_arms pat e rest) ok = more_arms_read pat e rest ok.0 (expr_read e ok.1.0) (arms_read rest ok.1.1)
