-- Typing of expressions, statements and blocks: the spelled thing with its type, or the first fault in
-- visiting order (LANGUAGE.md, "Types").
use Rattle.std.specs.Prelude.{Bool, true, false, Result, Ok, ℕ, ◌+◌, ◌||◌, Option, None, option_map, List, [], ◌∷◌, unwrap_or, length}
use Rattle.aen_base.specs.declared.span.Span.{Span}
use Rattle.type_rules.specs.Arguments.{Arguments, argument}
use Rattle.type_rules.specs.Branches.{Arms, Blocked, block_value, branch_rule, joined, meeting, select_rule}
use Rattle.type_rules.specs.Callees.{callee_of}
use Rattle.type_rules.specs.Calls.{call_rule}
use Rattle.type_rules.specs.Constructors.{field_number, is_no_field}
use Rattle.type_rules.specs.Expecting.{for_arm}
use Rattle.type_rules.specs.Faults.{Fault, and_then, refuse}
use Rattle.type_rules.specs.Fields.{field_named, fields_of}
use Rattle.type_rules.specs.Forms.{Expected, none, held}
use Rattle.type_rules.specs.Lists.{head_of, rest_of}
use Rattle.type_rules.specs.Loops.{give_nothing, give_rule, go_on_rule, leave_nothing, leave_rule, loop_rule}
use Rattle.type_rules.specs.Matching.{Finds}
use Rattle.type_rules.specs.Operands.{Operand, diverging, number_rule, tuple_rule, value_of, variable_rule}
use Rattle.type_rules.specs.Operators.{binary_rule, cast_rule, compare_rule, lazy_rule, minus_rule, negation_rule}
use Rattle.type_rules.specs.Patterns.{pattern}
use Rattle.type_rules.specs.PlaceRules.{assign_rule, borrow_rule, deref_rule, field_rule, update_rule}
use Rattle.type_rules.specs.Places.{Answer, gives, of_type}
use Rattle.type_rules.specs.Statements.{Statement, Statements, block_with, block_without, let_nothing, let_rule, run_rule}
use Rattle.type_rules.specs.States.{with_types}
use Rattle.type_rules.specs.TypesInBodies.{arguments_lists}
use Rattle.type_rules.specs.declared.fault.KindOfFault.TheVariants.{Field}
use Rattle.type_rules.specs.declared.state.Scope.{Scope}
use Rattle.type_rules.specs.declared.state.State.{State}
use Rattle.rust_ast.specs.Resolved as e
use Rattle.rust_ast.specs.Patterns as p
use Rattle.rust_ast.specs.Spelled as s
use Rattle.core_ty.specs.Types as t

abbrev pub block_span : e.Block → Span
block_span (e.block p ss l) = p

abbrev pub span_of : e.Expr → Span
span_of (e.number p n m x) = p
span_of (e.truth p b) = p
span_of (e.tuple p xs) = p
span_of (e.inner b) = block_span b
span_of (e.branch p a b c) = p
span_of (e.select p a arms) = p
span_of (e.forever p n m b) = p
span_of (e.panic p) = p
span_of (e.variable p k) = p
span_of (e.call p f ts xs) = p
span_of (e.literal p d v ts xs) = p
span_of (e.field p a f name) = p
span_of (e.minus p a) = p
span_of (e.negation p a) = p
span_of (e.deref p a) = p
span_of (e.borrow p m a) = p
span_of (e.binary p op a b) = p
span_of (e.compare p op a b) = p
span_of (e.both p a b) = p
span_of (e.either p a b) = p
span_of (e.cast p a i) = p
span_of (e.assign p a b) = p
span_of (e.update p op a b) = p
span_of (e.give p o) = p
span_of (e.leave p o) = p
span_of (e.go_on p) = p

-- a literal without a suffix
abbrev pub is_unsuffixed : e.Expr → Bool
is_unsuffixed (e.number r n m p.no_suffix) = true
is_unsuffixed a = false

-- a part, with what typing gives for it
abbrev pub part : e.Expr → (Expected → State → Answer) → Operand
part a read = record { span = span_of a; unsuffixed = is_unsuffixed a; read = read }

abbrev mutual
  pub read : Scope → e.Expr → Expected → State → Answer
  read c (e.number p n m suffix) x st = number_rule p n m suffix x st
  read c (e.truth p b) x st = gives (of_type t.bool p (s.truth b)) st
  read c (e.tuple p es) x st = tuple_rule p (length (e.exprs_list es)) (read_all c es) x st
  read c (e.inner b) x st = and_then (read_block c b x st) (λ r. gives (held (block_value r.0)) r.1)
  read c (e.branch p a yes_block b) x st = branch_rule p (part a (read c a)) (read_block c yes_block) (part b (read c b)) x st
  read c (e.select p a arms) x st = select_rule c p (part a (read c a)) (λ k x st. read_arms c arms k x None st) x st
  read c (e.forever p n m b) x st = loop_rule p n m (read_block c b) x st
  read c (e.panic p) x st = gives (diverging x p s.panic) st
  read c (e.variable p k) x st = variable_rule c k st
  read c (e.call p f ts es) x st =
      and_then (arguments_lists c.decls ts) (λ ls.
      call_rule p f (callee_of c f) ls false (read_arguments c es (callee_of c f).params 0) x st)
  read c (e.literal p d v ts es) x st =
      and_then (arguments_lists c.decls ts) (λ ls.
      call_rule p (e.constructor d v) (callee_of c (e.constructor d v)) ls true (read_inits c es (fields_of c.decls d.0 v) []) x st)
  read c (e.field p a f name) x st = field_rule c p (part a (read c a)) f name st
  read c (e.minus p a) x st = minus_rule p (part a (read c a)) x st
  read c (e.negation p a) x st = negation_rule p (part a (read c a)) x st
  read c (e.deref p a) x st = deref_rule p (part a (read c a)) st
  read c (e.borrow p m a) x st = borrow_rule p m (part a (read c a)) st
  read c (e.binary p op a b) x st = binary_rule p op (part a (read c a)) (part b (read c b)) x st
  read c (e.compare p op a b) x st = compare_rule p op (part a (read c a)) (part b (read c b)) st
  read c (e.both p a b) x st = lazy_rule p s.both (part a (read c a)) (part b (read c b)) st
  read c (e.either p a b) x st = lazy_rule p s.either (part a (read c a)) (part b (read c b)) st
  read c (e.cast p a i) x st = cast_rule p (part a (read c a)) i st
  read c (e.assign p a b) x st = assign_rule p (part a (read c a)) (part b (read c b)) st
  read c (e.update p op a b) x st = update_rule p op (part a (read c a)) (part b (read c b)) st
  read c (e.give p e.no_maybeexpr) x st = give_nothing c p x st
  read c (e.give p (e.some_maybeexpr a)) x st = give_rule c p (part a (read c a)) x st
  read c (e.leave p e.no_maybeexpr) x st = leave_nothing p x st
  read c (e.leave p (e.some_maybeexpr a)) x st = leave_rule p (part a (read c a)) x st
  read c (e.go_on p) x st = go_on_rule p x st

  -- a tuple's parts from left to right
  pub read_all : Scope → e.Exprs → List Expected → State → Result (s.Values × State) Fault
  read_all c e.no_exprs xs st = Ok (s.no_values, st)
  read_all c (e.more_exprs a rest) xs st =
      and_then (value_of (part a (read c a)) (unwrap_or (head_of xs) none) st) (λ r.
      and_then (read_all c rest (rest_of xs) r.1) (λ rs. Ok (s.more_values r.0 rs.0, rs.1)))

  -- arguments from left to right, with the types of their parameters, of which the first has number k
  pub read_arguments : Scope → e.Exprs → List t.Ty → ℕ → Finds → State → Result Arguments Fault
  read_arguments c e.no_exprs ps k f st = Ok (record { parts = s.no_parts; finds = f; state = st })
  read_arguments c (e.more_exprs a rest) ps k f st =
      and_then (argument (head_of ps) (part a (read c a)) f st) (λ r.
      and_then (read_arguments c rest (rest_of ps) (k + 1) r.finds r.state) (λ rs.
      Ok (record { parts = s.more_parts k r.value rs.parts; finds = rs.finds; state = rs.state })))

  -- named arguments in written order
  pub read_inits : Scope → e.Inits → List (List ℕ × t.Ty) → List ℕ → Finds → State → Result Arguments Fault
  read_inits c e.no_inits fs seen f st = Ok (record { parts = s.no_parts; finds = f; state = st })
  read_inits c (e.more_inits p name a rest) fs seen f st =
      refuse (is_no_field (field_named name 0 fs) seen) p Field (
      and_then (argument (option_map (λ (k : ℕ × t.Ty). k.1) (field_named name 0 fs)) (part a (read c a)) f st) (λ r.
      and_then (read_inits c rest fs (field_number (field_named name 0 fs) ∷ seen) r.finds r.state) (λ rs.
      Ok (record { parts = s.more_parts (field_number (field_named name 0 fs)) r.value rs.parts; finds = rs.finds; state = rs.state }))))

  -- arms in order; `found` is the type of the first before them that doesn't diverge
  pub read_arms : Scope → e.Arms → s.Scrutinee → Expected → Option t.Ty → State → Result Arms Fault
  read_arms c e.no_arms k x found st = Ok (record { arms = s.no_arms; found = found; state = st })
  read_arms c (e.more_arms y a rest) k x found st =
      and_then (pattern c.decls y (meeting k) st.types) (λ b.
      and_then (value_of (part a (read c a)) (for_arm x found) (with_types st b.1)) (λ r.
      and_then (read_arms c rest k x (joined found r.0) r.1) (λ rs.
      Ok (record { arms = s.more_arms b.0 r.0 rs.arms; found = rs.found; state = rs.state }))))

  pub read_block : Scope → e.Block → Expected → State → Blocked
  read_block c (e.block p ss e.no_maybeexpr) x st = block_without p (read_stmts c ss) x st
  read_block c (e.block p ss (e.some_maybeexpr a)) x st = block_with p (read_stmts c ss) (part a (read c a)) x st

  pub read_stmts : Scope → e.Stmts → State → Statements
  read_stmts c e.no_stmts st = Ok ((s.no_stmts, false), st)
  read_stmts c (e.more_stmts y rest) st =
      and_then (read_stmt c y st) (λ r.
      and_then (read_stmts c rest r.1) (λ rs. Ok ((s.more_stmts r.0.0 rs.0.0, r.0.1 || rs.0.1), rs.1)))

  pub read_stmt : Scope → e.Stmt → State → Statement
  read_stmt c (e.run a semicolon) st = run_rule (part a (read c a)) semicolon st
  read_stmt c (e.bind p x ty e.no_maybeexpr) st = let_nothing c p x ty st
  read_stmt c (e.bind p x ty (e.some_maybeexpr a)) st = let_rule c p x ty (part a (read c a)) st
