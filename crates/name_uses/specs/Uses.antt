-- Expressions, statements and blocks with names resolved: uses are looked up, and variables and loops
-- numbered, in source order (LANGUAGE.md, "Names").
use Rattle.std.specs.Prelude.{ℕ, Bool, true, false, List, length, Option, Result, Ok}
use Rattle.aen_base.specs.declared.span.Span.{Span}
use Rattle.rust_ast.specs.Source as s
use Rattle.rust_ast.specs.Patterns as p
use Rattle.rust_ast.specs.Resolved as r
use Rattle.name_tables.specs.declared.tables.Tables.{Tables}
use Rattle.name_tables.specs.declared.tables.Generics.{Generics}
use Rattle.name_tables.specs.Lookups.{and_then, known, struct_of}
use Rattle.name_uses.specs.TypeUses.{read_turbo, beside, read_maybe_type}
use Rattle.name_uses.specs.PathUses.{value_path, called_path}
use Rattle.name_uses.specs.PatternUses.{read_pat}
use Rattle.name_uses.specs.Scopes.{State, enter, leave, with_loop}

-- a thing with names resolved, and what is known after it; or the place of a use that is declared nowhere
abbrev pub Answer : Type 0 → Type 0
Answer A = Result (A × State) Span

-- the parts of an operator from left to right
abbrev pub with_one : (r.Expr → r.Expr) → Answer r.Expr → Answer r.Expr
with_one make o = and_then o (λ a. Ok (make a.0, a.1))

abbrev pub both_read : Answer r.Expr → (State → Answer r.Expr) → Answer (r.Expr × r.Expr)
both_read o next = and_then o (λ a. and_then (next a.1) (λ b. Ok ((a.0, b.0), b.1)))

abbrev pub with_two : (r.Expr → r.Expr → r.Expr) → Answer (r.Expr × r.Expr) → Answer r.Expr
with_two make o = and_then o (λ a. Ok (make a.0.0 a.0.1, a.1))

-- a value with the name of its field
abbrev pub with_name : Span → List ℕ → Answer r.Expr → Answer (Span × List ℕ × r.Expr)
with_name q n o = and_then o (λ x. Ok ((q, n, x.0), x.1))

-- what is read where the variables from number `a` to before number `b` are in scope, which leave it behind it
abbrev pub within : ℕ → ℕ → (State → Answer r.Expr) → State → Answer r.Expr
within a b inside st = and_then (inside (enter a b st)) (λ k. Ok (k.0, leave (length st.scope) k.1))

-- a pattern whose names are in scope where `inside` is read, and not after it
abbrev pub under : Answer p.Pat → ℕ → (State → Answer r.Expr) → Answer (p.Pat × r.Expr)
under o n inside = and_then o (λ x. and_then (within n (length x.1.variables) inside x.1) (λ a. Ok ((x.0, a.0), a.1)))

-- statements and a last expression; what came into scope since it had this length leaves it
abbrev pub in_block : Answer r.Stmts → (State → Answer r.MaybeExpr) → ℕ → Answer (r.Stmts × r.MaybeExpr)
in_block o next n = and_then o (λ x. and_then (next x.1) (λ y. Ok ((x.0, y.0), leave n y.1)))

-- as code has them
abbrev pub block_form : List r.Stmt × Option r.Expr → r.Stmts × r.MaybeExpr
block_form b = (r.stmts b.0, r.maybeexpr b.1)

abbrev pub two_arms : Span → r.Expr → p.Pat → r.Expr → r.Expr → r.Expr
two_arms q a x b c = r.select q a (r.more_arms x b (r.more_arms (p.wild q) c r.no_arms))

abbrev pub is_nothing : s.MaybeExpr → Bool
is_nothing s.no_maybeexpr = true
is_nothing (s.some_maybeexpr a) = false

abbrev mutual
  pub read : Tables → Generics → s.Expr → State → Answer r.Expr
  read t g (s.number q n m x) st = Ok (r.number q n m x, st)
  read t g (s.truth q b) st = Ok (r.truth q b, st)
  read t g (s.tuple q xs) st = and_then (read_all t g xs st) (λ a. Ok (r.tuple q a.0, a.1))
  read t g (s.inner b) st = and_then (read_block t g b st) (λ a. Ok (r.inner a.0, a.1))
  read t g (s.branch q a b c) st =
      and_then (read t g a st) (λ x.
      and_then (read_block t g b x.1) (λ y.
      and_then (read t g c y.1) (λ z. Ok (r.branch q x.0 y.0 z.0, z.1))))
  read t g (s.select q a arms) st =
      and_then (read t g a st) (λ x.
      and_then (read_arms t g arms x.1) (λ y. Ok (r.select q x.0 y.0, y.1)))
  -- the pattern stands first: its names have the first numbers, and come into scope behind the scrutinee
  read t g (s.let_branch q x a b c) st =
      and_then (read_pat t g false x st) (λ y.
      and_then (read t g a y.1) (λ h.
      and_then (both_read (within (length st.variables) (length y.1.variables) (read t g b) h.1) (read t g c)) (λ k.
      Ok (two_arms q h.0 y.0 k.0.0 k.0.1, k.1))))
  read t g (s.forever q m b) st = and_then (read_block t g b (with_loop st)) (λ a. Ok (r.forever q st.loops m a.0, a.1))
  read t g (s.panic q) st = Ok (r.panic q, st)
  read t g (s.path q x) st = and_then (value_path t g st.scope q x) (λ a. Ok (a, st))
  read t g (s.call q x ts xs) st =
      and_then (called_path t g x) (λ c.
      and_then (read_turbo t g ts) (λ us.
      and_then (read_all t g xs st) (λ a. Ok (r.call q c.callee (beside c.turbos us) a.0, a.1))))
  read t g (s.literal q i ts xs) st =
      and_then (known i.span (struct_of t i.name)) (λ d.
      and_then (read_turbo t g ts) (λ us.
      and_then (read_inits t g xs st) (λ a. Ok (r.literal q d 0 us a.0, a.1))))
  read t g (s.field q a f n) st = with_one (λ x. r.field q x f n) (read t g a st)
  read t g (s.minus q a) st = with_one (r.minus q) (read t g a st)
  read t g (s.negation q a) st = with_one (r.negation q) (read t g a st)
  read t g (s.deref q a) st = with_one (r.deref q) (read t g a st)
  read t g (s.borrow q m a) st = with_one (r.borrow q m) (read t g a st)
  read t g (s.binary q op a b) st = with_two (r.binary q op) (both_read (read t g a st) (read t g b))
  read t g (s.compare q op a b) st = with_two (r.compare q op) (both_read (read t g a st) (read t g b))
  read t g (s.both q a b) st = with_two (r.both q) (both_read (read t g a st) (read t g b))
  read t g (s.either q a b) st = with_two (r.either q) (both_read (read t g a st) (read t g b))
  read t g (s.cast q a i) st = with_one (λ x. r.cast q x i) (read t g a st)
  read t g (s.assign q a b) st = with_two (r.assign q) (both_read (read t g a st) (read t g b))
  read t g (s.update q op a b) st = with_two (r.update q op) (both_read (read t g a st) (read t g b))
  read t g (s.give q o) st = and_then (read_maybe t g o st) (λ a. Ok (r.give q a.0, a.1))
  read t g (s.leave q o) st = and_then (read_maybe t g o st) (λ a. Ok (r.leave q a.0, a.1))
  read t g (s.go_on q) st = Ok (r.go_on q, st)

  pub read_maybe : Tables → Generics → s.MaybeExpr → State → Answer r.MaybeExpr
  read_maybe t g s.no_maybeexpr st = Ok (r.no_maybeexpr, st)
  read_maybe t g (s.some_maybeexpr a) st = and_then (read t g a st) (λ x. Ok (r.some_maybeexpr x.0, x.1))

  pub read_all : Tables → Generics → s.Exprs → State → Answer r.Exprs
  read_all t g s.no_exprs st = Ok (r.no_exprs, st)
  read_all t g (s.more_exprs a rest) st =
      and_then (read t g a st) (λ x.
      and_then (read_all t g rest x.1) (λ y. Ok (r.more_exprs x.0 y.0, y.1)))

  pub read_inits : Tables → Generics → s.Inits → State → Answer r.Inits
  read_inits t g s.no_inits st = Ok (r.no_inits, st)
  read_inits t g (s.more_inits q n a rest) st =
      and_then (with_name q n (read t g a st)) (λ x.
      and_then (read_inits t g rest x.1) (λ y. Ok (r.more_inits x.0.0 x.0.1 x.0.2 y.0, y.1)))

  pub read_arms : Tables → Generics → s.Arms → State → Answer r.Arms
  read_arms t g s.no_arms st = Ok (r.no_arms, st)
  read_arms t g (s.more_arms x a rest) st =
      and_then (under (read_pat t g false x st) (length st.variables) (read t g a)) (λ y.
      and_then (read_arms t g rest y.1) (λ z. Ok (r.more_arms y.0.0 y.0.1 z.0, z.1)))

  -- what a block's statements bring into scope leaves it with the block
  pub read_block : Tables → Generics → s.Block → State → Answer r.Block
  read_block t g (s.block q ss o) st =
      and_then (in_block (read_stmts t g ss st) (read_maybe t g o) (length st.scope)) (λ x. Ok (r.block q x.0.0 x.0.1, x.1))

  pub read_stmts : Tables → Generics → s.Stmts → State → Answer r.Stmts
  read_stmts t g s.no_stmts st = Ok (r.no_stmts, st)
  read_stmts t g (s.more_stmts x rest) st =
      and_then (read_stmt t g x st) (λ y.
      and_then (read_stmts t g rest y.1) (λ z. Ok (r.more_stmts y.0 z.0, z.1)))

  -- the names of a `let` are numbered first, and come into scope behind its value
  pub read_stmt : Tables → Generics → s.Stmt → State → Answer r.Stmt
  read_stmt t g (s.run a semicolon) st = and_then (read t g a st) (λ x. Ok (r.run x.0 semicolon, x.1))
  read_stmt t g (s.bind q x ty o) st =
      and_then (read_pat t g (is_nothing o) x st) (λ y.
      and_then (read_maybe_type t g ty) (λ z.
      and_then (read_maybe t g o y.1) (λ v.
      Ok (r.bind q y.0 z v.0, enter (length st.variables) (length y.1.variables) v.1))))

abbrev pub read_two : Tables → Generics → s.Expr → s.Expr → State → Answer (r.Expr × r.Expr)
read_two t g a b st = both_read (read t g a st) (read t g b)
