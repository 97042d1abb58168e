-- To resolve a list of parts is to resolve each of them.
use Rattle.std.proofs.Common.{◌≡◌, ℕ, false, List, [], ◌∷◌, length, refl}
use Rattle.aen_base.specs.declared.span.Span.{Span}
use Rattle.rust_ast.specs.Source as s
use Rattle.rust_ast.specs.SourcePatterns as sp
use Rattle.rust_ast.specs.Patterns as p
use Rattle.rust_ast.specs.Resolved as r
use Rattle.name_tables.specs.declared.tables.Tables.{Tables}
use Rattle.name_tables.specs.declared.tables.Generics.{Generics}
use Rattle.name_uses.specs.PatternUses.{read_pat}
use Rattle.name_uses.specs.Scopes.{State}
use Rattle.name_uses.specs.Uses.{Answer, read, read_all, read_inits, read_arms, read_stmts, read_stmt, with_name, under}
use Rattle.name_uses.specs.Walks.{on_ok, walk, in_form}
use Rattle.name_uses.proofs.Walking.{walk_form}

pub walk_all : (t : Tables) (g : Generics) (xs : List s.Expr) (st : State) → read_all t g (s.exprs xs) st ≡ on_ok (in_form r.exprs) (walk (read t g) xs st)
walk_all t g [] st = refl
walk_all t g (x ∷ xs) st = walk_form r.more_exprs r.exprs (λ y ys. refl) (read t g x st) (read_all t g (s.exprs xs)) (walk (read t g) xs) (walk_all t g xs)

abbrev pub init : Tables → Generics → Span × List ℕ × s.Expr → State → Answer (Span × List ℕ × r.Expr)
init t g x st = with_name x.0 x.1 (read t g x.2 st)

pub walk_inits : (t : Tables) (g : Generics) (xs : List (Span × List ℕ × s.Expr)) (st : State) → read_inits t g (s.inits xs) st ≡ on_ok (in_form r.inits) (walk (init t g) xs st)
walk_inits t g [] st = refl
walk_inits t g (x ∷ xs) st =
    walk_form (λ y ys. r.more_inits y.0 y.1 y.2 ys) r.inits (λ y ys. refl) (init t g x st) (read_inits t g (s.inits xs)) (walk (init t g) xs) (walk_inits t g xs)

abbrev pub arm : Tables → Generics → sp.Pat × s.Expr → State → Answer (p.Pat × r.Expr)
arm t g x st = under (read_pat t g false x.0 st) (length st.variables) (read t g x.1)

pub walk_arms : (t : Tables) (g : Generics) (xs : List (sp.Pat × s.Expr)) (st : State) → read_arms t g (s.arms xs) st ≡ on_ok (in_form r.arms) (walk (arm t g) xs st)
walk_arms t g [] st = refl
walk_arms t g (x ∷ xs) st =
    walk_form (λ y ys. r.more_arms y.0 y.1 ys) r.arms (λ y ys. refl) (arm t g x st) (read_arms t g (s.arms xs)) (walk (arm t g) xs) (walk_arms t g xs)

pub walk_stmts : (t : Tables) (g : Generics) (xs : List s.Stmt) (st : State) → read_stmts t g (s.stmts xs) st ≡ on_ok (in_form r.stmts) (walk (read_stmt t g) xs st)
walk_stmts t g [] st = refl
walk_stmts t g (x ∷ xs) st = walk_form r.more_stmts r.stmts (λ y ys. refl) (read_stmt t g x st) (read_stmts t g (s.stmts xs)) (walk (read_stmt t g) xs) (walk_stmts t g xs)
