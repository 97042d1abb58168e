-- Parts in a list of a program's tree have fewer nodes than the list.
use Rattle.std.proofs.Common.{◌≡◌, ℕ, zero, suc, ◌<◌, List, [], ◌∷◌, length, get_or, arith}
use Rattle.aen_base.specs.declared.span.Span.{Span}
use Rattle.rust_ast.specs.Source as s
use Rattle.rust_ast.specs.SourcePatterns as p

pub pat_item : (xs : List p.Pat) (i : ℕ) (x : p.Pat) → i < length xs → x ≡ get_or xs i x → p.nodes_pat x < p.nodes_pats (p.pats xs)
pat_item [] i x h e = absurd (omega arith)
pat_item (y ∷ ys) zero x h e = rw e (omega arith)
pat_item (y ∷ ys) (suc i) x h e = omega (arith, pat_item ys i x (omega arith) e)

pub field_item : (xs : List p.FieldPat) (i : ℕ) (x : p.FieldPat) → i < length xs → x ≡ get_or xs i x → p.nodes_fieldpat x < p.nodes_fieldpats (p.fieldpats xs)
field_item [] i x h e = absurd (omega arith)
field_item (y ∷ ys) zero x h e = rw e (omega arith)
field_item (y ∷ ys) (suc i) x h e = omega (arith, field_item ys i x (omega arith) e)

pub expr_item : (xs : List s.Expr) (i : ℕ) (x : s.Expr) → i < length xs → x ≡ get_or xs i x → s.nodes_expr x < s.nodes_exprs (s.exprs xs)
expr_item [] i x h e = absurd (omega arith)
expr_item (y ∷ ys) zero x h e = rw e (omega arith)
expr_item (y ∷ ys) (suc i) x h e = omega (arith, expr_item ys i x (omega arith) e)

pub init_item : (xs : List (Span × List ℕ × s.Expr)) (i : ℕ) (x : Span × List ℕ × s.Expr) → i < length xs → x ≡ get_or xs i x → s.nodes_expr x.2 < s.nodes_inits (s.inits xs)
init_item [] i x h e = absurd (omega arith)
init_item (y ∷ ys) zero x h e = rw e (omega arith)
init_item (y ∷ ys) (suc i) x h e = omega (arith, init_item ys i x (omega arith) e)

pub arm_item : (xs : List (p.Pat × s.Expr)) (i : ℕ) (x : p.Pat × s.Expr) → i < length xs → x ≡ get_or xs i x → s.nodes_expr x.1 < s.nodes_arms (s.arms xs)
arm_item [] i x h e = absurd (omega arith)
arm_item (y ∷ ys) zero x h e = rw e (omega arith)
arm_item (y ∷ ys) (suc i) x h e = omega (arith, arm_item ys i x (omega arith) e)

pub stmt_item : (xs : List s.Stmt) (i : ℕ) (x : s.Stmt) → i < length xs → x ≡ get_or xs i x → s.nodes_stmt x < s.nodes_stmts (s.stmts xs)
stmt_item [] i x h e = absurd (omega arith)
stmt_item (y ∷ ys) zero x h e = rw e (omega arith)
stmt_item (y ∷ ys) (suc i) x h e = omega (arith, stmt_item ys i x (omega arith) e)
