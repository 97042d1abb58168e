-- A part of a list is smaller than the list.
use Rattle.std.proofs.Common.{◌≡◌, ap, ℕ, zero, suc, ◌<◌, List, [], ◌∷◌, length, get_or, arith}
use Rattle.aen_base.specs.declared.span.Span.{Span}
use Rattle.rust_ast.specs.Source as s
use Rattle.rust_ast.specs.SourceTypes as t
use Rattle.rust_ast.specs.SourcePatterns as p

pub types_part : (xs : List (t.Written)) (i : ℕ) (x : t.Written) → i < length xs → x ≡ get_or xs i x → t.nodes_written x < t.nodes_writtens (t.writtens xs)
types_part [] i x h e = absurd (omega (arith, h))
types_part (y ∷ ys) zero x h e = let same : t.nodes_written x ≡ t.nodes_written y = ap t.nodes_written e in omega (arith, same)
types_part (y ∷ ys) (suc i) x h e = let less = types_part ys i x (omega (arith, h)) e in omega (arith, less)

pub patterns_part : (xs : List (p.Pat)) (i : ℕ) (x : p.Pat) → i < length xs → x ≡ get_or xs i x → p.nodes_pat x < p.nodes_pats (p.pats xs)
patterns_part [] i x h e = absurd (omega (arith, h))
patterns_part (y ∷ ys) zero x h e = let same : p.nodes_pat x ≡ p.nodes_pat y = ap p.nodes_pat e in omega (arith, same)
patterns_part (y ∷ ys) (suc i) x h e = let less = patterns_part ys i x (omega (arith, h)) e in omega (arith, less)

pub field_patterns_part : (xs : List (p.FieldPat)) (i : ℕ) (x : p.FieldPat) → i < length xs → x ≡ get_or xs i x → p.nodes_fieldpat x < p.nodes_fieldpats (p.fieldpats xs)
field_patterns_part [] i x h e = absurd (omega (arith, h))
field_patterns_part (y ∷ ys) zero x h e = let same : p.nodes_fieldpat x ≡ p.nodes_fieldpat y = ap p.nodes_fieldpat e in omega (arith, same)
field_patterns_part (y ∷ ys) (suc i) x h e = let less = field_patterns_part ys i x (omega (arith, h)) e in omega (arith, less)

pub exprs_part : (xs : List (s.Expr)) (i : ℕ) (x : s.Expr) → i < length xs → x ≡ get_or xs i x → s.nodes_expr x < s.nodes_exprs (s.exprs xs)
exprs_part [] i x h e = absurd (omega (arith, h))
exprs_part (y ∷ ys) zero x h e = let same : s.nodes_expr x ≡ s.nodes_expr y = ap s.nodes_expr e in omega (arith, same)
exprs_part (y ∷ ys) (suc i) x h e = let less = exprs_part ys i x (omega (arith, h)) e in omega (arith, less)

pub arms_part : (xs : List (p.Pat × s.Expr)) (i : ℕ) (x : p.Pat × s.Expr) → i < length xs → x ≡ get_or xs i x → s.nodes_expr x.1 < s.nodes_arms (s.arms xs)
arms_part [] i x h e = absurd (omega (arith, h))
arms_part (y ∷ ys) zero x h e = let same : s.nodes_expr x.1 ≡ s.nodes_expr y.1 = ap (λ (p : p.Pat × s.Expr). s.nodes_expr p.1) e in omega (arith, same)
arms_part (y ∷ ys) (suc i) x h e = let less = arms_part ys i x (omega (arith, h)) e in omega (arith, less)

pub inits_part : (xs : List (Span × List ℕ × s.Expr)) (i : ℕ) (x : Span × List ℕ × s.Expr) → i < length xs → x ≡ get_or xs i x → s.nodes_expr x.2 < s.nodes_inits (s.inits xs)
inits_part [] i x h e = absurd (omega (arith, h))
inits_part (y ∷ ys) zero x h e = let same : s.nodes_expr x.2 ≡ s.nodes_expr y.2 = ap (λ (p : Span × List ℕ × s.Expr). s.nodes_expr p.2) e in omega (arith, same)
inits_part (y ∷ ys) (suc i) x h e = let less = inits_part ys i x (omega (arith, h)) e in omega (arith, less)

pub stmts_part : (xs : List (s.Stmt)) (i : ℕ) (x : s.Stmt) → i < length xs → x ≡ get_or xs i x → s.nodes_stmt x < s.nodes_stmts (s.stmts xs)
stmts_part [] i x h e = absurd (omega (arith, h))
stmts_part (y ∷ ys) zero x h e = let same : s.nodes_stmt x ≡ s.nodes_stmt y = ap s.nodes_stmt e in omega (arith, same)
stmts_part (y ∷ ys) (suc i) x h e = let less = stmts_part ys i x (omega (arith, h)) e in omega (arith, less)
