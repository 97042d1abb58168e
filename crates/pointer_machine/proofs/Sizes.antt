-- Parts are smaller than the whole, and a call at a lower bound weighs less.
use Rattle.std.proofs.Common.{◌≡◌, ℕ, zero, suc, ◌+◌, ◌-◌, ◌*◌, ◌<◌, ◌≤◌, List, [], ◌∷◌, length, get_or, suc-mul, refl, ap, arith}
use Rattle.std.specs.Prelude.{slice_get, Some}
use Rattle.std.proofs.lemmas.Option.{same_Some}
use Rattle.sums_ast.specs.Tree.{Stmt, bind, nodes_expr, nodes_stmt, nodes_stmts, stmts, nodes_block}
use Rattle.sums_ast.specs.declared.function.Function.{Function}
use Rattle.pointer_machine.specs.Size.{bodies, weight}
use Rattle.pointer_machine.specs.Values.{bound_to}

-- what a `let` gives is smaller than the statement
bound_size : (x : Stmt) → nodes_expr (bound_to x) < nodes_stmt x
bound_size (bind s k e) = omega arith

pub stmts_item : (xs : List Stmt) (i : ℕ) (x : Stmt) → i < length xs → x ≡ get_or xs i x → nodes_expr (bound_to x) < nodes_stmts (stmts xs)
stmts_item [] i x h e = absurd (omega arith)
stmts_item (y ∷ xs) zero x h e = let same = ap nodes_stmt e in
    let small = bound_size x in
    omega arith
stmts_item (y ∷ xs) (suc i) x h e = let less = stmts_item xs i x (omega arith) e in omega arith

bodies_at : (fs : List Function) (k : ℕ) (f : Function) → slice_get fs k ≡ Some f → nodes_block f.body ≤ bodies fs
bodies_at [] k f h = absurd (cc)
bodies_at (g ∷ fs) zero f h = let same = ap (λ (x : Function). nodes_block x.body) (same_Some g f h) in omega arith
bodies_at (g ∷ fs) (suc k) f h = let less = bodies_at fs k f h in omega arith

falls : (n w s : ℕ) → (n ≡ 0 → ⊥) → s < w → (n - 1) * w + s < n * w
falls zero w s h lt = absurd (h refl)
falls (suc n) w s h lt =
    let less : suc n - 1 ≡ n = omega arith in
    let product = suc-mul n w in
    let same : (suc n - 1) * w ≡ n * w = ap (λ k. k * w) less in
    omega arith

-- the body of a function that is called
pub body_falls : (n : ℕ) (fs : List Function) (k : ℕ) (f : Function) → (n ≡ 0 → ⊥) → slice_get fs k ≡ Some f →
    (n - 1) * weight fs + (4 * nodes_block f.body + 1) < n * weight fs
body_falls n fs k f h is =
    let small = bodies_at fs k f is in
    falls n (weight fs) (4 * nodes_block f.body + 1) h (omega arith)
