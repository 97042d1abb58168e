-- The cost of a call, and of a stack with one frame more.
use Rattle.std.proofs.Common.{◌≡◌, ℕ, zero, suc, ◌+◌, ◌-◌, ◌*◌, ◌≤◌, List, [], ◌∷◌, ◌++◌, refl, subst, arith, mul-le-mul_right}
use Rattle.std.specs.Prelude.{Some, slice_get}
use Rattle.pure_ast.specs.Code.{Code, Arms, put, select, bind_select, nodes_code, nodes_arms}
use Rattle.pure_ast.specs.Terms.{Term}
use Rattle.pure_ast.specs.declared.def.Def.{Def}
use Rattle.pure_ast.specs.declared.def.Defs.{Defs}
use Rattle.pure_eval.specs.declared.frames.Frame.{Frame}
use Rattle.pure_eval.specs.Costs.{size_of_all, longest, weight, state_cost, stack_cost}

pub weight_zero : (k : ℕ) → weight k 0 ≡ 1
unfolding weight
weight_zero k = refl

pub weight_suc : (k n : ℕ) → weight k (suc n) ≡ k * weight k n + 1
unfolding weight
weight_suc k n = refl

-- one step takes at least one turn
pub weighs : (k n : ℕ) → 1 ≤ weight k n
weighs k zero = rw weight_zero (omega arith)
weighs k (suc n) = rw weight_suc (omega arith)

-- code of a definition is no longer than all code
pub one_of_all : (all : List Def) (i : ℕ) (d : Def) → slice_get all i ≡ Some d → nodes_code d.code ≤ size_of_all all
one_of_all [] i d p = absurd cc
one_of_all (x ∷ all) zero d p =
    let same : x ≡ d = cc in
    let q : nodes_code x.code ≤ size_of_all (x ∷ all) = omega arith in
    subst (λ (y : Def). nodes_code y.code ≤ size_of_all (x ∷ all)) same q
one_of_all (x ∷ all) (suc i) d p = let q = one_of_all all i d p in omega arith

-- the code of a call costs less than the step that makes it
pub call_costs : (defs : Defs) (i : ℕ) (d : Def) (n : ℕ) → slice_get defs.defs i ≡ Some d → (n ≡ 0 → ⊥) →
    nodes_code d.code * weight (longest defs) (n - 1) + 1 ≤ weight (longest defs) n
call_costs defs i d zero p h = absurd (h refl)
call_costs defs i d (suc n) p h =
    let le = one_of_all defs.defs i d p in
    let m : nodes_code d.code * weight (longest defs) n ≤ longest defs * weight (longest defs) n = mul-le-mul_right (weight (longest defs) n) le in
    let one : suc n - 1 ≡ n = omega arith in
    rw (one, weight_suc) (omega arith)

pub stack_more : (defs : Defs) (frames : List Frame) (f : Frame) → stack_cost defs (frames ++ f ∷ []) ≡ stack_cost defs frames + state_cost defs f.rest
stack_more defs [] f = omega arith
stack_more defs (x ∷ frames) f = let h = stack_more defs frames f in omega arith

-- what each form of code costs, by the cost of its parts
put_spread : (a w : ℕ) → (a + 1) * w ≡ a * w + w
put_spread a w = grind arith

pub put_costs : (code rest : Code) (v : ℕ) (t : Term) (w : ℕ) → code ≡ put v t rest → nodes_code code * w ≡ nodes_code rest * w + w
put_costs code rest v t w p = rw p (put_spread (nodes_code rest) w)

pub select_costs : (code : Code) (t : Term) (all : Arms) (w : ℕ) → code ≡ select t all → nodes_code code * w ≡ nodes_arms all * w + w
select_costs code t all w p = rw p (put_spread (nodes_arms all) w)

both_spread : (a b w : ℕ) → (a + b + 1) * w ≡ a * w + b * w + w
both_spread a b w = grind arith

pub bind_select_costs : (code rest : Code) (v : ℕ) (t : Term) (all : Arms) (w : ℕ) → code ≡ bind_select v t all rest →
    nodes_code code * w ≡ nodes_arms all * w + nodes_code rest * w + w
bind_select_costs code rest v t all w p = rw p (both_spread (nodes_arms all) (nodes_code rest) w)
