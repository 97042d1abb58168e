-- Which patterns fit, and what their variables then are.
use Rattle.std.proofs.Common.{◌≡◌, ℕ, zero, suc, ◌+◌, ◌<◌, Bool, true, false, List, [], ◌∷◌, ◌++◌, reverse, length, get_or, append_assoc, refl, sym, ap, ◌∙◌, subst, arith, add-one, drop, drop-cons, ne_eqb}
use Rattle.std.proofs.lemmas.List.{reverse-append, reverse-reverse}
use Rattle.std.proofs.Math.Dec.{eqb-suc-suc}
use Rattle.std.specs.Prelude.{Option, Some, None, ◌==◌, if◌then◌else◌}
use Rattle.std.specs.Option.{is_some, option_map}
use Rattle.pure_ast.specs.declared.ctor.CtorId.{CtorId}
use Rattle.pure_ast.specs.declared.pat.Pat.{Pat}
use Rattle.pure_ast.specs.declared.pat.Pat.TheVariants as P
use Rattle.pure_ast.specs.Code.{Code, arms, nodes_code, nodes_arms}
use Rattle.pure_ast.specs.Values.{PValue, tuple, built, pvalues, pvalues_back}
use Rattle.text_meaning.specs.Environment.{Environment, with_value}
use Rattle.text_meaning.specs.Patterns.{bound, fits, same_ctor}

is_some_map : {A B : Type 0} (f : A → B) (o : Option A) → is_some (option_map f o) ≡ is_some o
is_some_map f None = refl
is_some_map f (Some x) = refl

-- as many variables as parts
pub bound_fits : (variables : List ℕ) (parts : List PValue) → is_some (bound variables parts) ≡ (length variables == length parts)
bound_fits [] [] = refl
bound_fits [] (a ∷ parts) = sym (ne_eqb 0 (length (a ∷ parts)) (λ p. omega arith))
bound_fits (v ∷ variables) [] = sym (ne_eqb (length (v ∷ variables)) 0 (λ p. omega arith))
bound_fits (v ∷ variables) (a ∷ parts) =
    is_some_map (λ env. (v, a) ∷ env) (bound variables parts) ∙ bound_fits variables parts ∙ sym (eqb-suc-suc (length variables) (length parts))

-- an arm of a match is smaller than all arms
pub arm_part : (xs : List (Pat × Code)) (i : ℕ) (x : Pat × Code) → i < length xs → x ≡ get_or xs i x → nodes_code x.1 < nodes_arms (arms xs)
arm_part [] i x l p = omega arith
arm_part (y ∷ ys) zero x l p =
    let q : nodes_code y.1 < nodes_arms (arms (y ∷ ys)) = omega arith in
    subst (λ (z : Pat × Code). nodes_code z.1 < nodes_arms (arms (y ∷ ys))) (sym p) q
arm_part (y ∷ ys) (suc i) x l p =
    let q = arm_part ys i x (omega arith) p in
    omega arith

-- a tuple's pattern fits where there are as many variables as parts
pub tuple_fits : (p : Pat) (v : PValue) (names : List ℕ) (parts : List PValue) (m n : ℕ) → p ≡ P.Tuple names → v ≡ tuple (pvalues parts) →
    m ≡ length names → n ≡ length parts → (m == n) ≡ is_some (fits p v)
tuple_fits p v names parts m n hp hv hm hn = rw (hp, hv, hm, hn, pvalues_back parts) (sym (bound_fits names parts))

-- so does that of a constructor, where it is the value's
pub built_fits : (p : Pat) (v : PValue) (a b : CtorId) (names : List ℕ) (parts : List PValue) (m n : ℕ) → p ≡ P.Ctor a names → v ≡ built b (pvalues parts) →
    same_ctor a b ≡ true → m ≡ length names → n ≡ length parts → (m == n) ≡ is_some (fits p v)
built_fits p v a b names parts m n hp hv same hm hn = rw (hp, hv, hm, hn, same, pvalues_back parts) (sym (bound_fits names parts))

pub tuple_adds : (p : Pat) (v : PValue) (names : List ℕ) (parts : List PValue) (more : Environment) → p ≡ P.Tuple names → v ≡ tuple (pvalues parts) →
    fits p v ≡ Some more → bound names parts ≡ Some more
tuple_adds p v names parts more hp hv h = rw (hp, hv, pvalues_back parts) at h

built_by : (test : Bool) (o : Option Environment) (more : Environment) → (if test then o else None) ≡ Some more → o ≡ Some more
built_by true o more h = h
built_by false o more h = absurd cc

pub built_adds : (p : Pat) (v : PValue) (a b : CtorId) (names : List ℕ) (parts : List PValue) (more : Environment) → p ≡ P.Ctor a names → v ≡ built b (pvalues parts) →
    fits p v ≡ Some more → bound names parts ≡ Some more
built_adds p v a b names parts more hp hv h =
    built_by (same_ctor a b) (bound names parts) more (rw (hp, hv, pvalues_back parts) at h)

-- the first of the variables that are left, with the last of the values turned round
map_some : {A B : Type 0} (f : A → B) (o : Option A) (y : B) → option_map f o ≡ Some y → (x : A) × (o ≡ Some x) × (y ≡ f x)
map_some f None y p = absurd cc
map_some f (Some x) y p = (x, refl, cc)

pub add_start : (names : List ℕ) (values left : List PValue) (more : Environment) → left ≡ reverse values → bound names values ≡ Some more →
    bound names (reverse left) ≡ Some more
add_start names values left more e p = rw (e, reverse-reverse values) p

pub add_stop : (names : List ℕ) (i : ℕ) (left : List PValue) (rest : Environment) → i < length names → left ≡ [] →
    bound (drop i names) (reverse left) ≡ Some rest → ⊥
add_stop names i left rest l e p =
    let q = rw (e, drop-cons names i 0) at p in
    cc q

add_last : (env x rest : Environment) (e : ℕ × PValue) → rest ≡ e ∷ x → env ++ rest ≡ (env ++ e ∷ []) ++ x
add_last env x rest e h = ap (λ (r : Environment). env ++ r) h ∙ sym (append_assoc env (e ∷ []) x)

pub add_step : (names : List ℕ) (i : ℕ) (left later : List PValue) (value : PValue) (rest env more : Environment) → i < length names → left ≡ later ++ value ∷ [] →
    bound (drop i names) (reverse left) ≡ Some rest →
    (x : Environment) × (bound (drop (i + 1) names) (reverse later) ≡ Some x) × (env ++ rest ≡ with_value env (get_or names i 0) value ++ x)
add_step names i left later value rest env more l e p =
    let q = rw (e, reverse-append later (value ∷ []), drop-cons names i 0) at p in
    let w = map_some (λ (x : Environment). (get_or names i 0, value) ∷ x) (bound (drop (suc i) names) (reverse later)) rest q in
    (w.0, rw add-one w.1, add_last env w.0 rest (get_or names i 0, value) w.2)
