-- The translation of a typed program is scoped: its variables are bound in the order of their numbers.
use Rattle.std.proofs.Common.{◌≡◌, ℕ, zero, suc, ◌+◌, ◌<◌, ◌≤◌, Bool, true, false, List, [], ◌∷◌, ◌++◌, length, map, replicate, get_or, refl, ap, sym, subst, ◌∙◌, arith, length-append}
use Rattle.std.proofs.lemmas.Bool.Decides.{nat_tests}
use Rattle.std.proofs.lemmas.List.FromFn.{length-map-range_with_len}
use Rattle.std.proofs.lemmas.Option.{slice_get-get_or}
use Rattle.std.specs.Prelude.{◌||◌, ◌==◌, slice_get, Option}
use Rattle.std.specs.List.{range_with_len}
use Rattle.pure_ast.specs.Terms as t
use Rattle.pure_ast.specs.Code as c
use Rattle.pure_ast.specs.declared.comp.Comp.{Comp}
use Rattle.pure_ast.specs.declared.comp.Comp.TheVariants as C
use Rattle.pure_ast.specs.declared.def.Def.{Def}
use Rattle.sums_ast.specs.Tree.{Expr, number, variable, binary, call, Exprs, no_exprs, more_exprs, bind, Stmts, no_stmts, more_stmts, Block, block, MaybeExpr, no_maybeexpr, some_maybeexpr}
use Rattle.sums_ast.specs.declared.function.Function.{Function}
use Rattle.sums_ast.specs.declared.function.Program.{Program}
use Rattle.source_meaning.specs.Typing.{IsTypedExpr, AreTypedExprs, IsTypedBody, IsTypedBlock, IsTypedFunction, AreTyped, IsTyped}
use Rattle.text_meaning.specs.Lists.{Each}
use Rattle.text_meaning.specs.Scoped.{is_bound, IsTermScoped, AreTermsScoped, IsCompScoped, IsCodeScoped, parameter_variables, IsScoped}
use Rattle.translate.specs.declared.atom.Atom.{Atom}
use Rattle.translate.specs.declared.atom.Atom.TheVariants as A
use Rattle.translate.specs.Lists.{u32_type}
use Rattle.translate.specs.Emit.{term_of, known, Emitted, EmittedAll, operation, emit, emit_all, emit_body, emit_block, chain, emitted, parameter_atoms, definition, definitions, translation}
use Rattle.translate.proofs.Items.{each_push}
use Rattle.translate.proofs.WellFormed.{each_get}

-- the variables below n are bound, and no others
record AreBelow (n : ℕ) (bound : List ℕ) : Type 0 where
  below : (v : ℕ) → v < n → is_bound bound v ≡ true
  above : (v : ℕ) → n ≤ v → is_bound bound v ≡ false

or_assoc : (a b c : Bool) → (a || (b || c)) ≡ ((a || b) || c)
or_assoc true b c = refl
or_assoc false b c = refl

bound_join : (xs ys : List ℕ) (v : ℕ) → is_bound (xs ++ ys) v ≡ (is_bound xs v || is_bound ys v)
bound_join [] ys v = refl
bound_join (x ∷ xs) ys v = ap (λ (b : Bool). (v == x) || b) (bound_join xs ys v) ∙ or_assoc (v == x) (is_bound xs v) (is_bound ys v)

other_number : (v n : ℕ) → n + 1 ≤ v → (v == n) ≡ false
other_number v n h = grind (arith, nat_tests)

either : (a b : Bool) → a ≡ true → (a || b) ≡ true
either a b h = ap (λ (c : Bool). c || b) h

or_last : (a : Bool) → (a || (true || false)) ≡ true
or_last true = refl
or_last false = refl

not_same : (v n : ℕ) → (v == n) ≡ false → v ≡ n → ⊥
not_same v n h e = grind (arith, nat_tests)

-- one variable more
next_known : (n : ℕ) (bound : List ℕ) → AreBelow n bound → (v : ℕ) (b : Bool) → (v == n) ≡ b → v < n + 1 → is_bound (bound ++ n ∷ []) v ≡ true
next_known n bound h v true e l = bound_join bound (n ∷ []) v ∙ ap (λ (b : Bool). is_bound bound v || (b || false)) e ∙ or_last (is_bound bound v)
next_known n bound h v false e l =
    let no = not_same v n e in
    let less : v < n = omega (arith, no) in
    bound_join bound (n ∷ []) v ∙ either (is_bound bound v) (is_bound (n ∷ []) v) (h.below v less)

next : (n : ℕ) (bound : List ℕ) → AreBelow n bound → AreBelow (n + 1) (bound ++ n ∷ [])
next n bound h = record {
  below = λ v l. next_known n bound h v (v == n) refl l;
  above = λ v l. bound_join bound (n ∷ []) v ∙ ap (λ (b : Bool). b || ((v == n) || false)) (h.above v (omega arith)) ∙ ap (λ (b : Bool). b || false) (other_number v n l);
}

-- parameters
inside_by : (n k v : ℕ) (b : Bool) → (v == k) ≡ b → k ≤ v → v < k + suc n →
    (suc k ≤ v → v < suc k + n → is_bound (parameter_variables (suc k) (replicate n u32_type)) v ≡ true) →
    is_bound (parameter_variables k (replicate (suc n) u32_type)) v ≡ true
inside_by n k v true e l h more = ap (λ (b : Bool). b || is_bound (parameter_variables (suc k) (replicate n u32_type)) v) e
inside_by n k v false e l h more =
    let no = not_same v k e in
    ap (λ (b : Bool). b || is_bound (parameter_variables (suc k) (replicate n u32_type)) v) e ∙ more (omega (arith, no)) (omega arith)

inside : (n k v : ℕ) → k ≤ v → v < k + n → is_bound (parameter_variables k (replicate n u32_type)) v ≡ true
inside zero k v l h = absurd (omega arith)
inside (suc n) k v l h = inside_by n k v (v == k) refl l h (inside n (suc k) v)

outside : (n k v : ℕ) → k + n ≤ v → is_bound (parameter_variables k (replicate n u32_type)) v ≡ false
outside zero k v h = refl
outside (suc n) k v h =
    ap (λ (b : Bool). b || is_bound (parameter_variables (suc k) (replicate n u32_type)) v) (other_number v k (omega arith)) ∙ outside n (suc k) v (omega arith)

parameters_below : (n : ℕ) → AreBelow n (parameter_variables 0 (replicate n u32_type))
parameters_below n = record { below = λ v h. inside n 0 v (omega arith) (omega arith); above = λ v h. outside n 0 v (omega arith) }

-- an atom whose variable is below n
abbrev IsBelow : ℕ → Atom → Type 0
IsBelow n (A.Variable k) = k < n
IsBelow n (A.Number z) = Unit {0}

later : (n m : ℕ) (a : Atom) → n ≤ m → IsBelow n a → IsBelow m a
later n m (A.Variable k) le h = let l : k < n = h in omega arith
later n m (A.Number z) le h = tt

all_later : (n m : ℕ) (atoms : List Atom) → n ≤ m → Each (IsBelow n) atoms → Each (IsBelow m) atoms
all_later n m [] le h = tt
all_later n m (a ∷ atoms) le (ha, h) = (later n m a le ha, all_later n m atoms le h)

term_scoped : (n : ℕ) (a : Atom) (bound : List ℕ) → AreBelow n bound → IsBelow n a → IsTermScoped bound (term_of a)
term_scoped n (A.Variable k) bound b h = b.below k h
term_scoped n (A.Number z) bound b h = tt

-- a computation that uses variables below n alone, and computations that are numbered from n on
abbrev Uses : ℕ → Comp → Type 0
Uses n comp = (bound : List ℕ) → AreBelow n bound → IsCompScoped bound comp

abbrev AreInOrder : ℕ → List Comp → Type 0
AreInOrder n [] = Unit {0}
AreInOrder n (comp ∷ comps) = Uses n comp × AreInOrder (n + 1) comps

order_join : (n m : ℕ) (xs ys : List Comp) → n + length xs ≡ m → AreInOrder n xs → AreInOrder m ys → AreInOrder n (xs ++ ys)
order_join n m [] ys e h k = let s : m ≡ n = omega arith in subst (λ (j : ℕ). AreInOrder j ys) s k
order_join n m (x ∷ xs) ys e (hx, h) k = (hx, order_join (n + 1) m xs ys (omega arith) h k)

chain_scoped : (n m : ℕ) (comps : List Comp) (rest : c.Code) (bound : List ℕ) → n + length comps ≡ m → AreBelow n bound → AreInOrder n comps →
    ((all : List ℕ) → AreBelow m all → IsCodeScoped all rest) → IsCodeScoped bound (chain n comps rest)
chain_scoped n m [] rest bound e b h k = let s : n ≡ m = omega arith in k bound (subst (λ (j : ℕ). AreBelow j bound) s b)
chain_scoped n m (comp ∷ comps) rest bound e b (hc, h) k =
    (hc bound b, b.above n (omega arith), chain_scoped (n + 1) m comps rest (bound ++ n ∷ []) (omega arith) (next n bound b) h k)

record IsInOrder (n : ℕ) (e : Emitted) : Type 0 where
  comps : AreInOrder n e.comps
  atom : IsBelow (n + length e.comps) e.atom

record AllInOrder (n : ℕ) (e : EmittedAll) : Type 0 where
  comps : AreInOrder n e.comps
  parts : (bound : List ℕ) → AreBelow (n + length e.comps) bound → AreTermsScoped bound (t.terms e.parts)

module _ (earlier : List Function) where
  mutual
    expression_ordered : (e : Expr) (n : ℕ) (atoms : List Atom) → Each (IsBelow n) atoms → IsTypedExpr earlier (length atoms) e → IsInOrder n (emit n atoms e)
    expression_ordered (number s k) n atoms h typed = record { comps = tt; atom = tt }
    expression_ordered (variable s k) n atoms h typed =
        let is = slice_get-get_or atoms k (A.Variable 0) typed in
        let here = subst (λ (o : Option Atom). IsBelow n (known o)) (sym is) (each_get (IsBelow n) atoms k (get_or atoms k (A.Variable 0)) h is) in
        record { comps = tt; atom = later n (n + 0) (known (slice_get atoms k)) (omega arith) here }
    expression_ordered (binary s op a b) n atoms h (is_add, ta, tb) =
        let left = emit n atoms a in
        let m = n + length left.comps in
        let right = emit m atoms b in
        let both = left.comps ++ right.comps in
        let last = operation op left.atom right.atom in
        let l1 = length-append both (last ∷ []) in
        let l2 = length-append left.comps right.comps in
        let first = expression_ordered a n atoms h ta in
        let second = expression_ordered b m atoms (all_later n m atoms (omega arith) h) tb in
        let end = n + length both in
        record {
          comps = order_join n end both (last ∷ []) refl (order_join n m left.comps right.comps refl first.comps second.comps) (
            (λ bound b. (
              term_scoped end left.atom bound b (later m end left.atom (omega arith) first.atom),
              (term_scoped end right.atom bound b (later (m + length right.comps) end right.atom (omega arith) second.atom), tt),
            )),
            tt,
          );
          atom = omega arith;
        }
    expression_ordered (call s f args) n atoms h (callee, typed) =
        let all = emit_all n atoms args in
        let last = C.Call (record { 0 = f }) all.parts in
        let l1 = length-append all.comps (last ∷ []) in
        let rest = arguments_ordered args n atoms h typed in
        record {
          comps = order_join n (n + length all.comps) all.comps (last ∷ []) refl rest.comps ((λ bound b. rest.parts bound b), tt);
          atom = omega arith;
        }

    arguments_ordered : (es : Exprs) (n : ℕ) (atoms : List Atom) → Each (IsBelow n) atoms → AreTypedExprs earlier (length atoms) es → AllInOrder n (emit_all n atoms es)
    arguments_ordered no_exprs n atoms h typed = record { comps = tt; parts = λ bound b. tt }
    arguments_ordered (more_exprs e es) n atoms h (te, ts) =
        let first = emit n atoms e in
        let m = n + length first.comps in
        let rest = emit_all m atoms es in
        let l1 = length-append first.comps rest.comps in
        let one = expression_ordered e n atoms h te in
        let more = arguments_ordered es m atoms (all_later n m atoms (omega arith) h) ts in
        let end = n + length (first.comps ++ rest.comps) in
        let same : end ≡ m + length rest.comps = omega arith in
        record {
          comps = order_join n m first.comps rest.comps refl one.comps more.comps;
          parts = λ bound b. (
            term_scoped end first.atom bound b (later m end first.atom (omega arith) one.atom),
            more.parts bound (subst (λ (j : ℕ). AreBelow j bound) same b),
          );
        }

  body_ordered : (stmts : Stmts) (final : MaybeExpr) (n : ℕ) (atoms : List Atom) (total : ℕ) → Each (IsBelow n) atoms →
      IsTypedBody earlier total (length atoms) stmts final → IsInOrder n (emit_body n atoms stmts final)
  body_ordered no_stmts no_maybeexpr n atoms total h typed = absurd typed
  body_ordered no_stmts (some_maybeexpr e) n atoms total h (all, typed) =
      expression_ordered e n atoms h (subst (λ (k : ℕ). IsTypedExpr earlier k e) (sym all) typed)
  body_ordered (more_stmts (bind s k e) rest) final n atoms total h (is, typed, after) =
      let first = emit n atoms e in
      let m = n + length first.comps in
      let more = emit_body m (atoms ++ first.atom ∷ []) rest final in
      let l1 = length-append first.comps more.comps in
      let len = length-append atoms (first.atom ∷ []) in
      let count : length atoms + 1 ≡ length (atoms ++ first.atom ∷ []) = omega arith in
      let one = expression_ordered e n atoms h typed in
      let then_ = body_ordered rest final m (atoms ++ first.atom ∷ []) total (each_push (IsBelow m) atoms first.atom (all_later n m atoms (omega arith) h) one.atom)
      (subst (λ (j : ℕ). IsTypedBody earlier total j rest final) count after) in
      record {
        comps = order_join n m first.comps more.comps refl one.comps then_.comps;
        atom = later (m + length more.comps) (n + length (first.comps ++ more.comps)) more.atom (omega arith) then_.atom;
      }

  block_ordered : (b : Block) (n : ℕ) (atoms : List Atom) (total : ℕ) → Each (IsBelow n) atoms → IsTypedBlock earlier total (length atoms) b → IsInOrder n (emit_block n atoms b)
  block_ordered (block s stmts final) n atoms total h typed = body_ordered stmts final n atoms total h typed

range_below : (from n m : ℕ) → from + n ≤ m → Each (IsBelow m) (map A.Variable (range_with_len from n))
range_below from zero m h = tt
range_below from (suc n) m h = (omega arith, range_below (from + 1) n m (omega arith))

definition_scoped : (earlier : List Function) (k : ℕ) (f : Function) → IsTypedFunction earlier f →
    IsCodeScoped (parameter_variables 0 (definition k f).params) (definition k f).code
definition_scoped earlier k f typed =
    let n = f.parameters in
    let e = emitted f in
    let len = length-map-range_with_len A.Variable 0 n in
    let body = block_ordered earlier f.body n (parameter_atoms n) (length f.variables) (range_below 0 n n (omega arith))
    (subst (λ (j : ℕ). IsTypedBlock earlier (length f.variables) j f.body) (sym len) typed.body) in
    chain_scoped n (n + length e.comps) e.comps (c.last (C.Ok (term_of e.atom))) (parameter_variables 0 (replicate n u32_type)) refl (parameters_below n) body.comps
    (λ all b. term_scoped (n + length e.comps) e.atom all b body.atom)

definitions_scoped : (earlier fs : List Function) (k : ℕ) → AreTyped earlier fs →
    Each (λ (d : Def). IsCodeScoped (parameter_variables 0 d.params) d.code) (definitions k fs)
definitions_scoped earlier [] k typed = tt
definitions_scoped earlier (f ∷ fs) k (typed, rest) = (definition_scoped earlier k f typed, definitions_scoped (earlier ++ f ∷ []) fs (k + 1) rest)

pub scoped : (p : Program) → IsTyped p → IsScoped (translation p)
scoped p typed = definitions_scoped [] p.functions 0 typed
