-- A call from outside comes to the same with the machine's memory and without.
use Rattle.std.proofs.Common.{◌≡◌, ℕ, zero, suc, ◌-◌, List, [], ◌∷◌, ◌++◌, length, get_or, map, refl, ap, sym, subst, subst₂, ◌∙◌, arith}
use Rattle.std.proofs.lemmas.Option.{same_Some}
use Rattle.std.specs.Prelude.{slice_get, Option, Some, None, Err, IsSomeAnd}
use Rattle.pointer_machine.specs.declared.halt.Halt.TheVariants.{More}
use Rattle.std.specs.Option.{option_map}
use Rattle.aen_base.specs.declared.span.Span.{Span}
use Rattle.aen_base.specs.Numbers.{Number}
use Rattle.pure_ast.specs.Values as pv
use Rattle.pure_ast.specs.Values.{PValue}
use Rattle.sums_ast.specs.declared.function.Function.{Function}
use Rattle.sums_ast.specs.declared.function.Program.{Program}
use Rattle.source_meaning.specs.declared.outcome.Outcome.{Outcome}
use Rattle.source_meaning.specs.declared.outcome.Outcome.TheVariants as O
use Rattle.source_meaning.specs.Memory.{MTree, num, Memory}
use Rattle.source_meaning.specs.Machine as m
use Rattle.source_meaning.specs.Machine.{Ran, gives, panics, more, stuck, call_at}
use Rattle.source_meaning.specs.Typing.{IsTyped}
use Rattle.source_meaning.specs.TypingLemmas.{typed_at}
use Rattle.source_meaning.specs.CallLemmas.{call_empty, call_more}
use Rattle.source_meaning.specs.Calling as calling
use Rattle.source_meaning.specs.Calling.{trees_of, outcome_of, value_of, call_outcome, IsU32Value, AreU32Values, AreArguments}
use Rattle.pointer_machine.specs.Values as v
use Rattle.pointer_machine.specs.Values.{Valued, call_value, numbers_of, outcome, begun}
use Rattle.pointer_machine.specs.Outcomes.{IsSettled}
use Rattle.pointer_machine.proofs.Ends.{Ends, AreU32}
use Rattle.pointer_machine.proofs.Expressions.{SameCalls}
use Rattle.pointer_machine.proofs.Bodies.{function_ends}

pub value_empty : (p : Program) (s : Span) (k : ℕ) (args : List Number) → call_value p zero s k args ≡ Err More
unfolding call_value
value_empty p s k args = refl

value_more : (p : Program) (n : ℕ) (s : Span) (k : ℕ) (args : List Number) →
    call_value p (suc n) s k args ≡ v.entered (call_value p n) s (slice_get p.functions k) args
unfolding call_value
value_more p n s k args = refl

pub value_zero : (p : Program) (n : ℕ) (s : Span) (k : ℕ) (args : List Number) → n ≡ 0 → call_value p n s k args ≡ Err More
value_zero p n s k args e = ap (λ i. call_value p i s k args) e ∙ value_empty p s k args

pub value_past : (p : Program) (n : ℕ) (s : Span) (k : ℕ) (args : List Number) → (n ≡ 0 → ⊥) →
    call_value p n s k args ≡ v.entered (call_value p (n - 1)) s (slice_get p.functions k) args
value_past p zero s k args h = absurd (h refl)
value_past p (suc n) s k args h =
    let less : n ≡ suc n - 1 = omega arith in
    value_more p n s k args ∙ ap (λ i. v.entered (call_value p i) s (slice_get p.functions k) args) less

-- calls at every bound
pub all_same : (p : Program) → IsTyped p → (n : ℕ) → SameCalls p.functions (call_at p n) (call_value p n)
all_same p typed zero = record {
  each = λ s k f ns m0 is us count.
      subst₂ (λ (r : Ran) (w : Valued). Ends (λ new. m0 ++ new) r w)
      (sym (call_empty p s k (map num ns) m0)) (sym (value_empty p s k ns)) refl;
}
all_same p typed (suc n) = record {
  each = λ s k f ns m0 is us count.
      let (before, typed_f, known_) = typed_at [] p.functions k f typed is in
      subst₂ (λ (r : Ran) (w : Valued). Ends (λ new. m0 ++ new) r w)
      (sym (call_more p n s k (map num ns) m0 ∙ ap (λ o. m.entered (call_at p n) s o (map num ns) m0) is))
      (sym (value_more p n s k ns ∙ ap (λ o. v.entered (call_value p n) s o ns) is))
      (function_ends p.functions (call_at p n) (call_value p n) (all_same p typed n) before known_ f typed_f s ns m0 us count);
}

-- arguments of type u32 are numbers
pub record Numbers (args : List PValue) : Type 0 where
  pub numbers : List Number
  pub given : numbers_of args ≡ Some numbers
  pub trees : trees_of args ≡ Some (map num numbers)
  pub u32 : AreU32 numbers
  pub count : length numbers ≡ length args

numbers_first : (a : PValue) (args : List PValue) → IsU32Value a → Numbers args → Numbers (a ∷ args)
numbers_first (pv.number n) args u rest = record {
  numbers = n ∷ rest.numbers;
  given = ap (λ o. option_map (λ ns. n ∷ ns) o) rest.given;
  trees = ap (λ o. option_map (λ ts. num n ∷ ts) o) rest.trees;
  u32 = (u, rest.u32);
  count = ap suc rest.count;
}
numbers_first (pv.truth b) args u rest = absurd u
numbers_first (pv.tuple parts) args u rest = absurd u
numbers_first (pv.built d parts) args u rest = absurd u

numbers_are : (args : List PValue) → AreU32Values args → Numbers args
numbers_are [] us = record { numbers = []; given = refl; trees = refl; u32 = tt; count = refl }
numbers_are (a ∷ args) (u, us) = numbers_first a args u (numbers_are args us)

ended : (w : Memory → Memory) (r : Ran) (x : Valued) → Ends w r x → outcome x ≡ outcome_of r
ended w (gives t m1) x (n, (above, (te, me, ve, u))) = ap outcome ve ∙ sym (ap (λ (t : MTree). O.Value (value_of t)) te)
ended w (panics k) x e = ap outcome e
ended w more x e = ap outcome e
ended w (stuck s) x e = absurd e

pub begun_is : (p : Program) (n k : ℕ) (f : Function) (args : List PValue) → IsTyped p → slice_get p.functions k ≡ Some f → AreArguments f args →
    begun p n k f.span (numbers_of args) ≡ call_outcome p k f args n
begun_is p n k f args typed is fits =
    let given = numbers_are args fits.typed in
    ap (begun p n k f.span) given.given
    ∙ ended (λ new. [] ++ new) (call_at p n f.span k (map num given.numbers) []) (call_value p n f.span k given.numbers)
    ((all_same p typed n).each f.span k f given.numbers [] is given.u32 (given.count ∙ fits.count))
    ∙ ap (calling.begun p n k f) (sym given.trees)

got_or : (fs : List Function) (k : ℕ) (d g : Function) → slice_get fs k ≡ Some g → get_or fs k d ≡ g
got_or [] k d g h = absurd (cc)
got_or (f ∷ fs) zero d g h = same_Some f g h
got_or (f ∷ fs) (suc k) d g h = got_or fs k d g h

-- the outcome of the function that was found at its place
pub outcome_is : (p : Program) (n k : ℕ) (items : List Function) (f g : Function) (args : List PValue) (given : Option (List Number)) (o : Outcome) → IsTyped p →
    IsSomeAnd (slice_get p.functions k) (λ h. AreArguments h args) → items ≡ p.functions → f ≡ get_or items k f → given ≡ numbers_of args →
    o ≡ begun p n k f.span given → slice_get p.functions k ≡ Some g → o ≡ call_outcome p k g args n
outcome_is p n k items f g args given o typed there all at_ numbers h is =
    let fits : AreArguments g args = subst (λ (x : Option Function). IsSomeAnd x (λ h. AreArguments h args)) is there in
    let same : f ≡ g = at_ ∙ ap (λ (l : List Function). get_or l k f) all ∙ got_or p.functions k f g is in
    h ∙ ap (begun p n k f.span) numbers ∙ ap (λ (x : Function). begun p n k x.span (numbers_of args)) same ∙ begun_is p n k g args typed is fits

settled_outcome : (w : Memory → Memory) (r : Ran) (x : Valued) → Ends w r x → IsSettled (outcome x)
settled_outcome w (gives t m1) x (n, (above, (te, me, ve, u))) = subst (λ (y : Valued). IsSettled (outcome y)) (sym ve) u
settled_outcome w (panics k) x e = subst (λ (y : Valued). IsSettled (outcome y)) (sym e) tt
settled_outcome w more x e = subst (λ (y : Valued). IsSettled (outcome y)) (sym e) tt
settled_outcome w (stuck s) x e = absurd e

begun_settled : (p : Program) (n k : ℕ) (f : Function) (args : List PValue) → IsTyped p → slice_get p.functions k ≡ Some f → AreArguments f args →
    (s : Span) → IsSettled (begun p n k s (numbers_of args))
begun_settled p n k f args typed is fits s =
    let given = numbers_are args fits.typed in
    subst (λ (o : Option (List Number)). IsSettled (begun p n k s o)) (sym given.given)
    (settled_outcome (λ new. [] ++ new) (call_at p n s k (map num given.numbers) []) (call_value p n s k given.numbers)
    ((all_same p typed n).each s k f given.numbers [] is given.u32 (given.count ∙ fits.count)))

settled_by : (p : Program) (n k : ℕ) (args : List PValue) (found : Option Function) → slice_get p.functions k ≡ found → IsTyped p →
    IsSomeAnd found (λ h. AreArguments h args) → (s : Span) → IsSettled (begun p n k s (numbers_of args))
settled_by p n k args None is typed there s = absurd there
settled_by p n k args (Some f) is typed there s = begun_settled p n k f args typed is there s

-- a typed program is never stuck, and its value is of type u32
pub outcome_settled : (p : Program) (n k : ℕ) (s : Span) (args : List PValue) (given : Option (List Number)) (o : Outcome) → IsTyped p →
    IsSomeAnd (slice_get p.functions k) (λ h. AreArguments h args) → given ≡ numbers_of args → o ≡ begun p n k s given → IsSettled o
outcome_settled p n k s args given o typed there numbers h =
    subst IsSettled (sym (h ∙ ap (begun p n k s) numbers)) (settled_by p n k args (slice_get p.functions k) refl typed there s)
