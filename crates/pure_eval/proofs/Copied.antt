-- A stack of lists that wait: one more waits, and the newest takes its value.
use Rattle.std.proofs.Common.{◌≡◌, refl, ap, sym, ◌∙◌, ◌+◌, ◌<◌, ◌≤◌, Some, None, List, [], ◌∷◌, ◌++◌, arith}
use Rattle.std.specs.Prelude.{Option}
use Rattle.pure_ast.specs.Values.{PValue, pvalues, nodes_pvalues}
use Rattle.pure_eval.specs.declared.copies.Copying.{Copying}
use Rattle.pure_eval.specs.declared.copies.Parts.{Parts}
use Rattle.pure_eval.specs.declared.copies.Waiting.{Waiting}
use Rattle.pure_eval.specs.Copying.{owned, finished, rebuilt, list_cost, stack_cost, with_found, found_cost}

rebuilt_more : (old : List Waiting) (w : Waiting) (parts : List PValue) →
    rebuilt (old ++ w ∷ []) parts ≡ rebuilt old (w.list.copied ++ owned w.owner parts ∷ w.list.left.now)
rebuilt_more [] w parts = refl
rebuilt_more (v ∷ old) w parts =
    ap (λ (xs : List PValue). v.list.copied ++ owned v.owner xs ∷ v.list.left.now) (rebuilt_more old w parts)

cost_more : (old : List Waiting) (w : Waiting) → stack_cost (old ++ w ∷ []) ≡ stack_cost old + list_cost w.list
cost_more [] w = omega arith
cost_more (v ∷ old) w = let h = cost_more old w in omega (arith, h)

-- the list that waits for the copy of a value with parts
abbrev waits : List PValue → Parts → Waiting
waits copied p = record { list = record { copied = copied; left = p.left }; owner = p.owner }

pub opened_meaning : (old new : List Waiting) (p : Parts) (found : Option Parts) (copied fresh all whole : List PValue) →
    found ≡ Some p → new ≡ old ++ waits copied p ∷ [] → fresh ≡ [] →
    with_found copied found ≡ all → rebuilt old all ≡ whole → rebuilt new (fresh ++ p.parts.now) ≡ whole
opened_meaning old new p found copied fresh all whole a b c d e =
    ap (λ (s : List Waiting). rebuilt s (fresh ++ p.parts.now)) b
    ∙ ap (λ (xs : List PValue). rebuilt (old ++ waits copied p ∷ []) (xs ++ p.parts.now)) c
    ∙ rebuilt_more old (waits copied p) p.parts.now ∙ ap (rebuilt old) (sym (ap (with_found copied) a) ∙ d) ∙ e

pub opened_cost : (old new : List Waiting) (p : Parts) (found : Option Parts) (copied : List PValue) (list : Copying) →
    found ≡ Some p → new ≡ old ++ waits copied p ∷ [] → found_cost found ≤ list_cost list →
    stack_cost new + nodes_pvalues (pvalues p.parts.now) < stack_cost old + list_cost list
opened_cost old new p found copied list a b c =
    let h = ap stack_cost b ∙ cost_more old (waits copied p) in
    let k = ap found_cost a in
    omega (arith, h, k, c)

pub closed_meaning : (stack old : List Waiting) (w : Waiting) (next : Copying) (found : Option Parts) (copied all whole : List PValue) →
    found ≡ None → stack ≡ old ++ w ∷ [] → finished next ≡ w.list.copied ++ owned w.owner copied ∷ w.list.left.now →
    with_found copied found ≡ all → rebuilt stack all ≡ whole → rebuilt old (finished next) ≡ whole
closed_meaning stack old w next found copied all whole a b c d e =
    ap (rebuilt old) c ∙ sym (rebuilt_more old w copied) ∙ ap (λ (s : List Waiting). rebuilt s copied) (sym b)
    ∙ ap (rebuilt stack) (sym (ap (with_found copied) a) ∙ d) ∙ e

pub closed_cost : (stack old : List Waiting) (w : Waiting) (list next : Copying) (found : Option Parts) →
    found ≡ None → stack ≡ old ++ w ∷ [] → list_cost next ≡ list_cost w.list → found_cost found ≤ list_cost list →
    stack_cost old + list_cost next < stack_cost stack + list_cost list
closed_cost stack old w list next found a b c d =
    let h = ap stack_cost b ∙ cost_more old w in
    let k = ap found_cost a in
    omega (arith, h, k, c, d)
