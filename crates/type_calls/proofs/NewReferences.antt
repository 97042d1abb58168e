-- Whether a reference is newly found, parameter by parameter.
use Rattle.std.proofs.Common.{◌≡◌, ℕ, zero, suc, ◌+◌, ◌<◌, List, [], ◌∷◌, length, get_or, drop, refl, ap, sym, ◌∙◌, arith, slice_get}
use Rattle.std.specs.Prelude.{Bool, true, false, ◌||◌, Option, Some, None}
use Rattle.core_ty.specs.Types as t
use Rattle.type_calls.specs.Found.{new_reference}
use Rattle.type_rules.specs.Matching.{Finds, finds_reference}

abbrev Find : Type 0
Find = Option t.Ty

plus_one : (i : ℕ) → suc i ≡ i + 1
plus_one i = omega arith

none_after : (bs : Finds) → finds_reference bs [] ≡ false
none_after [] = refl
none_after (None ∷ bs) = refl
none_after (Some x ∷ bs) = refl

first : (b p : Find) (bs ps : Finds) → finds_reference (b ∷ bs) (p ∷ ps) ≡ (new_reference b (Some p) || finds_reference bs ps)
first None None bs ps = refl
first None (Some y) bs ps = refl
first (Some x) None bs ps = refl
first (Some x) (Some y) bs ps = refl

no_news : (b : Find) → new_reference b None ≡ false
no_news None = refl
no_news (Some x) = refl

nothing_at : (i : ℕ) (ps : Finds) → ps ≡ [] → slice_get ps i ≡ None
nothing_at zero [] h = refl
nothing_at (suc i) [] h = refl
nothing_at i (p ∷ ps) h = absurd cc

turn : (bs ps : Finds) (i : ℕ) (b : Find) → i < length bs → b ≡ get_or bs i b →
    finds_reference (drop i bs) (drop i ps) ≡ (new_reference b (slice_get ps i) || finds_reference (drop (suc i) bs) (drop (suc i) ps))
turn [] ps i b h q = absurd (omega arith)
turn (c ∷ bs) [] zero b h q = none_after (c ∷ bs) ∙ sym (ap (λ n. n || finds_reference bs []) (no_news b) ∙ none_after bs)
turn (c ∷ bs) (p ∷ ps) zero b h q = first c p bs ps ∙ ap (λ z. new_reference z (Some p) || finds_reference bs ps) (sym q)
turn (c ∷ bs) [] (suc i) b h q =
    none_after (drop i bs)
    ∙ sym (ap (λ o. new_reference b o || finds_reference (drop (suc i) bs) []) (nothing_at (suc i) [] refl) ∙ ap (λ n. n || finds_reference (drop (suc i) bs) []) (no_news b) ∙ none_after (drop (suc i) bs))
turn (c ∷ bs) (p ∷ ps) (suc i) b h q = turn bs ps i b (omega arith) q

-- where none is found at one parameter, the others decide
pub goes : (bs ps : Finds) (i : ℕ) (b : Find) → i < length bs → b ≡ get_or bs i b → false ≡ new_reference b (slice_get ps i) →
    finds_reference (drop (i + 1) bs) (drop (i + 1) ps) ≡ finds_reference (drop i bs) (drop i ps)
goes bs ps i b h q e =
    ap (λ n. finds_reference (drop n bs) (drop n ps)) (sym (plus_one i))
    ∙ ap (λ n. n || finds_reference (drop (suc i) bs) (drop (suc i) ps)) e
    ∙ sym (turn bs ps i b h q)

-- where one is, it is
pub stops : (bs ps : Finds) (i : ℕ) (b : Find) → i < length bs → b ≡ get_or bs i b → true ≡ new_reference b (slice_get ps i) →
    true ≡ finds_reference (drop i bs) (drop i ps)
stops bs ps i b h q e = ap (λ n. n || finds_reference (drop (suc i) bs) (drop (suc i) ps)) e ∙ sym (turn bs ps i b h q)
