-- Arguments one by one.
use Rattle.std.proofs.Common.{◌≡◌, ℕ, zero, suc, ◌+◌, ◌<◌, List, [], ◌∷◌, ◌++◌, length, get_or, take, drop, refl, ap, ◌∙◌, sym, arith}
use Rattle.sums_ast.specs.declared.function.Function.{Function}
use Rattle.text_meaning.specs.Lists.{Each}
use Rattle.translate.specs.Emit.{definition, definitions}

pub drop_item : {X : Type 0} (xs : List X) (i : ℕ) (x : X) → i < length xs → x ≡ get_or xs i x → drop i xs ≡ x ∷ drop (i + 1) xs
drop_item [] i x h e = absurd (omega arith)
drop_item (y ∷ xs) zero x h e = ap (λ z. z ∷ xs) (sym e)
drop_item (y ∷ xs) (suc i) x h e =
    let one : suc i + 1 ≡ suc (i + 1) = omega arith in
    drop_item xs i x (omega arith) e ∙ ap (λ j. x ∷ drop j (y ∷ xs)) (sym one)

pub drop_all : {X : Type 0} (xs : List X) (i : ℕ) → length xs ≡ i → drop i xs ≡ []
drop_all [] zero e = refl
drop_all [] (suc i) e = refl
drop_all (x ∷ xs) zero e = absurd (omega arith)
drop_all (x ∷ xs) (suc i) e = drop_all xs i (omega arith)

pub take_item : {X : Type 0} (xs : List X) (i : ℕ) (x : X) → i < length xs → x ≡ get_or xs i x → take (i + 1) xs ≡ take i xs ++ x ∷ []
take_item [] i x h e = absurd (omega arith)
take_item (y ∷ xs) zero x h e = ap (λ z. z ∷ []) (sym e)
take_item (y ∷ xs) (suc i) x h e =
    let one : suc i + 1 ≡ suc (i + 1) = omega arith in
    ap (λ j. take j (y ∷ xs)) one ∙ ap (λ l. y ∷ l) (take_item xs i x (omega arith) e)

pub each_push : {X : Type 0} (P : X → Type 0) (xs : List X) (x : X) → Each P xs → P x → Each P (xs ++ x ∷ [])
each_push P [] x h hx = (hx, tt)
each_push P (y ∷ xs) x (hy, h) hx = (hy, each_push P xs x h hx)

pub definitions_push : (k : ℕ) (fs : List Function) (f : Function) (j : ℕ) → j ≡ k + length fs →
    definitions k (fs ++ f ∷ []) ≡ definitions k fs ++ definition j f ∷ []
definitions_push k [] f j e = let same : k ≡ j = omega arith in ap (λ i. definition i f ∷ []) same
definitions_push k (g ∷ fs) f j e = ap (λ l. definition k g ∷ l) (definitions_push (k + 1) fs f j (omega arith))
