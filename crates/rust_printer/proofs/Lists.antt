-- A list taken apart at its first item.
use Rattle.std.proofs.Common.{◌≡◌, ap, sym, ◌∙◌, suc, ◌-◌, ◌≤◌, List, [], ◌∷◌, length, get_or, take, drop, arith}
use Rattle.std.proofs.Math.Seq.{take-length}

pub first_and_rest : {A : Type 0} (xs : List A) (x : A) → 1 ≤ length xs → x ≡ get_or xs 0 x → xs ≡ x ∷ take (length xs - 1) (drop 1 xs)
first_and_rest [] x h e = absurd (omega (arith, h))
first_and_rest (y ∷ ys) x h e =
    let count : suc (length ys) - 1 ≡ length ys = omega arith in
    λ i. (sym e i) ∷ (sym (take-length ys) ∙ ap (λ n. take n ys) (sym count)) i
