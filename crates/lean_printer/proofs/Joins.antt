-- Texts that are added one after another, and lists taken apart at their first item.
use Rattle.std.proofs.Common.{◌≡◌, refl, ap, sym, ◌∙◌, ℕ, zero, suc, ◌+◌, ◌-◌, ◌<◌, ◌≤◌, Some, None, List, [], ◌∷◌, ◌++◌, length, get_or, take, drop, append_assoc, arith}
use Rattle.std.specs.Prelude.{slice_get, codes}
use Rattle.std.specs.Option.{option_map, option_and_then}
use Rattle.std.proofs.Math.Seq.{take-length}
use Rattle.pure_ast.specs.declared.def.PType.{PType}
use Rattle.text_meaning.specs.Lookups.{Variant, or_empty}
use Rattle.text_meaning.specs.ShownCode.{spaces, new_line}
use Rattle.text_meaning.specs.ShownLemmas.{variables_from}
use Rattle.text_meaning.specs.Tokens.{var_text}

pub first_and_rest : {A : Type 0} (xs : List A) (x : A) → 1 ≤ length xs → x ≡ get_or xs 0 x → xs ≡ x ∷ take (length xs - 1) (drop 1 xs)
first_and_rest [] x h e = absurd (omega (arith, h))
first_and_rest (y ∷ ys) x h e =
    let count : suc (length ys) - 1 ≡ length ys = omega arith in
    λ i. (sym e i) ∷ (sym (take-length ys) ∙ ap (λ n. take n ys) (sym count)) i

-- the name of a variant that is there, and of one that is not
pub variant_found : (types from : List PType) (variants : List Variant) (t k : ℕ) (d : PType) (v : Variant) →
    from ≡ types → Some d ≡ slice_get from t → variants ≡ d.variants → Some v ≡ slice_get variants k →
    v.0 ≡ or_empty (option_map (λ w. w.0) (option_and_then (λ e. slice_get e.variants k) (slice_get types t)))
variant_found types from variants t k d v a b c e =
    ap (λ o. or_empty (option_map (λ w. w.0) o)) (e ∙ ap (λ l. slice_get l k) c ∙ ap (option_and_then (λ x. slice_get x.variants k)) (b ∙ ap (λ l. slice_get l t) a))

pub variant_missing : (types from : List PType) (variants : List Variant) (t k : ℕ) (d : PType) →
    from ≡ types → Some d ≡ slice_get from t → variants ≡ d.variants → None ≡ slice_get variants k →
    [] ≡ or_empty (option_map (λ w. w.0) (option_and_then (λ e. slice_get e.variants k) (slice_get types t)))
variant_missing types from variants t k d a b c e =
    ap (λ o. or_empty (option_map (λ w. w.0) o)) (e ∙ ap (λ l. slice_get l k) c ∙ ap (option_and_then (λ x. slice_get x.variants k)) (b ∙ ap (λ l. slice_get l t) a))

spaces_more : (k : ℕ) → spaces k ++ (32 ∷ []) ≡ spaces (suc k)
spaces_more zero = refl
spaces_more (suc k) = ap (λ l. 32 ∷ l) (spaces_more k)

-- one more space
pub line_more : (old : List ℕ) (k : ℕ) → (old ++ new_line k) ++ (32 ∷ []) ≡ old ++ new_line (k + 1)
line_more old k =
    let next : suc k ≡ k + 1 = omega arith in
    append_assoc old (new_line k) (32 ∷ []) ∙ ap (λ l. old ++ (10 ∷ l)) (spaces_more k ∙ ap spaces next)

-- a head of five pieces, and three more
pub head_and_rest : (old a b c d e f g h n1 n2 n3 n4 : List ℕ) → n1 ≡ old ++ (a ++ (b ++ (c ++ (d ++ e)))) → n2 ≡ n1 ++ f → n3 ≡ n2 ++ g → n4 ≡ n3 ++ h →
    n4 ≡ old ++ (a ++ (b ++ (c ++ (d ++ (e ++ (f ++ (g ++ h)))))))
head_and_rest old a b c d e f g h n1 n2 n3 n4 p q r s = simp (s, r, q, p, append_assoc) refl

-- one more variable of those that a lemma's hypothesis lists
variables_step : (k count : ℕ) → k < count → variables_from k (count - k) ≡ codes " " ++ (var_text k ++ variables_from (k + 1) (count - (k + 1)))
variables_step k count h =
    let left : count - k ≡ suc (count - (k + 1)) = omega (arith, h) in
    let next : suc k ≡ k + 1 = omega arith in
    ap (variables_from k) left ∙ ap (λ n. codes " " ++ (var_text k ++ variables_from n (count - (k + 1)))) next

pub variables_turn : (old out n1 n2 : List ℕ) (k count : ℕ) → k < count → n1 ≡ out ++ codes " " → n2 ≡ n1 ++ var_text k →
    out ++ variables_from k (count - k) ≡ old ++ variables_from 0 count → n2 ++ variables_from (k + 1) (count - (k + 1)) ≡ old ++ variables_from 0 count
variables_turn old out n1 n2 k count h p q inv =
    ap (λ n. n ++ variables_from (k + 1) (count - (k + 1))) (q ∙ ap (λ n. n ++ var_text k) p)
    ∙ append_assoc (out ++ codes " ") (var_text k) (variables_from (k + 1) (count - (k + 1)))
    ∙ append_assoc out (codes " ") (var_text k ++ variables_from (k + 1) (count - (k + 1)))
    ∙ ap (λ l. out ++ l) (sym (variables_step k count h)) ∙ inv
