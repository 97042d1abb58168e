-- The patterns of arms in a list.
use Rattle.std.proofs.Common.{◌≡◌, ℕ, ◌≤◌, List, [], ◌∷◌, length, map, take, refl, ap, sym, ◌∙◌}
use Rattle.std.proofs.lemmas.List.{take_all}
use denote.Bor.{Bor}
use Rattle.rust_ast.specs.Spelled as s
use Rattle.rust_ast.specs.SpelledPatterns as q
use Rattle.type_rules.specs.Branches.{patterns_of}

patterns_are : (xs : List (q.Pat × s.Val)) → patterns_of (s.arms xs) ≡ map (λ (x : q.Pat × s.Val). x.0) xs
patterns_are [] = refl
patterns_are (x ∷ xs) = ap (λ ps. x.0 ∷ ps) (patterns_are xs)

-- what was taken of all arms
pub taken_are : (all ps : List (Bor q.Pat)) (xs : List (q.Pat × s.Val)) (n : ℕ) → all ≡ ps → map (λ (p : Bor q.Pat). p.now) ps ≡ map (λ (x : q.Pat × s.Val). x.0) (take n xs) → length xs ≤ n →
    map (λ (p : Bor q.Pat). p.now) all ≡ patterns_of (s.arms xs)
taken_are all ps xs n e h l =
    ap (map (λ (p : Bor q.Pat). p.now)) e ∙ h ∙ ap (map (λ (x : q.Pat × s.Val). x.0)) (take_all n xs l) ∙ sym (patterns_are xs)
