-- The text's environment when its variables are numbered in order: variable k has value k.
use Rattle.std.proofs.Common.{◌≡◌, ℕ, zero, suc, ◌+◌, ◌<◌, List, [], ◌∷◌, ◌++◌, length, map, refl, ap, sym, ◌∙◌, arith, eq-eqb, ne_eqb}
use Rattle.std.proofs.lemmas.List.{length-map, map_push}
use Rattle.std.proofs.lemmas.Option.{slice_get-map}
use Rattle.std.specs.Prelude.{◌==◌, slice_get, Some, None, ℤ, if◌then◌else◌}
use Rattle.std.specs.Option.{option_map, option_or}
use Rattle.aen_base.specs.Numbers.{Number}
use Rattle.aen_base.specs.Arithmetic.{number as number_of}
use Rattle.aen_base.specs.declared.int_ty.IntTy.TheVariants.{U32}
use Rattle.pure_ast.specs.Values as v
use Rattle.pure_ast.specs.Values.{PValue}
use Rattle.source_meaning.specs.Memory.{MTree, num}
use Rattle.source_meaning.specs.PlaceLemmas.{get_left_some}
use Rattle.text_meaning.specs.Environment.{Environment, lookup, numbered, arguments, with_value}
use Rattle.text_meaning.specs.Terms.{term_value}
use Rattle.translate.specs.declared.atom.Atom.{Atom}
use Rattle.translate.specs.declared.atom.Atom.TheVariants as A
use Rattle.translate.specs.Emit.{term_of}

-- a u32 on each side
abbrev pub whole : ℤ → Number
whole z = number_of U32 z

abbrev pub tree : ℤ → MTree
tree z = num (whole z)

abbrev pub value : ℤ → PValue
value z = v.number (whole z)

abbrev pub env : List ℤ → Environment
env vs = arguments (map value vs)

-- what an atom stands for where the variables have these values
abbrev pub AtomIs : List ℤ → Atom → ℤ → Type 0
AtomIs vs (A.Variable k) z = slice_get vs k ≡ Some z
AtomIs vs (A.Number n) z = n ≡ whole z

missing : (j : ℕ) (values : List PValue) (k : ℕ) → k < j → lookup (numbered j values) k ≡ None
missing j [] k h = refl
missing j (a ∷ values) k h =
    ap (λ o. option_or o (if j == k then Some a else None)) (missing (suc j) values k (omega arith))
    ∙ ap (λ b. if b then Some a else None) (ne_eqb j k (λ (e : j ≡ k). omega arith))

present : (j : ℕ) (values : List PValue) (i : ℕ) (k : ℕ) (a : PValue) → k ≡ j + i →
    slice_get values i ≡ Some a → lookup (numbered j values) k ≡ Some a
present j [] i k a e h = cc
present j (x ∷ values) zero k a e h =
    ap (λ o. option_or o (if j == k then Some x else None)) (missing (suc j) values k (omega arith))
    ∙ ap (λ b. if b then Some x else None) (eq-eqb j k (omega arith)) ∙ h
present j (x ∷ values) (suc i) k a e h =
    ap (λ o. option_or o (if j == k then Some x else None)) (present (suc j) values i k a (omega arith) h)

-- the value of a variable
pub lookup_value : (vs : List ℤ) (k : ℕ) (z : ℤ) → slice_get vs k ≡ Some z → lookup (env vs) k ≡ Some (value z)
lookup_value vs k z h = present 0 (map value vs) k k (value z) (omega arith) (slice_get-map value vs k ∙ ap (option_map value) h)

numbered_more : (j : ℕ) (values : List PValue) (a : PValue) (n : ℕ) → n ≡ j + length values →
    numbered j (values ++ a ∷ []) ≡ numbered j values ++ (n, a) ∷ []
numbered_more j [] a n e = let same : j ≡ n = omega arith in ap (λ i. (i, a) ∷ []) same
numbered_more j (x ∷ values) a n e = ap (λ l. (j, x) ∷ l) (numbered_more (suc j) values a n (omega arith))

-- the environment after the next variable has its value
pub env_more : (vs : List ℤ) (z : ℤ) → with_value (env vs) (length vs) (value z) ≡ env (vs ++ z ∷ [])
env_more vs z =
    let e = length-map vs value in
    sym (ap (numbered 0) (map_push value vs z) ∙ numbered_more 0 (map value vs) (value z) (length vs) (omega arith))

pub term_is : (vs : List ℤ) (a : Atom) (z : ℤ) → AtomIs vs a z → term_value (env vs) (term_of a) ≡ Some (value z)
term_is vs (A.Variable k) z h = lookup_value vs k z h
term_is vs (A.Number n) z h = ap (λ m. Some (v.number m)) h

pub atom_more : (vs ws : List ℤ) (a : Atom) (z : ℤ) → AtomIs vs a z → AtomIs (vs ++ ws) a z
atom_more vs ws (A.Variable k) z h = get_left_some vs ws k z h
atom_more vs ws (A.Number n) z h = h
