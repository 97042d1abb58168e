-- Names each of which is not among those before it differ.
use Rattle.std.proofs.Common.{◌≡◌, refl, sym, subst, ◌∙◌, ℕ, suc, Bool, true, false, List, [], ◌∷◌, ◌++◌, append_assoc, Option, Some, None}
use Rattle.std.specs.Prelude.{not, ◌||◌, if◌then◌else◌, is_some, bytes_eq}
use Rattle.std.specs.Cmp.Lexicographic.{bytes_decides}
use Rattle.std.specs.Option.{option_map}
use Rattle.text_meaning.specs.Lists.{Each, Differ}
use Rattle.raw_ast.specs.declared.spelling.Spelling.{Spelling}
use Rattle.raw_meaning.specs.OptionLemmas.{unbroken}
use Rattle.raw_meaning.specs.Outlines.{place_of, is_in}
use Rattle.raw_meaning.specs.Rules.{new_type, new_member}
use Rattle.raw_forms.specs.Lists.{differ_last}

-- no item is this one
abbrev pub IsNew : {A : Type 0} → A → List A → Type 0
IsNew x xs = Each (λ y. y ≡ x → ⊥) xs

differ_bytes : (m n : List ℕ) → bytes_eq m n ≡ false → m ≡ n → ⊥
differ_bytes m n h e = let t = (bytes_decides m n).1 e in let c : false ≡ true = sym h ∙ t in absurd cc

in_by : (b : Bool) (m : List ℕ) (o : Option ℕ) (ms : List (List ℕ)) (n : List ℕ) → (b ≡ false → m ≡ n → ⊥) → (is_some o ≡ false → IsNew n ms) →
    is_some (if b then Some 0 else option_map (λ k. suc k) o) ≡ false → IsNew n (m ∷ ms)
in_by true m o ms n f g h = absurd cc
in_by false m None ms n f g h = (f refl, g refl)
in_by false m (Some k) ms n f g h = absurd cc

pub not_in : (n : List ℕ) (ns : List (List ℕ)) → is_in n ns ≡ false → IsNew n ns
not_in n [] h = tt
not_in n (m ∷ ms) h = in_by (bytes_eq m n) m (place_of ms n) ms n (differ_bytes m n) (not_in n ms) h

pub not_is : (b : Bool) → not b ≡ true → b ≡ false
not_is true h = absurd cc
not_is false h = refl

neither : (a b : Bool) → not (a || b) ≡ true → (a ≡ false) × (b ≡ false)
neither true b h = absurd cc
neither false true h = absurd cc
neither false false h = (refl, refl)

-- a name that is new among types and type parameters
pub new_name : (types parameters : List (List ℕ)) (s : Spelling) → new_type types parameters s ≡ [] → IsNew s.text types × IsNew s.text parameters
new_name types parameters s h =
    let n = neither (is_in s.text types) (is_in s.text parameters) (unbroken (not (is_in s.text types || is_in s.text parameters)) s.span h) in
    (not_in s.text types n.0, not_in s.text parameters n.1)

-- a variant or a field that is new
pub new_part : (members : List (List ℕ)) (s : Spelling) → new_member members s ≡ [] → IsNew s.text members
new_part members s h = not_in s.text members (not_is (is_in s.text members) (unbroken (not (is_in s.text members)) s.span h))

-- a new item before others
pub differ_next : {A : Type 0} (xs : List A) (x : A) (ys : List A) → Differ xs → IsNew x xs → (Differ (xs ++ x ∷ []) → Differ ((xs ++ x ∷ []) ++ ys)) → Differ (xs ++ x ∷ ys)
differ_next xs x ys d n f = subst Differ (append_assoc xs (x ∷ []) ys) (f (differ_last xs x d n))
