-- The first entry of a name, one entry on.
use Rattle.std.proofs.Common.{◌≡◌, ℕ, ◌+◌, ◌<◌, Bool, true, false, cond, List, ◌∷◌, length, get_or, drop, Option, Some, refl, ap, ◌∙◌, sym}
use Rattle.std.proofs.lemmas.List.{at_drop_more}
use Rattle.std.proofs.lemmas.Slice.Eq.{bytes_eq-Decides}
use Rattle.std.specs.Bool.{Decides}
use Rattle.std.specs.Str.{bytes_eq}
use Rattle.aen_io.specs.InMemory.{content_of}

pub content_at : (files : List (List ℕ × List ℕ)) (i : ℕ) (e : List ℕ × List ℕ) (name : List ℕ) → i < length files → e ≡ get_or files i e
    → content_of (drop i files) name ≡ cond (bytes_eq e.0 name) (Some e.1) (content_of (drop (i + 1) files) name)
content_at files i e name h is =
    at_drop_more (λ xs. content_of xs name) files i e h ∙ ap (λ (x : List ℕ × List ℕ). content_of (x ∷ drop (i + 1) files) name) (sym is)

is_false : (b : Bool) (P : Type 0) → Decides b P → (P → ⊥) → b ≡ false
is_false true P d n = absurd (n (d.0 refl))
is_false false P d n = refl

pub content_hit : (files : List (List ℕ × List ℕ)) (i : ℕ) (e : List ℕ × List ℕ) (name : List ℕ) (o : Option (List ℕ)) → i < length files → e ≡ get_or files i e
    → content_of (drop i files) name ≡ o → e.0 ≡ name → Some e.1 ≡ o
content_hit files i e name o h is inv same =
    let t = (bytes_eq-Decides e.0 name).1 same in
    sym (content_at files i e name h is ∙ ap (λ b. cond b (Some e.1) (content_of (drop (i + 1) files) name)) t) ∙ inv

pub content_miss : (files : List (List ℕ × List ℕ)) (i : ℕ) (e : List ℕ × List ℕ) (name : List ℕ) (o : Option (List ℕ)) → i < length files → e ≡ get_or files i e
    → content_of (drop i files) name ≡ o → (e.0 ≡ name → ⊥) → content_of (drop (i + 1) files) name ≡ o
content_miss files i e name o h is inv differ =
    let t = is_false (bytes_eq e.0 name) (e.0 ≡ name) (bytes_eq-Decides e.0 name) differ in
    sym (content_at files i e name h is ∙ ap (λ b. cond b (Some e.1) (content_of (drop (i + 1) files) name)) t) ∙ inv
