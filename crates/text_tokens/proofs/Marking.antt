-- The name between marks, where they hold a text and where they hold none.
use Rattle.std.proofs.Common.{◌≡◌, refl, Bool, true, false, List, ℕ, Option, None}
use Rattle.std.specs.Prelude.{IsUtf8, chars, if◌then◌else◌}
use Rattle.std.specs.Str.{is_utf8}
use Rattle.std.proofs.lemmas.Str.{IsUtf8-from_is_utf8, is_utf8-from_IsUtf8}
use Rattle.text_tokens.specs.Scan.{marked_name, spelled_name}

none_by : (b : Bool) (o : Option (List ℕ)) → (b ≡ true → ⊥) → None ≡ (if b then o else None)
none_by true o h = absurd (h refl)
none_by false o h = refl

pub not_text : (inner : List ℕ) → (IsUtf8 inner → ⊥) → None ≡ marked_name inner
unfolding marked_name
not_text inner h = none_by (is_utf8 inner) (spelled_name (chars inner)) (λ e. h (IsUtf8-from_is_utf8 inner e))

pub text_name : (inner : List ℕ) → IsUtf8 inner → spelled_name (chars inner) ≡ marked_name inner
unfolding marked_name
text_name inner h = let e = is_utf8-from_IsUtf8 inner h in rw e refl
