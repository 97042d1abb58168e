-- A content that is no text (PROMISES.md, "Safe and total").
use Rattle.std.specs.Prelude.{◌≡◌, ℕ, List, IsUtf8}
use Rattle.std.specs.Str.{IsValidUpTo}
use Rattle.aeneas.specs.declared.refusal.Refusal.{Refusal}
use Rattle.aeneas.specs.declared.refusal.Refusal.TheVariants as R

-- 4: the content isn't UTF-8; `valid` is the length of its longest valid front
pub record IsNoUtf8 (content : List ℕ) (refusal : Refusal) : Type 0 where
  pub valid : ℕ
  pub is : refusal ≡ R.Utf8 valid
  pub cause : IsUtf8 content → ⊥
  pub longest : IsValidUpTo content valid
