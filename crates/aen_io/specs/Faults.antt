-- Counts of faults: how many times the outside failed, as far as 64 bits can count.
use Rattle.std.specs.Prelude.{ℕ, ◌+◌, ◌-◌, ◌^◌, ◌≤◌, min}

-- one more, where the count has not reached its last value, 2^64 - 1 (PROMISES.md, "Safe and total")
abbrev pub counted : ℕ → ℕ
counted n = min (n + 1) (2 ^ 64 - 1)

-- a fault was counted between the two: the count is greater after, or it already stood at its
-- last value (PROMISES.md, "Safe and total")
abbrev pub Rose : ℕ → ℕ → Type 0
Rose before after = counted before ≤ after
