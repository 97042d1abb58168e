-- Variables whose numbers ascend.
use Rattle.std.specs.Prelude.{ℕ, suc, ◌≤◌, [], ◌∷◌}
use Rattle.text_meaning.specs.Environment.{Environment}

-- each number is above the one before it, all of them from low on and below high
abbrev pub Ascends : ℕ → ℕ → Environment → Type 0
Ascends low high [] = low ≤ high
Ascends low high (e ∷ env) = (low ≤ e.0) × Ascends (suc e.0) high env
