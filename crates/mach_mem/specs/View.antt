-- What is seen of a memory in code: its cells in order, each as its table tells.
use Rattle.std.specs.Prelude.{ℕ, zero, suc, List, [], ◌∷◌, ◌++◌}
use Rattle.mach_mem.specs.Memory.{Slot}

abbrev pub cells_to : (ℕ → Slot) → ℕ → List Slot
cells_to f zero = []
cells_to f (suc n) = cells_to f n ++ f n ∷ []
