-- The machine's memory at a call whose declared variables are numbers.
use Rattle.std.proofs.Common.{◌≡◌, ℕ, ◌<◌, ◌≤◌, List, [], ◌∷◌, ◌++◌, length, map, refl, ap, ◌∙◌, arith}
use Rattle.std.specs.Prelude.{slice_get, slice_set, Some, option_and_then}
use Rattle.std.specs.Option.{option_map}
use Rattle.std.proofs.lemmas.List.{length-map}
use Rattle.std.proofs.lemmas.Option.{slice_get_within, slice_get-map}
use Rattle.aen_base.specs.Numbers.{Number}
use Rattle.source_meaning.specs.Memory.{num, Cell, holds, Memory, read_cell, write_cell}
use Rattle.source_meaning.specs.Machine.{made_cells}
use Rattle.source_meaning.specs.FrameLemmas as laws
use Rattle.source_meaning.specs.FrameLemmas.{frame, made_held, made_empty, frame_read, frame_write}

-- the declared variables' cells hold their numbers, and the others are empty
abbrev pub cells : List (List ℕ) → List Number → List Cell
cells variables vars = made_cells variables (map num vars)

cells_set : (variables : List (List ℕ)) (vars : List Number) (n : Number) → length vars < length variables →
    slice_set (cells variables vars) (length vars) (holds (num n)) ≡ cells variables (vars ++ n ∷ [])
cells_set [] vars n lt = absurd (omega arith)
cells_set (v ∷ variables) [] n lt = refl
cells_set (v ∷ variables) (x ∷ vars) n lt = ap (λ (l : List Cell). holds (num x) ∷ l) (cells_set variables vars n (omega arith))

module _ (old : Memory) (variables : List (List ℕ)) where
  abbrev pub whole_memory : List Number → Memory → Memory
  whole_memory vars more = laws.whole_memory old variables (cells variables vars) more

  -- reading a declared variable
  pub variable_read : (vars : List Number) (more : Memory) (k : ℕ) (n : Number) → length vars ≤ length variables → slice_get vars k ≡ Some n →
      option_and_then (read_cell (whole_memory vars more)) (slice_get (frame old variables) k) ≡ Some (num n)
  variable_read vars more k n le is =
      let below = slice_get_within vars k n is in
      let size = length-map vars num in
      frame_read old variables (cells variables vars) more k (num n) (omega arith)
      (made_held variables (map num vars) k (num n) (omega arith) (slice_get-map num vars k ∙ ap (option_map num) is))

  -- writing the next variable
  pub variable_write : (vars : List Number) (more : Memory) (n : Number) → length vars < length variables →
      option_and_then (λ a. write_cell (whole_memory vars more) a (num n)) (slice_get (frame old variables) (length vars)) ≡ Some (whole_memory (vars ++ n ∷ []) more)
  variable_write vars more n lt =
      let size = length-map vars num in
      frame_write old variables (cells variables vars) more (length vars) (num n) lt (made_empty variables (map num vars) (length vars) (omega arith) lt)
      ∙ ap (λ (l : List Cell). Some (laws.whole_memory old variables l more)) (cells_set variables vars n lt)
