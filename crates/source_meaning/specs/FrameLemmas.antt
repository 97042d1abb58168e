-- The machine's memory at a call: what was there before, the cells of the frame, and what came after
-- (LANGUAGE.md, "Memory").
use Rattle.std.proofs.Common.{◌≡◌, ℕ, zero, suc, ◌+◌, ◌<◌, ◌≤◌, List, [], ◌∷◌, ◌++◌, length, refl, ap, ◌∙◌, arith, append_assoc}
use Rattle.std.specs.Prelude.{slice_get, slice_set, Option, Some, None, option_and_then}
use Rattle.std.proofs.lemmas.Option.{slice_get_within}
use Rattle.source_meaning.specs.Memory.{MTree, Cell, empty, gone, holds, held, Memory, read_cell, write_cell, write_to, drop_frame}
use Rattle.source_meaning.specs.Machine.{Frame, frame_from, made_cells}
use Rattle.source_meaning.specs.PlaceLemmas.{get_left, get_right, set_left, set_right}

-- at a call the first cells hold the arguments, and the others are empty
pub made_size : (variables : List (List ℕ)) (args : List MTree) → length (made_cells variables args) ≡ length variables
made_size [] args = refl
made_size (v ∷ variables) [] = ap suc (made_size variables [])
made_size (v ∷ variables) (a ∷ args) = ap suc (made_size variables args)

abbrev option_held : Option MTree → Option Cell
option_held None = None
option_held (Some t) = Some (holds t)

pub made_held : (variables : List (List ℕ)) (args : List MTree) (k : ℕ) (t : MTree) → length args ≤ length variables → slice_get args k ≡ Some t →
    slice_get (made_cells variables args) k ≡ Some (holds t)
made_held variables [] k t le h = cc
made_held [] (a ∷ args) k t le h = absurd (omega arith)
made_held (v ∷ variables) (a ∷ args) zero t le h = ap (λ (o : Option MTree). option_held o) h
made_held (v ∷ variables) (a ∷ args) (suc k) t le h = made_held variables args k t (omega arith) h

pub made_empty : (variables : List (List ℕ)) (args : List MTree) (k : ℕ) → length args ≤ k → k < length variables →
    slice_get (made_cells variables args) k ≡ Some empty
made_empty [] args k low high = absurd (omega arith)
made_empty (v ∷ variables) [] zero low high = refl
made_empty (v ∷ variables) [] (suc k) low high = made_empty variables [] k (omega arith) (omega arith)
made_empty (v ∷ variables) (a ∷ args) zero low high = absurd (omega arith)
made_empty (v ∷ variables) (a ∷ args) (suc k) low high = made_empty variables args k (omega arith) (omega arith)

frame_get : (variables : List (List ℕ)) (n k : ℕ) → k < length variables → slice_get (frame_from n variables) k ≡ Some (n + k)
frame_get [] n k h = absurd (omega arith)
frame_get (v ∷ variables) n zero h = let e : n ≡ n + 0 = omega arith in ap Some e
frame_get (v ∷ variables) n (suc k) h =
    let e : n + 1 + k ≡ n + suc k = omega arith in
    frame_get variables (n + 1) k (omega arith) ∙ ap Some e

drop_from : (variables : List (List ℕ)) (old above : Memory) (n j : ℕ) → n ≡ length old + j →
    drop_frame (frame_from n variables) (old ++ above) ≡ old ++ drop_frame (frame_from j variables) above
drop_from [] old above n j e = refl
drop_from (v ∷ variables) old above n j e =
    ap (λ (i : ℕ). drop_frame (frame_from (n + 1) variables) (slice_set (old ++ above) i gone)) e
    ∙ ap (drop_frame (frame_from (n + 1) variables)) (set_right old above j gone)
    ∙ drop_from variables old (slice_set above j gone) (n + 1) (j + 1) (omega arith)

module _ (old : Memory) (variables : List (List ℕ)) where
  abbrev pub frame : Frame
  frame = frame_from (length old) variables

  abbrev pub whole_memory : List Cell → Memory → Memory
  whole_memory cells more = old ++ (cells ++ more)

  cell_get : (cells : List Cell) (more : Memory) (k : ℕ) → k < length cells → slice_get (whole_memory cells more) (length old + k) ≡ slice_get cells k
  cell_get cells more k h = get_right old (cells ++ more) k ∙ get_left cells more k h

  -- reading a variable whose cell holds a tree
  pub frame_read : (cells : List Cell) (more : Memory) (k : ℕ) (t : MTree) → k < length variables → slice_get cells k ≡ Some (holds t) →
      option_and_then (read_cell (whole_memory cells more)) (slice_get frame k) ≡ Some t
  frame_read cells more k t h is =
      let below = slice_get_within cells k (holds t) is in
      ap (option_and_then (read_cell (whole_memory cells more))) (frame_get variables (length old) k h)
      ∙ ap (option_and_then held) (cell_get cells more k below ∙ is)

  -- writing a variable whose cell is empty
  pub frame_write : (cells : List Cell) (more : Memory) (k : ℕ) (t : MTree) → k < length variables → slice_get cells k ≡ Some empty →
      option_and_then (λ a. write_cell (whole_memory cells more) a t) (slice_get frame k) ≡ Some (whole_memory (slice_set cells k (holds t)) more)
  frame_write cells more k t h is =
      let below = slice_get_within cells k empty is in
      ap (option_and_then (λ a. write_cell (whole_memory cells more) a t)) (frame_get variables (length old) k h)
      ∙ ap (write_to (whole_memory cells more) (length old + k) t) (cell_get cells more k below ∙ is)
      ∙ ap Some (set_right old (cells ++ more) k (holds t) ∙ ap (λ (l : Memory). old ++ l) (set_left cells more k (holds t) below))

  -- cells that are made after it leave the frame as it is
  pub frame_more : (cells : List Cell) (more new : Memory) → whole_memory cells more ++ new ≡ whole_memory cells (more ++ new)
  frame_more cells more new = append_assoc old (cells ++ more) new ∙ ap (λ (l : Memory). old ++ l) (append_assoc cells more new)

  -- a frame's end changes nothing below it
  pub frame_dropped : (above : Memory) → drop_frame frame (old ++ above) ≡ old ++ drop_frame (frame_from 0 variables) above
  frame_dropped above = drop_from variables old above (length old) 0 (omega arith)
