-- The machine's memory at a call and the atoms of the declared variables.
use Rattle.std.proofs.Common.{◌≡◌, ℕ, zero, suc, ◌+◌, ◌<◌, ◌≤◌, List, [], ◌∷◌, ◌++◌, length, refl, ap, ◌∙◌, arith, length-append, length-set, inl, inr, ⊎_elim, ◌⊎◌}
use Rattle.std.proofs.lemmas.Option.{slice_get_within}
use Rattle.std.specs.Prelude.{slice_get, slice_set, Some, ℤ, option_and_then}
use Rattle.source_meaning.specs.Memory.{MTree, Cell, empty, holds, Memory, read_cell, write_cell}
use Rattle.source_meaning.specs.PlaceLemmas.{get_left_some}
use Rattle.source_meaning.specs.FrameLemmas.{frame, whole_memory, frame_read, frame_write}
use Rattle.translate.specs.declared.atom.Atom.{Atom}
use Rattle.translate.proofs.Environments.{tree, AtomIs, atom_more}
use Rattle.translate.proofs.Places.{get_set_same, get_set_below, get_set_above, get_last}

-- variable k has one value in its cell and in its atom
pub record Declared (cells : List Cell) (atoms : List Atom) (vs : List ℤ) (k : ℕ) : Type 0 where
  pub z : ℤ
  pub atom : Atom
  pub cell : slice_get cells k ≡ Some (holds (tree z))
  pub is : slice_get atoms k ≡ Some atom
  pub means : AtomIs vs atom z

-- each declared variable has; the other cells are empty
pub record Fits (variables : List (List ℕ)) (cells : List Cell) (atoms : List Atom) (vs : List ℤ) : Type 0 where
  pub size : length cells ≡ length variables
  pub each : (k : ℕ) → k < length atoms → Declared cells atoms vs k
  pub fresh : (k : ℕ) → length atoms ≤ k → k < length variables → slice_get cells k ≡ Some empty

module _ (old : Memory) (variables : List (List ℕ)) where
  -- reading a declared variable
  pub variable_read : (cells : List Cell) (more : Memory) (atoms : List Atom) (vs : List ℤ) (k : ℕ) → Fits variables cells atoms vs →
      (d : Declared cells atoms vs k) → option_and_then (read_cell (whole_memory old variables cells more)) (slice_get (frame old variables) k) ≡ Some (tree d.z)
  variable_read cells more atoms vs k fits d =
      let below = slice_get_within cells k (holds (tree d.z)) d.cell in
      let size = fits.size in
      frame_read old variables cells more k (tree d.z) (omega arith) d.cell

  -- writing the next variable
  pub variable_write : (cells : List Cell) (more : Memory) (atoms : List Atom) (vs : List ℤ) (t : MTree) → Fits variables cells atoms vs →
      length atoms < length variables →
      option_and_then (λ a. write_cell (whole_memory old variables cells more) a t) (slice_get (frame old variables) (length atoms))
      ≡ Some (whole_memory old variables (slice_set cells (length atoms) (holds t)) more)
  variable_write cells more atoms vs t fits below =
      frame_write old variables cells more (length atoms) t below (fits.fresh (length atoms) (omega arith) below)

-- more values do not matter to what is declared
pub fits_more : (variables : List (List ℕ)) (cells : List Cell) (atoms : List Atom) (vs ws : List ℤ) → Fits variables cells atoms vs → Fits variables cells atoms (vs ++ ws)
fits_more variables cells atoms vs ws f = record {
  size = f.size;
  each = λ k h. let d = f.each k h in record { z = d.z; atom = d.atom; cell = d.cell; is = d.is; means = atom_more vs ws d.atom d.z d.means };
  fresh = f.fresh;
}

below_or_last : (k n : ℕ) → k < n + 1 → (k < n) ⊎ (k ≡ n)
below_or_last zero zero h = inr refl
below_or_last zero (suc n) h = inl (omega arith)
below_or_last (suc k) zero h = absurd (omega arith)
below_or_last (suc k) (suc n) h = ⊎_elim (λ (lt : k < n). inl (omega arith)) (λ (e : k ≡ n). inr (ap suc e)) (below_or_last k n (omega arith))

declared_old : (cells : List Cell) (atoms : List Atom) (vs : List ℤ) (c : Cell) (a : Atom) (k : ℕ) → k < length atoms → Declared cells atoms vs k →
    Declared (slice_set cells (length atoms) c) (atoms ++ a ∷ []) vs k
declared_old cells atoms vs c a k h d = record {
  z = d.z;
  atom = d.atom;
  cell = get_set_below cells (length atoms) c k h ∙ d.cell;
  is = get_left_some atoms (a ∷ []) k d.atom d.is;
  means = d.means;
}

declared_new : (cells : List Cell) (atoms : List Atom) (vs : List ℤ) (a : Atom) (z : ℤ) (k : ℕ) → k ≡ length atoms → length atoms < length cells → AtomIs vs a z →
    Declared (slice_set cells (length atoms) (holds (tree z))) (atoms ++ a ∷ []) vs k
declared_new cells atoms vs a z k e h means = record {
  z = z;
  atom = a;
  cell = ap (slice_get (slice_set cells (length atoms) (holds (tree z)))) e ∙ get_set_same cells (length atoms) (holds (tree z)) h;
  is = get_last atoms a k e;
  means = means;
}

-- a `let` of the next variable
pub fits_let : (variables : List (List ℕ)) (cells : List Cell) (atoms : List Atom) (vs : List ℤ) (a : Atom) (z : ℤ) → Fits variables cells atoms vs →
    length atoms < length variables → AtomIs vs a z → Fits variables (slice_set cells (length atoms) (holds (tree z))) (atoms ++ a ∷ []) vs
fits_let variables cells atoms vs a z f below means =
    let size = f.size in
    let len = length-append atoms (a ∷ []) in
    let kept = length-set cells (length atoms) (holds (tree z)) in
    record {
      size = omega arith;
      each = λ k h. ⊎_elim
          (λ (lt : k < length atoms). declared_old cells atoms vs (holds (tree z)) a k lt (f.each k lt))
          (λ (e : k ≡ length atoms). declared_new cells atoms vs a z k e (omega arith) means)
          (below_or_last k (length atoms) (omega arith));
      fresh = λ k low high. get_set_above cells (length atoms) (holds (tree z)) k (omega arith) ∙ f.fresh k (omega arith) high;
    }
