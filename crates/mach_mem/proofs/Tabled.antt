-- What becomes of a memory whose table of cells changes at one cell.
use Rattle.std.proofs.Common.{◌≡◌, ℕ, suc, ◌+◌, ◌<◌, ◌≤◌, Bool, true, false, cond, nat_eq, List, [], ◌∷◌, ◌++◌, length, map, drop, get_or, Option, Some, None, Result, Ok, Err, MatchResult, OnOk, option_map, reverse, refl, sym, ap, ◌∙◌, arith}
use Rattle.std.specs.Option.{unwrap_or}
use Rattle.std.proofs.lemmas.Bool.{eqb-true}
use Rattle.std.proofs.Math.Seq.{drop-cons}
use Rattle.std.proofs.Math.Numerals.{suc-eq-add-one}
use Rattle.core_ty.specs.declared.decl.TypeDecl.{TypeDecl}
use Rattle.mach_mem.specs.Addresses.{Address}
use Rattle.mach_mem.specs.declared.address.Cell.{Cell}
use Rattle.mach_mem.specs.Cells.{cell_number}
use Rattle.mach_mem.specs.Trees.{MTree}
use Rattle.mach_mem.specs.Memory.{Slot, Memory, unit, with_cells, with_fresh, without, write, stood}
use Rattle.mach_mem.specs.Steps.{Fills}
use Rattle.mach_mem.specs.Laws.{Changes, changes}
use Rattle.mach_mem.specs.View.{cells_to}
use Rattle.mach_mem.proofs.Written.{refilled}
use Rattle.mach_mem.proofs.Viewed.{Sets, set_elsewhere, set_here, set_cells, same_cells, read_seen, write_seen}

abbrev pub Beyond : (ℕ → Slot) → ℕ → Type 0
Beyond f n = (k : ℕ) → n ≤ k → f k ≡ None

-- what a write promises
abbrev pub Writes : Memory → Memory → Address → MTree → Result MTree MTree → Type 0
Writes m n at x r = MatchResult r (λ o. (o ≡ stood m at) × (write m at x ≡ Some n)) (λ back. (back ≡ x) × (write m at x ≡ None) × (n ≡ m))

pub law_of : (m n : Memory) (at : Address) (x : MTree) (r : Result MTree MTree) → Writes m n at x r → OnOk r (Changes at x m n)
law_of m n at x (Ok o) h = changes m n at x h.1
law_of m n at x (Err back) h = tt

module _ (f g : ℕ → Slot) (c : ℕ) where
  -- what was there was put there again
  set_self : Sets f g c (f c) → (k : ℕ) → g k ≡ f k
  set_self s k = s k ∙ by (nat_eq c k) refl
    where
      by : (b : Bool) → nat_eq c k ≡ b → cond b (f c) (f k) ≡ f k
      by true e = ap f (eqb-true c k e)
      by false e = refl

  module _ (decls : List TypeDecl) (n : ℕ) (beyond : Beyond f n) where
    pub written : (ks : List ℕ) (x : MTree) (r : Result MTree MTree) → Fills (f c) ks x r (Sets f g c) →
        Writes (record { decls = decls; cells = cells_to f n }) (record { decls = decls; cells = cells_to g n }) (c, reverse ks) x r
    written ks x (Ok o) h =
        let m : Memory = record { decls = decls; cells = cells_to f n } in (
          h.0 ∙ sym (ap (λ p. unwrap_or p unit) (read_seen decls f n beyond c ks)),
          write_seen decls f n beyond c ks x ∙ ap (option_map (refilled m c)) h.1.1 ∙ ap (λ cells. Some (with_cells m cells)) (sym (set_cells f g n c (Some h.1.0) h.1.2)),
        )
    written ks x (Err back) h =
        let m : Memory = record { decls = decls; cells = cells_to f n } in
        (h.0, write_seen decls f n beyond c ks x ∙ ap (option_map (refilled m c)) h.1, ap (with_cells m) (same_cells f g n (λ k l. set_self h.2 k)))

    pub gone : Sets f g c None → record { decls = decls; cells = cells_to g n } ≡ without (c ∷ []) (record { decls = decls; cells = cells_to f n })
    gone s = ap (with_cells (record { decls = decls; cells = cells_to f n })) (set_cells f g n c None s)

-- one cell more
module _ (decls : List TypeDecl) (f g : ℕ → Slot) (n next : ℕ) (o : Option MTree) (is_next : next ≡ n + 1) (s : Sets f g n (Some o)) where
  pub one_more : record { decls = decls; cells = cells_to g next } ≡ with_fresh o (record { decls = decls; cells = cells_to f n })
  one_more =
      let below = same_cells f g n (λ k l. set_elsewhere f g n k (Some o) s (λ e. omega (arith, e, l))) in
      let same : cells_to g (suc n) ≡ cells_to f n ++ Some o ∷ [] = λ i. below i ++ set_here f g n (Some o) s i ∷ [] in
      ap (λ k. record { decls = decls; cells = cells_to g k }) (is_next ∙ sym (suc-eq-add-one n)) ∙ ap (λ cells. record { decls = decls; cells = cells }) same

-- one cell of a frame more is gone
pub gone_next : (cells : List Cell) (i : ℕ) (d : Cell) (m n whole : Memory) → i < length cells → n ≡ without (cell_number (get_or cells i d) ∷ []) m →
    without (map cell_number (drop i cells)) m ≡ whole → without (map cell_number (drop (i + 1) cells)) n ≡ whole
gone_next cells i d m n whole l e before =
    ap (λ k. without (map cell_number (drop k cells)) n) (sym (suc-eq-add-one i)) ∙ ap (without (map cell_number (drop (suc i) cells))) e
    ∙ ap (λ cs. without (map cell_number cs) m) (sym (drop-cons cells i d l)) ∙ before
