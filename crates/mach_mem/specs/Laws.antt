-- What is read after a write: at the same address the tree that was written; where neither address leads into what
-- stands at the other, what was read before.
use Rattle.std.specs.Prelude.{◌≡◌, ◌≢◌, ◌⊎◌, ℕ, [], ◌∷◌, ◌++◌, reverse, slice_get, slice_set, Option, Some, None}
use Rattle.std.specs.Option.{option_and_then}
use Rattle.std.proofs.Common.{refl, sym, ap, ◌∙◌, subst, append_assoc}
use Rattle.std.proofs.lemmas.List.{append-nil, reverse-append, reverse-reverse}
use Rattle.std.proofs.lemmas.Bool.{cases_eq}
use Rattle.std.proofs.lemmas.Option.{none-some, same_Some, option_and_then_some}
use mathlib.Core.Logic.{inl, inr, ⊎_elim}
use Rattle.mach_mem.specs.Addresses.{CellNumber, Path, Address}
use Rattle.mach_mem.specs.Trees.{MTree}
use Rattle.mach_mem.specs.Memory.{Slot, Memory, child, set_child, held, read_at, read, with_cells, fill, write_at, write}
use Rattle.mach_mem.specs.Parts.{set_child_same, set_child_other}
use Rattle.mach_mem.specs.Slots.{set_same, set_other}

-- a leads to what stands at b, or into it: the same cell, and b's steps are a's first ones
abbrev pub IsWithin : Address → Address → Type 0
IsWithin a b = (a.0 ≡ b.0) × ((more : Path) × (a.1 ≡ more ++ b.1))

abbrev pub AreApart : Address → Address → Type 0
AreApart a b = (IsWithin a b → ⊥) × (IsWithin b a → ⊥)

-- a write to this address changed what stands there and nothing else
pub record Changes (at : Address) (tree : MTree) (old new : Memory) : Type 0 where
  pub written : read new at ≡ Some tree
  pub kept : (other : Address) → AreApart other at → read new other ≡ read old other
  pub same_decls : new.decls ≡ old.decls

-- a write at a part is a write of what the part stands in
pub above : (m n : Memory) (c : CellNumber) (k : ℕ) (p : Path) (t : MTree) (P : Type 0) → write_at m c (k ∷ p) t ≡ Some n →
    ((whole part : MTree) → read_at m c p ≡ Some whole → set_child k t whole ≡ Some part → write_at m c p part ≡ Some n → P) → P
above m n c k p t P e next =
    option_and_then_some (write_at m c p) (option_and_then (set_child k t) (read_at m c p)) n e (λ part q written.
    option_and_then_some (set_child k t) (read_at m c p) part q (λ whole at_whole set. next whole part at_whole set written))

pub filled : (m n : Memory) (c : CellNumber) (t : MTree) (P : Memory → Type 0) → fill m c t (slice_get m.cells c) ≡ Some n →
    ((o : Option MTree) → slice_get m.cells c ≡ Some (Some o) → P (with_cells m (slice_set m.cells c (Some (Some t))))) → P n
filled m n c t P e next = by (slice_get m.cells c) refl e
  where
    by : (s : Option Slot) → slice_get m.cells c ≡ s → fill m c t s ≡ Some n → P n
    by None q e = absurd (none-some n e)
    by (Some None) q e = absurd (none-some n e)
    by (Some (Some o)) q e = subst P (same_Some (with_cells m (slice_set m.cells c (Some (Some t)))) n e) (next o q)

pub written_same : (m n : Memory) (c : CellNumber) (p : Path) (t : MTree) → write_at m c p t ≡ Some n → read_at n c p ≡ Some t
written_same m n c [] t e =
    filled m n c t (λ n. read_at n c [] ≡ Some t) e (λ o q. ap held (set_same m.cells c (Some o) (Some (Some t)) q))
written_same m n c (k ∷ p) t e =
    above m n c k p t (read_at n c (k ∷ p) ≡ Some t) e (λ whole part at_whole set written.
    ap (option_and_then (child k)) (written_same m n c p part written) ∙ set_child_same k t whole part set)

pub kept_decls : (m n : Memory) (c : CellNumber) (p : Path) (t : MTree) → write_at m c p t ≡ Some n → n.decls ≡ m.decls
kept_decls m n c [] t e = filled m n c t (λ n. n.decls ≡ m.decls) e (λ o q. refl)
kept_decls m n c (k ∷ p) t e = above m n c k p t (n.decls ≡ m.decls) e (λ whole part at_whole set written. kept_decls m n c p part written)

-- cells besides the one that is written stay
pub kept_cells : (m n : Memory) (c d : CellNumber) (p : Path) (t : MTree) → d ≢ c → write_at m c p t ≡ Some n → slice_get n.cells d ≡ slice_get m.cells d
kept_cells m n c d [] t apart e =
    filled m n c t (λ n. slice_get n.cells d ≡ slice_get m.cells d) e (λ o q. set_other m.cells c d (Some (Some t)) apart)
kept_cells m n c d (k ∷ p) t apart e =
    above m n c k p t (slice_get n.cells d ≡ slice_get m.cells d) e (λ whole part at_whole set written. kept_cells m n c d p part apart written)

-- what is read further down is told by what is read here
pub read_below : (m n : Memory) (c : CellNumber) (more p : Path) → read_at n c p ≡ read_at m c p → read_at n c (more ++ p) ≡ read_at m c (more ++ p)
read_below m n c [] p e = e
read_below m n c (k ∷ more) p e = ap (option_and_then (child k)) (read_below m n c more p e)

pub kept_cell : (m n : Memory) (c : CellNumber) (p : Path) → slice_get n.cells c ≡ slice_get m.cells c → read_at n c p ≡ read_at m c p
kept_cell m n c [] e = ap held e
kept_cell m n c (k ∷ p) e = ap (option_and_then (child k)) (kept_cell m n c p e)

-- a write further down is a write here
pub further_up : (m n : Memory) (c : CellNumber) (more p : Path) (t : MTree) (P : Type 0) → write_at m c (more ++ p) t ≡ Some n → ((u : MTree) → write_at m c p u ≡ Some n → P) → P
further_up m n c [] p t P e next = next t e
further_up m n c (k ∷ more) p t P e next =
    above m n c k (more ++ p) t P e (λ whole part at_whole set written. further_up m n c more p part P written next)

pub kept_beside : (m n : Memory) (c : CellNumber) (j k : ℕ) (more others p : Path) (t : MTree) → j ≢ k → write_at m c (more ++ k ∷ p) t ≡ Some n →
    read_at n c (others ++ j ∷ p) ≡ read_at m c (others ++ j ∷ p)
kept_beside m n c j k more others p t apart e =
    let result = read_at n c (j ∷ p) ≡ read_at m c (j ∷ p) in
    read_below m n c others (j ∷ p)
    (further_up m n c more (k ∷ p) t result e (λ u wrote. above m n c k p u result wrote (λ whole part at_whole set written.
    ap (option_and_then (child j)) (written_same m n c p part written) ∙ set_child_other k j u whole part apart set ∙ sym (ap (option_and_then (child j)) at_whole))))

-- two paths: one begins with the other, or they part at a step
pub record Parting (a b : Path) : Type 0 where
  pub to_a : Path
  pub to_b : Path
  pub common : Path
  pub step_a : ℕ
  pub step_b : ℕ
  pub apart : step_a ≢ step_b
  pub is_a : a ≡ to_a ++ step_a ∷ common
  pub is_b : b ≡ to_b ++ step_b ∷ common

abbrev pub Related : Path → Path → Type 0
Related a b = ((more : Path) × (a ≡ more ++ b)) ⊎ (((more : Path) × (b ≡ more ++ a)) ⊎ Parting a b)

-- along both paths from their first steps on, of which `common` are the same
parted : (xs ys common : Path) → Related (reverse xs ++ common) (reverse ys ++ common)
parted [] ys common = inr (inl (reverse ys, refl))
parted (x ∷ xs) [] common = inl (reverse (x ∷ xs), refl)
parted (x ∷ xs) (y ∷ ys) common =
    let shift : (z : ℕ) (zs : Path) → reverse (z ∷ zs) ++ common ≡ reverse zs ++ z ∷ common = λ z zs. ap (λ l. l ++ common) (reverse-append (z ∷ []) zs) ∙ append_assoc (reverse zs) (z ∷ []) common in
    ⊎_elim
    (λ same. subst (λ l. Related l (reverse (y ∷ ys) ++ common)) (sym (shift x xs)) (subst (Related (reverse xs ++ x ∷ common)) (ap (λ z. reverse ys ++ z ∷ common) same ∙ sym (shift y ys)) (parted xs ys (x ∷ common))))
    (λ other. inr (inr (record { to_a = reverse xs; to_b = reverse ys; common = common; step_a = x; step_b = y; apart = other; is_a = shift x xs; is_b = shift y ys })))
    (cases_eq x y)

pub related : (a b : Path) → Related a b
related a b =
    let back : (p : Path) → reverse (reverse p) ++ [] ≡ p = λ p. append-nil (reverse (reverse p)) ∙ reverse-reverse p in
    subst (λ p. Related p b) (back a) (subst (Related (reverse (reverse a) ++ [])) (back b) (parted (reverse a) (reverse b) []))

-- the law of `read` after `write`
pub changes : (m n : Memory) (at : Address) (t : MTree) → write m at t ≡ Some n → Changes at t m n
changes m n at t e = record { written = written_same m n at.0 at.1 t e; kept = others; same_decls = kept_decls m n at.0 at.1 t e }
  where
    by : (other : Address) → AreApart other at → other.0 ≡ at.0 → Related other.1 at.1 → read n other ≡ read m other
    by other apart same (inl within) = absurd (apart.0 (same, within))
    by other apart same (inr (inl within)) = absurd (apart.1 (sym same, within))
    by other apart same (inr (inr p)) =
        subst (λ c. read_at n c other.1 ≡ read_at m c other.1) (sym same)
        (subst (λ q. read_at n at.0 q ≡ read_at m at.0 q) (sym p.is_a)
        (kept_beside m n at.0 p.step_a p.step_b p.to_b p.to_a p.common t p.apart (ap (λ q. write_at m at.0 q t) (sym p.is_b) ∙ e)))

    others : (other : Address) → AreApart other at → read n other ≡ read m other
    others other apart =
        ⊎_elim (λ same. by other apart same (related other.1 at.1)) (λ cells. kept_cell m n other.0 other.1 (kept_cells m n at.0 other.0 at.1 t cells e)) (cases_eq other.0 at.0)
