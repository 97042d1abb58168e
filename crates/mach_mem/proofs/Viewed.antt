-- The cells of a memory as its table tells them.
use Rattle.std.proofs.Common.{◌≡◌, ◌≢◌, ℕ, zero, suc, ◌<◌, ◌≤◌, Bool, true, false, cond, nat_eq, List, [], ◌∷◌, ◌++◌, length, slice_get, slice_set, Option, Some, None, option_map, option_and_then, reverse, refl, sym, ap, ◌∙◌, subst, arith, length-append}
use Rattle.std.proofs.lemmas.Bool.{eqb-true, eq-eqb, cases_eq, cases_lt}
use Rattle.std.proofs.lemmas.Option.{slice_get_past, none-some}
use mathlib.Core.Logic.{⊎_elim}
use Rattle.core_ty.specs.declared.decl.TypeDecl.{TypeDecl}
use Rattle.mach_mem.specs.Addresses.{CellNumber}
use Rattle.mach_mem.specs.Trees.{MTree}
use Rattle.mach_mem.specs.Memory.{Slot, Memory, held, read_at, fill, write_at}
use Rattle.mach_mem.specs.Steps.{part_at, slot_part, with_slot}
use Rattle.mach_mem.specs.View.{cells_to}
use Rattle.mach_mem.proofs.Written.{read_along, write_slot, write_nowhere, refilled}

module _ {A : Type 0} where
  get_end : (xs : List A) (y : A) → slice_get (xs ++ y ∷ []) (length xs) ≡ Some y
  get_end [] y = refl
  get_end (x ∷ xs) y = get_end xs y

  get_before : (xs ys : List A) (k : ℕ) → k < length xs → slice_get (xs ++ ys) k ≡ slice_get xs k
  get_before [] ys k h = absurd (omega arith)
  get_before (x ∷ xs) ys zero h = refl
  get_before (x ∷ xs) ys (suc k) h = get_before xs ys k (omega arith)

  set_end : (xs : List A) (y v : A) → slice_set (xs ++ y ∷ []) (length xs) v ≡ xs ++ v ∷ []
  set_end [] y v = refl
  set_end (x ∷ xs) y v = ap (λ l. x ∷ l) (set_end xs y v)

  set_before : (xs ys : List A) (k : ℕ) (v : A) → k < length xs → slice_set (xs ++ ys) k v ≡ slice_set xs k v ++ ys
  set_before [] ys k v h = absurd (omega arith)
  set_before (x ∷ xs) ys zero v h = refl
  set_before (x ∷ xs) ys (suc k) v h = ap (λ l. x ∷ l) (set_before xs ys k v (omega arith))

  set_past : (xs : List A) (k : ℕ) (v : A) → length xs ≤ k → slice_set xs k v ≡ xs
  set_past [] k v h = refl
  set_past (x ∷ xs) zero v h = absurd (omega arith)
  set_past (x ∷ xs) (suc k) v h = ap (λ l. x ∷ l) (set_past xs k v (omega arith))

pub length_cells : (f : ℕ → Slot) (n : ℕ) → length (cells_to f n) ≡ n
length_cells f zero = refl
length_cells f (suc n) = length-append (cells_to f n) (f n ∷ []) ∙ omega (arith, length_cells f n)

pub same_cells : (f g : ℕ → Slot) (n : ℕ) → ((k : ℕ) → k < n → g k ≡ f k) → cells_to g n ≡ cells_to f n
same_cells f g zero h = refl
same_cells f g (suc n) h = λ i. same_cells f g n (λ k l. h k (omega arith)) i ++ h n (omega arith) i ∷ []

pub cell_at : (f : ℕ → Slot) (n k : ℕ) → k < n → slice_get (cells_to f n) k ≡ Some (f k)
cell_at f zero k h = absurd (omega arith)
cell_at f (suc n) k h =
    ⊎_elim
    (λ same. subst (λ j. slice_get (cells_to f n ++ f n ∷ []) j ≡ Some (f j)) (sym same) (subst (λ j. slice_get (cells_to f n ++ f n ∷ []) j ≡ Some (f n)) (length_cells f n) (get_end (cells_to f n) (f n))))
    (λ other. get_before (cells_to f n) (f n ∷ []) k (omega (arith, other, length_cells f n)) ∙ cell_at f n k (omega (arith, other)))
    (cases_eq k n)

abbrev pub Sets : (ℕ → Slot) → (ℕ → Slot) → ℕ → Slot → Type 0
Sets f g c v = (q : ℕ) → g q ≡ cond (nat_eq c q) v (f q)

pub set_elsewhere : (f g : ℕ → Slot) (c q : ℕ) (v : Slot) → Sets f g c v → q ≢ c → g q ≡ f q
set_elsewhere f g c q v s apart = s q ∙ by (nat_eq c q) refl
  where
    by : (b : Bool) → nat_eq c q ≡ b → cond b v (f q) ≡ f q
    by true e = absurd (apart (sym (eqb-true c q e)))
    by false e = refl

pub set_here : (f g : ℕ → Slot) (c : ℕ) (v : Slot) → Sets f g c v → g c ≡ v
set_here f g c v s = s c ∙ ap (λ b. cond b v (f c)) (eq-eqb c c refl)

set_last : (f g : ℕ → Slot) (n c : ℕ) (v : Slot) → Sets f g c v → c ≡ n → cells_to g n ++ g n ∷ [] ≡ slice_set (cells_to f n ++ f n ∷ []) c v
set_last f g n c v s same =
    let at : length (cells_to f n) ≡ c = length_cells f n ∙ sym same in
    let below = same_cells f g n (λ k l. set_elsewhere f g c k v s (λ e. omega (arith, e, same, l))) in
    let here : g n ≡ v = subst (λ j. g j ≡ v) same (set_here f g c v s) in
    (λ i. below i ++ here i ∷ []) ∙ sym (set_end (cells_to f n) (f n) v) ∙ ap (λ j. slice_set (cells_to f n ++ f n ∷ []) j v) at

set_beside : (f g : ℕ → Slot) (n c : ℕ) (v : Slot) → Sets f g c v → (c ≡ n → ⊥) → cells_to g n ≡ slice_set (cells_to f n) c v →
    cells_to g n ++ g n ∷ [] ≡ slice_set (cells_to f n ++ f n ∷ []) c v
set_beside f g n c v s apart before =
    let here : g n ≡ f n = set_elsewhere f g c n v s (λ e. apart (sym e)) in
    let long = length_cells f n in
    let longer = length_cells f (suc n) in
    (λ i. before i ++ here i ∷ [])
    ∙ ⊎_elim (λ l. sym (set_before (cells_to f n) (f n ∷ []) c v (omega (arith, l, long))))
    (λ h. ap (λ l. l ++ f n ∷ []) (set_past (cells_to f n) c v (omega (arith, h, long))) ∙ sym (set_past (cells_to f n ++ f n ∷ []) c v (omega (arith, h, apart, longer))))
    (cases_lt c n)

pub set_cells : (f g : ℕ → Slot) (n c : ℕ) (v : Slot) → Sets f g c v → cells_to g n ≡ slice_set (cells_to f n) c v
set_cells f g zero c v s = refl
set_cells f g (suc n) c v s = ⊎_elim (set_last f g n c v s) (λ apart. set_beside f g n c v s apart (set_cells f g n c v s)) (cases_eq c n)

module _ (decls : List TypeDecl) (f : ℕ → Slot) (n : ℕ) (beyond : (k : ℕ) → n ≤ k → f k ≡ None) where
  abbrev pub seen : Memory
  seen = record { decls = decls; cells = cells_to f n }

  past : (c : ℕ) → n ≤ c → slice_get (cells_to f n) c ≡ None
  past c h = slice_get_past (cells_to f n) c (omega (arith, h, length_cells f n))

  held_at : (c : ℕ) → held (slice_get (cells_to f n) c) ≡ held (Some (f c))
  held_at c =
      ⊎_elim (λ l. ap held (cell_at f n c l)) (λ h. ap held (past c h) ∙ ap (λ s. held (Some s)) (sym (beyond c h))) (cases_lt c n)

  pub read_seen : (c : CellNumber) (ks : List ℕ) → read_at seen c (reverse ks) ≡ slot_part ks (f c)
  read_seen c ks = read_along seen c ks [] ∙ ap (option_and_then (part_at ks)) (held_at c)

  nothing_filled : (c : CellNumber) (x : MTree) → f c ≡ None → fill seen c x (slice_get (cells_to f n) c) ≡ None
  nothing_filled c x gone =
      ⊎_elim (λ l. ap (fill seen c x) (cell_at f n c l) ∙ ap (λ s. fill seen c x (Some s)) gone) (λ h. ap (fill seen c x) (past c h)) (cases_lt c n)

  pub below_count : (c : CellNumber) (o : Option MTree) → f c ≡ Some o → c < n
  below_count c o e = ⊎_elim (λ l. l) (λ h. absurd (none-some o (sym (beyond c h) ∙ e))) (cases_lt c n)

  -- a write as the table tells it
  pub write_seen : (c : CellNumber) (ks : List ℕ) (x : MTree) → write_at seen c (reverse ks) x ≡ option_map (refilled seen c) (option_and_then (with_slot ks x) (f c))
  write_seen c ks x = by (f c) refl
    where
      by : (s : Slot) → f c ≡ s → write_at seen c (reverse ks) x ≡ option_map (refilled seen c) (option_and_then (with_slot ks x) s)
      by None e = write_nowhere seen c ks x (held_at c ∙ ap (λ s. held (Some s)) e) (nothing_filled c x e)
      by (Some o) e = write_slot seen c ks x o (cell_at f n c (below_count c o e) ∙ ap (λ s. Some s) e)
