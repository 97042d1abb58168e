-- Of a tree whose part was replaced: that part is the new one, each other part is as before.
use Rattle.std.specs.Prelude.{◌≡◌, ◌≢◌, ℕ, zero, suc, Option, Some, None}
use Rattle.std.specs.Option.{option_map, option_and_then}
use Rattle.std.proofs.Common.{refl, sym, ap, subst}
use Rattle.std.proofs.lemmas.Option.{none-some, same_Some}
use Rattle.mach_mem.specs.Trees.{MTree, whole, truth, tuple, ctor, box_at, ptr, MTrees, no_mtrees, more_mtrees}
use Rattle.mach_mem.specs.Memory.{nth, set_nth, child, set_child}

-- what is given by a map of something: each fact of the values is one of it
pub mapped : {A B : Type 0} (f : A → B) (o : Option A) (y : B) (P : B → Type 0) → option_map f o ≡ Some y → ((x : A) → o ≡ Some x → P (f x)) → P y
mapped f None y P e k = absurd (none-some y e)
mapped f (Some x) y P e k = subst P (same_Some (f x) y e) (k x refl)

pub set_nth_same : (ts : MTrees) (k : ℕ) (x : MTree) (us : MTrees) → set_nth ts k x ≡ Some us → nth us k ≡ Some x
set_nth_same no_mtrees k x us e = absurd (none-some us e)
set_nth_same (more_mtrees t ts) zero x us e = sym (ap (option_and_then (λ vs. nth vs zero)) e)
set_nth_same (more_mtrees t ts) (suc k) x us e = mapped (more_mtrees t) (set_nth ts k x) us (λ vs. nth vs (suc k) ≡ Some x) e (λ vs q. set_nth_same ts k x vs q)

pub set_nth_other : (ts : MTrees) (k j : ℕ) (x : MTree) (us : MTrees) → j ≢ k → set_nth ts k x ≡ Some us → nth us j ≡ nth ts j
set_nth_other no_mtrees k j x us apart e = absurd (none-some us e)
set_nth_other (more_mtrees t ts) zero zero x us apart e = absurd (apart refl)
set_nth_other (more_mtrees t ts) zero (suc j) x us apart e = sym (ap (option_and_then (λ vs. nth vs (suc j))) e)
set_nth_other (more_mtrees t ts) (suc k) zero x us apart e = mapped (more_mtrees t) (set_nth ts k x) us (λ vs. nth vs zero ≡ Some t) e (λ vs q. refl)
set_nth_other (more_mtrees t ts) (suc k) (suc j) x us apart e =
    mapped (more_mtrees t) (set_nth ts k x) us (λ vs. nth vs (suc j) ≡ nth ts j) e (λ vs q. set_nth_other ts k j x vs (λ s. apart (ap (λ n. suc n) s)) q)

-- there is no part in this place
pub set_nth_missing : (ts : MTrees) (k : ℕ) (x : MTree) → nth ts k ≡ None → set_nth ts k x ≡ None
set_nth_missing no_mtrees k x e = refl
set_nth_missing (more_mtrees t ts) zero x e = absurd (none-some t (sym e))
set_nth_missing (more_mtrees t ts) (suc k) x e = ap (option_map (more_mtrees t)) (set_nth_missing ts k x e)

pub set_child_same : (k : ℕ) (x t u : MTree) → set_child k x t ≡ Some u → child k u ≡ Some x
set_child_same k x (whole n) u e = absurd (none-some u e)
set_child_same k x (truth b) u e = absurd (none-some u e)
set_child_same k x (tuple ts) u e = mapped tuple (set_nth ts k x) u (λ v. child k v ≡ Some x) e (set_nth_same ts k x)
set_child_same k x (ctor d v ts) u e = mapped (ctor d v) (set_nth ts k x) u (λ w. child k w ≡ Some x) e (set_nth_same ts k x)
set_child_same k x (box_at c) u e = absurd (none-some u e)
set_child_same k x (ptr a) u e = absurd (none-some u e)

pub set_child_other : (k j : ℕ) (x t u : MTree) → j ≢ k → set_child k x t ≡ Some u → child j u ≡ child j t
set_child_other k j x (whole n) u apart e = absurd (none-some u e)
set_child_other k j x (truth b) u apart e = absurd (none-some u e)
set_child_other k j x (tuple ts) u apart e = mapped tuple (set_nth ts k x) u (λ v. child j v ≡ nth ts j) e (λ us q. set_nth_other ts k j x us apart q)
set_child_other k j x (ctor d v ts) u apart e = mapped (ctor d v) (set_nth ts k x) u (λ w. child j w ≡ nth ts j) e (λ us q. set_nth_other ts k j x us apart q)
set_child_other k j x (box_at c) u apart e = absurd (none-some u e)
set_child_other k j x (ptr a) u apart e = absurd (none-some u e)

pub set_child_missing : (k : ℕ) (x t : MTree) → child k t ≡ None → set_child k x t ≡ None
set_child_missing k x (whole n) e = refl
set_child_missing k x (truth b) e = refl
set_child_missing k x (tuple ts) e = ap (option_map tuple) (set_nth_missing ts k x e)
set_child_missing k x (ctor d v ts) e = ap (option_map (ctor d v)) (set_nth_missing ts k x e)
set_child_missing k x (box_at c) e = refl
set_child_missing k x (ptr a) e = refl
