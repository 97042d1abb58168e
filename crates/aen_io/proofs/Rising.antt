-- Faults of one call out of several.
use Rattle.std.proofs.Common.{◌≡◌, ℕ, ◌≤◌, List, length, ap, ◌∙◌, Result, Ok, Err, IfErr, IsErrAnd, subst, sym, arith, inl, inr}
use Rattle.aen_io.specs.Faults.{Rose}
use Rattle.aen_io.specs.Handed.{Handed, joined, since}
use Rattle.aen_io.specs.Told.{Told, FaultAt}
use Rattle.aen_io.specs.Reading.{IsCause}
use Rattle.aen_io.specs.Turns.{IsFault}
use Rattle.aen_io.specs.declared.reading.ReadAll.{ReadAll}
use Rattle.aen_io.specs.declared.reading.ReadAll.TheVariants.{Failed, TooLong, Memory}

pub rose_before : (a b c : ℕ) → a ≤ b → Rose b c → Rose a c
rose_before a b c h r = omega arith

pub rose_after : (a b c : ℕ) → Rose a b → b ≤ c → Rose a c
rose_after a b c r h = omega arith

pub fault_before : (told : Told) (name : List ℕ) (a b c : ℕ) → a ≤ b → FaultAt told name b c → FaultAt told name a c
fault_before told name a b c h f = elim f as (λ _. FaultAt told name a c) [ inl m ↦ inl m | inr r ↦ inr (rose_before a b c h r) ]

pub fault_after : (told : Told) (name : List ℕ) (a b c : ℕ) → FaultAt told name a b → b ≤ c → FaultAt told name a c
fault_after told name a b c f h = elim f as (λ _. FaultAt told name a c) [ inl m ↦ inl m | inr r ↦ inr (rose_after a b c r h) ]

-- a turn's failure is a cause of the whole call's
pub cause_of_fault : (told now : Told) (name : List ℕ) (limit at : ℕ) (first log then_log : List Handed) (whole : List ℕ) (a b c : ℕ) (e : ReadAll)
    → now ≡ told → a ≤ b → whole ≡ joined (since first log) → length whole ≤ limit → IsFault now name at log then_log b c e
    → IsCause told name limit (since first then_log) a c e
cause_of_fault told now name limit at first log then_log whole a b c Failed k h j few f =
    let l = ap (λ hs. length (joined (since first hs))) f.1 ∙ ap length (sym j) in
    (fault_before told name a b c h (subst (λ t. FaultAt t name b c) k f.0), omega (arith, l, few))
cause_of_fault told now name limit at first log then_log whole a b c (TooLong n) k h j few f = absurd f
cause_of_fault told now name limit at first log then_log whole a b c Memory k h j few f = tt

-- an answer that hands on a fault
pub err_of : {T : Type 0} (r : Result T ReadAll) (e : ReadAll) (P : ReadAll → Type 0) → IsErrAnd r (λ x. x ≡ e) → P e → IfErr r P
err_of (Ok x) e P h p = absurd h
err_of (Err x) e P h p = subst P (sym h) p
