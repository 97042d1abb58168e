-- What is built by a part's production, where the part and the place are known.
use Rattle.std.proofs.Common.{◌≡◌, sym, subst, ℕ, IfOk}
use Rattle.std.specs.declared.result.Result.{Result}
use Rattle.aen_base.specs.declared.memory.NoMem.{NoMem}
use Rattle.text_table.specs.declared.part.Part.{Part}
use Rattle.raw_values.specs.declared.value.Value.{Value}
use Rattle.raw_values.specs.Stacked.{Stack}
use Rattle.raw_ways.specs.Built.{CanBuild, IsBuilt}

pub at_place : (n : Part) (i j : ℕ) (stack : Stack) → i ≡ j → CanBuild n i stack → CanBuild n j stack
at_place n i j stack e h = subst (λ (k : ℕ). CanBuild n k stack) e h

pub built_at_place : (n : Part) (i j : ℕ) (stack new : Stack) (result : Result Value NoMem) → i ≡ j →
    IfOk result (λ it. IsBuilt n j stack it new) → IfOk result (λ it. IsBuilt n i stack it new)
built_at_place n i j stack new result e h = subst (λ (k : ℕ). IfOk result (λ it. IsBuilt n k stack it new)) (sym e) h

pub of_part : (n m : Part) (i : ℕ) (stack : Stack) → n ≡ m → CanBuild n i stack → CanBuild m i stack
of_part n m i stack e h = subst (λ (k : Part). CanBuild k i stack) e h

pub built_of_part : (n m : Part) (i : ℕ) (stack new : Stack) (result : Result Value NoMem) → n ≡ m →
    IfOk result (λ it. IsBuilt m i stack it new) → IfOk result (λ it. IsBuilt n i stack it new)
built_of_part n m i stack new result e h = subst (λ (k : Part). IfOk result (λ it. IsBuilt k i stack it new)) (sym e) h

pub is_of_part : (n m : Part) (i : ℕ) (stack new : Stack) (it : Value) → n ≡ m → IsBuilt m i stack it new → IsBuilt n i stack it new
is_of_part n m i stack new it e h = subst (λ (k : Part). IsBuilt k i stack it new) (sym e) h
