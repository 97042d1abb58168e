-- A call of the machine at bound 0 and at one bound more (LANGUAGE.md, "A call").
use Rattle.std.proofs.Common.{◌≡◌, ℕ, zero, suc, List, refl}
use Rattle.std.specs.Prelude.{slice_get}
use Rattle.aen_base.specs.declared.span.Span.{Span}
use Rattle.sums_ast.specs.declared.function.Program.{Program}
use Rattle.source_meaning.specs.Memory.{MTree, Memory}
use Rattle.source_meaning.specs.Machine.{more, entered, call_at}

pub call_empty : (p : Program) (s : Span) (k : ℕ) (args : List MTree) (m0 : Memory) → call_at p zero s k args m0 ≡ more
unfolding call_at
call_empty p s k args m0 = refl

pub call_more : (p : Program) (n : ℕ) (s : Span) (k : ℕ) (args : List MTree) (m0 : Memory) →
    call_at p (suc n) s k args m0 ≡ entered (call_at p n) s (slice_get p.functions k) args m0
unfolding call_at
call_more p n s k args m0 = refl
