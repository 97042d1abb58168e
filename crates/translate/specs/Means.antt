-- The translation means the program (PROMISES.md, "The translation means the program").
use Rattle.std.specs.Prelude.{◌≡◌, ℕ, List, slice_get, Some}
use Rattle.pure_ast.specs.declared.def.DefKind.TheVariants.{Forward}
use Rattle.pure_ast.specs.declared.def.Def.{Def}
use Rattle.pure_ast.specs.declared.def.Defs.{Defs}
use Rattle.pure_ast.specs.Values.{PValue}
use Rattle.sums_ast.specs.declared.function.Function.{Function}
use Rattle.sums_ast.specs.declared.function.Program.{Program}
use Rattle.source_meaning.specs.declared.outcome.Outcome.{Outcome}
use Rattle.source_meaning.specs.declared.outcome.Outcome.TheVariants as O
use Rattle.source_meaning.specs.Calling.{call_outcome, AreArguments}
use Rattle.text_meaning.specs.declared.Answer.{Answer}
use Rattle.text_meaning.specs.declared.Answer.TheVariants as A
use Rattle.text_meaning.specs.Evaluate.{evaluate}

-- the text's answer is Ok of the value that the machine returns, Fail of the kind of its panic,
-- and out of fuel where its bound was too small; the machine is never stuck
abbrev pub Agrees : Outcome → Answer → Type 0
Agrees (O.Value v) a = a ≡ A.Ok v
Agrees (O.Panic kind) a = a ≡ A.Fail kind
Agrees O.More a = a ≡ A.OutOfFuel
Agrees (O.Stuck s) a = ⊥

-- for every function, its forward definition, all typed arguments and every number n
abbrev pub Means : Program → Defs → Type 0
Means p defs = (k : ℕ) (f : Function) (i : ℕ) (d : Def) (args : List PValue) (n : ℕ) →
    slice_get p.functions k ≡ Some f → slice_get defs.defs i ≡ Some d → d.kind ≡ Forward (record { 0 = k }) →
    AreArguments f args → Agrees (call_outcome p k f args n) (evaluate defs i args n)
