-- What a step adds to the computations of a function.
use Rattle.std.specs.Prelude.{◌≡◌, ◌+◌, ◌<◌, ◌^◌, List, ◌++◌, length}
use Rattle.pure_ast.specs.Terms.{Term}
use Rattle.translate.specs.declared.atom.Atom.{Atom}
use Rattle.translate.specs.declared.emitter.Emitter.{Emitter}
use Rattle.sums_ast.specs.declared.function.Function.{Function}
use Rattle.text_meaning.specs.Lists.{Each}
use Rattle.translate.specs.Emit.{Emitted, EmittedAll, emitted}

-- the step adds what is emitted, and gives its atom
pub record Adds (old new : Emitter) (e : Emitted) (a : Atom) : Type 0 where
  pub comps : new.comps ≡ old.comps ++ e.comps
  pub next : new.next ≡ old.next + length e.comps
  pub atom : a ≡ e.atom

-- the steps add what is emitted for arguments, and give their terms
pub record AddsAll (old new : Emitter) (e : EmittedAll) (terms : List Term) : Type 0 where
  pub comps : new.comps ≡ old.comps ++ e.comps
  pub next : new.next ≡ old.next + length e.comps
  pub parts : terms ≡ e.parts

-- the variables of a function's code are numbered by u32
abbrev pub IsNumbered : Function → Type 0
IsNumbered f = f.parameters + length (emitted f).comps < 2 ^ 32

abbrev pub AreNumbered : List Function → Type 0
AreNumbered fs = Each IsNumbered fs
