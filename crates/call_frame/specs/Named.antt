-- The function that a name stands for (LANGUAGE.md, "Names").
use Rattle.std.specs.Prelude.{◌≡◌, ℕ, ◌<◌, List, slice_get, Some}
use Rattle.sums_ast.specs.declared.function.Function.{Function}

-- no function with a number below n has this name
abbrev pub NoneNamed : List Function → List ℕ → ℕ → Type 0
NoneNamed functions name n = (j : ℕ) (g : Function) → j < n → slice_get functions j ≡ Some g → g.name ≡ name → ⊥

-- function k is the first that has this name
pub record IsNamed (functions : List Function) (name : List ℕ) (k : ℕ) : Type 0 where
  pub function : Function
  pub found : slice_get functions k ≡ Some function
  pub named : function.name ≡ name
  pub first : NoneNamed functions name k
