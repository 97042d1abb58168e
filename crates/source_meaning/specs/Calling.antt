-- A call from outside: its arguments and its outcome (LANGUAGE.md, "A call").
use Rattle.std.specs.Prelude.{◌≡◌, ℕ, List, [], ◌∷◌, length, Option, Some, None}
use Rattle.std.specs.Option.{option_map, option_and_then}
use Rattle.pure_ast.specs.Values as v
use Rattle.pure_ast.specs.Values.{PValue}
use Rattle.sums_ast.specs.declared.function.Function.{Function}
use Rattle.sums_ast.specs.declared.function.Program.{Program}
use Rattle.source_meaning.specs.declared.outcome.Outcome.{Outcome}
use Rattle.source_meaning.specs.declared.outcome.Outcome.TheVariants as O
use Rattle.source_meaning.specs.Memory.{MTree, num, unit}
use Rattle.source_meaning.specs.Machine.{Ran, gives, panics, more, stuck, call_at}
use Rattle.source_meaning.specs.Typing.{IsU32}

-- the tree of an argument: every parameter is a number
abbrev pub tree_of : PValue → Option MTree
tree_of (v.number n) = Some (num n)
tree_of _ = None

abbrev pub trees_of : List PValue → Option (List MTree)
trees_of [] = Some []
trees_of (a ∷ args) = option_and_then (λ t. option_map (λ ts. t ∷ ts) (trees_of args)) (tree_of a)

-- what is read out of a tree
abbrev pub value_of : MTree → PValue
value_of (num n) = v.number n
value_of unit = v.tuple v.no_pvalues

abbrev pub outcome_of : Ran → Outcome
outcome_of (gives t m) = O.Value (value_of t)
outcome_of (panics kind) = O.Panic kind
outcome_of more = O.More
outcome_of (stuck s) = O.Stuck s

-- a call in a memory without cells; where it can't begin it has no meaning at the function's name
abbrev pub begun : Program → ℕ → ℕ → Function → Option (List MTree) → Outcome
begun p n k f None = O.Stuck f.span
begun p n k f (Some trees) = outcome_of (call_at p n f.span k trees [])

-- the outcome of a call of function f, which has number k, at bound n
abbrev pub call_outcome : Program → ℕ → Function → List PValue → ℕ → Outcome
call_outcome p k f args n = begun p n k f (trees_of args)

-- a value of type u32
abbrev pub IsU32Value : PValue → Type 0
IsU32Value (v.number n) = IsU32 n
IsU32Value _ = ⊥

abbrev pub AreU32Values : List PValue → Type 0
AreU32Values [] = Unit {0}
AreU32Values (a ∷ args) = IsU32Value a × AreU32Values args

-- values of the types of a function's parameters
pub record AreArguments (f : Function) (args : List PValue) : Type 0 where
  pub count : length args ≡ f.parameters
  pub typed : AreU32Values args
