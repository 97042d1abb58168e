-- What patterns, computations and code come to, step by step, and parts of code on a stack.
use Rattle.std.specs.Prelude.{ℕ, ◌+◌, ◌*◌, List, [], ◌∷◌, ◌++◌, length, Result, Ok}
use Rattle.aen_base.specs.declared.span.Span.{Span}
use Rattle.pure_ast.specs.declared.comp.Comp.{Comp}
use Rattle.pure_ast.specs.declared.comp.Comp.TheVariants as comp
use Rattle.pure_ast.specs.declared.pat.Pat.{Pat}
use Rattle.pure_ast.specs.declared.pat.Pat.TheVariants as pat
use Rattle.pure_ast.specs.Code as code
use Rattle.pure_ast.specs.Code.{Code, arms}
use Rattle.pure_ast.specs.Terms.{Term}
use Rattle.raw_ast.specs.declared.computation.Computation.{Computation}
use Rattle.raw_ast.specs.declared.computation.Computation.TheVariants as K
use Rattle.raw_ast.specs.declared.pattern.Pattern.{Pattern}
use Rattle.raw_ast.specs.declared.pattern.Pattern.TheVariants as P
use Rattle.raw_ast.specs.declared.spelling.Spelling.{Spelling}
use Rattle.raw_ast.specs.Atoms.{rawatoms}
use Rattle.raw_ast.specs.Code as c
use Rattle.raw_ast.specs.Code.{RawCode, RawArms, rawarms, nodes_rawcode, nodes_rawarms}
use Rattle.raw_meaning.specs.declared.outline.Outline.{Outline}
use Rattle.text_trees.specs.declared.codes.CodeFrame.{CodeFrame}
use Rattle.text_trees.specs.declared.codes.CodeFrame.TheVariants.{Bound, Put, Arm}
use Rattle.text_trees.specs.declared.codes.CodeStep.{CodeStep}
use Rattle.text_trees.specs.declared.codes.CodeStep.TheVariants.{Whole, Within}
use Rattle.text_trees.specs.Atoms.{atom_told, atoms_told}
use Rattle.text_trees.specs.Nodes.{variable, constructor, called, operation}
use Rattle.text_trees.specs.Told.{and_then, on_ok, each}

abbrev pub variables_told : List Spelling → Result (List ℕ) Span
variables_told names = each variable names

abbrev pub pattern_told : Outline → Pattern → Result Pat Span
pattern_told h (P.Truth b) = Ok (pat.Bool b)
pattern_told h (P.Tuple names) = on_ok (λ vs. pat.Tuple vs) (variables_told names)
pattern_told h (P.Built name names) = and_then (constructor h name (length names)) (λ k. on_ok (λ vs. pat.Ctor k vs) (variables_told names))

abbrev pub computation_told : Outline → Computation → Result Comp Span
computation_told h (K.Ok x) = on_ok (λ y. comp.Ok y) (atom_told h x)
computation_told h K.Fail = Ok comp.Fail
computation_told h (K.Call name xs) = and_then (called h name (length xs)) (λ d. on_ok (λ ys. comp.Call (record { 0 = d }) ys) (atoms_told h (rawatoms xs)))
computation_told h (K.Primitive o xs) = and_then (operation o (length xs)) (λ p. on_ok (λ ys. comp.Prim p ys) (atoms_told h (rawatoms xs)))

abbrev mutual
  pub code_told : Outline → RawCode → Result Code Span
  code_told h (c.bind v x rest) = and_then (variable v) (λ k. and_then (computation_told h x) (λ y. on_ok (λ r. code.bind k y r) (code_told h rest)))
  code_told h (c.put v x rest) = and_then (variable v) (λ k. and_then (atom_told h x) (λ y. on_ok (λ r. code.put k y r) (code_told h rest)))
  code_told h (c.select x all) = and_then (atom_told h x) (λ y. on_ok (λ r. code.select y (arms r)) (arms_told h all))
  code_told h (c.last x) = on_ok (λ y. code.last y) (computation_told h x)

  pub arms_told : Outline → RawArms → Result (List (Pat × Code)) Span
  arms_told h c.no_rawarms = Ok []
  arms_told h (c.more_rawarms p x rest) = and_then (pattern_told h p) (λ q. and_then (code_told h x) (λ y. on_ok (λ r. (q, y) ∷ r) (arms_told h rest)))

-- ---- on a stack

-- a match with arms, of which these are told
abbrev pub matched : Outline → Term → List (Pattern × RawCode) → List (Pat × Code) → Result Code Span
matched h x left done = on_ok (λ r. code.select x (arms (done ++ r))) (arms_told h (rawarms left))

-- what waits for code in it
abbrev pub frame_told : Outline → CodeFrame → Code → Result Code Span
frame_told h (Bound k y) r = Ok (code.bind k y r)
frame_told h (Put k y) r = Ok (code.put k y r)
frame_told h (Arm x done q left) r = matched h x left.now (done ++ (q, r) ∷ [])

abbrev pub step_told : Outline → CodeStep → Result Code Span
step_told h (Whole x) = Ok x
step_told h (Within frame part) = and_then (code_told h part.now) (frame_told h frame)

-- how much is left to do
abbrev pub frame_cost : CodeFrame → ℕ
frame_cost (Bound k y) = 1
frame_cost (Put k y) = 1
frame_cost (Arm x done q left) = 2 * nodes_rawarms (rawarms left.now)

abbrev pub step_cost : CodeStep → ℕ
step_cost (Whole x) = 0
step_cost (Within frame part) = frame_cost frame + 2 * nodes_rawcode part.now
