-- What types come to, step by step, and parts of types on a stack.
use Rattle.std.specs.Prelude.{ℕ, ◌+◌, ◌*◌, List, [], ◌∷◌, ◌++◌, length, Option, Some, None, Result, Ok}
use Rattle.aen_base.specs.declared.ids.TypeId.{TypeId}
use Rattle.aen_base.specs.declared.span.Span.{Span}
use Rattle.pure_ast.specs.Types as ty
use Rattle.pure_ast.specs.Types.{PTy, ptys}
use Rattle.raw_ast.specs.declared.spelling.Spelling.{Spelling}
use Rattle.raw_ast.specs.Types as t
use Rattle.raw_ast.specs.Types.{RawType, RawTypes, rawtypes, rawtypes_list, nodes_rawtype, nodes_rawtypes}
use Rattle.raw_meaning.specs.declared.outline.Outline.{Outline}
use Rattle.text_names.specs.declared.name_rules.TypeName.{TypeName}
use Rattle.text_names.specs.declared.name_rules.TypeName.TheVariants.{Parameter, Declared}
use Rattle.text_trees.specs.declared.types.TypeFrame.{TypeFrame}
use Rattle.text_trees.specs.declared.types.TypeFrame.TheVariants.{Listed, First, Second}
use Rattle.text_trees.specs.declared.types.TypeStep.{TypeStep}
use Rattle.text_trees.specs.declared.types.TypeStep.TheVariants.{Whole, Within}
use Rattle.text_trees.specs.Nodes.{type_name}
use Rattle.text_trees.specs.Told.{and_then, on_ok}

abbrev pub type_id : ℕ → TypeId
type_id k = record { 0 = k }

-- a product, or a declared type with its arguments
abbrev pub made : Option TypeId → List PTy → PTy
made None parts = ty.product (ptys parts)
made (Some k) parts = ty.named k.0 (ptys parts)

-- a type parameter or a declared type
abbrev pub by_name : TypeName → Result (List PTy) Span → Result PTy Span
by_name (Parameter k) args = Ok (ty.parameter k)
by_name (Declared k) args = on_ok (made (Some (type_id k))) args

abbrev mutual
  pub type_told : Outline → List (List ℕ) → RawType → Result PTy Span
  type_told h ps (t.integer i) = Ok (ty.integer i)
  type_told h ps t.boolean = Ok ty.boolean
  type_told h ps t.unit = Ok ty.unit
  type_told h ps (t.product parts) = on_ok (made None) (types_told h ps parts)
  type_told h ps (t.named s args) = and_then (type_name h ps s (length (rawtypes_list args))) (λ m. by_name m (types_told h ps args))
  type_told h ps (t.exit broken returned) = and_then (type_told h ps broken) (λ x. on_ok (λ y. ty.exit x y) (type_told h ps returned))

  pub types_told : Outline → List (List ℕ) → RawTypes → Result (List PTy) Span
  types_told h ps t.no_rawtypes = Ok []
  types_told h ps (t.more_rawtypes x rest) = and_then (type_told h ps x) (λ y. on_ok (λ ys. y ∷ ys) (types_told h ps rest))

-- a name with these arguments
abbrev pub named_told : Outline → List (List ℕ) → Spelling → List RawType → Result PTy Span
named_told h ps s args = and_then (type_name h ps s (length args)) (λ m. by_name m (types_told h ps (rawtypes args)))

-- ---- on a stack

-- parts, of which these are told
abbrev pub listed : Outline → List (List ℕ) → Option TypeId → List RawType → List PTy → Result PTy Span
listed h ps head left done = on_ok (λ ys. made head (done ++ ys)) (types_told h ps (rawtypes left))

-- what waits for a type in it
abbrev pub frame_told : Outline → List (List ℕ) → TypeFrame → PTy → Result PTy Span
frame_told h ps (Listed head left done) x = listed h ps head left.now (done ++ x ∷ [])
frame_told h ps (First returned) x = on_ok (λ y. ty.exit x y) (type_told h ps returned.now)
frame_told h ps (Second broken) x = Ok (ty.exit broken x)

abbrev pub step_told : Outline → List (List ℕ) → TypeStep → Result PTy Span
step_told h ps (Whole x) = Ok x
step_told h ps (Within frame part) = and_then (type_told h ps part.now) (frame_told h ps frame)

-- how much is left to do
abbrev pub frame_cost : TypeFrame → ℕ
frame_cost (Listed head left done) = 3 * nodes_rawtypes (rawtypes left.now)
frame_cost (First returned) = 3 * nodes_rawtype returned.now + 2
frame_cost (Second broken) = 1

abbrev pub step_cost : TypeStep → ℕ
step_cost (Whole x) = 0
step_cost (Within frame part) = frame_cost frame + 3 * nodes_rawtype part.now
