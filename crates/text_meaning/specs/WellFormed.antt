-- Well-formed definitions (TEXT.md, "Well-formed definitions").
use Rattle.std.specs.Prelude.{◌≡◌, ℕ, suc, ◌<◌, ◌≤◌, ◌^◌, ◌⊎◌, List, [], ◌∷◌, length, map}
use Rattle.pure_ast.specs.declared.def.Def.{Def}
use Rattle.pure_ast.specs.declared.def.DefKind.{DefKind}
use Rattle.pure_ast.specs.declared.def.DefKind.TheVariants as K
use Rattle.pure_ast.specs.declared.def.Defs.{Defs}
use Rattle.text_meaning.specs.Lists.{Each, Differ}
use Rattle.text_meaning.specs.Ranges.{IsSmall}
use Rattle.text_meaning.specs.WellFormedCode.{IsCode}
use Rattle.text_meaning.specs.WellFormedTypes.{IsType, AreNames, AreTypeParameters, IsDeclaration, type_names}

-- the function whose definition it is
abbrev pub function_of : DefKind → ℕ
function_of (K.Forward f) = f.0
function_of (K.Back f r) = f.0
function_of (K.Loop f k) = f.0
function_of (K.LoopBack f k c) = f.0

-- the numbers of its loop and of its region or class
abbrev pub IsKind : DefKind → Type 0
IsKind (K.Forward f) = Unit {0}
IsKind (K.Back f r) = IsSmall r.0
IsKind (K.Loop f k) = IsSmall k.0
IsKind (K.LoopBack f k c) = IsSmall k.0 × IsSmall c

-- functions are numbered in the order of their first definitions: each definition is of a function
-- below k, or of k itself as the first, and at the end there are `count` functions
abbrev pub AreInOrder : ℕ → List Def → ℕ → Type 0
AreInOrder k [] count = k ≡ count
AreInOrder k (d ∷ rest) count =
    ((function_of d.kind < k) × AreInOrder k rest count) ⊎ ((function_of d.kind ≡ k) × AreInOrder (suc k) rest count)

pub record IsDefinition (defs : Defs) (d : Def) : Type 0 where
  pub kind : IsKind d.kind
  pub type_params : AreTypeParameters defs d.type_params
  pub count : length d.params ≤ 2 ^ 32
  pub params : Each (IsType defs (length d.type_params)) d.params
  pub result : IsType defs (length d.type_params) d.result
  pub code : IsCode defs d.code

pub record IsWellFormed (defs : Defs) : Type 0 where
  pub types_named : AreNames (type_names defs)
  pub types : Each (IsDeclaration defs) defs.types
  pub functions_named : AreNames defs.names
  pub order : AreInOrder 0 defs.defs (length defs.names)
  pub kinds : Differ (map (λ d. d.kind) defs.defs)
  pub definitions : Each (IsDefinition defs) defs.defs
