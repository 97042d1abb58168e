-- What breaks no rule stands for something well-formed (TEXT.md, "Faults", "Well-formed definitions").
use Rattle.std.specs.Prelude.{◌≡◌, ℕ, List, [], length, Option, Some}
use Rattle.pure_ast.specs.declared.def.Defs.{Defs}
use Rattle.pure_ast.specs.Types.{PTy}
use Rattle.text_meaning.specs.WellFormed.{IsWellFormed}
use Rattle.text_meaning.specs.WellFormedCode.{IsCode}
use Rattle.text_meaning.specs.WellFormedTerms.{IsTerm}
use Rattle.text_meaning.specs.WellFormedTypes.{IsType}
use Rattle.raw_ast.specs.declared.declarations.RawText.{RawText}
use Rattle.raw_ast.specs.Atoms.{RawAtom}
use Rattle.raw_ast.specs.Code.{RawCode}
use Rattle.raw_ast.specs.Types.{RawType}
use Rattle.raw_meaning.specs.declared.outline.Outline.{Outline}
use Rattle.raw_meaning.specs.Faults.{type_faults, atom_faults, code_faults, faults}
use Rattle.raw_meaning.specs.Heads.{declared_by}
use Rattle.raw_meaning.specs.Named.{IsNamedText}
use Rattle.raw_meaning.specs.Shape.{IsShapedType, IsShapedAtom, IsShapedCode, IsShapedText}
use Rattle.raw_meaning.specs.Trees.{type_tree, atom_tree, code_tree, definitions}

-- this stands for a tree that keeps to the condition under any definitions that declare the same
pub record IsFormed {A : Type 0} (h : Outline) (Fits : Defs → A → Type 0) (o : Option A) : Type 0 where
  pub tree : A
  pub is : o ≡ Some tree
  pub fits : (d : Defs) → declared_by d ≡ h → Fits d tree

-- a type where these are the type parameters
abbrev pub IsTypeWith : List (List ℕ) → Defs → PTy → Type 0
IsTypeWith ps d t = IsType d (length ps) t

abbrev pub TypesAreFormed : Type 0
TypesAreFormed = (h : Outline) (ps : List (List ℕ)) (t : RawType) → IsShapedType t → type_faults h ps t ≡ [] → IsFormed h (IsTypeWith ps) (type_tree h ps t)

abbrev pub AtomsAreFormed : Type 0
AtomsAreFormed = (h : Outline) (a : RawAtom) → IsShapedAtom a → atom_faults h a ≡ [] → IsFormed h IsTerm (atom_tree h a)

abbrev pub CodesAreFormed : Type 0
CodesAreFormed = (h : Outline) (x : RawCode) → IsShapedCode x → code_faults h x ≡ [] → IsFormed h IsCode (code_tree h x)

-- the definitions that a text stands for
pub record IsFormedText (text : RawText) : Type 0 where
  pub tree : Defs
  pub is : definitions text ≡ Some tree
  pub well_formed : IsWellFormed tree

abbrev pub TextsAreFormed : Type 0
TextsAreFormed = (text : RawText) → IsShapedText text → IsNamedText text → faults text ≡ [] → IsFormedText text
