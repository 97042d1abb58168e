-- Well-formed types and declarations of types (TEXT.md, "Well-formed definitions").
use Rattle.std.specs.Prelude.{◌≡◌, ℕ, suc, ◌<◌, ◌≤◌, Bool, true, false, List, [], ◌∷◌, ◌++◌, length, codes, map, Option, Some, slice_get}
use Rattle.std.specs.Option.{option_map}
use Rattle.std.specs.Fmt.{decimal}
use Rattle.pure_ast.specs.declared.def.Defs.{Defs}
use Rattle.pure_ast.specs.declared.def.PType.{PType}
use Rattle.pure_ast.specs.Types.{PTy, PTys, integer, boolean, unit, product, named, parameter, exit, no_ptys, more_ptys, ptys_list}
use Rattle.text_meaning.specs.Lists.{Each, Differ}
use Rattle.text_meaning.specs.Lookups.{Variant}
use Rattle.text_meaning.specs.Names.{IsName}

-- how many type parameters the type of this number has; None where there is no such type
abbrev pub parameters_of : Defs → ℕ → Option ℕ
parameters_of defs t = option_map (λ d. length d.params) (slice_get defs.types t)

-- a type with its parts, where there are so many type parameters
abbrev mutual
  pub IsType : Defs → ℕ → PTy → Type 0
  IsType defs count (integer t) = Unit {0}
  IsType defs count boolean = Unit {0}
  IsType defs count unit = Unit {0}
  IsType defs count (product parts) = (2 ≤ length (ptys_list parts)) × AreTypes defs count parts
  IsType defs count (named t args) = (parameters_of defs t ≡ Some (length (ptys_list args))) × AreTypes defs count args
  IsType defs count (parameter k) = k < count
  IsType defs count (exit a b) = IsType defs count a × IsType defs count b

  pub AreTypes : Defs → ℕ → PTys → Type 0
  AreTypes defs count no_ptys = Unit {0}
  AreTypes defs count (more_ptys a rest) = IsType defs count a × AreTypes defs count rest

abbrev pub names_of : {A : Type 0} → List (List ℕ × A) → List (List ℕ)
names_of items = map (λ x. x.0) items

-- the names of the fields of a type that is no structure: `f0`, `f1` and so on, from k
abbrev pub AreNumbered : ℕ → List (List ℕ × PTy) → Type 0
AreNumbered k [] = Unit {0}
AreNumbered k (f ∷ rest) = (f.0 ≡ codes "f" ++ decimal k) × AreNumbered (suc k) rest

-- names that are names, and differ
abbrev pub AreNames : List (List ℕ) → Type 0
AreNames names = Each IsName names × Differ names

-- a structure has one variant, named `mk`
abbrev pub IsStructure : List Variant → Type 0
IsStructure [] = ⊥
IsStructure (v ∷ []) = (v.0 ≡ codes "mk") × AreNames (names_of v.1)
IsStructure (v ∷ w ∷ rest) = ⊥

-- the variants of a structure, or of another type
abbrev pub AreVariants : Bool → List Variant → Type 0
AreVariants true variants = IsStructure variants
AreVariants false variants = AreNames (names_of variants) × Each (λ v. AreNumbered 0 v.1) variants

abbrev pub type_names : Defs → List (List ℕ)
type_names defs = map (λ d. d.name) defs.types

-- type parameters: names that differ, and differ from the names of the types
abbrev pub AreTypeParameters : Defs → List (List ℕ) → Type 0
AreTypeParameters defs names = AreNames names × Each (λ name. Each (λ other. name ≡ other → ⊥) (type_names defs)) names

pub record IsDeclaration (defs : Defs) (t : PType) : Type 0 where
  pub params : AreTypeParameters defs t.params
  pub variants : AreVariants t.is_struct t.variants
  pub fields : Each (λ v. Each (λ f. IsType defs (length t.params) f.1) v.1) t.variants
