-- The definitions that a text lists for a program (TEXT.md, "Definitions listed").
use Rattle.std.specs.Prelude.{◌≡◌, ℕ, ◌+◌, List, [], ◌∷◌, map, replicate}
use Rattle.aen_base.specs.declared.int_ty.IntTy.TheVariants.{U32}
use Rattle.pure_ast.specs.declared.def.DefKind.TheVariants.{Forward}
use Rattle.pure_ast.specs.declared.def.Def.{Def}
use Rattle.pure_ast.specs.declared.def.Defs.{Defs}
use Rattle.pure_ast.specs.Types.{PTy, integer}
use Rattle.sums_ast.specs.declared.function.Function.{Function}
use Rattle.sums_ast.specs.declared.function.Program.{Program}

abbrev pub u32_type : PTy
u32_type = integer U32

-- the forward definition of function k: its parameters, its result, and no type parameters
pub record IsForward (k : ℕ) (f : Function) (d : Def) : Type 0 where
  pub kind : d.kind ≡ Forward (record { 0 = k })
  pub type_params : d.type_params ≡ []
  pub params : d.params ≡ replicate f.parameters u32_type
  pub result : d.result ≡ u32_type

-- one forward definition for each function, in source order, from number k on
abbrev pub AreForward : ℕ → List Function → List Def → Type 0
AreForward k [] [] = Unit {0}
AreForward k (f ∷ fs) (d ∷ ds) = IsForward k f d × AreForward (k + 1) fs ds
AreForward k _ _ = ⊥

-- no types, the functions' names in order, and their forward definitions
pub record Lists (p : Program) (defs : Defs) : Type 0 where
  pub types : defs.types ≡ []
  pub names : defs.names ≡ map (λ (f : Function). f.name) p.functions
  pub forward : AreForward 0 p.functions defs.defs
