-- What is called (LANGUAGE.md, "Calls").
use Rattle.std.specs.Prelude.{ℕ, zero, suc, ◌+◌, option_map, List, [], unwrap_or, map, slice_get}
use Rattle.core_ty.specs.Signatures.{builtin_of}
use Rattle.core_ty.specs.declared.decl.Sig.{Sig}
use Rattle.type_rules.specs.Fields.{fields_of, parameters_of}
use Rattle.type_rules.specs.declared.state.Scope.{Scope}
use Rattle.core_ty.specs.Signatures as builtins
use Rattle.rust_ast.specs.Resolved as e
use Rattle.core_ty.specs.Types as t

-- what is called: how many type parameters it has, its parameters' types, its result
pub record Callee : Type 0 where
  pub types : ℕ
  pub params : List t.Ty
  pub result : t.Ty

abbrev pub of_sig : Sig → Callee
of_sig g = record { types = g.type_params; params = g.params; result = g.result }

abbrev pub no_callee : Callee
no_callee = record { types = 0; params = []; result = t.unit }

abbrev pub parameters_from : ℕ → ℕ → t.Tys
parameters_from zero k = t.no_tys
parameters_from (suc n) k = t.more_tys (t.param k) (parameters_from n (k + 1))

-- a constructor takes its fields and gives its type with all its parameters
abbrev pub callee_of : Scope → e.Callee → Callee
callee_of c (e.function f) = unwrap_or (option_map of_sig (slice_get c.sigs f)) no_callee
callee_of c (e.builtin_of b) = of_sig (builtins.builtin_of b)
callee_of c (e.constructor d v) = record {
  types = parameters_of c.decls d.0;
  params = map (λ (f : List ℕ × t.Ty). f.1) (fields_of c.decls d.0 v);
  result = t.named d (parameters_from (parameters_of c.decls d.0) 0);
}
