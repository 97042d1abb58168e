-- When a pattern fits a value, and what its variables then are (TEXT.md, "Meaning").
use Rattle.std.specs.Prelude.{ℕ, Bool, true, false, ◌&&◌, ◌==◌, List, [], ◌∷◌, Option, Some, None, if◌then◌else◌}
use Rattle.std.specs.Option.{option_map}
use Rattle.pure_ast.specs.declared.ctor.CtorId.{CtorId}
use Rattle.pure_ast.specs.declared.ctor.CtorId.TheVariants.{Of, Brk, Ret}
use Rattle.pure_ast.specs.declared.pat.Pat.{Pat}
use Rattle.pure_ast.specs.declared.pat.Pat.TheVariants as P
use Rattle.pure_ast.specs.Values.{PValue, truth, tuple, built, pvalues_list}
use Rattle.text_meaning.specs.Environment.{Environment}

abbrev pub same_truth : Bool → Bool → Bool
same_truth true true = true
same_truth false false = true
same_truth true false = false
same_truth false true = false

abbrev pub same_ctor : CtorId → CtorId → Bool
same_ctor (Of t k) (Of u j) = (t.0 == u.0) && (k == j)
same_ctor Brk Brk = true
same_ctor Ret Ret = true
same_ctor _ _ = false

-- each variable with its part; None where there are not as many of the one as of the other
abbrev pub bound : List ℕ → List PValue → Option Environment
bound [] [] = Some []
bound [] (a ∷ parts) = None
bound (v ∷ variables) [] = None
bound (v ∷ variables) (a ∷ parts) = option_map (λ env. (v, a) ∷ env) (bound variables parts)

-- the variables of a pattern that fits; None where it does not fit
abbrev pub fits : Pat → PValue → Option Environment
fits (P.Bool b) (truth c) = if same_truth b c then Some [] else None
fits (P.Tuple variables) (tuple parts) = bound variables (pvalues_list parts)
fits (P.Ctor c variables) (built d parts) = if same_ctor c d then bound variables (pvalues_list parts) else None
fits _ _ = None
