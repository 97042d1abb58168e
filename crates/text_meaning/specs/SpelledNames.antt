-- The tokens of the names of constructors, definitions and primitives (TEXT.md, "Grammar").
use Rattle.std.specs.Prelude.{ℕ, List, [], ◌∷◌, ◌++◌, Option, Some, None, codes, slice_get}
use Rattle.aen_base.specs.declared.operators.Builtin.{Builtin}
use Rattle.aen_base.specs.declared.operators.Builtin.TheVariants.{BoxNew, Replace, Swap}
use Rattle.pure_ast.specs.declared.ctor.CtorId.{CtorId}
use Rattle.pure_ast.specs.declared.ctor.CtorId.TheVariants.{Of, Brk, Ret}
use Rattle.pure_ast.specs.declared.comp.Primitive.{Primitive}
use Rattle.pure_ast.specs.declared.comp.Primitive.TheVariants as P
use Rattle.pure_ast.specs.declared.def.DefKind.{DefKind}
use Rattle.pure_ast.specs.declared.def.DefKind.TheVariants as K
use Rattle.pure_ast.specs.declared.def.Def.{Def}
use Rattle.pure_ast.specs.declared.def.Defs.{Defs}
use Rattle.text_meaning.specs.declared.mark.Mark.TheVariants.{Dot}
use Rattle.text_meaning.specs.Lookups.{type_name, variant_name, function_name}
use Rattle.text_meaning.specs.Tokens.{Token, word, id, mark, var_text, loop_text, back_text}
use Rattle.text_meaning.specs.Words.{int_word, arith_word, compare_word, bool_word}

abbrev pub var_token : ℕ → Token
var_token v = word (var_text v)

-- `cname`
abbrev pub ctor_tokens : Defs → CtorId → List Token
ctor_tokens defs (Of t k) = id (type_name defs t.0) ∷ mark Dot ∷ id (variant_name defs t.0 k) ∷ []
ctor_tokens defs Brk = word (codes "Exit") ∷ mark Dot ∷ word (codes "brk") ∷ []
ctor_tokens defs Ret = word (codes "Exit") ∷ mark Dot ∷ word (codes "ret") ∷ []

-- `"fn" "." id`
abbrev pub function_tokens : Defs → ℕ → List Token
function_tokens defs f = word (codes "fn") ∷ mark Dot ∷ id (function_name defs f) ∷ []

-- `dname`
abbrev pub kind_tokens : Defs → DefKind → List Token
kind_tokens defs (K.Forward f) = function_tokens defs f.0
kind_tokens defs (K.Back f r) = function_tokens defs f.0 ++ mark Dot ∷ word (back_text r.0) ∷ []
kind_tokens defs (K.Loop f k) = function_tokens defs f.0 ++ mark Dot ∷ word (loop_text k.0) ∷ []
kind_tokens defs (K.LoopBack f k c) =
    function_tokens defs f.0 ++ mark Dot ∷ word (loop_text k.0) ∷ mark Dot ∷ word (back_text c) ∷ []

-- the name of the definition of this number
abbrev pub def_name_tokens : Defs → Option Def → List Token
def_name_tokens defs None = []
def_name_tokens defs (Some d) = kind_tokens defs d.kind

abbrev pub callee_tokens : Defs → ℕ → List Token
callee_tokens defs d = def_name_tokens defs (slice_get defs.defs d)

-- words with dots between them
abbrev pub dotted : List ℕ → List ℕ → List Token
dotted a b = word a ∷ mark Dot ∷ word b ∷ []

abbrev pub dotted_more : List ℕ → List ℕ → List ℕ → List Token
dotted_more a b c = word a ∷ mark Dot ∷ word b ∷ mark Dot ∷ word c ∷ []

abbrev pub builtin_words : Builtin → List ℕ × List ℕ
builtin_words BoxNew = (codes "Box", codes "new")
builtin_words Replace = (codes "mem", codes "replace")
builtin_words Swap = (codes "mem", codes "swap")

-- `prim`
abbrev pub prim_tokens : Primitive → List Token
prim_tokens (P.Arith t op) = dotted (int_word t) (arith_word op)
prim_tokens (P.Neg t) = dotted (int_word t) (codes "neg")
prim_tokens (P.Not t) = dotted (int_word t) (codes "not")
prim_tokens (P.Compare t op) = dotted (int_word t) (compare_word op)
prim_tokens (P.Bools op) = dotted (codes "Bool") (bool_word op)
prim_tokens (P.Cast t u) = dotted_more (codes "cast") (int_word t) (int_word u)
prim_tokens (P.CastBool t) = dotted_more (codes "cast") (codes "Bool") (int_word t)
prim_tokens (P.Forward b) = dotted (builtin_words b).0 (builtin_words b).1
prim_tokens (P.Back b r) = dotted_more (builtin_words b).0 (builtin_words b).1 (back_text r.0)
