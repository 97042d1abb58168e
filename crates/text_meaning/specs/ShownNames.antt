-- How the names of constructors, definitions and primitives are laid out (TEXT.md, "Layout").
use Rattle.std.specs.Prelude.{ℕ, List, [], ◌++◌, Option, Some, None, codes, slice_get, if◌then◌else◌}
use Rattle.std.specs.Fmt.{decimal}
use Rattle.aen_base.specs.declared.operators.Builtin.{Builtin}
use Rattle.aen_base.specs.declared.operators.Builtin.TheVariants.{BoxNew, Replace, Swap}
use Rattle.pure_ast.specs.declared.ctor.CtorId.{CtorId}
use Rattle.pure_ast.specs.declared.ctor.CtorId.TheVariants.{Of, Brk, Ret}
use Rattle.pure_ast.specs.declared.comp.Primitive.{Primitive}
use Rattle.pure_ast.specs.declared.comp.Primitive.TheVariants as P
use Rattle.pure_ast.specs.declared.def.DefKind.{DefKind}
use Rattle.pure_ast.specs.declared.def.DefKind.TheVariants as K
use Rattle.pure_ast.specs.declared.def.Def.{Def}
use Rattle.pure_ast.specs.declared.def.Defs.{Defs}
use Rattle.text_meaning.specs.Lexing.{quoted}
use Rattle.text_meaning.specs.Lookups.{type_name, variant_name, function_name}
use Rattle.text_meaning.specs.Names.{is_bare}
use Rattle.text_meaning.specs.Words.{int_word, arith_word, compare_word, bool_word}

-- a name: as it is where it may be, else between « and »
abbrev pub name_text : List ℕ → List ℕ
name_text name = if is_bare name then name else quoted name

abbrev pub ctor_text : Defs → CtorId → List ℕ
ctor_text defs (Of t k) = name_text (type_name defs t.0) ++ (codes "." ++ name_text (variant_name defs t.0 k))
ctor_text defs Brk = codes "Exit.brk"
ctor_text defs Ret = codes "Exit.ret"

abbrev pub function_text : Defs → ℕ → List ℕ
function_text defs f = codes "fn." ++ name_text (function_name defs f)

abbrev pub kind_text : Defs → DefKind → List ℕ
kind_text defs (K.Forward f) = function_text defs f.0
kind_text defs (K.Back f r) = function_text defs f.0 ++ (codes ".back" ++ decimal r.0)
kind_text defs (K.Loop f k) = function_text defs f.0 ++ (codes ".loop" ++ decimal k.0)
kind_text defs (K.LoopBack f k c) = function_text defs f.0 ++ (codes ".loop" ++ (decimal k.0 ++ (codes ".back" ++ decimal c)))

-- the name of the definition of this number
abbrev pub def_name_text : Defs → Option Def → List ℕ
def_name_text defs None = []
def_name_text defs (Some d) = kind_text defs d.kind

abbrev pub callee_text : Defs → ℕ → List ℕ
callee_text defs d = def_name_text defs (slice_get defs.defs d)

abbrev pub builtin_text : Builtin → List ℕ
builtin_text BoxNew = codes "Box.new"
builtin_text Replace = codes "mem.replace"
builtin_text Swap = codes "mem.swap"

abbrev pub prim_text : Primitive → List ℕ
prim_text (P.Arith t op) = int_word t ++ (codes "." ++ arith_word op)
prim_text (P.Neg t) = int_word t ++ codes ".neg"
prim_text (P.Not t) = int_word t ++ codes ".not"
prim_text (P.Compare t op) = int_word t ++ (codes "." ++ compare_word op)
prim_text (P.Bools op) = codes "Bool." ++ bool_word op
prim_text (P.Cast t u) = codes "cast." ++ (int_word t ++ (codes "." ++ int_word u))
prim_text (P.CastBool t) = codes "cast.Bool." ++ int_word t
prim_text (P.Forward b) = builtin_text b
prim_text (P.Back b r) = builtin_text b ++ (codes ".back" ++ decimal r.0)
