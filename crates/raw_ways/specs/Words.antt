-- What words stand for that have a class of their own (TEXT.md, "Words", "Primitives").
use Rattle.std.specs.Prelude.{Bool, true, false}
use Rattle.aen_base.specs.declared.int_ty.IntTy.{IntTy}
use Rattle.aen_base.specs.declared.int_ty.IntTy.TheVariants as I
use Rattle.aen_base.specs.declared.operators.BinOp.TheVariants as B
use Rattle.aen_base.specs.declared.operators.CmpOp.TheVariants as O
use Rattle.pure_ast.specs.declared.comp.BoolOp.{BoolOp}
use Rattle.pure_ast.specs.declared.comp.BoolOp.TheVariants as L
use Rattle.pure_ast.specs.declared.comp.Primitive.{Primitive}
use Rattle.pure_ast.specs.declared.comp.Primitive.TheVariants as P
use Rattle.text_table.specs.declared.class.Class.{Class}
use Rattle.text_table.specs.declared.class.Class.TheVariants as C

-- an integer type
abbrev pub int_of : Class → IntTy
int_of C.U8 = I.U8
int_of C.U16 = I.U16
int_of C.U32 = I.U32
int_of C.U64 = I.U64
int_of C.U128 = I.U128
int_of C.Usize = I.Usize
int_of C.I8 = I.I8
int_of C.I16 = I.I16
int_of C.I32 = I.I32
int_of C.I64 = I.I64
int_of C.I128 = I.I128
int_of class = I.Isize

abbrev pub is_true : Class → Bool
is_true C.True = true
is_true class = false

-- the primitive of an integer type by its operator
abbrev pub int_primitive : IntTy → Class → Primitive
int_primitive t C.Add = P.Arith t B.Add
int_primitive t C.Sub = P.Arith t B.Sub
int_primitive t C.Mul = P.Arith t B.Mul
int_primitive t C.Div = P.Arith t B.Div
int_primitive t C.Rem = P.Arith t B.Rem
int_primitive t C.Shl = P.Arith t B.Shl
int_primitive t C.Shr = P.Arith t B.Shr
int_primitive t C.And = P.Arith t B.And
int_primitive t C.Or = P.Arith t B.Or
int_primitive t C.Xor = P.Arith t B.Xor
int_primitive t C.Neg = P.Neg t
int_primitive t C.Eq = P.Compare t O.Eq
int_primitive t C.Ne = P.Compare t O.Ne
int_primitive t C.Lt = P.Compare t O.Lt
int_primitive t C.Le = P.Compare t O.Le
int_primitive t C.Gt = P.Compare t O.Gt
int_primitive t C.Ge = P.Compare t O.Ge
int_primitive t class = P.Not t

-- the primitive of bools by its operator
abbrev pub bool_operator : Class → BoolOp
bool_operator C.Eq = L.Eq
bool_operator C.Ne = L.Ne
bool_operator C.And = L.And
bool_operator C.Or = L.Or
bool_operator C.Xor = L.Xor
bool_operator class = L.Not

abbrev pub bool_primitive : Class → Primitive
bool_primitive class = P.Bools (bool_operator class)
