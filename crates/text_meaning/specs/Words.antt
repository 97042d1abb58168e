-- The words of a printed text, and the names of types and operators (TEXT.md, "Words").
use Rattle.std.specs.Prelude.{ℕ, List, [], ◌∷◌, codes}
use Rattle.aen_base.specs.declared.int_ty.IntTy.{IntTy}
use Rattle.aen_base.specs.declared.int_ty.IntTy.TheVariants.{U8, U16, U32, U64, U128, Usize, I8, I16, I32, I64, I128, Isize}
use Rattle.aen_base.specs.declared.operators.BinOp.{BinOp}
use Rattle.aen_base.specs.declared.operators.BinOp.TheVariants as B
use Rattle.aen_base.specs.declared.operators.CmpOp.{CmpOp}
use Rattle.aen_base.specs.declared.operators.CmpOp.TheVariants as C
use Rattle.pure_ast.specs.declared.comp.BoolOp.{BoolOp}
use Rattle.pure_ast.specs.declared.comp.BoolOp.TheVariants as O

abbrev pub int_word : IntTy → List ℕ
int_word U8 = codes "U8"
int_word U16 = codes "U16"
int_word U32 = codes "U32"
int_word U64 = codes "U64"
int_word U128 = codes "U128"
int_word Usize = codes "Usize"
int_word I8 = codes "I8"
int_word I16 = codes "I16"
int_word I32 = codes "I32"
int_word I64 = codes "I64"
int_word I128 = codes "I128"
int_word Isize = codes "Isize"

abbrev pub arith_word : BinOp → List ℕ
arith_word B.Add = codes "add"
arith_word B.Sub = codes "sub"
arith_word B.Mul = codes "mul"
arith_word B.Div = codes "div"
arith_word B.Rem = codes "rem"
arith_word B.Shl = codes "shl"
arith_word B.Shr = codes "shr"
arith_word B.And = codes "and"
arith_word B.Or = codes "or"
arith_word B.Xor = codes "xor"

abbrev pub compare_word : CmpOp → List ℕ
compare_word C.Eq = codes "eq"
compare_word C.Ne = codes "ne"
compare_word C.Lt = codes "lt"
compare_word C.Le = codes "le"
compare_word C.Gt = codes "gt"
compare_word C.Ge = codes "ge"

abbrev pub bool_word : BoolOp → List ℕ
bool_word O.Eq = codes "eq"
bool_word O.Ne = codes "ne"
bool_word O.And = codes "and"
bool_word O.Or = codes "or"
bool_word O.Xor = codes "xor"
bool_word O.Not = codes "not"

-- the words that no name is spelled as without marks
abbrev pub heading_words : List (List ℕ)
heading_words = codes "import" ∷ codes "AenPrelude" ∷ codes "open" ∷ codes "inductive" ∷ codes "Type"
    ∷ codes "where" ∷ codes "structure" ∷ codes "def" ∷ codes "n" ∷ codes "Nat" ∷ codes "Result" ∷ []

abbrev pub code_words : List (List ℕ)
code_words = codes "match" ∷ codes "with" ∷ codes "outOfFuel" ∷ codes "do" ∷ codes "let" ∷ codes "true"
    ∷ codes "false" ∷ codes "ok" ∷ codes "fail" ∷ codes "brk" ∷ codes "ret" ∷ []

abbrev pub part_words : List (List ℕ)
part_words = codes "Bool" ∷ codes "Unit" ∷ codes "Exit" ∷ codes "fn" ∷ codes "loop" ∷ codes "back" ∷ []

abbrev pub int_words : List (List ℕ)
int_words = codes "U8" ∷ codes "U16" ∷ codes "U32" ∷ codes "U64" ∷ codes "U128" ∷ codes "Usize"
    ∷ codes "I8" ∷ codes "I16" ∷ codes "I32" ∷ codes "I64" ∷ codes "I128" ∷ codes "Isize" ∷ []
