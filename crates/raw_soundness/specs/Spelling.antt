-- What productions make wants what their symbols want, where that takes a case or a shape.
use Rattle.std.specs.Prelude.{◌≡◌, refl, true, [], ◌∷◌, Option, Some, None, codes}
use Rattle.std.specs.Fmt.{digits}
use Rattle.std.proofs.Common.{ap}
use Rattle.aen_base.specs.declared.int_ty.IntTy.{IntTy}
use Rattle.aen_base.specs.declared.operators.Builtin.TheVariants.{BoxNew, Replace, Swap}
use Rattle.pure_ast.specs.declared.comp.Primitive.{Primitive}
use Rattle.pure_ast.specs.declared.comp.Primitive.TheVariants as P
use Rattle.text_meaning.specs.declared.mark.Mark.TheVariants as M
use Rattle.text_meaning.specs.Lists.{Each}
use Rattle.text_meaning.specs.SpelledNames.{prim_tokens, dotted}
use Rattle.text_meaning.specs.Words.{int_word}
use Rattle.text_syntax.specs.Among.{each_class}
use Rattle.text_table.specs.declared.class.Class.{Class}
use Rattle.text_table.specs.declared.lexeme.Lexeme.{Lexeme}
use Rattle.text_table.specs.declared.terminal.Terminal.TheVariants as T
use Rattle.text_table.specs.Classes.{classes, spelling}
use Rattle.text_table.specs.Lexemes.{has_class}
use Rattle.raw_ast.specs.declared.computation.Operation.{Operation}
use Rattle.raw_ast.specs.declared.names.Constructor.{Constructor}
use Rattle.raw_ast.specs.declared.names.Constructor.TheVariants as K
use Rattle.raw_ast.specs.declared.spelling.Spelling.{Spelling}
use Rattle.raw_ast.specs.Atoms as a
use Rattle.raw_ast.specs.Atoms.{RawAtom}
use Rattle.raw_ast.specs.Types as t
use Rattle.raw_ast.specs.Types.{RawType}
use Rattle.raw_values.specs.declared.rests.AfterConstructor.{AfterConstructor}
use Rattle.raw_values.specs.declared.rests.AfterConstructor.TheVariants as after_constructor
use Rattle.raw_values.specs.declared.rests.AfterName.{AfterName}
use Rattle.raw_values.specs.declared.rests.AfterName.TheVariants as after_name
use Rattle.raw_values.specs.declared.rests.AfterTypeName.{AfterTypeName}
use Rattle.raw_values.specs.declared.rests.AfterTypeName.TheVariants as after_type
use Rattle.raw_values.specs.declared.rests.Bound.{Bound}
use Rattle.raw_values.specs.declared.rests.Bound.TheVariants as bound
use Rattle.raw_values.specs.declared.rests.NameEnd.{NameEnd}
use Rattle.raw_ways.specs.Ways as ways
use Rattle.raw_ways.specs.Words.{int_of, int_primitive, bool_primitive}
use Rattle.raw_meaning.specs.Wants as w
use Rattle.raw_meaning.specs.Wants.{Wants, fixed, numbered, says, marks, type_wants, atom_wants, constructor_wants, code_wants, name_part_wants}
use Rattle.raw_soundness.specs.Shapes.{IsTypeInBrackets, IsAtomInBrackets, IsExit, HasEnd, IsCast, IsReplaceBack, IsSwapBack, IsInMemory, IsShapedAfterType, IsShapedAfterConstructor, IsShapedEnd}
use Rattle.raw_soundness.specs.Symbols.{past, variant_rest_wants, after_name_wants, after_type_wants, after_constructor_wants, bound_wants, end_wants, operation_wants, operation_end_wants}

-- ---- types

pub name_first_spelled : (l : Lexeme) (x : AfterName) (rest : Wants) → variant_rest_wants (ways.name_first l x) rest ≡ w.name l.text ∷ after_name_wants x rest
name_first_spelled l (after_name.Fields r) rest = refl
name_first_spelled l (after_name.Parameters ns) rest = refl

pub type_in_brackets : (x : RawType) (rest : Wants) → IsTypeInBrackets x → type_wants x rest ≡ marks M.Open (past (type_wants x rest))
type_in_brackets (t.integer i) rest h = absurd h
type_in_brackets t.boolean rest h = absurd h
type_in_brackets t.unit rest h = absurd h
type_in_brackets (t.named s t.no_rawtypes) rest h = absurd h
type_in_brackets (t.named s (t.more_rawtypes x xs)) rest h = refl
type_in_brackets (t.exit x y) rest h = refl
type_in_brackets (t.product t.no_rawtypes) rest h = absurd h
type_in_brackets (t.product (t.more_rawtypes x xs)) rest h = refl

pub after_type_spelled : (l : Lexeme) (x : AfterTypeName) (rest : Wants) → IsShapedAfterType x →
    past (type_wants (ways.after_name l x) rest) ≡ w.name l.text ∷ after_type_wants x rest
after_type_spelled l (after_type.Arguments []) rest h = absurd h.0
after_type_spelled l (after_type.Arguments (x ∷ xs)) rest h = refl
after_type_spelled l (after_type.Factors xs) rest h = refl

-- ---- names of definitions, code

end_by : (turn back : Option Spelling) (rest : Wants) → HasEnd turn back →
    name_part_wants turn (name_part_wants back rest) ≡ marks M.Dot (past (name_part_wants turn (name_part_wants back rest)))
end_by None None rest h = absurd h
end_by None (Some s) rest h = refl
end_by (Some s) back rest h = refl

pub name_part_spelled : (e : NameEnd) (rest : Wants) → HasEnd e.turn e.back → end_wants e rest ≡ marks M.Dot (past (end_wants e rest))
name_part_spelled e rest h = end_by e.turn e.back rest h

pub let_spelled : (l : Lexeme) (x : Bound) (rest : Wants) → code_wants (ways.let_code l x) rest ≡ says (codes "let") (numbered l.text ∷ bound_wants x rest)
let_spelled l (bound.Computation x c) rest = refl
let_spelled l (bound.Atom x c) rest = refl

-- ---- primitives

-- an operator's class is spelled as the operator
abbrev IsIntOperator : IntTy → Class → Type 0
IsIntOperator ty c = prim_tokens (int_primitive ty c) ≡ dotted (int_word ty) (spelling c)

int_operators : (ty : IntTy) → Each (IsIntOperator ty) (classes T.IntOperator)
int_operators ty =
    (refl, (refl, (refl, (refl, (refl, (refl, (refl, (refl, (refl, (refl, (refl, (refl, (refl, (refl, (refl, (refl, (refl, (refl, tt))))))))))))))))))

abbrev IsBoolOperator : Class → Type 0
IsBoolOperator c = prim_tokens (bool_primitive c) ≡ dotted (codes "Bool") (spelling c)

bool_operators : Each IsBoolOperator (classes T.BoolOperator)
bool_operators = (refl, (refl, (refl, (refl, (refl, (refl, tt))))))

pub int_operation_spelled : (ty : Lexeme) (o : Lexeme) (rest : Wants) → has_class T.IntOperator o.class ≡ true →
    operation_wants (ways.int_operation ty o) rest ≡ says (int_word (int_of ty.class)) (marks M.Dot (says (spelling o.class) rest))
int_operation_spelled ty o rest h =
    ap (λ ts. w.tokens ts rest) (each_class (IsIntOperator (int_of ty.class)) (classes T.IntOperator) o.class (int_operators (int_of ty.class)) h)

pub bool_operation_spelled : (o : Lexeme) (rest : Wants) → has_class T.BoolOperator o.class ≡ true →
    operation_wants (ways.bool_operation o) rest ≡ says (codes "Bool") (marks M.Dot (says (spelling o.class) rest))
bool_operation_spelled o rest h = ap (λ ts. w.tokens ts rest) (each_class IsBoolOperator (classes T.BoolOperator) o.class bool_operators h)

cast_by : (p : Primitive) (rest : Wants) → IsCast p → w.tokens (prim_tokens p) rest ≡ says (codes "cast") (marks M.Dot (past (past (w.tokens (prim_tokens p) rest))))
cast_by (P.Cast ty u) rest h = refl
cast_by (P.CastBool ty) rest h = refl
cast_by p rest h = absurd h

pub cast_spelled : (o : Operation) (rest : Wants) → IsCast o.primitive → operation_wants o rest ≡ says (codes "cast") (marks M.Dot (past (past (operation_wants o rest))))
cast_spelled o rest h = cast_by o.primitive rest h

memory_by : (p : Primitive) (rest : Wants) → IsInMemory p → w.tokens (prim_tokens p) rest ≡ says (codes "mem") (marks M.Dot (past (past (w.tokens (prim_tokens p) rest))))
memory_by (P.Forward BoxNew) rest h = absurd h
memory_by (P.Forward Replace) rest h = refl
memory_by (P.Forward Swap) rest h = refl
memory_by (P.Back BoxNew r) rest h = absurd h
memory_by (P.Back Replace r) rest h = refl
memory_by (P.Back Swap r) rest h = refl
memory_by p rest h = absurd h

pub memory_spelled : (o : Operation) (rest : Wants) → IsInMemory o.primitive → operation_wants o rest ≡ says (codes "mem") (marks M.Dot (past (past (operation_wants o rest))))
memory_spelled o rest h = memory_by o.primitive rest h

replace_by : (p : Primitive) (rest : Wants) → IsReplaceBack p →
    past (past (w.tokens (prim_tokens p) rest)) ≡ says (codes "replace") (past (past (past (w.tokens (prim_tokens p) rest))))
replace_by (P.Back BoxNew r) rest h = absurd h
replace_by (P.Back Replace r) rest h = refl
replace_by (P.Back Swap r) rest h = absurd h
replace_by p rest h = absurd h

pub replace_spelled : (l : Lexeme) (e : Option Operation) (rest : Wants) → IsShapedEnd IsReplaceBack e →
    past (past (operation_wants (ways.replace_operation l e) rest)) ≡ says (codes "replace") (operation_end_wants e rest)
replace_spelled l None rest h = refl
replace_spelled l (Some o) rest h = replace_by o.primitive rest h

swap_by : (p : Primitive) (rest : Wants) → IsSwapBack p →
    past (past (w.tokens (prim_tokens p) rest)) ≡ says (codes "swap") (past (past (past (w.tokens (prim_tokens p) rest))))
swap_by (P.Back BoxNew r) rest h = absurd h
swap_by (P.Back Replace r) rest h = absurd h
swap_by (P.Back Swap r) rest h = refl
swap_by p rest h = absurd h

pub swap_spelled : (l : Lexeme) (e : Option Operation) (rest : Wants) → IsShapedEnd IsSwapBack e →
    past (past (operation_wants (ways.swap_operation l e) rest)) ≡ says (codes "swap") (operation_end_wants e rest)
swap_spelled l None rest h = refl
swap_spelled l (Some o) rest h = swap_by o.primitive rest h

region_by : (p : Primitive) (rest : Wants) → IsSwapBack p →
    past (past (past (w.tokens (prim_tokens p) rest))) ≡ marks M.Dot (past (past (past (past (w.tokens (prim_tokens p) rest)))))
region_by (P.Back BoxNew r) rest h = absurd h
region_by (P.Back Replace r) rest h = absurd h
region_by (P.Back Swap r) rest h = refl
region_by p rest h = absurd h

pub swap_end_spelled : (o : Operation) (rest : Wants) → IsSwapBack o.primitive →
    operation_end_wants (Some o) rest ≡ marks M.Dot (past (past (past (past (operation_wants o rest)))))
swap_end_spelled o rest h = region_by o.primitive rest h

pub replace_back_spelled : (l : Lexeme) (rest : Wants) → operation_end_wants (Some (ways.replace_back l)) rest ≡ marks M.Dot (says (codes "back0") rest)
unfolding digits
replace_back_spelled l rest = refl

pub swap_zero_spelled : (l : Lexeme) (rest : Wants) → past (past (past (past (operation_wants (ways.swap_back0 l) rest)))) ≡ says (codes "back0") rest
unfolding digits
swap_zero_spelled l rest = refl

pub swap_one_spelled : (l : Lexeme) (rest : Wants) → past (past (past (past (operation_wants (ways.swap_back1 l) rest)))) ≡ says (codes "back1") rest
unfolding digits
swap_one_spelled l rest = refl

-- ---- atoms

pub atom_in_brackets : (x : RawAtom) (rest : Wants) → IsAtomInBrackets x → atom_wants x rest ≡ marks M.Open (past (atom_wants x rest))
atom_in_brackets (a.var s) rest h = absurd h
atom_in_brackets (a.literal s i) rest h = absurd h
atom_in_brackets (a.truth b) rest h = absurd h
atom_in_brackets (a.tuple a.no_rawatoms) rest h = absurd h
atom_in_brackets (a.tuple (a.more_rawatoms x xs)) rest h = refl
atom_in_brackets (a.built k a.no_rawatoms) rest h = absurd h
atom_in_brackets (a.built k (a.more_rawatoms x xs)) rest h = refl

pub exit_spelled : (k : Constructor) (rest : Wants) → IsExit k → constructor_wants k rest ≡ says (codes "Exit") (marks M.Dot (past (past (constructor_wants k rest))))
exit_spelled (K.Of ty name) rest h = absurd h
exit_spelled (K.Brk span) rest h = refl
exit_spelled (K.Ret span) rest h = refl

pub bracketed_spelled : (k : Constructor) (x : AfterConstructor) (rest : Wants) → IsShapedAfterConstructor x →
    past (atom_wants (ways.bracketed k x) rest) ≡ constructor_wants k (after_constructor_wants x rest)
bracketed_spelled k (after_constructor.Arguments []) rest h = absurd h.0
bracketed_spelled k (after_constructor.Arguments (x ∷ xs)) rest h = refl
bracketed_spelled k (after_constructor.Parts xs) rest h = refl
