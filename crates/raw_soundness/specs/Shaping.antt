-- What productions make has the shape of their part, where that takes a case.
use Rattle.std.specs.Prelude.{◌≡◌, ◌≤◌, true, List, [], ◌∷◌, length, Option, Some, None}
use Rattle.std.proofs.Common.{arith}
use Rattle.aen_base.specs.declared.int_ty.IntTy.{IntTy}
use Rattle.aen_base.specs.declared.operators.Builtin.TheVariants.{BoxNew, Replace, Swap}
use Rattle.pure_ast.specs.declared.comp.Primitive.{Primitive}
use Rattle.pure_ast.specs.declared.comp.Primitive.TheVariants as P
use Rattle.text_meaning.specs.Lists.{Each}
use Rattle.text_meaning.specs.Ranges.{IsPrimitive}
use Rattle.text_syntax.specs.Among.{each_class}
use Rattle.text_table.specs.declared.lexeme.Lexeme.{Lexeme}
use Rattle.text_table.specs.declared.terminal.Terminal.TheVariants as T
use Rattle.text_table.specs.Classes.{classes}
use Rattle.text_table.specs.Lexemes.{has_class}
use Rattle.raw_ast.specs.declared.computation.Operation.{Operation}
use Rattle.raw_ast.specs.declared.names.Constructor.{Constructor}
use Rattle.raw_ast.specs.Atoms as a
use Rattle.raw_ast.specs.Atoms.{RawAtom, rawatoms}
use Rattle.raw_ast.specs.Types as t
use Rattle.raw_ast.specs.Types.{RawType, rawtypes}
use Rattle.raw_values.specs.declared.rests.AfterConstructor.{AfterConstructor}
use Rattle.raw_values.specs.declared.rests.AfterConstructor.TheVariants as after_constructor
use Rattle.raw_values.specs.declared.rests.AfterName.{AfterName}
use Rattle.raw_values.specs.declared.rests.AfterName.TheVariants as after_name
use Rattle.raw_values.specs.declared.rests.AfterTypeName.{AfterTypeName}
use Rattle.raw_values.specs.declared.rests.AfterTypeName.TheVariants as after_type
use Rattle.raw_values.specs.declared.rests.Bound.{Bound}
use Rattle.raw_values.specs.declared.rests.Bound.TheVariants as bound
use Rattle.raw_ways.specs.Ways as ways
use Rattle.raw_ways.specs.Words.{int_of, int_primitive}
use Rattle.raw_meaning.specs.Shape.{IsShapedType, AreShapedTypes, IsShapedAtom, AreShapedAtoms, IsShapedCode}
use Rattle.raw_soundness.specs.Shapes.{IsTypeInBrackets, IsAtomInBrackets, IsCast, IsReplaceBack, IsSwapBack, IsInMemory, IsShapedAfterName, IsShapedAfterType, IsShapedAfterConstructor, IsShapedBound, IsShapedEnd}

pub two_or_more : {A : Type 0} (x y : A) (xs : List A) → 2 ≤ length (x ∷ y ∷ xs)
two_or_more x y xs = omega arith

pub product_shaped : (x y : RawType) (xs : List RawType) → IsShapedType x → IsShapedType y → AreShapedTypes (rawtypes xs) → IsShapedType (t.product (rawtypes (x ∷ y ∷ xs)))
product_shaped x y xs h g f = (omega arith, (h, (g, f)))

pub tuple_shaped : (x y : RawAtom) (xs : List RawAtom) → IsShapedAtom x → IsShapedAtom y → AreShapedAtoms (rawatoms xs) → IsShapedAtom (a.tuple (rawatoms (x ∷ y ∷ xs)))
tuple_shaped x y xs h g f = ((λ e. cc), (h, (g, f)))

pub unit_shaped : IsShapedAtom (a.tuple a.no_rawatoms)
unit_shaped = ((λ e. cc), tt)

pub name_first_shaped : (l : Lexeme) (x : AfterName) → IsShapedAfterName x → Each IsShapedType (ways.name_first l x).fields
name_first_shaped l (after_name.Fields r) h = (tt, h)
name_first_shaped l (after_name.Parameters ns) h = tt

pub after_type_shaped : (l : Lexeme) (x : AfterTypeName) → IsShapedAfterType x → IsTypeInBrackets (ways.after_name l x) × IsShapedType (ways.after_name l x)
after_type_shaped l (after_type.Arguments []) h = absurd h.0
after_type_shaped l (after_type.Arguments (x ∷ xs)) h = (tt, h.1)
after_type_shaped l (after_type.Factors []) h = absurd h.0
after_type_shaped l (after_type.Factors (x ∷ xs)) h = (tt, product_shaped (ways.named_alone l) x xs tt h.1.0 h.1.1)

pub bracketed_shaped : (k : Constructor) (x : AfterConstructor) → IsShapedAfterConstructor x → IsAtomInBrackets (ways.bracketed k x) × IsShapedAtom (ways.bracketed k x)
bracketed_shaped k (after_constructor.Arguments []) h = absurd h.0
bracketed_shaped k (after_constructor.Arguments (x ∷ xs)) h = (tt, h.1)
bracketed_shaped k (after_constructor.Parts []) h = absurd h.0
bracketed_shaped k (after_constructor.Parts (x ∷ xs)) h = (tt, tuple_shaped (ways.lone k) x xs tt h.1.0 h.1.1)

pub let_shaped : (l : Lexeme) (x : Bound) → IsShapedBound x → IsShapedCode (ways.let_code l x)
let_shaped l (bound.Computation x c) h = h
let_shaped l (bound.Atom x c) h = h

-- ---- primitives

int_primitives : (ty : IntTy) → Each (λ c. IsPrimitive (int_primitive ty c)) (classes T.IntOperator)
int_primitives ty = (tt, (tt, (tt, (tt, (tt, (tt, (tt, (tt, (tt, (tt, (tt, (tt, (tt, (tt, (tt, (tt, (tt, (tt, tt))))))))))))))))))

pub int_operation_shaped : (ty o : Lexeme) → has_class T.IntOperator o.class ≡ true → IsPrimitive (ways.int_operation ty o).primitive
int_operation_shaped ty o h = each_class (λ c. IsPrimitive (int_primitive (int_of ty.class) c)) (classes T.IntOperator) o.class (int_primitives (int_of ty.class)) h

pub cast_shaped : (p : Primitive) → IsCast p → IsPrimitive p
cast_shaped (P.Back b r) h = absurd h
cast_shaped p h = tt

pub memory_shaped : (p : Primitive) → IsInMemory p → IsPrimitive p
memory_shaped (P.Back BoxNew r) h = absurd h
memory_shaped (P.Back Replace r) h = h
memory_shaped (P.Back Swap r) h = h
memory_shaped p h = tt

replace_by : (p : Primitive) → IsReplaceBack p → IsInMemory p
replace_by (P.Back BoxNew r) h = absurd h
replace_by (P.Back Replace r) h = h
replace_by (P.Back Swap r) h = absurd h
replace_by p h = absurd h

pub replace_shaped : (l : Lexeme) (e : Option Operation) → IsShapedEnd IsReplaceBack e → IsInMemory (ways.replace_operation l e).primitive
replace_shaped l None h = tt
replace_shaped l (Some o) h = replace_by o.primitive h

swap_by : (p : Primitive) → IsSwapBack p → IsInMemory p
swap_by (P.Back BoxNew r) h = absurd h
swap_by (P.Back Replace r) h = absurd h
swap_by (P.Back Swap r) h = h
swap_by p h = absurd h

pub swap_shaped : (l : Lexeme) (e : Option Operation) → IsShapedEnd IsSwapBack e → IsInMemory (ways.swap_operation l e).primitive
swap_shaped l None h = tt
swap_shaped l (Some o) h = swap_by o.primitive h
