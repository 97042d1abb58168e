-- Primitives are read as they are spelled.
use Rattle.std.proofs.Common.{◌≡◌, refl, ap, sym, subst, ◌∙◌, ℕ, true, List, [], ◌∷◌, Option, Some, None, ◌⊎◌, inl, inr}
use Rattle.std.specs.Prelude.{codes}
use Rattle.aen_base.specs.declared.ids.RegionId.{RegionId}
use Rattle.aen_base.specs.declared.int_ty.IntTy.{IntTy}
use Rattle.aen_base.specs.declared.operators.BinOp.{BinOp}
use Rattle.aen_base.specs.declared.operators.BinOp.TheVariants as B
use Rattle.aen_base.specs.declared.operators.CmpOp.{CmpOp}
use Rattle.aen_base.specs.declared.operators.CmpOp.TheVariants as C
use Rattle.aen_base.specs.declared.operators.Builtin.{Builtin}
use Rattle.aen_base.specs.declared.operators.Builtin.TheVariants.{BoxNew, Replace, Swap}
use Rattle.pure_ast.specs.declared.comp.BoolOp.{BoolOp}
use Rattle.pure_ast.specs.declared.comp.BoolOp.TheVariants as O
use Rattle.pure_ast.specs.declared.comp.Primitive.{Primitive}
use Rattle.pure_ast.specs.declared.comp.Primitive.TheVariants as P
use Rattle.text_meaning.specs.declared.mark.Mark.TheVariants as M
use Rattle.text_meaning.specs.Ranges.{IsPrimitive}
use Rattle.text_meaning.specs.SpelledNames.{prim_tokens, dotted}
use Rattle.text_meaning.specs.Tokens.{Token, word, mark, back_text}
use Rattle.text_meaning.specs.Words.{int_word, arith_word, compare_word, bool_word}
use Rattle.text_table.specs.declared.lexeme.Lexeme.{Lexeme}
use Rattle.text_table.specs.declared.part.Part.TheVariants as N
use Rattle.text_table.specs.declared.terminal.Terminal.TheVariants as T
use Rattle.text_syntax.specs.Classing.{class_of, class_of_word}
use Rattle.raw_ast.specs.declared.computation.Operation.{Operation}
use Rattle.raw_ways.specs.Ways.{in_memory, replace_back as replace_back_of}
use Rattle.raw_ways.specs.Words.{int_primitive, bool_primitive}
use Rattle.raw_completeness.specs.Classes.{fits, fitting, is_the_word}
use Rattle.raw_completeness.specs.Leaves.{IsInt, ints, Any, back_zeros, back_ones}
use Rattle.raw_completeness.specs.Rows.{Reading, done, fixed, leaf, last, produce}

-- what was read is this primitive
abbrev pub IsOperationOf : Primitive → Operation → Type 0
IsOperationOf p o = o.primitive ≡ p

-- ---- operators

abbrev IsIntOperator : IntTy → Primitive → Lexeme → Type 0
IsIntOperator t p x = int_primitive t x.class ≡ p

int_read : (t : IntTy) (w : List ℕ) (p : Primitive) → fits T.IntOperator (word w) ≡ true → int_primitive t (class_of_word w) ≡ p → Reading N.Primitive (dotted (int_word t) w) (IsOperationOf p)
int_read t w p f e =
    produce N.Primitive 0 (leaf T.Int (word (int_word t)) (IsInt t) (fixed T.Dot (mark M.Dot) (leaf T.IntOperator (word w) (IsIntOperator t p) done))) (IsOperationOf p) refl
    (ints t, ((λ l s. (fitting T.IntOperator (word w) l.kind f s, ap (λ k. int_primitive t (class_of k)) (is_the_word l.kind w s) ∙ e)), tt))
    (λ ls us vs r g. (vs, (r, ap (λ (u : IntTy). int_primitive u vs.1.1.0.class) g.0 ∙ g.1.0)))

arith_read : (t : IntTy) (op : BinOp) → Reading N.Primitive (dotted (int_word t) (arith_word op)) (IsOperationOf (P.Arith t op))
arith_read t B.Add = int_read t (codes "add") (P.Arith t B.Add) refl refl
arith_read t B.Sub = int_read t (codes "sub") (P.Arith t B.Sub) refl refl
arith_read t B.Mul = int_read t (codes "mul") (P.Arith t B.Mul) refl refl
arith_read t B.Div = int_read t (codes "div") (P.Arith t B.Div) refl refl
arith_read t B.Rem = int_read t (codes "rem") (P.Arith t B.Rem) refl refl
arith_read t B.Shl = int_read t (codes "shl") (P.Arith t B.Shl) refl refl
arith_read t B.Shr = int_read t (codes "shr") (P.Arith t B.Shr) refl refl
arith_read t B.And = int_read t (codes "and") (P.Arith t B.And) refl refl
arith_read t B.Or = int_read t (codes "or") (P.Arith t B.Or) refl refl
arith_read t B.Xor = int_read t (codes "xor") (P.Arith t B.Xor) refl refl

compare_read : (t : IntTy) (op : CmpOp) → Reading N.Primitive (dotted (int_word t) (compare_word op)) (IsOperationOf (P.Compare t op))
compare_read t C.Eq = int_read t (codes "eq") (P.Compare t C.Eq) refl refl
compare_read t C.Ne = int_read t (codes "ne") (P.Compare t C.Ne) refl refl
compare_read t C.Lt = int_read t (codes "lt") (P.Compare t C.Lt) refl refl
compare_read t C.Le = int_read t (codes "le") (P.Compare t C.Le) refl refl
compare_read t C.Gt = int_read t (codes "gt") (P.Compare t C.Gt) refl refl
compare_read t C.Ge = int_read t (codes "ge") (P.Compare t C.Ge) refl refl

bools_by : (w : List ℕ) (p : Primitive) → fits T.BoolOperator (word w) ≡ true → bool_primitive (class_of_word w) ≡ p → Reading N.Primitive (dotted (codes "Bool") w) (IsOperationOf p)
bools_by w p f e =
    produce N.Primitive 1 (fixed T.Bool (word (codes "Bool")) (fixed T.Dot (mark M.Dot) (leaf T.BoolOperator (word w) (λ x. bool_primitive x.class ≡ p) done))) (IsOperationOf p) refl
    ((λ l s. (fitting T.BoolOperator (word w) l.kind f s, ap (λ k. bool_primitive (class_of k)) (is_the_word l.kind w s) ∙ e)), tt) (λ ls us vs r g. (vs, (r, g.0)))

bools_read : (op : BoolOp) → Reading N.Primitive (dotted (codes "Bool") (bool_word op)) (IsOperationOf (P.Bools op))
bools_read O.Eq = bools_by (codes "eq") (P.Bools O.Eq) refl refl
bools_read O.Ne = bools_by (codes "ne") (P.Bools O.Ne) refl refl
bools_read O.And = bools_by (codes "and") (P.Bools O.And) refl refl
bools_read O.Or = bools_by (codes "or") (P.Bools O.Or) refl refl
bools_read O.Xor = bools_by (codes "xor") (P.Bools O.Xor) refl refl
bools_read O.Not = bools_by (codes "not") (P.Bools O.Not) refl refl

-- ---- casts

cast_by : (p : Primitive) (ts : List Token) → Reading N.CastFrom ts (IsOperationOf p) → Reading N.Primitive (word (codes "cast") ∷ mark M.Dot ∷ ts) (IsOperationOf p)
cast_by p ts q =
    produce N.Primitive 2 (fixed T.Cast (word (codes "cast")) (fixed T.Dot (mark M.Dot) (last N.CastFrom ts (IsOperationOf p)))) (IsOperationOf p) refl q (λ ls us vs r g. (vs, (r, g)))

cast_read : (t u : IntTy) → Reading N.Primitive (prim_tokens (P.Cast t u)) (IsOperationOf (P.Cast t u))
cast_read t u =
    cast_by (P.Cast t u) (dotted (int_word t) (int_word u)) (produce N.CastFrom 0
    (leaf T.Int (word (int_word t)) (IsInt t) (fixed T.Dot (mark M.Dot) (leaf T.Int (word (int_word u)) (IsInt u) done))) (IsOperationOf (P.Cast t u)) refl (ints t, (ints u, tt))
    (λ ls us vs r g. (vs, (r, (λ i. P.Cast (g.0 i) (g.1.0 i))))))

bool_cast_read : (t : IntTy) → Reading N.Primitive (prim_tokens (P.CastBool t)) (IsOperationOf (P.CastBool t))
bool_cast_read t =
    cast_by (P.CastBool t) (dotted (codes "Bool") (int_word t)) (produce N.CastFrom 1
    (fixed T.Bool (word (codes "Bool")) (fixed T.Dot (mark M.Dot) (leaf T.Int (word (int_word t)) (IsInt t) done))) (IsOperationOf (P.CastBool t)) refl (ints t, tt)
    (λ ls us vs r g. (vs, (r, ap (λ (t : IntTy). P.CastBool t) g.0))))

-- ---- functions of memory

abbrev IsNone : Option Operation → Type 0
IsNone o = o ≡ None

abbrev IsSome : Primitive → Option Operation → Type 0
IsSome p o = (x : Operation) × ((o ≡ Some x) × (x.primitive ≡ p))

forward_of : (b : Builtin) (l : Lexeme) (o : Option Operation) → IsNone o → IsOperationOf (P.Forward b) (in_memory b l o)
forward_of b l o e = ap (λ (o : Option Operation). (in_memory b l o).primitive) e

back_of : (b : Builtin) (p : Primitive) (l : Lexeme) (o : Option Operation) → IsSome p o → IsOperationOf p (in_memory b l o)
back_of b p l o q = ap (λ (o : Option Operation). (in_memory b l o).primitive) q.1.0 ∙ q.1.1

memory_by : (p : Primitive) (ts : List Token) → Reading N.InMemory ts (IsOperationOf p) → Reading N.Primitive (word (codes "mem") ∷ mark M.Dot ∷ ts) (IsOperationOf p)
memory_by p ts q =
    produce N.Primitive 4 (fixed T.Mem (word (codes "mem")) (fixed T.Dot (mark M.Dot) (last N.InMemory ts (IsOperationOf p)))) (IsOperationOf p) refl q (λ ls us vs r g. (vs, (r, g)))

replace_by : (p : Primitive) (P : Option Operation → Type 0) (ts : List Token) → ((l : Lexeme) (o : Option Operation) → P o → IsOperationOf p (in_memory Replace l o)) → Reading N.ReplaceEnd ts P →
    Reading N.Primitive (word (codes "mem") ∷ mark M.Dot ∷ word (codes "replace") ∷ ts) (IsOperationOf p)
replace_by p P ts f q =
    memory_by p (word (codes "replace") ∷ ts) (produce N.InMemory 0 (fixed T.Replace (word (codes "replace")) (last N.ReplaceEnd ts P)) (IsOperationOf p) refl q (λ ls us vs r g. (vs, (r, f vs.0 vs.1.0 g))))

swap_by : (p : Primitive) (P : Option Operation → Type 0) (ts : List Token) → ((l : Lexeme) (o : Option Operation) → P o → IsOperationOf p (in_memory Swap l o)) → Reading N.SwapEnd ts P →
    Reading N.Primitive (word (codes "mem") ∷ mark M.Dot ∷ word (codes "swap") ∷ ts) (IsOperationOf p)
swap_by p P ts f q =
    memory_by p (word (codes "swap") ∷ ts) (produce N.InMemory 1 (fixed T.Swap (word (codes "swap")) (last N.SwapEnd ts P)) (IsOperationOf p) refl q (λ ls us vs r g. (vs, (r, f vs.0 vs.1.0 g))))

abbrev region : ℕ → RegionId
region k = record { 0 = k }

-- a backward function of a swap, by its region
swap_back : (k : ℕ) → Reading N.SwapRegion (word (back_text k) ∷ []) (IsOperationOf (P.Back Swap (region k))) → Reading N.Primitive (prim_tokens (P.Back Swap (region k))) (IsOperationOf (P.Back Swap (region k)))
swap_back k q =
    let p = P.Back Swap (region k) in
    swap_by p (IsSome p) (mark M.Dot ∷ word (back_text k) ∷ []) (back_of Swap p)
    (produce N.SwapEnd 1 (fixed T.Dot (mark M.Dot) (last N.SwapRegion (word (back_text k) ∷ []) (IsOperationOf p))) (IsSome p) refl q (λ ls us vs r g. (vs, (r, (vs.1.0, (refl, g))))))

forward_read : (b : Builtin) → Reading N.Primitive (prim_tokens (P.Forward b)) (IsOperationOf (P.Forward b))
forward_read BoxNew =
    produce N.Primitive 3 (fixed T.Box (word (codes "Box")) (fixed T.Dot (mark M.Dot) (fixed T.New (word (codes "new")) done))) (IsOperationOf (P.Forward BoxNew)) refl tt (λ ls us vs r g. (vs, (r, refl)))
forward_read Replace = replace_by (P.Forward Replace) IsNone [] (forward_of Replace) (produce N.ReplaceEnd 0 done IsNone refl tt (λ ls us vs r g. (vs, (r, refl))))
forward_read Swap = swap_by (P.Forward Swap) IsNone [] (forward_of Swap) (produce N.SwapEnd 0 done IsNone refl tt (λ ls us vs r g. (vs, (r, refl))))

replace_back : Reading N.Primitive (prim_tokens (P.Back Replace (region 0))) (IsOperationOf (P.Back Replace (region 0)))
replace_back =
    let p = P.Back Replace (region 0) in
    replace_by p (IsSome p) (mark M.Dot ∷ word (back_text 0) ∷ []) (back_of Replace p)
    (produce N.ReplaceEnd 1 (fixed T.Dot (mark M.Dot) (leaf T.BackZero (word (back_text 0)) Any done)) (IsSome p) refl (back_zeros, tt) (λ ls us vs r g. (vs, (r, (replace_back_of vs.1.0, (refl, refl))))))

back_by : (b : Builtin) (k m : ℕ) → k ≡ m → Reading N.Primitive (prim_tokens (P.Back b (region m))) (IsOperationOf (P.Back b (region m))) →
    Reading N.Primitive (prim_tokens (P.Back b (region k))) (IsOperationOf (P.Back b (region k)))
back_by b k m e q = subst (λ (n : ℕ). Reading N.Primitive (prim_tokens (P.Back b (region n))) (IsOperationOf (P.Back b (region n)))) (sym e) q

swap_read : (k : ℕ) → (k ≡ 0) ⊎ (k ≡ 1) → Reading N.Primitive (prim_tokens (P.Back Swap (region k))) (IsOperationOf (P.Back Swap (region k)))
swap_read k (inl e) =
    back_by Swap k 0 e (swap_back 0 (produce N.SwapRegion 0 (leaf T.BackZero (word (back_text 0)) Any done) (IsOperationOf (P.Back Swap (region 0))) refl (back_zeros, tt) (λ ls us vs r g. (vs, (r, refl)))))
swap_read k (inr e) =
    back_by Swap k 1 e (swap_back 1 (produce N.SwapRegion 1 (leaf T.BackOne (word (back_text 1)) Any done) (IsOperationOf (P.Back Swap (region 1))) refl (back_ones, tt) (λ ls us vs r g. (vs, (r, refl)))))

pub primitive_read : (p : Primitive) → IsPrimitive p → Reading N.Primitive (prim_tokens p) (IsOperationOf p)
primitive_read (P.Arith t op) w = arith_read t op
primitive_read (P.Neg t) w = int_read t (codes "neg") (P.Neg t) refl refl
primitive_read (P.Not t) w = int_read t (codes "not") (P.Not t) refl refl
primitive_read (P.Compare t op) w = compare_read t op
primitive_read (P.Bools op) w = bools_read op
primitive_read (P.Cast t u) w = cast_read t u
primitive_read (P.CastBool t) w = bool_cast_read t
primitive_read (P.Forward b) w = forward_read b
primitive_read (P.Back BoxNew r) w = absurd w
primitive_read (P.Back Replace r) w = back_by Replace r.0 0 w replace_back
primitive_read (P.Back Swap r) w = swap_read r.0 w
