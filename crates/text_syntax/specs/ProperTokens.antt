-- The tokens of well-formed definitions, of types and of terms have the form of their kinds.
use Rattle.std.proofs.Common.{◌≡◌, refl, ap, ◌∙◌, append_assoc, sym, subst, ℕ, zero, suc, ◌<◌, ◌≤◌, ◌^◌, ◌+◌, length, Bool, true, false, List, [], ◌∷◌, ◌++◌, map, arith, ℤ, pos, negsuc}
use Rattle.std.specs.Prelude.{codes, slice_get, ◌||◌, ◌↔◌}
use Rattle.std.proofs.Common.{inl, inr}
use Rattle.std.specs.List.{flat_map, list_all}
use Rattle.std.specs.Char.{is_ascii_digit}
use Rattle.std.specs.Fmt.{decimal, signed_decimal}
use Rattle.std.proofs.Math.Dec.{lit≤}
use Rattle.std.proofs.lemmas.Bool.{ltb-true}
use Rattle.aen_base.specs.declared.int_ty.IntTy.{IntTy}
use Rattle.aen_base.specs.declared.int_ty.IntTy.TheVariants.{U8, U16, U32, U64, U128, Usize, I8, I16, I32, I64, I128, Isize}
use Rattle.aen_base.specs.declared.operators.BinOp.{BinOp}
use Rattle.aen_base.specs.declared.operators.BinOp.TheVariants as B
use Rattle.aen_base.specs.declared.operators.CmpOp.{CmpOp}
use Rattle.aen_base.specs.declared.operators.CmpOp.TheVariants as Q
use Rattle.aen_base.specs.declared.operators.Builtin.{Builtin}
use Rattle.aen_base.specs.declared.operators.Builtin.TheVariants.{BoxNew, Replace, Swap}
use Rattle.aen_base.specs.Numbers.{limit, depth, in_range}
use Rattle.pure_ast.specs.declared.comp.BoolOp.{BoolOp}
use Rattle.pure_ast.specs.declared.comp.BoolOp.TheVariants as O
use Rattle.pure_ast.specs.declared.comp.Comp.{Comp}
use Rattle.pure_ast.specs.declared.comp.Comp.TheVariants as C
use Rattle.pure_ast.specs.declared.comp.Primitive.{Primitive}
use Rattle.pure_ast.specs.declared.comp.Primitive.TheVariants as P
use Rattle.pure_ast.specs.declared.ctor.CtorId.{CtorId}
use Rattle.pure_ast.specs.declared.ctor.CtorId.TheVariants.{Of, Brk, Ret}
use Rattle.pure_ast.specs.declared.def.Def.{Def}
use Rattle.pure_ast.specs.declared.def.DefKind.{DefKind}
use Rattle.pure_ast.specs.declared.def.DefKind.TheVariants as K
use Rattle.pure_ast.specs.declared.def.Defs.{Defs}
use Rattle.pure_ast.specs.declared.def.PType.{PType}
use Rattle.pure_ast.specs.declared.pat.Pat.{Pat}
use Rattle.pure_ast.specs.declared.pat.Pat.TheVariants as A
use Rattle.pure_ast.specs.Code.{Code, Arms, bind, put, select, last, bind_select, no_arms, more_arms}
use Rattle.pure_ast.specs.Terms.{Term, Terms, var, literal, truth, tuple, built, no_terms, more_terms, terms}
use Rattle.pure_ast.specs.Types.{PTy, PTys, integer, boolean, unit, product, named, parameter, exit, no_ptys, more_ptys}
use Rattle.text_meaning.specs.declared.mark.Mark.TheVariants as M
use Rattle.text_meaning.specs.Lists.{Each}
use Rattle.text_meaning.specs.Lookups.{Variant}
use Rattle.text_meaning.specs.Names.{is_word_byte, is_word_start, are_digits}
use Rattle.text_meaning.specs.Ranges.{IsSmall, IsPrimitive, IsLentBy}
use Rattle.text_meaning.specs.Spelled as spelled
use Rattle.text_meaning.specs.SpelledCode.{code_tokens, arms_tokens}
use Rattle.text_meaning.specs.SpelledNames.{var_token, ctor_tokens, kind_tokens, def_name_tokens, prim_tokens}
use Rattle.text_meaning.specs.SpelledTerms.{truth_tokens, term_tokens, terms_tokens, comma_tokens, comma_variables, pat_tokens, comp_tokens}
use Rattle.text_meaning.specs.SpelledTypes.{type_tokens, types_tokens, times_tokens}
use Rattle.text_meaning.specs.Tokens.{Token, word, id, mark}
use Rattle.text_meaning.specs.WellFormed.{IsKind, IsDefinition, IsWellFormed}
use Rattle.text_meaning.specs.WellFormedCode.{IsCode, AreArms}
use Rattle.text_meaning.specs.WellFormedTerms.{IsTerm, AreTerms, IsPattern, IsComp}
use Rattle.text_meaning.specs.Words.{int_word, arith_word, compare_word, bool_word}
use Rattle.text_meaning.specs.Lexing.{Lexed}
use Rattle.text_meaning.specs.Reading.{ReadsText}
use Rattle.text_tokens.specs.declared.lexeme.Lexeme.{Lexeme}
use Rattle.text_tokens.specs.Stands.{IsProper, is_plain, is_numeral, AllStand, AreLexemes, HasNoTokens}
use Rattle.text_syntax.specs.Numerals.{and_left, and_right, and_true, decimal_digits, digits_not_minus, has_minus, wide, large_limit, large_depth}

-- of a definition what its tokens' form rests on
pub record HasCode (d : Defs) (e : Def) : Type 0 where
  pub kind : IsKind e.kind
  pub count : length e.params ≤ 2 ^ 32
  pub code : IsCode d e.code

abbrev pub Proper : List Token → Type 0
Proper ts = Each IsProper ts

pub joined : (ts us : List Token) → Proper ts → Proper us → Proper (ts ++ us)
joined [] us h k = k
joined (t ∷ ts) us h k = (h.0, joined ts us h.1 k)

pub all_joined : {A : Type 0} (Good : A → Type 0) (tok : A → List Token) → ((x : A) → Good x → Proper (tok x)) → (xs : List A) → Each Good xs → Proper (flat_map tok xs)
all_joined Good tok f [] h = tt
all_joined Good tok f (x ∷ xs) h = joined (tok x) (flat_map tok xs) (f x h.0) (all_joined Good tok f xs h.1)

pub each_any : {A : Type 0} (xs : List A) → Each (λ x. Unit {0}) xs
each_any [] = tt
each_any (x ∷ xs) = (tt, each_any xs)

pub ids_proper : (names : List (List ℕ)) → Proper (map id names)
ids_proper [] = tt
ids_proper (n ∷ names) = (tt, ids_proper names)

-- words with a number
or_right : (a b : Bool) → b ≡ true → (a || b) ≡ true
or_right true b h = refl
or_right false b h = h

digit_bytes : (ds : List ℕ) → list_all is_ascii_digit ds ≡ true → list_all is_word_byte ds ≡ true
digit_bytes [] h = refl
digit_bytes (c ∷ cs) h =
    and_true (is_word_byte c) (list_all is_word_byte cs) (or_right (is_word_start c) (is_ascii_digit c) (and_left (is_ascii_digit c) (list_all is_ascii_digit cs) h)) (digit_bytes cs (and_right (is_ascii_digit c) (list_all is_ascii_digit cs) h))

all_digits : (ds : List ℕ) → are_digits ds ≡ true → list_all is_ascii_digit ds ≡ true
all_digits [] h = refl
all_digits (c ∷ cs) h = h

decimal_bytes : (k : ℕ) → IsSmall k → list_all is_word_byte (decimal k) ≡ true
decimal_bytes k h = digit_bytes (decimal k) (all_digits (decimal k) (decimal_digits k (wide k h)))

var_proper : (k : ℕ) → IsSmall k → IsProper (var_token k)
var_proper k h = decimal_bytes k h

loop_proper : (k : ℕ) → IsSmall k → is_plain (codes "loop" ++ decimal k) ≡ true
loop_proper k h = decimal_bytes k h

back_proper : (k : ℕ) → IsSmall k → is_plain (codes "back" ++ decimal k) ≡ true
back_proper k h = decimal_bytes k h

-- numbers
plain_numeral : (ds : List ℕ) → are_digits ds ≡ true → has_minus ds ≡ false → is_numeral ds ≡ true
plain_numeral [] h m = absurd cc
plain_numeral (c ∷ cs) h m = rw m h

decimal_numeral : (n : ℕ) → n < 10 ^ 64 → is_numeral (decimal n) ≡ true
decimal_numeral n w = let d = decimal_digits n w in plain_numeral (decimal n) d (digits_not_minus (decimal n) d)

pub range_numeral : (t : IntTy) (z : ℤ) → in_range t z ≡ true → is_numeral (signed_decimal z) ≡ true
range_numeral t (pos n) h =
    let a = ltb-true n (limit t) h in let b = large_limit t in
    let large : 2 ^ 128 ≤ 10 ^ 64 = lit≤ tt in
    let w : n < 10 ^ 64 = omega arith in decimal_numeral n w
range_numeral t (negsuc n) h =
    let a = ltb-true n (depth t) h in let b = large_depth t in
    let large : 2 ^ 128 + 1 ≤ 10 ^ 64 = lit≤ tt in
    let w : suc n < 10 ^ 64 = omega arith in decimal_digits (suc n) w

-- fixed words
pub int_plain : (t : IntTy) → is_plain (int_word t) ≡ true
int_plain U8 = refl
int_plain U16 = refl
int_plain U32 = refl
int_plain U64 = refl
int_plain U128 = refl
int_plain Usize = refl
int_plain I8 = refl
int_plain I16 = refl
int_plain I32 = refl
int_plain I64 = refl
int_plain I128 = refl
int_plain Isize = refl

arith_plain : (o : BinOp) → is_plain (arith_word o) ≡ true
arith_plain B.Add = refl
arith_plain B.Sub = refl
arith_plain B.Mul = refl
arith_plain B.Div = refl
arith_plain B.Rem = refl
arith_plain B.Shl = refl
arith_plain B.Shr = refl
arith_plain B.And = refl
arith_plain B.Or = refl
arith_plain B.Xor = refl

compare_plain : (o : CmpOp) → is_plain (compare_word o) ≡ true
compare_plain Q.Eq = refl
compare_plain Q.Ne = refl
compare_plain Q.Lt = refl
compare_plain Q.Le = refl
compare_plain Q.Gt = refl
compare_plain Q.Ge = refl

bool_plain : (o : BoolOp) → is_plain (bool_word o) ≡ true
bool_plain O.Eq = refl
bool_plain O.Ne = refl
bool_plain O.And = refl
bool_plain O.Or = refl
bool_plain O.Xor = refl
bool_plain O.Not = refl

lent_small : (b : Builtin) (r : ℕ) → IsLentBy b r → IsSmall r
lent_small BoxNew r h = absurd h
lent_small Replace r h = let small : 0 < 2 ^ 32 = lit≤ tt in subst IsSmall (sym h) small
lent_small Swap r (inl h) = let small : 0 < 2 ^ 32 = lit≤ tt in subst IsSmall (sym h) small
lent_small Swap r (inr h) = let small : 1 < 2 ^ 32 = lit≤ tt in subst IsSmall (sym h) small

back_builtin : (b : Builtin) (r : ℕ) → is_plain (codes "back" ++ decimal r) ≡ true → Proper (prim_tokens (P.Back b (record { 0 = r })))
back_builtin BoxNew r h = (refl, (tt, (refl, (tt, (h, tt)))))
back_builtin Replace r h = (refl, (tt, (refl, (tt, (h, tt)))))
back_builtin Swap r h = (refl, (tt, (refl, (tt, (h, tt)))))

forward_builtin : (b : Builtin) → Proper (prim_tokens (P.Forward b))
forward_builtin BoxNew = (refl, (tt, (refl, tt)))
forward_builtin Replace = (refl, (tt, (refl, tt)))
forward_builtin Swap = (refl, (tt, (refl, tt)))

prim_proper : (p : Primitive) → IsPrimitive p → Proper (prim_tokens p)
prim_proper (P.Arith t op) h = (int_plain t, (tt, (arith_plain op, tt)))
prim_proper (P.Neg t) h = (int_plain t, (tt, (refl, tt)))
prim_proper (P.Not t) h = (int_plain t, (tt, (refl, tt)))
prim_proper (P.Compare t op) h = (int_plain t, (tt, (compare_plain op, tt)))
prim_proper (P.Bools op) h = (refl, (tt, (bool_plain op, tt)))
prim_proper (P.Cast t u) h = (refl, (tt, (int_plain t, (tt, (int_plain u, tt)))))
prim_proper (P.CastBool t) h = (refl, (tt, (refl, (tt, (int_plain t, tt)))))
prim_proper (P.Forward b) h = forward_builtin b
prim_proper (P.Back b r) h = back_builtin b r.0 (back_proper r.0 (lent_small b r.0 h))

-- names
ctor_proper : (d : Defs) (c : CtorId) → Proper (ctor_tokens d c)
ctor_proper d (Of t k) = (tt, (tt, (tt, tt)))
ctor_proper d Brk = (refl, (tt, (refl, tt)))
ctor_proper d Ret = (refl, (tt, (refl, tt)))

kind_proper : (d : Defs) (k : DefKind) → IsKind k → Proper (kind_tokens d k)
kind_proper d (K.Forward f) h = (refl, (tt, (tt, tt)))
kind_proper d (K.Back f r) h = (refl, (tt, (tt, (tt, (back_proper r.0 h, tt)))))
kind_proper d (K.Loop f k) h = (refl, (tt, (tt, (tt, (loop_proper k.0 h, tt)))))
kind_proper d (K.LoopBack f k c) h = (refl, (tt, (tt, (tt, (loop_proper k.0 h.0, (tt, (back_proper c h.1, tt)))))))

callee_in : (d : Defs) (es : List Def) (k : ℕ) → Each (HasCode d) es → Proper (def_name_tokens d (slice_get es k))
callee_in d [] k h = tt
callee_in d (e ∷ es) zero h = kind_proper d e.kind h.0.kind
callee_in d (e ∷ es) (suc k) h = callee_in d es k h.1

-- types
mutual
  pub type_proper : (d : Defs) (names : List (List ℕ)) (t : PTy) → Proper (type_tokens d names t)
  type_proper d names (integer t) = (int_plain t, tt)
  type_proper d names boolean = (refl, tt)
  type_proper d names unit = (refl, tt)
  type_proper d names (named k no_ptys) = (tt, tt)
  type_proper d names (named k (more_ptys a r)) = (tt, (tt, joined _ _ (type_proper d names a) (joined _ _ (types_proper d names r) (tt, tt))))
  type_proper d names (parameter k) = (tt, tt)
  type_proper d names (exit a b) = (tt, (refl, joined _ _ (type_proper d names a) (joined _ _ (type_proper d names b) (tt, tt))))
  type_proper d names (product no_ptys) = (tt, (tt, tt))
  type_proper d names (product (more_ptys a r)) = (tt, joined _ _ (type_proper d names a) (joined _ _ (times_proper d names r) (tt, tt)))

  types_proper : (d : Defs) (names : List (List ℕ)) (r : PTys) → Proper (types_tokens d names r)
  types_proper d names no_ptys = tt
  types_proper d names (more_ptys a r) = joined _ _ (type_proper d names a) (types_proper d names r)

  times_proper : (d : Defs) (names : List (List ℕ)) (r : PTys) → Proper (times_tokens d names r)
  times_proper d names no_ptys = tt
  times_proper d names (more_ptys a r) = (tt, joined _ _ (type_proper d names a) (times_proper d names r))

-- terms, patterns, computations
truth_proper : (b : Bool) → Proper (truth_tokens b)
truth_proper true = (refl, tt)
truth_proper false = (refl, tt)

mutual
  pub term_proper : (d : Defs) (t : Term) → IsTerm d t → Proper (term_tokens d t)
  term_proper d (var v) h = (var_proper v h, tt)
  term_proper d (literal n) h = (range_numeral n.ty n.value h, (tt, (int_plain n.ty, tt)))
  term_proper d (truth b) h = truth_proper b
  term_proper d (tuple no_terms) h = (tt, tt)
  term_proper d (tuple (more_terms t r)) h = (tt, joined _ _ (term_proper d t h.1.0) (joined _ _ (comma_proper d r h.1.1) (tt, tt)))
  term_proper d (built c no_terms) h = ctor_proper d c
  term_proper d (built c (more_terms t r)) h = (tt, joined _ _ (ctor_proper d c) (joined _ _ (term_proper d t h.1.0) (joined _ _ (terms_proper d r h.1.1) (tt, tt))))

  terms_proper : (d : Defs) (r : Terms) → AreTerms d r → Proper (terms_tokens d r)
  terms_proper d no_terms h = tt
  terms_proper d (more_terms t r) h = joined _ _ (term_proper d t h.0) (terms_proper d r h.1)

  comma_proper : (d : Defs) (r : Terms) → AreTerms d r → Proper (comma_tokens d r)
  comma_proper d no_terms h = tt
  comma_proper d (more_terms t r) h = (tt, joined _ _ (term_proper d t h.0) (comma_proper d r h.1))

vars_proper : (vs : List ℕ) → Each IsSmall vs → Proper (map var_token vs)
vars_proper [] h = tt
vars_proper (v ∷ vs) h = (var_proper v h.0, vars_proper vs h.1)

comma_vars_proper : (vs : List ℕ) → Each IsSmall vs → Proper (comma_variables vs)
comma_vars_proper [] h = tt
comma_vars_proper (v ∷ vs) h = (var_proper v h.0, all_joined IsSmall (λ w. mark M.Comma ∷ var_token w ∷ []) (λ w k. (tt, (var_proper w k, tt))) vs h.1)

pat_proper : (d : Defs) (p : Pat) → IsPattern d p → Proper (pat_tokens d p)
pat_proper d (A.Bool b) h = truth_proper b
pat_proper d (A.Tuple vs) h = (tt, joined _ _ (comma_vars_proper vs h.1) (tt, tt))
pat_proper d (A.Ctor c vs) h = joined _ _ (ctor_proper d c) (vars_proper vs h.1)

comp_proper : (d : Defs) → Each (HasCode d) d.defs → (c : Comp) → IsComp d c → Proper (comp_tokens d c)
comp_proper d g (C.Ok t) h = (refl, term_proper d t h)
comp_proper d g C.Fail h = (refl, tt)
comp_proper d g (C.Call f parts) h = joined _ _ (callee_in d d.defs f.0 g) (refl, terms_proper d (terms parts) h.1)
comp_proper d g (C.Prim p parts) h = joined _ _ (prim_proper p h.0) (terms_proper d (terms parts) h.2)

mutual
  code_proper : (d : Defs) → Each (HasCode d) d.defs → (c : Code) → IsCode d c → Proper (code_tokens d c)
  code_proper d g (bind v c rest) h = (refl, (var_proper v h.0, (tt, joined _ _ (comp_proper d g c h.1) (tt, code_proper d g rest h.2))))
  code_proper d g (put v t rest) h = (refl, (var_proper v h.0, (tt, joined _ _ (term_proper d t h.1) (tt, code_proper d g rest h.2))))
  code_proper d g (select t arms) h = (tt, (refl, joined _ _ (term_proper d t h.0) (refl, joined _ _ (arms_proper d g arms h.1) (tt, tt))))
  code_proper d g (last c) h = comp_proper d g c h
  code_proper d g (bind_select v t arms rest) h = absurd h

  arms_proper : (d : Defs) → Each (HasCode d) d.defs → (r : Arms) → AreArms d r → Proper (arms_tokens d r)
  arms_proper d g no_arms h = tt
  arms_proper d g (more_arms p c r) h = (tt, joined _ _ (pat_proper d p h.0) (tt, (refl, joined _ _ (code_proper d g c h.1) (arms_proper d g r h.2))))

-- declarations
type_params_proper : (names : List (List ℕ)) → Proper (flat_map spelled.type_parameter names)
type_params_proper names = all_joined (λ n. Unit {0}) spelled.type_parameter (λ n k. (tt, (tt, (tt, (refl, (tt, tt)))))) names (each_any names)

implicit_proper : (names : List (List ℕ)) → Proper (flat_map spelled.implicit_parameter names)
implicit_proper names = all_joined (λ n. Unit {0}) spelled.implicit_parameter (λ n k. (tt, (tt, (tt, (refl, (tt, tt)))))) names (each_any names)

variant_proper : (d : Defs) (t : PType) (v : Variant) → Proper (spelled.variant_tokens d t v)
variant_proper d t v = (tt, (tt, (tt, joined _ _ (all_joined (λ f. Unit {0}) (spelled.plain_field d t.params) (λ f k. joined _ _ (type_proper d t.params f.1) (tt, tt)) v.1 (each_any v.1)) (tt, ids_proper t.params))))

structure_proper : (d : Defs) (t : PType) (vs : List Variant) → Proper (spelled.structure_fields d t vs)
structure_proper d t [] = tt
structure_proper d t (v ∷ rest) =
    all_joined (λ f. Unit {0}) (spelled.named_field d t.params) (λ f k. (tt, (tt, (tt, joined _ _ (type_proper d t.params f.1) (tt, tt))))) v.1 (each_any v.1)

declared_proper : (d : Defs) (t : PType) (b : Bool) → Proper (spelled.declared_tokens d t b)
declared_proper d t true = (refl, (tt, joined _ _ (type_params_proper t.params) (refl, structure_proper d t t.variants)))
declared_proper d t false =
    (refl, (tt, joined _ _ (type_params_proper t.params) (refl, all_joined (λ v. Unit {0}) (spelled.variant_tokens d t) (λ v k. variant_proper d t v) t.variants (each_any t.variants))))

params_proper : (d : Defs) (names : List (List ℕ)) (k : ℕ) (ts : List PTy) → k + length ts ≤ 2 ^ 32 → Proper (spelled.parameters_tokens d names k ts)
params_proper d names k [] h = tt
params_proper d names k (t ∷ rest) h =
    let small : k < 2 ^ 32 = omega arith in
    let one : Proper (spelled.parameter_tokens d names k t) = (tt, (var_proper k small, (tt, joined (type_tokens d names t) (mark M.Close ∷ []) (type_proper d names t) (tt, tt)))) in
    joined (spelled.parameter_tokens d names k t) (spelled.parameters_tokens d names (suc k) rest) one (params_proper d names (suc k) rest (omega arith))

fuel_proper : Proper spelled.fuel_match
fuel_proper =
    let zero_small : 0 < 10 ^ 64 = lit≤ tt in let one_small : 1 < 10 ^ 64 = lit≤ tt in
    (refl, (refl, (refl, (tt, (decimal_numeral 0 zero_small, (tt, (refl, (tt, (refl, (tt, (decimal_numeral 1 one_small, (tt, (refl, tt)))))))))))))

parameters_begin : Proper spelled.fuel_tokens
parameters_begin = (tt, (refl, (tt, (refl, (tt, tt)))))

-- a definition's tokens one after another
abbrev one_by_one : Defs → Def → List Token
one_by_one d x =
    word (codes "def") ∷ (kind_tokens d x.kind ++ (flat_map spelled.implicit_parameter x.type_params ++ (spelled.fuel_tokens
    ++ (spelled.parameters_tokens d x.type_params 0 x.params ++ mark M.Colon ∷ word (codes "Result")
    ∷ (type_tokens d x.type_params x.result ++ mark M.Becomes ∷ (spelled.fuel_match ++ code_tokens d x.code))))))

binders_apart : (k b c p r : List Token) → k ++ ((b ++ (c ++ p)) ++ r) ≡ k ++ (b ++ (c ++ (p ++ r)))
binders_apart k b c p r = ap (λ z. k ++ z) (append_assoc b (c ++ p) r ∙ ap (λ z. b ++ z) (append_assoc c p r))

-- a definition's binders one after another

definition_apart : (d : Defs) (x : Def) → spelled.definition d x ≡ one_by_one d x
definition_apart d x =
    ap (λ z. word (codes "def") ∷ z) (binders_apart (kind_tokens d x.kind) (flat_map spelled.implicit_parameter x.type_params) spelled.fuel_tokens
    (spelled.parameters_tokens d x.type_params 0 x.params)
    (mark M.Colon ∷ word (codes "Result") ∷ (type_tokens d x.type_params x.result ++ mark M.Becomes ∷ (spelled.fuel_match ++ code_tokens d x.code))))

definition_proper : (d : Defs) → Each (HasCode d) d.defs → (e : Def) → HasCode d e → Proper (spelled.definition d e)
definition_proper d g e h =
    let count = h.count in
    let params = params_proper d e.type_params 0 e.params (omega arith) in
    let body = joined spelled.fuel_match (code_tokens d e.code) fuel_proper (code_proper d g e.code h.code) in
    let result = joined (type_tokens d e.type_params e.result) _ (type_proper d e.type_params e.result) (tt, body) in
    let after = joined (spelled.parameters_tokens d e.type_params 0 e.params) _ params (tt, (refl, result)) in
    let given = joined (flat_map spelled.implicit_parameter e.type_params) _ (implicit_proper e.type_params) (joined spelled.fuel_tokens _ parameters_begin after) in
    let apart : Proper (one_by_one d e) = (refl, joined (kind_tokens d e.kind) _ (kind_proper d e.kind h.kind) given) in
    subst Proper (sym (definition_apart d e)) apart

-- the tokens of a text
pub tokens_coded : (d : Defs) → Each (HasCode d) d.defs → Each IsProper (spelled.tokens_of d)
tokens_coded d h = (
  refl,
  (
    refl,
    (
      refl,
      (
        refl,
        joined _ _ (all_joined (λ t. Unit {0}) (spelled.type_declaration d) (λ t k. declared_proper d t t.is_struct) d.types (each_any d.types))
            (all_joined (HasCode d) (spelled.definition d) (λ e k. definition_proper d h e k) d.defs h),
      ),
    ),
  ),
)

definitions_coded : (d : Defs) (es : List Def) → Each (IsDefinition d) es → Each (HasCode d) es
definitions_coded d [] h = tt
definitions_coded d (e ∷ es) h = (record { kind = h.0.kind; count = h.0.count; code = h.0.code }, definitions_coded d es h.1)

pub tokens_proper : (d : Defs) → IsWellFormed d → Each IsProper (spelled.tokens_of d)
tokens_proper d h = tokens_coded d (definitions_coded d d.defs h.definitions)

-- where lexemes are those of a text, they stand for a reading's tokens exactly
pub reading_lexed : (ls : List Lexeme) (text : List ℕ) (d : Defs) → AreLexemes ls text → IsWellFormed d → Lexed (spelled.tokens_of d) text ↔ AllStand ls (spelled.tokens_of d)
reading_lexed ls text d h g = h (spelled.tokens_of d) (tokens_proper d g)

-- a text without tokens has no reading
pub unread : (text : List ℕ) → HasNoTokens text → (d : Defs) → ReadsText text d → ⊥
unread text h d r = h (spelled.tokens_of d) (tokens_proper d r.well_formed) r.tokens
