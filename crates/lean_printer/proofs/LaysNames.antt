-- The names of constructors, definitions and primitives are lexed as their tokens.
use Rattle.std.proofs.Common.{◌≡◌, refl, ℕ, true, List, [], ◌∷◌, ◌++◌}
use Rattle.std.specs.Prelude.{codes}
use Rattle.aen_base.specs.declared.operators.BinOp.{BinOp}
use Rattle.aen_base.specs.declared.operators.BinOp.TheVariants as B
use Rattle.aen_base.specs.declared.operators.CmpOp.{CmpOp}
use Rattle.aen_base.specs.declared.operators.CmpOp.TheVariants as C
use Rattle.aen_base.specs.declared.operators.Builtin.TheVariants.{BoxNew, Replace, Swap}
use Rattle.pure_ast.specs.declared.comp.BoolOp.{BoolOp}
use Rattle.pure_ast.specs.declared.comp.BoolOp.TheVariants as O
use Rattle.pure_ast.specs.declared.comp.Primitive.{Primitive}
use Rattle.pure_ast.specs.declared.comp.Primitive.TheVariants as P
use Rattle.pure_ast.specs.declared.def.DefKind.{DefKind}
use Rattle.pure_ast.specs.declared.def.DefKind.TheVariants as K
use Rattle.pure_ast.specs.declared.def.Defs.{Defs}
use Rattle.text_meaning.specs.declared.mark.Mark.TheVariants.{Dot}
use Rattle.text_meaning.specs.Lookups.{function_name}
use Rattle.text_meaning.specs.Tokens.{word, mark, loop_text, back_text}
use Rattle.text_meaning.specs.ShownNames.{kind_text, function_text, prim_text}
use Rattle.text_meaning.specs.SpelledNames.{function_tokens, kind_tokens, prim_tokens, dotted, dotted_more}
use Rattle.text_meaning.specs.WellFormed.{function_of}
use Rattle.text_meaning.specs.Words.{arith_word, compare_word, bool_word}
use Rattle.lean_printer.proofs.Lays.{Lays, seq, glue, tok, free, apart}
use Rattle.lean_printer.proofs.LaysWords.{word_lays, int_lays, NameLays}

pub dot : Lays free apart (codes ".") (mark Dot ∷ [])
dot = glue free apart (tok (mark Dot) ∷ []) (λ r h. refl) (λ r h. refl)

pub dotted_lays : {a b : List ℕ} → Lays apart free a (word a ∷ []) → Lays apart free b (word b ∷ []) →
    Lays apart free (a ++ (codes "." ++ b)) (dotted a b)
dotted_lays x y = seq x (seq dot y)

dotted_more_lays : {a b c : List ℕ} → Lays apart free a (word a ∷ []) → Lays apart free b (word b ∷ []) → Lays apart free c (word c ∷ []) →
    Lays apart free (a ++ (codes "." ++ (b ++ (codes "." ++ c)))) (dotted_more a b c)
dotted_more_lays x y z = seq x (seq dot (seq y (seq dot z)))

loop_lays : (k : ℕ) → Lays apart free (loop_text k) (word (loop_text k) ∷ [])
loop_lays k = word_lays (loop_text k) (λ rest. refl)

back_lays : (k : ℕ) → Lays apart free (back_text k) (word (back_text k) ∷ [])
back_lays k = word_lays (back_text k) (λ rest. refl)

function_lays : (defs : Defs) (f : ℕ) → NameLays (function_name defs f) → Lays apart free (function_text defs f) (function_tokens defs f)
function_lays defs f h = seq fn h
  where
    fn : Lays apart apart (codes "fn.") (word (codes "fn") ∷ mark Dot ∷ [])
    fn = glue apart apart (tok (word (codes "fn")) ∷ tok (mark Dot) ∷ []) (λ r h. refl) (λ r h. refl)

pub kind_lays : (defs : Defs) (k : DefKind) → NameLays (function_name defs (function_of k)) → Lays apart free (kind_text defs k) (kind_tokens defs k)
kind_lays defs (K.Forward f) h = function_lays defs f.0 h
kind_lays defs (K.Back f r) h = seq (function_lays defs f.0 h) (seq dot (back_lays r.0))
kind_lays defs (K.Loop f k) h = seq (function_lays defs f.0 h) (seq dot (loop_lays k.0))
kind_lays defs (K.LoopBack f k c) h = seq (function_lays defs f.0 h) (seq dot (seq (loop_lays k.0) (seq dot (back_lays c))))

arith_apart : (op : BinOp) (rest : List ℕ) → apart (arith_word op ++ rest) ≡ true
arith_apart B.Add rest = refl
arith_apart B.Sub rest = refl
arith_apart B.Mul rest = refl
arith_apart B.Div rest = refl
arith_apart B.Rem rest = refl
arith_apart B.Shl rest = refl
arith_apart B.Shr rest = refl
arith_apart B.And rest = refl
arith_apart B.Or rest = refl
arith_apart B.Xor rest = refl

compare_apart : (op : CmpOp) (rest : List ℕ) → apart (compare_word op ++ rest) ≡ true
compare_apart C.Eq rest = refl
compare_apart C.Ne rest = refl
compare_apart C.Lt rest = refl
compare_apart C.Le rest = refl
compare_apart C.Gt rest = refl
compare_apart C.Ge rest = refl

bool_apart : (op : BoolOp) (rest : List ℕ) → apart (bool_word op ++ rest) ≡ true
bool_apart O.Eq rest = refl
bool_apart O.Ne rest = refl
bool_apart O.And rest = refl
bool_apart O.Or rest = refl
bool_apart O.Xor rest = refl
bool_apart O.Not rest = refl

-- a word whose first letter is seen by computing
lit : (w : List ℕ) → ((rest : List ℕ) → apart (w ++ rest) ≡ true) → Lays apart free w (word w ∷ [])
lit = word_lays

pub prim_lays : (p : Primitive) → Lays apart free (prim_text p) (prim_tokens p)
prim_lays (P.Arith t op) = dotted_lays (int_lays t) (word_lays (arith_word op) (arith_apart op))
prim_lays (P.Neg t) = dotted_lays (int_lays t) (lit (codes "neg") (λ r. refl))
prim_lays (P.Not t) = dotted_lays (int_lays t) (lit (codes "not") (λ r. refl))
prim_lays (P.Compare t op) = dotted_lays (int_lays t) (word_lays (compare_word op) (compare_apart op))
prim_lays (P.Bools op) = dotted_lays (lit (codes "Bool") (λ r. refl)) (word_lays (bool_word op) (bool_apart op))
prim_lays (P.Cast t u) = dotted_more_lays (lit (codes "cast") (λ r. refl)) (int_lays t) (int_lays u)
prim_lays (P.CastBool t) = dotted_more_lays (lit (codes "cast") (λ r. refl)) (lit (codes "Bool") (λ r. refl)) (int_lays t)
prim_lays (P.Forward BoxNew) = dotted_lays (lit (codes "Box") (λ r. refl)) (lit (codes "new") (λ r. refl))
prim_lays (P.Forward Replace) = dotted_lays (lit (codes "mem") (λ r. refl)) (lit (codes "replace") (λ r. refl))
prim_lays (P.Forward Swap) = dotted_lays (lit (codes "mem") (λ r. refl)) (lit (codes "swap") (λ r. refl))
prim_lays (P.Back BoxNew r) = dotted_more_lays (lit (codes "Box") (λ r. refl)) (lit (codes "new") (λ r. refl)) (back_lays r.0)
prim_lays (P.Back Replace r) = dotted_more_lays (lit (codes "mem") (λ r. refl)) (lit (codes "replace") (λ r. refl)) (back_lays r.0)
prim_lays (P.Back Swap r) = dotted_more_lays (lit (codes "mem") (λ r. refl)) (lit (codes "swap") (λ r. refl)) (back_lays r.0)
