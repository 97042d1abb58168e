-- Steps of arms, blocks, `let` and `if let`: where one fails, and what they give together.
use Rattle.std.proofs.Common.{◌≡◌, ℕ, Bool, false, length, sym, ap, subst, ◌∙◌}
use Rattle.std.specs.Prelude.{Result, Ok, Err, IsErrAnd}
use Rattle.aen_base.specs.declared.span.Span.{Span}
use Rattle.rust_ast.specs.Source as s
use Rattle.rust_ast.specs.SourcePatterns as sp
use Rattle.rust_ast.specs.SourceTypes as types
use Rattle.rust_ast.specs.Patterns as p
use Rattle.rust_ast.specs.Resolved as r
use Rattle.rust_ast.specs.Written as w
use Rattle.name_tables.specs.declared.fault.Stop.{Stop}
use Rattle.name_tables.specs.declared.fault.Stop.TheVariants.{Unknown, Memory}
use Rattle.name_tables.specs.declared.tables.Tables.{Tables}
use Rattle.name_tables.specs.declared.tables.Generics.{Generics}
use Rattle.name_tables.specs.Gives.{Gives, GivesAs}
use Rattle.name_tables.specs.Lookups.{and_then}
use Rattle.name_uses.specs.PatternUses.{read_pat}
use Rattle.name_uses.specs.Scopes.{State, enter, leave}
use Rattle.name_uses.specs.TypeUses.{read_maybe_type}
use Rattle.name_uses.specs.Uses.{Answer, read, read_maybe, read_stmt, both_read, within, under, in_block, two_arms, is_nothing}

passes_to : {A B C D : Type 0} (f : C → A) (o : Result A Span) (k : D → B) (whole : Result B Span) (e : Stop) → GivesAs f o (Err e) → ((q : Span) → o ≡ Err q → whole ≡ Err q) → GivesAs k whole (Err e)
passes_to f o k whole (Unknown q) g h = h q g
passes_to f o k whole Memory g h = tt

passes_by : {A B C : Type 0} (f : C → A) (o : Result A Span) (whole : Result B Span) (e : Stop) → GivesAs f o (Err e) → ((q : Span) → o ≡ Err q → whole ≡ Err q) → Gives {A = B} whole (Err e)
passes_by f o whole (Unknown q) g h = h q g
passes_by f o whole Memory g h = tt

-- what stopped a step stops the whole
pub passes_form : {A B C D : Type 0} (f : C → A) (o : Result A Span) (k : D → B) (whole : Result B Span) (x : Result D Stop) (e : Stop) → GivesAs f o (Err e) → IsErrAnd x (λ y. y ≡ e) →
    ((q : Span) → o ≡ Err q → whole ≡ Err q) → GivesAs k whole x
passes_form f o k whole (Ok y) e g d h = absurd d
passes_form f o k whole (Err y) e g d h = subst (λ z. GivesAs k whole (Err z)) (sym d) (passes_to f o k whole e g h)

pub passes_as : {A B C : Type 0} (f : C → A) (o : Result A Span) (whole : Result B Span) (x : Result B Stop) (e : Stop) → GivesAs f o (Err e) → IsErrAnd x (λ y. y ≡ e) →
    ((q : Span) → o ≡ Err q → whole ≡ Err q) → Gives whole x
passes_as f o whole (Ok y) e g k h = absurd k
passes_as f o whole (Err y) e g k h = subst (λ z. Gives whole (Err z)) (sym k) (passes_by f o whole e g h)

pub passes : {A B : Type 0} (o : Result A Span) (whole : Result B Span) (x : Result B Stop) (e : Stop) → Gives o (Err e) → IsErrAnd x (λ y. y ≡ e) →
    ((q : Span) → o ≡ Err q → whole ≡ Err q) → Gives whole x
passes o whole x (Unknown q) g k h = passes_as (λ y. y) o whole x (Unknown q) g k h
passes o whole x Memory g k h = passes_as (λ y. y) o whole x Memory tt k h

-- ---- variables in scope, and an arm

left_at : (count : ℕ) (st after out : State) → count ≡ length st.scope → out ≡ leave count after → leave (length st.scope) after ≡ out
left_at count st after out c l = ap (λ n. leave n after) (sym c) ∙ sym l

abbrev within_end : State → r.Expr × State → Answer r.Expr
within_end st k = Ok (k.0, leave (length st.scope) k.1)

pub within_fails : (a b : ℕ) (inside : State → Answer r.Expr) (st inner : State) (q : Span) → inner ≡ enter a b st → inside inner ≡ Err q → within a b inside st ≡ Err q
within_fails a b inside st inner q e k = ap (λ z. and_then (inside z) (within_end st)) (sym e) ∙ ap (λ z. and_then z (within_end st)) k

pub within_gives : (a b count : ℕ) (inside : State → Answer r.Expr) (y : r.Expr) (st inner after out : State) → count ≡ length st.scope → inner ≡ enter a b st → inside inner ≡ Ok (y, after) → out ≡ leave count after →
    within a b inside st ≡ Ok (y, out)
within_gives a b count inside y st inner after out c e k l =
    ap (λ z. and_then (inside z) (within_end st)) (sym e) ∙ ap (λ z. and_then z (within_end st)) k ∙ ap (λ z. Ok (y, z)) (left_at count st after out c l)

-- the numbers are those of the pattern's variables
within_at : (n a b : ℕ) (inside : State → Answer r.Expr) (st st1 : State) → a ≡ n → b ≡ length st.variables → within n (length st.variables) inside st1 ≡ within a b inside st1
within_at n a b inside st st1 f t = λ i. within (sym f i) (sym t i) inside st1

abbrev arm_end : p.Pat → r.Expr × State → Answer (p.Pat × r.Expr)
arm_end x a = Ok ((x, a.0), a.1)

abbrev arm_inside : ℕ → (State → Answer r.Expr) → p.Pat × State → Answer (p.Pat × r.Expr)
arm_inside n inside x = and_then (within n (length x.1.variables) inside x.1) (arm_end x.0)

under_at : (o : Answer p.Pat) (n a b : ℕ) (inside : State → Answer r.Expr) (x : p.Pat) (st : State) → o ≡ Ok (x, st) → a ≡ n → b ≡ length st.variables → under o n inside ≡ and_then (within a b inside st) (arm_end x)
under_at o n a b inside x st h f t = ap (λ z. and_then z (arm_inside n inside)) h ∙ ap (λ z. and_then z (arm_end x)) (within_at n a b inside st st f t)

pub under_fails : (o : Answer p.Pat) (n a b : ℕ) (inside : State → Answer r.Expr) (x : p.Pat) (st : State) (q : Span) → o ≡ Ok (x, st) → a ≡ n → b ≡ length st.variables → within a b inside st ≡ Err q →
    under o n inside ≡ Err q
under_fails o n a b inside x st q h f t k = under_at o n a b inside x st h f t ∙ ap (λ z. and_then z (arm_end x)) k

pub under_gives : (o : Answer p.Pat) (n a b : ℕ) (inside : State → Answer r.Expr) (x : p.Pat) (y : r.Expr) (st out : State) → o ≡ Ok (x, st) → a ≡ n → b ≡ length st.variables → within a b inside st ≡ Ok (y, out) →
    under o n inside ≡ Ok ((x, y), out)
under_gives o n a b inside x y st out h f t k = under_at o n a b inside x st h f t ∙ ap (λ z. and_then z (arm_end x)) k

-- ---- a block

abbrev block_end : ℕ → r.Stmts → r.MaybeExpr × State → Answer (r.Stmts × r.MaybeExpr)
block_end n xs y = Ok ((xs, y.0), leave n y.1)

abbrev block_last : ℕ → (State → Answer r.MaybeExpr) → r.Stmts × State → Answer (r.Stmts × r.MaybeExpr)
block_last n next x = and_then (next x.1) (block_end n x.0)

pub block_fails : (o : Answer r.Stmts) (next : State → Answer r.MaybeExpr) (n : ℕ) (st : State) (xs : r.Stmts) (e : Span) → o ≡ Ok (xs, st) → next st ≡ Err e → in_block o next n ≡ Err e
block_fails o next n st xs e h k = ap (λ z. and_then z (block_last n next)) h ∙ ap (λ z. and_then z (block_end n xs)) k

pub block_gives : (o : Answer r.Stmts) (next : State → Answer r.MaybeExpr) (n count : ℕ) (st after out : State) (xs : r.Stmts) (y : r.MaybeExpr) → o ≡ Ok (xs, st) → next st ≡ Ok (y, after) → count ≡ n → out ≡ leave count after →
    in_block o next n ≡ Ok ((xs, y), out)
block_gives o next n count st after out xs y h k c l =
    ap (λ z. and_then z (block_last n next)) h ∙ ap (λ z. and_then z (block_end n xs)) k ∙ ap (λ z. Ok ((xs, y), z)) (ap (λ m. leave m after) (sym c) ∙ sym l)

module _ (t : Tables) (g : Generics) where
  -- ---- `let`

  abbrev let_end : Span → ℕ → p.Pat × State → w.MaybeWritten → r.MaybeExpr × State → Answer r.Stmt
  let_end q n y z v = Ok (r.bind q y.0 z v.0, enter n (length y.1.variables) v.1)

  abbrev let_value : Span → ℕ → s.MaybeExpr → p.Pat × State → w.MaybeWritten → Answer r.Stmt
  let_value q n o y z = and_then (read_maybe t g o y.1) (let_end q n y z)

  abbrev let_type : Span → ℕ → types.MaybeWritten → s.MaybeExpr → p.Pat × State → Answer r.Stmt
  let_type q n ty o y = and_then (read_maybe_type t g ty) (let_value q n o y)

  let_pat : (q : Span) (x : sp.Pat) (ty : types.MaybeWritten) (o : s.MaybeExpr) (st st1 : State) (late : Bool) (y : p.Pat) → late ≡ is_nothing o → read_pat t g late x st ≡ Ok (y, st1) →
      read_stmt t g (s.bind q x ty o) st ≡ let_type q (length st.variables) ty o (y, st1)
  let_pat q x ty o st st1 late y l h = ap (λ z. and_then z (let_type q (length st.variables) ty o)) (ap (λ b. read_pat t g b x st) (sym l) ∙ h)

  pub let_type_fails : (q : Span) (x : sp.Pat) (ty : types.MaybeWritten) (o : s.MaybeExpr) (st st1 : State) (late : Bool) (y : p.Pat) (e : Span) → late ≡ is_nothing o → read_pat t g late x st ≡ Ok (y, st1) →
      read_maybe_type t g ty ≡ Err e → read_stmt t g (s.bind q x ty o) st ≡ Err e
  let_type_fails q x ty o st st1 late y e l h k = let_pat q x ty o st st1 late y l h ∙ ap (λ z. and_then z (let_value q (length st.variables) o (y, st1))) k

  pub let_value_fails : (q : Span) (x : sp.Pat) (ty : types.MaybeWritten) (o : s.MaybeExpr) (st st1 : State) (late : Bool) (y : p.Pat) (v : w.MaybeWritten) (e : Span) → late ≡ is_nothing o →
      read_pat t g late x st ≡ Ok (y, st1) → read_maybe_type t g ty ≡ Ok v → read_maybe t g o st1 ≡ Err e → read_stmt t g (s.bind q x ty o) st ≡ Err e
  let_value_fails q x ty o st st1 late y v e l h k m =
      let_pat q x ty o st st1 late y l h ∙ ap (λ z. and_then z (let_value q (length st.variables) o (y, st1))) k ∙ ap (λ z. and_then z (let_end q (length st.variables) (y, st1) v)) m

  pub let_gives : (q : Span) (x : sp.Pat) (ty : types.MaybeWritten) (o : s.MaybeExpr) (a b : ℕ) (st st1 st2 out : State) (late : Bool) (y : p.Pat) (v : w.MaybeWritten) (u : r.MaybeExpr) → late ≡ is_nothing o →
      read_pat t g late x st ≡ Ok (y, st1) → read_maybe_type t g ty ≡ Ok v → read_maybe t g o st1 ≡ Ok (u, st2) → a ≡ length st.variables → b ≡ length st1.variables → out ≡ enter a b st2 →
      read_stmt t g (s.bind q x ty o) st ≡ Ok (r.bind q y v u, out)
  let_gives q x ty o a b st st1 st2 out late y v u l h k m f e n =
      let_pat q x ty o st st1 late y l h ∙ ap (λ z. and_then z (let_value q (length st.variables) o (y, st1))) k ∙ ap (λ z. and_then z (let_end q (length st.variables) (y, st1) v)) m
      ∙ ap (λ z. Ok (r.bind q y v u, z)) ((λ i. enter (sym f i) (sym e i) st2) ∙ sym n)

  -- ---- `if let`

  abbrev branch_end : Span → p.Pat → r.Expr → (r.Expr × r.Expr) × State → Answer r.Expr
  branch_end q y h k = Ok (two_arms q h y k.0.0 k.0.1, k.1)

  abbrev chosen : ℕ → ℕ → s.Expr → s.Expr → State → Answer (r.Expr × r.Expr)
  chosen m n b c st = both_read (within m n (read t g b) st) (read t g c)

  abbrev branch_choice : Span → ℕ → s.Expr → s.Expr → p.Pat × State → r.Expr × State → Answer r.Expr
  branch_choice q m b c y h = and_then (chosen m (length y.1.variables) b c h.1) (branch_end q y.0 h.0)

  abbrev branch_value : Span → ℕ → s.Expr → s.Expr → s.Expr → p.Pat × State → Answer r.Expr
  branch_value q m a b c y = and_then (read t g a y.1) (branch_choice q m b c y)

  branch_pat : (q : Span) (x : sp.Pat) (a b c : s.Expr) (st st1 : State) (y : p.Pat) → read_pat t g false x st ≡ Ok (y, st1) →
      read t g (s.let_branch q x a b c) st ≡ branch_value q (length st.variables) a b c (y, st1)
  branch_pat q x a b c st st1 y h = ap (λ z. and_then z (branch_value q (length st.variables) a b c)) h

  pub branch_value_fails : (q : Span) (x : sp.Pat) (a b c : s.Expr) (st st1 : State) (y : p.Pat) (e : Span) → read_pat t g false x st ≡ Ok (y, st1) → read t g a st1 ≡ Err e →
      read t g (s.let_branch q x a b c) st ≡ Err e
  branch_value_fails q x a b c st st1 y e h k = branch_pat q x a b c st st1 y h ∙ ap (λ z. and_then z (branch_choice q (length st.variables) b c (y, st1))) k

  branch_to_choice : (q : Span) (x : sp.Pat) (a b c : s.Expr) (m n : ℕ) (st st1 st2 : State) (y : p.Pat) (h : r.Expr) → read_pat t g false x st ≡ Ok (y, st1) → read t g a st1 ≡ Ok (h, st2) →
      m ≡ length st.variables → n ≡ length st1.variables → read t g (s.let_branch q x a b c) st ≡ and_then (chosen m n b c st2) (branch_end q y h)
  branch_to_choice q x a b c m n st st1 st2 y h i k f e =
      branch_pat q x a b c st st1 y i ∙ ap (λ z. and_then z (branch_choice q (length st.variables) b c (y, st1))) k
      ∙ (λ j. and_then (chosen (sym f j) (sym e j) b c st2) (branch_end q y h))

  pub branch_choice_fails : (q : Span) (x : sp.Pat) (a b c : s.Expr) (m n : ℕ) (st st1 st2 : State) (y : p.Pat) (h : r.Expr) (o : Span) → read_pat t g false x st ≡ Ok (y, st1) → read t g a st1 ≡ Ok (h, st2) →
      m ≡ length st.variables → n ≡ length st1.variables → both_read (within m n (read t g b) st2) (read t g c) ≡ Err o → read t g (s.let_branch q x a b c) st ≡ Err o
  branch_choice_fails q x a b c m n st st1 st2 y h o i k f e d =
      branch_to_choice q x a b c m n st st1 st2 y h i k f e ∙ ap (λ z. and_then z (branch_end q y h)) d

  pub branch_gives : (q : Span) (x : sp.Pat) (a b c : s.Expr) (m n : ℕ) (st st1 st2 last : State) (y : p.Pat) (h u v : r.Expr) → read_pat t g false x st ≡ Ok (y, st1) → read t g a st1 ≡ Ok (h, st2) →
      m ≡ length st.variables → n ≡ length st1.variables → both_read (within m n (read t g b) st2) (read t g c) ≡ Ok ((u, v), last) → read t g (s.let_branch q x a b c) st ≡ Ok (two_arms q h y u v, last)
  branch_gives q x a b c m n st st1 st2 last y h u v i k f e d =
      branch_to_choice q x a b c m n st st1 st2 y h i k f e ∙ ap (λ z. and_then z (branch_end q y h)) d
