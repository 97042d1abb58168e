-- Blocks, arms and lists are read of their tokens, where their parts are.
use Rattle.std.proofs.Common.{◌≡◌, refl, ap, inl, inr, ℕ, true, false, List, ◌∷◌}
use Rattle.table_reader.specs.Reading as R
use Rattle.aen_base.specs.declared.span.Span.{Span}
use Rattle.source_grammar.specs.declared.class.Class.TheVariants as C
use Rattle.source_grammar.specs.declared.lexeme.Lexeme.{Lexeme}
use Rattle.source_grammar.specs.declared.terminal.Terminal.TheVariants as T
use Rattle.source_grammar.specs.declared.part.Part.{Part}
use Rattle.source_grammar.specs.declared.part.Part.TheVariants as N
use Rattle.rust_ast.specs.Source as s
use Rattle.rust_ast.specs.SourceTypes as t
use Rattle.rust_ast.specs.SourcePatterns as p
use Rattle.source_ways.specs.Carriers.{Carried}
use Rattle.source_ways.specs.Says.{name_in}
use Rattle.rust_printer.specs.Tok.{Tok, mark}
use Rattle.rust_printer.specs.ExpressionTokens.{type_of_let_tokens, value_tokens, given_tokens, stmts_tokens}
use Rattle.rust_printer.specs.Forms.{is_leading}
use Rattle.rust_printer.specs.Bare.{bare_maybewritten, bare_expr, bare_maybeexpr, bare_stmts, bare_arms, nowhere}
use Rattle.rust_printer.specs.Laid.{Laid}
use Rattle.rust_printer.proofs.Printable.{IsName, IsPattern, IsLetType, is_block_like}
use Rattle.rust_printer.proofs.ReadCommon.{Read, read_by, off, tok}
use Rattle.rust_printer.proofs.ReadTypes.{type_read}
use Rattle.rust_printer.proofs.ReadPatterns.{pattern_read}
use Rattle.rust_printer.proofs.ReadLevels.{leading_of_unary}
use Rattle.rust_printer.proofs.ReadOperands.{Reader, Leads, leads, ends, operand_read, leading_by}
use Rattle.rust_printer.proofs.ReadForms.{BlockReader, InnerReader, PartsReader, InitsReader, ArmsReader}

-- the same of another form
read_as : {n : Part} {holds : Carried n → Type 0} {also : Carried n → Type 0} {more : List Tok} {ls : List Lexeme} (x : Read n holds more ls) → also x.value.value → Read n also more ls
read_as x is = record { at = x.at; rest = x.rest; value = x.value; reads = x.reads; is = is; left = x.left }

-- how the parts of a block are read of their tokens
abbrev pub BodyReader : s.Stmts → s.MaybeExpr → Type 0
BodyReader before value = (at : ℕ) (more : List Tok) (ls : List Lexeme) → Laid at (stmts_tokens before (value_tokens value (mark C.CloseBrace ∷ more))) ls →
    Read N.Statements (λ v. (bare_stmts (s.stmts v.statements) ≡ bare_stmts before) × (bare_maybeexpr (s.maybeexpr v.value) ≡ bare_maybeexpr value)) more ls

abbrev pub GivenReader : s.MaybeExpr → Type 0
GivenReader value = (at : ℕ) (more : List Tok) (ls : List Lexeme) → Laid at (given_tokens value more) ls → Read N.LetValue (λ v. bare_maybeexpr (s.maybeexpr v) ≡ bare_maybeexpr value) more ls

-- ---- blocks and arms

value_ends : (e : s.Expr) (more : List Tok) (ls : List Lexeme) → Leads e (mark C.CloseBrace ∷ more) ls →
    Read N.Statements (λ v. (bare_stmts (s.stmts v.statements) ≡ s.no_stmts) × (bare_maybeexpr (s.maybeexpr v.value) ≡ s.some_maybeexpr e)) more ls
value_ends e more ls (leads x) = let o = off x.left in read_by _ (inr (inl refl)) _ o.rest (R.part (R.by _ (inr (inr (inr (inl refl)))) _ (R.part x.reads (R.part (R.by _ (inl refl) _ (tok o T.CloseBrace refl refl R.nothing)) R.nothing))) R.nothing) ((refl, ap s.some_maybeexpr x.is)) o.left
value_ends e more ls (ends x) = let o = off x.left in read_by _ (inr (inl refl)) _ o.rest (R.part (R.by _ (inr (inr (inl refl))) _ (R.part x.reads (R.part (R.by _ (inl refl) _ (tok o T.CloseBrace refl refl R.nothing)) R.nothing))) R.nothing) ((refl, ap s.some_maybeexpr x.is)) o.left

let_type_read : (ty : t.MaybeWritten) → IsLetType ty → (at : ℕ) (more : List Tok) (ls : List Lexeme) → Laid at (type_of_let_tokens ty more) ls → Read N.LetType (λ v. bare_maybewritten (t.maybewritten v) ≡ bare_maybewritten ty) more ls
let_type_read t.no_maybewritten ok at more ls laid = read_by _ (inl refl) _ ls R.nothing refl laid
let_type_read (t.some_maybewritten ty) ok at more ls laid =
    let a = off laid in
    let x = type_read ty ok a.at more a.rest a.left in
    read_by _ (inr (inl refl)) _ x.rest (tok a T.Colon refl refl (R.part x.reads R.nothing)) (ap t.some_maybewritten x.is) x.left

arm_read : (e : s.Expr) (rest : s.Arms) {ts more : List Tok} {ls : List Lexeme} → Leads e (mark C.Comma ∷ ts) ls →
    ((from : ℕ) (us : List Lexeme) → Laid from ts us → Read N.Arms (λ v. bare_arms (s.arms v) ≡ bare_arms rest) more us) →
    Read N.ArmBody (λ v. (bare_expr v.body ≡ e) × (bare_arms (s.arms v.more) ≡ bare_arms rest)) more ls
arm_read e rest (ends x) f =
    let a = off x.left in
    let y = f a.at a.rest a.left in
    read_by _ (inl refl) _ y.rest (R.part x.reads (R.part (R.by _ (inl refl) _ (tok a T.Comma refl refl (R.part y.reads R.nothing))) R.nothing)) ((x.is, y.is)) y.left
arm_read e rest (leads x) f =
    let a = off x.left in
    let y = f a.at a.rest a.left in
    read_by _ (inr (inl refl)) _ y.rest (R.part x.reads (R.part (R.by _ (inl refl) _ (tok a T.Comma refl refl (R.part y.reads R.nothing))) R.nothing)) ((x.is, y.is)) y.left

pub block_of : (span : Span) (before : s.Stmts) (value : s.MaybeExpr) → BodyReader before value → BlockReader (s.block span before value)
block_of span before value f at more ls laid =
    let a = off laid in
    let x = f a.at more a.rest a.left in
    read_by _ (inl refl) _ x.rest (tok a T.OpenBrace refl refl (R.part x.reads R.nothing)) (λ i. s.block nowhere (x.is.0 i) (x.is.1 i)) x.left

pub no_body : BodyReader s.no_stmts s.no_maybeexpr
no_body at more ls laid = let o = off laid in read_by _ (inl refl) _ o.rest (tok o T.CloseBrace refl refl R.nothing) ((refl, refl)) o.left

pub value_body : (e : s.Expr) → Reader e → BodyReader s.no_stmts (s.some_maybeexpr e)
value_body e r at more ls laid = value_ends (bare_expr e) more ls (leading_by (is_leading e) e refl r at _ ls laid)

pub run_body : (e : s.Expr) (rest : s.Stmts) (value : s.MaybeExpr) → Reader e → BodyReader rest value → BodyReader (s.more_stmts (s.run e true) rest) value
run_body e rest value r f at more ls laid =
    let x = leading_of_unary (operand_read e r at _ ls laid).leading in
    let a = off x.left in
    let y = f a.at more a.rest a.left in
    read_by _ (inr (inl refl)) _ y.rest (R.part (R.by _ (inr (inr (inr (inl refl)))) _ (R.part x.reads (R.part (R.by _ (inr (inl refl)) _ (tok a T.Semicolon refl refl (R.part y.reads R.nothing))) R.nothing))) R.nothing) ((λ i. s.more_stmts (s.run (x.is i) true) (y.is.0 i)), y.is.1) y.left

pub ending_body : (e : s.Expr) (rest : s.Stmts) (value : s.MaybeExpr) → is_block_like e ≡ true → Reader e → BodyReader rest value → BodyReader (s.more_stmts (s.run e false) rest) value
ending_body e rest value h r f at more ls laid =
    let x = (r at _ ls laid).block_like h in
    let a = off x.left in
    let y = f a.at more a.rest a.left in
    read_by _ (inr (inl refl)) _ y.rest (R.part (R.by _ (inr (inr (inl refl))) _ (R.part x.reads (R.part (R.by _ (inr (inl refl)) _ (R.part (R.by _ (inl refl) _ (tok a T.Semicolon refl refl (R.part y.reads R.nothing))) R.nothing)) R.nothing))) R.nothing) ((λ i. s.more_stmts (s.run (x.is i) false) (y.is.0 i)), y.is.1) y.left

pub bind_body : (span : Span) (pat : p.Pat) (ty : t.MaybeWritten) (given : s.MaybeExpr) (rest : s.Stmts) (value : s.MaybeExpr) → IsPattern pat → IsLetType ty → GivenReader given → BodyReader rest value → BodyReader (s.more_stmts (s.bind span pat ty given) rest) value
bind_body span pat ty given rest value fits fit g f at more ls laid =
    let a = off laid in
    let p = pattern_read pat fits a.at _ a.rest a.left in
    let u = let_type_read ty fit p.at _ p.rest p.left in
    let v = g u.at _ u.rest u.left in
    let b = off v.left in
    let y = f b.at more b.rest b.left in
    read_by _ (inr (inl refl)) _ y.rest (R.part (R.by _ (inr (inl refl)) _ (tok a T.Let refl refl (R.part p.reads (R.part u.reads (R.part v.reads (tok b T.Semicolon refl refl (R.part y.reads R.nothing))))))) R.nothing) ((λ i. s.more_stmts (s.bind nowhere (p.is i) (u.is i) (v.is i)) (y.is.0 i)), y.is.1) y.left

pub none_given : GivenReader s.no_maybeexpr
none_given at more ls laid = read_by _ (inl refl) _ ls R.nothing refl laid

pub one_given : (e : s.Expr) → Reader e → GivenReader (s.some_maybeexpr e)
one_given e r at more ls laid =
    let a = off laid in
    let x = (r a.at more a.rest a.left).expression in
    read_by _ (inr (inl refl)) _ x.rest (tok a T.Equals refl refl (R.part x.reads R.nothing)) (ap s.some_maybeexpr x.is) x.left

pub no_parts : PartsReader s.no_exprs
no_parts at more ls laid = let o = off laid in read_by _ (inl refl) _ o.rest (tok o T.CloseBracket refl refl R.nothing) (refl) o.left

pub more_parts : (e : s.Expr) (rest : s.Exprs) → Reader e → PartsReader rest → PartsReader (s.more_exprs e rest)
more_parts e rest r f at more ls laid =
    let x = (r at _ ls laid).expression in
    let a = off x.left in
    let y = f a.at more a.rest a.left in
    read_by _ (inr (inl refl)) _ y.rest (R.part x.reads (R.part (R.by _ (inr (inl refl)) _ (tok a T.Comma refl refl (R.part y.reads R.nothing))) R.nothing)) (λ i. s.more_exprs (x.is i) (y.is i)) y.left

pub no_inits_read : InitsReader s.no_inits
no_inits_read at more ls laid = let o = off laid in read_by _ (inl refl) _ o.rest (tok o T.CloseBrace refl refl R.nothing) (refl) o.left

pub more_inits_read : (span : Span) (name : List ℕ) (e : s.Expr) (rest : s.Inits) → IsName name → Reader e → InitsReader rest → InitsReader (s.more_inits span name e rest)
more_inits_read span name e rest n r f at more ls laid =
    let o = off laid in
    let b = off o.left in
    let x = (r b.at _ b.rest b.left).expression in
    let a = off x.left in
    let y = f a.at more a.rest a.left in
    read_by _ (inr (inl refl)) _ y.rest (R.part (R.by _ (inl refl) _ (tok o T.Identifier n refl (R.part (R.by _ (inr (inl refl)) _ (tok b T.Colon refl refl (R.part x.reads R.nothing))) R.nothing))) (R.part (R.by _ (inr (inl refl)) _ (tok a T.Comma refl refl (R.part y.reads R.nothing))) R.nothing)) (λ i. s.more_inits nowhere (name_in (o.content i)) (x.is i) (y.is i)) y.left

pub no_arms_read : ArmsReader s.no_arms
no_arms_read at more ls laid = let o = off laid in read_by _ (inl refl) _ o.rest (tok o T.CloseBrace refl refl R.nothing) (refl) o.left

pub more_arms_read : (pat : p.Pat) (e : s.Expr) (rest : s.Arms) → IsPattern pat → Reader e → ArmsReader rest → ArmsReader (s.more_arms pat e rest)
more_arms_read pat e rest fits r f at more ls laid =
    let p = pattern_read pat fits at _ ls laid in
    let a = off p.left in
    let x = arm_read (bare_expr e) rest (leading_by (is_leading e) e refl r a.at _ a.rest a.left) (λ from us l. f from more us l) in
    read_by _ (inr (inl refl)) _ x.rest (R.part p.reads (tok a T.Gives refl refl (R.part x.reads R.nothing))) (λ i. s.more_arms (p.is i) (x.is.0 i) (x.is.1 i)) x.left

pub inner_of : (b : s.Block) → BlockReader b → InnerReader (s.inner b)
inner_of b f at more ls laid = let x = f at more ls laid in read_as x (ap s.inner x.is)
