-- An expression of each form is read of its tokens, where its parts are.
use Rattle.std.proofs.Common.{◌≡◌, refl, sym, ap, inl, inr, ℕ, true, false, List, ◌∷◌}
use Rattle.table_reader.specs.Reading as R
use Rattle.aen_base.specs.declared.span.Span.{Span}
use Rattle.aen_base.specs.declared.int_ty.IntTy.{IntTy}
use Rattle.source_grammar.specs.declared.class.Class.TheVariants as C
use Rattle.source_grammar.specs.declared.lexeme.Lexeme.{Lexeme}
use Rattle.source_grammar.specs.declared.terminal.Terminal.TheVariants as T
use Rattle.source_grammar.specs.declared.part.Part.TheVariants as N
use Rattle.source_grammar.specs.declared.part.Listed.TheVariants as Of
use Rattle.source_grammar.specs.Spelled.{class_named}
use Rattle.rust_ast.specs.declared.ident.Ident.{Ident}
use Rattle.rust_ast.specs.Patterns as suffixes
use Rattle.rust_ast.specs.Source as s
use Rattle.rust_ast.specs.SourceTypes as t
use Rattle.rust_ast.specs.SourcePatterns as p
use Rattle.source_ways.specs.Blocks.{only_value}
use Rattle.source_ways.specs.Says.{int_type_in, is_class}
use Rattle.rust_printer.specs.Tok.{Tok, mark}
use Rattle.rust_printer.specs.ExpressionTokens.{expr_tokens, maybe_tokens, block_tokens, exprs_tokens, arms_tokens, inits_tokens}
use Rattle.rust_printer.specs.Forms.{is_core}
use Rattle.rust_printer.specs.Bare.{bare_ident, bare_turbo, bare_expr, bare_maybeexpr, bare_block, bare_exprs, bare_arms, bare_inits, nowhere}
use Rattle.rust_printer.specs.Laid.{Laid}
use Rattle.rust_printer.proofs.Printable.{IsName, IsTurbo, IsPath, IsPattern, IsPlace, is_else, leaves}
use Rattle.rust_printer.proofs.ReadCommon.{Read, read_by, off, tok}
use Rattle.rust_printer.proofs.ReadPatterns.{pattern_read}
use Rattle.rust_printer.proofs.ReadPaths.{not_called, is_called, alone, one_called, path_called}
use Rattle.rust_printer.proofs.ReadLevels.{Is, up_product, up_sum, up_shift, up_bitand, up_xor, up_bitor, up_compare, up_and, up_or, up_free, is_positive}
use Rattle.rust_printer.proofs.Starts.{start}
use Rattle.rust_printer.proofs.Classes.{no_true}
use Rattle.rust_printer.proofs.ReadOperands.{Reader, core_node, operand_node, block_node, other_node, condition_read, operand_read, core_by, number_is, negative_is, field_read, minus_by}

-- how parts are read of their tokens
abbrev pub BlockReader : s.Block → Type 0
BlockReader b = (at : ℕ) (more : List Tok) (ls : List Lexeme) → Laid at (block_tokens b more) ls → Read N.Block (λ v. bare_block v ≡ bare_block b) more ls

-- a block as the expression that it is
abbrev pub InnerReader : s.Expr → Type 0
InnerReader e = (at : ℕ) (more : List Tok) (ls : List Lexeme) → Laid at (expr_tokens e more) ls → Read N.Block (λ v. s.inner (bare_block v) ≡ bare_expr e) more ls

abbrev pub MaybeReader : s.MaybeExpr → Type 0
MaybeReader value = (at : ℕ) (more : List Tok) (ls : List Lexeme) → Laid at (maybe_tokens value more) ls → Read N.Operand (λ v. bare_maybeexpr (s.maybeexpr v) ≡ bare_maybeexpr value) more ls

abbrev pub PartsReader : s.Exprs → Type 0
PartsReader parts = (at : ℕ) (more : List Tok) (ls : List Lexeme) → Laid at (exprs_tokens parts (mark C.CloseBracket ∷ more)) ls → Read (N.List Of.Arguments) (λ v. bare_exprs (s.exprs v) ≡ bare_exprs parts) more ls

abbrev pub InitsReader : s.Inits → Type 0
InitsReader parts = (at : ℕ) (more : List Tok) (ls : List Lexeme) → Laid at (inits_tokens parts (mark C.CloseBrace ∷ more)) ls → Read (N.List Of.Initials) (λ v. bare_inits (s.inits v) ≡ bare_inits parts) more ls

abbrev pub ArmsReader : s.Arms → Type 0
ArmsReader arms = (at : ℕ) (more : List Tok) (ls : List Lexeme) → Laid at (arms_tokens arms (mark C.CloseBrace ∷ more)) ls → Read N.Arms (λ v. bare_arms (s.arms v) ≡ bare_arms arms) more ls

pub negative_read : (span : Span) (size : ℕ) (suffix : suffixes.Suffix) → Reader (s.number span true size suffix)
negative_read span size suffix at more ls laid =
    let a = off laid in
    let b = off a.left in
    operand_node (s.number span true size suffix) refl refl refl (record {
      unary = read_by _ (inl refl) _ b.rest (tok a T.Minus refl refl (R.part (R.by _ (inr (inr (inr (inr (inl refl))))) _ (R.part (R.by _ (inl refl) _ (tok b T.Integer refl refl R.nothing)) (R.part (R.by _ (inl refl) _ R.nothing) R.nothing))) R.nothing)) (negative_is _ b.lexeme.span size suffix b.lexeme.content b.content) b.left;
      leading = read_by _ (inl refl) _ b.rest (tok a T.Minus refl refl (R.part (R.by _ (inr (inr (inr (inr (inl refl))))) _ (R.part (R.by _ (inl refl) _ (tok b T.Integer refl refl R.nothing)) (R.part (R.by _ (inl refl) _ R.nothing) R.nothing))) R.nothing)) (negative_is _ b.lexeme.span size suffix b.lexeme.content b.content) b.left;
    })

pub positive_read : (span : Span) (size : ℕ) (suffix : suffixes.Suffix) → Reader (s.number span false size suffix)
positive_read span size suffix at more ls laid =
    let o = off laid in
    core_node (s.number span false size suffix) refl refl (read_by _ (inl refl) _ o.rest (tok o T.Integer refl refl R.nothing) (number_is false size suffix o.lexeme.content o.content) o.left)

pub true_read : (span : Span) → Reader (s.truth span true)
true_read span at more ls laid =
    let o = off laid in
    core_node (s.truth span true) refl refl (read_by _ (inr (inl refl)) _ o.rest (tok o T.BoolLiteral refl refl R.nothing) (ap (λ c. s.truth nowhere (is_class c C.True)) o.class) o.left)

pub false_read : (span : Span) → Reader (s.truth span false)
false_read span at more ls laid =
    let o = off laid in
    core_node (s.truth span false) refl refl (read_by _ (inr (inl refl)) _ o.rest (tok o T.BoolLiteral refl refl R.nothing) (ap (λ c. s.truth nowhere (is_class c C.True)) o.class) o.left)

pub unit_read : (span : Span) → Reader (s.tuple span s.no_exprs)
unit_read span at more ls laid =
    let a = off laid in
    let b = off a.left in
    core_node (s.tuple span s.no_exprs) refl refl (read_by _ (inr (inr (inl refl))) _ b.rest (tok a T.OpenBracket refl refl (R.part (R.by _ (inl refl) _ (tok b T.CloseBracket refl refl R.nothing)) R.nothing)) (refl) b.left)

pub tuple_read : (span : Span) (one two : s.Expr) (rest : s.Exprs) → Reader one → Reader two → PartsReader rest → Reader (s.tuple span (s.more_exprs one (s.more_exprs two rest)))
tuple_read span one two rest first second others at more ls laid =
    let a = off laid in
    let x = (first a.at _ a.rest a.left).expression in
    let b = off x.left in
    let y = (second b.at _ b.rest b.left).expression in
    let c = off y.left in
    let z = others c.at more c.rest c.left in
    core_node (s.tuple span (s.more_exprs one (s.more_exprs two rest))) refl refl
    (read_by _ (inr (inr (inl refl))) _ z.rest (tok a T.OpenBracket refl refl (R.part (R.by _ (inr (inl refl)) _ (R.part x.reads (R.part (R.by _ (inr (inl refl)) _ (tok b T.Comma refl refl (R.part y.reads (R.part (R.by _ (inr (inl refl)) _ (tok c T.Comma refl refl (R.part z.reads R.nothing))) R.nothing)))) R.nothing))) R.nothing)) (λ i. s.tuple nowhere (s.more_exprs (x.is i) (s.more_exprs (y.is i) (z.is i)))) z.left)

pub inner_node : (b : s.Block) → BlockReader b → Reader (s.inner b)
inner_node b f at more ls laid =
    let x = f at more ls laid in
    block_node (s.inner b) refl refl (read_by _ (inl refl) _ x.rest (R.part x.reads R.nothing) (ap s.inner x.is) x.left) (λ h. read_by _ (inr (inl refl)) _ x.rest (R.part x.reads R.nothing) (ap s.inner x.is) x.left)

pub branch_read : (span : Span) (e : s.Expr) (b : s.Block) (other : s.Expr) → Reader e → BlockReader b → is_else other ≡ true → Reader other → Reader (s.branch span e b other)
branch_read span e b other r g h last at more ls laid =
    let a = off laid in
    let x = condition_read e r a.at _ a.rest a.left in
    let y = g x.at _ x.rest x.left in
    let c = off y.left in
    let z = (last c.at more c.rest c.left).otherwise h in
    let f = read_by {n = N.If} {holds = Is (bare_expr (s.branch span e b other))} _ (inl refl) _ z.rest
    (tok a T.If refl refl (R.part (R.by _ (inl refl) _ (R.part x.reads (R.part y.reads (R.part (R.by _ (inr (inl refl)) _ (tok c T.Else refl refl (R.part z.reads R.nothing))) R.nothing)))) R.nothing))
    (λ i. s.branch nowhere (x.is i) (y.is i) (z.is i)) z.left in
    block_node (s.branch span e b other) refl refl (read_by _ (inr (inl refl)) _ f.rest (R.part f.reads R.nothing) (f.is) f.left) (λ h. read_by _ (inl refl) _ f.rest (R.part f.reads R.nothing) (f.is) f.left)

pub let_branch_read : (span : Span) (pat : p.Pat) (e b other : s.Expr) → IsPattern pat → Reader e → InnerReader b → is_else other ≡ true → Reader other → Reader (s.let_branch span pat e b other)
let_branch_read span pat e b other fits r g h last at more ls laid =
    let a = off laid in
    let w = off a.left in
    let p = pattern_read pat fits w.at _ w.rest w.left in
    let q = off p.left in
    let x = condition_read e r q.at _ q.rest q.left in
    let y = g x.at _ x.rest x.left in
    let c = off y.left in
    let z = (last c.at more c.rest c.left).otherwise h in
    let f = read_by {n = N.If} {holds = Is (bare_expr (s.let_branch span pat e b other))} _ (inl refl) _ z.rest
    (tok a T.If refl refl (R.part (R.by _ (inr (inl refl)) _ (tok w T.Let refl refl (R.part p.reads (tok q T.Equals refl refl (R.part x.reads (R.part y.reads (R.part (R.by _ (inr (inl refl)) _ (tok c T.Else refl refl (R.part z.reads R.nothing))) R.nothing))))))) R.nothing))
    (λ i. s.let_branch nowhere (p.is i) (x.is i) (y.is i) (z.is i)) z.left in
    block_node (s.let_branch span pat e b other) refl refl (read_by _ (inr (inl refl)) _ f.rest (R.part f.reads R.nothing) (f.is) f.left) (λ h. read_by _ (inl refl) _ f.rest (R.part f.reads R.nothing) (f.is) f.left)

pub select_read : (span : Span) (e : s.Expr) (arms : s.Arms) → Reader e → ArmsReader arms → Reader (s.select span e arms)
select_read span e arms r g at more ls laid =
    let a = off laid in
    let x = condition_read e r a.at _ a.rest a.left in
    let b = off x.left in
    let y = g b.at more b.rest b.left in
    block_node (s.select span e arms) refl refl
    (read_by _ (inr (inr (inl refl))) _ y.rest (tok a T.Match refl refl (R.part x.reads (tok b T.OpenBrace refl refl (R.part y.reads R.nothing)))) (λ i. s.select nowhere (x.is i) (y.is i)) y.left) (λ h. no_true false refl h)

pub while_holds : (span w whole : Span) (e : s.Expr) (b : s.Block) (other : s.Expr) → Reader e → BlockReader b → bare_expr other ≡ s.inner (only_value nowhere leaves) → Reader (s.forever span true (s.block w s.no_stmts (s.some_maybeexpr (s.branch whole e b other))))
while_holds span w whole e b other r g same at more ls laid =
    let a = off laid in
    let x = condition_read e r a.at _ a.rest a.left in
    let y = g x.at more x.rest x.left in
    block_node (s.forever span true (s.block w s.no_stmts (s.some_maybeexpr (s.branch whole e b other)))) refl refl
    (read_by _ (inr (inr (inr (inr (inl refl))))) _ y.rest (tok a T.While refl refl (R.part (R.by _ (inl refl) _ (R.part x.reads (R.part y.reads R.nothing))) R.nothing)) (λ i. s.forever nowhere true (s.block nowhere s.no_stmts (s.some_maybeexpr (s.branch nowhere (x.is i) (y.is i) (sym same i))))) y.left) (λ h. no_true false refl h)

pub while_matches : (span w whole : Span) (pat : p.Pat) (e b other : s.Expr) → IsPattern pat → Reader e → InnerReader b → bare_expr other ≡ leaves → Reader (s.forever span true (s.block w s.no_stmts (s.some_maybeexpr (s.let_branch whole pat e b other))))
while_matches span w whole pat e b other fits r g same at more ls laid =
    let a = off laid in
    let d = off a.left in
    let p = pattern_read pat fits d.at _ d.rest d.left in
    let q = off p.left in
    let x = condition_read e r q.at _ q.rest q.left in
    let y = g x.at more x.rest x.left in
    block_node (s.forever span true (s.block w s.no_stmts (s.some_maybeexpr (s.let_branch whole pat e b other)))) refl refl
    (read_by _ (inr (inr (inr (inr (inl refl))))) _ y.rest (tok a T.While refl refl (R.part (R.by _ (inr (inl refl)) _ (tok d T.Let refl refl (R.part p.reads (tok q T.Equals refl refl (R.part x.reads (R.part y.reads R.nothing)))))) R.nothing)) (λ i. s.forever nowhere true (s.block nowhere s.no_stmts (s.some_maybeexpr (s.let_branch nowhere (p.is i) (x.is i) (y.is i) (sym same i))))) y.left) (λ h. no_true false refl h)

pub loop_read : (span w : Span) (before : s.Stmts) (value : s.MaybeExpr) → BlockReader (s.block w before value) → Reader (s.forever span false (s.block w before value))
loop_read span w before value f at more ls laid =
    let a = off laid in
    let y = f a.at more a.rest a.left in
    block_node (s.forever span false (s.block w before value)) refl refl (read_by _ (inr (inr (inr (inl refl)))) _ y.rest (tok a T.Loop refl refl (R.part y.reads R.nothing)) (ap (s.forever nowhere false) y.is) y.left) (λ h. no_true false refl h)

pub panic_read : (span : Span) → Reader (s.panic span)
panic_read span at more ls laid =
    let a = off laid in
    let b = off a.left in
    let c = off b.left in
    let d = off c.left in
    core_node (s.panic span) refl refl (read_by _ (inr (inr (inr (inr (inr (inr (inr (inl refl)))))))) _ d.rest (tok a T.PanicName refl refl (R.part (R.by _ (inr (inr (inl refl))) _ (tok b T.Not refl refl (tok c T.OpenBracket refl refl (R.part (R.by _ (inl refl) _ (tok d T.CloseBracket refl refl R.nothing)) R.nothing)))) R.nothing)) (refl) d.left)

pub path_read : (span : Span) (path : t.Path) → IsPath path → Reader (s.path span path)
path_read span path fits at more ls laid =
    core_node (s.path span path) refl refl
    (path_called path fits (λ q. s.path nowhere q) at more more ls laid (λ from us l. not_called from more us l) (λ name n o. alone name.name (start (class_named name.name C.Other) n) more ls o))

pub call_read : (span : Span) (path : t.Path) (tys : t.Turbo) (parts : s.Exprs) → IsPath path → IsTurbo tys → PartsReader parts → Reader (s.call span path tys parts)
call_read span path tys parts fits fit g at more ls laid =
    core_node (s.call span path tys parts) refl refl
    (path_called path fits (λ q. s.call nowhere q (bare_turbo tys) (bare_exprs parts)) at _ more ls laid
    (λ from us l. is_called tys parts fit from _ more us l (λ f u k. g f more u k))
    (λ name n o. one_called name.name n tys fit (λ x q. s.call nowhere (t.one x) q (bare_exprs parts)) _ more ls o
    (λ f u k.
    let a = off k in
    let x = g a.at more a.rest a.left in
    read_by _ (inl refl) _ x.rest (tok a T.OpenBracket refl refl (R.part x.reads R.nothing)) (λ whole id q i. s.call nowhere (t.one (bare_ident id)) (bare_turbo q) (x.is i)) x.left)))

pub literal_read : (span : Span) (name : Ident) (tys : t.Turbo) (parts : s.Inits) → IsName name.name → IsTurbo tys → InitsReader parts → Reader (s.literal span name tys parts)
literal_read span name tys parts named fit g at more ls laid =
    core_node (s.literal span name tys parts) refl refl
    (one_called name.name named tys fit (λ x q. s.literal nowhere x q (bare_inits parts)) _ more ls (off laid)
    (λ f u k.
    let a = off k in
    let x = g a.at more a.rest a.left in
    read_by _ (inr (inl refl)) _ x.rest (tok a T.OpenBrace refl refl (R.part x.reads R.nothing)) (λ whole id q i. s.literal nowhere (bare_ident id) (bare_turbo q) (x.is i)) x.left))

pub field_node : (span : Span) (e : s.Expr) (place : Span) (name : List ℕ) → Reader e → IsPlace name → Reader (s.field span e place name)
field_node span e place name r at_place at more ls laid =
    let x = core_by (is_core e) e refl r at _ ls laid in
    let a = off x.left in
    let b = off a.left in
    operand_node (s.field span e place name) refl refl refl (field_read e name x a b at_place)

pub minus_read : (span : Span) (e : s.Expr) → Reader e → Reader (s.minus span e)
minus_read span e r at more ls laid =
    operand_node (s.minus span e) refl refl refl (minus_by (is_positive e) e refl r at more ls laid)

pub negation_read : (span : Span) (e : s.Expr) → Reader e → Reader (s.negation span e)
negation_read span e r at more ls laid =
    let a = off laid in
    let x = (operand_read e r a.at more a.rest a.left).unary in
    operand_node (s.negation span e) refl refl refl (record {
      unary = read_by _ (inr (inl refl)) _ x.rest (tok a T.Not refl refl (R.part x.reads R.nothing)) (ap (s.negation nowhere) x.is) x.left;
      leading = read_by _ (inr (inl refl)) _ x.rest (tok a T.Not refl refl (R.part x.reads R.nothing)) (ap (s.negation nowhere) x.is) x.left;
    })

pub deref_read : (span : Span) (e : s.Expr) → Reader e → Reader (s.deref span e)
deref_read span e r at more ls laid =
    let a = off laid in
    let x = (operand_read e r a.at more a.rest a.left).unary in
    operand_node (s.deref span e) refl refl refl (record {
      unary = read_by _ (inr (inr (inl refl))) _ x.rest (tok a T.Star refl refl (R.part x.reads R.nothing)) (ap (s.deref nowhere) x.is) x.left;
      leading = read_by _ (inr (inr (inl refl))) _ x.rest (tok a T.Star refl refl (R.part x.reads R.nothing)) (ap (s.deref nowhere) x.is) x.left;
    })

pub borrow_mut_read : (span : Span) (e : s.Expr) → Reader e → Reader (s.borrow span true e)
borrow_mut_read span e r at more ls laid =
    let a = off laid in
    let b = off a.left in
    let x = (operand_read e r b.at more b.rest b.left).unary in
    operand_node (s.borrow span true e) refl refl refl (record {
      unary = read_by _ (inr (inr (inr (inl refl)))) _ x.rest (tok a T.And refl refl (R.part (R.by _ (inl refl) _ (tok b T.Mut refl refl (R.part x.reads R.nothing))) R.nothing)) (ap (s.borrow nowhere true) x.is) x.left;
      leading = read_by _ (inr (inr (inr (inl refl)))) _ x.rest (tok a T.And refl refl (R.part (R.by _ (inl refl) _ (tok b T.Mut refl refl (R.part x.reads R.nothing))) R.nothing)) (ap (s.borrow nowhere true) x.is) x.left;
    })

pub borrow_shared_read : (span : Span) (e : s.Expr) → Reader e → Reader (s.borrow span false e)
borrow_shared_read span e r at more ls laid =
    let a = off laid in
    let x = (operand_read e r a.at more a.rest a.left).unary in
    operand_node (s.borrow span false e) refl refl refl (record {
      unary = read_by _ (inr (inr (inr (inl refl)))) _ x.rest (tok a T.And refl refl (R.part (R.by _ (inr (inl refl)) _ (R.part x.reads R.nothing)) R.nothing)) (ap (s.borrow nowhere false) x.is) x.left;
      leading = read_by _ (inr (inr (inr (inl refl)))) _ x.rest (tok a T.And refl refl (R.part (R.by _ (inr (inl refl)) _ (R.part x.reads R.nothing)) R.nothing)) (ap (s.borrow nowhere false) x.is) x.left;
    })

pub cast_read : (span : Span) (e : s.Expr) (ty : IntTy) → Reader e → Reader (s.cast span e ty)
cast_read span e ty r at more ls laid =
    let x = (operand_read e r at _ ls laid).unary in
    let a = off x.left in
    let b = off a.left in
    other_node (s.cast span e ty) refl refl refl refl (up_free (up_or (up_and (up_compare (up_bitor (up_xor (up_bitand (up_shift (up_sum (up_product
    (read_by _ (inl refl) _ b.rest (R.part x.reads (R.part (R.by _ (inr (inl refl)) _ (tok a T.As refl refl (tok b T.IntWord refl refl (R.part (R.by _ (inl refl) _ R.nothing) R.nothing)))) R.nothing)) (λ i. s.cast nowhere (x.is i) (int_type_in (b.content i))) b.left)))))))))))

pub give_read : (span : Span) (value : s.MaybeExpr) → MaybeReader value → Reader (s.give span value)
give_read span value f at more ls laid =
    let a = off laid in
    let x = f a.at more a.rest a.left in
    other_node (s.give span value) refl refl refl refl (read_by _ (inl refl) _ x.rest (tok a T.Return refl refl (R.part x.reads R.nothing)) (ap (s.give nowhere) x.is) x.left)

pub leave_read : (span : Span) (value : s.MaybeExpr) → MaybeReader value → Reader (s.leave span value)
leave_read span value f at more ls laid =
    let a = off laid in
    let x = f a.at more a.rest a.left in
    other_node (s.leave span value) refl refl refl refl (read_by _ (inr (inl refl)) _ x.rest (tok a T.Break refl refl (R.part x.reads R.nothing)) (ap (s.leave nowhere) x.is) x.left)

pub go_on_read : (span : Span) → Reader (s.go_on span)
go_on_read span at more ls laid =
    let a = off laid in
    other_node (s.go_on span) refl refl refl refl (read_by _ (inr (inr (inl refl))) _ a.rest (tok a T.Continue refl refl R.nothing) (refl) a.left)
