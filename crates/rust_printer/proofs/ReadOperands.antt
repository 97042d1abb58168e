-- Operands are read of their tokens, and what stands in brackets.
use Rattle.std.proofs.Common.{◌≡◌, ◌⊎◌, refl, ap, ◌∙◌, inl, inr, ℕ, Bool, true, false, List, ◌∷◌, if◌then◌else◌, ◌&&◌, ◌==◌, arith}
use Rattle.std.proofs.lemmas.Bool.{eq-eqb, ne_eqb}
use Rattle.table_reader.specs.Reading as R
use Rattle.aen_base.specs.declared.span.Span.{Span}
use Rattle.source_grammar.specs.declared.class.Class.TheVariants as C
use Rattle.source_grammar.specs.declared.lexeme.Content.{Content}
use Rattle.source_grammar.specs.declared.lexeme.Content.TheVariants as says
use Rattle.source_grammar.specs.declared.lexeme.Lexeme.{Lexeme}
use Rattle.source_grammar.specs.declared.terminal.Terminal.TheVariants as T
use Rattle.source_grammar.specs.declared.part.Part.TheVariants as N
use Rattle.source_grammar.specs.declared.part.Context.{Context}
use Rattle.source_grammar.specs.declared.part.Context.TheVariants as At
use Rattle.source_grammar.specs.Lexemes.{has_class}
use Rattle.source_grammar.specs.Spelled.{class_named}
use Rattle.rust_ast.specs.Source as s
use Rattle.rust_ast.specs.Patterns as suffixes
use Rattle.source_ways.specs.Says.{name_in, number_in}
use Rattle.source_ways.specs.Spans.{same_span}
use Rattle.source_ways.specs.Operators.{negated}
use Rattle.source_ways.specs.Expressions.{number_of}
use Rattle.rust_printer.specs.Tok.{Tok, mark, placed}
use Rattle.rust_printer.specs.ExpressionTokens.{in_brackets_unless, expr_tokens}
use Rattle.rust_printer.specs.Forms.{is_operand, is_core, is_leading}
use Rattle.rust_printer.specs.Bare.{bare_expr, nowhere}
use Rattle.rust_printer.specs.Laid.{Laid}
use Rattle.rust_printer.proofs.Printable.{IsPlace, is_block_like, is_else}
use Rattle.rust_printer.proofs.ReadCommon.{Read, read_by, Off, off, offs, tok}
use Rattle.rust_printer.proofs.ReadLevels.{Is, free_of, condition_of, leading_of_unary, is_positive, negated_is}
use Rattle.rust_printer.proofs.Classes.{no_true}

-- as an operand, also at the beginning of a statement
pub record Operand (e : s.Expr) (more : List Tok) (ls : List Lexeme) : Type 0 where
  pub unary : Read (N.Unary At.Free) (Is e) more ls
  pub leading : Read N.LeadingUnary (Is e) more ls

-- an expression without brackets, and as what it may stand
pub record ExprRead (e : s.Expr) (more : List Tok) (ls : List Lexeme) : Type 0 where
  pub expression : Read (N.Expression At.Free) (Is (bare_expr e)) more ls
  pub operand : is_operand e ≡ true → Operand (bare_expr e) more ls
  pub core : is_core e ≡ true → Read (N.Core At.Free) (Is (bare_expr e)) more ls
  pub block_like : is_block_like e ≡ true → Read N.BlockLike (Is (bare_expr e)) more ls
  pub otherwise : is_else e ≡ true → Read N.AfterElse (Is (bare_expr e)) more ls

abbrev pub Reader : s.Expr → Type 0
Reader e = (at : ℕ) (more : List Tok) (ls : List Lexeme) → Laid at (expr_tokens e more) ls → ExprRead e more ls

pub unary_of_core : {m : Context} {e : s.Expr} {more : List Tok} {ls : List Lexeme} → Read (N.Core m) (Is e) more ls → Read (N.Unary m) (Is e) more ls
unary_of_core x = read_by _ (inr (inr (inr (inr (inl refl))))) _ x.rest (R.part x.reads (R.part (R.by _ (inl refl) _ R.nothing) R.nothing)) x.is x.left

pub operand_of_core : {e : s.Expr} {more : List Tok} {ls : List Lexeme} → Read (N.Core At.Free) (Is e) more ls → Operand e more ls
operand_of_core x = record {
  unary = unary_of_core x;
  leading = read_by _ (inr (inr (inr (inr (inl refl))))) _ x.rest (R.part x.reads (R.part (R.by _ (inl refl) _ R.nothing) R.nothing)) x.is x.left;
}

pub core_node : (e : s.Expr) {more : List Tok} {ls : List Lexeme} → is_block_like e ≡ false → is_else e ≡ false → Read (N.Core At.Free) (Is (bare_expr e)) more ls → ExprRead e more ls
core_node e nb ne x = record {
  expression = free_of (unary_of_core x);
  operand = λ h. operand_of_core x;
  core = λ h. x;
  block_like = λ h. no_true (is_block_like e) nb h;
  otherwise = λ h. no_true (is_else e) ne h;
}

pub operand_node : (e : s.Expr) {more : List Tok} {ls : List Lexeme} → is_core e ≡ false → is_block_like e ≡ false → is_else e ≡ false → Operand (bare_expr e) more ls → ExprRead e more ls
operand_node e nc nb ne x = record {
  expression = free_of x.unary;
  operand = λ h. x;
  core = λ h. no_true (is_core e) nc h;
  block_like = λ h. no_true (is_block_like e) nb h;
  otherwise = λ h. no_true (is_else e) ne h;
}

pub block_node : (e : s.Expr) {more : List Tok} {ls : List Lexeme} → is_operand e ≡ false → is_core e ≡ false → Read N.BlockLike (Is (bare_expr e)) more ls →
    (is_else e ≡ true → Read N.AfterElse (Is (bare_expr e)) more ls) → ExprRead e more ls
block_node e no_operand nc x other = record {
  expression = free_of (read_by _ (inr (inr (inr (inr (inr (inl refl)))))) _ x.rest (R.part x.reads (R.part (R.by _ (inl refl) _ R.nothing) R.nothing)) x.is x.left);
  operand = λ h. no_true (is_operand e) no_operand h;
  core = λ h. no_true (is_core e) nc h;
  block_like = λ h. x;
  otherwise = other;
}

pub other_node : (e : s.Expr) {more : List Tok} {ls : List Lexeme} → is_operand e ≡ false → is_core e ≡ false → is_block_like e ≡ false → is_else e ≡ false →
    Read (N.Expression At.Free) (Is (bare_expr e)) more ls → ExprRead e more ls
other_node e no_operand nc nb ne x = record {
  expression = x;
  operand = λ h. no_true (is_operand e) no_operand h;
  core = λ h. no_true (is_core e) nc h;
  block_like = λ h. no_true (is_block_like e) nb h;
  otherwise = λ h. no_true (is_else e) ne h;
}

-- ---- in brackets

pub brackets_core : {m : Context} (e : s.Expr) {more : List Tok} {ls : List Lexeme} (o : Off (mark C.OpenBracket) (expr_tokens e (mark C.CloseBracket ∷ more)) ls) →
    Read (N.Expression At.Free) (Is (bare_expr e)) (mark C.CloseBracket ∷ more) o.rest → Read (N.Core m) (Is (bare_expr e)) more ls
brackets_core e o x =
    let c = off x.left in
    read_by _ (inr (inr (inl refl))) _ c.rest (tok o T.OpenBracket refl refl (R.part (R.by _ (inr (inl refl)) _ (R.part x.reads (R.part (R.by _ (inl refl) _ (tok c T.CloseBracket refl refl R.nothing)) R.nothing))) R.nothing)) x.is c.left

-- what is asked
pub condition_read : (e : s.Expr) → Reader e → (at : ℕ) (more : List Tok) (ls : List Lexeme) → Laid at (mark C.OpenBracket ∷ expr_tokens e (mark C.CloseBracket ∷ more)) ls →
    Read (N.Expression At.Condition) (Is (bare_expr e)) more ls
condition_read e r at more ls laid =
    let o = off laid in condition_of (unary_of_core (brackets_core e o (r o.at _ o.rest o.left).expression))

operand_by : (b : Bool) (e : s.Expr) → is_operand e ≡ b → Reader e → (at : ℕ) (more : List Tok) (ls : List Lexeme) → Laid at (in_brackets_unless b (expr_tokens e) more) ls → Operand (bare_expr e) more ls
operand_by true e h r at more ls laid = (r at more ls laid).operand h
operand_by false e h r at more ls laid = let o = off laid in operand_of_core (brackets_core e o (r o.at _ o.rest o.left).expression)

pub operand_read : (e : s.Expr) → Reader e → (at : ℕ) (more : List Tok) (ls : List Lexeme) → Laid at (in_brackets_unless (is_operand e) (expr_tokens e) more) ls → Operand (bare_expr e) more ls
operand_read e r at more ls laid = operand_by (is_operand e) e refl r at more ls laid

pub core_by : (b : Bool) (e : s.Expr) → is_core e ≡ b → Reader e → (at : ℕ) (more : List Tok) (ls : List Lexeme) → Laid at (in_brackets_unless b (expr_tokens e) more) ls → Read (N.Core At.Free) (Is (bare_expr e)) more ls
core_by true e h r at more ls laid = (r at more ls laid).core h
core_by false e h r at more ls laid = let o = off laid in brackets_core e o (r o.at _ o.rest o.left).expression

-- at the beginning of a statement
pub data Leads (e : s.Expr) (more : List Tok) (ls : List Lexeme) : Type 0 where
  leads : Read N.LeadingExpression (Is e) more ls → Leads e more ls
  ends : Read N.BlockLike (Is e) more ls → Leads e more ls

leading_form : (e : s.Expr) → is_leading e ≡ true → (is_operand e ≡ true) ⊎ (is_block_like e ≡ true)
leading_form (s.number a0 a1 a2 a3) h = inl refl
leading_form (s.truth a0 a1) h = inl refl
leading_form (s.tuple a0 a1) h = inl refl
leading_form (s.inner a0) h = inr refl
leading_form (s.branch a0 a1 a2 a3) h = inr refl
leading_form (s.select a0 a1 a2) h = inr refl
leading_form (s.let_branch a0 a1 a2 a3 a4) h = inr refl
leading_form (s.forever a0 a1 a2) h = inr refl
leading_form (s.panic a0) h = inl refl
leading_form (s.path a0 a1) h = inl refl
leading_form (s.call a0 a1 a2 a3) h = inl refl
leading_form (s.literal a0 a1 a2 a3) h = inl refl
leading_form (s.field a0 a1 a2 a3) h = inl refl
leading_form (s.minus a0 a1) h = inl refl
leading_form (s.negation a0 a1) h = inl refl
leading_form (s.deref a0 a1) h = inl refl
leading_form (s.borrow a0 a1 a2) h = inl refl
leading_form (s.binary a0 a1 a2 a3) h = no_true false refl h
leading_form (s.compare a0 a1 a2 a3) h = no_true false refl h
leading_form (s.both a0 a1 a2) h = no_true false refl h
leading_form (s.either a0 a1 a2) h = no_true false refl h
leading_form (s.cast a0 a1 a2) h = no_true false refl h
leading_form (s.assign a0 a1 a2) h = no_true false refl h
leading_form (s.update a0 a1 a2 a3) h = no_true false refl h
leading_form (s.give a0 a1) h = no_true false refl h
leading_form (s.leave a0 a1) h = no_true false refl h
leading_form (s.go_on a0) h = no_true false refl h

leads_as : (e : s.Expr) (more : List Tok) (ls : List Lexeme) → ExprRead e more ls → (is_operand e ≡ true) ⊎ (is_block_like e ≡ true) → Leads (bare_expr e) more ls
leads_as e more ls x (inl h) = leads (leading_of_unary (x.operand h).leading)
leads_as e more ls x (inr h) = ends (x.block_like h)

pub leading_by : (b : Bool) (e : s.Expr) → is_leading e ≡ b → Reader e → (at : ℕ) (more : List Tok) (ls : List Lexeme) → Laid at (in_brackets_unless b (expr_tokens e) more) ls → Leads (bare_expr e) more ls
leading_by true e h r at more ls laid = leads_as e more ls (r at more ls laid) (leading_form e h)
leading_by false e h r at more ls laid = let o = off laid in leads (leading_of_unary (operand_of_core (brackets_core e o (r o.at _ o.rest o.left).expression)).leading)

-- ---- numbers, fields

both_true : (a b : Bool) → a ≡ true → b ≡ true → (a && b) ≡ true
both_true true b p q = q
both_true false b p q = p

false_first : (a b : Bool) → a ≡ false → (a && b) ≡ false
false_first true b p = cc
false_first false b p = refl

same_self : (span : Span) → same_span span span ≡ true
same_self span = both_true (span.lo == span.lo) (span.hi == span.hi) (eq-eqb span.lo span.lo refl) (eq-eqb span.hi span.hi refl)

pub number_is : (negative : Bool) (size : ℕ) (suffix : suffixes.Suffix) (content : Content) → content ≡ says.Number size (suffixes.suffix_option suffix) →
    s.number nowhere negative (number_in content).0 (suffixes.suffix (number_in content).1) ≡ s.number nowhere negative size suffix
number_is negative size suffixes.no_suffix content e = ap (λ c. s.number nowhere negative (number_in c).0 (suffixes.suffix (number_in c).1)) e
number_is negative size (suffixes.some_suffix ty) content e = ap (λ c. s.number nowhere negative (number_in c).0 (suffixes.suffix (number_in c).1)) e

pub negative_is : (whole span : Span) (size : ℕ) (suffix : suffixes.Suffix) (content : Content) → content ≡ says.Number size (suffixes.suffix_option suffix) →
    bare_expr (negated whole span (number_of span (number_in content))) ≡ s.number nowhere true size suffix
negative_is whole span size suffix content e =
    ap (λ b. bare_expr (if b then s.number whole true (number_in content).0 (suffixes.suffix (number_in content).1) else s.minus whole (number_of span (number_in content)))) (same_self span)
    ∙ number_is true size suffix content e

-- an integer that stands elsewhere than the operand begins
positive_is : (whole operand span : Span) (size : ℕ) (suffix : suffixes.Suffix) (content : Content) → content ≡ says.Number size (suffixes.suffix_option suffix) → (span.lo == operand.lo) ≡ false →
    bare_expr (negated whole operand (number_of span (number_in content))) ≡ s.minus nowhere (s.number nowhere false size suffix)
positive_is whole operand span size suffix content e h =
    ap (λ b. bare_expr (if b then s.number whole true (number_in content).0 (suffixes.suffix (number_in content).1) else s.minus whole (number_of span (number_in content))))
    (false_first (span.lo == operand.lo) (span.hi == operand.hi) h)
    ∙ ap (s.minus nowhere) (number_is false size suffix content e)

digits_or_name : (name : List ℕ) → IsPlace name → {ts : List Tok} {ls : List Lexeme} (b : Off (placed name) ts ls) → Read N.FieldName (λ v. v.name ≡ name) ts ls
digits_or_name name (inl h) b = read_by _ (inr (inl refl)) _ b.rest (tok b T.Digits (ap (λ x. has_class T.Digits (if x then C.Digits else class_named name C.Other)) h) refl R.nothing) (ap name_in b.content) b.left
digits_or_name name (inr h) b = read_by _ (inl refl) _ b.rest (tok b T.Identifier (ap (λ x. has_class T.Identifier (if x then C.Digits else class_named name C.Other)) h.0 ∙ h.1) refl R.nothing) (ap name_in b.content) b.left

pub field_read : (e : s.Expr) (name : List ℕ) {us ts more : List Tok} {ls : List Lexeme} (x : Read (N.Core At.Free) (Is (bare_expr e)) us ls) (a : Off (mark C.Dot) ts x.rest) (b : Off (placed name) more a.rest) →
    IsPlace name → Operand (s.field nowhere (bare_expr e) nowhere name) more ls
field_read e name x a b ok =
    let f = digits_or_name name ok b in
    record {
      unary = read_by _ (inr (inr (inr (inr (inl refl))))) _ f.rest (R.part x.reads (R.part (R.by _ (inr (inl refl)) _ (tok a T.Dot refl refl (R.part f.reads (R.part (R.by _ (inl refl) _ R.nothing) R.nothing)))) R.nothing)) (λ i. s.field nowhere (x.is i) nowhere (f.is i)) f.left;
      leading = read_by _ (inr (inr (inr (inr (inl refl))))) _ f.rest (R.part x.reads (R.part (R.by _ (inr (inl refl)) _ (tok a T.Dot refl refl (R.part f.reads (R.part (R.by _ (inl refl) _ R.nothing) R.nothing)))) R.nothing)) (λ i. s.field nowhere (x.is i) nowhere (f.is i)) f.left;
    }

-- the negation of an integer in brackets, which begins after the bracket; and of another expression
pub minus_by : (b : Bool) (e : s.Expr) → is_positive e ≡ b → Reader e → (at : ℕ) (more : List Tok) (ls : List Lexeme) → Laid at (mark C.Minus ∷ mark C.OpenBracket ∷ expr_tokens e (mark C.CloseBracket ∷ more)) ls → Operand (s.minus nowhere (bare_expr e)) more ls
minus_by true (s.number w false size suffix) h r at more ls laid =
    let a = off laid in
    let q = offs a.left in
    let o = q.first in
    let n = q.second in
    let c = off n.left in
    record {
      unary = read_by _ (inl refl) _ c.rest (tok a T.Minus refl refl (R.part (R.by _ (inr (inr (inr (inr (inl refl))))) _ (R.part (R.by _ (inr (inr (inl refl))) _ (tok o T.OpenBracket refl refl (R.part (R.by _ (inr (inl refl)) _ (R.part (R.by _ (inr (inr (inr (inl refl)))) _ (R.part (R.by _ (inl refl) _ (R.part (R.by _ (inl refl) _ (R.part (R.by _ (inl refl) _ (R.part (R.by _ (inl refl) _ (R.part (R.by _ (inl refl) _ (R.part (R.by _ (inl refl) _ (R.part (R.by _ (inl refl) _ (R.part (R.by _ (inl refl) _ (R.part (R.by _ (inl refl) _ (R.part (R.by _ (inl refl) _ (R.part (R.by _ (inr (inr (inr (inr (inl refl))))) _ (R.part (R.by _ (inl refl) _ (tok n T.Integer refl refl R.nothing)) (R.part (R.by _ (inl refl) _ R.nothing) R.nothing))) (R.part (R.by _ (inl refl) _ R.nothing) R.nothing))) (R.part (R.by _ (inl refl) _ R.nothing) R.nothing))) (R.part (R.by _ (inl refl) _ R.nothing) R.nothing))) (R.part (R.by _ (inl refl) _ R.nothing) R.nothing))) (R.part (R.by _ (inl refl) _ R.nothing) R.nothing))) (R.part (R.by _ (inl refl) _ R.nothing) R.nothing))) (R.part (R.by _ (inl refl) _ R.nothing) R.nothing))) (R.part (R.by _ (inl refl) _ R.nothing) R.nothing))) (R.part (R.by _ (inl refl) _ R.nothing) R.nothing))) (R.part (R.by _ (inl refl) _ R.nothing) R.nothing))) (R.part (R.by _ (inl refl) _ R.nothing) R.nothing))) (R.part (R.by _ (inl refl) _ (tok c T.CloseBracket refl refl R.nothing)) R.nothing))) R.nothing))) (R.part (R.by _ (inl refl) _ R.nothing) R.nothing))) R.nothing)) (positive_is _ _ n.lexeme.span size suffix n.lexeme.content n.content (ne_eqb n.lexeme.span.lo o.lexeme.span.lo (λ e. omega (arith, e, q.less)))) c.left;
      leading = read_by _ (inl refl) _ c.rest (tok a T.Minus refl refl (R.part (R.by _ (inr (inr (inr (inr (inl refl))))) _ (R.part (R.by _ (inr (inr (inl refl))) _ (tok o T.OpenBracket refl refl (R.part (R.by _ (inr (inl refl)) _ (R.part (R.by _ (inr (inr (inr (inl refl)))) _ (R.part (R.by _ (inl refl) _ (R.part (R.by _ (inl refl) _ (R.part (R.by _ (inl refl) _ (R.part (R.by _ (inl refl) _ (R.part (R.by _ (inl refl) _ (R.part (R.by _ (inl refl) _ (R.part (R.by _ (inl refl) _ (R.part (R.by _ (inl refl) _ (R.part (R.by _ (inl refl) _ (R.part (R.by _ (inl refl) _ (R.part (R.by _ (inr (inr (inr (inr (inl refl))))) _ (R.part (R.by _ (inl refl) _ (tok n T.Integer refl refl R.nothing)) (R.part (R.by _ (inl refl) _ R.nothing) R.nothing))) (R.part (R.by _ (inl refl) _ R.nothing) R.nothing))) (R.part (R.by _ (inl refl) _ R.nothing) R.nothing))) (R.part (R.by _ (inl refl) _ R.nothing) R.nothing))) (R.part (R.by _ (inl refl) _ R.nothing) R.nothing))) (R.part (R.by _ (inl refl) _ R.nothing) R.nothing))) (R.part (R.by _ (inl refl) _ R.nothing) R.nothing))) (R.part (R.by _ (inl refl) _ R.nothing) R.nothing))) (R.part (R.by _ (inl refl) _ R.nothing) R.nothing))) (R.part (R.by _ (inl refl) _ R.nothing) R.nothing))) (R.part (R.by _ (inl refl) _ R.nothing) R.nothing))) (R.part (R.by _ (inl refl) _ R.nothing) R.nothing))) (R.part (R.by _ (inl refl) _ (tok c T.CloseBracket refl refl R.nothing)) R.nothing))) R.nothing))) (R.part (R.by _ (inl refl) _ R.nothing) R.nothing))) R.nothing)) (positive_is _ _ n.lexeme.span size suffix n.lexeme.content n.content (ne_eqb n.lexeme.span.lo o.lexeme.span.lo (λ e. omega (arith, e, q.less)))) c.left;
    }
minus_by true (s.number w true size end) h r at more ls laid = no_true false refl h
minus_by true (s.truth a0 a1) h r at more ls laid = no_true false refl h
minus_by true (s.tuple a0 a1) h r at more ls laid = no_true false refl h
minus_by true (s.inner a0) h r at more ls laid = no_true false refl h
minus_by true (s.branch a0 a1 a2 a3) h r at more ls laid = no_true false refl h
minus_by true (s.select a0 a1 a2) h r at more ls laid = no_true false refl h
minus_by true (s.let_branch a0 a1 a2 a3 a4) h r at more ls laid = no_true false refl h
minus_by true (s.forever a0 a1 a2) h r at more ls laid = no_true false refl h
minus_by true (s.panic a0) h r at more ls laid = no_true false refl h
minus_by true (s.path a0 a1) h r at more ls laid = no_true false refl h
minus_by true (s.call a0 a1 a2 a3) h r at more ls laid = no_true false refl h
minus_by true (s.literal a0 a1 a2 a3) h r at more ls laid = no_true false refl h
minus_by true (s.field a0 a1 a2 a3) h r at more ls laid = no_true false refl h
minus_by true (s.minus a0 a1) h r at more ls laid = no_true false refl h
minus_by true (s.negation a0 a1) h r at more ls laid = no_true false refl h
minus_by true (s.deref a0 a1) h r at more ls laid = no_true false refl h
minus_by true (s.borrow a0 a1 a2) h r at more ls laid = no_true false refl h
minus_by true (s.binary a0 a1 a2 a3) h r at more ls laid = no_true false refl h
minus_by true (s.compare a0 a1 a2 a3) h r at more ls laid = no_true false refl h
minus_by true (s.both a0 a1 a2) h r at more ls laid = no_true false refl h
minus_by true (s.either a0 a1 a2) h r at more ls laid = no_true false refl h
minus_by true (s.cast a0 a1 a2) h r at more ls laid = no_true false refl h
minus_by true (s.assign a0 a1 a2) h r at more ls laid = no_true false refl h
minus_by true (s.update a0 a1 a2 a3) h r at more ls laid = no_true false refl h
minus_by true (s.give a0 a1) h r at more ls laid = no_true false refl h
minus_by true (s.leave a0 a1) h r at more ls laid = no_true false refl h
minus_by true (s.go_on a0) h r at more ls laid = no_true false refl h
minus_by false e h r at more ls laid =
    let a = off laid in
    let o = off a.left in
    let x = (r o.at _ o.rest o.left).expression in
    let c = off x.left in
    record {
      unary = read_by _ (inl refl) _ c.rest (tok a T.Minus refl refl (R.part (R.by _ (inr (inr (inr (inr (inl refl))))) _ (R.part (R.by _ (inr (inr (inl refl))) _ (tok o T.OpenBracket refl refl (R.part (R.by _ (inr (inl refl)) _ (R.part x.reads (R.part (R.by _ (inl refl) _ (tok c T.CloseBracket refl refl R.nothing)) R.nothing))) R.nothing))) (R.part (R.by _ (inl refl) _ R.nothing) R.nothing))) R.nothing)) (negated_is _ _ x.value.value e x.is h) c.left;
      leading = read_by _ (inl refl) _ c.rest (tok a T.Minus refl refl (R.part (R.by _ (inr (inr (inr (inr (inl refl))))) _ (R.part (R.by _ (inr (inr (inl refl))) _ (tok o T.OpenBracket refl refl (R.part (R.by _ (inr (inl refl)) _ (R.part x.reads (R.part (R.by _ (inl refl) _ (tok c T.CloseBracket refl refl R.nothing)) R.nothing))) R.nothing))) (R.part (R.by _ (inl refl) _ R.nothing) R.nothing))) R.nothing)) (negated_is _ _ x.value.value e x.is h) c.left;
    }
