-- An operand is read as an expression of each level above it, and two of them with an operator between.
use Rattle.std.proofs.Common.{◌≡◌, refl, sym, ap, ◌∙◌, inl, inr, ℕ, Bool, true, false, List, ◌∷◌}
use Rattle.table_reader.specs.Reading as R
use Rattle.source_grammar.specs.declared.class.Class.{Class}
use Rattle.source_grammar.specs.declared.lexeme.Lexeme.{Lexeme}
use Rattle.source_grammar.specs.declared.terminal.Terminal.TheVariants as T
use Rattle.source_grammar.specs.declared.part.Part.TheVariants as N
use Rattle.source_grammar.specs.declared.part.Context.{Context}
use Rattle.source_grammar.specs.declared.part.Context.TheVariants as At
use Rattle.source_grammar.specs.declared.part.Level.TheVariants as L
use Rattle.source_grammar.specs.Lexemes.{has_class}
use Rattle.aen_base.specs.declared.span.Span.{Span}
use Rattle.rust_ast.specs.Source as s
use Rattle.source_ways.specs.declared.operations.Join.{Join}
use Rattle.source_ways.specs.declared.operations.Join.TheVariants as by
use Rattle.source_ways.specs.Operators.{join_of, joined_by, joined, negated}
use Rattle.rust_printer.specs.Tok.{Tok, class_of}
use Rattle.rust_printer.specs.Bare.{bare_expr, nowhere}
use Rattle.rust_printer.specs.Laid.{Laid}
use Rattle.rust_printer.proofs.ReadCommon.{Read, read_by, off, tok}

abbrev pub Is : s.Expr → s.Expr → Type 0
Is target v = bare_expr v ≡ target

pub up_cast : {m : Context} {h : s.Expr → Type 0} {more : List Tok} {ls : List Lexeme} → Read (N.Unary m) h more ls → Read (N.Cast m) h more ls
up_cast x = read_by _ (inl refl) _ x.rest (R.part x.reads (R.part (R.by _ (inl refl) _ R.nothing) R.nothing)) x.is x.left

pub up_product : {m : Context} {h : s.Expr → Type 0} {more : List Tok} {ls : List Lexeme} → Read (N.Cast m) h more ls → Read (N.Level L.Product m) h more ls
up_product x = read_by _ (inl refl) _ x.rest (R.part x.reads (R.part (R.by _ (inl refl) _ R.nothing) R.nothing)) x.is x.left

pub up_sum : {m : Context} {h : s.Expr → Type 0} {more : List Tok} {ls : List Lexeme} → Read (N.Level L.Product m) h more ls → Read (N.Level L.Sum m) h more ls
up_sum x = read_by _ (inl refl) _ x.rest (R.part x.reads (R.part (R.by _ (inl refl) _ R.nothing) R.nothing)) x.is x.left

pub up_shift : {m : Context} {h : s.Expr → Type 0} {more : List Tok} {ls : List Lexeme} → Read (N.Level L.Sum m) h more ls → Read (N.Level L.Shift m) h more ls
up_shift x = read_by _ (inl refl) _ x.rest (R.part x.reads (R.part (R.by _ (inl refl) _ R.nothing) R.nothing)) x.is x.left

pub up_bitand : {m : Context} {h : s.Expr → Type 0} {more : List Tok} {ls : List Lexeme} → Read (N.Level L.Shift m) h more ls → Read (N.Level L.BitAnd m) h more ls
up_bitand x = read_by _ (inl refl) _ x.rest (R.part x.reads (R.part (R.by _ (inl refl) _ R.nothing) R.nothing)) x.is x.left

pub up_xor : {m : Context} {h : s.Expr → Type 0} {more : List Tok} {ls : List Lexeme} → Read (N.Level L.BitAnd m) h more ls → Read (N.Level L.Xor m) h more ls
up_xor x = read_by _ (inl refl) _ x.rest (R.part x.reads (R.part (R.by _ (inl refl) _ R.nothing) R.nothing)) x.is x.left

pub up_bitor : {m : Context} {h : s.Expr → Type 0} {more : List Tok} {ls : List Lexeme} → Read (N.Level L.Xor m) h more ls → Read (N.Level L.BitOr m) h more ls
up_bitor x = read_by _ (inl refl) _ x.rest (R.part x.reads (R.part (R.by _ (inl refl) _ R.nothing) R.nothing)) x.is x.left

pub up_compare : {m : Context} {h : s.Expr → Type 0} {more : List Tok} {ls : List Lexeme} → Read (N.Level L.BitOr m) h more ls → Read (N.Level L.Compare m) h more ls
up_compare x = read_by _ (inl refl) _ x.rest (R.part x.reads (R.part (R.by _ (inl refl) _ R.nothing) R.nothing)) x.is x.left

pub up_and : {m : Context} {h : s.Expr → Type 0} {more : List Tok} {ls : List Lexeme} → Read (N.Level L.Compare m) h more ls → Read (N.Level L.And m) h more ls
up_and x = read_by _ (inl refl) _ x.rest (R.part x.reads (R.part (R.by _ (inl refl) _ R.nothing) R.nothing)) x.is x.left

pub up_or : {m : Context} {h : s.Expr → Type 0} {more : List Tok} {ls : List Lexeme} → Read (N.Level L.And m) h more ls → Read (N.Level L.Or m) h more ls
up_or x = read_by _ (inl refl) _ x.rest (R.part x.reads (R.part (R.by _ (inl refl) _ R.nothing) R.nothing)) x.is x.left

pub up_free : {h : s.Expr → Type 0} {more : List Tok} {ls : List Lexeme} → Read (N.Level L.Or At.Free) h more ls → Read (N.Expression At.Free) h more ls
up_free x = read_by _ (inr (inr (inr (inl refl)))) _ x.rest (R.part x.reads (R.part (R.by _ (inl refl) _ R.nothing) R.nothing)) x.is x.left

pub up_condition : {h : s.Expr → Type 0} {more : List Tok} {ls : List Lexeme} → Read (N.Level L.Or At.Condition) h more ls → Read (N.Expression At.Condition) h more ls
up_condition x = read_by _ (inr (inr (inr (inl refl)))) _ x.rest (R.part x.reads (R.part (R.by _ (inl refl) _ R.nothing) R.nothing)) x.is x.left

-- from an operand to an expression
pub free_of : {h : s.Expr → Type 0} {more : List Tok} {ls : List Lexeme} → Read (N.Unary At.Free) h more ls → Read (N.Expression At.Free) h more ls
free_of x = up_free (up_or (up_and (up_compare (up_bitor (up_xor (up_bitand (up_shift (up_sum (up_product (up_cast x))))))))))

pub condition_of : {h : s.Expr → Type 0} {more : List Tok} {ls : List Lexeme} → Read (N.Unary At.Condition) h more ls → Read (N.Expression At.Condition) h more ls
condition_of x = up_condition (up_or (up_and (up_compare (up_bitor (up_xor (up_bitand (up_shift (up_sum (up_product (up_cast x))))))))))

-- at the beginning of a statement
pub leading_cast : {h : s.Expr → Type 0} {more : List Tok} {ls : List Lexeme} → Read N.LeadingUnary h more ls → Read N.LeadingCast h more ls
leading_cast x = read_by _ (inl refl) _ x.rest (R.part x.reads (R.part (R.by _ (inl refl) _ R.nothing) R.nothing)) x.is x.left

pub leading_product : {h : s.Expr → Type 0} {more : List Tok} {ls : List Lexeme} → Read (N.LeadingCast) h more ls → Read (N.LeadingLevel L.Product) h more ls
leading_product x = read_by _ (inl refl) _ x.rest (R.part x.reads (R.part (R.by _ (inl refl) _ R.nothing) R.nothing)) x.is x.left

pub leading_sum : {h : s.Expr → Type 0} {more : List Tok} {ls : List Lexeme} → Read (N.LeadingLevel L.Product) h more ls → Read (N.LeadingLevel L.Sum) h more ls
leading_sum x = read_by _ (inl refl) _ x.rest (R.part x.reads (R.part (R.by _ (inl refl) _ R.nothing) R.nothing)) x.is x.left

pub leading_shift : {h : s.Expr → Type 0} {more : List Tok} {ls : List Lexeme} → Read (N.LeadingLevel L.Sum) h more ls → Read (N.LeadingLevel L.Shift) h more ls
leading_shift x = read_by _ (inl refl) _ x.rest (R.part x.reads (R.part (R.by _ (inl refl) _ R.nothing) R.nothing)) x.is x.left

pub leading_bitand : {h : s.Expr → Type 0} {more : List Tok} {ls : List Lexeme} → Read (N.LeadingLevel L.Shift) h more ls → Read (N.LeadingLevel L.BitAnd) h more ls
leading_bitand x = read_by _ (inl refl) _ x.rest (R.part x.reads (R.part (R.by _ (inl refl) _ R.nothing) R.nothing)) x.is x.left

pub leading_xor : {h : s.Expr → Type 0} {more : List Tok} {ls : List Lexeme} → Read (N.LeadingLevel L.BitAnd) h more ls → Read (N.LeadingLevel L.Xor) h more ls
leading_xor x = read_by _ (inl refl) _ x.rest (R.part x.reads (R.part (R.by _ (inl refl) _ R.nothing) R.nothing)) x.is x.left

pub leading_bitor : {h : s.Expr → Type 0} {more : List Tok} {ls : List Lexeme} → Read (N.LeadingLevel L.Xor) h more ls → Read (N.LeadingLevel L.BitOr) h more ls
leading_bitor x = read_by _ (inl refl) _ x.rest (R.part x.reads (R.part (R.by _ (inl refl) _ R.nothing) R.nothing)) x.is x.left

pub leading_compare : {h : s.Expr → Type 0} {more : List Tok} {ls : List Lexeme} → Read (N.LeadingLevel L.BitOr) h more ls → Read (N.LeadingLevel L.Compare) h more ls
leading_compare x = read_by _ (inl refl) _ x.rest (R.part x.reads (R.part (R.by _ (inl refl) _ R.nothing) R.nothing)) x.is x.left

pub leading_and : {h : s.Expr → Type 0} {more : List Tok} {ls : List Lexeme} → Read (N.LeadingLevel L.Compare) h more ls → Read (N.LeadingLevel L.And) h more ls
leading_and x = read_by _ (inl refl) _ x.rest (R.part x.reads (R.part (R.by _ (inl refl) _ R.nothing) R.nothing)) x.is x.left

pub leading_or : {h : s.Expr → Type 0} {more : List Tok} {ls : List Lexeme} → Read (N.LeadingLevel L.And) h more ls → Read (N.LeadingLevel L.Or) h more ls
leading_or x = read_by _ (inl refl) _ x.rest (R.part x.reads (R.part (R.by _ (inl refl) _ R.nothing) R.nothing)) x.is x.left

pub leading_of_unary : {h : s.Expr → Type 0} {more : List Tok} {ls : List Lexeme} → Read N.LeadingUnary h more ls → Read N.LeadingExpression h more ls
leading_of_unary x = leading_top (leading_or (leading_and (leading_compare (leading_bitor (leading_xor (leading_bitand (leading_shift (leading_sum (leading_product (leading_cast x)))))))))) where
  leading_top : {h : s.Expr → Type 0} {more : List Tok} {ls : List Lexeme} → Read (N.LeadingLevel L.Or) h more ls → Read N.LeadingExpression h more ls
  leading_top x = read_by _ (inr (inr (inr (inl refl)))) _ x.rest (R.part x.reads (R.part (R.by _ (inl refl) _ R.nothing) R.nothing)) x.is x.left

-- an operator's node without spans
joined_by_bare : (join : Join) (span : Span) (a b : s.Expr) → bare_expr (joined_by join span a b) ≡ joined_by join nowhere (bare_expr a) (bare_expr b)
joined_by_bare by.Either span a b = refl
joined_by_bare by.Both span a b = refl
joined_by_bare (by.Compare op) span a b = refl
joined_by_bare (by.Binary op) span a b = refl
joined_by_bare (by.Update op) span a b = refl
joined_by_bare by.Assign span a b = refl

pub joined_bare : (c : Class) (span : Span) (a b : s.Expr) → bare_expr (joined c span a b) ≡ joined c nowhere (bare_expr a) (bare_expr b)
joined_bare c span a b = joined_by_bare (join_of c) span a b

pub two_product : {x y : s.Expr} {t : Tok} {ts more : List Tok} {ls : List Lexeme} → Read (N.Unary At.Free) (Is x) (t ∷ ts) ls → has_class T.ProductOp (class_of t) ≡ true →
    ((from : ℕ) (us : List Lexeme) → Laid from ts us → Read (N.Unary At.Free) (Is y) more us) → Read (N.Expression At.Free) (Is (joined (class_of t) nowhere x y)) more ls
two_product {x} {y} {t} a h next =
    let left = up_cast a in
    let o = off left.left in
    let right = up_cast (next o.at o.rest o.left) in
    up_free (up_or (up_and (up_compare (up_bitor (up_xor (up_bitand (up_shift (up_sum (read_by {n = N.Level L.Product At.Free} _ (inl refl) _ right.rest (R.part left.reads (R.part (R.by _ (inr (inl refl)) _ (tok o T.ProductOp h refl (R.part right.reads (R.part (R.by _ (inl refl) _ R.nothing) R.nothing)))) R.nothing)) (joined_bare o.lexeme.class _ left.value.value right.value.value ∙ (λ i. joined (o.class i) nowhere (left.is i) (right.is i))) right.left)))))))))

pub two_sum : {x y : s.Expr} {t : Tok} {ts more : List Tok} {ls : List Lexeme} → Read (N.Unary At.Free) (Is x) (t ∷ ts) ls → has_class T.SumOp (class_of t) ≡ true →
    ((from : ℕ) (us : List Lexeme) → Laid from ts us → Read (N.Unary At.Free) (Is y) more us) → Read (N.Expression At.Free) (Is (joined (class_of t) nowhere x y)) more ls
two_sum {x} {y} {t} a h next =
    let left = up_product (up_cast a) in
    let o = off left.left in
    let right = up_product (up_cast (next o.at o.rest o.left)) in
    up_free (up_or (up_and (up_compare (up_bitor (up_xor (up_bitand (up_shift (read_by {n = N.Level L.Sum At.Free} _ (inl refl) _ right.rest (R.part left.reads (R.part (R.by _ (inr (inl refl)) _ (tok o T.SumOp h refl (R.part right.reads (R.part (R.by _ (inl refl) _ R.nothing) R.nothing)))) R.nothing)) (joined_bare o.lexeme.class _ left.value.value right.value.value ∙ (λ i. joined (o.class i) nowhere (left.is i) (right.is i))) right.left))))))))

pub two_shift : {x y : s.Expr} {t : Tok} {ts more : List Tok} {ls : List Lexeme} → Read (N.Unary At.Free) (Is x) (t ∷ ts) ls → has_class T.ShiftOp (class_of t) ≡ true →
    ((from : ℕ) (us : List Lexeme) → Laid from ts us → Read (N.Unary At.Free) (Is y) more us) → Read (N.Expression At.Free) (Is (joined (class_of t) nowhere x y)) more ls
two_shift {x} {y} {t} a h next =
    let left = up_sum (up_product (up_cast a)) in
    let o = off left.left in
    let right = up_sum (up_product (up_cast (next o.at o.rest o.left))) in
    up_free (up_or (up_and (up_compare (up_bitor (up_xor (up_bitand (read_by {n = N.Level L.Shift At.Free} _ (inl refl) _ right.rest (R.part left.reads (R.part (R.by _ (inr (inl refl)) _ (tok o T.ShiftOp h refl (R.part right.reads (R.part (R.by _ (inl refl) _ R.nothing) R.nothing)))) R.nothing)) (joined_bare o.lexeme.class _ left.value.value right.value.value ∙ (λ i. joined (o.class i) nowhere (left.is i) (right.is i))) right.left)))))))

pub two_bitand : {x y : s.Expr} {t : Tok} {ts more : List Tok} {ls : List Lexeme} → Read (N.Unary At.Free) (Is x) (t ∷ ts) ls → has_class T.And (class_of t) ≡ true →
    ((from : ℕ) (us : List Lexeme) → Laid from ts us → Read (N.Unary At.Free) (Is y) more us) → Read (N.Expression At.Free) (Is (joined (class_of t) nowhere x y)) more ls
two_bitand {x} {y} {t} a h next =
    let left = up_shift (up_sum (up_product (up_cast a))) in
    let o = off left.left in
    let right = up_shift (up_sum (up_product (up_cast (next o.at o.rest o.left)))) in
    up_free (up_or (up_and (up_compare (up_bitor (up_xor (read_by {n = N.Level L.BitAnd At.Free} _ (inl refl) _ right.rest (R.part left.reads (R.part (R.by _ (inr (inl refl)) _ (tok o T.And h refl (R.part right.reads (R.part (R.by _ (inl refl) _ R.nothing) R.nothing)))) R.nothing)) (joined_bare o.lexeme.class _ left.value.value right.value.value ∙ (λ i. joined (o.class i) nowhere (left.is i) (right.is i))) right.left))))))

pub two_xor : {x y : s.Expr} {t : Tok} {ts more : List Tok} {ls : List Lexeme} → Read (N.Unary At.Free) (Is x) (t ∷ ts) ls → has_class T.Caret (class_of t) ≡ true →
    ((from : ℕ) (us : List Lexeme) → Laid from ts us → Read (N.Unary At.Free) (Is y) more us) → Read (N.Expression At.Free) (Is (joined (class_of t) nowhere x y)) more ls
two_xor {x} {y} {t} a h next =
    let left = up_bitand (up_shift (up_sum (up_product (up_cast a)))) in
    let o = off left.left in
    let right = up_bitand (up_shift (up_sum (up_product (up_cast (next o.at o.rest o.left))))) in
    up_free (up_or (up_and (up_compare (up_bitor (read_by {n = N.Level L.Xor At.Free} _ (inl refl) _ right.rest (R.part left.reads (R.part (R.by _ (inr (inl refl)) _ (tok o T.Caret h refl (R.part right.reads (R.part (R.by _ (inl refl) _ R.nothing) R.nothing)))) R.nothing)) (joined_bare o.lexeme.class _ left.value.value right.value.value ∙ (λ i. joined (o.class i) nowhere (left.is i) (right.is i))) right.left)))))

pub two_bitor : {x y : s.Expr} {t : Tok} {ts more : List Tok} {ls : List Lexeme} → Read (N.Unary At.Free) (Is x) (t ∷ ts) ls → has_class T.Bar (class_of t) ≡ true →
    ((from : ℕ) (us : List Lexeme) → Laid from ts us → Read (N.Unary At.Free) (Is y) more us) → Read (N.Expression At.Free) (Is (joined (class_of t) nowhere x y)) more ls
two_bitor {x} {y} {t} a h next =
    let left = up_xor (up_bitand (up_shift (up_sum (up_product (up_cast a))))) in
    let o = off left.left in
    let right = up_xor (up_bitand (up_shift (up_sum (up_product (up_cast (next o.at o.rest o.left)))))) in
    up_free (up_or (up_and (up_compare (read_by {n = N.Level L.BitOr At.Free} _ (inl refl) _ right.rest (R.part left.reads (R.part (R.by _ (inr (inl refl)) _ (tok o T.Bar h refl (R.part right.reads (R.part (R.by _ (inl refl) _ R.nothing) R.nothing)))) R.nothing)) (joined_bare o.lexeme.class _ left.value.value right.value.value ∙ (λ i. joined (o.class i) nowhere (left.is i) (right.is i))) right.left))))

pub two_compare : {x y : s.Expr} {t : Tok} {ts more : List Tok} {ls : List Lexeme} → Read (N.Unary At.Free) (Is x) (t ∷ ts) ls → has_class T.CompareOp (class_of t) ≡ true →
    ((from : ℕ) (us : List Lexeme) → Laid from ts us → Read (N.Unary At.Free) (Is y) more us) → Read (N.Expression At.Free) (Is (joined (class_of t) nowhere x y)) more ls
two_compare {x} {y} {t} a h next =
    let left = up_bitor (up_xor (up_bitand (up_shift (up_sum (up_product (up_cast a)))))) in
    let o = off left.left in
    let right = up_bitor (up_xor (up_bitand (up_shift (up_sum (up_product (up_cast (next o.at o.rest o.left))))))) in
    up_free (up_or (up_and (read_by {n = N.Level L.Compare At.Free} _ (inl refl) _ right.rest (R.part left.reads (R.part (R.by _ (inr (inl refl)) _ (tok o T.CompareOp h refl (R.part right.reads (R.nothing)))) R.nothing)) (joined_bare o.lexeme.class _ left.value.value right.value.value ∙ (λ i. joined (o.class i) nowhere (left.is i) (right.is i))) right.left)))

pub two_and : {x y : s.Expr} {t : Tok} {ts more : List Tok} {ls : List Lexeme} → Read (N.Unary At.Free) (Is x) (t ∷ ts) ls → has_class T.AndAnd (class_of t) ≡ true →
    ((from : ℕ) (us : List Lexeme) → Laid from ts us → Read (N.Unary At.Free) (Is y) more us) → Read (N.Expression At.Free) (Is (joined (class_of t) nowhere x y)) more ls
two_and {x} {y} {t} a h next =
    let left = up_compare (up_bitor (up_xor (up_bitand (up_shift (up_sum (up_product (up_cast a))))))) in
    let o = off left.left in
    let right = up_compare (up_bitor (up_xor (up_bitand (up_shift (up_sum (up_product (up_cast (next o.at o.rest o.left)))))))) in
    up_free (up_or (read_by {n = N.Level L.And At.Free} _ (inl refl) _ right.rest (R.part left.reads (R.part (R.by _ (inr (inl refl)) _ (tok o T.AndAnd h refl (R.part right.reads (R.part (R.by _ (inl refl) _ R.nothing) R.nothing)))) R.nothing)) (joined_bare o.lexeme.class _ left.value.value right.value.value ∙ (λ i. joined (o.class i) nowhere (left.is i) (right.is i))) right.left))

pub two_or : {x y : s.Expr} {t : Tok} {ts more : List Tok} {ls : List Lexeme} → Read (N.Unary At.Free) (Is x) (t ∷ ts) ls → has_class T.BarBar (class_of t) ≡ true →
    ((from : ℕ) (us : List Lexeme) → Laid from ts us → Read (N.Unary At.Free) (Is y) more us) → Read (N.Expression At.Free) (Is (joined (class_of t) nowhere x y)) more ls
two_or {x} {y} {t} a h next =
    let left = up_and (up_compare (up_bitor (up_xor (up_bitand (up_shift (up_sum (up_product (up_cast a)))))))) in
    let o = off left.left in
    let right = up_and (up_compare (up_bitor (up_xor (up_bitand (up_shift (up_sum (up_product (up_cast (next o.at o.rest o.left))))))))) in
    up_free (read_by {n = N.Level L.Or At.Free} _ (inl refl) _ right.rest (R.part left.reads (R.part (R.by _ (inr (inl refl)) _ (tok o T.BarBar h refl (R.part right.reads (R.part (R.by _ (inl refl) _ R.nothing) R.nothing)))) R.nothing)) (joined_bare o.lexeme.class _ left.value.value right.value.value ∙ (λ i. joined (o.class i) nowhere (left.is i) (right.is i))) right.left)

pub two_assign : {x y : s.Expr} {t : Tok} {ts more : List Tok} {ls : List Lexeme} → Read (N.Unary At.Free) (Is x) (t ∷ ts) ls → has_class T.AssignOp (class_of t) ≡ true →
    ((from : ℕ) (us : List Lexeme) → Laid from ts us → Read (N.Unary At.Free) (Is y) more us) → Read (N.Expression At.Free) (Is (joined (class_of t) nowhere x y)) more ls
two_assign {x} {y} {t} a h next =
    let left = up_or (up_and (up_compare (up_bitor (up_xor (up_bitand (up_shift (up_sum (up_product (up_cast a))))))))) in
    let o = off left.left in
    let right = up_or (up_and (up_compare (up_bitor (up_xor (up_bitand (up_shift (up_sum (up_product (up_cast (next o.at o.rest o.left)))))))))) in
    read_by _ (inr (inr (inr (inl refl)))) _ right.rest (R.part left.reads (R.part (R.by _ (inr (inl refl)) _ (tok o T.AssignOp h refl (R.part right.reads R.nothing))) R.nothing))
    (joined_bare o.lexeme.class _ left.value.value right.value.value ∙ (λ i. joined (o.class i) nowhere (left.is i) (right.is i))) right.left

-- an integer without a sign
abbrev pub is_positive : s.Expr → Bool
is_positive (s.number a0 true a2 a3) = false
is_positive (s.number a0 false a2 a3) = true
is_positive (s.truth a0 a1) = false
is_positive (s.tuple a0 a1) = false
is_positive (s.inner a0) = false
is_positive (s.branch a0 a1 a2 a3) = false
is_positive (s.select a0 a1 a2) = false
is_positive (s.let_branch a0 a1 a2 a3 a4) = false
is_positive (s.forever a0 a1 a2) = false
is_positive (s.panic a0) = false
is_positive (s.path a0 a1) = false
is_positive (s.call a0 a1 a2 a3) = false
is_positive (s.literal a0 a1 a2 a3) = false
is_positive (s.field a0 a1 a2 a3) = false
is_positive (s.minus a0 a1) = false
is_positive (s.negation a0 a1) = false
is_positive (s.deref a0 a1) = false
is_positive (s.borrow a0 a1 a2) = false
is_positive (s.binary a0 a1 a2 a3) = false
is_positive (s.compare a0 a1 a2 a3) = false
is_positive (s.both a0 a1 a2) = false
is_positive (s.either a0 a1 a2) = false
is_positive (s.cast a0 a1 a2) = false
is_positive (s.assign a0 a1 a2) = false
is_positive (s.update a0 a1 a2 a3) = false
is_positive (s.give a0 a1) = false
is_positive (s.leave a0 a1) = false
is_positive (s.go_on a0) = false

positive_bare : (e : s.Expr) → is_positive (bare_expr e) ≡ is_positive e
positive_bare (s.number a0 true a2 a3) = refl
positive_bare (s.number a0 false a2 a3) = refl
positive_bare (s.truth a0 a1) = refl
positive_bare (s.tuple a0 a1) = refl
positive_bare (s.inner a0) = refl
positive_bare (s.branch a0 a1 a2 a3) = refl
positive_bare (s.select a0 a1 a2) = refl
positive_bare (s.let_branch a0 a1 a2 a3 a4) = refl
positive_bare (s.forever a0 a1 a2) = refl
positive_bare (s.panic a0) = refl
positive_bare (s.path a0 a1) = refl
positive_bare (s.call a0 a1 a2 a3) = refl
positive_bare (s.literal a0 a1 a2 a3) = refl
positive_bare (s.field a0 a1 a2 a3) = refl
positive_bare (s.minus a0 a1) = refl
positive_bare (s.negation a0 a1) = refl
positive_bare (s.deref a0 a1) = refl
positive_bare (s.borrow a0 a1 a2) = refl
positive_bare (s.binary a0 a1 a2 a3) = refl
positive_bare (s.compare a0 a1 a2 a3) = refl
positive_bare (s.both a0 a1 a2) = refl
positive_bare (s.either a0 a1 a2) = refl
positive_bare (s.cast a0 a1 a2) = refl
positive_bare (s.assign a0 a1 a2) = refl
positive_bare (s.update a0 a1 a2 a3) = refl
positive_bare (s.give a0 a1) = refl
positive_bare (s.leave a0 a1) = refl
positive_bare (s.go_on a0) = refl

negated_other : (whole operand : Span) (e : s.Expr) → is_positive e ≡ false → bare_expr (negated whole operand e) ≡ s.minus nowhere (bare_expr e)
negated_other whole operand (s.number a0 true a2 a3) h = refl
negated_other whole operand (s.number a0 false a2 a3) h = cc
negated_other whole operand (s.truth a0 a1) h = refl
negated_other whole operand (s.tuple a0 a1) h = refl
negated_other whole operand (s.inner a0) h = refl
negated_other whole operand (s.branch a0 a1 a2 a3) h = refl
negated_other whole operand (s.select a0 a1 a2) h = refl
negated_other whole operand (s.let_branch a0 a1 a2 a3 a4) h = refl
negated_other whole operand (s.forever a0 a1 a2) h = refl
negated_other whole operand (s.panic a0) h = refl
negated_other whole operand (s.path a0 a1) h = refl
negated_other whole operand (s.call a0 a1 a2 a3) h = refl
negated_other whole operand (s.literal a0 a1 a2 a3) h = refl
negated_other whole operand (s.field a0 a1 a2 a3) h = refl
negated_other whole operand (s.minus a0 a1) h = refl
negated_other whole operand (s.negation a0 a1) h = refl
negated_other whole operand (s.deref a0 a1) h = refl
negated_other whole operand (s.borrow a0 a1 a2) h = refl
negated_other whole operand (s.binary a0 a1 a2 a3) h = refl
negated_other whole operand (s.compare a0 a1 a2 a3) h = refl
negated_other whole operand (s.both a0 a1 a2) h = refl
negated_other whole operand (s.either a0 a1 a2) h = refl
negated_other whole operand (s.cast a0 a1 a2) h = refl
negated_other whole operand (s.assign a0 a1 a2) h = refl
negated_other whole operand (s.update a0 a1 a2 a3) h = refl
negated_other whole operand (s.give a0 a1) h = refl
negated_other whole operand (s.leave a0 a1) h = refl
negated_other whole operand (s.go_on a0) h = refl

-- the negation of what isn't an integer
pub negated_is : (whole operand : Span) (v e : s.Expr) → bare_expr v ≡ bare_expr e → is_positive e ≡ false → bare_expr (negated whole operand v) ≡ s.minus nowhere (bare_expr e)
negated_is whole operand v e same h =
    negated_other whole operand v (sym (positive_bare v) ∙ ap is_positive same ∙ positive_bare e ∙ h) ∙ ap (s.minus nowhere) same
