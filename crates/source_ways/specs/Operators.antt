-- How operators are read: those of one level group to the left, and a node begins where its first operand does,
-- brackets among it, and ends where its last one does.
use Rattle.std.specs.Prelude.{ℕ, Bool, true, false, List, [], ◌∷◌, if◌then◌else◌}
use Rattle.aen_base.specs.declared.span.Span.{Span}
use Rattle.aen_base.specs.declared.int_ty.IntTy.{IntTy}
use Rattle.aen_base.specs.declared.operators.BinOp.TheVariants as bin
use Rattle.aen_base.specs.declared.operators.CmpOp.TheVariants as cmp
use Rattle.source_grammar.specs.declared.class.Class.{Class}
use Rattle.source_grammar.specs.declared.class.Class.TheVariants as C
use Rattle.source_grammar.specs.declared.lexeme.Lexeme.{Lexeme}
use Rattle.source_grammar.specs.declared.part.Context.{Context}
use Rattle.source_grammar.specs.declared.part.Level.{Level}
use Rattle.source_grammar.specs.declared.part.Level.TheVariants as L
use Rattle.source_grammar.specs.Productions.{operand, leading}
use Rattle.rust_ast.specs.declared.ident.Ident.{Ident}
use Rattle.rust_ast.specs.Source as s
use Rattle.source_ways.specs.declared.operations.Operation.{Operation}
use Rattle.source_ways.specs.declared.operations.Join.{Join}
use Rattle.source_ways.specs.declared.operations.Join.TheVariants as by
use Rattle.source_ways.specs.declared.operations.Borrowed.{Borrowed}
use Rattle.source_ways.specs.declared.spanned.Spanned.{Spanned}
use Rattle.source_ways.specs.Spans.{from_to, span_of, same_span}
use Rattle.source_ways.specs.Says.{int_type_in}
use Rattle.source_ways.specs.Carriers.{Carried}

-- what the mark of an operator asks for; what is none of these is `=`
abbrev pub join_of : Class → Join
join_of C.BarBar = by.Either
join_of C.AndAnd = by.Both
join_of C.EqualsEquals = by.Compare cmp.Eq
join_of C.NotEquals = by.Compare cmp.Ne
join_of C.Less = by.Compare cmp.Lt
join_of C.LessEquals = by.Compare cmp.Le
join_of C.Greater = by.Compare cmp.Gt
join_of C.GreaterEquals = by.Compare cmp.Ge
join_of C.Bar = by.Binary bin.Or
join_of C.Caret = by.Binary bin.Xor
join_of C.And = by.Binary bin.And
join_of C.Shl = by.Binary bin.Shl
join_of C.Shr = by.Binary bin.Shr
join_of C.Plus = by.Binary bin.Add
join_of C.Minus = by.Binary bin.Sub
join_of C.Star = by.Binary bin.Mul
join_of C.Slash = by.Binary bin.Div
join_of C.Percent = by.Binary bin.Rem
join_of C.PlusEquals = by.Update bin.Add
join_of C.MinusEquals = by.Update bin.Sub
join_of C.StarEquals = by.Update bin.Mul
join_of C.SlashEquals = by.Update bin.Div
join_of C.PercentEquals = by.Update bin.Rem
join_of C.AndEquals = by.Update bin.And
join_of C.BarEquals = by.Update bin.Or
join_of C.CaretEquals = by.Update bin.Xor
join_of C.ShlEquals = by.Update bin.Shl
join_of C.ShrEquals = by.Update bin.Shr
join_of class = by.Assign

abbrev pub joined_by : Join → Span → s.Expr → s.Expr → s.Expr
joined_by by.Either span a b = s.either span a b
joined_by by.Both span a b = s.both span a b
joined_by (by.Compare op) span a b = s.compare span op a b
joined_by (by.Binary op) span a b = s.binary span op a b
joined_by (by.Update op) span a b = s.update span op a b
joined_by by.Assign span a b = s.assign span a b

abbrev pub joined : Class → Span → s.Expr → s.Expr → s.Expr
joined operator span a b = joined_by (join_of operator) span a b

-- from the left, all from byte lo on
abbrev pub to_the_left : ℕ → s.Expr → List Operation → s.Expr
to_the_left lo e [] = e
to_the_left lo e (o ∷ os) = to_the_left lo (joined o.operator (from_to lo o.hi) e o.right) os

abbrev pub grouped : Span → Spanned s.Expr → Spanned (List Operation) → s.Expr
grouped whole e more = to_the_left whole.lo e.value more.value

abbrev pub operation : Lexeme → Spanned s.Expr → Operation
operation mark e = record { operator = mark.class; right = e.value; hi = (span_of e.extent).hi }

abbrev pub one_operation : Span → Lexeme → Spanned s.Expr → List Operation
one_operation whole mark e = operation mark e ∷ []

abbrev pub next_operation : Span → Lexeme → Spanned s.Expr → Spanned (List Operation) → List Operation
next_operation whole mark e more = operation mark e ∷ more.value

-- an operand of any level is an expression
abbrev pub operand_of : (l : Level) (m : Context) → Spanned (Carried (operand l m)) → Spanned s.Expr
operand_of L.Or m e = e
operand_of L.And m e = e
operand_of L.Compare m e = e
operand_of L.BitOr m e = e
operand_of L.Xor m e = e
operand_of L.BitAnd m e = e
operand_of L.Shift m e = e
operand_of L.Sum m e = e
operand_of L.Product m e = e

abbrev pub leading_of : (l : Level) → Spanned (Carried (leading l)) → Spanned s.Expr
leading_of L.Or e = e
leading_of L.And e = e
leading_of L.Compare e = e
leading_of L.BitOr e = e
leading_of L.Xor e = e
leading_of L.BitAnd e = e
leading_of L.Shift e = e
leading_of L.Sum e = e
leading_of L.Product e = e

-- ---- `as`, fields, and operators with one operand

abbrev pub cast_to : ℕ → s.Expr → List (Span × IntTy) → s.Expr
cast_to lo e [] = e
cast_to lo e (c ∷ cs) = cast_to lo (s.cast (from_to lo c.0.hi) e c.1) cs

abbrev pub casts : Span → Spanned s.Expr → Spanned (List (Span × IntTy)) → s.Expr
casts whole e more = cast_to whole.lo e.value more.value

abbrev pub one_cast : Span → Lexeme → Lexeme → Spanned (List (Span × IntTy)) → List (Span × IntTy)
one_cast whole word ty more = (ty.span, int_type_in ty.content) ∷ more.value

abbrev pub fields_of : ℕ → s.Expr → List Ident → s.Expr
fields_of lo e [] = e
fields_of lo e (f ∷ fs) = fields_of lo (s.field (from_to lo f.span.hi) e f.span f.name) fs

abbrev pub with_fields : Span → Spanned s.Expr → Spanned (List Ident) → s.Expr
with_fields whole e more = fields_of whole.lo e.value more.value

-- `-` directly before an integer is one literal: the operand is that token alone, which its extent shows
abbrev pub negated : Span → Span → s.Expr → s.Expr
negated whole operand (s.number span false size suffix) =
    if same_span span operand then s.number whole true size suffix else s.minus whole (s.number span false size suffix)
negated whole operand e = s.minus whole e

abbrev pub minus : Span → Lexeme → Spanned s.Expr → s.Expr
minus whole mark e = negated whole (span_of e.extent) e.value

abbrev pub negation : Span → Lexeme → Spanned s.Expr → s.Expr
negation whole mark e = s.negation whole e.value

abbrev pub dereference : Span → Lexeme → Spanned s.Expr → s.Expr
dereference whole mark e = s.deref whole e.value

abbrev pub borrow : Span → Lexeme → Spanned Borrowed → s.Expr
borrow whole mark b = s.borrow whole b.value.mutable b.value.operand

abbrev pub borrowed : Bool → Spanned s.Expr → Borrowed
borrowed mutable e = record { mutable = mutable; operand = e.value }
