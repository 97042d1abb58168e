-- How other expressions are read.
use Rattle.std.specs.Prelude.{ℕ, false, List, [], ◌∷◌, Option, Some, None}
use Rattle.aen_base.specs.declared.span.Span.{Span}
use Rattle.source_grammar.specs.declared.lexeme.Lexeme.{Lexeme}
use Rattle.aen_base.specs.declared.int_ty.IntTy.{IntTy}
use Rattle.rust_ast.specs.declared.ident.Ident.{Ident}
use Rattle.rust_ast.specs.Patterns as suffixes
use Rattle.rust_ast.specs.Source as s
use Rattle.rust_ast.specs.SourceTypes as t
use Rattle.source_ways.specs.Carriers.{Initial}
use Rattle.source_ways.specs.declared.spanned.Spanned.{Spanned}
use Rattle.source_ways.specs.Says.{ident, number_in, truth}

abbrev pub returned : Span → Lexeme → Spanned (Option s.Expr) → s.Expr
returned whole word value = s.give whole (s.maybeexpr value.value)

abbrev pub broken : Span → Lexeme → Spanned (Option s.Expr) → s.Expr
broken whole word value = s.leave whole (s.maybeexpr value.value)

-- in a condition there is an operand always
abbrev pub returned_value : Span → Lexeme → Spanned s.Expr → s.Expr
returned_value whole word value = s.give whole (s.some_maybeexpr value.value)

abbrev pub broken_value : Span → Lexeme → Spanned s.Expr → s.Expr
broken_value whole word value = s.leave whole (s.some_maybeexpr value.value)

abbrev pub number_of : Span → ℕ × Option IntTy → s.Expr
number_of whole n = s.number whole false n.0 (suffixes.suffix n.1)

abbrev pub number_expression : Span → Lexeme → s.Expr
number_expression whole number = number_of whole (number_in number.content)

abbrev pub truth_expression : Span → Lexeme → s.Expr
truth_expression whole word = s.truth whole (truth word)

-- what stands in brackets: one expression is that expression, else they are a tuple
abbrev pub enclosed : Span → List s.Expr → s.Expr
enclosed whole [] = s.tuple whole s.no_exprs
enclosed whole (e ∷ []) = e
enclosed whole (e ∷ (next ∷ more)) = s.tuple whole (s.exprs (e ∷ (next ∷ more)))

abbrev pub bracketed : Span → Lexeme → Spanned (List s.Expr) → s.Expr
bracketed whole bracket parts = enclosed whole parts.value

-- a field's name alone stands for the variable of this name too
abbrev pub value_of : Ident → Option s.Expr → s.Expr
value_of name None = s.path name.span (t.one name)
value_of name (Some value) = value

abbrev pub initial : Span → Lexeme → Spanned (Option s.Expr) → Initial
initial whole name value = (name.span, (ident name).name, value_of (ident name) value.value)
