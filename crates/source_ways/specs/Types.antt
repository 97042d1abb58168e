-- How types are read.
use Rattle.std.specs.Prelude.{Bool, List, [], ◌∷◌}
use Rattle.aen_base.specs.declared.span.Span.{Span}
use Rattle.source_grammar.specs.declared.lexeme.Lexeme.{Lexeme}
use Rattle.rust_ast.specs.SourceTypes as t
use Rattle.source_ways.specs.declared.spanned.Spanned.{Spanned}
use Rattle.source_ways.specs.Says.{ident, int_type_in}

abbrev pub int_type : Span → Lexeme → t.Written
int_type whole word = t.int whole (int_type_in word.content)

-- what stands in brackets: nothing is unit, one type is that type, more are a tuple
abbrev pub enclosed_type : Span → List t.Written → t.Written
enclosed_type whole [] = t.unit whole
enclosed_type whole (ty ∷ []) = ty
enclosed_type whole (ty ∷ (next ∷ more)) = t.tuple whole (t.writtens (ty ∷ (next ∷ more)))

abbrev pub bracketed_type : Span → Lexeme → Spanned (List t.Written) → t.Written
bracketed_type whole bracket tys = enclosed_type whole tys.value

abbrev pub reference_type : Span → Lexeme → Spanned t.Lifetime → Spanned Bool → Spanned t.Written → t.Written
reference_type whole mark life mutable ty = t.ref whole life.value mutable.value ty.value

abbrev pub boxed_type : Span → Lexeme → Lexeme → Spanned t.Written → Lexeme → t.Written
boxed_type whole box less ty greater = t.boxed whole ty.value

abbrev pub named_type : Span → Lexeme → Spanned (List t.Written) → t.Written
named_type whole name arguments = t.named whole (ident name) (t.writtens arguments.value)
