-- Paths of the built-in functions.
use Rattle.std.specs.Prelude.{Bool, if◌then◌else◌}
use Rattle.aen_base.specs.declared.span.Span.{Span}
use Rattle.source_grammar.specs.declared.class.Class.{Class}
use Rattle.source_grammar.specs.declared.class.Class.TheVariants as C
use Rattle.rust_ast.specs.SourceTypes as t
use Rattle.source_ways.specs.Says.{is_class}

-- `mem::swap` or `mem::replace`: the last word, the span of the path and of `mem`, and whether `std::` stands before
abbrev pub built_in : Class → Span → Span → Bool → t.Path
built_in word path mem after_std = if is_class word C.Swap then t.mem_swap path mem after_std else t.mem_replace path mem after_std
