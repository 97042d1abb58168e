-- How patterns are read.
use Rattle.std.specs.Prelude.{ℕ, Bool, true, false, List, [], ◌∷◌, Option, Some, None}
use Rattle.aen_base.specs.declared.span.Span.{Span}
use Rattle.source_grammar.specs.declared.lexeme.Lexeme.{Lexeme}
use Rattle.aen_base.specs.declared.int_ty.IntTy.{IntTy}
use Rattle.rust_ast.specs.declared.ident.Ident.{Ident}
use Rattle.rust_ast.specs.Patterns as suffixes
use Rattle.rust_ast.specs.SourceTypes as t
use Rattle.rust_ast.specs.SourcePatterns as p
use Rattle.source_ways.specs.declared.constructors.Given.{Given}
use Rattle.source_ways.specs.declared.constructors.Given.TheVariants as given
use Rattle.source_ways.specs.declared.constructors.AfterName.{AfterName}
use Rattle.source_ways.specs.declared.constructors.AfterName.TheVariants as after
use Rattle.source_ways.specs.declared.constructors.AfterMem.{AfterMem}
use Rattle.source_ways.specs.declared.constructors.AfterMem.TheVariants as in_mem
use Rattle.source_ways.specs.declared.spanned.Spanned.{Spanned}
use Rattle.source_ways.specs.Spans.{from_to}
use Rattle.source_ways.specs.Says.{ident, number_in, truth}
use Rattle.source_ways.specs.PathNodes.{built_in}

abbrev pub binding : Span → Lexeme → Lexeme → p.Pat
binding whole mutable name = p.mut_bind whole (ident name)

abbrev pub number_of : Span → Bool → ℕ × Option IntTy → p.Pat
number_of whole negative n = p.number whole negative n.0 (suffixes.suffix n.1)

abbrev pub negative_pattern : Span → Lexeme → Lexeme → p.Pat
negative_pattern whole minus number = number_of whole true (number_in number.content)

abbrev pub number_pattern : Span → Lexeme → p.Pat
number_pattern whole number = number_of whole false (number_in number.content)

abbrev pub truth_pattern : Span → Lexeme → p.Pat
truth_pattern whole word = p.truth whole (truth word)

-- what stands in brackets: one pattern is that pattern, else they are a tuple
abbrev pub enclosed_pattern : Span → List p.Pat → p.Pat
enclosed_pattern whole [] = p.tuple whole p.no_pats
enclosed_pattern whole (pat ∷ []) = pat
enclosed_pattern whole (pat ∷ (next ∷ more)) = p.tuple whole (p.pats (pat ∷ (next ∷ more)))

abbrev pub bracketed_pattern : Span → Lexeme → Spanned (List p.Pat) → p.Pat
bracketed_pattern whole bracket pats = enclosed_pattern whole pats.value

-- a path with its parts
abbrev pub with_parts : Span → t.Path → Given → p.Pat
with_parts whole path (given.Placed pats) = p.construct whole path (p.pats pats)
with_parts whole path (given.Named fields) = p.literal whole path (p.fieldpats fields)

-- a name alone binds or is a struct without fields
abbrev pub begun_by : Span → Ident → AfterName → p.Pat
begun_by whole name after.Nothing = p.lone name
begun_by whole name (after.Parts parts) = with_parts whole (t.one name) parts
begun_by whole name (after.Second tys second parts) = with_parts whole (t.two name tys second) parts
begun_by whole name (after.BuiltIn word span parts) = with_parts whole (built_in word (from_to whole.lo span.hi) name.span false) parts
begun_by whole name (after.StdBuiltIn mem word span parts) = with_parts whole (built_in word (from_to whole.lo span.hi) mem true) parts

abbrev pub named_pattern : Span → Lexeme → Spanned AfterName → p.Pat
named_pattern whole name rest = begun_by whole (ident name) rest.value

abbrev pub box_new_pattern : Span → Lexeme → Lexeme → Lexeme → Spanned Given → p.Pat
box_new_pattern whole box colons new parts = with_parts whole (t.box_new (from_to box.span.lo new.span.hi)) parts.value

-- a field's name alone binds
abbrev pub field_of : Ident → Option p.Pat → p.FieldPat
field_of name None = p.short name
field_of name (Some pat) = p.given name.span name.name pat

abbrev pub field_pattern : Span → Lexeme → Spanned (Option p.Pat) → p.FieldPat
field_pattern whole name pat = field_of (ident name) pat.value

-- ---- what stands after a pattern's first name

abbrev pub second_after_types : Span → Lexeme → Spanned (List t.Written) → Lexeme → Lexeme → Spanned Given → AfterName
second_after_types whole less tys colons name parts = after.Second (t.turbo (t.writtens tys.value)) (ident name) parts.value

abbrev pub second_name : Span → Lexeme → Spanned Given → AfterName
second_name whole name parts = after.Second t.no_turbo (ident name) parts.value

abbrev pub built_in_name : Span → Lexeme → Spanned Given → AfterName
built_in_name whole word parts = after.BuiltIn word.class word.span parts.value

abbrev pub in_std : Lexeme → AfterMem → AfterName
in_std mem (in_mem.Second parts) = after.Second t.no_turbo (ident mem) parts
in_std mem (in_mem.BuiltIn word span parts) = after.StdBuiltIn mem.span word span parts

abbrev pub std_mem_name : Span → Lexeme → Spanned AfterMem → AfterName
std_mem_name whole mem rest = in_std mem rest.value

abbrev pub std_built_in_name : Span → Lexeme → Lexeme → Spanned Given → AfterMem
std_built_in_name whole colons word parts = in_mem.BuiltIn word.class word.span parts.value
