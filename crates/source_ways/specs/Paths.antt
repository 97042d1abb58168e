-- How paths are read in expressions, with what they are applied to.
use Rattle.std.specs.Prelude.{true, false, List}
use Rattle.aen_base.specs.declared.span.Span.{Span}
use Rattle.source_grammar.specs.declared.lexeme.Lexeme.{Lexeme}
use Rattle.rust_ast.specs.declared.ident.Ident.{Ident}
use Rattle.rust_ast.specs.Source as s
use Rattle.rust_ast.specs.SourceTypes as t
use Rattle.source_ways.specs.declared.paths.Calling.{Calling}
use Rattle.source_ways.specs.declared.paths.Calling.TheVariants as calling
use Rattle.source_ways.specs.declared.paths.Further.{Further}
use Rattle.source_ways.specs.declared.paths.Further.TheVariants as further
use Rattle.source_ways.specs.declared.paths.After.{After}
use Rattle.source_ways.specs.declared.paths.After.TheVariants as after
use Rattle.source_ways.specs.declared.paths.InMem.{InMem}
use Rattle.source_ways.specs.declared.paths.InMem.TheVariants as in_mem
use Rattle.source_ways.specs.Carriers.{Initial}
use Rattle.source_ways.specs.declared.spanned.Spanned.{Spanned}
use Rattle.source_ways.specs.Spans.{from_to}
use Rattle.source_ways.specs.Says.{ident}
use Rattle.source_ways.specs.PathNodes.{built_in}
use Rattle.source_ways.specs.Blocks.{asserted}

-- a path, called or not
abbrev pub called : Span → t.Path → Calling → s.Expr
called whole path calling.Nothing = s.path whole path
called whole path (calling.Arguments tys arguments) = s.call whole path tys (s.exprs arguments)

-- a name with its types, and what it is applied to or a second name
abbrev pub continued : Span → Ident → t.Turbo → Further → s.Expr
continued whole name tys (further.Arguments arguments) = s.call whole (t.one name) tys (s.exprs arguments)
continued whole name tys (further.Fields initials) = s.literal whole name tys (s.inits initials)
continued whole name tys (further.Second second rest) = called whole (t.two name tys second) rest

abbrev pub begun_by : Span → Ident → After → s.Expr
begun_by whole name after.Nothing = s.path whole (t.one name)
begun_by whole name (after.More tys more) = continued whole name tys more
begun_by whole name (after.BuiltIn word span rest) = called whole (built_in word (from_to whole.lo span.hi) name.span false) rest
begun_by whole name (after.StdBuiltIn mem word span rest) = called whole (built_in word (from_to whole.lo span.hi) mem true) rest
begun_by whole name after.Panics = s.panic whole
begun_by whole name (after.Asserts condition) = asserted whole condition

abbrev pub named : Span → Lexeme → Spanned After → s.Expr
named whole name rest = begun_by whole (ident name) rest.value

abbrev pub box_new : Span → Lexeme → Lexeme → Lexeme → Spanned Calling → s.Expr
box_new whole box colons new rest = called whole (t.box_new (from_to box.span.lo new.span.hi)) rest.value

-- ---- what stands after a path's first name

abbrev pub applied : Span → Spanned Further → After
applied whole more = after.More t.no_turbo more.value

abbrev pub asserts : Span → Lexeme → Lexeme → Spanned s.Expr → Spanned (Unit {0}) → After
asserts whole mark bracket condition rest = after.Asserts condition.value

abbrev pub arguments : Span → Lexeme → Spanned (List s.Expr) → Further
arguments whole bracket exprs = further.Arguments exprs.value

abbrev pub fields : Span → Lexeme → Spanned (List Initial) → Further
fields whole brace initials = further.Fields initials.value

abbrev pub with_types : Span → Lexeme → Spanned (List t.Written) → Spanned Further → After
with_types whole less tys more = after.More (t.turbo (t.writtens tys.value)) more.value

abbrev pub second_name : Span → Lexeme → Spanned Calling → After
second_name whole name rest = after.More t.no_turbo (further.Second (ident name) rest.value)

abbrev pub later_name : Span → Lexeme → Lexeme → Spanned Calling → Further
later_name whole colons name rest = further.Second (ident name) rest.value

abbrev pub built_in_name : Span → Lexeme → Spanned Calling → After
built_in_name whole word rest = after.BuiltIn word.class word.span rest.value

-- ---- what stands after `std::mem`, and after a path's last name

abbrev pub in_std : Lexeme → InMem → After
in_std mem (in_mem.Second rest) = after.More t.no_turbo (further.Second (ident mem) rest)
in_std mem (in_mem.BuiltIn word span rest) = after.StdBuiltIn mem.span word span rest

abbrev pub std_mem : Span → Lexeme → Spanned InMem → After
std_mem whole mem rest = in_std mem rest.value

abbrev pub plain_call : Lexeme → Spanned (List s.Expr) → Calling
plain_call bracket exprs = calling.Arguments t.no_turbo exprs.value

abbrev pub call_with_types : Spanned (List t.Written) → Spanned (List s.Expr) → Calling
call_with_types tys exprs = calling.Arguments (t.turbo (t.writtens tys.value)) exprs.value

abbrev pub std_built_in : Span → Lexeme → Spanned Calling → InMem
std_built_in whole word rest = in_mem.BuiltIn word.class word.span rest.value

abbrev pub alone : After
alone = after.Nothing

abbrev pub panics : After
panics = after.Panics

abbrev pub not_called : Calling
not_called = calling.Nothing
