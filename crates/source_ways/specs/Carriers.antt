-- What each part of the grammar is read as.
use Rattle.std.specs.Prelude.{ℕ, Bool, List, [], ◌∷◌, Option, Some, None}
use Rattle.aen_base.specs.declared.span.Span.{Span}
use Rattle.aen_base.specs.declared.int_ty.IntTy.{IntTy}
use Rattle.table_reader.specs.declared.symbol.Symbol.{Symbol}
use Rattle.table_reader.specs.declared.symbol.Symbol.TheVariants as S
use Rattle.table_reader.specs.Reading.{Parts, Made}
use Rattle.source_grammar.specs.declared.lexeme.Lexeme.{Lexeme}
use Rattle.source_grammar.specs.declared.terminal.Terminal.{Terminal}
use Rattle.source_grammar.specs.declared.part.Part.{Part}
use Rattle.source_grammar.specs.declared.part.Part.TheVariants as N
use Rattle.source_grammar.specs.declared.part.Listed.{Listed}
use Rattle.source_grammar.specs.declared.part.Listed.TheVariants as Of
use Rattle.rust_ast.specs.declared.ident.Ident.{Ident}
use Rattle.rust_ast.specs.declared.program.Item.{Item}
use Rattle.rust_ast.specs.declared.program.Param.{Param}
use Rattle.rust_ast.specs.declared.program.Fields.{Fields}
use Rattle.rust_ast.specs.declared.program.Variant.{Variant}
use Rattle.rust_ast.specs.Source as s
use Rattle.rust_ast.specs.SourceTypes as t
use Rattle.rust_ast.specs.SourcePatterns as p
use Rattle.source_ways.specs.declared.clauses.Body.{Body}
use Rattle.source_ways.specs.declared.clauses.Conditional.{Conditional}
use Rattle.source_ways.specs.declared.clauses.ArmBody.{ArmBody}
use Rattle.source_ways.specs.declared.operations.Operation.{Operation}
use Rattle.source_ways.specs.declared.operations.Borrowed.{Borrowed}
use Rattle.source_ways.specs.declared.generics.Generics.{Generics}
use Rattle.source_ways.specs.declared.paths.Calling.{Calling}
use Rattle.source_ways.specs.declared.paths.Further.{Further}
use Rattle.source_ways.specs.declared.paths.After.{After}
use Rattle.source_ways.specs.declared.paths.InMem.{InMem}
use Rattle.source_ways.specs.declared.constructors.Given.{Given}
use Rattle.source_ways.specs.declared.constructors.AfterName.{AfterName}
use Rattle.source_ways.specs.declared.constructors.AfterMem.{AfterMem}
use Rattle.source_ways.specs.declared.spanned.Spanned.{Spanned}
use Rattle.source_ways.specs.Spans.{join, span_of}

-- a field of a struct with its type, a field of a constructor with its value
abbrev pub Field : Type 0
Field = Span × List ℕ × t.Written

abbrev pub Initial : Type 0
Initial = Span × List ℕ × s.Expr

-- what an item of a list is read as
abbrev pub Listing : Listed → Type 0
Listing Of.Names = Ident
Listing Of.TypeNames = Ident
Listing Of.Parameters = Param
Listing Of.Fields = Field
Listing Of.TupleFields = t.Written
Listing Of.Variants = Variant
Listing Of.TypesInAngles = t.Written
Listing Of.Types = t.Written
Listing Of.Arguments = s.Expr
Listing Of.Initials = Initial
Listing Of.Patterns = p.Pat
Listing Of.FieldPatterns = p.FieldPat

-- what a part is read as
abbrev pub Carried : Part → Type 0
Carried N.Program = List Item
Carried N.AfterHash = List Item
Carried N.Items = List Item
Carried N.Attribute = Unit {0}
Carried N.Attributed = Item
Carried N.Item = Item
Carried N.Declaration = Item
Carried N.Generics = Generics
Carried N.Lifetimes = Generics
Carried N.MoreLifetimes = Generics
Carried N.TypeParameters = List Ident
Carried N.Parameter = Param
Carried N.Result = Option t.Written
Carried N.StructBody = Fields
Carried N.Field = Field
Carried N.TupleField = t.Written
Carried N.Variant = Variant
Carried N.VariantBody = List t.Written
Carried (N.List x) = List (Listing x)
Carried (N.ListRest x) = List (Listing x)
Carried N.Type = t.Written
Carried N.BorrowLifetime = t.Lifetime
Carried N.BorrowMut = Bool
Carried N.TypeArguments = List t.Written
-- the types in brackets
Carried N.AfterTypeOpen = List t.Written
Carried N.AfterType = List t.Written
Carried N.Block = s.Block
Carried N.Statements = Body
Carried N.MoreStatements = Body
-- none: what stands before it is the block's value
Carried N.AfterBlockLike = Option Body
Carried N.AfterExpression = Option Body
Carried N.LetType = Option t.Written
Carried N.LetValue = Option s.Expr
Carried N.BlockLike = s.Expr
Carried N.AfterWhile = Conditional
Carried N.If = s.Expr
Carried N.AfterIf = Conditional
Carried N.Else = Option s.Expr
Carried N.AfterElse = s.Expr
Carried N.Arms = List (p.Pat × s.Expr)
Carried N.ArmBody = ArmBody
Carried N.AfterBlockArm = List (p.Pat × s.Expr)
Carried N.AfterArm = List (p.Pat × s.Expr)
Carried (N.Expression m) = s.Expr
Carried N.LeadingExpression = s.Expr
Carried N.Operand = Option s.Expr
Carried (N.MoreAssign m) = List Operation
Carried (N.Level l m) = s.Expr
Carried (N.LeadingLevel l) = s.Expr
Carried (N.More l m) = List Operation
Carried (N.Cast m) = s.Expr
Carried N.LeadingCast = s.Expr
Carried N.MoreCasts = List (Span × IntTy)
Carried (N.Unary m) = s.Expr
Carried N.LeadingUnary = s.Expr
Carried (N.Borrowed m) = Borrowed
Carried N.Postfix = List Ident
Carried N.FieldName = Ident
Carried (N.Core m) = s.Expr
-- the expressions in brackets
Carried N.AfterOpen = List s.Expr
Carried N.AfterFirst = List s.Expr
Carried N.Initial = Initial
Carried N.InitialValue = Option s.Expr
Carried (N.AfterName m) = After
Carried (N.AfterPanic m) = After
Carried (N.AfterAssert m) = After
Carried (N.AfterMem m) = After
Carried (N.AfterStd m) = After
Carried (N.NameMore m) = After
Carried (N.Applied m) = Further
Carried (N.AfterColons m) = After
Carried (N.AfterMemColons m) = After
Carried (N.AfterStdColons m) = After
Carried N.AfterStdMem = InMem
Carried N.AfterStdMemColons = InMem
Carried (N.AfterTurbo m) = Further
Carried N.AfterPath = Calling
Carried N.Message = Unit {0}
Carried N.AssertEnd = Unit {0}
Carried N.AfterAssertComma = Unit {0}
Carried N.AfterMessage = Unit {0}
Carried N.Pattern = p.Pat
-- the patterns in brackets
Carried N.AfterPatternOpen = List p.Pat
Carried N.AfterPattern = List p.Pat
Carried N.FieldPattern = p.FieldPat
Carried N.FieldPatternValue = Option p.Pat
Carried N.PatternParts = Given
Carried N.GivenParts = Given
Carried N.AfterPatternName = AfterName
Carried N.AfterPatternMem = AfterName
Carried N.AfterPatternStd = AfterName
Carried N.AfterPatternColons = AfterName
Carried N.AfterPatternMemColons = AfterName
Carried N.AfterPatternStdColons = AfterName
Carried N.AfterPatternStdMem = AfterMem

-- a token is read as its lexeme, a part as what it carries, with its extent
abbrev pub Value : Symbol Terminal Part → Type 0
Value (S.Token t) = Lexeme
Value (S.Part n) = Spanned (Carried n)

-- what the reader carries of a part
abbrev pub Carrier : Part → Type 0
Carrier n = Spanned (Carried n)

abbrev pub Values : List (Symbol Terminal Part) → Type 0
Values p = Parts Terminal Part Lexeme Carrier p

-- functions of the values of these symbols
abbrev pub From : List (Symbol Terminal Part) → Type 0 → Type 0
From [] R = R
From (s ∷ p) R = Value s → From p R

abbrev pub apply : {R : Type 0} → (p : List (Symbol Terminal Part)) → From p R → Values p → R
apply [] f vs = f
apply (S.Token t ∷ p) f vs = apply p (f vs.0) vs.1
apply (S.Part n ∷ p) f vs = apply p (f vs.0) vs.1

-- the extent of all
abbrev pub extent : (p : List (Symbol Terminal Part)) → Values p → Option Span
extent [] vs = None
extent (S.Token t ∷ p) vs = join (Some vs.0.span) (extent p vs.1)
extent (S.Part n ∷ p) vs = join vs.0.extent (extent p vs.1)

-- for each of these productions of a part, what it is read as: a function of the span of the whole and
-- of the values of its symbols
abbrev pub Makes : Part → List (List (Symbol Terminal Part)) → Type 0
Makes n [] = Unit {0}
Makes n (p ∷ ps) = (Span → From p (Carried n)) × Makes n ps

abbrev pub make : (n : Part) → (p : List (Symbol Terminal Part)) → (Span → From p (Carried n)) → Values p → Spanned (Carried n)
make n p f vs = record { value = apply p (f (span_of (extent p vs))) vs; extent = extent p vs }

-- the productions of a part, and what is made by each
abbrev pub made_by : (n : Part) → (ps : List (List (Symbol Terminal Part))) → Makes n ps → List (Made Terminal Part Lexeme Carrier n)
made_by n [] ways = []
made_by n (p ∷ ps) ways = record { symbols = p; make = make n p ways.0 } ∷ made_by n ps ways.1
