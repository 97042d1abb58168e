-- What is kept by what each part of the grammar is read as.
use Rattle.std.proofs.Common.{List, [], ◌∷◌, Option, Some, None}
use Rattle.aen_base.specs.declared.span.Span.{Span}
use Rattle.table_reader.specs.declared.symbol.Symbol.{Symbol}
use Rattle.table_reader.specs.declared.symbol.Symbol.TheVariants as S
use Rattle.source_grammar.specs.declared.lexeme.Lexeme.{Lexeme}
use Rattle.source_grammar.specs.declared.terminal.Terminal.{Terminal}
use Rattle.source_grammar.specs.declared.part.Part.{Part}
use Rattle.source_grammar.specs.declared.part.Part.TheVariants as N
use Rattle.source_grammar.specs.declared.part.Listed.{Listed}
use Rattle.source_grammar.specs.declared.part.Listed.TheVariants as Of
use Rattle.rust_ast.specs.declared.ident.Ident.{Ident}
use Rattle.rust_ast.specs.Source as s
use Rattle.rust_ast.specs.SourceTypes as t
use Rattle.rust_ast.specs.SourcePatterns as p
use Rattle.source_ways.specs.declared.clauses.Body.{Body}
use Rattle.source_ways.specs.declared.clauses.Condition.{Condition}
use Rattle.source_ways.specs.declared.clauses.Condition.TheVariants as condition
use Rattle.source_ways.specs.declared.clauses.Conditional.{Conditional}
use Rattle.source_ways.specs.declared.constructors.Given.{Given}
use Rattle.source_ways.specs.declared.constructors.Given.TheVariants as given
use Rattle.source_ways.specs.declared.constructors.AfterName.{AfterName}
use Rattle.source_ways.specs.declared.constructors.AfterMem.{AfterMem}
use Rattle.source_ways.specs.declared.operations.Operation.{Operation}
use Rattle.source_ways.specs.declared.paths.Calling.{Calling}
use Rattle.source_ways.specs.declared.paths.Further.{Further}
use Rattle.source_ways.specs.declared.paths.After.{After}
use Rattle.source_ways.specs.declared.paths.InMem.{InMem}
use Rattle.source_ways.specs.Carriers.{Carried, Listing, Values, Makes, apply, extent}
use Rattle.source_ways.specs.Says.{name_in}
use Rattle.source_ways.specs.Spans.{span_of}
use Rattle.source_ways.specs.Paths as paths
use Rattle.source_ways.specs.Patterns as patterns
use Rattle.print_lexed.proofs.Spellable.{IsName, IsLifetime, IsType, AreTypes, IsTurbo, IsPath, IsPattern, IsFieldPattern, ArePatterns, AreFieldPatterns, IsPlace, IsLetType, IsExpr, IsMaybe, IsBlock, AreExprs, AreArms, AreInits, AreStmts, AreNames, AreLives, AreParams, IsResult, AreFields, HasFields, AreVariants, IsItem, AreItems}
use Rattle.print_lexed.proofs.Proper.{Took}

-- the items of a list
abbrev pub AreListed : (x : Listed) → List (Listing x) → Type 0
AreListed Of.Names v = Unit {0}
AreListed Of.TypeNames v = AreNames v
AreListed Of.Parameters v = AreParams v
AreListed Of.Fields v = AreFields v
AreListed Of.TupleFields v = AreTypes (t.writtens v)
AreListed Of.Variants v = AreVariants v
AreListed Of.TypesInAngles v = AreTypes (t.writtens v)
AreListed Of.Types v = AreTypes (t.writtens v)
AreListed Of.Arguments v = AreExprs (s.exprs v)
AreListed Of.Initials v = AreInits (s.inits v)
AreListed Of.Patterns v = ArePatterns (p.pats v)
AreListed Of.FieldPatterns v = AreFieldPatterns (p.fieldpats v)

-- ---- blocks

abbrev pub IsBody : Body → Type 0
IsBody v = AreStmts (s.stmts v.statements) × IsMaybe (s.maybeexpr v.value)

abbrev pub IsRest : Option Body → Type 0
IsRest None = Unit {0}
IsRest (Some v) = IsBody v

abbrev pub IsAsked : Condition → Type 0
IsAsked (condition.Holds e) = IsExpr e
IsAsked (condition.Matches pat e) = IsPattern pat × IsExpr e

abbrev pub IsElse : Option s.Expr → Type 0
IsElse None = Unit {0}
IsElse (Some e) = IsExpr e

abbrev pub IsConditional : Conditional → Type 0
IsConditional v = IsAsked v.condition × (IsBlock v.body × IsElse v.otherwise)

-- ---- operators and fields

abbrev pub AreOperations : List Operation → Type 0
AreOperations [] = Unit {0}
AreOperations (o ∷ os) = IsExpr o.right × AreOperations os

abbrev pub ArePlaces : List Ident → Type 0
ArePlaces [] = Unit {0}
ArePlaces (f ∷ fs) = IsPlace f.name × ArePlaces fs

-- ---- paths: what stands after their first name, or after more of them

abbrev pub Calls : Calling → Type 0
Calls v = (whole : Span) (path : t.Path) → IsPath path → IsExpr (paths.called whole path v)

abbrev pub Continues : Further → Type 0
Continues v = (whole : Span) (name : Ident) (tys : t.Turbo) → IsName name.name → IsTurbo tys → IsExpr (paths.continued whole name tys v)

abbrev pub ContinuesTypes : Further → Type 0
ContinuesTypes v = (whole : Span) (name : Ident) (tys : t.Writtens) → IsName name.name → AreTypes tys → IsExpr (paths.continued whole name (t.turbo tys) v)

abbrev pub Begins : After → Type 0
Begins v = (whole : Span) (name : Ident) → IsName name.name → IsExpr (paths.begun_by whole name v)

abbrev pub BeginsStdMem : InMem → Type 0
BeginsStdMem v = (mem : Lexeme) → IsName (name_in mem.content) → Begins (paths.in_std mem v)

abbrev pub IsParts : Given → Type 0
IsParts (given.Placed pats) = ArePatterns (p.pats pats)
IsParts (given.Named fields) = AreFieldPatterns (p.fieldpats fields)

abbrev pub BeginsPattern : AfterName → Type 0
BeginsPattern v = (whole : Span) (name : Ident) → IsName name.name → IsPattern (patterns.begun_by whole name v)

abbrev pub BeginsStdMemPattern : AfterMem → Type 0
BeginsStdMemPattern v = (mem : Lexeme) → IsName (name_in mem.content) → BeginsPattern (patterns.in_std mem v)

abbrev pub IsMaybePattern : Option p.Pat → Type 0
IsMaybePattern None = Unit {0}
IsMaybePattern (Some pat) = IsPattern pat

-- ---- each part

abbrev pub Keeps : (n : Part) → Carried n → Type 0
Keeps N.Program v = AreItems v
Keeps N.AfterHash v = AreItems v
Keeps N.Items v = AreItems v
Keeps N.Attribute v = Unit {0}
Keeps N.Attributed v = IsItem v
Keeps N.Item v = IsItem v
Keeps N.Declaration v = IsItem v
Keeps N.Generics v = AreLives v.lifetimes × AreNames v.type_params
Keeps N.Lifetimes v = AreLives v.lifetimes × AreNames v.type_params
Keeps N.MoreLifetimes v = AreLives v.lifetimes × AreNames v.type_params
Keeps N.TypeParameters v = AreNames v
Keeps N.Parameter v = IsName v.name.name × IsType v.ty
Keeps N.Result v = IsResult v
Keeps N.StructBody v = HasFields v
Keeps N.Field v = IsName v.1 × IsType v.2
Keeps N.TupleField v = IsType v
Keeps N.Variant v = IsName v.name.name × AreTypes (t.writtens v.fields)
Keeps N.VariantBody v = AreTypes (t.writtens v)
Keeps (N.List x) v = AreListed x v
Keeps (N.ListRest x) v = AreListed x v
Keeps N.Type v = IsType v
Keeps N.BorrowLifetime v = IsLifetime v
Keeps N.BorrowMut v = Unit {0}
Keeps N.TypeArguments v = AreTypes (t.writtens v)
Keeps N.AfterTypeOpen v = AreTypes (t.writtens v)
Keeps N.AfterType v = AreTypes (t.writtens v)
Keeps N.Block v = IsBlock v
Keeps N.Statements v = IsBody v
Keeps N.MoreStatements v = IsBody v
Keeps N.AfterBlockLike v = IsRest v
Keeps N.AfterExpression v = IsRest v
Keeps N.LetType v = IsLetType (t.maybewritten v)
Keeps N.LetValue v = IsMaybe (s.maybeexpr v)
Keeps N.BlockLike v = IsExpr v
Keeps N.AfterWhile v = IsConditional v
Keeps N.If v = IsExpr v
Keeps N.AfterIf v = IsConditional v
Keeps N.Else v = IsElse v
Keeps N.AfterElse v = IsExpr v
Keeps N.Arms v = AreArms (s.arms v)
Keeps N.ArmBody v = IsExpr v.body × AreArms (s.arms v.more)
Keeps N.AfterBlockArm v = AreArms (s.arms v)
Keeps N.AfterArm v = AreArms (s.arms v)
Keeps (N.Expression m) v = IsExpr v
Keeps N.LeadingExpression v = IsExpr v
Keeps N.Operand v = IsMaybe (s.maybeexpr v)
Keeps (N.MoreAssign m) v = AreOperations v
Keeps (N.Level l m) v = IsExpr v
Keeps (N.LeadingLevel l) v = IsExpr v
Keeps (N.More l m) v = AreOperations v
Keeps (N.Cast m) v = IsExpr v
Keeps N.LeadingCast v = IsExpr v
Keeps N.MoreCasts v = Unit {0}
Keeps (N.Unary m) v = IsExpr v
Keeps N.LeadingUnary v = IsExpr v
Keeps (N.Borrowed m) v = IsExpr v.operand
Keeps N.Postfix v = ArePlaces v
Keeps N.FieldName v = IsPlace v.name
Keeps (N.Core m) v = IsExpr v
Keeps N.AfterOpen v = AreExprs (s.exprs v)
Keeps N.AfterFirst v = AreExprs (s.exprs v)
Keeps N.Initial v = IsName v.1 × IsExpr v.2
Keeps N.InitialValue v = IsMaybe (s.maybeexpr v)
Keeps (N.AfterName m) v = Begins v
Keeps (N.AfterPanic m) v = Begins v
Keeps (N.AfterAssert m) v = Begins v
Keeps (N.AfterMem m) v = Begins v
Keeps (N.AfterStd m) v = Begins v
Keeps (N.NameMore m) v = Begins v
Keeps (N.Applied m) v = Continues v
Keeps (N.AfterColons m) v = Begins v
Keeps (N.AfterMemColons m) v = Begins v
Keeps (N.AfterStdColons m) v = Begins v
Keeps N.AfterStdMem v = BeginsStdMem v
Keeps N.AfterStdMemColons v = BeginsStdMem v
Keeps (N.AfterTurbo m) v = ContinuesTypes v
Keeps N.AfterPath v = Calls v
Keeps N.Message v = Unit {0}
Keeps N.AssertEnd v = Unit {0}
Keeps N.AfterAssertComma v = Unit {0}
Keeps N.AfterMessage v = Unit {0}
Keeps N.Pattern v = IsPattern v
Keeps N.AfterPatternOpen v = ArePatterns (p.pats v)
Keeps N.AfterPattern v = ArePatterns (p.pats v)
Keeps N.FieldPattern v = IsFieldPattern v
Keeps N.FieldPatternValue v = IsMaybePattern v
Keeps N.PatternParts v = IsParts v
Keeps N.GivenParts v = IsParts v
Keeps N.AfterPatternName v = BeginsPattern v
Keeps N.AfterPatternMem v = BeginsPattern v
Keeps N.AfterPatternStd v = BeginsPattern v
Keeps N.AfterPatternColons v = BeginsPattern v
Keeps N.AfterPatternMemColons v = BeginsPattern v
Keeps N.AfterPatternStdColons v = BeginsPattern v
Keeps N.AfterPatternStdMem v = BeginsStdMemPattern v

-- the values of symbols
abbrev pub Kept : (p : List (Symbol Terminal Part)) → Values p → Type 0
Kept [] vs = Unit {0}
Kept (S.Token t ∷ p) vs = Took t vs.0 × Kept p vs.1
Kept (S.Part n ∷ p) vs = Keeps n vs.0.value × Kept p vs.1

-- what each of these productions makes of such values keeps it too
abbrev pub Keeping : (n : Part) → (ps : List (List (Symbol Terminal Part))) → Makes n ps → Type 0
Keeping n [] ways = Unit {0}
Keeping n (p ∷ ps) ways = ((vs : Values p) → Kept p vs → Keeps n (apply p (ways.0 (span_of (extent p vs))) vs)) × Keeping n ps ways.1
