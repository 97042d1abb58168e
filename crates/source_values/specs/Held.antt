-- How the values of parts are held. Written by tools/source_build.py.
use Rattle.std.specs.Prelude.{List}
use Rattle.source_grammar.specs.declared.part.Part.{Part}
use Rattle.source_grammar.specs.declared.part.Part.TheVariants as N
use Rattle.source_grammar.specs.declared.part.Listed.{Listed}
use Rattle.source_grammar.specs.declared.part.Listed.TheVariants as Of
use Rattle.source_ways.specs.declared.spanned.Spanned.{Spanned}
use Rattle.source_ways.specs.Carriers.{Carrier, Listing}
use Rattle.source_values.specs.declared.value.Value.{Value}
use Rattle.source_values.specs.declared.value.Value.TheVariants as V

abbrev pub held_list : (x : Listed) → Spanned (List (Listing x)) → Value
held_list Of.Names v = V.Idents v
held_list Of.TypeNames v = V.Idents v
held_list Of.Parameters v = V.Params v
held_list Of.Fields v = V.NamedFields v
held_list Of.TupleFields v = V.Writtens v
held_list Of.Variants v = V.Variants v
held_list Of.TypesInAngles v = V.Writtens v
held_list Of.Types v = V.Writtens v
held_list Of.Arguments v = V.Exprs v
held_list Of.Initials v = V.Initials v
held_list Of.Patterns v = V.Pats v
held_list Of.FieldPatterns v = V.FieldPats v

-- the value of a part
abbrev pub held : (n : Part) → Carrier n → Value
held N.Program v = V.Items v
held N.AfterHash v = V.Items v
held N.Items v = V.Items v
held N.Attribute v = V.Nothing v
held N.Attributed v = V.Item v
held N.Item v = V.Item v
held N.Declaration v = V.Item v
held N.Generics v = V.Generics v
held N.Lifetimes v = V.Generics v
held N.MoreLifetimes v = V.Generics v
held N.TypeParameters v = V.Idents v
held N.Parameter v = V.Param v
held N.Result v = V.MaybeWritten v
held N.StructBody v = V.Fields v
held N.Field v = V.Field v
held N.TupleField v = V.Written v
held N.Variant v = V.Variant v
held N.VariantBody v = V.Writtens v
held (N.List x) v = held_list x v
held (N.ListRest x) v = held_list x v
held N.Type v = V.Written v
held N.BorrowLifetime v = V.Lifetime v
held N.BorrowMut v = V.Truth v
held N.TypeArguments v = V.Writtens v
held N.AfterTypeOpen v = V.Writtens v
held N.AfterType v = V.Writtens v
held N.Block v = V.Block v
held N.Statements v = V.Body v
held N.MoreStatements v = V.Body v
held N.AfterBlockLike v = V.MaybeBody v
held N.AfterExpression v = V.MaybeBody v
held N.LetType v = V.MaybeWritten v
held N.LetValue v = V.MaybeExpr v
held N.BlockLike v = V.Expr v
held N.AfterWhile v = V.Conditional v
held N.If v = V.Expr v
held N.AfterIf v = V.Conditional v
held N.Else v = V.MaybeExpr v
held N.AfterElse v = V.Expr v
held N.Arms v = V.Arms v
held N.ArmBody v = V.ArmBody v
held N.AfterBlockArm v = V.Arms v
held N.AfterArm v = V.Arms v
held (N.Expression m) v = V.Expr v
held N.LeadingExpression v = V.Expr v
held N.Operand v = V.MaybeExpr v
held (N.MoreAssign m) v = V.Operations v
held (N.Level l m) v = V.Expr v
held (N.LeadingLevel l) v = V.Expr v
held (N.More l m) v = V.Operations v
held (N.Cast m) v = V.Expr v
held N.LeadingCast v = V.Expr v
held N.MoreCasts v = V.Casts v
held (N.Unary m) v = V.Expr v
held N.LeadingUnary v = V.Expr v
held (N.Borrowed m) v = V.Borrowed v
held N.Postfix v = V.Idents v
held N.FieldName v = V.Ident v
held (N.Core m) v = V.Expr v
held N.AfterOpen v = V.Exprs v
held N.AfterFirst v = V.Exprs v
held N.Initial v = V.Initial v
held N.InitialValue v = V.MaybeExpr v
held (N.AfterName m) v = V.After v
held (N.AfterPanic m) v = V.After v
held (N.AfterAssert m) v = V.After v
held (N.AfterMem m) v = V.After v
held (N.AfterStd m) v = V.After v
held (N.NameMore m) v = V.After v
held (N.Applied m) v = V.Further v
held (N.AfterColons m) v = V.After v
held (N.AfterMemColons m) v = V.After v
held (N.AfterStdColons m) v = V.After v
held N.AfterStdMem v = V.InMem v
held N.AfterStdMemColons v = V.InMem v
held (N.AfterTurbo m) v = V.Further v
held N.AfterPath v = V.Calling v
held N.Message v = V.Nothing v
held N.AssertEnd v = V.Nothing v
held N.AfterAssertComma v = V.Nothing v
held N.AfterMessage v = V.Nothing v
held N.Pattern v = V.Pat v
held N.AfterPatternOpen v = V.Pats v
held N.AfterPattern v = V.Pats v
held N.FieldPattern v = V.FieldPat v
held N.FieldPatternValue v = V.MaybePat v
held N.PatternParts v = V.Given v
held N.GivenParts v = V.Given v
held N.AfterPatternName v = V.AfterName v
held N.AfterPatternMem v = V.AfterName v
held N.AfterPatternStd v = V.AfterName v
held N.AfterPatternColons v = V.AfterName v
held N.AfterPatternMemColons v = V.AfterName v
held N.AfterPatternStdColons v = V.AfterName v
held N.AfterPatternStdMem v = V.AfterMem v
