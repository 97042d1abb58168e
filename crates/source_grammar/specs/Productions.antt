-- The grammar: what each part may be replaced by (docs/LANGUAGE.md, "Grammar"). Where two ways begin alike, a part of its own
-- stands for what comes after that beginning. Written by tools/grammar.py.
use Rattle.std.specs.Prelude.{ℕ, List, [], ◌∷◌}
use Rattle.table_reader.specs.declared.symbol.Symbol.{Symbol}
use Rattle.table_reader.specs.declared.symbol.Symbol.TheVariants as S
use Rattle.source_grammar.specs.declared.terminal.Terminal.{Terminal}
use Rattle.source_grammar.specs.declared.terminal.Terminal.TheVariants as T
use Rattle.source_grammar.specs.declared.part.Part.{Part}
use Rattle.source_grammar.specs.declared.part.Part.TheVariants as N
use Rattle.source_grammar.specs.declared.part.Context.{Context}
use Rattle.source_grammar.specs.declared.part.Context.TheVariants as At
use Rattle.source_grammar.specs.declared.part.Level.{Level}
use Rattle.source_grammar.specs.declared.part.Level.TheVariants as L
use Rattle.source_grammar.specs.declared.part.Listed.{Listed}
use Rattle.source_grammar.specs.declared.part.Listed.TheVariants as Of

-- a token, and what comes after it
infixr 5 ◌▸◌
abbrev pub ◌▸◌ : Terminal → List (Symbol Terminal Part) → List (Symbol Terminal Part)
t ▸ rest = S.Token t ∷ rest

-- a part, and what comes after it
infixr 5 ◌▹◌
abbrev pub ◌▹◌ : Part → List (Symbol Terminal Part) → List (Symbol Terminal Part)
n ▹ rest = S.Part n ∷ rest

-- what a list is of
abbrev pub item : Listed → Symbol Terminal Part
item Of.Names = S.Token T.Identifier
item Of.TypeNames = S.Token T.Identifier
item Of.Parameters = S.Part N.Parameter
item Of.Fields = S.Part N.Field
item Of.TupleFields = S.Part N.TupleField
item Of.Variants = S.Part N.Variant
item Of.TypesInAngles = S.Part N.Type
item Of.Types = S.Part N.Type
item Of.Arguments = S.Part (N.Expression At.Free)
item Of.Initials = S.Part N.Initial
item Of.Patterns = S.Part N.Pattern
item Of.FieldPatterns = S.Part N.FieldPattern

-- the mark that closes a list
abbrev pub closing : Listed → Terminal
closing Of.Names = T.CloseBracket
closing Of.TypeNames = T.Greater
closing Of.Parameters = T.CloseBracket
closing Of.Fields = T.CloseBrace
closing Of.TupleFields = T.CloseBracket
closing Of.Variants = T.CloseBrace
closing Of.TypesInAngles = T.TypesEnd
closing Of.Types = T.CloseBracket
closing Of.Arguments = T.CloseBracket
closing Of.Initials = T.CloseBrace
closing Of.Patterns = T.CloseBracket
closing Of.FieldPatterns = T.CloseBrace

-- what stands between a level's operators: the next level
abbrev pub operand : Level → Context → Part
operand L.Or m = N.Level L.And m
operand L.And m = N.Level L.Compare m
operand L.Compare m = N.Level L.BitOr m
operand L.BitOr m = N.Level L.Xor m
operand L.Xor m = N.Level L.BitAnd m
operand L.BitAnd m = N.Level L.Shift m
operand L.Shift m = N.Level L.Sum m
operand L.Sum m = N.Level L.Product m
operand L.Product m = N.Cast m

-- the same of an operand that begins a statement or an arm's body
abbrev pub leading : Level → Part
leading L.Or = N.LeadingLevel L.And
leading L.And = N.LeadingLevel L.Compare
leading L.Compare = N.LeadingLevel L.BitOr
leading L.BitOr = N.LeadingLevel L.Xor
leading L.Xor = N.LeadingLevel L.BitAnd
leading L.BitAnd = N.LeadingLevel L.Shift
leading L.Shift = N.LeadingLevel L.Sum
leading L.Sum = N.LeadingLevel L.Product
leading L.Product = N.LeadingCast

-- the operators of a level
abbrev pub operator : Level → Terminal
operator L.Or = T.BarBar
operator L.And = T.AndAnd
operator L.Compare = T.CompareOp
operator L.BitOr = T.Bar
operator L.Xor = T.Caret
operator L.BitAnd = T.And
operator L.Shift = T.ShiftOp
operator L.Sum = T.SumOp
operator L.Product = T.ProductOp

abbrev pub productions : Part → List (List (Symbol Terminal Part))
-- A whole program: `Inner* Item*`.
productions N.Program = [] ∷ (T.Hash ▸ N.AfterHash ▹ []) ∷ (N.Item ▹ N.Items ▹ []) ∷ []
-- After its first `#`: an inner attribute, or one of the first item.
productions N.AfterHash =
    (T.Not ▸ T.OpenSquare ▸ T.Allow ▸ T.OpenBracket ▸ N.List Of.Names ▹ T.CloseSquare ▸ N.Program ▹ [])
    ∷ (N.Attribute ▹ N.Attributed ▹ N.Items ▹ []) ∷ []
-- `Item*`
productions N.Items = [] ∷ (T.Hash ▸ N.Attribute ▹ N.Attributed ▹ N.Items ▹ []) ∷ (N.Item ▹ N.Items ▹ []) ∷ []
-- An attribute after its `#`.
productions N.Attribute = (T.OpenSquare ▸ T.AttributeName ▸ T.OpenBracket ▸ N.List Of.Names ▹ T.CloseSquare ▸ []) ∷ []
-- What an attribute is of.
productions N.Attributed = (T.Hash ▸ N.Attribute ▹ N.Attributed ▹ []) ∷ (T.Pub ▸ N.Declaration ▹ []) ∷ (N.Declaration ▹ []) ∷ []
-- An item without attributes.
productions N.Item =
    (T.Pub ▸ N.Declaration ▹ [])
    ∷ (N.Declaration ▹ [])
    ∷ (T.Use ▸ T.Std ▸ T.Colons ▸ T.Mem ▸ T.Semicolon ▸ []) ∷ []
-- `Fn | Struct | Enum`
productions N.Declaration =
    (T.Fn ▸ T.Identifier ▸ N.Generics ▹ T.OpenBracket ▸ N.List Of.Parameters ▹ N.Result ▹ N.Block ▹ [])
    ∷ (T.Struct ▸ T.Identifier ▸ N.TypeParameters ▹ N.StructBody ▹ [])
    ∷ (T.Enum ▸ T.Identifier ▸ N.TypeParameters ▹ T.OpenBrace ▸ N.List Of.Variants ▹ []) ∷ []
-- `("<" List(Lifetime | Identifier) ">")?`
productions N.Generics = [] ∷ (T.Less ▸ N.Lifetimes ▹ []) ∷ []
-- Lifetimes, and then type parameters, up to `>`.
productions N.Lifetimes =
    (T.Greater ▸ [])
    ∷ (T.Lifetime ▸ N.MoreLifetimes ▹ [])
    ∷ (T.Identifier ▸ N.ListRest Of.TypeNames ▹ []) ∷ []
-- What follows a lifetime there.
productions N.MoreLifetimes = (T.Greater ▸ []) ∷ (T.Comma ▸ N.Lifetimes ▹ []) ∷ []
-- `TypeParameters?`
productions N.TypeParameters = [] ∷ (T.Less ▸ N.List Of.TypeNames ▹ []) ∷ []
-- A parameter of a function.
productions N.Parameter = (T.Mut ▸ T.Identifier ▸ T.Colon ▸ N.Type ▹ []) ∷ (T.Identifier ▸ T.Colon ▸ N.Type ▹ []) ∷ []
-- `("->" Type)?`
productions N.Result = [] ∷ (T.Arrow ▸ N.Type ▹ []) ∷ []
-- The fields of a struct.
productions N.StructBody =
    (T.OpenBrace ▸ N.List Of.Fields ▹ [])
    ∷ (T.OpenBracket ▸ N.List Of.TupleFields ▹ T.Semicolon ▸ [])
    ∷ (T.Semicolon ▸ []) ∷ []
-- `"pub"? Identifier ":" Type`
productions N.Field = (T.Pub ▸ T.Identifier ▸ T.Colon ▸ N.Type ▹ []) ∷ (T.Identifier ▸ T.Colon ▸ N.Type ▹ []) ∷ []
-- `"pub"? Type`
productions N.TupleField = (T.Pub ▸ N.Type ▹ []) ∷ (N.Type ▹ []) ∷ []
-- A variant of an enum.
productions N.Variant = (T.Identifier ▸ N.VariantBody ▹ []) ∷ []
-- `("(" List(Type) ")")?`
productions N.VariantBody = [] ∷ (T.OpenBracket ▸ N.List Of.Types ▹ []) ∷ []
-- `List(X)` and its closing mark.
productions (N.List x) = (closing x ▸ []) ∷ (item x ∷ (N.ListRest x ▹ [])) ∷ []
-- What follows an item of it.
productions (N.ListRest x) = (closing x ▸ []) ∷ (T.Comma ▸ N.List x ▹ []) ∷ []
-- A type.
productions N.Type =
    (T.IntWord ▸ [])
    ∷ (T.Bool ▸ [])
    ∷ (T.OpenBracket ▸ N.AfterTypeOpen ▹ [])
    ∷ (T.And ▸ N.BorrowLifetime ▹ N.BorrowMut ▹ N.Type ▹ [])
    ∷ (T.Box ▸ T.Less ▸ N.Type ▹ T.TypesEnd ▸ [])
    ∷ (T.Identifier ▸ N.TypeArguments ▹ []) ∷ []
-- `Lifetime?`
productions N.BorrowLifetime = [] ∷ (T.AnyLifetime ▸ []) ∷ []
-- `"mut"?`
productions N.BorrowMut = [] ∷ (T.Mut ▸ []) ∷ []
-- `("<" List(Type) ">")?`
productions N.TypeArguments = [] ∷ (T.Less ▸ N.List Of.TypesInAngles ▹ []) ∷ []
-- A type after its `(`.
productions N.AfterTypeOpen = (T.CloseBracket ▸ []) ∷ (N.Type ▹ N.AfterType ▹ []) ∷ []
-- The same after its first type.
productions N.AfterType = (T.CloseBracket ▸ []) ∷ (T.Comma ▸ N.Type ▹ N.ListRest Of.Types ▹ []) ∷ []
-- A block.
productions N.Block = (T.OpenBrace ▸ N.Statements ▹ []) ∷ []
-- What is left of a block.
productions N.Statements = (T.CloseBrace ▸ []) ∷ (N.MoreStatements ▹ []) ∷ []
-- The same, where it isn't over.
productions N.MoreStatements =
    (T.Semicolon ▸ N.Statements ▹ [])
    ∷ (T.Let ▸ N.Pattern ▹ N.LetType ▹ N.LetValue ▹ T.Semicolon ▸ N.Statements ▹ [])
    ∷ (N.BlockLike ▹ N.AfterBlockLike ▹ [])
    ∷ (N.LeadingExpression ▹ N.AfterExpression ▹ []) ∷ []
-- What is left of a block after a statement that ends at its last brace.
productions N.AfterBlockLike = (T.CloseBrace ▸ []) ∷ (N.MoreStatements ▹ []) ∷ []
-- What is left of a block after an expression.
productions N.AfterExpression = (T.CloseBrace ▸ []) ∷ (T.Semicolon ▸ N.Statements ▹ []) ∷ []
-- `(":" Type)?`
productions N.LetType = [] ∷ (T.Colon ▸ N.Type ▹ []) ∷ []
-- `("=" Expression)?`
productions N.LetValue = [] ∷ (T.Equals ▸ N.Expression At.Free ▹ []) ∷ []
-- An expression that ends at its last brace.
productions N.BlockLike =
    (N.Block ▹ [])
    ∷ (N.If ▹ [])
    ∷ (T.Match ▸ N.Expression At.Condition ▹ T.OpenBrace ▸ N.Arms ▹ [])
    ∷ (T.Loop ▸ N.Block ▹ [])
    ∷ (T.While ▸ N.AfterWhile ▹ []) ∷ []
-- A `while` after this word.
productions N.AfterWhile =
    (N.Expression At.Condition ▹ N.Block ▹ [])
    ∷ (T.Let ▸ N.Pattern ▹ T.Equals ▸ N.Expression At.Condition ▹ N.Block ▹ []) ∷ []
-- An `if`.
productions N.If = (T.If ▸ N.AfterIf ▹ []) ∷ []
-- The same after this word.
productions N.AfterIf =
    (N.Expression At.Condition ▹ N.Block ▹ N.Else ▹ [])
    ∷ (T.Let ▸ N.Pattern ▹ T.Equals ▸ N.Expression At.Condition ▹ N.Block ▹ N.Else ▹ []) ∷ []
-- `("else" (If | Block))?`
productions N.Else = [] ∷ (T.Else ▸ N.AfterElse ▹ []) ∷ []
-- The same after this word.
productions N.AfterElse = (N.If ▹ []) ∷ (N.Block ▹ []) ∷ []
-- Arms up to `}`.
productions N.Arms = (T.CloseBrace ▸ []) ∷ (N.Pattern ▹ T.Gives ▸ N.ArmBody ▹ []) ∷ []
-- The body of an arm, and what is left of the arms.
productions N.ArmBody = (N.BlockLike ▹ N.AfterBlockArm ▹ []) ∷ (N.LeadingExpression ▹ N.AfterArm ▹ []) ∷ []
-- What is left of the arms after a body that ends at its last brace.
productions N.AfterBlockArm = (T.Comma ▸ N.Arms ▹ []) ∷ (T.CloseBrace ▸ []) ∷ (N.Pattern ▹ T.Gives ▸ N.ArmBody ▹ []) ∷ []
-- What is left of the arms after another body.
productions N.AfterArm = (T.Comma ▸ N.Arms ▹ []) ∷ (T.CloseBrace ▸ []) ∷ []
-- An expression. In a condition a block follows, so `return` and `break` have an operand there.
productions (N.Expression At.Condition) =
    (T.Return ▸ N.Expression At.Condition ▹ [])
    ∷ (T.Break ▸ N.Expression At.Condition ▹ [])
    ∷ (T.Continue ▸ [])
    ∷ (N.Level L.Or At.Condition ▹ N.MoreAssign At.Condition ▹ []) ∷ []
productions (N.Expression At.Free) =
    (T.Return ▸ N.Operand ▹ [])
    ∷ (T.Break ▸ N.Operand ▹ [])
    ∷ (T.Continue ▸ [])
    ∷ (N.Level L.Or At.Free ▹ N.MoreAssign At.Free ▹ []) ∷ []
-- An expression that begins a statement or the body of an arm, and with no part that ends at its last brace.
productions N.LeadingExpression =
    (T.Return ▸ N.Operand ▹ [])
    ∷ (T.Break ▸ N.Operand ▹ [])
    ∷ (T.Continue ▸ [])
    ∷ (N.LeadingLevel L.Or ▹ N.MoreAssign At.Free ▹ []) ∷ []
-- `Expression?`
productions N.Operand = [] ∷ (N.Expression At.Free ▹ []) ∷ []
-- What makes an assignment.
productions (N.MoreAssign m) = [] ∷ (T.AssignOp ▸ N.Level L.Or m ▹ []) ∷ []
-- Operands of a level and its operators between them.
productions (N.Level l m) = (operand l m ▹ N.More l m ▹ []) ∷ []
-- The same at the beginning of a statement or of an arm's body.
productions (N.LeadingLevel l) = (leading l ▹ N.More l At.Free ▹ []) ∷ []
-- What follows the first operand.
productions (N.More L.Compare m) = [] ∷ (operator L.Compare ▸ operand L.Compare m ▹ []) ∷ []
productions (N.More l m) = [] ∷ (operator l ▸ operand l m ▹ N.More l m ▹ []) ∷ []
-- An operand with casts.
productions (N.Cast m) = (N.Unary m ▹ N.MoreCasts ▹ []) ∷ []
-- The same at the beginning of a statement or of an arm's body.
productions N.LeadingCast = (N.LeadingUnary ▹ N.MoreCasts ▹ []) ∷ []
-- `("as" Int)*`
productions N.MoreCasts = [] ∷ (T.As ▸ T.IntWord ▸ N.MoreCasts ▹ []) ∷ []
-- An operand with unary operators and fields.
productions (N.Unary m) =
    (T.Minus ▸ N.Unary m ▹ [])
    ∷ (T.Not ▸ N.Unary m ▹ [])
    ∷ (T.Star ▸ N.Unary m ▹ [])
    ∷ (T.And ▸ N.Borrowed m ▹ [])
    ∷ (N.Core m ▹ N.Postfix ▹ [])
    ∷ (N.BlockLike ▹ N.Postfix ▹ []) ∷ []
-- The same at the beginning of a statement or of an arm's body.
productions N.LeadingUnary =
    (T.Minus ▸ N.Unary At.Free ▹ [])
    ∷ (T.Not ▸ N.Unary At.Free ▹ [])
    ∷ (T.Star ▸ N.Unary At.Free ▹ [])
    ∷ (T.And ▸ N.Borrowed At.Free ▹ [])
    ∷ (N.Core At.Free ▹ N.Postfix ▹ []) ∷ []
-- A borrow after its `&`.
productions (N.Borrowed m) = (T.Mut ▸ N.Unary m ▹ []) ∷ (N.Unary m ▹ []) ∷ []
-- `("." (Identifier | Digits))*`
productions N.Postfix = [] ∷ (T.Dot ▸ N.FieldName ▹ N.Postfix ▹ []) ∷ []
-- A field by its name or number.
productions N.FieldName = (T.Identifier ▸ []) ∷ (T.Digits ▸ []) ∷ []
-- An operand without unary operators, fields, and braces at its end.
productions (N.Core m) =
    (T.Integer ▸ [])
    ∷ (T.BoolLiteral ▸ [])
    ∷ (T.OpenBracket ▸ N.AfterOpen ▹ [])
    ∷ (T.PathName ▸ N.AfterName m ▹ [])
    ∷ (T.Mem ▸ N.AfterMem m ▹ [])
    ∷ (T.Std ▸ N.AfterStd m ▹ [])
    ∷ (T.Box ▸ T.Colons ▸ T.New ▸ N.AfterPath ▹ [])
    ∷ (T.PanicName ▸ N.AfterPanic m ▹ [])
    ∷ (T.Assert ▸ N.AfterAssert m ▹ []) ∷ []
-- An expression in brackets, after `(`.
productions N.AfterOpen = (T.CloseBracket ▸ []) ∷ (N.Expression At.Free ▹ N.AfterFirst ▹ []) ∷ []
-- The same after its first expression.
productions N.AfterFirst = (T.CloseBracket ▸ []) ∷ (T.Comma ▸ N.Expression At.Free ▹ N.ListRest Of.Arguments ▹ []) ∷ []
-- `Identifier (":" Expression)?`
productions N.Initial = (T.Identifier ▸ N.InitialValue ▹ []) ∷ []
-- `(":" Expression)?`
productions N.InitialValue = [] ∷ (T.Colon ▸ N.Expression At.Free ▹ []) ∷ []
-- What follows the first identifier of a path.
productions (N.AfterName m) = [] ∷ (N.NameMore m ▹ []) ∷ []
-- The same after `panic` or `unreachable`.
productions (N.AfterPanic m) = [] ∷ (N.NameMore m ▹ []) ∷ (T.Not ▸ T.OpenBracket ▸ N.Message ▹ []) ∷ []
-- The same after `assert`.
productions (N.AfterAssert m) = [] ∷ (N.NameMore m ▹ []) ∷ (T.Not ▸ T.OpenBracket ▸ N.Expression At.Free ▹ N.AssertEnd ▹ []) ∷ []
-- The same after `mem`.
productions (N.AfterMem m) = [] ∷ (N.Applied m ▹ []) ∷ (T.Colons ▸ N.AfterMemColons m ▹ []) ∷ []
-- The same after `std`.
productions (N.AfterStd m) = [] ∷ (N.Applied m ▹ []) ∷ (T.Colons ▸ N.AfterStdColons m ▹ []) ∷ []
-- What follows an identifier that does not stand alone.
productions (N.NameMore m) = (N.Applied m ▹ []) ∷ (T.Colons ▸ N.AfterColons m ▹ []) ∷ []
-- What a path is applied to.
productions (N.Applied At.Free) = (T.OpenBracket ▸ N.List Of.Arguments ▹ []) ∷ (T.OpenBrace ▸ N.List Of.Initials ▹ []) ∷ []
productions (N.Applied At.Condition) = (T.OpenBracket ▸ N.List Of.Arguments ▹ []) ∷ []
-- What follows an identifier and `::`.
productions (N.AfterColons m) = (T.Less ▸ N.List Of.TypesInAngles ▹ N.AfterTurbo m ▹ []) ∷ (T.Identifier ▸ N.AfterPath ▹ []) ∷ []
-- The same after `mem` and `::`.
productions (N.AfterMemColons m) =
    (T.Less ▸ N.List Of.TypesInAngles ▹ N.AfterTurbo m ▹ [])
    ∷ (T.SwapName ▸ N.AfterPath ▹ [])
    ∷ (T.NotSwap ▸ N.AfterPath ▹ []) ∷ []
-- The same after `std` and `::`.
productions (N.AfterStdColons m) =
    (T.Less ▸ N.List Of.TypesInAngles ▹ N.AfterTurbo m ▹ [])
    ∷ (T.Mem ▸ N.AfterStdMem ▹ [])
    ∷ (T.NotMem ▸ N.AfterPath ▹ []) ∷ []
-- What follows `std::mem`.
productions N.AfterStdMem = [] ∷ (T.OpenBracket ▸ N.List Of.Arguments ▹ []) ∷ (T.Colons ▸ N.AfterStdMemColons ▹ []) ∷ []
-- What follows `std::mem::`.
productions N.AfterStdMemColons =
    (T.Less ▸ N.List Of.TypesInAngles ▹ T.OpenBracket ▸ N.List Of.Arguments ▹ [])
    ∷ (T.SwapName ▸ N.AfterPath ▹ []) ∷ []
-- What follows an identifier and types after it.
productions (N.AfterTurbo m) = (N.Applied m ▹ []) ∷ (T.Colons ▸ T.Identifier ▸ N.AfterPath ▹ []) ∷ []
-- What follows a path's last identifier.
productions N.AfterPath =
    []
    ∷ (T.OpenBracket ▸ N.List Of.Arguments ▹ [])
    ∷ (T.Colons ▸ T.Less ▸ N.List Of.TypesInAngles ▹ T.OpenBracket ▸ N.List Of.Arguments ▹ []) ∷ []
-- `String? ")"`
productions N.Message = (T.CloseBracket ▸ []) ∷ (T.Text ▸ T.CloseBracket ▸ []) ∷ []
-- `("," String)? ","? ")"`
productions N.AssertEnd = (T.CloseBracket ▸ []) ∷ (T.Comma ▸ N.AfterAssertComma ▹ []) ∷ []
-- The same after a comma.
productions N.AfterAssertComma = (T.CloseBracket ▸ []) ∷ (T.Text ▸ N.AfterMessage ▹ []) ∷ []
-- The same after the string.
productions N.AfterMessage = (T.CloseBracket ▸ []) ∷ (T.Comma ▸ T.CloseBracket ▸ []) ∷ []
-- A pattern.
productions N.Pattern =
    (T.Wild ▸ [])
    ∷ (T.Mut ▸ T.Identifier ▸ [])
    ∷ (T.Minus ▸ T.Integer ▸ [])
    ∷ (T.Integer ▸ [])
    ∷ (T.BoolLiteral ▸ [])
    ∷ (T.OpenBracket ▸ N.AfterPatternOpen ▹ [])
    ∷ (T.PatternName ▸ N.AfterPatternName ▹ [])
    ∷ (T.Mem ▸ N.AfterPatternMem ▹ [])
    ∷ (T.Std ▸ N.AfterPatternStd ▹ [])
    ∷ (T.Box ▸ T.Colons ▸ T.New ▸ N.PatternParts ▹ []) ∷ []
-- A pattern in brackets, after `(`.
productions N.AfterPatternOpen = (T.CloseBracket ▸ []) ∷ (N.Pattern ▹ N.AfterPattern ▹ []) ∷ []
-- The same after its first pattern.
productions N.AfterPattern = (T.CloseBracket ▸ []) ∷ (T.Comma ▸ N.Pattern ▹ N.ListRest Of.Patterns ▹ []) ∷ []
-- `Identifier (":" Pattern)?`
productions N.FieldPattern = (T.Identifier ▸ N.FieldPatternValue ▹ []) ∷ []
-- `(":" Pattern)?`
productions N.FieldPatternValue = [] ∷ (T.Colon ▸ N.Pattern ▹ []) ∷ []
-- The parts of a constructor, or none.
productions N.PatternParts = [] ∷ (N.GivenParts ▹ []) ∷ []
-- The parts of a constructor.
productions N.GivenParts = (T.OpenBracket ▸ N.List Of.Patterns ▹ []) ∷ (T.OpenBrace ▸ N.List Of.FieldPatterns ▹ []) ∷ []
-- What follows the first identifier of a pattern.
productions N.AfterPatternName = [] ∷ (N.GivenParts ▹ []) ∷ (T.Colons ▸ N.AfterPatternColons ▹ []) ∷ []
-- The same after `mem`.
productions N.AfterPatternMem = [] ∷ (N.GivenParts ▹ []) ∷ (T.Colons ▸ N.AfterPatternMemColons ▹ []) ∷ []
-- The same after `std`.
productions N.AfterPatternStd = [] ∷ (N.GivenParts ▹ []) ∷ (T.Colons ▸ N.AfterPatternStdColons ▹ []) ∷ []
-- What follows an identifier and `::`.
productions N.AfterPatternColons =
    (T.Less ▸ N.List Of.TypesInAngles ▹ T.Colons ▸ T.Identifier ▸ N.PatternParts ▹ [])
    ∷ (T.Identifier ▸ N.PatternParts ▹ []) ∷ []
-- The same after `mem` and `::`.
productions N.AfterPatternMemColons =
    (T.Less ▸ N.List Of.TypesInAngles ▹ T.Colons ▸ T.Identifier ▸ N.PatternParts ▹ [])
    ∷ (T.SwapName ▸ N.PatternParts ▹ [])
    ∷ (T.NotSwap ▸ N.PatternParts ▹ []) ∷ []
-- The same after `std` and `::`.
productions N.AfterPatternStdColons =
    (T.Less ▸ N.List Of.TypesInAngles ▹ T.Colons ▸ T.Identifier ▸ N.PatternParts ▹ [])
    ∷ (T.Mem ▸ N.AfterPatternStdMem ▹ [])
    ∷ (T.NotMem ▸ N.PatternParts ▹ []) ∷ []
-- What follows `std::mem`.
productions N.AfterPatternStdMem = [] ∷ (N.GivenParts ▹ []) ∷ (T.Colons ▸ T.SwapName ▸ N.PatternParts ▹ []) ∷ []

-- how many parts can begin one another
abbrev pub rank : ℕ
rank = 14
