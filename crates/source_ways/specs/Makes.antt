-- For each production of the grammar, in order, what is made of it (docs/LANGUAGE.md, "Grammar", "Read as", "Spans").
-- Written by tools/source_ways.py.
use Rattle.std.specs.Prelude.{true, false, [], ◌∷◌, Some, None}
use Rattle.source_grammar.specs.declared.part.Part.{Part}
use Rattle.source_grammar.specs.declared.part.Part.TheVariants as N
use Rattle.source_grammar.specs.declared.part.Context.TheVariants as At
use Rattle.source_grammar.specs.declared.part.Level.TheVariants as L
use Rattle.source_grammar.specs.declared.part.Listed.{Listed}
use Rattle.source_grammar.specs.declared.part.Listed.TheVariants as Of
use Rattle.source_grammar.specs.Productions.{item, productions}
use Rattle.rust_ast.specs.Source as s
use Rattle.rust_ast.specs.SourceTypes as t
use Rattle.rust_ast.specs.SourcePatterns as p
use Rattle.source_ways.specs.declared.paths.InMem.TheVariants as in_mem
use Rattle.source_ways.specs.declared.constructors.Given.TheVariants as given
use Rattle.source_ways.specs.declared.constructors.AfterName.TheVariants as name
use Rattle.source_ways.specs.declared.constructors.AfterMem.TheVariants as after_mem
use Rattle.source_ways.specs.Carriers.{Value, Listing, Makes}
use Rattle.source_ways.specs.Says.{ident, lifetime}
use Rattle.source_ways.specs.Types as types
use Rattle.source_ways.specs.Patterns as patterns
use Rattle.source_ways.specs.Paths as paths
use Rattle.source_ways.specs.Blocks as blocks
use Rattle.source_ways.specs.Operators as operators
use Rattle.source_ways.specs.Expressions as exprs
use Rattle.source_ways.specs.Items as items

-- an item of a list: an identifier, or what a part is read as
abbrev pub listed : (x : Listed) → Value (item x) → Listing x
listed Of.Names v = ident v
listed Of.TypeNames v = ident v
listed Of.Parameters v = v.value
listed Of.Fields v = v.value
listed Of.TupleFields v = v.value
listed Of.Variants v = v.value
listed Of.TypesInAngles v = v.value
listed Of.Types v = v.value
listed Of.Arguments v = v.value
listed Of.Initials v = v.value
listed Of.Patterns v = v.value
listed Of.FieldPatterns v = v.value

-- in the order of `productions`
abbrev pub makes : (n : Part) → Makes n (productions n)
-- nothing
-- '#' AfterHash
-- Item Items
makes N.Program =
    (λ whole. [], (λ whole _ items. items.value, (items.first_item, tt)))
-- '!' '[' 'allow' '(' List(Names) ']' Program
-- Attribute Attributed Items
makes N.AfterHash =
    (λ whole _ _ _ _ _ _ items. items.value, (λ whole _ item items. item.value ∷ items.value, tt))
-- nothing
-- '#' Attribute Attributed Items
-- Item Items
makes N.Items =
    (λ whole. [], (λ whole _ _ item items. item.value ∷ items.value, (items.first_item, tt)))
-- '[' AttributeName '(' List(Names) ']'
makes N.Attribute =
    (λ whole _ _ _ _ _. tt, tt)
-- '#' Attribute Attributed
-- 'pub' Declaration
-- Declaration
makes N.Attributed =
    (λ whole _ _ item. item.value, (λ whole _ item. item.value, (λ whole item. item.value, tt)))
-- 'pub' Declaration
-- Declaration
-- 'use' 'std' '::' 'mem' ';'
makes N.Item =
    (λ whole _ item. item.value, (λ whole item. item.value, (λ whole _ _ _ _ _. items.use_mem, tt)))
-- 'fn' Identifier Generics '(' List(Parameters) Result Block
-- 'struct' Identifier TypeParameters StructBody
-- 'enum' Identifier TypeParameters '{' List(Variants)
makes N.Declaration =
    (items.function, (items.structure, (items.enumeration, tt)))
-- nothing
-- '<' Lifetimes
makes N.Generics =
    (λ whole. items.no_generics, (λ whole _ generics. generics.value, tt))
-- '>'
-- Lifetime MoreLifetimes
-- Identifier ListRest(TypeNames)
makes N.Lifetimes =
    (λ whole _. items.no_generics, (items.first_lifetime, (items.first_type_parameter, tt)))
-- '>'
-- ',' Lifetimes
makes N.MoreLifetimes =
    (λ whole _. items.no_generics, (λ whole _ generics. generics.value, tt))
-- nothing
-- '<' List(TypeNames)
makes N.TypeParameters =
    (λ whole. [], (λ whole _ names. names.value, tt))
-- 'mut' Identifier ':' Type
-- Identifier ':' Type
makes N.Parameter =
    (λ whole _ name _ ty. items.parameter true name ty, (λ whole name _ ty. items.parameter false name ty, tt))
-- nothing
-- '->' Type
makes N.Result =
    (λ whole. None, (λ whole _ ty. Some ty.value, tt))
-- '{' List(Fields)
-- '(' List(TupleFields) ';'
-- ';'
makes N.StructBody =
    (items.braces, (items.brackets, (λ whole _. items.no_fields, tt)))
-- 'pub' Identifier ':' Type
-- Identifier ':' Type
makes N.Field =
    (λ whole _ name _ ty. items.field name ty, (λ whole name _ ty. items.field name ty, tt))
-- 'pub' Type
-- Type
makes N.TupleField =
    (λ whole _ ty. ty.value, (λ whole ty. ty.value, tt))
-- Identifier VariantBody
makes N.Variant =
    (items.variant, tt)
-- nothing
-- '(' List(Types)
makes N.VariantBody =
    (λ whole. [], (λ whole _ tys. tys.value, tt))
-- closing(x)
-- item(x) ListRest(x)
makes (N.List x) =
    (λ whole _. [], (λ whole one more. listed x one ∷ more.value, tt))
-- closing(x)
-- ',' List(x)
makes (N.ListRest x) =
    (λ whole _. [], (λ whole _ more. more.value, tt))
-- IntWord
-- 'bool'
-- '(' AfterTypeOpen
-- '&' BorrowLifetime BorrowMut Type
-- 'Box' '<' Type TypesEnd
-- Identifier TypeArguments
makes N.Type =
    (types.int_type, (λ whole word. t.bool whole, (types.bracketed_type, (types.reference_type, (types.boxed_type, (types.named_type, tt))))))
-- nothing
-- AnyLifetime
makes N.BorrowLifetime =
    (λ whole. t.elided, (λ whole life. lifetime life, tt))
-- nothing
-- 'mut'
makes N.BorrowMut =
    (λ whole. false, (λ whole _. true, tt))
-- nothing
-- '<' List(TypesInAngles)
makes N.TypeArguments =
    (λ whole. [], (λ whole _ tys. tys.value, tt))
-- ')'
-- Type AfterType
makes N.AfterTypeOpen =
    (λ whole _. [], (λ whole ty more. ty.value ∷ more.value, tt))
-- ')'
-- ',' Type ListRest(Types)
makes N.AfterType =
    (λ whole _. [], (λ whole _ ty more. ty.value ∷ more.value, tt))
-- '{' Statements
makes N.Block =
    (blocks.block, tt)
-- '}'
-- MoreStatements
makes N.Statements =
    (blocks.ended, (λ whole body. body.value, tt))
-- ';' Statements
-- 'let' Pattern LetType LetValue ';' Statements
-- BlockLike AfterBlockLike
-- LeadingExpression AfterExpression
makes N.MoreStatements =
    (λ whole _ body. body.value, (blocks.let_statement, (blocks.block_like_first, (blocks.expression_first, tt))))
-- '}'
-- MoreStatements
makes N.AfterBlockLike =
    (λ whole _. None, (λ whole body. Some body.value, tt))
-- '}'
-- ';' Statements
makes N.AfterExpression =
    (λ whole _. None, (λ whole _ body. Some body.value, tt))
-- nothing
-- ':' Type
makes N.LetType =
    (λ whole. None, (λ whole _ ty. Some ty.value, tt))
-- nothing
-- '=' Expression(Free)
makes N.LetValue =
    (λ whole. None, (λ whole _ value. Some value.value, tt))
-- Block
-- If
-- 'match' Expression(Condition) '{' Arms
-- 'loop' Block
-- 'while' AfterWhile
makes N.BlockLike =
    (blocks.inner_block, (λ whole e. e.value, (blocks.match_expression, (blocks.loop_expression, (blocks.while_expression, tt)))))
-- Expression(Condition) Block
-- 'let' Pattern '=' Expression(Condition) Block
makes N.AfterWhile =
    (λ whole e body. blocks.holds e body None, (λ whole _ pat _ e body. blocks.matches pat e body None, tt))
-- 'if' AfterIf
makes N.If =
    (blocks.if_expression, tt)
-- Expression(Condition) Block Else
-- 'let' Pattern '=' Expression(Condition) Block Else
makes N.AfterIf =
    (λ whole e body other. blocks.holds e body other.value, (λ whole _ pat _ e body other. blocks.matches pat e body other.value, tt))
-- nothing
-- 'else' AfterElse
makes N.Else =
    (λ whole. None, (λ whole _ e. Some e.value, tt))
-- If
-- Block
makes N.AfterElse =
    (λ whole e. e.value, (blocks.inner_block, tt))
-- '}'
-- Pattern '=>' ArmBody
makes N.Arms =
    (λ whole _. [], (blocks.arm, tt))
-- BlockLike AfterBlockArm
-- LeadingExpression AfterArm
makes N.ArmBody =
    (blocks.arm_body, (blocks.arm_body, tt))
-- ',' Arms
-- '}'
-- Pattern '=>' ArmBody
makes N.AfterBlockArm =
    (λ whole _ arms. arms.value, (λ whole _. [], (blocks.arm, tt)))
-- ',' Arms
-- '}'
makes N.AfterArm =
    (λ whole _ arms. arms.value, (λ whole _. [], tt))
-- 'return' Expression(Condition)
-- 'break' Expression(Condition)
-- 'continue'
-- Level(Or, Condition) MoreAssign(Condition)
makes (N.Expression At.Condition) =
    (exprs.returned_value, (exprs.broken_value, (λ whole _. s.go_on whole, (operators.grouped, tt))))
-- 'return' Operand
-- 'break' Operand
-- 'continue'
-- Level(Or, Free) MoreAssign(Free)
makes (N.Expression At.Free) =
    (exprs.returned, (exprs.broken, (λ whole _. s.go_on whole, (operators.grouped, tt))))
-- 'return' Operand
-- 'break' Operand
-- 'continue'
-- LeadingLevel(Or) MoreAssign(Free)
makes N.LeadingExpression =
    (exprs.returned, (exprs.broken, (λ whole _. s.go_on whole, (operators.grouped, tt))))
-- nothing
-- Expression(Free)
makes N.Operand =
    (λ whole. None, (λ whole e. Some e.value, tt))
-- nothing
-- AssignOp Level(Or, m)
makes (N.MoreAssign m) =
    (λ whole. [], (operators.one_operation, tt))
-- operand(l, m) More(l, m)
makes (N.Level l m) =
    (λ whole first more. operators.grouped whole (operators.operand_of l m first) more, tt)
-- leading(l) More(l, Free)
makes (N.LeadingLevel l) =
    (λ whole first more. operators.grouped whole (operators.leading_of l first) more, tt)
-- nothing
-- operator(Or) operand(Or, m) More(Or, m)
makes (N.More L.Or m) =
    (λ whole. [], (operators.next_operation, tt))
-- nothing
-- operator(And) operand(And, m) More(And, m)
makes (N.More L.And m) =
    (λ whole. [], (operators.next_operation, tt))
-- nothing
-- operator(Compare) operand(Compare, m)
makes (N.More L.Compare m) =
    (λ whole. [], (operators.one_operation, tt))
-- nothing
-- operator(BitOr) operand(BitOr, m) More(BitOr, m)
makes (N.More L.BitOr m) =
    (λ whole. [], (operators.next_operation, tt))
-- nothing
-- operator(Xor) operand(Xor, m) More(Xor, m)
makes (N.More L.Xor m) =
    (λ whole. [], (operators.next_operation, tt))
-- nothing
-- operator(BitAnd) operand(BitAnd, m) More(BitAnd, m)
makes (N.More L.BitAnd m) =
    (λ whole. [], (operators.next_operation, tt))
-- nothing
-- operator(Shift) operand(Shift, m) More(Shift, m)
makes (N.More L.Shift m) =
    (λ whole. [], (operators.next_operation, tt))
-- nothing
-- operator(Sum) operand(Sum, m) More(Sum, m)
makes (N.More L.Sum m) =
    (λ whole. [], (operators.next_operation, tt))
-- nothing
-- operator(Product) operand(Product, m) More(Product, m)
makes (N.More L.Product m) =
    (λ whole. [], (operators.next_operation, tt))
-- Unary(m) MoreCasts
makes (N.Cast m) =
    (operators.casts, tt)
-- LeadingUnary MoreCasts
makes N.LeadingCast =
    (operators.casts, tt)
-- nothing
-- 'as' IntWord MoreCasts
makes N.MoreCasts =
    (λ whole. [], (operators.one_cast, tt))
-- '-' Unary(m)
-- '!' Unary(m)
-- '*' Unary(m)
-- '&' Borrowed(m)
-- Core(m) Postfix
-- BlockLike Postfix
makes (N.Unary m) =
    (operators.minus, (operators.negation, (operators.dereference, (operators.borrow, (operators.with_fields, (operators.with_fields, tt))))))
-- '-' Unary(Free)
-- '!' Unary(Free)
-- '*' Unary(Free)
-- '&' Borrowed(Free)
-- Core(Free) Postfix
makes N.LeadingUnary =
    (operators.minus, (operators.negation, (operators.dereference, (operators.borrow, (operators.with_fields, tt)))))
-- 'mut' Unary(m)
-- Unary(m)
makes (N.Borrowed m) =
    (λ whole _ e. operators.borrowed true e, (λ whole e. operators.borrowed false e, tt))
-- nothing
-- '.' FieldName Postfix
makes N.Postfix =
    (λ whole. [], (λ whole _ name more. name.value ∷ more.value, tt))
-- Identifier
-- Digits
makes N.FieldName =
    (λ whole name. ident name, (λ whole digits. ident digits, tt))
-- Integer
-- BoolLiteral
-- '(' AfterOpen
-- PathName AfterName(m)
-- 'mem' AfterMem(m)
-- 'std' AfterStd(m)
-- 'Box' '::' 'new' AfterPath
-- PanicName AfterPanic(m)
-- 'assert' AfterAssert(m)
makes (N.Core m) =
    (exprs.number_expression, (exprs.truth_expression, (exprs.bracketed, (paths.named, (paths.named, (paths.named, (paths.box_new, (paths.named, (paths.named, tt)))))))))
-- ')'
-- Expression(Free) AfterFirst
makes N.AfterOpen =
    (λ whole _. [], (λ whole e more. e.value ∷ more.value, tt))
-- ')'
-- ',' Expression(Free) ListRest(Arguments)
makes N.AfterFirst =
    (λ whole _. [], (λ whole _ e more. e.value ∷ more.value, tt))
-- Identifier InitialValue
makes N.Initial =
    (exprs.initial, tt)
-- nothing
-- ':' Expression(Free)
makes N.InitialValue =
    (λ whole. None, (λ whole _ e. Some e.value, tt))
-- nothing
-- NameMore(m)
makes (N.AfterName m) =
    (λ whole. paths.alone, (λ whole rest. rest.value, tt))
-- nothing
-- NameMore(m)
-- '!' '(' Message
makes (N.AfterPanic m) =
    (λ whole. paths.alone, (λ whole rest. rest.value, (λ whole _ _ _. paths.panics, tt)))
-- nothing
-- NameMore(m)
-- '!' '(' Expression(Free) AssertEnd
makes (N.AfterAssert m) =
    (λ whole. paths.alone, (λ whole rest. rest.value, (paths.asserts, tt)))
-- nothing
-- Applied(m)
-- '::' AfterMemColons(m)
makes (N.AfterMem m) =
    (λ whole. paths.alone, (paths.applied, (λ whole _ rest. rest.value, tt)))
-- nothing
-- Applied(m)
-- '::' AfterStdColons(m)
makes (N.AfterStd m) =
    (λ whole. paths.alone, (paths.applied, (λ whole _ rest. rest.value, tt)))
-- Applied(m)
-- '::' AfterColons(m)
makes (N.NameMore m) =
    (paths.applied, (λ whole _ rest. rest.value, tt))
-- '(' List(Arguments)
-- '{' List(Initials)
makes (N.Applied At.Free) =
    (paths.arguments, (paths.fields, tt))
-- '(' List(Arguments)
makes (N.Applied At.Condition) =
    (paths.arguments, tt)
-- '<' List(TypesInAngles) AfterTurbo(m)
-- Identifier AfterPath
makes (N.AfterColons m) =
    (paths.with_types, (paths.second_name, tt))
-- '<' List(TypesInAngles) AfterTurbo(m)
-- SwapName AfterPath
-- NotSwap AfterPath
makes (N.AfterMemColons m) =
    (paths.with_types, (paths.built_in_name, (paths.second_name, tt)))
-- '<' List(TypesInAngles) AfterTurbo(m)
-- 'mem' AfterStdMem
-- NotMem AfterPath
makes (N.AfterStdColons m) =
    (paths.with_types, (paths.std_mem, (paths.second_name, tt)))
-- nothing
-- '(' List(Arguments)
-- '::' AfterStdMemColons
makes N.AfterStdMem =
    (λ whole. in_mem.Second paths.not_called, (λ whole bracket exprs. in_mem.Second (paths.plain_call bracket exprs), (λ whole _ rest. rest.value, tt)))
-- '<' List(TypesInAngles) '(' List(Arguments)
-- SwapName AfterPath
makes N.AfterStdMemColons =
    (λ whole _ tys _ exprs. in_mem.Second (paths.call_with_types tys exprs), (paths.std_built_in, tt))
-- Applied(m)
-- '::' Identifier AfterPath
makes (N.AfterTurbo m) =
    (λ whole more. more.value, (paths.later_name, tt))
-- nothing
-- '(' List(Arguments)
-- '::' '<' List(TypesInAngles) '(' List(Arguments)
makes N.AfterPath =
    (λ whole. paths.not_called, (λ whole bracket exprs. paths.plain_call bracket exprs, (λ whole _ _ tys _ exprs. paths.call_with_types tys exprs, tt)))
-- ')'
-- Text ')'
makes N.Message =
    (λ whole _. tt, (λ whole _ _. tt, tt))
-- ')'
-- ',' AfterAssertComma
makes N.AssertEnd =
    (λ whole _. tt, (λ whole _ _. tt, tt))
-- ')'
-- Text AfterMessage
makes N.AfterAssertComma =
    (λ whole _. tt, (λ whole _ _. tt, tt))
-- ')'
-- ',' ')'
makes N.AfterMessage =
    (λ whole _. tt, (λ whole _ _. tt, tt))
-- '_'
-- 'mut' Identifier
-- '-' Integer
-- Integer
-- BoolLiteral
-- '(' AfterPatternOpen
-- PatternName AfterPatternName
-- 'mem' AfterPatternMem
-- 'std' AfterPatternStd
-- 'Box' '::' 'new' PatternParts
makes N.Pattern =
    (λ whole _. p.wild whole, (patterns.binding, (patterns.negative_pattern, (patterns.number_pattern, (patterns.truth_pattern, (patterns.bracketed_pattern, (patterns.named_pattern, (patterns.named_pattern, (patterns.named_pattern, (patterns.box_new_pattern, tt))))))))))
-- ')'
-- Pattern AfterPattern
makes N.AfterPatternOpen =
    (λ whole _. [], (λ whole pat more. pat.value ∷ more.value, tt))
-- ')'
-- ',' Pattern ListRest(Patterns)
makes N.AfterPattern =
    (λ whole _. [], (λ whole _ pat more. pat.value ∷ more.value, tt))
-- Identifier FieldPatternValue
makes N.FieldPattern =
    (patterns.field_pattern, tt)
-- nothing
-- ':' Pattern
makes N.FieldPatternValue =
    (λ whole. None, (λ whole _ pat. Some pat.value, tt))
-- nothing
-- GivenParts
makes N.PatternParts =
    (λ whole. given.Placed [], (λ whole parts. parts.value, tt))
-- '(' List(Patterns)
-- '{' List(FieldPatterns)
makes N.GivenParts =
    (λ whole _ pats. given.Placed pats.value, (λ whole _ fields. given.Named fields.value, tt))
-- nothing
-- GivenParts
-- '::' AfterPatternColons
makes N.AfterPatternName =
    (λ whole. name.Nothing, (λ whole parts. name.Parts parts.value, (λ whole _ rest. rest.value, tt)))
-- nothing
-- GivenParts
-- '::' AfterPatternMemColons
makes N.AfterPatternMem =
    (λ whole. name.Nothing, (λ whole parts. name.Parts parts.value, (λ whole _ rest. rest.value, tt)))
-- nothing
-- GivenParts
-- '::' AfterPatternStdColons
makes N.AfterPatternStd =
    (λ whole. name.Nothing, (λ whole parts. name.Parts parts.value, (λ whole _ rest. rest.value, tt)))
-- '<' List(TypesInAngles) '::' Identifier PatternParts
-- Identifier PatternParts
makes N.AfterPatternColons =
    (patterns.second_after_types, (patterns.second_name, tt))
-- '<' List(TypesInAngles) '::' Identifier PatternParts
-- SwapName PatternParts
-- NotSwap PatternParts
makes N.AfterPatternMemColons =
    (patterns.second_after_types, (patterns.built_in_name, (patterns.second_name, tt)))
-- '<' List(TypesInAngles) '::' Identifier PatternParts
-- 'mem' AfterPatternStdMem
-- NotMem PatternParts
makes N.AfterPatternStdColons =
    (patterns.second_after_types, (patterns.std_mem_name, (patterns.second_name, tt)))
-- nothing
-- GivenParts
-- '::' SwapName PatternParts
makes N.AfterPatternStdMem =
    (λ whole. after_mem.Second (given.Placed []), (λ whole parts. after_mem.Second parts.value, (patterns.std_built_in_name, tt)))
