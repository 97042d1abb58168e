-- The tokens that may come after a part. Written by tools/grammar.py.
use Rattle.std.specs.Prelude.{List, [], ◌∷◌}
use Rattle.source_grammar.specs.declared.terminal.Terminal.{Terminal}
use Rattle.source_grammar.specs.declared.terminal.Terminal.TheVariants as T
use Rattle.source_grammar.specs.declared.part.Part.{Part}
use Rattle.source_grammar.specs.declared.part.Part.TheVariants as N
use Rattle.source_grammar.specs.declared.part.Context.TheVariants as At
use Rattle.source_grammar.specs.declared.part.Level.TheVariants as L
use Rattle.source_grammar.specs.declared.part.Listed.TheVariants as Of

abbrev after_program : List Terminal
after_program = []

abbrev after_attribute : List Terminal
after_attribute = T.Enum ∷ T.Fn ∷ T.Pub ∷ T.Struct ∷ T.Hash ∷ []

abbrev after_attributed : List Terminal
after_attributed = T.Enum ∷ T.Fn ∷ T.Pub ∷ T.Struct ∷ T.Use ∷ T.Hash ∷ []

abbrev after_generics : List Terminal
after_generics = T.OpenBracket ∷ []

abbrev after_type_parameters : List Terminal
after_type_parameters = T.OpenBracket ∷ T.OpenBrace ∷ T.Semicolon ∷ []

abbrev after_parameter : List Terminal
after_parameter = T.CloseBracket ∷ T.Comma ∷ []

abbrev after_result : List Terminal
after_result = T.OpenBrace ∷ []

abbrev after_field : List Terminal
after_field = T.CloseBrace ∷ T.Comma ∷ []

abbrev after_list_names : List Terminal
after_list_names = T.CloseSquare ∷ []

abbrev after_list_parameters : List Terminal
after_list_parameters = T.Arrow ∷ T.OpenBrace ∷ []

abbrev after_list_tuple_fields : List Terminal
after_list_tuple_fields = T.Semicolon ∷ []

abbrev after_list_types_in_angles : List Terminal
after_list_types_in_angles = T.Colons ∷ T.Equals ∷ T.OpenBracket ∷ T.CloseBracket ∷ T.OpenBrace ∷ T.CloseBrace ∷ T.Comma ∷ T.Semicolon ∷ T.TypesEnd ∷ []

abbrev after_list_types : List Terminal
after_list_types = T.Equals ∷ T.CloseBracket ∷ T.OpenBrace ∷ T.CloseBrace ∷ T.Comma ∷ T.Semicolon ∷ T.TypesEnd ∷ []

abbrev after_list_arguments : List Terminal
after_list_arguments = T.As ∷ T.AndAnd ∷ T.BarBar ∷ T.And ∷ T.Bar ∷ T.Caret ∷ T.CloseBracket ∷ T.OpenBrace ∷ T.CloseBrace ∷ T.Comma ∷ T.Semicolon ∷ T.Dot ∷ T.AssignOp ∷ T.CompareOp ∷ T.ShiftOp ∷ T.SumOp ∷ T.ProductOp ∷ []

abbrev after_list_initials : List Terminal
after_list_initials = T.As ∷ T.AndAnd ∷ T.BarBar ∷ T.And ∷ T.Bar ∷ T.Caret ∷ T.CloseBracket ∷ T.CloseBrace ∷ T.Comma ∷ T.Semicolon ∷ T.Dot ∷ T.AssignOp ∷ T.CompareOp ∷ T.ShiftOp ∷ T.SumOp ∷ T.ProductOp ∷ []

abbrev after_list_patterns : List Terminal
after_list_patterns = T.Gives ∷ T.Equals ∷ T.CloseBracket ∷ T.CloseBrace ∷ T.Comma ∷ T.Semicolon ∷ T.Colon ∷ []

abbrev after_borrow_lifetime : List Terminal
after_borrow_lifetime = T.IntWord ∷ T.Mut ∷ T.Bool ∷ T.Box ∷ T.And ∷ T.OpenBracket ∷ T.Identifier ∷ []

abbrev after_borrow_mut : List Terminal
after_borrow_mut = T.IntWord ∷ T.Bool ∷ T.Box ∷ T.And ∷ T.OpenBracket ∷ T.Identifier ∷ []

abbrev after_block : List Terminal
after_block = T.Integer ∷ T.As ∷ T.Break ∷ T.Continue ∷ T.Else ∷ T.Enum ∷ T.Fn ∷ T.If ∷ T.Let ∷ T.Loop ∷ T.Match ∷ T.Mut ∷ T.Pub ∷ T.Return ∷ T.Struct ∷ T.Use ∷ T.While ∷ T.Box ∷ T.Std ∷ T.Mem ∷ T.Assert ∷ T.AndAnd ∷ T.BarBar ∷ T.Minus ∷ T.Star ∷ T.And ∷ T.Bar ∷ T.Caret ∷ T.Not ∷ T.OpenBracket ∷ T.CloseBracket ∷ T.OpenBrace ∷ T.CloseBrace ∷ T.Comma ∷ T.Semicolon ∷ T.Dot ∷ T.Hash ∷ T.Wild ∷ T.PathName ∷ T.PatternName ∷ T.PanicName ∷ T.BoolLiteral ∷ T.AssignOp ∷ T.CompareOp ∷ T.ShiftOp ∷ T.SumOp ∷ T.ProductOp ∷ []

abbrev after_let_type : List Terminal
after_let_type = T.Equals ∷ T.Semicolon ∷ []

abbrev after_block_like : List Terminal
after_block_like = T.Integer ∷ T.As ∷ T.Break ∷ T.Continue ∷ T.If ∷ T.Let ∷ T.Loop ∷ T.Match ∷ T.Mut ∷ T.Return ∷ T.While ∷ T.Box ∷ T.Std ∷ T.Mem ∷ T.Assert ∷ T.AndAnd ∷ T.BarBar ∷ T.Minus ∷ T.Star ∷ T.And ∷ T.Bar ∷ T.Caret ∷ T.Not ∷ T.OpenBracket ∷ T.CloseBracket ∷ T.OpenBrace ∷ T.CloseBrace ∷ T.Comma ∷ T.Semicolon ∷ T.Dot ∷ T.Wild ∷ T.PathName ∷ T.PatternName ∷ T.PanicName ∷ T.BoolLiteral ∷ T.AssignOp ∷ T.CompareOp ∷ T.ShiftOp ∷ T.SumOp ∷ T.ProductOp ∷ []

abbrev after_expression_free : List Terminal
after_expression_free = T.CloseBracket ∷ T.CloseBrace ∷ T.Comma ∷ T.Semicolon ∷ []

abbrev after_leading_expression : List Terminal
after_leading_expression = T.CloseBrace ∷ T.Comma ∷ T.Semicolon ∷ []

abbrev after_level_or_free : List Terminal
after_level_or_free = T.CloseBracket ∷ T.CloseBrace ∷ T.Comma ∷ T.Semicolon ∷ T.AssignOp ∷ []

abbrev after_level_or_condition : List Terminal
after_level_or_condition = T.OpenBrace ∷ T.AssignOp ∷ []

abbrev after_level_and_free : List Terminal
after_level_and_free = T.BarBar ∷ T.CloseBracket ∷ T.CloseBrace ∷ T.Comma ∷ T.Semicolon ∷ T.AssignOp ∷ []

abbrev after_level_and_condition : List Terminal
after_level_and_condition = T.BarBar ∷ T.OpenBrace ∷ T.AssignOp ∷ []

abbrev after_level_compare_free : List Terminal
after_level_compare_free = T.AndAnd ∷ T.BarBar ∷ T.CloseBracket ∷ T.CloseBrace ∷ T.Comma ∷ T.Semicolon ∷ T.AssignOp ∷ []

abbrev after_level_compare_condition : List Terminal
after_level_compare_condition = T.AndAnd ∷ T.BarBar ∷ T.OpenBrace ∷ T.AssignOp ∷ []

abbrev after_level_bit_or_free : List Terminal
after_level_bit_or_free = T.AndAnd ∷ T.BarBar ∷ T.CloseBracket ∷ T.CloseBrace ∷ T.Comma ∷ T.Semicolon ∷ T.AssignOp ∷ T.CompareOp ∷ []

abbrev after_level_bit_or_condition : List Terminal
after_level_bit_or_condition = T.AndAnd ∷ T.BarBar ∷ T.OpenBrace ∷ T.AssignOp ∷ T.CompareOp ∷ []

abbrev after_level_xor_free : List Terminal
after_level_xor_free = T.AndAnd ∷ T.BarBar ∷ T.Bar ∷ T.CloseBracket ∷ T.CloseBrace ∷ T.Comma ∷ T.Semicolon ∷ T.AssignOp ∷ T.CompareOp ∷ []

abbrev after_level_xor_condition : List Terminal
after_level_xor_condition = T.AndAnd ∷ T.BarBar ∷ T.Bar ∷ T.OpenBrace ∷ T.AssignOp ∷ T.CompareOp ∷ []

abbrev after_level_bit_and_free : List Terminal
after_level_bit_and_free = T.AndAnd ∷ T.BarBar ∷ T.Bar ∷ T.Caret ∷ T.CloseBracket ∷ T.CloseBrace ∷ T.Comma ∷ T.Semicolon ∷ T.AssignOp ∷ T.CompareOp ∷ []

abbrev after_level_bit_and_condition : List Terminal
after_level_bit_and_condition = T.AndAnd ∷ T.BarBar ∷ T.Bar ∷ T.Caret ∷ T.OpenBrace ∷ T.AssignOp ∷ T.CompareOp ∷ []

abbrev after_level_shift_free : List Terminal
after_level_shift_free = T.AndAnd ∷ T.BarBar ∷ T.And ∷ T.Bar ∷ T.Caret ∷ T.CloseBracket ∷ T.CloseBrace ∷ T.Comma ∷ T.Semicolon ∷ T.AssignOp ∷ T.CompareOp ∷ []

abbrev after_level_shift_condition : List Terminal
after_level_shift_condition = T.AndAnd ∷ T.BarBar ∷ T.And ∷ T.Bar ∷ T.Caret ∷ T.OpenBrace ∷ T.AssignOp ∷ T.CompareOp ∷ []

abbrev after_level_sum_free : List Terminal
after_level_sum_free = T.AndAnd ∷ T.BarBar ∷ T.And ∷ T.Bar ∷ T.Caret ∷ T.CloseBracket ∷ T.CloseBrace ∷ T.Comma ∷ T.Semicolon ∷ T.AssignOp ∷ T.CompareOp ∷ T.ShiftOp ∷ []

abbrev after_level_sum_condition : List Terminal
after_level_sum_condition = T.AndAnd ∷ T.BarBar ∷ T.And ∷ T.Bar ∷ T.Caret ∷ T.OpenBrace ∷ T.AssignOp ∷ T.CompareOp ∷ T.ShiftOp ∷ []

abbrev after_level_product_free : List Terminal
after_level_product_free = T.AndAnd ∷ T.BarBar ∷ T.And ∷ T.Bar ∷ T.Caret ∷ T.CloseBracket ∷ T.CloseBrace ∷ T.Comma ∷ T.Semicolon ∷ T.AssignOp ∷ T.CompareOp ∷ T.ShiftOp ∷ T.SumOp ∷ []

abbrev after_level_product_condition : List Terminal
after_level_product_condition = T.AndAnd ∷ T.BarBar ∷ T.And ∷ T.Bar ∷ T.Caret ∷ T.OpenBrace ∷ T.AssignOp ∷ T.CompareOp ∷ T.ShiftOp ∷ T.SumOp ∷ []

abbrev after_leading_level_or : List Terminal
after_leading_level_or = T.CloseBrace ∷ T.Comma ∷ T.Semicolon ∷ T.AssignOp ∷ []

abbrev after_leading_level_and : List Terminal
after_leading_level_and = T.BarBar ∷ T.CloseBrace ∷ T.Comma ∷ T.Semicolon ∷ T.AssignOp ∷ []

abbrev after_leading_level_compare : List Terminal
after_leading_level_compare = T.AndAnd ∷ T.BarBar ∷ T.CloseBrace ∷ T.Comma ∷ T.Semicolon ∷ T.AssignOp ∷ []

abbrev after_leading_level_bit_or : List Terminal
after_leading_level_bit_or = T.AndAnd ∷ T.BarBar ∷ T.CloseBrace ∷ T.Comma ∷ T.Semicolon ∷ T.AssignOp ∷ T.CompareOp ∷ []

abbrev after_leading_level_xor : List Terminal
after_leading_level_xor = T.AndAnd ∷ T.BarBar ∷ T.Bar ∷ T.CloseBrace ∷ T.Comma ∷ T.Semicolon ∷ T.AssignOp ∷ T.CompareOp ∷ []

abbrev after_leading_level_bit_and : List Terminal
after_leading_level_bit_and = T.AndAnd ∷ T.BarBar ∷ T.Bar ∷ T.Caret ∷ T.CloseBrace ∷ T.Comma ∷ T.Semicolon ∷ T.AssignOp ∷ T.CompareOp ∷ []

abbrev after_leading_level_shift : List Terminal
after_leading_level_shift = T.AndAnd ∷ T.BarBar ∷ T.And ∷ T.Bar ∷ T.Caret ∷ T.CloseBrace ∷ T.Comma ∷ T.Semicolon ∷ T.AssignOp ∷ T.CompareOp ∷ []

abbrev after_leading_level_sum : List Terminal
after_leading_level_sum = T.AndAnd ∷ T.BarBar ∷ T.And ∷ T.Bar ∷ T.Caret ∷ T.CloseBrace ∷ T.Comma ∷ T.Semicolon ∷ T.AssignOp ∷ T.CompareOp ∷ T.ShiftOp ∷ []

abbrev after_leading_level_product : List Terminal
after_leading_level_product = T.AndAnd ∷ T.BarBar ∷ T.And ∷ T.Bar ∷ T.Caret ∷ T.CloseBrace ∷ T.Comma ∷ T.Semicolon ∷ T.AssignOp ∷ T.CompareOp ∷ T.ShiftOp ∷ T.SumOp ∷ []

abbrev after_cast_free : List Terminal
after_cast_free = T.AndAnd ∷ T.BarBar ∷ T.And ∷ T.Bar ∷ T.Caret ∷ T.CloseBracket ∷ T.CloseBrace ∷ T.Comma ∷ T.Semicolon ∷ T.AssignOp ∷ T.CompareOp ∷ T.ShiftOp ∷ T.SumOp ∷ T.ProductOp ∷ []

abbrev after_cast_condition : List Terminal
after_cast_condition = T.AndAnd ∷ T.BarBar ∷ T.And ∷ T.Bar ∷ T.Caret ∷ T.OpenBrace ∷ T.AssignOp ∷ T.CompareOp ∷ T.ShiftOp ∷ T.SumOp ∷ T.ProductOp ∷ []

abbrev after_leading_cast : List Terminal
after_leading_cast = T.AndAnd ∷ T.BarBar ∷ T.And ∷ T.Bar ∷ T.Caret ∷ T.CloseBrace ∷ T.Comma ∷ T.Semicolon ∷ T.AssignOp ∷ T.CompareOp ∷ T.ShiftOp ∷ T.SumOp ∷ T.ProductOp ∷ []

abbrev after_more_casts : List Terminal
after_more_casts = T.AndAnd ∷ T.BarBar ∷ T.And ∷ T.Bar ∷ T.Caret ∷ T.CloseBracket ∷ T.OpenBrace ∷ T.CloseBrace ∷ T.Comma ∷ T.Semicolon ∷ T.AssignOp ∷ T.CompareOp ∷ T.ShiftOp ∷ T.SumOp ∷ T.ProductOp ∷ []

abbrev after_unary_free : List Terminal
after_unary_free = T.As ∷ T.AndAnd ∷ T.BarBar ∷ T.And ∷ T.Bar ∷ T.Caret ∷ T.CloseBracket ∷ T.CloseBrace ∷ T.Comma ∷ T.Semicolon ∷ T.AssignOp ∷ T.CompareOp ∷ T.ShiftOp ∷ T.SumOp ∷ T.ProductOp ∷ []

abbrev after_unary_condition : List Terminal
after_unary_condition = T.As ∷ T.AndAnd ∷ T.BarBar ∷ T.And ∷ T.Bar ∷ T.Caret ∷ T.OpenBrace ∷ T.AssignOp ∷ T.CompareOp ∷ T.ShiftOp ∷ T.SumOp ∷ T.ProductOp ∷ []

abbrev after_leading_unary : List Terminal
after_leading_unary = T.As ∷ T.AndAnd ∷ T.BarBar ∷ T.And ∷ T.Bar ∷ T.Caret ∷ T.CloseBrace ∷ T.Comma ∷ T.Semicolon ∷ T.AssignOp ∷ T.CompareOp ∷ T.ShiftOp ∷ T.SumOp ∷ T.ProductOp ∷ []

abbrev after_postfix : List Terminal
after_postfix = T.As ∷ T.AndAnd ∷ T.BarBar ∷ T.And ∷ T.Bar ∷ T.Caret ∷ T.CloseBracket ∷ T.OpenBrace ∷ T.CloseBrace ∷ T.Comma ∷ T.Semicolon ∷ T.AssignOp ∷ T.CompareOp ∷ T.ShiftOp ∷ T.SumOp ∷ T.ProductOp ∷ []

abbrev after_core_condition : List Terminal
after_core_condition = T.As ∷ T.AndAnd ∷ T.BarBar ∷ T.And ∷ T.Bar ∷ T.Caret ∷ T.OpenBrace ∷ T.Dot ∷ T.AssignOp ∷ T.CompareOp ∷ T.ShiftOp ∷ T.SumOp ∷ T.ProductOp ∷ []

abbrev pub follow : Part → List Terminal
follow N.Program = after_program
follow N.AfterHash = after_program
follow N.Items = after_program
follow N.Attribute = after_attribute
follow N.Attributed = after_attributed
follow N.Item = after_attributed
follow N.Declaration = after_attributed
follow N.Generics = after_generics
follow N.Lifetimes = after_generics
follow N.MoreLifetimes = after_generics
follow N.TypeParameters = after_type_parameters
follow N.Parameter = after_parameter
follow N.Result = after_result
follow N.StructBody = after_attributed
follow N.Field = after_field
follow N.TupleField = after_parameter
follow N.Variant = after_field
follow N.VariantBody = after_field
follow (N.List Of.Names) = after_list_names
follow (N.List Of.TypeNames) = after_type_parameters
follow (N.List Of.Parameters) = after_list_parameters
follow (N.List Of.Fields) = after_attributed
follow (N.List Of.TupleFields) = after_list_tuple_fields
follow (N.List Of.Variants) = after_attributed
follow (N.List Of.TypesInAngles) = after_list_types_in_angles
follow (N.List Of.Types) = after_list_types
follow (N.List Of.Arguments) = after_list_arguments
follow (N.List Of.Initials) = after_list_initials
follow (N.List Of.Patterns) = after_list_patterns
follow (N.List Of.FieldPatterns) = after_list_patterns
follow (N.ListRest Of.Names) = after_list_names
follow (N.ListRest Of.TypeNames) = after_type_parameters
follow (N.ListRest Of.Parameters) = after_list_parameters
follow (N.ListRest Of.Fields) = after_attributed
follow (N.ListRest Of.TupleFields) = after_list_tuple_fields
follow (N.ListRest Of.Variants) = after_attributed
follow (N.ListRest Of.TypesInAngles) = after_list_types_in_angles
follow (N.ListRest Of.Types) = after_list_types
follow (N.ListRest Of.Arguments) = after_list_arguments
follow (N.ListRest Of.Initials) = after_list_initials
follow (N.ListRest Of.Patterns) = after_list_patterns
follow (N.ListRest Of.FieldPatterns) = after_list_patterns
follow N.Type = after_list_types
follow N.BorrowLifetime = after_borrow_lifetime
follow N.BorrowMut = after_borrow_mut
follow N.TypeArguments = after_list_types
follow N.AfterTypeOpen = after_list_types
follow N.AfterType = after_list_types
follow N.Block = after_block
follow N.Statements = after_block
follow N.MoreStatements = after_block
follow N.AfterBlockLike = after_block
follow N.AfterExpression = after_block
follow N.LetType = after_let_type
follow N.LetValue = after_list_tuple_fields
follow N.BlockLike = after_block_like
follow N.AfterWhile = after_block_like
follow N.If = after_block_like
follow N.AfterIf = after_block_like
follow N.Else = after_block_like
follow N.AfterElse = after_block_like
follow N.Arms = after_block_like
follow N.ArmBody = after_block_like
follow N.AfterBlockArm = after_block_like
follow N.AfterArm = after_block_like
follow (N.Expression At.Free) = after_expression_free
follow (N.Expression At.Condition) = after_result
follow N.LeadingExpression = after_leading_expression
follow N.Operand = after_expression_free
follow (N.MoreAssign At.Free) = after_expression_free
follow (N.MoreAssign At.Condition) = after_result
follow (N.Level L.Or At.Free) = after_level_or_free
follow (N.Level L.Or At.Condition) = after_level_or_condition
follow (N.Level L.And At.Free) = after_level_and_free
follow (N.Level L.And At.Condition) = after_level_and_condition
follow (N.Level L.Compare At.Free) = after_level_compare_free
follow (N.Level L.Compare At.Condition) = after_level_compare_condition
follow (N.Level L.BitOr At.Free) = after_level_bit_or_free
follow (N.Level L.BitOr At.Condition) = after_level_bit_or_condition
follow (N.Level L.Xor At.Free) = after_level_xor_free
follow (N.Level L.Xor At.Condition) = after_level_xor_condition
follow (N.Level L.BitAnd At.Free) = after_level_bit_and_free
follow (N.Level L.BitAnd At.Condition) = after_level_bit_and_condition
follow (N.Level L.Shift At.Free) = after_level_shift_free
follow (N.Level L.Shift At.Condition) = after_level_shift_condition
follow (N.Level L.Sum At.Free) = after_level_sum_free
follow (N.Level L.Sum At.Condition) = after_level_sum_condition
follow (N.Level L.Product At.Free) = after_level_product_free
follow (N.Level L.Product At.Condition) = after_level_product_condition
follow (N.LeadingLevel L.Or) = after_leading_level_or
follow (N.LeadingLevel L.And) = after_leading_level_and
follow (N.LeadingLevel L.Compare) = after_leading_level_compare
follow (N.LeadingLevel L.BitOr) = after_leading_level_bit_or
follow (N.LeadingLevel L.Xor) = after_leading_level_xor
follow (N.LeadingLevel L.BitAnd) = after_leading_level_bit_and
follow (N.LeadingLevel L.Shift) = after_leading_level_shift
follow (N.LeadingLevel L.Sum) = after_leading_level_sum
follow (N.LeadingLevel L.Product) = after_leading_level_product
follow (N.More L.Or At.Free) = after_level_or_free
follow (N.More L.Or At.Condition) = after_level_or_condition
follow (N.More L.And At.Free) = after_level_and_free
follow (N.More L.And At.Condition) = after_level_and_condition
follow (N.More L.Compare At.Free) = after_level_compare_free
follow (N.More L.Compare At.Condition) = after_level_compare_condition
follow (N.More L.BitOr At.Free) = after_level_bit_or_free
follow (N.More L.BitOr At.Condition) = after_level_bit_or_condition
follow (N.More L.Xor At.Free) = after_level_xor_free
follow (N.More L.Xor At.Condition) = after_level_xor_condition
follow (N.More L.BitAnd At.Free) = after_level_bit_and_free
follow (N.More L.BitAnd At.Condition) = after_level_bit_and_condition
follow (N.More L.Shift At.Free) = after_level_shift_free
follow (N.More L.Shift At.Condition) = after_level_shift_condition
follow (N.More L.Sum At.Free) = after_level_sum_free
follow (N.More L.Sum At.Condition) = after_level_sum_condition
follow (N.More L.Product At.Free) = after_level_product_free
follow (N.More L.Product At.Condition) = after_level_product_condition
follow (N.Cast At.Free) = after_cast_free
follow (N.Cast At.Condition) = after_cast_condition
follow N.LeadingCast = after_leading_cast
follow N.MoreCasts = after_more_casts
follow (N.Unary At.Free) = after_unary_free
follow (N.Unary At.Condition) = after_unary_condition
follow N.LeadingUnary = after_leading_unary
follow (N.Borrowed At.Free) = after_unary_free
follow (N.Borrowed At.Condition) = after_unary_condition
follow N.Postfix = after_postfix
follow N.FieldName = after_list_arguments
follow (N.Core At.Free) = after_list_initials
follow (N.Core At.Condition) = after_core_condition
follow N.AfterOpen = after_list_arguments
follow N.AfterFirst = after_list_arguments
follow N.Initial = after_field
follow N.InitialValue = after_field
follow (N.AfterName At.Free) = after_list_initials
follow (N.AfterName At.Condition) = after_core_condition
follow (N.AfterPanic At.Free) = after_list_initials
follow (N.AfterPanic At.Condition) = after_core_condition
follow (N.AfterAssert At.Free) = after_list_initials
follow (N.AfterAssert At.Condition) = after_core_condition
follow (N.AfterMem At.Free) = after_list_initials
follow (N.AfterMem At.Condition) = after_core_condition
follow (N.AfterStd At.Free) = after_list_initials
follow (N.AfterStd At.Condition) = after_core_condition
follow (N.NameMore At.Free) = after_list_initials
follow (N.NameMore At.Condition) = after_core_condition
follow (N.Applied At.Free) = after_list_initials
follow (N.Applied At.Condition) = after_core_condition
follow (N.AfterColons At.Free) = after_list_initials
follow (N.AfterColons At.Condition) = after_core_condition
follow (N.AfterMemColons At.Free) = after_list_initials
follow (N.AfterMemColons At.Condition) = after_core_condition
follow (N.AfterStdColons At.Free) = after_list_initials
follow (N.AfterStdColons At.Condition) = after_core_condition
follow N.AfterStdMem = after_list_arguments
follow N.AfterStdMemColons = after_list_arguments
follow (N.AfterTurbo At.Free) = after_list_initials
follow (N.AfterTurbo At.Condition) = after_core_condition
follow N.AfterPath = after_list_arguments
follow N.Message = after_list_arguments
follow N.AssertEnd = after_list_arguments
follow N.AfterAssertComma = after_list_arguments
follow N.AfterMessage = after_list_arguments
follow N.Pattern = after_list_patterns
follow N.AfterPatternOpen = after_list_patterns
follow N.AfterPattern = after_list_patterns
follow N.FieldPattern = after_field
follow N.FieldPatternValue = after_field
follow N.PatternParts = after_list_patterns
follow N.GivenParts = after_list_patterns
follow N.AfterPatternName = after_list_patterns
follow N.AfterPatternMem = after_list_patterns
follow N.AfterPatternStd = after_list_patterns
follow N.AfterPatternColons = after_list_patterns
follow N.AfterPatternMemColons = after_list_patterns
follow N.AfterPatternStdColons = after_list_patterns
follow N.AfterPatternStdMem = after_list_patterns
