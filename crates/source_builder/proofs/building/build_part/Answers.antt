-- Each part is built by a function of its own. Written by tools/source_build.py.
use Rattle.std.proofs.Common.{reverse}
use Rattle.source_grammar.specs.declared.part.Part.TheVariants as N
use Rattle.source_builder.proofs.Places.{of_part, built_of_part}
use Rattle.source_builder.proofs.building.build_part.Goals as goal

pub build_program-requires : goal.build_program-requires
build_program-requires c = of_part c.args.part N.Program c.args.index (reverse c.args.values.now) c.in-Program.is c.requires

pub returns-in-Program : goal.returns-in-Program
returns-in-Program c = built_of_part c.args.part N.Program c.args.index (reverse c.args.values.now) (reverse c.build_program.new.values) c.build_program.result c.in-Program.is c.build_program.ensures

pub build_after_hash-requires : goal.build_after_hash-requires
build_after_hash-requires c = of_part c.args.part N.AfterHash c.args.index (reverse c.args.values.now) c.in-AfterHash.is c.requires

pub returns-in-AfterHash : goal.returns-in-AfterHash
returns-in-AfterHash c = built_of_part c.args.part N.AfterHash c.args.index (reverse c.args.values.now) (reverse c.build_after_hash.new.values) c.build_after_hash.result c.in-AfterHash.is c.build_after_hash.ensures

pub build_items-requires : goal.build_items-requires
build_items-requires c = of_part c.args.part N.Items c.args.index (reverse c.args.values.now) c.in-Items.is c.requires

pub returns-in-Items : goal.returns-in-Items
returns-in-Items c = built_of_part c.args.part N.Items c.args.index (reverse c.args.values.now) (reverse c.build_items.new.values) c.build_items.result c.in-Items.is c.build_items.ensures

pub build_attribute-requires : goal.build_attribute-requires
build_attribute-requires c = of_part c.args.part N.Attribute c.args.index (reverse c.args.values.now) c.in-Attribute.is c.requires

pub returns-in-Attribute : goal.returns-in-Attribute
returns-in-Attribute c = built_of_part c.args.part N.Attribute c.args.index (reverse c.args.values.now) (reverse c.build_attribute.new.values) c.build_attribute.result c.in-Attribute.is c.build_attribute.ensures

pub build_attributed-requires : goal.build_attributed-requires
build_attributed-requires c = of_part c.args.part N.Attributed c.args.index (reverse c.args.values.now) c.in-Attributed.is c.requires

pub returns-in-Attributed : goal.returns-in-Attributed
returns-in-Attributed c = built_of_part c.args.part N.Attributed c.args.index (reverse c.args.values.now) (reverse c.build_attributed.new.values) c.build_attributed.result c.in-Attributed.is c.build_attributed.ensures

pub build_item-requires : goal.build_item-requires
build_item-requires c = of_part c.args.part N.Item c.args.index (reverse c.args.values.now) c.in-Item.is c.requires

pub returns-in-Item : goal.returns-in-Item
returns-in-Item c = built_of_part c.args.part N.Item c.args.index (reverse c.args.values.now) (reverse c.build_item.new.values) c.build_item.result c.in-Item.is c.build_item.ensures

pub build_declaration-requires : goal.build_declaration-requires
build_declaration-requires c = of_part c.args.part N.Declaration c.args.index (reverse c.args.values.now) c.in-Declaration.is c.requires

pub returns-in-Declaration : goal.returns-in-Declaration
returns-in-Declaration c = built_of_part c.args.part N.Declaration c.args.index (reverse c.args.values.now) (reverse c.build_declaration.new.values) c.build_declaration.result c.in-Declaration.is c.build_declaration.ensures

pub build_generics-requires : goal.build_generics-requires
build_generics-requires c = of_part c.args.part N.Generics c.args.index (reverse c.args.values.now) c.in-Generics.is c.requires

pub returns-in-Generics : goal.returns-in-Generics
returns-in-Generics c = built_of_part c.args.part N.Generics c.args.index (reverse c.args.values.now) (reverse c.build_generics.new.values) c.build_generics.result c.in-Generics.is c.build_generics.ensures

pub build_lifetimes-requires : goal.build_lifetimes-requires
build_lifetimes-requires c = of_part c.args.part N.Lifetimes c.args.index (reverse c.args.values.now) c.in-Lifetimes.is c.requires

pub returns-in-Lifetimes : goal.returns-in-Lifetimes
returns-in-Lifetimes c = built_of_part c.args.part N.Lifetimes c.args.index (reverse c.args.values.now) (reverse c.build_lifetimes.new.values) c.build_lifetimes.result c.in-Lifetimes.is c.build_lifetimes.ensures

pub build_more_lifetimes-requires : goal.build_more_lifetimes-requires
build_more_lifetimes-requires c = of_part c.args.part N.MoreLifetimes c.args.index (reverse c.args.values.now) c.in-MoreLifetimes.is c.requires

pub returns-in-MoreLifetimes : goal.returns-in-MoreLifetimes
returns-in-MoreLifetimes c = built_of_part c.args.part N.MoreLifetimes c.args.index (reverse c.args.values.now) (reverse c.build_more_lifetimes.new.values) c.build_more_lifetimes.result c.in-MoreLifetimes.is c.build_more_lifetimes.ensures

pub build_type_parameters-requires : goal.build_type_parameters-requires
build_type_parameters-requires c = of_part c.args.part N.TypeParameters c.args.index (reverse c.args.values.now) c.in-TypeParameters.is c.requires

pub returns-in-TypeParameters : goal.returns-in-TypeParameters
returns-in-TypeParameters c = built_of_part c.args.part N.TypeParameters c.args.index (reverse c.args.values.now) (reverse c.build_type_parameters.new.values) c.build_type_parameters.result c.in-TypeParameters.is c.build_type_parameters.ensures

pub build_parameter-requires : goal.build_parameter-requires
build_parameter-requires c = of_part c.args.part N.Parameter c.args.index (reverse c.args.values.now) c.in-Parameter.is c.requires

pub returns-in-Parameter : goal.returns-in-Parameter
returns-in-Parameter c = built_of_part c.args.part N.Parameter c.args.index (reverse c.args.values.now) (reverse c.build_parameter.new.values) c.build_parameter.result c.in-Parameter.is c.build_parameter.ensures

pub build_result-requires : goal.build_result-requires
build_result-requires c = of_part c.args.part N.Result c.args.index (reverse c.args.values.now) c.in-Result.is c.requires

pub returns-in-Result : goal.returns-in-Result
returns-in-Result c = built_of_part c.args.part N.Result c.args.index (reverse c.args.values.now) (reverse c.build_result.new.values) c.build_result.result c.in-Result.is c.build_result.ensures

pub build_struct_body-requires : goal.build_struct_body-requires
build_struct_body-requires c = of_part c.args.part N.StructBody c.args.index (reverse c.args.values.now) c.in-StructBody.is c.requires

pub returns-in-StructBody : goal.returns-in-StructBody
returns-in-StructBody c = built_of_part c.args.part N.StructBody c.args.index (reverse c.args.values.now) (reverse c.build_struct_body.new.values) c.build_struct_body.result c.in-StructBody.is c.build_struct_body.ensures

pub build_field-requires : goal.build_field-requires
build_field-requires c = of_part c.args.part N.Field c.args.index (reverse c.args.values.now) c.in-Field.is c.requires

pub returns-in-Field : goal.returns-in-Field
returns-in-Field c = built_of_part c.args.part N.Field c.args.index (reverse c.args.values.now) (reverse c.build_field.new.values) c.build_field.result c.in-Field.is c.build_field.ensures

pub build_tuple_field-requires : goal.build_tuple_field-requires
build_tuple_field-requires c = of_part c.args.part N.TupleField c.args.index (reverse c.args.values.now) c.in-TupleField.is c.requires

pub returns-in-TupleField : goal.returns-in-TupleField
returns-in-TupleField c = built_of_part c.args.part N.TupleField c.args.index (reverse c.args.values.now) (reverse c.build_tuple_field.new.values) c.build_tuple_field.result c.in-TupleField.is c.build_tuple_field.ensures

pub build_variant-requires : goal.build_variant-requires
build_variant-requires c = of_part c.args.part N.Variant c.args.index (reverse c.args.values.now) c.in-Variant.is c.requires

pub returns-in-Variant : goal.returns-in-Variant
returns-in-Variant c = built_of_part c.args.part N.Variant c.args.index (reverse c.args.values.now) (reverse c.build_variant.new.values) c.build_variant.result c.in-Variant.is c.build_variant.ensures

pub build_variant_body-requires : goal.build_variant_body-requires
build_variant_body-requires c = of_part c.args.part N.VariantBody c.args.index (reverse c.args.values.now) c.in-VariantBody.is c.requires

pub returns-in-VariantBody : goal.returns-in-VariantBody
returns-in-VariantBody c = built_of_part c.args.part N.VariantBody c.args.index (reverse c.args.values.now) (reverse c.build_variant_body.new.values) c.build_variant_body.result c.in-VariantBody.is c.build_variant_body.ensures

pub build_list-requires : goal.build_list-requires
build_list-requires c = of_part c.args.part (N.List c.in-List.listed) c.args.index (reverse c.args.values.now) c.in-List.is c.requires

pub returns-in-List : goal.returns-in-List
returns-in-List c = built_of_part c.args.part (N.List c.in-List.listed) c.args.index (reverse c.args.values.now) (reverse c.build_list.new.values) c.build_list.result c.in-List.is c.build_list.ensures

pub build_list_rest-requires : goal.build_list_rest-requires
build_list_rest-requires c = of_part c.args.part (N.ListRest c.in-ListRest.listed) c.args.index (reverse c.args.values.now) c.in-ListRest.is c.requires

pub returns-in-ListRest : goal.returns-in-ListRest
returns-in-ListRest c = built_of_part c.args.part (N.ListRest c.in-ListRest.listed) c.args.index (reverse c.args.values.now) (reverse c.build_list_rest.new.values) c.build_list_rest.result c.in-ListRest.is c.build_list_rest.ensures

pub build_type-requires : goal.build_type-requires
build_type-requires c = of_part c.args.part N.Type c.args.index (reverse c.args.values.now) c.in-Type.is c.requires

pub returns-in-Type : goal.returns-in-Type
returns-in-Type c = built_of_part c.args.part N.Type c.args.index (reverse c.args.values.now) (reverse c.build_type.new.values) c.build_type.result c.in-Type.is c.build_type.ensures

pub build_borrow_lifetime-requires : goal.build_borrow_lifetime-requires
build_borrow_lifetime-requires c = of_part c.args.part N.BorrowLifetime c.args.index (reverse c.args.values.now) c.in-BorrowLifetime.is c.requires

pub returns-in-BorrowLifetime : goal.returns-in-BorrowLifetime
returns-in-BorrowLifetime c = built_of_part c.args.part N.BorrowLifetime c.args.index (reverse c.args.values.now) (reverse c.build_borrow_lifetime.new.values) c.build_borrow_lifetime.result c.in-BorrowLifetime.is c.build_borrow_lifetime.ensures

pub build_borrow_mut-requires : goal.build_borrow_mut-requires
build_borrow_mut-requires c = of_part c.args.part N.BorrowMut c.args.index (reverse c.args.values.now) c.in-BorrowMut.is c.requires

pub returns-in-BorrowMut : goal.returns-in-BorrowMut
returns-in-BorrowMut c = built_of_part c.args.part N.BorrowMut c.args.index (reverse c.args.values.now) (reverse c.build_borrow_mut.new.values) c.build_borrow_mut.result c.in-BorrowMut.is c.build_borrow_mut.ensures

pub build_type_arguments-requires : goal.build_type_arguments-requires
build_type_arguments-requires c = of_part c.args.part N.TypeArguments c.args.index (reverse c.args.values.now) c.in-TypeArguments.is c.requires

pub returns-in-TypeArguments : goal.returns-in-TypeArguments
returns-in-TypeArguments c = built_of_part c.args.part N.TypeArguments c.args.index (reverse c.args.values.now) (reverse c.build_type_arguments.new.values) c.build_type_arguments.result c.in-TypeArguments.is c.build_type_arguments.ensures

pub build_after_type_open-requires : goal.build_after_type_open-requires
build_after_type_open-requires c = of_part c.args.part N.AfterTypeOpen c.args.index (reverse c.args.values.now) c.in-AfterTypeOpen.is c.requires

pub returns-in-AfterTypeOpen : goal.returns-in-AfterTypeOpen
returns-in-AfterTypeOpen c = built_of_part c.args.part N.AfterTypeOpen c.args.index (reverse c.args.values.now) (reverse c.build_after_type_open.new.values) c.build_after_type_open.result c.in-AfterTypeOpen.is c.build_after_type_open.ensures

pub build_after_type-requires : goal.build_after_type-requires
build_after_type-requires c = of_part c.args.part N.AfterType c.args.index (reverse c.args.values.now) c.in-AfterType.is c.requires

pub returns-in-AfterType : goal.returns-in-AfterType
returns-in-AfterType c = built_of_part c.args.part N.AfterType c.args.index (reverse c.args.values.now) (reverse c.build_after_type.new.values) c.build_after_type.result c.in-AfterType.is c.build_after_type.ensures

pub build_block-requires : goal.build_block-requires
build_block-requires c = of_part c.args.part N.Block c.args.index (reverse c.args.values.now) c.in-Block.is c.requires

pub returns-in-Block : goal.returns-in-Block
returns-in-Block c = built_of_part c.args.part N.Block c.args.index (reverse c.args.values.now) (reverse c.build_block.new.values) c.build_block.result c.in-Block.is c.build_block.ensures

pub build_statements-requires : goal.build_statements-requires
build_statements-requires c = of_part c.args.part N.Statements c.args.index (reverse c.args.values.now) c.in-Statements.is c.requires

pub returns-in-Statements : goal.returns-in-Statements
returns-in-Statements c = built_of_part c.args.part N.Statements c.args.index (reverse c.args.values.now) (reverse c.build_statements.new.values) c.build_statements.result c.in-Statements.is c.build_statements.ensures

pub build_more_statements-requires : goal.build_more_statements-requires
build_more_statements-requires c = of_part c.args.part N.MoreStatements c.args.index (reverse c.args.values.now) c.in-MoreStatements.is c.requires

pub returns-in-MoreStatements : goal.returns-in-MoreStatements
returns-in-MoreStatements c = built_of_part c.args.part N.MoreStatements c.args.index (reverse c.args.values.now) (reverse c.build_more_statements.new.values) c.build_more_statements.result c.in-MoreStatements.is c.build_more_statements.ensures

pub build_after_block_like-requires : goal.build_after_block_like-requires
build_after_block_like-requires c = of_part c.args.part N.AfterBlockLike c.args.index (reverse c.args.values.now) c.in-AfterBlockLike.is c.requires

pub returns-in-AfterBlockLike : goal.returns-in-AfterBlockLike
returns-in-AfterBlockLike c = built_of_part c.args.part N.AfterBlockLike c.args.index (reverse c.args.values.now) (reverse c.build_after_block_like.new.values) c.build_after_block_like.result c.in-AfterBlockLike.is c.build_after_block_like.ensures

pub build_after_expression-requires : goal.build_after_expression-requires
build_after_expression-requires c = of_part c.args.part N.AfterExpression c.args.index (reverse c.args.values.now) c.in-AfterExpression.is c.requires

pub returns-in-AfterExpression : goal.returns-in-AfterExpression
returns-in-AfterExpression c = built_of_part c.args.part N.AfterExpression c.args.index (reverse c.args.values.now) (reverse c.build_after_expression.new.values) c.build_after_expression.result c.in-AfterExpression.is c.build_after_expression.ensures

pub build_let_type-requires : goal.build_let_type-requires
build_let_type-requires c = of_part c.args.part N.LetType c.args.index (reverse c.args.values.now) c.in-LetType.is c.requires

pub returns-in-LetType : goal.returns-in-LetType
returns-in-LetType c = built_of_part c.args.part N.LetType c.args.index (reverse c.args.values.now) (reverse c.build_let_type.new.values) c.build_let_type.result c.in-LetType.is c.build_let_type.ensures

pub build_let_value-requires : goal.build_let_value-requires
build_let_value-requires c = of_part c.args.part N.LetValue c.args.index (reverse c.args.values.now) c.in-LetValue.is c.requires

pub returns-in-LetValue : goal.returns-in-LetValue
returns-in-LetValue c = built_of_part c.args.part N.LetValue c.args.index (reverse c.args.values.now) (reverse c.build_let_value.new.values) c.build_let_value.result c.in-LetValue.is c.build_let_value.ensures

pub build_block_like-requires : goal.build_block_like-requires
build_block_like-requires c = of_part c.args.part N.BlockLike c.args.index (reverse c.args.values.now) c.in-BlockLike.is c.requires

pub returns-in-BlockLike : goal.returns-in-BlockLike
returns-in-BlockLike c = built_of_part c.args.part N.BlockLike c.args.index (reverse c.args.values.now) (reverse c.build_block_like.new.values) c.build_block_like.result c.in-BlockLike.is c.build_block_like.ensures

pub build_after_while-requires : goal.build_after_while-requires
build_after_while-requires c = of_part c.args.part N.AfterWhile c.args.index (reverse c.args.values.now) c.in-AfterWhile.is c.requires

pub returns-in-AfterWhile : goal.returns-in-AfterWhile
returns-in-AfterWhile c = built_of_part c.args.part N.AfterWhile c.args.index (reverse c.args.values.now) (reverse c.build_after_while.new.values) c.build_after_while.result c.in-AfterWhile.is c.build_after_while.ensures

pub build_if-requires : goal.build_if-requires
build_if-requires c = of_part c.args.part N.If c.args.index (reverse c.args.values.now) c.in-If.is c.requires

pub returns-in-If : goal.returns-in-If
returns-in-If c = built_of_part c.args.part N.If c.args.index (reverse c.args.values.now) (reverse c.build_if.new.values) c.build_if.result c.in-If.is c.build_if.ensures

pub build_after_if-requires : goal.build_after_if-requires
build_after_if-requires c = of_part c.args.part N.AfterIf c.args.index (reverse c.args.values.now) c.in-AfterIf.is c.requires

pub returns-in-AfterIf : goal.returns-in-AfterIf
returns-in-AfterIf c = built_of_part c.args.part N.AfterIf c.args.index (reverse c.args.values.now) (reverse c.build_after_if.new.values) c.build_after_if.result c.in-AfterIf.is c.build_after_if.ensures

pub build_else-requires : goal.build_else-requires
build_else-requires c = of_part c.args.part N.Else c.args.index (reverse c.args.values.now) c.in-Else.is c.requires

pub returns-in-Else : goal.returns-in-Else
returns-in-Else c = built_of_part c.args.part N.Else c.args.index (reverse c.args.values.now) (reverse c.build_else.new.values) c.build_else.result c.in-Else.is c.build_else.ensures

pub build_after_else-requires : goal.build_after_else-requires
build_after_else-requires c = of_part c.args.part N.AfterElse c.args.index (reverse c.args.values.now) c.in-AfterElse.is c.requires

pub returns-in-AfterElse : goal.returns-in-AfterElse
returns-in-AfterElse c = built_of_part c.args.part N.AfterElse c.args.index (reverse c.args.values.now) (reverse c.build_after_else.new.values) c.build_after_else.result c.in-AfterElse.is c.build_after_else.ensures

pub build_arms-requires : goal.build_arms-requires
build_arms-requires c = of_part c.args.part N.Arms c.args.index (reverse c.args.values.now) c.in-Arms.is c.requires

pub returns-in-Arms : goal.returns-in-Arms
returns-in-Arms c = built_of_part c.args.part N.Arms c.args.index (reverse c.args.values.now) (reverse c.build_arms.new.values) c.build_arms.result c.in-Arms.is c.build_arms.ensures

pub build_arm_body-requires : goal.build_arm_body-requires
build_arm_body-requires c = of_part c.args.part N.ArmBody c.args.index (reverse c.args.values.now) c.in-ArmBody.is c.requires

pub returns-in-ArmBody : goal.returns-in-ArmBody
returns-in-ArmBody c = built_of_part c.args.part N.ArmBody c.args.index (reverse c.args.values.now) (reverse c.build_arm_body.new.values) c.build_arm_body.result c.in-ArmBody.is c.build_arm_body.ensures

pub build_after_block_arm-requires : goal.build_after_block_arm-requires
build_after_block_arm-requires c = of_part c.args.part N.AfterBlockArm c.args.index (reverse c.args.values.now) c.in-AfterBlockArm.is c.requires

pub returns-in-AfterBlockArm : goal.returns-in-AfterBlockArm
returns-in-AfterBlockArm c = built_of_part c.args.part N.AfterBlockArm c.args.index (reverse c.args.values.now) (reverse c.build_after_block_arm.new.values) c.build_after_block_arm.result c.in-AfterBlockArm.is c.build_after_block_arm.ensures

pub build_after_arm-requires : goal.build_after_arm-requires
build_after_arm-requires c = of_part c.args.part N.AfterArm c.args.index (reverse c.args.values.now) c.in-AfterArm.is c.requires

pub returns-in-AfterArm : goal.returns-in-AfterArm
returns-in-AfterArm c = built_of_part c.args.part N.AfterArm c.args.index (reverse c.args.values.now) (reverse c.build_after_arm.new.values) c.build_after_arm.result c.in-AfterArm.is c.build_after_arm.ensures

pub build_expression-requires : goal.build_expression-requires
build_expression-requires c = of_part c.args.part (N.Expression c.in-Expression.context) c.args.index (reverse c.args.values.now) c.in-Expression.is c.requires

pub returns-in-Expression : goal.returns-in-Expression
returns-in-Expression c = built_of_part c.args.part (N.Expression c.in-Expression.context) c.args.index (reverse c.args.values.now) (reverse c.build_expression.new.values) c.build_expression.result c.in-Expression.is c.build_expression.ensures

pub build_leading_expression-requires : goal.build_leading_expression-requires
build_leading_expression-requires c = of_part c.args.part N.LeadingExpression c.args.index (reverse c.args.values.now) c.in-LeadingExpression.is c.requires

pub returns-in-LeadingExpression : goal.returns-in-LeadingExpression
returns-in-LeadingExpression c = built_of_part c.args.part N.LeadingExpression c.args.index (reverse c.args.values.now) (reverse c.build_leading_expression.new.values) c.build_leading_expression.result c.in-LeadingExpression.is c.build_leading_expression.ensures

pub build_operand-requires : goal.build_operand-requires
build_operand-requires c = of_part c.args.part N.Operand c.args.index (reverse c.args.values.now) c.in-Operand.is c.requires

pub returns-in-Operand : goal.returns-in-Operand
returns-in-Operand c = built_of_part c.args.part N.Operand c.args.index (reverse c.args.values.now) (reverse c.build_operand.new.values) c.build_operand.result c.in-Operand.is c.build_operand.ensures

pub build_more_assign-requires : goal.build_more_assign-requires
build_more_assign-requires c = of_part c.args.part (N.MoreAssign c.in-MoreAssign.context) c.args.index (reverse c.args.values.now) c.in-MoreAssign.is c.requires

pub returns-in-MoreAssign : goal.returns-in-MoreAssign
returns-in-MoreAssign c = built_of_part c.args.part (N.MoreAssign c.in-MoreAssign.context) c.args.index (reverse c.args.values.now) (reverse c.build_more_assign.new.values) c.build_more_assign.result c.in-MoreAssign.is c.build_more_assign.ensures

pub build_level-requires : goal.build_level-requires
build_level-requires c = of_part c.args.part (N.Level c.in-Level.level c.in-Level.context) c.args.index (reverse c.args.values.now) c.in-Level.is c.requires

pub returns-in-Level : goal.returns-in-Level
returns-in-Level c = built_of_part c.args.part (N.Level c.in-Level.level c.in-Level.context) c.args.index (reverse c.args.values.now) (reverse c.build_level.new.values) c.build_level.result c.in-Level.is c.build_level.ensures

pub build_leading_level-requires : goal.build_leading_level-requires
build_leading_level-requires c = of_part c.args.part (N.LeadingLevel c.in-LeadingLevel.level) c.args.index (reverse c.args.values.now) c.in-LeadingLevel.is c.requires

pub returns-in-LeadingLevel : goal.returns-in-LeadingLevel
returns-in-LeadingLevel c = built_of_part c.args.part (N.LeadingLevel c.in-LeadingLevel.level) c.args.index (reverse c.args.values.now) (reverse c.build_leading_level.new.values) c.build_leading_level.result c.in-LeadingLevel.is c.build_leading_level.ensures

pub build_more-requires : goal.build_more-requires
build_more-requires c = of_part c.args.part (N.More c.in-More.level c.in-More.context) c.args.index (reverse c.args.values.now) c.in-More.is c.requires

pub returns-in-More : goal.returns-in-More
returns-in-More c = built_of_part c.args.part (N.More c.in-More.level c.in-More.context) c.args.index (reverse c.args.values.now) (reverse c.build_more.new.values) c.build_more.result c.in-More.is c.build_more.ensures

pub build_cast-requires : goal.build_cast-requires
build_cast-requires c = of_part c.args.part (N.Cast c.in-Cast.context) c.args.index (reverse c.args.values.now) c.in-Cast.is c.requires

pub returns-in-Cast : goal.returns-in-Cast
returns-in-Cast c = built_of_part c.args.part (N.Cast c.in-Cast.context) c.args.index (reverse c.args.values.now) (reverse c.build_cast.new.values) c.build_cast.result c.in-Cast.is c.build_cast.ensures

pub build_leading_cast-requires : goal.build_leading_cast-requires
build_leading_cast-requires c = of_part c.args.part N.LeadingCast c.args.index (reverse c.args.values.now) c.in-LeadingCast.is c.requires

pub returns-in-LeadingCast : goal.returns-in-LeadingCast
returns-in-LeadingCast c = built_of_part c.args.part N.LeadingCast c.args.index (reverse c.args.values.now) (reverse c.build_leading_cast.new.values) c.build_leading_cast.result c.in-LeadingCast.is c.build_leading_cast.ensures

pub build_more_casts-requires : goal.build_more_casts-requires
build_more_casts-requires c = of_part c.args.part N.MoreCasts c.args.index (reverse c.args.values.now) c.in-MoreCasts.is c.requires

pub returns-in-MoreCasts : goal.returns-in-MoreCasts
returns-in-MoreCasts c = built_of_part c.args.part N.MoreCasts c.args.index (reverse c.args.values.now) (reverse c.build_more_casts.new.values) c.build_more_casts.result c.in-MoreCasts.is c.build_more_casts.ensures

pub build_unary-requires : goal.build_unary-requires
build_unary-requires c = of_part c.args.part (N.Unary c.in-Unary.context) c.args.index (reverse c.args.values.now) c.in-Unary.is c.requires

pub returns-in-Unary : goal.returns-in-Unary
returns-in-Unary c = built_of_part c.args.part (N.Unary c.in-Unary.context) c.args.index (reverse c.args.values.now) (reverse c.build_unary.new.values) c.build_unary.result c.in-Unary.is c.build_unary.ensures

pub build_leading_unary-requires : goal.build_leading_unary-requires
build_leading_unary-requires c = of_part c.args.part N.LeadingUnary c.args.index (reverse c.args.values.now) c.in-LeadingUnary.is c.requires

pub returns-in-LeadingUnary : goal.returns-in-LeadingUnary
returns-in-LeadingUnary c = built_of_part c.args.part N.LeadingUnary c.args.index (reverse c.args.values.now) (reverse c.build_leading_unary.new.values) c.build_leading_unary.result c.in-LeadingUnary.is c.build_leading_unary.ensures

pub build_borrowed-requires : goal.build_borrowed-requires
build_borrowed-requires c = of_part c.args.part (N.Borrowed c.in-Borrowed.context) c.args.index (reverse c.args.values.now) c.in-Borrowed.is c.requires

pub returns-in-Borrowed : goal.returns-in-Borrowed
returns-in-Borrowed c = built_of_part c.args.part (N.Borrowed c.in-Borrowed.context) c.args.index (reverse c.args.values.now) (reverse c.build_borrowed.new.values) c.build_borrowed.result c.in-Borrowed.is c.build_borrowed.ensures

pub build_postfix-requires : goal.build_postfix-requires
build_postfix-requires c = of_part c.args.part N.Postfix c.args.index (reverse c.args.values.now) c.in-Postfix.is c.requires

pub returns-in-Postfix : goal.returns-in-Postfix
returns-in-Postfix c = built_of_part c.args.part N.Postfix c.args.index (reverse c.args.values.now) (reverse c.build_postfix.new.values) c.build_postfix.result c.in-Postfix.is c.build_postfix.ensures

pub build_field_name-requires : goal.build_field_name-requires
build_field_name-requires c = of_part c.args.part N.FieldName c.args.index (reverse c.args.values.now) c.in-FieldName.is c.requires

pub returns-in-FieldName : goal.returns-in-FieldName
returns-in-FieldName c = built_of_part c.args.part N.FieldName c.args.index (reverse c.args.values.now) (reverse c.build_field_name.new.values) c.build_field_name.result c.in-FieldName.is c.build_field_name.ensures

pub build_core-requires : goal.build_core-requires
build_core-requires c = of_part c.args.part (N.Core c.in-Core.context) c.args.index (reverse c.args.values.now) c.in-Core.is c.requires

pub returns-in-Core : goal.returns-in-Core
returns-in-Core c = built_of_part c.args.part (N.Core c.in-Core.context) c.args.index (reverse c.args.values.now) (reverse c.build_core.new.values) c.build_core.result c.in-Core.is c.build_core.ensures

pub build_after_open-requires : goal.build_after_open-requires
build_after_open-requires c = of_part c.args.part N.AfterOpen c.args.index (reverse c.args.values.now) c.in-AfterOpen.is c.requires

pub returns-in-AfterOpen : goal.returns-in-AfterOpen
returns-in-AfterOpen c = built_of_part c.args.part N.AfterOpen c.args.index (reverse c.args.values.now) (reverse c.build_after_open.new.values) c.build_after_open.result c.in-AfterOpen.is c.build_after_open.ensures

pub build_after_first-requires : goal.build_after_first-requires
build_after_first-requires c = of_part c.args.part N.AfterFirst c.args.index (reverse c.args.values.now) c.in-AfterFirst.is c.requires

pub returns-in-AfterFirst : goal.returns-in-AfterFirst
returns-in-AfterFirst c = built_of_part c.args.part N.AfterFirst c.args.index (reverse c.args.values.now) (reverse c.build_after_first.new.values) c.build_after_first.result c.in-AfterFirst.is c.build_after_first.ensures

pub build_initial-requires : goal.build_initial-requires
build_initial-requires c = of_part c.args.part N.Initial c.args.index (reverse c.args.values.now) c.in-Initial.is c.requires

pub returns-in-Initial : goal.returns-in-Initial
returns-in-Initial c = built_of_part c.args.part N.Initial c.args.index (reverse c.args.values.now) (reverse c.build_initial.new.values) c.build_initial.result c.in-Initial.is c.build_initial.ensures

pub build_initial_value-requires : goal.build_initial_value-requires
build_initial_value-requires c = of_part c.args.part N.InitialValue c.args.index (reverse c.args.values.now) c.in-InitialValue.is c.requires

pub returns-in-InitialValue : goal.returns-in-InitialValue
returns-in-InitialValue c = built_of_part c.args.part N.InitialValue c.args.index (reverse c.args.values.now) (reverse c.build_initial_value.new.values) c.build_initial_value.result c.in-InitialValue.is c.build_initial_value.ensures

pub build_after_name-requires : goal.build_after_name-requires
build_after_name-requires c = of_part c.args.part (N.AfterName c.in-AfterName.context) c.args.index (reverse c.args.values.now) c.in-AfterName.is c.requires

pub returns-in-AfterName : goal.returns-in-AfterName
returns-in-AfterName c = built_of_part c.args.part (N.AfterName c.in-AfterName.context) c.args.index (reverse c.args.values.now) (reverse c.build_after_name.new.values) c.build_after_name.result c.in-AfterName.is c.build_after_name.ensures

pub build_after_panic-requires : goal.build_after_panic-requires
build_after_panic-requires c = of_part c.args.part (N.AfterPanic c.in-AfterPanic.context) c.args.index (reverse c.args.values.now) c.in-AfterPanic.is c.requires

pub returns-in-AfterPanic : goal.returns-in-AfterPanic
returns-in-AfterPanic c = built_of_part c.args.part (N.AfterPanic c.in-AfterPanic.context) c.args.index (reverse c.args.values.now) (reverse c.build_after_panic.new.values) c.build_after_panic.result c.in-AfterPanic.is c.build_after_panic.ensures

pub build_after_assert-requires : goal.build_after_assert-requires
build_after_assert-requires c = of_part c.args.part (N.AfterAssert c.in-AfterAssert.context) c.args.index (reverse c.args.values.now) c.in-AfterAssert.is c.requires

pub returns-in-AfterAssert : goal.returns-in-AfterAssert
returns-in-AfterAssert c = built_of_part c.args.part (N.AfterAssert c.in-AfterAssert.context) c.args.index (reverse c.args.values.now) (reverse c.build_after_assert.new.values) c.build_after_assert.result c.in-AfterAssert.is c.build_after_assert.ensures

pub build_after_mem-requires : goal.build_after_mem-requires
build_after_mem-requires c = of_part c.args.part (N.AfterMem c.in-AfterMem.context) c.args.index (reverse c.args.values.now) c.in-AfterMem.is c.requires

pub returns-in-AfterMem : goal.returns-in-AfterMem
returns-in-AfterMem c = built_of_part c.args.part (N.AfterMem c.in-AfterMem.context) c.args.index (reverse c.args.values.now) (reverse c.build_after_mem.new.values) c.build_after_mem.result c.in-AfterMem.is c.build_after_mem.ensures

pub build_after_std-requires : goal.build_after_std-requires
build_after_std-requires c = of_part c.args.part (N.AfterStd c.in-AfterStd.context) c.args.index (reverse c.args.values.now) c.in-AfterStd.is c.requires

pub returns-in-AfterStd : goal.returns-in-AfterStd
returns-in-AfterStd c = built_of_part c.args.part (N.AfterStd c.in-AfterStd.context) c.args.index (reverse c.args.values.now) (reverse c.build_after_std.new.values) c.build_after_std.result c.in-AfterStd.is c.build_after_std.ensures

pub build_name_more-requires : goal.build_name_more-requires
build_name_more-requires c = of_part c.args.part (N.NameMore c.in-NameMore.context) c.args.index (reverse c.args.values.now) c.in-NameMore.is c.requires

pub returns-in-NameMore : goal.returns-in-NameMore
returns-in-NameMore c = built_of_part c.args.part (N.NameMore c.in-NameMore.context) c.args.index (reverse c.args.values.now) (reverse c.build_name_more.new.values) c.build_name_more.result c.in-NameMore.is c.build_name_more.ensures

pub build_applied-requires : goal.build_applied-requires
build_applied-requires c = of_part c.args.part (N.Applied c.in-Applied.context) c.args.index (reverse c.args.values.now) c.in-Applied.is c.requires

pub returns-in-Applied : goal.returns-in-Applied
returns-in-Applied c = built_of_part c.args.part (N.Applied c.in-Applied.context) c.args.index (reverse c.args.values.now) (reverse c.build_applied.new.values) c.build_applied.result c.in-Applied.is c.build_applied.ensures

pub build_after_colons-requires : goal.build_after_colons-requires
build_after_colons-requires c = of_part c.args.part (N.AfterColons c.in-AfterColons.context) c.args.index (reverse c.args.values.now) c.in-AfterColons.is c.requires

pub returns-in-AfterColons : goal.returns-in-AfterColons
returns-in-AfterColons c = built_of_part c.args.part (N.AfterColons c.in-AfterColons.context) c.args.index (reverse c.args.values.now) (reverse c.build_after_colons.new.values) c.build_after_colons.result c.in-AfterColons.is c.build_after_colons.ensures

pub build_after_mem_colons-requires : goal.build_after_mem_colons-requires
build_after_mem_colons-requires c = of_part c.args.part (N.AfterMemColons c.in-AfterMemColons.context) c.args.index (reverse c.args.values.now) c.in-AfterMemColons.is c.requires

pub returns-in-AfterMemColons : goal.returns-in-AfterMemColons
returns-in-AfterMemColons c = built_of_part c.args.part (N.AfterMemColons c.in-AfterMemColons.context) c.args.index (reverse c.args.values.now) (reverse c.build_after_mem_colons.new.values) c.build_after_mem_colons.result c.in-AfterMemColons.is c.build_after_mem_colons.ensures

pub build_after_std_colons-requires : goal.build_after_std_colons-requires
build_after_std_colons-requires c = of_part c.args.part (N.AfterStdColons c.in-AfterStdColons.context) c.args.index (reverse c.args.values.now) c.in-AfterStdColons.is c.requires

pub returns-in-AfterStdColons : goal.returns-in-AfterStdColons
returns-in-AfterStdColons c = built_of_part c.args.part (N.AfterStdColons c.in-AfterStdColons.context) c.args.index (reverse c.args.values.now) (reverse c.build_after_std_colons.new.values) c.build_after_std_colons.result c.in-AfterStdColons.is c.build_after_std_colons.ensures

pub build_after_std_mem-requires : goal.build_after_std_mem-requires
build_after_std_mem-requires c = of_part c.args.part N.AfterStdMem c.args.index (reverse c.args.values.now) c.in-AfterStdMem.is c.requires

pub returns-in-AfterStdMem : goal.returns-in-AfterStdMem
returns-in-AfterStdMem c = built_of_part c.args.part N.AfterStdMem c.args.index (reverse c.args.values.now) (reverse c.build_after_std_mem.new.values) c.build_after_std_mem.result c.in-AfterStdMem.is c.build_after_std_mem.ensures

pub build_after_std_mem_colons-requires : goal.build_after_std_mem_colons-requires
build_after_std_mem_colons-requires c = of_part c.args.part N.AfterStdMemColons c.args.index (reverse c.args.values.now) c.in-AfterStdMemColons.is c.requires

pub returns-in-AfterStdMemColons : goal.returns-in-AfterStdMemColons
returns-in-AfterStdMemColons c = built_of_part c.args.part N.AfterStdMemColons c.args.index (reverse c.args.values.now) (reverse c.build_after_std_mem_colons.new.values) c.build_after_std_mem_colons.result c.in-AfterStdMemColons.is c.build_after_std_mem_colons.ensures

pub build_after_turbo-requires : goal.build_after_turbo-requires
build_after_turbo-requires c = of_part c.args.part (N.AfterTurbo c.in-AfterTurbo.context) c.args.index (reverse c.args.values.now) c.in-AfterTurbo.is c.requires

pub returns-in-AfterTurbo : goal.returns-in-AfterTurbo
returns-in-AfterTurbo c = built_of_part c.args.part (N.AfterTurbo c.in-AfterTurbo.context) c.args.index (reverse c.args.values.now) (reverse c.build_after_turbo.new.values) c.build_after_turbo.result c.in-AfterTurbo.is c.build_after_turbo.ensures

pub build_after_path-requires : goal.build_after_path-requires
build_after_path-requires c = of_part c.args.part N.AfterPath c.args.index (reverse c.args.values.now) c.in-AfterPath.is c.requires

pub returns-in-AfterPath : goal.returns-in-AfterPath
returns-in-AfterPath c = built_of_part c.args.part N.AfterPath c.args.index (reverse c.args.values.now) (reverse c.build_after_path.new.values) c.build_after_path.result c.in-AfterPath.is c.build_after_path.ensures

pub build_message-requires : goal.build_message-requires
build_message-requires c = of_part c.args.part N.Message c.args.index (reverse c.args.values.now) c.in-Message.is c.requires

pub returns-in-Message : goal.returns-in-Message
returns-in-Message c = built_of_part c.args.part N.Message c.args.index (reverse c.args.values.now) (reverse c.build_message.new.values) c.build_message.result c.in-Message.is c.build_message.ensures

pub build_assert_end-requires : goal.build_assert_end-requires
build_assert_end-requires c = of_part c.args.part N.AssertEnd c.args.index (reverse c.args.values.now) c.in-AssertEnd.is c.requires

pub returns-in-AssertEnd : goal.returns-in-AssertEnd
returns-in-AssertEnd c = built_of_part c.args.part N.AssertEnd c.args.index (reverse c.args.values.now) (reverse c.build_assert_end.new.values) c.build_assert_end.result c.in-AssertEnd.is c.build_assert_end.ensures

pub build_after_assert_comma-requires : goal.build_after_assert_comma-requires
build_after_assert_comma-requires c = of_part c.args.part N.AfterAssertComma c.args.index (reverse c.args.values.now) c.in-AfterAssertComma.is c.requires

pub returns-in-AfterAssertComma : goal.returns-in-AfterAssertComma
returns-in-AfterAssertComma c = built_of_part c.args.part N.AfterAssertComma c.args.index (reverse c.args.values.now) (reverse c.build_after_assert_comma.new.values) c.build_after_assert_comma.result c.in-AfterAssertComma.is c.build_after_assert_comma.ensures

pub build_after_message-requires : goal.build_after_message-requires
build_after_message-requires c = of_part c.args.part N.AfterMessage c.args.index (reverse c.args.values.now) c.in-AfterMessage.is c.requires

pub returns-in-AfterMessage : goal.returns-in-AfterMessage
returns-in-AfterMessage c = built_of_part c.args.part N.AfterMessage c.args.index (reverse c.args.values.now) (reverse c.build_after_message.new.values) c.build_after_message.result c.in-AfterMessage.is c.build_after_message.ensures

pub build_pattern-requires : goal.build_pattern-requires
build_pattern-requires c = of_part c.args.part N.Pattern c.args.index (reverse c.args.values.now) c.in-Pattern.is c.requires

pub returns-in-Pattern : goal.returns-in-Pattern
returns-in-Pattern c = built_of_part c.args.part N.Pattern c.args.index (reverse c.args.values.now) (reverse c.build_pattern.new.values) c.build_pattern.result c.in-Pattern.is c.build_pattern.ensures

pub build_after_pattern_open-requires : goal.build_after_pattern_open-requires
build_after_pattern_open-requires c = of_part c.args.part N.AfterPatternOpen c.args.index (reverse c.args.values.now) c.in-AfterPatternOpen.is c.requires

pub returns-in-AfterPatternOpen : goal.returns-in-AfterPatternOpen
returns-in-AfterPatternOpen c = built_of_part c.args.part N.AfterPatternOpen c.args.index (reverse c.args.values.now) (reverse c.build_after_pattern_open.new.values) c.build_after_pattern_open.result c.in-AfterPatternOpen.is c.build_after_pattern_open.ensures

pub build_after_pattern-requires : goal.build_after_pattern-requires
build_after_pattern-requires c = of_part c.args.part N.AfterPattern c.args.index (reverse c.args.values.now) c.in-AfterPattern.is c.requires

pub returns-in-AfterPattern : goal.returns-in-AfterPattern
returns-in-AfterPattern c = built_of_part c.args.part N.AfterPattern c.args.index (reverse c.args.values.now) (reverse c.build_after_pattern.new.values) c.build_after_pattern.result c.in-AfterPattern.is c.build_after_pattern.ensures

pub build_field_pattern-requires : goal.build_field_pattern-requires
build_field_pattern-requires c = of_part c.args.part N.FieldPattern c.args.index (reverse c.args.values.now) c.in-FieldPattern.is c.requires

pub returns-in-FieldPattern : goal.returns-in-FieldPattern
returns-in-FieldPattern c = built_of_part c.args.part N.FieldPattern c.args.index (reverse c.args.values.now) (reverse c.build_field_pattern.new.values) c.build_field_pattern.result c.in-FieldPattern.is c.build_field_pattern.ensures

pub build_field_pattern_value-requires : goal.build_field_pattern_value-requires
build_field_pattern_value-requires c = of_part c.args.part N.FieldPatternValue c.args.index (reverse c.args.values.now) c.in-FieldPatternValue.is c.requires

pub returns-in-FieldPatternValue : goal.returns-in-FieldPatternValue
returns-in-FieldPatternValue c = built_of_part c.args.part N.FieldPatternValue c.args.index (reverse c.args.values.now) (reverse c.build_field_pattern_value.new.values) c.build_field_pattern_value.result c.in-FieldPatternValue.is c.build_field_pattern_value.ensures

pub build_pattern_parts-requires : goal.build_pattern_parts-requires
build_pattern_parts-requires c = of_part c.args.part N.PatternParts c.args.index (reverse c.args.values.now) c.in-PatternParts.is c.requires

pub returns-in-PatternParts : goal.returns-in-PatternParts
returns-in-PatternParts c = built_of_part c.args.part N.PatternParts c.args.index (reverse c.args.values.now) (reverse c.build_pattern_parts.new.values) c.build_pattern_parts.result c.in-PatternParts.is c.build_pattern_parts.ensures

pub build_given_parts-requires : goal.build_given_parts-requires
build_given_parts-requires c = of_part c.args.part N.GivenParts c.args.index (reverse c.args.values.now) c.in-GivenParts.is c.requires

pub returns-in-GivenParts : goal.returns-in-GivenParts
returns-in-GivenParts c = built_of_part c.args.part N.GivenParts c.args.index (reverse c.args.values.now) (reverse c.build_given_parts.new.values) c.build_given_parts.result c.in-GivenParts.is c.build_given_parts.ensures

pub build_after_pattern_name-requires : goal.build_after_pattern_name-requires
build_after_pattern_name-requires c = of_part c.args.part N.AfterPatternName c.args.index (reverse c.args.values.now) c.in-AfterPatternName.is c.requires

pub returns-in-AfterPatternName : goal.returns-in-AfterPatternName
returns-in-AfterPatternName c = built_of_part c.args.part N.AfterPatternName c.args.index (reverse c.args.values.now) (reverse c.build_after_pattern_name.new.values) c.build_after_pattern_name.result c.in-AfterPatternName.is c.build_after_pattern_name.ensures

pub build_after_pattern_mem-requires : goal.build_after_pattern_mem-requires
build_after_pattern_mem-requires c = of_part c.args.part N.AfterPatternMem c.args.index (reverse c.args.values.now) c.in-AfterPatternMem.is c.requires

pub returns-in-AfterPatternMem : goal.returns-in-AfterPatternMem
returns-in-AfterPatternMem c = built_of_part c.args.part N.AfterPatternMem c.args.index (reverse c.args.values.now) (reverse c.build_after_pattern_mem.new.values) c.build_after_pattern_mem.result c.in-AfterPatternMem.is c.build_after_pattern_mem.ensures

pub build_after_pattern_std-requires : goal.build_after_pattern_std-requires
build_after_pattern_std-requires c = of_part c.args.part N.AfterPatternStd c.args.index (reverse c.args.values.now) c.in-AfterPatternStd.is c.requires

pub returns-in-AfterPatternStd : goal.returns-in-AfterPatternStd
returns-in-AfterPatternStd c = built_of_part c.args.part N.AfterPatternStd c.args.index (reverse c.args.values.now) (reverse c.build_after_pattern_std.new.values) c.build_after_pattern_std.result c.in-AfterPatternStd.is c.build_after_pattern_std.ensures

pub build_after_pattern_colons-requires : goal.build_after_pattern_colons-requires
build_after_pattern_colons-requires c = of_part c.args.part N.AfterPatternColons c.args.index (reverse c.args.values.now) c.in-AfterPatternColons.is c.requires

pub returns-in-AfterPatternColons : goal.returns-in-AfterPatternColons
returns-in-AfterPatternColons c = built_of_part c.args.part N.AfterPatternColons c.args.index (reverse c.args.values.now) (reverse c.build_after_pattern_colons.new.values) c.build_after_pattern_colons.result c.in-AfterPatternColons.is c.build_after_pattern_colons.ensures

pub build_after_pattern_mem_colons-requires : goal.build_after_pattern_mem_colons-requires
build_after_pattern_mem_colons-requires c = of_part c.args.part N.AfterPatternMemColons c.args.index (reverse c.args.values.now) c.in-AfterPatternMemColons.is c.requires

pub returns-in-AfterPatternMemColons : goal.returns-in-AfterPatternMemColons
returns-in-AfterPatternMemColons c = built_of_part c.args.part N.AfterPatternMemColons c.args.index (reverse c.args.values.now) (reverse c.build_after_pattern_mem_colons.new.values) c.build_after_pattern_mem_colons.result c.in-AfterPatternMemColons.is c.build_after_pattern_mem_colons.ensures

pub build_after_pattern_std_colons-requires : goal.build_after_pattern_std_colons-requires
build_after_pattern_std_colons-requires c = of_part c.args.part N.AfterPatternStdColons c.args.index (reverse c.args.values.now) c.in-AfterPatternStdColons.is c.requires

pub returns-in-AfterPatternStdColons : goal.returns-in-AfterPatternStdColons
returns-in-AfterPatternStdColons c = built_of_part c.args.part N.AfterPatternStdColons c.args.index (reverse c.args.values.now) (reverse c.build_after_pattern_std_colons.new.values) c.build_after_pattern_std_colons.result c.in-AfterPatternStdColons.is c.build_after_pattern_std_colons.ensures

pub build_after_pattern_std_mem-requires : goal.build_after_pattern_std_mem-requires
build_after_pattern_std_mem-requires c = of_part c.args.part N.AfterPatternStdMem c.args.index (reverse c.args.values.now) c.in-AfterPatternStdMem.is c.requires

pub returns-in-AfterPatternStdMem : goal.returns-in-AfterPatternStdMem
returns-in-AfterPatternStdMem c = built_of_part c.args.part N.AfterPatternStdMem c.args.index (reverse c.args.values.now) (reverse c.build_after_pattern_std_mem.new.values) c.build_after_pattern_std_mem.result c.in-AfterPatternStdMem.is c.build_after_pattern_std_mem.ensures
