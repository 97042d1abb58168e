-- Two operands with an operator between are read of their tokens.
use Rattle.std.proofs.Common.{refl, ℕ, List}
use Rattle.aen_base.specs.declared.span.Span.{Span}
use Rattle.aen_base.specs.declared.operators.BinOp.TheVariants as bin
use Rattle.aen_base.specs.declared.operators.CmpOp.TheVariants as cmp
use Rattle.source_grammar.specs.declared.lexeme.Lexeme.{Lexeme}
use Rattle.source_grammar.specs.declared.part.Part.TheVariants as N
use Rattle.source_grammar.specs.declared.part.Context.TheVariants as At
use Rattle.rust_ast.specs.Source as s
use Rattle.rust_printer.specs.Tok.{Tok}
use Rattle.rust_printer.specs.ExpressionTokens.{in_brackets_unless, expr_tokens}
use Rattle.rust_printer.specs.Forms.{is_operand}
use Rattle.rust_printer.specs.Bare.{bare_expr}
use Rattle.rust_printer.specs.Laid.{Laid}
use Rattle.rust_printer.proofs.ReadCommon.{Read}
use Rattle.rust_printer.proofs.ReadLevels.{Is, two_product, two_sum, two_shift, two_bitand, two_xor, two_bitor, two_compare, two_and, two_or, two_assign}
use Rattle.aen_base.specs.declared.operators.BinOp.{BinOp}
use Rattle.aen_base.specs.declared.operators.CmpOp.{CmpOp}
use Rattle.rust_printer.proofs.ReadOperands.{Reader, other_node, operand_read}

-- the second operand
abbrev Next : s.Expr → List Tok → List Lexeme → Type 0
Next b more us = Read (N.Unary At.Free) (Is (bare_expr b)) more us

next_of : (b : s.Expr) → Reader b → (more : List Tok) (from : ℕ) (us : List Lexeme) → Laid from (in_brackets_unless (is_operand b) (expr_tokens b) more) us → Next b more us
next_of b q more from us l = (operand_read b q from more us l).unary

pub binary_read : (span : Span) (op : BinOp) (a b : s.Expr) → Reader a → Reader b → Reader (s.binary span op a b)
binary_read span bin.Add a b r q at more ls laid = other_node (s.binary span bin.Add a b) refl refl refl refl (two_sum (operand_read a r at _ ls laid).unary refl (next_of b q more))
binary_read span bin.Sub a b r q at more ls laid = other_node (s.binary span bin.Sub a b) refl refl refl refl (two_sum (operand_read a r at _ ls laid).unary refl (next_of b q more))
binary_read span bin.Mul a b r q at more ls laid = other_node (s.binary span bin.Mul a b) refl refl refl refl (two_product (operand_read a r at _ ls laid).unary refl (next_of b q more))
binary_read span bin.Div a b r q at more ls laid = other_node (s.binary span bin.Div a b) refl refl refl refl (two_product (operand_read a r at _ ls laid).unary refl (next_of b q more))
binary_read span bin.Rem a b r q at more ls laid = other_node (s.binary span bin.Rem a b) refl refl refl refl (two_product (operand_read a r at _ ls laid).unary refl (next_of b q more))
binary_read span bin.Shl a b r q at more ls laid = other_node (s.binary span bin.Shl a b) refl refl refl refl (two_shift (operand_read a r at _ ls laid).unary refl (next_of b q more))
binary_read span bin.Shr a b r q at more ls laid = other_node (s.binary span bin.Shr a b) refl refl refl refl (two_shift (operand_read a r at _ ls laid).unary refl (next_of b q more))
binary_read span bin.And a b r q at more ls laid = other_node (s.binary span bin.And a b) refl refl refl refl (two_bitand (operand_read a r at _ ls laid).unary refl (next_of b q more))
binary_read span bin.Or a b r q at more ls laid = other_node (s.binary span bin.Or a b) refl refl refl refl (two_bitor (operand_read a r at _ ls laid).unary refl (next_of b q more))
binary_read span bin.Xor a b r q at more ls laid = other_node (s.binary span bin.Xor a b) refl refl refl refl (two_xor (operand_read a r at _ ls laid).unary refl (next_of b q more))

pub update_read : (span : Span) (op : BinOp) (a b : s.Expr) → Reader a → Reader b → Reader (s.update span op a b)
update_read span bin.Add a b r q at more ls laid = other_node (s.update span bin.Add a b) refl refl refl refl (two_assign (operand_read a r at _ ls laid).unary refl (next_of b q more))
update_read span bin.Sub a b r q at more ls laid = other_node (s.update span bin.Sub a b) refl refl refl refl (two_assign (operand_read a r at _ ls laid).unary refl (next_of b q more))
update_read span bin.Mul a b r q at more ls laid = other_node (s.update span bin.Mul a b) refl refl refl refl (two_assign (operand_read a r at _ ls laid).unary refl (next_of b q more))
update_read span bin.Div a b r q at more ls laid = other_node (s.update span bin.Div a b) refl refl refl refl (two_assign (operand_read a r at _ ls laid).unary refl (next_of b q more))
update_read span bin.Rem a b r q at more ls laid = other_node (s.update span bin.Rem a b) refl refl refl refl (two_assign (operand_read a r at _ ls laid).unary refl (next_of b q more))
update_read span bin.Shl a b r q at more ls laid = other_node (s.update span bin.Shl a b) refl refl refl refl (two_assign (operand_read a r at _ ls laid).unary refl (next_of b q more))
update_read span bin.Shr a b r q at more ls laid = other_node (s.update span bin.Shr a b) refl refl refl refl (two_assign (operand_read a r at _ ls laid).unary refl (next_of b q more))
update_read span bin.And a b r q at more ls laid = other_node (s.update span bin.And a b) refl refl refl refl (two_assign (operand_read a r at _ ls laid).unary refl (next_of b q more))
update_read span bin.Or a b r q at more ls laid = other_node (s.update span bin.Or a b) refl refl refl refl (two_assign (operand_read a r at _ ls laid).unary refl (next_of b q more))
update_read span bin.Xor a b r q at more ls laid = other_node (s.update span bin.Xor a b) refl refl refl refl (two_assign (operand_read a r at _ ls laid).unary refl (next_of b q more))

pub compare_read : (span : Span) (op : CmpOp) (a b : s.Expr) → Reader a → Reader b → Reader (s.compare span op a b)
compare_read span cmp.Eq a b r q at more ls laid = other_node (s.compare span cmp.Eq a b) refl refl refl refl (two_compare (operand_read a r at _ ls laid).unary refl (next_of b q more))
compare_read span cmp.Ne a b r q at more ls laid = other_node (s.compare span cmp.Ne a b) refl refl refl refl (two_compare (operand_read a r at _ ls laid).unary refl (next_of b q more))
compare_read span cmp.Lt a b r q at more ls laid = other_node (s.compare span cmp.Lt a b) refl refl refl refl (two_compare (operand_read a r at _ ls laid).unary refl (next_of b q more))
compare_read span cmp.Le a b r q at more ls laid = other_node (s.compare span cmp.Le a b) refl refl refl refl (two_compare (operand_read a r at _ ls laid).unary refl (next_of b q more))
compare_read span cmp.Gt a b r q at more ls laid = other_node (s.compare span cmp.Gt a b) refl refl refl refl (two_compare (operand_read a r at _ ls laid).unary refl (next_of b q more))
compare_read span cmp.Ge a b r q at more ls laid = other_node (s.compare span cmp.Ge a b) refl refl refl refl (two_compare (operand_read a r at _ ls laid).unary refl (next_of b q more))

pub both_read : (span : Span) (a b : s.Expr) → Reader a → Reader b → Reader (s.both span a b)
both_read span a b r q at more ls laid = other_node (s.both span a b) refl refl refl refl (two_and (operand_read a r at _ ls laid).unary refl (next_of b q more))

pub either_read : (span : Span) (a b : s.Expr) → Reader a → Reader b → Reader (s.either span a b)
either_read span a b r q at more ls laid = other_node (s.either span a b) refl refl refl refl (two_or (operand_read a r at _ ls laid).unary refl (next_of b q more))

pub assign_read : (span : Span) (a b : s.Expr) → Reader a → Reader b → Reader (s.assign span a b)
assign_read span a b r q at more ls laid = other_node (s.assign span a b) refl refl refl refl (two_assign (operand_read a r at _ ls laid).unary refl (next_of b q more))
