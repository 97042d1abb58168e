-- What contracts see of a node: the tree with what its lists and boxes hold.
-- Made by tools/code.py from tools/rust_ast.desc.py.
use Rattle.rust_ast.specs.Spelled as t
use Rattle.core_ty.specs.Types as ty
use Rattle.rust_ast.specs.declared.spelled.ValNode.{ValNode}
use Rattle.rust_ast.specs.declared.spelled.ValNode.TheVariants as Val_
use Rattle.rust_ast.specs.declared.spelled.CalleeNode.{CalleeNode}
use Rattle.rust_ast.specs.declared.spelled.CalleeNode.TheVariants as Callee_
use Rattle.rust_ast.specs.declared.spelled.FormNode.{FormNode}
use Rattle.rust_ast.specs.declared.spelled.FormNode.TheVariants as Form_
use Rattle.rust_ast.specs.declared.spelled.PlaceNode.{PlaceNode}
use Rattle.rust_ast.specs.declared.spelled.PlaceNode.TheVariants as Place_
use Rattle.rust_ast.specs.declared.spelled.ScrutineeNode.{ScrutineeNode}
use Rattle.rust_ast.specs.declared.spelled.ScrutineeNode.TheVariants as Scrutinee_
use Rattle.rust_ast.specs.declared.spelled.StmtNode.{StmtNode}
use Rattle.rust_ast.specs.declared.spelled.StmtNode.TheVariants as Stmt_
use Rattle.rust_ast.specs.declared.spelled.BlockNode.{BlockNode}
use Rattle.rust_ast.specs.declared.spelled.BlockNode.TheVariants as Block_

abbrev pub val_of : ValNode → t.Val
val_of (Val_.Value a0 a1 a2 a3) = t.value a0 a1 a2 a3

abbrev pub callee_of : CalleeNode → t.Callee
callee_of (Callee_.Function a0) = t.function a0
callee_of (Callee_.BuiltinOf a0) = t.builtin_of a0

abbrev pub form_of : FormNode → t.Form
form_of (Form_.Number a0) = t.number a0
form_of (Form_.Truth a0) = t.truth a0
form_of (Form_.Tuple a0) = t.tuple (t.values a0)
form_of (Form_.Construct a0 a1 a2) = t.construct a0 a1 (t.parts a2)
form_of (Form_.UseOf a0 a1) = t.use_of a0 a1
form_of (Form_.FieldOf a0 a1 a2) = t.field_of a0 a1 a2
form_of (Form_.UnboxOf a0 a1) = t.unbox_of a0 a1
form_of (Form_.Borrow a0 a1) = t.borrow a0 a1
form_of (Form_.Minus a0) = t.minus a0
form_of (Form_.Negation a0) = t.negation a0
form_of (Form_.Binary a0 a1 a2) = t.binary a0 a1 a2
form_of (Form_.Compare a0 a1 a2) = t.compare a0 a1 a2
form_of (Form_.Cast a0 a1) = t.cast a0 a1
form_of (Form_.Both a0 a1) = t.both a0 a1
form_of (Form_.Either a0 a1) = t.either a0 a1
form_of (Form_.Call a0 a1 a2) = t.call a0 (ty.tys a1) (t.values a2)
form_of (Form_.Assign a0 a1) = t.assign a0 a1
form_of (Form_.Update a0 a1 a2 a3) = t.update a0 a1 a2 a3
form_of (Form_.Inner a0) = t.inner a0
form_of (Form_.Select a0 a1) = t.select a0 (t.arms a1)
form_of (Form_.Forever a0 a1 a2 a3) = t.forever a0 a1 a2 a3
form_of (Form_.Leave a0 a1) = t.leave a0 (t.maybevalue a1)
form_of (Form_.GoOn a0) = t.go_on a0
form_of (Form_.Give a0) = t.give (t.maybevalue a0)
form_of Form_.Panic = t.panic

abbrev pub place_of : PlaceNode → t.Place
place_of (Place_.Variable a0) = t.variable a0
place_of (Place_.Field a0 a1) = t.field a0 a1
place_of (Place_.Unbox a0) = t.unbox a0
place_of (Place_.Through a0) = t.through a0
place_of (Place_.ThroughValue a0) = t.through_value a0

abbrev pub scrutinee_of : ScrutineeNode → t.Scrutinee
scrutinee_of (Scrutinee_.Stands a0 a1 a2) = t.stands a0 a1 a2
scrutinee_of (Scrutinee_.Held a0) = t.held a0

abbrev pub stmt_of : StmtNode → t.Stmt
stmt_of (Stmt_.Run a0) = t.run a0
stmt_of (Stmt_.Put a0 a1 a2) = t.put a0 a1 a2
stmt_of (Stmt_.Pass a0 a1) = t.pass a0 a1
stmt_of (Stmt_.OpenUp a0 a1 a2) = t.open_up a0 a1 a2
stmt_of (Stmt_.Later a0 a1) = t.later a0 (t.variables a1)

abbrev pub block_of : BlockNode → t.Block
block_of (Block_.Block a0 a1 a2 a3 a4) = t.block a0 a1 a2 (t.stmts a3) (t.maybevalue a4)
