-- What contracts see of a node: the tree with what its lists and boxes hold.
-- Made by tools/code.py from tools/rust_ast.desc.py.
use Rattle.rust_ast.specs.Written as t
use Rattle.rust_ast.specs.declared.written.LifetimeNode.{LifetimeNode}
use Rattle.rust_ast.specs.declared.written.LifetimeNode.TheVariants as Lifetime_
use Rattle.rust_ast.specs.declared.written.TurbosNode.{TurbosNode}
use Rattle.rust_ast.specs.declared.written.TurbosNode.TheVariants as Turbos_
use Rattle.rust_ast.specs.declared.written.WrittenNode.{WrittenNode}
use Rattle.rust_ast.specs.declared.written.WrittenNode.TheVariants as Written_

abbrev pub lifetime_of : LifetimeNode → t.Lifetime
lifetime_of Lifetime_.Elided = t.elided
lifetime_of (Lifetime_.Declared a0) = t.declared a0
lifetime_of Lifetime_.Undeclared = t.undeclared

abbrev pub turbos_of : TurbosNode → t.Turbos
turbos_of Turbos_.NoTurbo = t.no_turbo
turbos_of (Turbos_.OneTurbo a0) = t.one_turbo (t.writtens a0)
turbos_of (Turbos_.TwoTurbos a0 a1) = t.two_turbos (t.writtens a0) (t.writtens a1)

abbrev pub written_of : WrittenNode → t.Written
written_of (Written_.Int a0 a1) = t.int a0 a1
written_of (Written_.Bool a0) = t.bool a0
written_of (Written_.Unit a0) = t.unit a0
written_of (Written_.Tuple a0 a1) = t.tuple a0 (t.writtens a1)
written_of (Written_.Ref a0 a1 a2 a3) = t.ref a0 a1 a2 a3
written_of (Written_.Boxed a0 a1) = t.boxed a0 a1
written_of (Written_.Named a0 a1 a2) = t.named a0 a1 (t.writtens a2)
written_of (Written_.Param a0 a1 a2) = t.param a0 a1 (t.writtens a2)
