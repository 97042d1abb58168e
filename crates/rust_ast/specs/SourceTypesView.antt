-- What contracts see of a node: the tree with what its lists and boxes hold.
-- Made by tools/code.py from tools/rust_ast.desc.py.
use Rattle.rust_ast.specs.SourceTypes as t
use Rattle.rust_ast.specs.declared.source_types.LifetimeNode.{LifetimeNode}
use Rattle.rust_ast.specs.declared.source_types.LifetimeNode.TheVariants as Lifetime_
use Rattle.rust_ast.specs.declared.source_types.TurboNode.{TurboNode}
use Rattle.rust_ast.specs.declared.source_types.TurboNode.TheVariants as Turbo_
use Rattle.rust_ast.specs.declared.source_types.PathNode.{PathNode}
use Rattle.rust_ast.specs.declared.source_types.PathNode.TheVariants as Path_
use Rattle.rust_ast.specs.declared.source_types.WrittenNode.{WrittenNode}
use Rattle.rust_ast.specs.declared.source_types.WrittenNode.TheVariants as Written_

abbrev pub lifetime_of : LifetimeNode → t.Lifetime
lifetime_of Lifetime_.Elided = t.elided
lifetime_of (Lifetime_.Lifetime a0) = t.lifetime a0

abbrev pub turbo_of : TurboNode → t.Turbo
turbo_of Turbo_.NoTurbo = t.no_turbo
turbo_of (Turbo_.Turbo a0) = t.turbo (t.writtens a0)

abbrev pub path_of : PathNode → t.Path
path_of (Path_.One a0) = t.one a0
path_of (Path_.Two a0 a1 a2) = t.two a0 a1 a2
path_of (Path_.BoxNew a0) = t.box_new a0
path_of (Path_.MemReplace a0 a1 a2) = t.mem_replace a0 a1 a2
path_of (Path_.MemSwap a0 a1 a2) = t.mem_swap a0 a1 a2

abbrev pub written_of : WrittenNode → t.Written
written_of (Written_.Int a0 a1) = t.int a0 a1
written_of (Written_.Bool a0) = t.bool a0
written_of (Written_.Unit a0) = t.unit a0
written_of (Written_.Tuple a0 a1) = t.tuple a0 (t.writtens a1)
written_of (Written_.Ref a0 a1 a2 a3) = t.ref a0 a1 a2 a3
written_of (Written_.Boxed a0 a1) = t.boxed a0 a1
written_of (Written_.Named a0 a1 a2) = t.named a0 a1 (t.writtens a2)
