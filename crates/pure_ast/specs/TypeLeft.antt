-- The sizes of what is left of a type as it is dropped.
use Rattle.std.specs.Prelude.{ℕ, ◌+◌, Option, Some, None}
use Rattle.pure_ast.specs.declared.ty.Below.{Below}
use Rattle.pure_ast.specs.declared.ty.Below.TheVariants as B
use Rattle.pure_ast.specs.Types.{PTy, ptys, nodes_pty, nodes_ptys}

-- the nodes of a type with these types in it
abbrev pub nodes_below : Below → ℕ
nodes_below B.Nothing = 1
nodes_below (B.Parts ts) = nodes_ptys (ptys ts) + 1
nodes_below (B.Two a b) = nodes_pty a + nodes_pty b + 1

-- the nodes of a type that waits
abbrev pub nodes_waiting : Option PTy → ℕ
nodes_waiting None = 0
nodes_waiting (Some t) = nodes_pty t
