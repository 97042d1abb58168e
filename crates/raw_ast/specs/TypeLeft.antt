-- The sizes of what is left of a type as it is dropped.
use Rattle.std.specs.Prelude.{ℕ, ◌+◌, Option, Some, None}
use Rattle.raw_ast.specs.declared.ty.Below.{Below}
use Rattle.raw_ast.specs.declared.ty.Below.TheVariants as B
use Rattle.raw_ast.specs.Types.{RawType, rawtypes, nodes_rawtype, nodes_rawtypes}

-- the nodes of a type with these types in it
abbrev pub nodes_below : Below → ℕ
nodes_below B.Nothing = 1
nodes_below (B.Parts ts) = nodes_rawtypes (rawtypes ts) + 1
nodes_below (B.Two a b) = nodes_rawtype a + nodes_rawtype b + 1

-- the nodes of a type that waits
abbrev pub nodes_waiting : Option RawType → ℕ
nodes_waiting None = 0
nodes_waiting (Some t) = nodes_rawtype t
