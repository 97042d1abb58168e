-- The body of a function with names resolved (LANGUAGE.md, "Names").
use Rattle.std.specs.Prelude.{false, List, [], length, map, Result, Ok}
use Rattle.aen_base.specs.declared.span.Span.{Span}
use Rattle.rust_ast.specs.Resolved as r
use Rattle.rust_ast.specs.declared.program.Param.{Param}
use Rattle.rust_ast.specs.declared.program.Function as functions
use Rattle.rust_ast.specs.declared.resolution.Variable.{Variable}
use Rattle.name_tables.specs.declared.tables.Tables.{Tables}
use Rattle.name_tables.specs.declared.tables.Generics.{Generics}
use Rattle.name_tables.specs.Lookups.{and_then}
use Rattle.name_uses.specs.Scopes.{State, enter}
use Rattle.name_uses.specs.Uses.{read_block}

-- the parameters are the first variables, and in scope
abbrev pub param_variable : Param → Variable
param_variable x = record { name = x.name.name; span = x.name.span; mutable = x.mutable; late = false }

abbrev pub param_variables : List Param → List Variable
param_variables xs = map param_variable xs

abbrev pub beginning : List Param → State
beginning xs = enter 0 (length (param_variables xs)) (record { scope = []; variables = param_variables xs; loops = 0 })

-- the body, with all variables
abbrev pub function_body : Tables → Generics → functions.Function → Result (r.Block × List Variable) Span
function_body t g f = and_then (read_block t g f.body (beginning f.params)) (λ b. Ok (b.0, b.1.variables))
