-- The body of a function: where it fails, and what it gives.
use Rattle.std.proofs.Common.{◌≡◌, List, sym, ap, ◌∙◌}
use Rattle.std.specs.Prelude.{Result, Ok, Err}
use Rattle.aen_base.specs.declared.span.Span.{Span}
use Rattle.rust_ast.specs.Resolved as r
use Rattle.rust_ast.specs.declared.program.Function as functions
use Rattle.rust_ast.specs.declared.program.Param.{Param}
use Rattle.rust_ast.specs.declared.resolution.Variable.{Variable}
use Rattle.name_tables.specs.declared.tables.Tables.{Tables}
use Rattle.name_tables.specs.declared.tables.Generics.{Generics}
use Rattle.name_tables.specs.Lookups.{and_then}
use Rattle.name_uses.specs.Scopes.{State}
use Rattle.name_uses.specs.Uses.{read_block}
use Rattle.name_uses.specs.FunctionBodies.{beginning, function_body}

abbrev body_end : r.Block × State → Result (r.Block × List Variable) Span
body_end b = Ok (b.0, b.1.variables)

body_at : (t : Tables) (g : Generics) (f : functions.Function) (ps : List Param) (st : State) → st ≡ beginning ps → ps ≡ f.params → function_body t g f ≡ and_then (read_block t g f.body st) body_end
body_at t g f ps st e q = λ i. and_then (read_block t g f.body (sym (e ∙ ap beginning q) i)) body_end

pub body_fails : (t : Tables) (g : Generics) (f : functions.Function) (ps : List Param) (st : State) (p : Span) → st ≡ beginning ps → ps ≡ f.params → read_block t g f.body st ≡ Err p → function_body t g f ≡ Err p
body_fails t g f ps st p e q h = body_at t g f ps st e q ∙ ap (λ z. and_then z body_end) h

pub body_gives : (t : Tables) (g : Generics) (f : functions.Function) (ps : List Param) (st after : State) (b : r.Block) → st ≡ beginning ps → ps ≡ f.params → read_block t g f.body st ≡ Ok (b, after) →
    function_body t g f ≡ Ok (b, after.variables)
body_gives t g f ps st after b e q h = body_at t g f ps st e q ∙ ap (λ z. and_then z body_end) h
