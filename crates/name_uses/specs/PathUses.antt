-- Paths with names resolved: a name and what follows it are looked up in written order
-- (LANGUAGE.md, "Names").
use Rattle.std.specs.Prelude.{ℕ, List, Option, Some, None, Result, Ok, Err}
use Rattle.aen_base.specs.declared.span.Span.{Span}
use Rattle.aen_base.specs.declared.ids.TypeId.{TypeId}
use Rattle.aen_base.specs.declared.operators.Builtin.TheVariants.{BoxNew, Replace, Swap}
use Rattle.rust_ast.specs.SourceTypes as s
use Rattle.rust_ast.specs.Written as w
use Rattle.rust_ast.specs.Resolved as r
use Rattle.rust_ast.specs.declared.ident.Ident.{Ident}
use Rattle.name_tables.specs.declared.tables.Tables.{Tables}
use Rattle.name_tables.specs.declared.tables.Generics.{Generics}
use Rattle.name_tables.specs.declared.tables.Meaning.{Meaning}
use Rattle.name_tables.specs.declared.tables.Meaning.TheVariants as means
use Rattle.name_tables.specs.Lookups.{and_then, known, type_meaning, meaning_of, constructor_of, variant_of, struct_of, swap_place, uncalled_place}
use Rattle.name_uses.specs.declared.path_uses.Built.{Built}
use Rattle.name_uses.specs.declared.path_uses.Called.{Called}
use Rattle.name_uses.specs.Scopes.{variable_of}
use Rattle.name_uses.specs.TypeUses.{read_turbo}

abbrev pub struct_built : TypeId → Built
struct_built d = record { id = d; variant = 0; turbos = w.no_turbo }

-- two names: an enum, perhaps type arguments, a variant
abbrev pub variant_path : Tables → Generics → Ident → s.Turbo → Ident → Result Built Span
variant_path t g a ts b =
    and_then (type_meaning t g a) (λ m.
    and_then (read_turbo t g ts) (λ us.
    and_then (known b.span (variant_of t m b.name)) (λ v.
    Ok (record { id = v.0; variant = v.1; turbos = us }))))

-- a path with parts by place, in a pattern
abbrev pub placed_path : Tables → Generics → s.Path → Result Built Span
placed_path t g (s.one i) = and_then (known i.span (constructor_of t.values i.name)) (λ d. Ok (struct_built d))
placed_path t g (s.two a ts b) = variant_path t g a ts b
placed_path t g (s.box_new p) = Err p
placed_path t g (s.mem_replace p m std) = Err (uncalled_place t p m std)
placed_path t g (s.mem_swap p m std) = Err (uncalled_place t p m std)

-- a path with parts by name, in a pattern
abbrev pub braced_path : Tables → Generics → s.Path → Result Built Span
braced_path t g (s.one i) = and_then (known i.span (struct_of t i.name)) (λ d. Ok (struct_built d))
braced_path t g (s.two a ts b) = variant_path t g a ts b
braced_path t g (s.box_new p) = Err p
braced_path t g (s.mem_replace p m std) = Err (uncalled_place t p m std)
braced_path t g (s.mem_swap p m std) = Err (uncalled_place t p m std)

-- a constructor without arguments
abbrev pub bare : Span → Built → r.Expr
bare p b = r.call p (r.constructor b.id b.variant) b.turbos r.no_exprs

-- a name as a value: a variable hides a constructor
abbrev pub variable_or : Span → Option ℕ → Result Built Span → Result r.Expr Span
variable_or p (Some k) o = Ok (r.variable p k)
variable_or p None o = and_then o (λ b. Ok (bare p b))

-- a path that isn't called
abbrev pub value_path : Tables → Generics → List (List ℕ × ℕ) → Span → s.Path → Result r.Expr Span
value_path t g sc p (s.one i) = variable_or p (variable_of sc i.name) (placed_path t g (s.one i))
value_path t g sc p (s.two a ts b) = and_then (variant_path t g a ts b) (λ x. Ok (bare p x))
value_path t g sc p (s.box_new q) = Err q
value_path t g sc p (s.mem_replace q m std) = Err (uncalled_place t q m std)
value_path t g sc p (s.mem_swap q m std) = Err (uncalled_place t q m std)

abbrev pub plainly : r.Callee → Called
plainly c = record { callee = c; turbos = w.no_turbo }

abbrev pub as_callee : Meaning → Option r.Callee
as_callee (means.Function f) = Some (r.function f)
as_callee (means.Empty d) = Some (r.constructor d 0)
as_callee (means.Placed d) = Some (r.constructor d 0)
as_callee (means.Named d) = None

abbrev pub callee_of : Option Meaning → Option r.Callee
callee_of None = None
callee_of (Some m) = as_callee m

-- a name that is called is a function or a constructor; a variable doesn't hide it
abbrev pub called_name : Tables → Ident → Result Called Span
called_name t i = and_then (known i.span (callee_of (meaning_of t.values i.name))) (λ c. Ok (plainly c))

abbrev pub called_path : Tables → Generics → s.Path → Result Called Span
called_path t g (s.one i) = called_name t i
called_path t g (s.two a ts b) = and_then (variant_path t g a ts b) (λ x. Ok (record { callee = r.constructor x.id x.variant; turbos = x.turbos }))
called_path t g (s.box_new p) = Ok (plainly (r.builtin_of BoxNew))
called_path t g (s.mem_replace p m std) = and_then (swap_place t p m std) (λ q. Ok (plainly (r.builtin_of Replace)))
called_path t g (s.mem_swap p m std) = and_then (swap_place t p m std) (λ q. Ok (plainly (r.builtin_of Swap)))
