-- Patterns with names resolved; their bindings are numbered in source order (LANGUAGE.md, "Names").
use Rattle.std.specs.Prelude.{ℕ, Bool, true, false, List, length, Option, Some, None, Result, Ok}
use Rattle.aen_base.specs.declared.span.Span.{Span}
use Rattle.aen_base.specs.declared.ids.TypeId.{TypeId}
use Rattle.rust_ast.specs.SourcePatterns as s
use Rattle.rust_ast.specs.Written as w
use Rattle.rust_ast.specs.Patterns as p
use Rattle.rust_ast.specs.declared.ident.Ident.{Ident}
use Rattle.name_tables.specs.declared.tables.Tables.{Tables}
use Rattle.name_tables.specs.declared.tables.Generics.{Generics}
use Rattle.name_tables.specs.Lookups.{and_then, empty_struct}
use Rattle.name_uses.specs.PathUses.{placed_path, braced_path}
use Rattle.name_uses.specs.Scopes.{State, with_variable}

-- a binding, with the span of the whole, and whether `mut` is written
abbrev pub bound : Bool → Span → Bool → Ident → State → p.Pat × State
bound late whole m i st = (p.bind whole i.span m (length st.variables), with_variable m late i st)

-- a name alone: the pattern of a struct without fields, or a binding
abbrev pub lone_or : Bool → Ident → Option TypeId → State → p.Pat × State
lone_or late i None st = bound late i.span false i st
lone_or late i (Some d) st = (p.construct i.span d 0 w.no_turbo p.no_pats, st)

-- `late` where the pattern stands in a `let` without a value
abbrev mutual
  pub read_pat : Tables → Generics → Bool → s.Pat → State → Result (p.Pat × State) Span
  read_pat t g late (s.wild q) st = Ok (p.wild q, st)
  read_pat t g late (s.lone i) st = Ok (lone_or late i (empty_struct t.values i.name) st)
  read_pat t g late (s.mut_bind q i) st = Ok (bound late q true i st)
  read_pat t g late (s.number q n m x) st = Ok (p.number q n m x, st)
  read_pat t g late (s.truth q b) st = Ok (p.truth q b, st)
  read_pat t g late (s.tuple q xs) st = and_then (read_pats t g late xs st) (λ r. Ok (p.tuple q r.0, r.1))
  read_pat t g late (s.construct q path xs) st =
      and_then (placed_path t g path) (λ b.
      and_then (read_pats t g late xs st) (λ r. Ok (p.construct q b.id b.variant b.turbos r.0, r.1)))
  read_pat t g late (s.literal q path xs) st =
      and_then (braced_path t g path) (λ b.
      and_then (read_fields t g late xs st) (λ r. Ok (p.literal q b.id b.variant b.turbos r.0, r.1)))

  pub read_pats : Tables → Generics → Bool → s.Pats → State → Result (p.Pats × State) Span
  read_pats t g late s.no_pats st = Ok (p.no_pats, st)
  read_pats t g late (s.more_pats x xs) st =
      and_then (read_pat t g late x st) (λ r.
      and_then (read_pats t g late xs r.1) (λ rs. Ok (p.more_pats r.0 rs.0, rs.1)))

  pub read_fields : Tables → Generics → Bool → s.FieldPats → State → Result (p.FieldPats × State) Span
  read_fields t g late s.no_fieldpats st = Ok (p.no_fieldpats, st)
  read_fields t g late (s.more_fieldpats x xs) st =
      and_then (read_field t g late x st) (λ r.
      and_then (read_fields t g late xs r.1) (λ rs. Ok (p.more_fieldpats r.0.0 r.0.1 r.0.2 rs.0, rs.1)))

  -- a field written short binds
  pub read_field : Tables → Generics → Bool → s.FieldPat → State → Result ((Span × List ℕ × p.Pat) × State) Span
  read_field t g late (s.short i) st = Ok ((i.span, i.name, p.bind i.span i.span false (length st.variables)), with_variable false late i st)
  read_field t g late (s.given q n x) st = and_then (read_pat t g late x st) (λ r. Ok ((q, n, r.0), r.1))
