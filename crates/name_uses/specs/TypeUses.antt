-- Types and type arguments with names resolved (LANGUAGE.md, "Names").
use Rattle.std.specs.Prelude.{ℕ, Option, Some, None, Result, Ok}
use Rattle.aen_base.specs.declared.span.Span.{Span}
use Rattle.rust_ast.specs.SourceTypes as s
use Rattle.rust_ast.specs.Written as w
use Rattle.name_tables.specs.declared.tables.Tables.{Tables}
use Rattle.name_tables.specs.declared.tables.Generics.{Generics}
use Rattle.name_tables.specs.declared.lookups.TypeMeaning.{TypeMeaning}
use Rattle.name_tables.specs.declared.lookups.TypeMeaning.TheVariants.{Parameter, Declared}
use Rattle.name_tables.specs.Finding.{place_of}
use Rattle.name_tables.specs.Lookups.{and_then, type_meaning}

-- a lifetime that isn't declared is a fault of typing
abbrev pub declared_or_not : Option ℕ → w.Lifetime
declared_or_not None = w.undeclared
declared_or_not (Some k) = w.declared k

abbrev pub read_lifetime : Generics → s.Lifetime → w.Lifetime
read_lifetime g s.elided = w.elided
read_lifetime g (s.lifetime i) = declared_or_not (place_of g.lifetimes i.name)

abbrev pub as_written : Span → TypeMeaning → w.Writtens → w.Written
as_written p (Parameter k) xs = w.param p k xs
as_written p (Declared d) xs = w.named p d xs

abbrev mutual
  pub read_type : Tables → Generics → s.Written → Result w.Written Span
  read_type t g (s.int p i) = Ok (w.int p i)
  read_type t g (s.bool p) = Ok (w.bool p)
  read_type t g (s.unit p) = Ok (w.unit p)
  read_type t g (s.tuple p xs) = and_then (read_types t g xs) (λ ys. Ok (w.tuple p ys))
  read_type t g (s.ref p l m x) = and_then (read_type t g x) (λ y. Ok (w.ref p (read_lifetime g l) m y))
  read_type t g (s.boxed p x) = and_then (read_type t g x) (λ y. Ok (w.boxed p y))
  read_type t g (s.named p i xs) =
      and_then (type_meaning t g i) (λ m.
      and_then (read_types t g xs) (λ ys. Ok (as_written p m ys)))

  pub read_types : Tables → Generics → s.Writtens → Result w.Writtens Span
  read_types t g s.no_writtens = Ok w.no_writtens
  read_types t g (s.more_writtens x xs) =
      and_then (read_type t g x) (λ y.
      and_then (read_types t g xs) (λ ys. Ok (w.more_writtens y ys)))

abbrev pub read_turbo : Tables → Generics → s.Turbo → Result w.Turbos Span
read_turbo t g s.no_turbo = Ok w.no_turbo
read_turbo t g (s.turbo xs) = and_then (read_types t g xs) (λ ys. Ok (w.one_turbo ys))

-- the lists of a path, of which there are at most two
abbrev pub beside : w.Turbos → w.Turbos → w.Turbos
beside w.no_turbo y = y
beside (w.one_turbo xs) (w.one_turbo ys) = w.two_turbos xs ys
beside (w.one_turbo xs) y = w.one_turbo xs
beside (w.two_turbos xs ys) y = w.two_turbos xs ys

abbrev pub read_maybe_type : Tables → Generics → s.MaybeWritten → Result w.MaybeWritten Span
read_maybe_type t g s.no_maybewritten = Ok w.no_maybewritten
read_maybe_type t g (s.some_maybewritten x) = and_then (read_type t g x) (λ y. Ok (w.some_maybewritten y))
