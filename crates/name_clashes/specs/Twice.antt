-- A name that is declared twice: the first place in source order that declares what an earlier one
-- declares, with the first such place (LANGUAGE.md, "Names").
use Rattle.std.specs.Prelude.{ℕ, Bool, true, false, ◌||◌, ◌&&◌, if◌then◌else◌, List, [], ◌∷◌, ◌++◌, map, Option, Some, None, is_some, option_map, bytes_eq}
use Rattle.aen_base.specs.declared.span.Span.{Span}
use Rattle.rust_ast.specs.SourcePatterns as p
use Rattle.rust_ast.specs.Source as e
use Rattle.rust_ast.specs.declared.ident.Ident.{Ident}
use Rattle.rust_ast.specs.declared.program.Program.{Program}
use Rattle.rust_ast.specs.declared.program.Param.{Param}
use Rattle.rust_ast.specs.declared.program.Variant.{Variant}
use Rattle.rust_ast.specs.declared.program.Item.{Item}
use Rattle.rust_ast.specs.declared.program.Item.TheVariants.{Function, Struct, Enum, UseMem}
use Rattle.rust_ast.specs.declared.program.Fields.{Fields}
use Rattle.rust_ast.specs.declared.program.Fields.TheVariants as fields
use Rattle.rust_ast.specs.SourceTypes as w
use Rattle.name_tables.specs.declared.tables.ValueNames.{ValueNames}
use Rattle.name_tables.specs.Finding.{or_else}
use Rattle.name_tables.specs.Tables.{tables_of}
use Rattle.name_tables.specs.Lookups.{empty_struct}
use Rattle.name_clashes.specs.declared.entry.Entry.{Entry}
use Rattle.name_clashes.specs.declared.entry.Kind.{Kind}
use Rattle.name_clashes.specs.declared.entry.Kind.TheVariants as kind

-- the two places, the earlier one first
abbrev pub Pair : Type 0
Pair = Option (Span × Span)

abbrev pub with_second : Span → Option Span → Pair
with_second q o = option_map (λ p. (p, q)) o

-- ---- the program's names

abbrev pub is_type : Kind → Bool
is_type kind.Type = true
is_type kind.Value = false
is_type kind.Both = true
is_type kind.Parameter = false

abbrev pub is_value : Kind → Bool
is_value kind.Type = false
is_value kind.Value = true
is_value kind.Both = true
is_value kind.Parameter = false

abbrev pub is_parameter : Kind → Bool
is_parameter kind.Type = false
is_parameter kind.Value = false
is_parameter kind.Both = false
is_parameter kind.Parameter = true

-- whether two names of these kinds must differ: types, functions and constructors, a type and a type parameter
abbrev pub must_differ : Kind → Kind → Bool
must_differ a b = (is_type a && is_type b) || (is_value a && is_value b) || (is_type a && is_parameter b) || (is_parameter a && is_type b)

-- the place of the first of these that a name of this kind must differ from and doesn't
abbrev pub first_like : Kind → List ℕ → List Entry → Option Span
first_like k w [] = None
first_like k w (x ∷ xs) = if bytes_eq x.name w && must_differ k x.kind then Some x.span else first_like k w xs

-- ---- names that must differ among themselves

-- the place of the first of this name
abbrev pub first_named : List ℕ → List Ident → Option Span
first_named w [] = None
first_named w (x ∷ xs) = if bytes_eq x.name w then Some x.span else first_named w xs

-- the first name, of those that come after others, that stands before it
abbrev pub repeated : List Ident → List Ident → Pair
repeated before [] = None
repeated before (x ∷ xs) = or_else (with_second x.span (first_named x.name before)) (repeated (before ++ x ∷ []) xs)

-- type parameters also differ from the types declared before them
abbrev pub repeated_parameter : List Entry → List Ident → List Ident → Pair
repeated_parameter seen before [] = None
repeated_parameter seen before (x ∷ xs) =
    or_else (with_second x.span (or_else (first_like kind.Parameter x.name seen) (first_named x.name before)))
    (repeated_parameter seen (before ++ x ∷ []) xs)

-- ---- bindings of a pattern

abbrev mutual
  -- the names that a pattern binds, in source order
  pub bindings : List ValueNames → p.Pat → List Ident
  bindings vs (p.wild s) = []
  bindings vs (p.lone i) = if is_some (empty_struct vs i.name) then [] else i ∷ []
  bindings vs (p.mut_bind s i) = i ∷ []
  bindings vs (p.number s n m x) = []
  bindings vs (p.truth s b) = []
  bindings vs (p.tuple s ps) = bindings_all vs ps
  bindings vs (p.construct s path ps) = bindings_all vs ps
  bindings vs (p.literal s path fs) = bindings_fields vs fs

  pub bindings_all : List ValueNames → p.Pats → List Ident
  bindings_all vs p.no_pats = []
  bindings_all vs (p.more_pats x xs) = bindings vs x ++ bindings_all vs xs

  pub bindings_fields : List ValueNames → p.FieldPats → List Ident
  bindings_fields vs p.no_fieldpats = []
  bindings_fields vs (p.more_fieldpats x xs) = bindings_field vs x ++ bindings_fields vs xs

  pub bindings_field : List ValueNames → p.FieldPat → List Ident
  bindings_field vs (p.short i) = i ∷ []
  bindings_field vs (p.given s n x) = bindings vs x

-- the first binding that an earlier one of the same pattern has the name of
unfoldable pub twice_in_pattern : List ValueNames → p.Pat → Pair
twice_in_pattern vs x = repeated [] (bindings vs x)

-- ---- bodies: the first pattern in source order

abbrev mutual
  pub twice_in : List ValueNames → e.Expr → Pair
  twice_in vs (e.number s n m x) = None
  twice_in vs (e.truth s b) = None
  twice_in vs (e.tuple s xs) = twice_in_all vs xs
  twice_in vs (e.inner b) = twice_in_block vs b
  twice_in vs (e.branch s a b c) = or_else (twice_in vs a) (or_else (twice_in_block vs b) (twice_in vs c))
  twice_in vs (e.select s a arms) = or_else (twice_in vs a) (twice_in_arms vs arms)
  twice_in vs (e.let_branch s x a b c) = or_else (twice_in_pattern vs x) (or_else (twice_in vs a) (or_else (twice_in vs b) (twice_in vs c)))
  twice_in vs (e.forever s m b) = twice_in_block vs b
  twice_in vs (e.panic s) = None
  twice_in vs (e.path s x) = None
  twice_in vs (e.call s x t xs) = twice_in_all vs xs
  twice_in vs (e.literal s i t xs) = twice_in_inits vs xs
  twice_in vs (e.field s a f n) = twice_in vs a
  twice_in vs (e.minus s a) = twice_in vs a
  twice_in vs (e.negation s a) = twice_in vs a
  twice_in vs (e.deref s a) = twice_in vs a
  twice_in vs (e.borrow s m a) = twice_in vs a
  twice_in vs (e.binary s op a b) = or_else (twice_in vs a) (twice_in vs b)
  twice_in vs (e.compare s op a b) = or_else (twice_in vs a) (twice_in vs b)
  twice_in vs (e.both s a b) = or_else (twice_in vs a) (twice_in vs b)
  twice_in vs (e.either s a b) = or_else (twice_in vs a) (twice_in vs b)
  twice_in vs (e.cast s a i) = twice_in vs a
  twice_in vs (e.assign s a b) = or_else (twice_in vs a) (twice_in vs b)
  twice_in vs (e.update s op a b) = or_else (twice_in vs a) (twice_in vs b)
  twice_in vs (e.give s o) = twice_in_maybe vs o
  twice_in vs (e.leave s o) = twice_in_maybe vs o
  twice_in vs (e.go_on s) = None

  pub twice_in_maybe : List ValueNames → e.MaybeExpr → Pair
  twice_in_maybe vs e.no_maybeexpr = None
  twice_in_maybe vs (e.some_maybeexpr a) = twice_in vs a

  pub twice_in_all : List ValueNames → e.Exprs → Pair
  twice_in_all vs e.no_exprs = None
  twice_in_all vs (e.more_exprs a rest) = or_else (twice_in vs a) (twice_in_all vs rest)

  pub twice_in_inits : List ValueNames → e.Inits → Pair
  twice_in_inits vs e.no_inits = None
  twice_in_inits vs (e.more_inits s n a rest) = or_else (twice_in vs a) (twice_in_inits vs rest)

  pub twice_in_arms : List ValueNames → e.Arms → Pair
  twice_in_arms vs e.no_arms = None
  twice_in_arms vs (e.more_arms x a rest) = or_else (twice_in_pattern vs x) (or_else (twice_in vs a) (twice_in_arms vs rest))

  pub twice_in_block : List ValueNames → e.Block → Pair
  twice_in_block vs (e.block s ss o) = or_else (twice_in_stmts vs ss) (twice_in_maybe vs o)

  pub twice_in_stmts : List ValueNames → e.Stmts → Pair
  twice_in_stmts vs e.no_stmts = None
  twice_in_stmts vs (e.more_stmts x rest) = or_else (twice_in_stmt vs x) (twice_in_stmts vs rest)

  pub twice_in_stmt : List ValueNames → e.Stmt → Pair
  twice_in_stmt vs (e.run a semicolon) = twice_in vs a
  twice_in_stmt vs (e.bind s x ty o) = or_else (twice_in_pattern vs x) (twice_in_maybe vs o)

-- ---- items

abbrev pub to_ident : Span × List ℕ × w.Written → Ident
to_ident x = record { name = x.1; span = x.0 }

abbrev pub field_names : Fields → List Ident
field_names (fields.Named xs) = map to_ident xs
field_names (fields.Placed xs) = []

abbrev pub variant_idents : List Variant → List Ident
variant_idents vs = map (λ (v : Variant). v.name) vs

abbrev pub param_idents : List Param → List Ident
param_idents xs = map (λ (x : Param). x.name) xs

abbrev pub struct_kind : Fields → Kind
struct_kind (fields.Named []) = kind.Both
struct_kind (fields.Named (x ∷ xs)) = kind.Type
struct_kind (fields.Placed xs) = kind.Both

abbrev pub entry : Kind → Ident → Entry
entry k i = record { name = i.name; span = i.span; kind = k }

abbrev pub entries : Kind → List Ident → List Entry
entries k xs = map (entry k) xs

-- the item's own name, and its type parameters
abbrev pub own_entry : Item → List Entry
own_entry (Function f) = entry kind.Value f.name ∷ []
own_entry (Struct s) = entry (struct_kind s.fields) s.name ∷ []
own_entry (Enum x) = entry kind.Type x.name ∷ []
own_entry UseMem = []

abbrev pub item_parameters : Item → List Ident
item_parameters (Function f) = f.type_params
item_parameters (Struct s) = s.params
item_parameters (Enum x) = x.params
item_parameters UseMem = []

-- the lifetimes, which stand before the type parameters
abbrev pub item_lifetimes : Item → List Ident
item_lifetimes (Function f) = f.lifetimes
item_lifetimes (Struct s) = []
item_lifetimes (Enum x) = []
item_lifetimes UseMem = []

-- parameters, fields or variants, and the patterns of a body
abbrev pub twice_inside : List ValueNames → Item → Pair
twice_inside vs (Function f) = or_else (repeated [] (param_idents f.params)) (twice_in_block vs f.body)
twice_inside vs (Struct s) = repeated [] (field_names s.fields)
twice_inside vs (Enum x) = repeated [] (variant_idents x.variants)
twice_inside vs UseMem = None

abbrev pub twice_own : List Entry → List Entry → Pair
twice_own seen [] = None
twice_own seen (x ∷ xs) = or_else (with_second x.span (first_like x.kind x.name seen)) (twice_own seen xs)

-- the first in an item, where these stand before it
unfoldable pub twice_in_item : List ValueNames → List Entry → Item → Pair
twice_in_item vs seen i =
    or_else (twice_own seen (own_entry i)) (
    or_else (repeated [] (item_lifetimes i)) (
    or_else (repeated_parameter (seen ++ own_entry i) [] (item_parameters i))
    (twice_inside vs i)))

abbrev pub with_entries : List Entry → Item → List Entry
with_entries seen i = (seen ++ own_entry i) ++ entries kind.Parameter (item_parameters i)

abbrev pub twice_in_items : List ValueNames → List Entry → List Item → Pair
twice_in_items vs seen [] = None
twice_in_items vs seen (i ∷ is) =
    or_else (twice_in_item vs seen i) (twice_in_items vs (with_entries seen i) is)

unfoldable pub twice : Program → Pair
twice prog = twice_in_items (tables_of prog.items).values [] prog.items
