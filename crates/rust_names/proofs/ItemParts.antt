-- What the parts of an item give together.
use Rattle.std.proofs.Common.{◌≡◌, List, ℕ, Option, sym, ap, subst, ◌∙◌}
use Rattle.std.specs.Prelude.{Result, Ok}
use Rattle.aen_base.specs.declared.span.Span.{Span}
use Rattle.rust_ast.specs.Resolved as r
use Rattle.rust_ast.specs.Written as w
use Rattle.rust_ast.specs.declared.program.Enum as enums
use Rattle.rust_ast.specs.declared.program.Function as functions
use Rattle.rust_ast.specs.declared.program.Variant as variants
use Rattle.rust_ast.specs.declared.resolution.Function as resolved
use Rattle.rust_ast.specs.declared.resolution.Variable.{Variable}
use Rattle.name_tables.specs.declared.fault.Stop.{Stop}
use Rattle.name_tables.specs.declared.tables.Tables.{Tables}
use Rattle.name_tables.specs.declared.tables.Generics.{Generics}
use Rattle.name_tables.specs.Gives.{Gives, GivesAs}
use Rattle.name_tables.specs.Lookups.{and_then}
use Rattle.name_tables.specs.Tables.{names_of, only_parameters, function_generics}
use Rattle.rust_names.specs.Resolution.{read_variants, enum_variants, function_parts, parts_form, function_of, read_function}

pub variants_give : (t : Tables) (x : enums.Enum) (g : Generics) (vs : List variants.Variant) (o : Result (List (List ℕ × List (List ℕ × w.Written))) Stop) → g ≡ only_parameters x.params → vs ≡ x.variants →
    Gives (read_variants t g vs) o → Gives (enum_variants t x) o
unfolding enum_variants
variants_give t x g vs o e q h = subst (λ z. Gives z o) (λ i. read_variants t (e i) (q i)) h

-- ---- a function

pub parts_give : (t : Tables) (f : functions.Function) (g : Generics) (o : Result ((List w.Written × Option w.Written) × (r.Block × List Variable)) Stop) → g ≡ function_generics f →
    GivesAs parts_form (function_parts t g f) o → GivesAs parts_form (function_parts t (function_generics f) f) o
parts_give t f g o e h = subst (λ z. GivesAs parts_form (function_parts t z f) o) e h

abbrev ending : functions.Function → (List w.Written × w.MaybeWritten) × (r.Block × List Variable) → Result resolved.Function Span
ending f x = Ok (function_of f x)

pub function_gives : (t : Tables) (f : functions.Function) (xs : List w.Written) (y : Option w.Written) (b : r.Block) (vs : List Variable) (name : List ℕ) (ls ts : List (List ℕ)) →
    function_parts t (function_generics f) f ≡ Ok ((xs, w.maybewritten y), (b, vs)) → name ≡ f.name.name → ls ≡ names_of f.lifetimes → ts ≡ names_of f.type_params →
    read_function t f ≡ Ok (record { name = name; span = f.name.span; lifetimes = ls; type_params = ts; params = xs; result = y; variables = vs; body = b })
unfolding read_function
function_gives t f xs y b vs name ls ts h n l u =
    ap (λ z. and_then z (ending f)) h
    ∙ (λ i. Ok (record {
      name = sym n i;
      span = f.name.span;
      lifetimes = sym l i;
      type_params = sym u i;
      params = xs;
      result = w.maybewritten_back y i;
      variables = vs;
      body = b;
    }))
