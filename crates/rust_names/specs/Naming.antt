-- What a program with names resolved has: functions whose names differ, with few variables each
-- (LANGUAGE.md, "Names").
use Rattle.std.proofs.Common.{◌≡◌, refl, sym, subst, ap, ◌∙◌, ℕ, ◌≤◌, Bool, true, false, List, [], ◌∷◌, ◌++◌, length, map, Option, Some, None, Result, Ok, Err, ◌⊎◌, inl, inr}
use Rattle.std.proofs.lemmas.Bool.{ltb-false}
use Rattle.std.proofs.lemmas.List.{append-nil}
use Rattle.std.proofs.lemmas.Slice.Eq.{bytes_eq-Decides}
use Rattle.std.specs.Prelude.{◌&&◌, ◌||◌, if◌then◌else◌, nat_lt, bytes_eq}
use Rattle.aen_base.specs.declared.span.Span.{Span}
use Rattle.rust_ast.specs.declared.program.Program.{Program}
use Rattle.rust_ast.specs.declared.program.Function as functions
use Rattle.rust_ast.specs.declared.program.Item.{Item}
use Rattle.rust_ast.specs.declared.program.Item.TheVariants.{Function, Struct, Enum, UseMem}
use Rattle.rust_ast.specs.declared.resolution.Function as resolved
use Rattle.rust_ast.specs.declared.resolution.Resolved.{Resolved}
use Rattle.name_tables.specs.declared.tables.Tables.{Tables}
use Rattle.name_tables.specs.declared.tables.ValueNames.{ValueNames}
use Rattle.name_tables.specs.Finding.{or_else}
use Rattle.name_tables.specs.Lookups.{and_then}
use Rattle.aen_base.specs.declared.limits.Which.TheVariants.{Functions, Variables}
use Rattle.name_tables.specs.Tables.{tables_of, function_generics}
use Rattle.name_clashes.specs.declared.entry.Entry.{Entry}
use Rattle.name_clashes.specs.declared.entry.Kind.TheVariants as kind
use Rattle.name_clashes.specs.Twice.{Pair, with_second, must_differ, first_like, repeated, repeated_parameter, twice_own, twice_inside, own_entry, item_lifetimes, twice_in_item, twice_in_items, with_entries, entry, entries, item_parameters, twice}
use Rattle.rust_names.specs.declared.fault.NameFault.{NameFault}
use Rattle.rust_names.specs.declared.fault.NameFault.TheVariants.{Limit}
use Rattle.rust_names.specs.Resolution.{function_parts, function_of, read_function, read_struct, read_enum, read_item, read_items, with_function, with_type, no_items, count_functions, has_many, variables_within, unless_twice, resolution}

-- P holds of each item
abbrev pub Each : {A : Type 0} → (A → Type 0) → List A → Type 0
Each P [] = Unit {0}
Each P (x ∷ xs) = P x × Each P xs

-- no two items are equal
abbrev pub Differ : {A : Type 0} → List A → Type 0
Differ [] = Unit {0}
Differ (x ∷ xs) = Each (λ y. x ≡ y → ⊥) xs × Differ xs

abbrev pub function_names : List resolved.Function → List (List ℕ)
function_names fs = map (λ (f : resolved.Function). f.name) fs

-- ---- inversions

neither : {A : Type 0} (o p : Option A) → or_else o p ≡ None → (o ≡ None) × (p ≡ None)
neither None p h = (refl, h)
neither (Some x) p h = absurd cc

no_second : (q : Span) (o : Option Span) → with_second q o ≡ None → o ≡ None
no_second q None h = refl
no_second q (Some x) h = absurd cc

after : {A B : Type 0} (o : Result A Span) (f : A → Result B Span) (y : B) → and_then o f ≡ Ok y → (x : A) × (o ≡ Ok x) × (f x ≡ Ok y)
after (Ok x) f y h = (x, refl, h)
after (Err s) f y h = absurd cc

same_ok : {A B : Type 0} (o : Result A B) (x y : A) → o ≡ Ok x → o ≡ Ok y → x ≡ y
same_ok o x y h k = cc

-- ---- functions that are declared, in order

abbrev declared : List Item → List (List ℕ)
declared [] = []
declared (Function f ∷ is) = f.name.name ∷ declared is
declared (Struct s ∷ is) = declared is
declared (Enum e ∷ is) = declared is
declared (UseMem ∷ is) = declared is

name_after : {X : Type 0} (o : Result X Span) (make : X → resolved.Function) (w : List ℕ) (g : resolved.Function) → ((x : X) → (make x).name ≡ w) →
    and_then o (λ x. Ok (make x)) ≡ Ok g → g.name ≡ w
name_after (Ok x) make w g is h = subst (λ (q : resolved.Function). q.name ≡ w) (same_ok _ (make x) g refl h) (is x)
name_after (Err s) make w g is h = absurd cc

function_name : (t : Tables) (f : functions.Function) (g : resolved.Function) → read_function t f ≡ Ok g → g.name ≡ f.name.name
unfolding read_function
function_name t f g h = name_after (function_parts t (function_generics f) f) (function_of f) f.name.name g (λ x. refl) h

names_push : (fs : List resolved.Function) (g : resolved.Function) (w : List ℕ) (ws : List (List ℕ)) → g.name ≡ w →
    function_names (fs ++ g ∷ []) ++ ws ≡ function_names fs ++ w ∷ ws
names_push [] g w ws e = ap (λ v. v ∷ ws) e
names_push (f ∷ fs) g w ws e = ap (λ l. f.name ∷ l) (names_push fs g w ws e)

items_named : (t : Tables) (is : List Item) (x y : Resolved) → read_items t is x ≡ Ok y → function_names y.functions ≡ function_names x.functions ++ declared is
items_named t [] x y h = ap (λ (r : Resolved). function_names r.functions) (sym (same_ok _ x y refl h)) ∙ sym (append-nil (function_names x.functions))
items_named t (Function f ∷ is) x y h =
    let (z, a, h2) = after (read_item t x (Function f)) (read_items t is) y h in
    let (g, b, h3) = after (read_function t f) (λ g. Ok (with_function x g)) z a in
    let e = same_ok _ (with_function x g) z refl h3 in
    items_named t is z y h2
    ∙ ap (λ (r : Resolved). function_names r.functions ++ declared is) (sym e)
    ∙ names_push x.functions g f.name.name (declared is) (function_name t f g b)
items_named t (Struct s ∷ is) x y h =
    let (z, a, h2) = after (read_item t x (Struct s)) (read_items t is) y h in
    let (g, b, h3) = after (read_struct t s) (λ g. Ok (with_type x g)) z a in
    items_named t is z y h2 ∙ ap (λ (r : Resolved). function_names r.functions ++ declared is) (sym (same_ok _ (with_type x g) z refl h3))
items_named t (Enum s ∷ is) x y h =
    let (z, a, h2) = after (read_item t x (Enum s)) (read_items t is) y h in
    let (g, b, h3) = after (read_enum t s) (λ g. Ok (with_type x g)) z a in
    items_named t is z y h2 ∙ ap (λ (r : Resolved). function_names r.functions ++ declared is) (sym (same_ok _ (with_type x g) z refl h3))
items_named t (UseMem ∷ is) x y h =
    let (z, a, h2) = after (read_item t x UseMem) (read_items t is) y h in
    items_named t is z y h2 ∙ ap (λ (r : Resolved). function_names r.functions ++ declared is) (sym (same_ok _ x z refl a))

-- ---- their names differ

-- a function of this name is declared before
abbrev HasFunction : List Entry → List ℕ → Type 0
HasFunction [] w = ⊥
HasFunction (x ∷ xs) w = ((x.kind ≡ kind.Value) × (x.name ≡ w)) ⊎ HasFunction xs w

has_more : (xs ys : List Entry) (w : List ℕ) → HasFunction xs w → HasFunction (xs ++ ys) w
has_more [] ys w h = absurd h
has_more (x ∷ xs) ys w (inl h) = inl h
has_more (x ∷ xs) ys w (inr h) = inr (has_more xs ys w h)

has_last : (xs : List Entry) (x : Entry) (w : List ℕ) → x.kind ≡ kind.Value → x.name ≡ w → HasFunction (xs ++ x ∷ []) w
has_last [] x w k e = inl (k, e)
has_last (y ∷ xs) x w k e = inr (has_last xs x w k e)

like_by : (w : List ℕ) (x : Entry) (xs : List Entry) (b : Bool) → bytes_eq x.name w && must_differ kind.Value x.kind ≡ b → (if b then Some x.span else first_like kind.Value w xs) ≡ None →
    ((x.kind ≡ kind.Value) × (x.name ≡ w) → ⊥) × (first_like kind.Value w xs ≡ None)
like_by w x xs true e h = absurd cc
like_by w x xs false e h = (
  λ same.
      let name : bytes_eq x.name w ≡ true = (bytes_eq-Decides x.name w).1 same.1 in
      let kinds : must_differ kind.Value x.kind ≡ true = ap (must_differ kind.Value) same.0 in
      let both : true ≡ false = (λ i. (sym name i) && (sym kinds i)) ∙ e in
      absurd cc,
  h,
)

no_like : (w : List ℕ) (xs : List Entry) → first_like kind.Value w xs ≡ None → HasFunction xs w → ⊥
no_like w [] h has = has
no_like w (x ∷ xs) h (inl same) = (like_by w x xs (bytes_eq x.name w && must_differ kind.Value x.kind) refl h).0 same
no_like w (x ∷ xs) h (inr has) = no_like w xs (like_by w x xs (bytes_eq x.name w && must_differ kind.Value x.kind) refl h).1 has

-- what is declared before an item is declared before the next
has_next : (seen : List Entry) (i : Item) (w : List ℕ) → HasFunction seen w → HasFunction (with_entries seen i) w
has_next seen i w h = has_more (seen ++ own_entry i) (entries kind.Parameter (item_parameters i)) w (has_more seen (own_entry i) w h)

abbrev rest_of : List ValueNames → List Entry → Item → Pair
rest_of vs seen i =
    or_else (repeated [] (item_lifetimes i)) (or_else (repeated_parameter (seen ++ own_entry i) [] (item_parameters i)) (twice_inside vs i))

item_once : (vs : List ValueNames) (seen : List Entry) (i : Item) → twice_in_item vs seen i ≡ None → twice_own seen (own_entry i) ≡ None
unfolding twice_in_item
item_once vs seen i h = (neither (twice_own seen (own_entry i)) (rest_of vs seen i) h).0

function_new : (vs : List ValueNames) (seen : List Entry) (f : functions.Function) → twice_in_item vs seen (Function f) ≡ None → HasFunction seen f.name.name → ⊥
function_new vs seen f h has =
    let own = item_once vs seen (Function f) h in
    let first = (neither (with_second f.name.span (first_like kind.Value f.name.name seen)) None own).0 in
    no_like f.name.name seen (no_second f.name.span (first_like kind.Value f.name.name seen) first) has

apart : (vs : List ValueNames) (seen : List Entry) (is : List Item) (w : List ℕ) → twice_in_items vs seen is ≡ None → HasFunction seen w → Each (λ y. w ≡ y → ⊥) (declared is)
apart vs seen [] w h has = tt
apart vs seen (Function f ∷ is) w h has =
    let both = neither (twice_in_item vs seen (Function f)) (twice_in_items vs (with_entries seen (Function f)) is) h in
    (λ e. function_new vs seen f both.0 (subst (HasFunction seen) e has), apart vs (with_entries seen (Function f)) is w both.1 (has_next seen (Function f) w has))
apart vs seen (Struct s ∷ is) w h has = apart vs (with_entries seen (Struct s)) is w (neither (twice_in_item vs seen (Struct s)) (twice_in_items vs (with_entries seen (Struct s)) is) h).1 (has_next seen (Struct s) w has)
apart vs seen (Enum s ∷ is) w h has = apart vs (with_entries seen (Enum s)) is w (neither (twice_in_item vs seen (Enum s)) (twice_in_items vs (with_entries seen (Enum s)) is) h).1 (has_next seen (Enum s) w has)
apart vs seen (UseMem ∷ is) w h has = apart vs (with_entries seen UseMem) is w (neither (twice_in_item vs seen UseMem) (twice_in_items vs (with_entries seen UseMem) is) h).1 (has_next seen UseMem w has)

all_apart : (vs : List ValueNames) (seen : List Entry) (is : List Item) → twice_in_items vs seen is ≡ None → Differ (declared is)
all_apart vs seen [] h = tt
all_apart vs seen (Function f ∷ is) h =
    let both = neither (twice_in_item vs seen (Function f)) (twice_in_items vs (with_entries seen (Function f)) is) h in
    let own = entry kind.Value f.name in
    let has : HasFunction (with_entries seen (Function f)) f.name.name =
    has_more (seen ++ own ∷ []) (entries kind.Parameter (item_parameters (Function f))) f.name.name (has_last seen own f.name.name refl refl) in
    (apart vs (with_entries seen (Function f)) is f.name.name both.1 has, all_apart vs (with_entries seen (Function f)) is both.1)
all_apart vs seen (Struct s ∷ is) h = all_apart vs (with_entries seen (Struct s)) is (neither (twice_in_item vs seen (Struct s)) (twice_in_items vs (with_entries seen (Struct s)) is) h).1
all_apart vs seen (Enum s ∷ is) h = all_apart vs (with_entries seen (Enum s)) is (neither (twice_in_item vs seen (Enum s)) (twice_in_items vs (with_entries seen (Enum s)) is) h).1
all_apart vs seen (UseMem ∷ is) h = all_apart vs (with_entries seen UseMem) is (neither (twice_in_item vs seen UseMem) (twice_in_items vs (with_entries seen UseMem) is) h).1

-- ---- few variables

or_false : (a b : Bool) → a || b ≡ false → (a ≡ false) × (b ≡ false)
or_false true b h = absurd cc
or_false false b h = (refl, h)

all_few : (fs : List resolved.Function) → has_many fs ≡ false → Each (λ (f : resolved.Function). length f.variables ≤ 1000) fs
all_few [] h = tt
all_few (f ∷ fs) h =
    let both = or_false (nat_lt 1000 (length f.variables)) (has_many fs) h in
    (ltb-false 1000 (length f.variables) both.0, all_few fs both.1)

-- ---- a program that is resolved

-- its items are read, nothing is declared twice, and no function has many variables
pub record IsNamed (p : Program) (x : Resolved) : Type 0 where
  pub items : read_items (tables_of p.items) p.items no_items ≡ Ok x
  pub once : twice p ≡ None
  pub few : has_many x.functions ≡ false

few_of : (f : NameFault) (y x : Resolved) (b : Bool) → has_many y.functions ≡ b → (if b then Err f else Ok y) ≡ Ok x → (y ≡ x) × (has_many x.functions ≡ false)
few_of f y x true e h = absurd cc
few_of f y x false e h = let same : y ≡ x = cc in (same, subst (λ (r : Resolved). has_many r.functions ≡ false) same e)

within_of : (o : Result Resolved Span) (x : Resolved) → variables_within o ≡ Ok x → (o ≡ Ok x) × (has_many x.functions ≡ false)
within_of (Err s) x h = absurd cc
within_of (Ok y) x h = let (same, few) = few_of (Limit Variables 1001) y x (has_many y.functions) refl h in (ap Ok same, few)

once_of : (o : Pair) (r : Result Resolved NameFault) (x : Resolved) → unless_twice o r ≡ Ok x → (o ≡ None) × (r ≡ Ok x)
once_of None r x h = (refl, h)
once_of (Some s) r x h = absurd cc

counted : (b : Bool) (f : NameFault) (r : Result Resolved NameFault) (x : Resolved) → (if b then Err f else r) ≡ Ok x → r ≡ Ok x
counted true f r x h = absurd cc
counted false f r x h = h

pub resolved_is : (p : Program) (x : Resolved) → resolution p ≡ Ok x → IsNamed p x
unfolding resolution
resolved_is p x h =
    let read = read_items (tables_of p.items) p.items no_items in
    let (once, rest) = once_of (twice p) (variables_within read) x (counted (nat_lt 4096 (count_functions p.items)) (Limit Functions 4097) (unless_twice (twice p) (variables_within read)) x h) in
    let (items, few) = within_of read x rest in
    record { items = items; once = once; few = few }

pub resolved_few : (p : Program) (x : Resolved) → resolution p ≡ Ok x → Each (λ (f : resolved.Function). length f.variables ≤ 1000) x.functions
resolved_few p x h = all_few x.functions (resolved_is p x h).few

pub resolved_differ : (p : Program) (x : Resolved) → resolution p ≡ Ok x → Differ (function_names x.functions)
unfolding twice
resolved_differ p x h =
    let named = resolved_is p x h in
    subst Differ (sym (items_named (tables_of p.items) p.items no_items x named.items)) (all_apart (tables_of p.items).values [] p.items named.once)
