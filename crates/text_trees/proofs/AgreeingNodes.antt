-- A node that breaks no rule has a value: so what is told of it is what the definitions give.
use Rattle.std.proofs.Common.{◌≡◌, ℕ, List, [], ◌∷◌, ◌++◌, Some, None, Bool, true, false, refl, sym, subst}
use Rattle.std.specs.Prelude.{Option, is_some, if◌then◌else◌, ◌==◌, codes}
use Rattle.std.specs.Option.{option_map}
use Rattle.std.proofs.lemmas.Bool.{eqb-true, eq-eqb}
use Rattle.aen_base.specs.declared.int_ty.IntTy.{IntTy}
use Rattle.aen_base.specs.declared.span.Span.{Span}
use Rattle.pure_ast.specs.declared.def.DefKind.{DefKind}
use Rattle.text_meaning.specs.Ranges.{arity}
use Rattle.raw_ast.specs.declared.computation.Operation.{Operation}
use Rattle.raw_ast.specs.declared.names.Constructor.{Constructor}
use Rattle.raw_ast.specs.declared.names.Constructor.TheVariants as C
use Rattle.raw_ast.specs.declared.names.DefinitionName.{DefinitionName}
use Rattle.raw_ast.specs.declared.spelling.Spelling.{Spelling}
use Rattle.raw_meaning.specs.declared.outline.Outline.{Outline}
use Rattle.raw_meaning.specs.Lookups.{type_of, constructor_of, definition_of}
use Rattle.raw_meaning.specs.Numbers.{numbered, number_of}
use Rattle.raw_meaning.specs.Outlines.{is_in, place_of, part_number, kind_by, kind_of}
use Rattle.raw_meaning.specs.Rules as rule
use Rattle.raw_meaning.specs.Rules.{unless, unless_parts, unless_declared}
use Rattle.raw_meaning.specs.Trees.{variable_number, constructor_id, with_parts}
use Rattle.text_names.specs.NamedTypes.{type_named}
use Rattle.text_names.specs.Settled.{Settles, Keeps}
use Rattle.text_trees.specs.Nodes as nodes
use Rattle.text_trees.specs.Told.{told, kept}

-- no fault, and no value
abbrev Answered : {A : Type 0} → List Span → Option A → Type 0
Answered [] None = ⊥
Answered [] (Some x) = Unit {0}
Answered (p ∷ ps) value = Unit {0}

answered : {A : Type 0} (faults : List Span) (value : Option A) → Answered faults value → Settles faults value (told faults value)
answered [] None h = absurd h
answered [] (Some x) h = (refl, refl)
answered (p ∷ ps) value h = refl

keeps : (faults : List Span) → Keeps faults (kept faults)
keeps [] = refl
keeps (p ∷ ps) = refl

-- ---- numbers

if_some : {A : Type 0} (o : Option A) (place : Span) → Answered (unless (is_some o) place) o
if_some None place = tt
if_some (Some x) place = tt

pub variable : (s : Spelling) → Settles (rule.variable s) (variable_number s) (nodes.variable s)
unfolding nodes.variable
variable s = answered (rule.variable s) (variable_number s) (if_some (numbered (codes "v") s.text) s.span)

pub number : (s : Spelling) (t : IntTy) → Settles (rule.number s t) (number_of s.text t) (nodes.number s t)
unfolding nodes.number
number s t = answered (rule.number s t) (number_of s.text t) (if_some (number_of s.text t) s.span)

-- ---- names with so many parts

if_same : {A : Type 0} (b : Bool) (x : A) (place : Span) → Answered (unless b place) (if b then Some x else None)
if_same true x place = tt
if_same false x place = tt

if_parts : {A : Type 0} (found : Option (A × ℕ)) (count : ℕ) (place : Span) → Answered (unless_parts found count place) (with_parts found count)
if_parts None count place = tt
if_parts (Some p) count place = if_same (p.1 == count) p.0 place

mapped : {A B : Type 0} (g : A → B) (faults : List Span) (o : Option A) → Answered faults o → Answered faults (option_map g o)
mapped g [] None h = h
mapped g [] (Some x) h = tt
mapped g (p ∷ ps) o h = tt

if_named : (place : Option ℕ) (found : Option (ℕ × ℕ)) (count : ℕ) (span : Span) →
    Answered (if is_some place then unless (count == 0) span else unless_parts found count span) (type_named place found count)
if_named None found count span = mapped _ (unless_parts found count span) (with_parts found count) (if_parts found count span)
if_named (Some k) found count span = if_same (count == 0) _ span

pub type_name : (h : Outline) (ps : List (List ℕ)) (s : Spelling) (count : ℕ) →
    Settles (rule.type_name h ps s count) (type_named (place_of ps s.text) (type_of h s.text) count) (nodes.type_name h ps s count)
unfolding nodes.type_name
type_name h ps s count =
    answered (rule.type_name h ps s count) (type_named (place_of ps s.text) (type_of h s.text) count) (if_named (place_of ps s.text) (type_of h s.text) count s.span)

if_type : {A B : Type 0} (ty : Option A) (found : Option (B × ℕ)) (count : ℕ) (place other : Span) →
    Answered (if is_some ty then unless_parts found count place else other ∷ []) (with_parts found count)
if_type None found count place other = tt
if_type (Some t) found count place other = if_parts found count place

same_test : (b c : Bool) → (b ≡ true → c ≡ true) → (c ≡ true → b ≡ true) → b ≡ c
same_test true c p q = sym (p refl)
same_test false true p q = q refl
same_test false false p q = refl

turned : (m n : ℕ) → (m == n) ≡ (n == m)
turned m n = same_test (m == n) (n == m) (λ e. eq-eqb n m (sym (eqb-true m n e))) (λ e. eq-eqb m n (sym (eqb-true n m e)))

if_one : {A : Type 0} (x : A) (count : ℕ) (place : Span) → Answered (unless (count == 1) place) (with_parts (Some (x, 1)) count)
if_one x count place =
    subst (λ (b : Bool). Answered (unless b place) (with_parts (Some (x, 1)) count)) (turned 1 count) (if_same (1 == count) x place)

built : (h : Outline) (name : Constructor) (count : ℕ) → Answered (rule.constructor h name count) (constructor_id h name count)
built h (C.Of t v) count = if_type (type_of h t.text) (constructor_of h t.text v.text) count v.span t.span
built h (C.Brk span) count = if_one _ count span
built h (C.Ret span) count = if_one _ count span

pub constructor : (h : Outline) (name : Constructor) (count : ℕ) → Settles (rule.constructor h name count) (constructor_id h name count) (nodes.constructor h name count)
unfolding nodes.constructor
constructor h name count = answered (rule.constructor h name count) (constructor_id h name count) (built h name count)

if_declared : (b : Bool) (numbers : List Span) (found : Option (ℕ × ℕ)) (count : ℕ) (place other : Span) →
    Answered (if b then unless_declared numbers found count place else other ∷ []) (with_parts found count)
if_declared false numbers found count place other = tt
if_declared true [] found count place other = if_parts found count place
if_declared true (p ∷ ps) found count place other = tt

pub called : (h : Outline) (name : DefinitionName) (count : ℕ) → Settles (rule.called h name count) (with_parts (definition_of h name) count) (nodes.called h name count)
unfolding nodes.called
called h name count =
    answered (rule.called h name count) (with_parts (definition_of h name) count)
    (if_declared (is_in name.function.text h.functions) (rule.name_numbers name) (definition_of h name) count (rule.last_place name) name.function.span)

pub operation : (o : Operation) (count : ℕ) → Settles (rule.operation o count) (with_parts (Some (o.primitive, arity o.primitive)) count) (nodes.operation o count)
unfolding nodes.operation
operation o count = answered (rule.operation o count) (with_parts (Some (o.primitive, arity o.primitive)) count) (if_same (arity o.primitive == count) o.primitive o.span)

-- ---- a definition's name

named_part : (prefix : List ℕ) (s : Option Spelling) → Answered (rule.name_number prefix s) (part_number prefix s)
named_part prefix None = tt
named_part prefix (Some s) = mapped _ (unless (is_some (numbered prefix s.text)) s.span) (numbered prefix s.text) (if_some (numbered prefix s.text) s.span)

some_kind : (f : ℕ) (m n : Option ℕ) (faults : List Span) → Answered faults (kind_by (Some f) (Some m) (Some n))
some_kind f None None [] = tt
some_kind f None None (p ∷ ps) = tt
some_kind f None (Some r) [] = tt
some_kind f None (Some r) (p ∷ ps) = tt
some_kind f (Some l) None [] = tt
some_kind f (Some l) None (p ∷ ps) = tt
some_kind f (Some l) (Some r) [] = tt
some_kind f (Some l) (Some r) (p ∷ ps) = tt

if_kinded : (place : Option ℕ) (turn back : Option (Option ℕ)) (f g faults : List Span) → is_some place ≡ true → Answered f turn → Answered g back →
    Answered ((f ++ g) ++ faults) (kind_by place turn back)
if_kinded place turn back (p ∷ f) g faults h a b = tt
if_kinded place None back [] g faults h a b = absurd a
if_kinded place (Some m) back [] (p ∷ g) faults h a b = tt
if_kinded place (Some m) None [] [] faults h a b = absurd b
if_kinded None (Some m) (Some n) [] [] faults h a b = absurd cc
if_kinded (Some f) (Some m) (Some n) [] [] faults h a b = some_kind f m n faults

pub new_definition : (functions : List (List ℕ)) (kinds : List DefKind) (name : DefinitionName) → is_in name.function.text functions ≡ true →
    Settles (rule.new_definition functions kinds name) (kind_of functions name) (nodes.new_definition functions kinds name)
unfolding nodes.new_definition
new_definition functions kinds name h =
    answered (rule.new_definition functions kinds name) (kind_of functions name)
    (if_kinded (place_of functions name.function.text) (part_number (codes "loop") name.turn) (part_number (codes "back") name.back)
    (rule.name_number (codes "loop") name.turn) (rule.name_number (codes "back") name.back) (rule.once (kind_of functions name) kinds (rule.last_place name)) h
    (named_part (codes "loop") name.turn) (named_part (codes "back") name.back))

-- ---- nodes without a value

pub parameter : (k : ℕ) (s : Spelling) → Keeps (rule.parameter k s) (nodes.parameter k s)
unfolding nodes.parameter
parameter k s = keeps (rule.parameter k s)

pub new_type : (types parameters : List (List ℕ)) (s : Spelling) → Keeps (rule.new_type types parameters s) (nodes.new_type types parameters s)
unfolding nodes.new_type
new_type types parameters s = keeps (rule.new_type types parameters s)

pub new_parameter : (types parameters : List (List ℕ)) (s : Spelling) → Keeps (rule.new_parameter types parameters s) (nodes.new_parameter types parameters s)
unfolding nodes.new_parameter
new_parameter types parameters s = keeps (rule.new_parameter types parameters s)

pub new_member : (members : List (List ℕ)) (s : Spelling) → Keeps (rule.new_member members s) (nodes.new_member members s)
unfolding nodes.new_member
new_member members s = keeps (rule.new_member members s)

pub variant_end : (ty : List ℕ) (parameters : List (List ℕ)) (end : Spelling) (names : List Spelling) →
    Keeps (rule.variant_end ty parameters end names ++ rule.end_names parameters names) (nodes.variant_end ty parameters end names)
unfolding nodes.variant_end
variant_end ty parameters end names = keeps (rule.variant_end ty parameters end names ++ rule.end_names parameters names)
