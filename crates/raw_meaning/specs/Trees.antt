-- The definitions that a text as it is spelled stands for, where it breaks no rule: its names looked up, its numbers valued.
use Rattle.std.specs.Prelude.{ℕ, zero, suc, ◌==◌, Bool, true, false, if◌then◌else◌, List, [], ◌∷◌, ◌++◌, length, Option, Some, None, codes}
use Rattle.std.specs.Fmt.{decimal}
use Rattle.std.specs.Option.{option_map}
use Rattle.pure_ast.specs.declared.comp.Comp.{Comp}
use Rattle.pure_ast.specs.declared.comp.Comp.TheVariants as comp
use Rattle.pure_ast.specs.declared.ctor.CtorId.{CtorId}
use Rattle.pure_ast.specs.declared.ctor.CtorId.TheVariants.{Brk, Ret}
use Rattle.pure_ast.specs.declared.def.Def.{Def}
use Rattle.pure_ast.specs.declared.def.DefKind.{DefKind}
use Rattle.pure_ast.specs.declared.def.Defs.{Defs}
use Rattle.pure_ast.specs.declared.def.PType.{PType}
use Rattle.pure_ast.specs.declared.pat.Pat.{Pat}
use Rattle.pure_ast.specs.declared.pat.Pat.TheVariants as pat
use Rattle.pure_ast.specs.Code as code
use Rattle.pure_ast.specs.Code.{Code, Arms}
use Rattle.pure_ast.specs.Terms as term
use Rattle.pure_ast.specs.Terms.{Term, Terms, terms_list}
use Rattle.pure_ast.specs.Types as ty
use Rattle.pure_ast.specs.Types.{PTy, PTys}
use Rattle.text_meaning.specs.Lookups.{Variant as NamedFields}
use Rattle.text_meaning.specs.Ranges.{arity}
use Rattle.raw_ast.specs.declared.computation.Computation.{Computation}
use Rattle.raw_ast.specs.declared.computation.Computation.TheVariants as K
use Rattle.raw_ast.specs.declared.declarations.Declaration.{Declaration}
use Rattle.raw_ast.specs.declared.declarations.Definition.{Definition}
use Rattle.raw_ast.specs.declared.declarations.Members.{Members}
use Rattle.raw_ast.specs.declared.declarations.Members.TheVariants as M
use Rattle.raw_ast.specs.declared.declarations.RawText.{RawText}
use Rattle.raw_ast.specs.declared.declarations.Variant.{Variant}
use Rattle.raw_ast.specs.declared.names.Constructor.{Constructor}
use Rattle.raw_ast.specs.declared.names.Constructor.TheVariants as C
use Rattle.raw_ast.specs.declared.pattern.Pattern.{Pattern}
use Rattle.raw_ast.specs.declared.pattern.Pattern.TheVariants as P
use Rattle.raw_ast.specs.declared.spelling.Spelling.{Spelling}
use Rattle.raw_ast.specs.Atoms as a
use Rattle.raw_ast.specs.Atoms.{RawAtom, RawAtoms, rawatoms, rawatoms_list}
use Rattle.raw_ast.specs.Code as c
use Rattle.raw_ast.specs.Code.{RawCode, RawArms}
use Rattle.raw_ast.specs.Types as t
use Rattle.raw_ast.specs.Types.{RawType, RawTypes, rawtypes_list}
use Rattle.raw_meaning.specs.declared.outline.Outline.{Outline}
use Rattle.raw_meaning.specs.Outlines.{place_of, kind_of, outline_of}
use Rattle.raw_meaning.specs.Faults.{texts}
use Rattle.raw_meaning.specs.Lookups.{type_of, constructor_of, definition_of}
use Rattle.raw_meaning.specs.Numbers.{numbered, number_of}

-- both, put together
abbrev pub both : {A B D : Type 0} → (A → B → D) → Option A → Option B → Option D
both f None o = None
both f (Some x) None = None
both f (Some x) (Some y) = Some (f x y)

abbrev pub three : {A B D E : Type 0} → (A → B → D → E) → Option A → Option B → Option D → Option E
three f None o q = None
three f (Some x) o q = both (f x) o q

abbrev pub four : {A B D E F : Type 0} → (A → B → D → E → F) → Option A → Option B → Option D → Option E → Option F
four f None o q r = None
four f (Some x) o q r = three (f x) o q r

-- each item of a list
abbrev pub each : {A B : Type 0} → (A → Option B) → List A → Option (List B)
each f [] = Some []
each f (x ∷ xs) = both (λ y ys. y ∷ ys) (f x) (each f xs)

-- what has so many parts
abbrev pub with_parts : {A : Type 0} → Option (A × ℕ) → ℕ → Option A
with_parts None count = None
with_parts (Some p) count = if p.1 == count then Some p.0 else None

abbrev pub variable_number : Spelling → Option ℕ
variable_number s = numbered (codes "v") s.text

-- ---- types, in a declaration with these type parameters

abbrev pub named_by : Option ℕ → Option (ℕ × ℕ) → ℕ → Option PTys → Option PTy
named_by (Some k) found zero args = Some (ty.parameter k)
named_by (Some k) found (suc n) args = None
named_by None found n args = both (λ k ts. ty.named k ts) (with_parts found n) args

abbrev mutual
  pub type_tree : Outline → List (List ℕ) → RawType → Option PTy
  type_tree h ps (t.integer i) = Some (ty.integer i)
  type_tree h ps t.boolean = Some ty.boolean
  type_tree h ps t.unit = Some ty.unit
  type_tree h ps (t.product parts) = option_map (λ ts. ty.product ts) (type_trees h ps parts)
  type_tree h ps (t.named s args) = named_by (place_of ps s.text) (type_of h s.text) (length (rawtypes_list args)) (type_trees h ps args)
  type_tree h ps (t.exit broken returned) = both (λ x y. ty.exit x y) (type_tree h ps broken) (type_tree h ps returned)

  pub type_trees : Outline → List (List ℕ) → RawTypes → Option PTys
  type_trees h ps t.no_rawtypes = Some ty.no_ptys
  type_trees h ps (t.more_rawtypes x rest) = both (λ y ys. ty.more_ptys y ys) (type_tree h ps x) (type_trees h ps rest)

-- ---- atoms, patterns, computations, code

abbrev pub constructor_id : Outline → Constructor → ℕ → Option CtorId
constructor_id h (C.Of ty name) count = with_parts (constructor_of h ty.text name.text) count
constructor_id h (C.Brk span) count = with_parts (Some (Brk, 1)) count
constructor_id h (C.Ret span) count = with_parts (Some (Ret, 1)) count

abbrev mutual
  pub atom_tree : Outline → RawAtom → Option Term
  atom_tree h (a.var s) = option_map (λ k. term.var k) (variable_number s)
  atom_tree h (a.literal s i) = option_map (λ n. term.literal n) (number_of s.text i)
  atom_tree h (a.truth b) = Some (term.truth b)
  atom_tree h (a.tuple parts) = option_map (λ ts. term.tuple ts) (atom_trees h parts)
  atom_tree h (a.built name parts) = both (λ k ts. term.built k ts) (constructor_id h name (length (rawatoms_list parts))) (atom_trees h parts)

  pub atom_trees : Outline → RawAtoms → Option Terms
  atom_trees h a.no_rawatoms = Some term.no_terms
  atom_trees h (a.more_rawatoms x rest) = both (λ y ys. term.more_terms y ys) (atom_tree h x) (atom_trees h rest)

abbrev pub variable_numbers : List Spelling → Option (List ℕ)
variable_numbers names = each variable_number names

abbrev pub pattern_tree : Outline → Pattern → Option Pat
pattern_tree h (P.Truth b) = Some (pat.Bool b)
pattern_tree h (P.Tuple names) = option_map (λ vs. pat.Tuple vs) (variable_numbers names)
pattern_tree h (P.Built name names) = both (λ k vs. pat.Ctor k vs) (constructor_id h name (length names)) (variable_numbers names)

abbrev pub atoms_listed : Outline → List RawAtom → Option (List Term)
atoms_listed h xs = option_map terms_list (atom_trees h (rawatoms xs))

abbrev pub computation_tree : Outline → Computation → Option Comp
computation_tree h (K.Ok x) = option_map (λ y. comp.Ok y) (atom_tree h x)
computation_tree h K.Fail = Some comp.Fail
computation_tree h (K.Call name xs) = both (λ d ys. comp.Call (record { 0 = d }) ys) (with_parts (definition_of h name) (length xs)) (atoms_listed h xs)
computation_tree h (K.Primitive o xs) = both (λ p ys. comp.Prim p ys) (with_parts (Some (o.primitive, arity o.primitive)) (length xs)) (atoms_listed h xs)

abbrev mutual
  pub code_tree : Outline → RawCode → Option Code
  code_tree h (c.bind v x rest) = three (λ k y r. code.bind k y r) (variable_number v) (computation_tree h x) (code_tree h rest)
  code_tree h (c.put v x rest) = three (λ k y r. code.put k y r) (variable_number v) (atom_tree h x) (code_tree h rest)
  code_tree h (c.select x all) = both (λ y r. code.select y r) (atom_tree h x) (arm_trees h all)
  code_tree h (c.last x) = option_map (λ y. code.last y) (computation_tree h x)

  pub arm_trees : Outline → RawArms → Option Arms
  arm_trees h c.no_rawarms = Some code.no_arms
  arm_trees h (c.more_rawarms p x rest) = three (λ q y r. code.more_arms q y r) (pattern_tree h p) (code_tree h x) (arm_trees h rest)

-- ---- declarations

-- fields without names are `f0`, `f1` and so on, from k
abbrev pub numbered_fields : ℕ → List PTy → List (List ℕ × PTy)
numbered_fields k [] = []
numbered_fields k (x ∷ xs) = (codes "f" ++ decimal k, x) ∷ numbered_fields (suc k) xs

abbrev pub variant_tree : Outline → List (List ℕ) → Variant → Option NamedFields
variant_tree h ps v = option_map (λ xs. (v.name.text, numbered_fields 0 xs)) (each (type_tree h ps) v.fields)

abbrev pub field_tree : Outline → List (List ℕ) → Spelling × RawType → Option (List ℕ × PTy)
field_tree h ps f = option_map (λ x. (f.0.text, x)) (type_tree h ps f.1)

abbrev pub members_trees : Outline → List (List ℕ) → Members → Option (List NamedFields)
members_trees h ps (M.Variants variants) = each (variant_tree h ps) variants
members_trees h ps (M.Fields fields) = option_map (λ xs. (codes "mk", xs) ∷ []) (each (field_tree h ps) fields)

abbrev pub is_structure : Members → Bool
is_structure (M.Variants variants) = false
is_structure (M.Fields fields) = true

abbrev pub declaration_tree : Outline → Declaration → Option PType
declaration_tree h d =
    option_map (λ vs. record { name = d.name.text; is_struct = is_structure d.members; params = texts d.parameters; variants = vs })
    (members_trees h (texts d.parameters) d.members)

-- ---- definitions

abbrev pub defined : DefKind → List (List ℕ) → List PTy → PTy → Code → Def
defined kind ps xs result code = record { kind = kind; type_params = ps; params = xs; result = result; code = code }

abbrev pub parameter_types : Outline → List (List ℕ) → List (Spelling × RawType) → Option (List PTy)
parameter_types h ps xs = each (λ (p : Spelling × RawType). type_tree h ps p.1) xs

abbrev pub definition_tree : Outline → Definition → Option Def
definition_tree h d =
    four (λ kind xs r b. defined kind (texts d.type_parameters) xs r b) (kind_of h.functions d.name)
    (parameter_types h (texts d.type_parameters) d.parameters) (type_tree h (texts d.type_parameters) d.result) (code_tree h d.code)

-- ---- a text

abbrev pub definitions_in : Outline → RawText → Option Defs
definitions_in h text =
    both (λ types ds. record { types = types; names = h.functions; defs = ds }) (each (declaration_tree h) text.types) (each (definition_tree h) text.definitions)

abbrev pub definitions : RawText → Option Defs
definitions text = definitions_in (outline_of text) text
