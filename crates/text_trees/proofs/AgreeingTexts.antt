-- What is told of declarations, definitions and texts is what the definitions give.
use Rattle.std.proofs.Common.{◌≡◌, ℕ, suc, ◌+◌, List, [], ◌∷◌, ◌++◌, Some, None, true, false, refl, ap, sym, ◌∙◌, subst, append_assoc, append-nil, arith}
use Rattle.std.specs.Fmt.{decimal}
use Rattle.std.specs.List.{list_all, flat_map}
use Rattle.std.specs.Option.{option_map}
use Rattle.std.specs.Prelude.{Option, Result, Ok, Err, Bool, ◌&&◌, codes}
use Rattle.aen_base.specs.declared.span.Span.{Span}
use Rattle.pure_ast.specs.declared.def.Def.{Def}
use Rattle.pure_ast.specs.declared.def.DefKind.{DefKind}
use Rattle.pure_ast.specs.declared.def.Defs.{Defs}
use Rattle.pure_ast.specs.declared.def.PType.{PType}
use Rattle.pure_ast.specs.Code.{Code}
use Rattle.pure_ast.specs.Types.{PTy}
use Rattle.text_meaning.specs.Lookups.{Variant as NamedFields}
use Rattle.raw_ast.specs.declared.declarations.Declaration.{Declaration}
use Rattle.raw_ast.specs.declared.declarations.Definition.{Definition}
use Rattle.raw_ast.specs.declared.declarations.Members.{Members}
use Rattle.raw_ast.specs.declared.declarations.Members.TheVariants as M
use Rattle.raw_ast.specs.declared.declarations.RawText.{RawText}
use Rattle.raw_ast.specs.declared.declarations.Variant.{Variant}
use Rattle.raw_ast.specs.declared.spelling.Spelling.{Spelling}
use Rattle.raw_ast.specs.Types.{RawType}
use Rattle.raw_meaning.specs.declared.outline.Outline.{Outline}
use Rattle.raw_meaning.specs.Faults.{texts, type_names, type_faults, code_faults, parameters_faults, variant_faults, variants_faults, fields_faults, members_faults, declaration_faults, declarations_faults, values_faults, definition_faults, definitions_faults, and_kind, text_faults_in, faults}
use Rattle.raw_meaning.specs.Outlines.{outline_of, kind_of, is_in}
use Rattle.raw_meaning.specs.Rules as rule
use Rattle.raw_meaning.specs.Trees.{both, three, four, each, type_tree, code_tree, numbered_fields, variant_tree, field_tree, members_trees, is_structure, declaration_tree, parameter_types, definition_tree, definitions_in, definitions, defined}
use Rattle.text_names.specs.Bearing.{all_bear}
use Rattle.text_names.specs.Settled.{first, Settles, Keeps}
use Rattle.text_trees.specs.declared.definitions.Parts.{Parts}
use Rattle.text_trees.specs.Codes.{code_told}
use Rattle.text_trees.specs.Declarations as d
use Rattle.text_trees.specs.Definitions as s
use Rattle.text_trees.specs.Nodes as nodes
use Rattle.text_trees.specs.Told.{and_then, on_ok}
use Rattle.text_trees.specs.Types.{type_told}
use Rattle.text_trees.proofs.Agreeing.{some_is, first_stays, settles_then, settles_when, keeps_then, settles_map, settles_two, settles_some, as_is, re_form}
use Rattle.text_trees.proofs.AgreeingNodes as node
use Rattle.text_trees.proofs.AgreeingTrees.{type_settles, code_settles}

-- a part whose value is known, before another
with_known : {A B : Type 0} (f g : List Span) (v : A) (rest : A → Result B Span) (r : Result A Span) (o : Option B) →
    Settles f (Some v) r → Settles g o (rest v) → Settles (f ++ g) o (and_then r rest)
with_known f g v rest (Err place) o h k = first_stays f g place h
with_known f g v rest (Ok x) o h k =
    let is : v ≡ x = some_is v x h.1 in
    subst (λ (fs : List Span). Settles (fs ++ g) o (rest x)) (sym h.0) (subst (λ z. Settles g o (rest z)) is k)

-- ---- type parameters

pub parameters_settle : (types before : List (List ℕ)) (names : List Spelling) →
    Settles (parameters_faults types before names) (Some (before ++ texts names)) (d.parameters_told types before names)
parameters_settle types before [] = (refl, ap Some (append-nil before))
parameters_settle types before (x ∷ rest) =
    let after = before ++ x.text ∷ [] in
    subst (λ (ns : List (List ℕ)). Settles (parameters_faults types before (x ∷ rest)) (Some ns) (d.parameters_told types before (x ∷ rest))) (append_assoc before (x.text ∷ []) (texts rest))
    (keeps_then (rule.new_parameter types before x) (parameters_faults types after rest) (Some (after ++ texts rest)) (nodes.new_parameter types before x) (λ u. d.parameters_told types after rest)
    (node.new_parameter types before x) (parameters_settle types after rest))

-- ---- fields and variants

numbered_both : (k : ℕ) (o : Option PTy) (q : Option (List PTy)) →
    option_map (numbered_fields k) (both (λ y ys. y ∷ ys) o q) ≡ both (λ y ys. (codes "f" ++ decimal k, y) ∷ ys) o (option_map (numbered_fields (suc k)) q)
numbered_both k None q = refl
numbered_both k (Some y) None = refl
numbered_both k (Some y) (Some ys) = refl

plus_one : (k : ℕ) → suc k ≡ k + 1
plus_one k = omega arith

numbered_settle : (h : Outline) (ps : List (List ℕ)) (k : ℕ) (xs : List RawType) →
    Settles (flat_map (type_faults h ps) xs) (option_map (numbered_fields k) (each (type_tree h ps) xs)) (d.numbered_told h ps k xs)
numbered_settle h ps k [] = (refl, refl)
numbered_settle h ps k (x ∷ rest) =
    let f = type_faults h ps x in
    let g = flat_map (type_faults h ps) rest in
    let told = d.numbered_told h ps k (x ∷ rest) in
    let others = λ (n : ℕ). option_map (numbered_fields n) (each (type_tree h ps) rest) in
    let named = λ (y : PTy) (ys : List (List ℕ × PTy)). (codes "f" ++ decimal k, y) ∷ ys in
    subst (λ (o : Option (List (List ℕ × PTy))). Settles (f ++ g) o told) (sym (numbered_both k (type_tree h ps x) (each (type_tree h ps) rest)))
    (subst (λ (n : ℕ). Settles (f ++ g) (both named (type_tree h ps x) (others n)) told) (sym (plus_one k))
    (settles_two f g named (type_tree h ps x) (others (k + 1)) (type_told h ps x) (d.numbered_told h ps (k + 1) rest) (type_settles h ps x) (numbered_settle h ps (k + 1) rest)))

-- a value, and then a part without one
settles_kept : {A B : Type 0} (f g : List Span) (o : Option A) (k : A → B) (r : Result A Span) (q : Result Unit Span) →
    Settles f o r → Keeps g q → Settles (f ++ g) (option_map k o) (and_then r (λ x. on_ok (λ u. k x) q))
settles_kept f g o k (Err place) q h e = first_stays f g place h
settles_kept f g o k (Ok x) (Ok tt) h e = (ap (λ (fs : List Span). fs ++ g) h.0 ∙ e, ap (option_map k) h.1)
settles_kept f g o k (Ok x) (Err place) h e = ap (λ (fs : List Span). first (fs ++ g)) h.0 ∙ e

abbrev named : List ℕ → List (List ℕ × PTy) → NamedFields
named a ys = (a, ys)

numbers_named : (a : List ℕ) (o : Option (List PTy)) → option_map (λ xs. named a (numbered_fields 0 xs)) o ≡ option_map (named a) (option_map (numbered_fields 0) o)
numbers_named a None = refl
numbers_named a (Some xs) = refl

variant_settles : (h : Outline) (ty : List ℕ) (ps : List (List ℕ)) (v : Variant) → Settles (variant_faults h ty ps v) (variant_tree h ps v) (d.variant_told h ty ps v)
variant_settles h ty ps v =
    subst (λ (o : Option NamedFields). Settles (variant_faults h ty ps v) o (d.variant_told h ty ps v)) (sym (numbers_named v.name.text (each (type_tree h ps) v.fields)))
    (settles_kept (flat_map (type_faults h ps) v.fields) (rule.variant_end ty ps v.end v.parameters ++ rule.end_names ps v.parameters)
    (option_map (numbered_fields 0) (each (type_tree h ps) v.fields)) (named v.name.text) (d.numbered_told h ps 0 v.fields) (nodes.variant_end ty ps v.end v.parameters)
    (numbered_settle h ps 0 v.fields) (node.variant_end ty ps v.end v.parameters))

variants_settle : (h : Outline) (ty : List ℕ) (ps before : List (List ℕ)) (vs : List Variant) →
    Settles (variants_faults h ty ps before vs) (each (variant_tree h ps) vs) (d.variants_told h ty ps before vs)
variants_settle h ty ps before [] = (refl, refl)
variants_settle h ty ps before (v ∷ rest) =
    let after = before ++ v.name.text ∷ [] in
    let f = variant_faults h ty ps v in
    let g = variants_faults h ty ps after rest in
    keeps_then (rule.new_member before v.name) (f ++ g) (each (variant_tree h ps) (v ∷ rest)) (nodes.new_member before v.name)
    (λ u. and_then (d.variant_told h ty ps v) (λ y. on_ok (λ ys. y ∷ ys) (d.variants_told h ty ps after rest))) (node.new_member before v.name)
    (settles_two f g (λ y ys. y ∷ ys) (variant_tree h ps v) (each (variant_tree h ps) rest) (d.variant_told h ty ps v) (d.variants_told h ty ps after rest)
    (variant_settles h ty ps v) (variants_settle h ty ps after rest))

abbrev field : List ℕ → PTy → List ℕ × PTy
field a x = (a, x)

field_then : (a : List ℕ) (o : Option PTy) (q : Option (List (List ℕ × PTy))) → both (λ y ys. y ∷ ys) (option_map (field a) o) q ≡ both (λ x ys. field a x ∷ ys) o q
field_then a None q = refl
field_then a (Some x) None = refl
field_then a (Some x) (Some ys) = refl

fields_settle : (h : Outline) (ps before : List (List ℕ)) (fs : List (Spelling × RawType)) →
    Settles (fields_faults h ps before fs) (each (field_tree h ps) fs) (d.fields_told h ps before fs)
fields_settle h ps before [] = (refl, refl)
fields_settle h ps before (x ∷ rest) =
    let after = before ++ x.0.text ∷ [] in
    let f = type_faults h ps x.1 in
    let g = fields_faults h ps after rest in
    let named = λ (y : PTy) (ys : List (List ℕ × PTy)). (x.0.text, y) ∷ ys in
    let told = and_then (type_told h ps x.1) (λ y. on_ok (named y) (d.fields_told h ps after rest)) in
    keeps_then (rule.new_member before x.0) (f ++ g) (each (field_tree h ps) (x ∷ rest)) (nodes.new_member before x.0) (λ u. told) (node.new_member before x.0)
    (subst (λ (o : Option (List (List ℕ × PTy))). Settles (f ++ g) o told) (sym (field_then x.0.text (type_tree h ps x.1) (each (field_tree h ps) rest)))
    (settles_two f g named (type_tree h ps x.1) (each (field_tree h ps) rest) (type_told h ps x.1) (d.fields_told h ps after rest)
    (type_settles h ps x.1) (fields_settle h ps after rest)))

members_settle : (h : Outline) (ty : List ℕ) (ps : List (List ℕ)) (m : Members) → Settles (members_faults h ty ps m) (members_trees h ps m) (d.members_told h ty ps m)
members_settle h ty ps (M.Variants variants) = variants_settle h ty ps [] variants
members_settle h ty ps (M.Fields fields) =
    settles_map (fields_faults h ps [] fields) (each (field_tree h ps) fields) (λ xs. (codes "mk", xs) ∷ []) (d.fields_told h ps [] fields) (fields_settle h ps [] fields)

-- ---- declarations

abbrev made : Declaration → List (List ℕ) → List NamedFields → PType
made x ps vs = record { name = x.name.text; is_struct = d.is_structure x.members; params = ps; variants = vs }

same_structure : (m : Members) → d.is_structure m ≡ is_structure m
same_structure (M.Variants variants) = refl
same_structure (M.Fields fields) = refl

declared_as : (h : Outline) (x : Declaration) → declaration_tree h x ≡ option_map (made x (texts x.parameters)) (members_trees h (texts x.parameters) x.members)
declared_as h x =
    ap (λ (b : Bool). option_map (λ vs. record { name = x.name.text; is_struct = b; params = texts x.parameters; variants = vs }) (members_trees h (texts x.parameters) x.members)) (sym (same_structure x.members))

body_settles : (h : Outline) (types : List (List ℕ)) (x : Declaration) →
    Settles (parameters_faults types [] x.parameters ++ members_faults h x.name.text (texts x.parameters) x.members) (declaration_tree h x) (d.body_told h types x)
body_settles h types x =
    let f = parameters_faults types [] x.parameters in
    let ps = texts x.parameters in
    let g = members_faults h x.name.text ps x.members in
    subst (λ (o : Option PType). Settles (f ++ g) o (d.body_told h types x)) (sym (declared_as h x))
    (with_known f g ps (λ ns. on_ok (made x ns) (d.members_told h x.name.text ns x.members)) (d.parameters_told types [] x.parameters) (option_map (made x ps) (members_trees h ps x.members))
    (parameters_settle types [] x.parameters)
    (settles_map g (members_trees h ps x.members) (made x ps) (d.members_told h x.name.text ps x.members) (members_settle h x.name.text ps x.members)))

declarations_settle : (h : Outline) (types parameters : List (List ℕ)) (xs : List Declaration) →
    Settles (declarations_faults h types parameters xs) (each (declaration_tree h) xs) (d.declarations_told h types parameters xs)
declarations_settle h types parameters [] = (refl, refl)
declarations_settle h types parameters (x ∷ rest) =
    let after = types ++ x.name.text ∷ [] in
    let f = parameters_faults after [] x.parameters ++ members_faults h x.name.text (texts x.parameters) x.members in
    let g = declarations_faults h after (parameters ++ texts x.parameters) rest in
    settles_two (declaration_faults h types parameters x) g (λ y ys. y ∷ ys) (declaration_tree h x) (each (declaration_tree h) rest)
    (d.declaration_told h types parameters x) (d.declarations_told h after (parameters ++ texts x.parameters) rest)
    (keeps_then (rule.new_type types parameters x.name) f (declaration_tree h x) (nodes.new_type types parameters x.name) (λ u. d.body_told h after x) (node.new_type types parameters x.name) (body_settles h after x))
    (declarations_settle h after (parameters ++ texts x.parameters) rest)

-- ---- definitions

values_settle : (h : Outline) (ps : List (List ℕ)) (k : ℕ) (xs : List (Spelling × RawType)) → Settles (values_faults h ps k xs) (parameter_types h ps xs) (s.values_told h ps k xs)
values_settle h ps k [] = (refl, refl)
values_settle h ps k (x ∷ rest) =
    let f = type_faults h ps x.1 in
    let told = and_then (type_told h ps x.1) (λ y. on_ok (λ ys. y ∷ ys) (s.values_told h ps (k + 1) rest)) in
    let tree = both (λ y ys. y ∷ ys) (type_tree h ps x.1) (parameter_types h ps rest) in
    subst (λ (n : ℕ). Settles (rule.parameter k x.0 ++ (f ++ values_faults h ps n rest)) tree (s.values_told h ps k (x ∷ rest))) (sym (plus_one k))
    (keeps_then (rule.parameter k x.0) (f ++ values_faults h ps (k + 1) rest) tree (nodes.parameter k x.0) (λ u. told) (node.parameter k x.0)
    (settles_two f (values_faults h ps (k + 1) rest) (λ y ys. y ∷ ys) (type_tree h ps x.1) (parameter_types h ps rest) (type_told h ps x.1) (s.values_told h ps (k + 1) rest)
    (type_settles h ps x.1) (values_settle h ps (k + 1) rest)))

signature_settles : (h : Outline) (types : List (List ℕ)) (x : Definition) →
    Settles (parameters_faults types [] x.type_parameters ++ (values_faults h (texts x.type_parameters) 0 x.parameters ++ type_faults h (texts x.type_parameters) x.result))
    (both (λ xs r. s.signature (texts x.type_parameters) xs r) (parameter_types h (texts x.type_parameters) x.parameters) (type_tree h (texts x.type_parameters) x.result)) (s.signature_told h types x)
signature_settles h types x =
    let ps = texts x.type_parameters in
    let f = values_faults h ps 0 x.parameters in
    let g = type_faults h ps x.result in
    with_known (parameters_faults types [] x.type_parameters) (f ++ g) ps (λ ns. and_then (s.values_told h ns 0 x.parameters) (λ xs. on_ok (λ r. s.signature ns xs r) (type_told h ns x.result)))
    (d.parameters_told types [] x.type_parameters) (both (λ xs r. s.signature ps xs r) (parameter_types h ps x.parameters) (type_tree h ps x.result)) (parameters_settle types [] x.type_parameters)
    (settles_two f g (λ xs r. s.signature ps xs r) (parameter_types h ps x.parameters) (type_tree h ps x.result) (s.values_told h ps 0 x.parameters) (type_told h ps x.result)
    (values_settle h ps 0 x.parameters) (type_settles h ps x.result))

-- the faults of a definition after its name, in other brackets
in_brackets : (a b c e : List Span) → (a ++ (b ++ c)) ++ e ≡ a ++ (b ++ (c ++ e))
in_brackets a b c e = append_assoc a (b ++ c) e ∙ ap (λ (fs : List Span). a ++ fs) (append_assoc b c e)

parts_of : (kind : DefKind) (ps : List (List ℕ)) (xs : Option (List PTy)) (r : Option PTy) (code : Option Code) →
    both (λ t c. s.defined kind t c) (both (λ xs r. s.signature ps xs r) xs r) code ≡ three (λ xs r b. defined kind ps xs r b) xs r code
parts_of kind ps None r code = refl
parts_of kind ps (Some xs) None code = refl
parts_of kind ps (Some xs) (Some r) None = refl
parts_of kind ps (Some xs) (Some r) (Some b) = refl

definition_settles : (h : Outline) (types : List (List ℕ)) (kinds : List DefKind) (x : Definition) → is_in x.name.function.text h.functions ≡ true →
    Settles (definition_faults h types kinds x) (definition_tree h x) (s.definition_told h types kinds x)
definition_settles h types kinds x bears =
    let ps = texts x.type_parameters in
    let xs = parameter_types h ps x.parameters in
    let r = type_tree h ps x.result in
    let c = code_tree h x.code in
    let fa = parameters_faults types [] x.type_parameters in
    let fb = values_faults h ps 0 x.parameters in
    let fc = type_faults h ps x.result in
    let fe = code_faults h x.code in
    let told = λ (kind : DefKind). and_then (s.signature_told h types x) (λ t. on_ok (λ code. s.defined kind t code) (code_told h x.code)) in
    settles_then (rule.new_definition h.functions kinds x.name) (fa ++ (fb ++ (fc ++ fe))) (kind_of h.functions x.name) (λ o. four (λ kind xs r b. defined kind ps xs r b) o xs r c)
    (nodes.new_definition h.functions kinds x.name) told (node.new_definition h.functions kinds x.name bears) (λ kind.
    subst (λ (fs : List Span). Settles fs (three (λ xs r b. defined kind ps xs r b) xs r c) (told kind)) (in_brackets fa fb fc fe)
    (subst (λ (o : Option Def). Settles ((fa ++ (fb ++ fc)) ++ fe) o (told kind)) (parts_of kind ps xs r c)
    (settles_two (fa ++ (fb ++ fc)) fe (λ t b. s.defined kind t b) (both (λ xs r. s.signature ps xs r) xs r) c (s.signature_told h types x) (code_told h x.code)
    (signature_settles h types x) (code_settles h x.code))))

kind_kept : (o : Option DefKind) (ps : List (List ℕ)) (xs : Option (List PTy)) (r : Option PTy) (c : Option Code) (y : Def) →
    four (λ kind xs r b. defined kind ps xs r b) o xs r c ≡ Some y → o ≡ Some y.kind
kind_kept None ps xs r c y h = absurd cc
kind_kept (Some k) ps None r c y h = absurd cc
kind_kept (Some k) ps (Some xs) None c y h = absurd cc
kind_kept (Some k) ps (Some xs) (Some r) None y h = absurd cc
kind_kept (Some k) ps (Some xs) (Some r) (Some c) y h = ap (λ (x : Def). Some x.kind) (some_is (defined k ps xs r c) y h)

and_both : (b c : Bool) → (b && c) ≡ true → (b ≡ true) × (c ≡ true)
and_both true c h = (refl, h)
and_both false c h = absurd cc

cons_settles : {A : Type 0} (f : List Span) (y : A) (o : Option (List A)) (r : Result (List A) Span) → Settles f o r → Settles f (both (λ y ys. y ∷ ys) (Some y) o) (on_ok (λ ys. y ∷ ys) r)
cons_settles f y o r h = settles_some f (λ y ys. y ∷ ys) y o (λ ys. ys) (λ ys. y ∷ ys) r (as_is f o r h) (λ ys. refl)

definitions_settle : (h : Outline) (types : List (List ℕ)) (kinds : List DefKind) (xs : List Definition) →
    list_all (λ (x : Definition). is_in x.name.function.text h.functions) xs ≡ true →
    Settles (definitions_faults h types kinds xs) (each (definition_tree h) xs) (s.definitions_told h types kinds xs)
definitions_settle h types kinds [] bear = (refl, refl)
definitions_settle h types kinds (x ∷ rest) bear =
    let bears = and_both (is_in x.name.function.text h.functions) (list_all (λ (x : Definition). is_in x.name.function.text h.functions) rest) bear in
    let ps = texts x.type_parameters in
    let others = each (definition_tree h) rest in
    settles_when (definition_faults h types kinds x) (definitions_faults h types (and_kind kinds (kind_of h.functions x.name)) rest) (definition_tree h x) (λ o. both (λ y ys. y ∷ ys) o others)
    (s.definition_told h types kinds x) (λ y. on_ok (λ ys. y ∷ ys) (s.definitions_told h types (kinds ++ y.kind ∷ []) rest)) (definition_settles h types kinds x bears.0) (λ y is.
    let kind = kind_kept (kind_of h.functions x.name) ps (parameter_types h ps x.parameters) (type_tree h ps x.result) (code_tree h x.code) y is in
    let all = s.definitions_told h types (kinds ++ y.kind ∷ []) rest in
    subst (λ (o : Option DefKind). Settles (definitions_faults h types (and_kind kinds o) rest) (both (λ y ys. y ∷ ys) (Some y) others) (on_ok (λ ys. y ∷ ys) all)) (sym kind)
    (cons_settles (definitions_faults h types (kinds ++ y.kind ∷ []) rest) y others all (definitions_settle h types (kinds ++ y.kind ∷ []) rest bears.1)))

-- ---- a text

text_settles_in : (h : Outline) (text : RawText) → list_all (λ (x : Definition). is_in x.name.function.text h.functions) text.definitions ≡ true →
    Settles (text_faults_in h text) (definitions_in h text) (s.text_told_in h text)
text_settles_in h text bear =
    let f = declarations_faults h [] [] text.types in
    let g = definitions_faults h (type_names text.types) [] text.definitions in
    let put : List PType → List Def → Defs = λ types ds. record { types = types; names = h.functions; defs = ds } in
    let parts : List PType → List Def → Parts = λ types ds. record { types = types; defs = ds } in
    let types = each (declaration_tree h) text.types in
    let defs = each (definition_tree h) text.definitions in
    let types_told = d.declarations_told h [] [] text.types in
    let defs_told = s.definitions_told h (type_names text.types) [] text.definitions in
    re_form (f ++ g) (both put types defs) (s.put_together h.functions) types_told parts defs_told
    (settles_two f g put types defs types_told defs_told (declarations_settle h [] [] text.types) (definitions_settle h (type_names text.types) [] text.definitions bear))

pub text_settles : (text : RawText) → Settles (faults text) (definitions text) (s.text_told text)
text_settles text = text_settles_in (outline_of text) text (all_bear [] text.definitions)
