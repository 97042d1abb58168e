-- What is told of types, atoms, patterns, computations and code is what the definitions give.
use Rattle.std.proofs.Common.{◌≡◌, ℕ, zero, suc, List, [], ◌∷◌, ◌++◌, length, Some, None, Bool, true, false, refl, ap, sym, ◌∙◌, subst, arith}
use Rattle.std.specs.Prelude.{Option, Result, Ok, Err, ◌==◌, if◌then◌else◌}
use Rattle.std.specs.Option.{option_map}
use Rattle.std.proofs.lemmas.Bool.{eqb-true}
use Rattle.aen_base.specs.declared.span.Span.{Span}
use Rattle.pure_ast.specs.declared.comp.Comp.TheVariants as comp
use Rattle.pure_ast.specs.declared.pat.Pat.{Pat}
use Rattle.pure_ast.specs.declared.pat.Pat.TheVariants as pat
use Rattle.pure_ast.specs.Code as code
use Rattle.pure_ast.specs.Code.{Code, Arms, arms}
use Rattle.pure_ast.specs.Terms as term
use Rattle.pure_ast.specs.Terms.{terms, terms_list, terms_back}
use Rattle.pure_ast.specs.Types as ty
use Rattle.pure_ast.specs.Types.{ptys}
use Rattle.text_meaning.specs.Ranges.{arity}
use Rattle.raw_ast.specs.declared.computation.Computation.{Computation}
use Rattle.raw_ast.specs.declared.computation.Computation.TheVariants as K
use Rattle.raw_ast.specs.declared.pattern.Pattern.{Pattern}
use Rattle.raw_ast.specs.declared.pattern.Pattern.TheVariants as P
use Rattle.raw_ast.specs.declared.spelling.Spelling.{Spelling}
use Rattle.raw_ast.specs.Atoms as a
use Rattle.raw_ast.specs.Atoms.{RawAtom, RawAtoms, rawatoms, rawatoms_list}
use Rattle.raw_ast.specs.Code as c
use Rattle.raw_ast.specs.Code.{RawCode, RawArms}
use Rattle.raw_ast.specs.Types as t
use Rattle.raw_ast.specs.Types.{RawType, RawTypes, rawtypes_list}
use Rattle.raw_meaning.specs.declared.outline.Outline.{Outline}
use Rattle.raw_meaning.specs.Faults.{type_faults, types_faults, atom_faults, atoms_faults, variables_faults, pattern_faults, computation_faults, code_faults, arms_faults}
use Rattle.raw_meaning.specs.Lookups.{type_of, definition_of}
use Rattle.raw_meaning.specs.Numbers.{number_of}
use Rattle.raw_meaning.specs.Outlines.{place_of}
use Rattle.raw_meaning.specs.Rules as rule
use Rattle.raw_meaning.specs.Trees.{both, three, with_parts, named_by, type_tree, type_trees, atom_tree, atom_trees, variable_numbers, pattern_tree, atoms_listed, computation_tree, code_tree, arm_trees, constructor_id, variable_number}
use Rattle.text_names.specs.declared.name_rules.TypeName.{TypeName}
use Rattle.text_names.specs.declared.name_rules.TypeName.TheVariants.{Parameter, Declared}
use Rattle.text_names.specs.NamedTypes.{type_named}
use Rattle.text_names.specs.Settled.{Settles}
use Rattle.text_trees.specs.Atoms as atoms
use Rattle.text_trees.specs.Atoms.{atom_told, atoms_told}
use Rattle.text_trees.specs.Codes.{variables_told, pattern_told, computation_told, code_told, arms_told}
use Rattle.text_trees.specs.Nodes as nodes
use Rattle.text_trees.specs.Told.{and_then, on_ok}
use Rattle.text_trees.specs.Types as types
use Rattle.text_trees.specs.Types.{type_told, types_told, by_name}
use Rattle.text_trees.proofs.Agreeing.{some_is, first_stays, re_form, settles_then, settles_map, settles_form, settles_some, settles_both, settles_two, on_then}
use Rattle.text_trees.proofs.AgreeingNodes as node

none_some : {A : Type 0} (x : A) → None ≡ Some x → ⊥
none_some x h = absurd cc

not_zero : {A : Type 0} (b : Bool) (n : ℕ) (x y : A) → (suc n == 0) ≡ b → (if b then Some x else None) ≡ Some y → ⊥
not_zero true n x y e h = let z = eqb-true (suc n) 0 e in omega (arith, z)
not_zero false n x y e h = none_some y h

nothing : (f g : List Span) → f ≡ [] → g ≡ [] → f ++ g ≡ []
nothing f g a b = ap (λ (fs : List Span). fs ++ g) a ∙ b

-- ---- types

declared_settles : (f g : List Span) (w : Option ℕ) (m : TypeName) (o : Option ty.PTys) (r : Result (List ty.PTy) Span) →
    f ≡ [] → option_map (λ k. Declared k) w ≡ Some m → Settles g o (on_ok ptys r) → Settles (f ++ g) (both (λ k ts. ty.named k ts) w o) (by_name m r)
declared_settles f g None m o r e q h = absurd cc
declared_settles f g (Some k) m o r e q h =
    let is : Declared k ≡ m = cc in
    subst (λ (m : TypeName). Settles (f ++ g) (both (λ k ts. ty.named k ts) (Some k) o) (by_name m r)) is
    (subst (λ (fs : List Span). Settles (fs ++ g) (both (λ k ts. ty.named k ts) (Some k) o) (by_name (Declared k) r)) (sym e)
    (settles_some g (λ k ts. ty.named k ts) k o ptys (types.made (Some (types.type_id k))) r h (λ y. refl)))

named_settles : (f g : List Span) (place : Option ℕ) (found : Option (ℕ × ℕ)) (count : ℕ) (r : Result TypeName Span) (o : Option ty.PTys) (q : Result (List ty.PTy) Span) →
    Settles f (type_named place found count) r → Settles g o (on_ok ptys q) → (count ≡ 0 → g ≡ []) → Settles (f ++ g) (named_by place found count o) (and_then r (λ m. by_name m q))
named_settles f g place found count (Err p) o q h k e = first_stays f g p h
named_settles f g None found count (Ok m) o q h k e = declared_settles f g (with_parts found count) m o q h.0 h.1 k
named_settles f g (Some n) found zero (Ok m) o q h k e =
    let is : Parameter n ≡ m = some_is (Parameter n) m h.1 in
    subst (λ (m : TypeName). Settles (f ++ g) (Some (ty.parameter n)) (by_name m q)) is (nothing f g h.0 (e refl), refl)
named_settles f g (Some n) found (suc count) (Ok m) o q h k e = absurd (not_zero (suc count == 0) count (Parameter n) m refl h.1)

no_arguments : (h : Outline) (ps : List (List ℕ)) (args : RawTypes) → length (rawtypes_list args) ≡ 0 → types_faults h ps args ≡ []
no_arguments h ps t.no_rawtypes e = refl
no_arguments h ps (t.more_rawtypes x rest) e = absurd cc

mutual
  pub type_settles : (h : Outline) (ps : List (List ℕ)) (x : RawType) → Settles (type_faults h ps x) (type_tree h ps x) (type_told h ps x)
  type_settles h ps (t.integer i) = (refl, refl)
  type_settles h ps t.boolean = (refl, refl)
  type_settles h ps t.unit = (refl, refl)
  type_settles h ps (t.product parts) =
      settles_form (types_faults h ps parts) (type_trees h ps parts) ptys (λ ts. ty.product ts) (types.made None) (types_told h ps parts) (types_settle h ps parts) (λ x. refl)
  type_settles h ps (t.named s args) =
      let count = length (rawtypes_list args) in
      named_settles (rule.type_name h ps s count) (types_faults h ps args) (place_of ps s.text) (type_of h s.text) count (nodes.type_name h ps s count) (type_trees h ps args) (types_told h ps args)
      (node.type_name h ps s count) (types_settle h ps args) (no_arguments h ps args)
  type_settles h ps (t.exit x y) =
      settles_two (type_faults h ps x) (type_faults h ps y) (λ x y. ty.exit x y) (type_tree h ps x) (type_tree h ps y) (type_told h ps x) (type_told h ps y) (type_settles h ps x) (type_settles h ps y)

  types_settle : (h : Outline) (ps : List (List ℕ)) (xs : RawTypes) → Settles (types_faults h ps xs) (type_trees h ps xs) (on_ok ptys (types_told h ps xs))
  types_settle h ps t.no_rawtypes = (refl, refl)
  types_settle h ps (t.more_rawtypes x rest) =
      let f = type_faults h ps x in
      let g = types_faults h ps rest in
      re_form (f ++ g) (both (λ y ys. ty.more_ptys y ys) (type_tree h ps x) (type_trees h ps rest)) ptys (type_told h ps x) (λ y ys. y ∷ ys) (types_told h ps rest)
      (settles_both f g (λ y ys. ty.more_ptys y ys) (type_tree h ps x) (type_trees h ps rest) (type_told h ps x) ptys (types_told h ps rest) (λ y ys. ptys (y ∷ ys))
      (type_settles h ps x) (types_settle h ps rest) (λ y ys. refl))

-- ---- atoms

mutual
  pub atom_settles : (h : Outline) (x : RawAtom) → Settles (atom_faults h x) (atom_tree h x) (atom_told h x)
  atom_settles h (a.var s) = settles_map (rule.variable s) (variable_number s) (λ k. term.var k) (nodes.variable s) (node.variable s)
  atom_settles h (a.literal s i) = settles_map (rule.number s i) (number_of s.text i) (λ n. term.literal n) (nodes.number s i) (node.number s i)
  atom_settles h (a.truth b) = (refl, refl)
  atom_settles h (a.tuple parts) =
      settles_form (atoms_faults h parts) (atom_trees h parts) terms (λ ts. term.tuple ts) (atoms.made None) (atoms_told h parts) (atoms_settle h parts) (λ x. refl)
  atom_settles h (a.built name parts) =
      let count = length (rawatoms_list parts) in
      settles_both (rule.constructor h name count) (atoms_faults h parts) (λ k ts. term.built k ts) (constructor_id h name count) (atom_trees h parts)
      (nodes.constructor h name count) terms (atoms_told h parts) (λ k xs. atoms.made (Some k) xs)
      (node.constructor h name count) (atoms_settle h parts) (λ k xs. refl)

  pub atoms_settle : (h : Outline) (xs : RawAtoms) → Settles (atoms_faults h xs) (atom_trees h xs) (on_ok terms (atoms_told h xs))
  atoms_settle h a.no_rawatoms = (refl, refl)
  atoms_settle h (a.more_rawatoms x rest) =
      let f = atom_faults h x in
      let g = atoms_faults h rest in
      re_form (f ++ g) (both (λ y ys. term.more_terms y ys) (atom_tree h x) (atom_trees h rest)) terms (atom_told h x) (λ y ys. y ∷ ys) (atoms_told h rest)
      (settles_both f g (λ y ys. term.more_terms y ys) (atom_tree h x) (atom_trees h rest) (atom_told h x) terms (atoms_told h rest) (λ y ys. terms (y ∷ ys))
      (atom_settles h x) (atoms_settle h rest) (λ y ys. refl))

listed_settle : (h : Outline) (xs : List RawAtom) → Settles (atoms_faults h (rawatoms xs)) (atoms_listed h xs) (on_ok (λ x. x) (atoms_told h (rawatoms xs)))
listed_settle h xs =
    settles_form (atoms_faults h (rawatoms xs)) (atom_trees h (rawatoms xs)) terms terms_list (λ x. x) (atoms_told h (rawatoms xs)) (atoms_settle h (rawatoms xs)) (λ x. sym (terms_back x))

-- ---- patterns and computations

variables_settle : (names : List Spelling) → Settles (variables_faults names) (variable_numbers names) (variables_told names)
variables_settle [] = (refl, refl)
variables_settle (s ∷ rest) =
    settles_two (rule.variable s) (variables_faults rest) (λ y ys. y ∷ ys) (variable_number s) (variable_numbers rest) (nodes.variable s) (variables_told rest) (node.variable s) (variables_settle rest)

pattern_settles : (h : Outline) (p : Pattern) → Settles (pattern_faults h p) (pattern_tree h p) (pattern_told h p)
pattern_settles h (P.Truth b) = (refl, refl)
pattern_settles h (P.Tuple names) = settles_map (variables_faults names) (variable_numbers names) (λ vs. pat.Tuple vs) (variables_told names) (variables_settle names)
pattern_settles h (P.Built name names) =
    let count = length names in
    settles_two (rule.constructor h name count) (variables_faults names) (λ k vs. pat.Ctor k vs) (constructor_id h name count) (variable_numbers names)
    (nodes.constructor h name count) (variables_told names) (node.constructor h name count) (variables_settle names)

computation_settles : (h : Outline) (x : Computation) → Settles (computation_faults h x) (computation_tree h x) (computation_told h x)
computation_settles h (K.Ok x) = settles_map (atom_faults h x) (atom_tree h x) (λ y. comp.Ok y) (atom_told h x) (atom_settles h x)
computation_settles h K.Fail = (refl, refl)
computation_settles h (K.Call name xs) =
    let count = length xs in
    settles_both (rule.called h name count) (atoms_faults h (rawatoms xs)) (λ d ys. comp.Call (record { 0 = d }) ys) (with_parts (definition_of h name) count) (atoms_listed h xs)
    (nodes.called h name count) (λ x. x) (atoms_told h (rawatoms xs)) (λ d ys. comp.Call (record { 0 = d }) ys) (node.called h name count) (listed_settle h xs) (λ d ys. refl)
computation_settles h (K.Primitive o xs) =
    let count = length xs in
    settles_both (rule.operation o count) (atoms_faults h (rawatoms xs)) (λ p ys. comp.Prim p ys) (with_parts (Some (o.primitive, arity o.primitive)) count) (atoms_listed h xs)
    (nodes.operation o count) (λ x. x) (atoms_told h (rawatoms xs)) (λ p ys. comp.Prim p ys) (node.operation o count) (listed_settle h xs) (λ p ys. refl)

-- ---- code

arm_settles : (q : Pat) (f g : List Span) (o : Option Code) (p : Option Arms) (r : Result Code Span) (all : Result (List (Pat × Code)) Span) →
    Settles f o r → Settles g p (on_ok arms all) → Settles (f ++ g) (both (λ y r. code.more_arms q y r) o p) (on_ok arms (and_then r (λ y. on_ok (λ r. (q, y) ∷ r) all)))
arm_settles q f g o p r all h k =
    re_form (f ++ g) (both (λ y r. code.more_arms q y r) o p) arms r (λ y r. (q, y) ∷ r) all
    (settles_both f g (λ y r. code.more_arms q y r) o p r arms all (λ y r. arms ((q, y) ∷ r)) h k (λ y r. refl))

mutual
  pub code_settles : (h : Outline) (x : RawCode) → Settles (code_faults h x) (code_tree h x) (code_told h x)
  code_settles h (c.bind v x rest) =
      settles_then (rule.variable v) (computation_faults h x ++ code_faults h rest) (variable_number v) (λ o. three (λ k y r. code.bind k y r) o (computation_tree h x) (code_tree h rest))
      (nodes.variable v) (λ k. and_then (computation_told h x) (λ y. on_ok (λ r. code.bind k y r) (code_told h rest))) (node.variable v) (λ k.
      settles_two (computation_faults h x) (code_faults h rest) (λ y r. code.bind k y r) (computation_tree h x) (code_tree h rest) (computation_told h x) (code_told h rest)
      (computation_settles h x) (code_settles h rest))
  code_settles h (c.put v x rest) =
      settles_then (rule.variable v) (atom_faults h x ++ code_faults h rest) (variable_number v) (λ o. three (λ k y r. code.put k y r) o (atom_tree h x) (code_tree h rest))
      (nodes.variable v) (λ k. and_then (atom_told h x) (λ y. on_ok (λ r. code.put k y r) (code_told h rest))) (node.variable v) (λ k.
      settles_two (atom_faults h x) (code_faults h rest) (λ y r. code.put k y r) (atom_tree h x) (code_tree h rest) (atom_told h x) (code_told h rest)
      (atom_settles h x) (code_settles h rest))
  code_settles h (c.select x all) =
      settles_both (atom_faults h x) (arms_faults h all) (λ y r. code.select y r) (atom_tree h x) (arm_trees h all) (atom_told h x) arms (arms_told h all) (λ y r. code.select y (arms r))
      (atom_settles h x) (arms_settle h all) (λ y r. refl)
  code_settles h (c.last x) = settles_map (computation_faults h x) (computation_tree h x) (λ y. code.last y) (computation_told h x) (computation_settles h x)

  arms_settle : (h : Outline) (xs : RawArms) → Settles (arms_faults h xs) (arm_trees h xs) (on_ok arms (arms_told h xs))
  arms_settle h c.no_rawarms = (refl, refl)
  arms_settle h (c.more_rawarms p x rest) =
      let f = code_faults h x in
      let g = arms_faults h rest in
      let told : Pat → Result (List (Pat × Code)) Span = λ q. and_then (code_told h x) (λ y. on_ok (λ r. (q, y) ∷ r) (arms_told h rest)) in
      subst (λ z. Settles (pattern_faults h p ++ (f ++ g)) (three (λ q y r. code.more_arms q y r) (pattern_tree h p) (code_tree h x) (arm_trees h rest)) z) (sym (on_then arms (pattern_told h p) told))
      (settles_then (pattern_faults h p) (f ++ g) (pattern_tree h p) (λ o. three (λ q y r. code.more_arms q y r) o (code_tree h x) (arm_trees h rest)) (pattern_told h p) (λ q. on_ok arms (told q))
      (pattern_settles h p)
      (λ q. arm_settles q f g (code_tree h x) (arm_trees h rest) (code_told h x) (arms_told h rest) (code_settles h x) (arms_settle h rest)))
