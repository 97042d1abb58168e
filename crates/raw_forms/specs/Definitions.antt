-- Definitions in which no rule is broken are well-formed.
use Rattle.std.proofs.Common.{◌≡◌, refl, ap, sym, subst, ◌∙◌, ℕ, suc, ◌+◌, ◌^◌, ◌<◌, ◌≤◌, true, List, [], ◌∷◌, ◌++◌, length, Option, Some, None, eqb-true, arith}
use Rattle.std.specs.Prelude.{codes, is_some}
use Rattle.std.specs.Option.{option_map}
use Rattle.pure_ast.specs.declared.def.DefKind.{DefKind}
use Rattle.pure_ast.specs.declared.def.DefKind.TheVariants as K
use Rattle.pure_ast.specs.declared.def.Defs.{Defs}
use Rattle.pure_ast.specs.Types.{PTy}
use Rattle.text_meaning.specs.Lists.{Each}
use Rattle.text_meaning.specs.Ranges.{IsSmall}
use Rattle.text_meaning.specs.WellFormed.{IsKind, IsDefinition}
use Rattle.text_meaning.specs.WellFormedTypes.{type_names as names_in}
use Rattle.raw_ast.specs.declared.declarations.Definition.{Definition}
use Rattle.raw_ast.specs.declared.names.DefinitionName.{DefinitionName}
use Rattle.raw_ast.specs.declared.spelling.Spelling.{Spelling}
use Rattle.raw_ast.specs.Types.{RawType}
use Rattle.raw_meaning.specs.declared.outline.Outline.{Outline}
use Rattle.raw_meaning.specs.Faults.{texts, type_faults, code_faults, parameters_faults, values_faults, definition_faults, and_kind, definitions_faults}
use Rattle.raw_meaning.specs.Heads.{declared_by}
use Rattle.raw_meaning.specs.Named.{IsNamedDefinition}
use Rattle.raw_meaning.specs.Numbers as numbers
use Rattle.raw_meaning.specs.OptionLemmas.{none_left, none_right, unbroken}
use Rattle.raw_meaning.specs.Outlines.{place_of, is_in, part_number, kind_by, kind_of}
use Rattle.raw_meaning.specs.Rules as rule
use Rattle.raw_meaning.specs.Shape.{AreShapedFields, IsShapedDefinition}
use Rattle.raw_meaning.specs.Trees.{both, four, each, defined, parameter_types, definition_tree}
use Rattle.raw_forms.specs.Formed.{IsFormed, IsTypeWith, TypesAreFormed, CodesAreFormed}
use Rattle.raw_forms.specs.Declarations.{parameters_fit, parameters_named, parameters_apart}
use Rattle.raw_forms.specs.Numbers.{numbered_small}
use Rattle.raw_forms.specs.Options.{some_is}

-- ---- kinds

abbrev IsSmallPart : Option ℕ → Type 0
IsSmallPart None = Unit {0}
IsSmallPart (Some k) = IsSmall k

part_made : (prefix : List ℕ) (o : Option Spelling) → rule.name_number prefix o ≡ [] → (k : Option ℕ) × (part_number prefix o ≡ Some k) × IsSmallPart k
part_made prefix None e = (None, refl, tt)
part_made prefix (Some s) e =
    let n = some_is (numbers.numbered prefix s.text) (unbroken (is_some (numbers.numbered prefix s.text)) s.span e) in
    (Some n.0, ap (option_map (λ k. Some k)) n.1, numbered_small prefix s.text n.0 n.1)

kind_with : (j : ℕ) (t b : Option ℕ) → IsSmallPart t → IsSmallPart b → (kind : DefKind) × (kind_by (Some j) (Some t) (Some b) ≡ Some kind) × IsKind kind
kind_with j None None p q = (K.Forward (record { 0 = j }), refl, tt)
kind_with j None (Some r) p q = (K.Back (record { 0 = j }) (record { 0 = r }), refl, q)
kind_with j (Some k) None p q = (K.Loop (record { 0 = j }) (record { 0 = k }), refl, p)
kind_with j (Some k) (Some c) p q = (K.LoopBack (record { 0 = j }) (record { 0 = k }) c, refl, (p, q))

-- what a definition is for
pub kind_made : (fs : List (List ℕ)) (n : DefinitionName) → is_in n.function.text fs ≡ true → rule.name_numbers n ≡ [] → (kind : DefKind) × (kind_of fs n ≡ Some kind) × IsKind kind
kind_made fs n known e =
    let loops = rule.name_number (codes "loop") n.turn in
    let backs = rule.name_number (codes "back") n.back in
    let f = some_is (place_of fs n.function.text) known in
    let t = part_made (codes "loop") n.turn (none_left loops backs e) in
    let b = part_made (codes "back") n.back (none_right loops backs e) in
    let k = kind_with f.0 t.0 b.0 t.2 b.2 in
    let same : kind_of fs n ≡ kind_by (Some f.0) (Some t.0) (Some b.0) = λ i. kind_by (f.1 i) (t.1 i) (b.1 i) in
    (k.0, same ∙ k.1, k.2)

-- ---- parameters

abbrev pub AreParameters : List (List ℕ) → ℕ → Defs → List PTy → Type 0
AreParameters ps count d ts = (length ts ≡ count) × Each (IsTypeWith ps d) ts

is_the_number : (o : Option ℕ) (k : ℕ) → rule.is_number o k ≡ true → o ≡ Some k
is_the_number None k h = absurd cc
is_the_number (Some n) k h = ap (λ n. Some n) (eqb-true n k h)

parameter_small : (k : ℕ) (s : Spelling) → rule.parameter k s ≡ [] → IsSmall k
parameter_small k s e =
    let v = numbers.numbered (codes "v") s.text in
    numbered_small (codes "v") s.text k (is_the_number v k (unbroken (rule.is_number v k) s.span e))

one_more : (k n limit : ℕ) → k < limit → (suc k ≤ limit → suc k + n ≤ limit) → k + suc n ≤ limit
one_more k n limit h f = let l : suc k ≤ limit = omega arith in let r = f l in omega arith

from_none : (n limit : ℕ) → 0 + n ≤ limit → n ≤ limit
from_none n limit h = omega arith

module _ (typed : TypesAreFormed) (h : Outline) (ps : List (List ℕ)) where
  -- parameter k is the variable k
  values_counted : (k : ℕ) (xs : List (Spelling × RawType)) → k ≤ 2 ^ 32 → values_faults h ps k xs ≡ [] → k + length xs ≤ 2 ^ 32
  values_counted k [] l e = subst (λ n. n ≤ 2 ^ 32) (omega arith) l
  values_counted k (p ∷ xs) l e =
      let one = rule.parameter k p.0 in
      let two = type_faults h ps p.1 in
      let three = values_faults h ps (suc k) xs in
      let later = none_right two three (none_right one (two ++ three) e) in
      one_more k (length xs) (2 ^ 32) (parameter_small k p.0 (none_left one (two ++ three) e)) (λ m. values_counted (suc k) xs m later)

  values_formed : (k : ℕ) (xs : List (Spelling × RawType)) → AreShapedFields xs → values_faults h ps k xs ≡ [] → IsFormed h (AreParameters ps (length xs)) (parameter_types h ps xs)
  values_formed k [] s e = record { tree = []; is = refl; fits = λ d same. (refl, tt) }
  values_formed k (p ∷ xs) s e =
      let one = rule.parameter k p.0 in
      let two = type_faults h ps p.1 in
      let three = values_faults h ps (suc k) xs in
      let none = none_right one (two ++ three) e in
      let first = typed h ps p.1 s.0 (none_left two three none) in
      let rest = values_formed (suc k) xs s.1 (none_right two three none) in
      record {
        tree = first.tree ∷ rest.tree;
        is = λ i. both (λ y ys. y ∷ ys) (first.is i) (rest.is i);
        fits = λ d same. let r = rest.fits d same in (ap (λ n. suc n) r.0, (first.fits d same, r.1));
      }

-- ---- definitions

-- the parts of no fault
pub record IsUnbroken (h : Outline) (types : List (List ℕ)) (kinds : List DefKind) (d : Definition) : Type 0 where
  pub name : rule.new_definition h.functions kinds d.name ≡ []
  pub type_parameters : parameters_faults types [] d.type_parameters ≡ []
  pub parameters : values_faults h (texts d.type_parameters) 0 d.parameters ≡ []
  pub result : type_faults h (texts d.type_parameters) d.result ≡ []
  pub code : code_faults h d.code ≡ []

pub unbroken_parts : (h : Outline) (types : List (List ℕ)) (kinds : List DefKind) (d : Definition) → definition_faults h types kinds d ≡ [] → IsUnbroken h types kinds d
unbroken_parts h types kinds d e =
    let ps = texts d.type_parameters in
    let one = rule.new_definition h.functions kinds d.name in
    let two = parameters_faults types [] d.type_parameters in
    let three = values_faults h ps 0 d.parameters in
    let last = type_faults h ps d.result in
    let body = code_faults h d.code in
    let second = none_right one (two ++ (three ++ (last ++ body))) e in
    let third = none_right two (three ++ (last ++ body)) second in
    let fourth = none_right three (last ++ body) third in
    record {
      name = none_left one (two ++ (three ++ (last ++ body))) e;
      type_parameters = none_left two (three ++ (last ++ body)) second;
      parameters = none_left three (last ++ body) third;
      result = none_left last body fourth;
      code = none_right last body fourth;
    }

-- a definition's function is among the functions
abbrev pub IsKnownBy : Outline → Definition → Type 0
IsKnownBy h d = is_in d.name.function.text h.functions ≡ true

-- a definition is for something
abbrev pub HasKind : List (List ℕ) → Definition → Type 0
HasKind fs d = (kind : DefKind) × (kind_of fs d.name ≡ Some kind)

pub each_kind : (h : Outline) (types : List (List ℕ)) (kinds : List DefKind) (ds : List Definition) → Each (IsKnownBy h) ds → definitions_faults h types kinds ds ≡ [] → Each (HasKind h.functions) ds
each_kind h types kinds [] f e = tt
each_kind h types kinds (d ∷ ds) f e =
    let kind = kind_of h.functions d.name in
    let here = definition_faults h types kinds d in
    let later = definitions_faults h types (and_kind kinds kind) ds in
    let u = unbroken_parts h types kinds d (none_left here later e) in
    let k = kind_made h.functions d.name f.0 (none_left (rule.name_numbers d.name) (rule.once kind kinds (rule.last_place d.name)) u.name) in
    ((k.0, k.1), each_kind h types (and_kind kinds kind) ds f.1 (none_right here later e))

module _ (h : Outline) (typed : TypesAreFormed) (coded : CodesAreFormed) (names : List (List ℕ)) (known : (d : Defs) → declared_by d ≡ h → names_in d ≡ names) where
  definition_formed : (kinds : List DefKind) (d : Definition) → IsShapedDefinition d → IsNamedDefinition d → IsKnownBy h d → IsUnbroken h names kinds d → IsFormed h IsDefinition (definition_tree h d)
  definition_formed kinds d s n f u =
      let ps = texts d.type_parameters in
      let k = kind_made h.functions d.name f (none_left (rule.name_numbers d.name) (rule.once (kind_of h.functions d.name) kinds (rule.last_place d.name)) u.name) in
      let xs = values_formed typed h ps 0 d.parameters s.parameters u.parameters in
      let r = typed h ps d.result s.result u.result in
      let b = coded h d.code s.code u.code in
      let counted = from_none (length d.parameters) (2 ^ 32) (values_counted typed h ps 0 d.parameters (omega arith) u.parameters) in
      record {
        tree = defined k.0 ps xs.tree r.tree b.tree;
        is = λ i. four (λ kind xs r b. defined kind ps xs r b) (k.1 i) (xs.is i) (r.is i) (b.is i);
        fits = λ e same. record {
          kind = k.2;
          type_params = parameters_fit h typed names known ps e same (parameters_named names d.type_parameters n.type_parameters u.type_parameters)
              (parameters_apart names [] d.type_parameters u.type_parameters);
          count = subst (λ n. n ≤ 2 ^ 32) (sym (xs.fits e same).0) counted;
          params = (xs.fits e same).1;
          result = r.fits e same;
          code = b.fits e same;
        };
      }

  pub definitions_formed : (kinds : List DefKind) (ds : List Definition) → Each IsShapedDefinition ds → Each IsNamedDefinition ds → Each (IsKnownBy h) ds → definitions_faults h names kinds ds ≡ [] →
      IsFormed h (λ e xs. Each (IsDefinition e) xs) (each (definition_tree h) ds)
  definitions_formed kinds [] s n f e = record { tree = []; is = refl; fits = λ e same. tt }
  definitions_formed kinds (d ∷ ds) s n f e =
      let here = definition_faults h names kinds d in
      let now = and_kind kinds (kind_of h.functions d.name) in
      let later = definitions_faults h names now ds in
      let first = definition_formed kinds d s.0 n.0 f.0 (unbroken_parts h names kinds d (none_left here later e)) in
      let rest = definitions_formed now ds s.1 n.1 f.1 (none_right here later e) in
      record {
        tree = first.tree ∷ rest.tree;
        is = λ i. both (λ y ys. y ∷ ys) (first.is i) (rest.is i);
        fits = λ e same. (first.fits e same, rest.fits e same);
      }
