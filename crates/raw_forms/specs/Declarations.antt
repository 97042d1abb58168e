-- Declarations of types in which no rule is broken are well-formed.
use Rattle.std.proofs.Common.{◌≡◌, refl, ap, sym, subst, ◌∙◌, ℕ, List, [], ◌∷◌, ◌++◌, append_assoc, append-nil}
use Rattle.std.specs.Option.{option_map}
use Rattle.pure_ast.specs.declared.def.Defs.{Defs}
use Rattle.pure_ast.specs.declared.def.PType.{PType}
use Rattle.text_meaning.specs.Lists.{Each, Differ}
use Rattle.text_meaning.specs.Lookups.{Variant as NamedFields}
use Rattle.text_meaning.specs.Names.{IsName}
use Rattle.text_meaning.specs.WellFormedTypes.{AreNames, AreTypeParameters, IsDeclaration, type_names as names_in}
use Rattle.raw_ast.specs.declared.declarations.Declaration.{Declaration}
use Rattle.raw_ast.specs.declared.spelling.Spelling.{Spelling}
use Rattle.raw_meaning.specs.declared.outline.Outline.{Outline}
use Rattle.raw_meaning.specs.Faults.{texts, parameters_faults, members_faults, declaration_faults, declarations_faults, type_names}
use Rattle.raw_meaning.specs.Heads.{declared_by}
use Rattle.raw_meaning.specs.Named.{IsNamed, IsNamedDeclaration}
use Rattle.raw_meaning.specs.OptionLemmas.{none_left, none_right}
use Rattle.raw_meaning.specs.Rules as rule
use Rattle.raw_meaning.specs.Shape.{IsShapedDeclaration}
use Rattle.raw_meaning.specs.Trees.{both, each, is_structure, declaration_tree}
use Rattle.raw_forms.specs.Formed.{IsFormed, TypesAreFormed}
use Rattle.raw_forms.specs.Differences.{IsNew, differ_next, new_name}
use Rattle.raw_forms.specs.Lists.{each_join, each_front, each_back, each_so, each_with, each_swap, each_mapped}
use Rattle.raw_forms.specs.Members.{members_formed}

-- no item is this one, the other way round
abbrev pub IsApart : List (List ℕ) → List ℕ → Type 0
IsApart ns p = Each (λ n. p ≡ n → ⊥) ns

-- ---- type parameters

pub parameters_differ : (types before : List (List ℕ)) (ss : List Spelling) → Differ before → parameters_faults types before ss ≡ [] → Differ (before ++ texts ss)
parameters_differ types before [] g e = subst Differ (sym (append-nil before)) g
parameters_differ types before (s ∷ ss) g e =
    let seen = before ++ s.text ∷ [] in
    let first = rule.new_parameter types before s in
    let later = parameters_faults types seen ss in
    differ_next before s.text (texts ss) g (new_name types before s (none_left first later e)).1 (λ g. parameters_differ types seen ss g (none_right first later e))

pub parameters_apart : (types before : List (List ℕ)) (ss : List Spelling) → parameters_faults types before ss ≡ [] → Each (IsApart types) (texts ss)
parameters_apart types before [] e = tt
parameters_apart types before (s ∷ ss) e =
    let seen = before ++ s.text ∷ [] in
    let first = rule.new_parameter types before s in
    let later = parameters_faults types seen ss in (
      each_so (λ m. m ≡ s.text → ⊥) (λ m. s.text ≡ m → ⊥) (λ m f q. f (sym q)) types (new_name types before s (none_left first later e)).0,
      parameters_apart types seen ss (none_right first later e),
    )

pub parameters_named : (types : List (List ℕ)) (ss : List Spelling) → Each IsNamed ss → parameters_faults types [] ss ≡ [] → AreNames (texts ss)
parameters_named types ss n e = (each_mapped IsName (λ (s : Spelling). s.text) ss n, parameters_differ types [] ss tt e)

-- ---- declarations

abbrev name_of : Declaration → List ℕ
name_of d = d.name.text

-- the parts of no fault
record IsUnbroken (h : Outline) (types others : List (List ℕ)) (d : Declaration) : Type 0 where
  pub name : rule.new_type types others d.name ≡ []
  pub parameters : parameters_faults (types ++ d.name.text ∷ []) [] d.parameters ≡ []
  pub members : members_faults h d.name.text (texts d.parameters) d.members ≡ []

unbroken_parts : (h : Outline) (types parameters : List (List ℕ)) (d : Declaration) → declaration_faults h types parameters d ≡ [] → IsUnbroken h types parameters d
unbroken_parts h types parameters d e =
    let one = rule.new_type types parameters d.name in
    let two = parameters_faults (types ++ d.name.text ∷ []) [] d.parameters in
    let three = members_faults h d.name.text (texts d.parameters) d.members in
    let later = none_right one (two ++ three) e in
    record { name = none_left one (two ++ three) e; parameters = none_left two three later; members = none_right two three later }

-- a declaration whose parameters have no type's name
record IsClear (h : Outline) (names : List (List ℕ)) (d : Declaration) : Type 0 where
  pub named : AreNames (texts d.parameters)
  pub apart : Each (IsApart names) (texts d.parameters)
  pub members : members_faults h d.name.text (texts d.parameters) d.members ≡ []

module _ (h : Outline) where
  pub types_differ : (types parameters : List (List ℕ)) (ds : List Declaration) → Differ types → declarations_faults h types parameters ds ≡ [] → Differ (types ++ type_names ds)
  types_differ types parameters [] g e = subst Differ (sym (append-nil types)) g
  types_differ types parameters (d ∷ ds) g e =
      let here = declaration_faults h types parameters d in
      let later = declarations_faults h (types ++ d.name.text ∷ []) (parameters ++ texts d.parameters) ds in
      let first = unbroken_parts h types parameters d (none_left here later e) in
      differ_next types d.name.text (type_names ds) g (new_name types parameters d.name first.name).0
      (λ g. types_differ (types ++ d.name.text ∷ []) (parameters ++ texts d.parameters) ds g (none_right here later e))

  -- a type that comes later has the name of no type parameter before
  later_new : (types parameters : List (List ℕ)) (ds : List Declaration) → declarations_faults h types parameters ds ≡ [] → Each (λ n. IsNew n parameters) (type_names ds)
  later_new types parameters [] e = tt
  later_new types parameters (d ∷ ds) e =
      let here = declaration_faults h types parameters d in
      let later = declarations_faults h (types ++ d.name.text ∷ []) (parameters ++ texts d.parameters) ds in
      let first = unbroken_parts h types parameters d (none_left here later e) in
      let rest = later_new (types ++ d.name.text ∷ []) (parameters ++ texts d.parameters) ds (none_right here later e) in (
        (new_name types parameters d.name first.name).1,
        each_so (λ n. IsNew n (parameters ++ texts d.parameters)) (λ n. IsNew n parameters) (λ n r. each_front (λ p. p ≡ n → ⊥) parameters (texts d.parameters) r) (type_names ds) rest,
      )

  clear : (types parameters names : List (List ℕ)) (d : Declaration) (ds : List Declaration) → (types ++ d.name.text ∷ []) ++ type_names ds ≡ names → IsNamedDeclaration d → IsUnbroken h types parameters d →
      Each (λ n. IsNew n (parameters ++ texts d.parameters)) (type_names ds) → IsClear h names d
  clear types parameters names d ds split n u later =
      let ps = texts d.parameters in
      let seen = types ++ d.name.text ∷ [] in
      let after = each_so (λ n. IsNew n (parameters ++ ps)) (λ n. IsNew n ps) (λ n r. each_back (λ p. p ≡ n → ⊥) parameters ps r) (type_names ds) later in
      let second : Each (IsApart (type_names ds)) ps = each_swap (λ (n p : List ℕ). p ≡ n → ⊥) (type_names ds) ps after in
      let first = parameters_apart seen [] d.parameters u.parameters in
      record {
        named = parameters_named seen d.parameters n.parameters u.parameters;
        apart = each_with (IsApart seen) (IsApart (type_names ds)) (IsApart names)
            (λ p f g. subst (Each (λ n. p ≡ n → ⊥)) split (each_join (λ n. p ≡ n → ⊥) seen (type_names ds) f g)) ps first second;
        members = u.members;
      }

  all_clear : (types parameters names : List (List ℕ)) (ds : List Declaration) → types ++ type_names ds ≡ names → Each IsNamedDeclaration ds → declarations_faults h types parameters ds ≡ [] → Each (IsClear h names) ds
  all_clear types parameters names [] split n e = tt
  all_clear types parameters names (d ∷ ds) split n e =
      let here = declaration_faults h types parameters d in
      let seen = types ++ d.name.text ∷ [] in
      let later = declarations_faults h seen (parameters ++ texts d.parameters) ds in
      let none = none_right here later e in
      let next = append_assoc types (d.name.text ∷ []) (type_names ds) ∙ split in (
        clear types parameters names d ds next n.0 (unbroken_parts h types parameters d (none_left here later e)) (later_new seen (parameters ++ texts d.parameters) ds none),
        all_clear seen (parameters ++ texts d.parameters) names ds next n.1 none,
      )

  module _ (typed : TypesAreFormed) (names : List (List ℕ)) (known : (d : Defs) → declared_by d ≡ h → names_in d ≡ names) where
    pub parameters_fit : (ps : List (List ℕ)) (d : Defs) → declared_by d ≡ h → AreNames ps → Each (IsApart names) ps → AreTypeParameters d ps
    parameters_fit ps d same n a = (n, subst (λ names. Each (IsApart names) ps) (sym (known d same)) a)

    declaration_formed : (d : Declaration) → IsShapedDeclaration d → IsNamedDeclaration d → IsClear h names d → IsFormed h IsDeclaration (declaration_tree h d)
    declaration_formed d s n c =
        let ps = texts d.parameters in
        let make : List NamedFields → PType = λ vs. record { name = d.name.text; is_struct = is_structure d.members; params = ps; variants = vs } in
        let r = members_formed typed h ps d.name.text d.members s n.members c.members in
        record {
          tree = make r.tree;
          is = ap (option_map make) r.is;
          fits = λ e same. record { params = parameters_fit ps e same c.named c.apart; variants = (r.fits e same).0; fields = (r.fits e same).1 };
        }

    each_declaration : (ds : List Declaration) → Each IsShapedDeclaration ds → Each IsNamedDeclaration ds → Each (IsClear h names) ds → IsFormed h (λ e ts. Each (IsDeclaration e) ts) (each (declaration_tree h) ds)
    each_declaration [] s n c = record { tree = []; is = refl; fits = λ e same. tt }
    each_declaration (d ∷ ds) s n c =
        let first = declaration_formed d s.0 n.0 c.0 in
        let rest = each_declaration ds s.1 n.1 c.1 in
        record {
          tree = first.tree ∷ rest.tree;
          is = λ i. both (λ y ys. y ∷ ys) (first.is i) (rest.is i);
          fits = λ e same. (first.fits e same, rest.fits e same);
        }

    pub declarations_formed : (ds : List Declaration) → type_names ds ≡ names → Each IsShapedDeclaration ds → Each IsNamedDeclaration ds → declarations_faults h [] [] ds ≡ [] →
        IsFormed h (λ e ts. Each (IsDeclaration e) ts) (each (declaration_tree h) ds)
    declarations_formed ds split s n e = each_declaration ds s n (all_clear [] [] names ds split n e)
