-- Declarations of types as they are spelled are spelled as the types that they declare.
use Rattle.std.specs.Prelude.{◌≡◌, refl, ℕ, suc, ◌==◌, ◌&&◌, List, [], ◌∷◌, ◌++◌, length, map, Some, codes, bytes_eq}
use Rattle.std.specs.List.{flat_map}
use Rattle.std.proofs.Common.{ap, sym, subst}
use Rattle.std.proofs.lemmas.Bool.{eqb-true}
use Rattle.pure_ast.specs.declared.def.Defs.{Defs}
use Rattle.pure_ast.specs.declared.def.PType.{PType}
use Rattle.pure_ast.specs.Types.{PTy}
use Rattle.text_meaning.specs.declared.mark.Mark.TheVariants.{Open, Close, OpenBrace, CloseBrace, Bar, Colon, To}
use Rattle.text_meaning.specs.Lookups.{Variant as NamedFields}
use Rattle.text_meaning.specs.Spelled.{type_parameter, implicit_parameter, named_field, plain_field, variant_tokens, type_declaration}
use Rattle.text_meaning.specs.Tokens.{id}
use Rattle.text_syntax.specs.Among.{and_left, and_right}
use Rattle.raw_ast.specs.declared.declarations.Declaration.{Declaration}
use Rattle.raw_ast.specs.declared.declarations.Members.{Members}
use Rattle.raw_ast.specs.declared.declarations.Members.TheVariants as M
use Rattle.raw_ast.specs.declared.declarations.Variant.{Variant}
use Rattle.raw_ast.specs.declared.spelling.Spelling.{Spelling}
use Rattle.raw_ast.specs.Types.{RawType}
use Rattle.raw_meaning.specs.declared.outline.Outline.{Outline}
use Rattle.raw_meaning.specs.Faults.{texts, type_faults, variant_faults, variants_faults, members_faults, parameters_faults, declaration_faults, declarations_faults}
use Rattle.raw_meaning.specs.Heads.{declared_by}
use Rattle.raw_meaning.specs.LookupLemmas.{same_bytes}
use Rattle.raw_meaning.specs.OptionLemmas.{some_so, mapped_made, both_made, none_left, none_right, unbroken}
use Rattle.raw_meaning.specs.Rules.{unless, variant_end, end_names, new_type, new_member}
use Rattle.raw_meaning.specs.Trees.{each, type_tree, numbered_fields, variant_tree, field_tree, members_trees, is_structure, declaration_tree}
use Rattle.raw_meaning.specs.Wants as w
use Rattle.raw_meaning.specs.Wants.{Wants, says, marks, type_wants, type_parameters_wants, plain_fields_wants, variants_wants, fields_wants, declaration_wants, declarations_wants}
use Rattle.raw_soundness.specs.Spells.{Spells, over, next, seq}
use Rattle.raw_soundness.specs.TypesSpelled.{type_spelled}

-- ---- names

pub parameters_spelled : (ss : List Spelling) (rest : Wants) → Spells (type_parameters_wants Open Close ss rest) rest (flat_map type_parameter (texts ss))
parameters_spelled [] rest = over
parameters_spelled (s ∷ ss) rest = next refl (next refl (next refl (next refl (next refl (parameters_spelled ss rest)))))

pub implicit_spelled : (ss : List Spelling) (rest : Wants) → Spells (type_parameters_wants OpenBrace CloseBrace ss rest) rest (flat_map implicit_parameter (texts ss))
implicit_spelled [] rest = over
implicit_spelled (s ∷ ss) rest = next refl (next refl (next refl (next refl (next refl (implicit_spelled ss rest)))))

names_spelled : (ss : List Spelling) (rest : Wants) → Spells (w.names ss rest) rest (map id (texts ss))
names_spelled [] rest = over
names_spelled (s ∷ ss) rest = next refl (names_spelled ss rest)

-- the names at a variant's end are those of the type parameters
same_names : (ps : List (List ℕ)) (ss : List Spelling) → length ss ≡ length ps → end_names ps ss ≡ [] → texts ss ≡ ps
same_names [] [] n e = refl
same_names [] (s ∷ ss) n e = absurd cc
same_names (p ∷ ps) [] n e = absurd cc
same_names (p ∷ ps) (s ∷ ss) n e =
    let first = unbroken (bytes_eq p s.text) s.span (none_left (unless (bytes_eq p s.text) s.span) (end_names ps ss) e) in
    let m : length ss ≡ length ps = cc in
    λ i. sym (same_bytes p s.text first) i ∷ same_names ps ss m (none_right (unless (bytes_eq p s.text) s.span) (end_names ps ss) e) i

-- a variant's end is its type's name and its type parameters
pub record IsEnd (name : List ℕ) (ps : List (List ℕ)) (v : Variant) : Type 0 where
  pub end : v.end.text ≡ name
  pub names : texts v.parameters ≡ ps

end_by : (name : List ℕ) (ps : List (List ℕ)) (v : Variant) → variant_end name ps v.end v.parameters ++ end_names ps v.parameters ≡ [] → IsEnd name ps v
end_by name ps v e =
    let t = unbroken (bytes_eq v.end.text name && (length v.parameters == length ps)) v.end.span (none_left (variant_end name ps v.end v.parameters) (end_names ps v.parameters) e) in
    record {
      end = same_bytes v.end.text name (and_left (bytes_eq v.end.text name) (length v.parameters == length ps) t);
      names = same_names ps v.parameters (eqb-true (length v.parameters) (length ps) (and_right (bytes_eq v.end.text name) (length v.parameters == length ps) t))
          (none_right (variant_end name ps v.end v.parameters) (end_names ps v.parameters) e);
    }

module _ (h : Outline) (d : Defs) (same : declared_by d ≡ h) where
  variant_ends : (name : List ℕ) (ps : List (List ℕ)) (v : Variant) → variant_faults h name ps v ≡ [] → IsEnd name ps v
  variant_ends name ps v e =
      end_by name ps v (none_right (flat_map (type_faults h ps) v.fields) (variant_end name ps v.end v.parameters ++ end_names ps v.parameters) e)

  -- ---- fields

  plain_spelled : (ps : List (List ℕ)) (k : ℕ) (xs : List RawType) (ts : List PTy) (rest : Wants) → each (type_tree h ps) xs ≡ Some ts →
      Spells (plain_fields_wants xs rest) rest (flat_map (plain_field d ps) (numbered_fields k ts))
  plain_spelled ps k [] ts rest e = some_so (λ ts. Spells rest rest (flat_map (plain_field d ps) (numbered_fields k ts))) [] ts e over
  plain_spelled ps k (x ∷ xs) ts rest e =
      let m = both_made (λ y ys. y ∷ ys) (type_tree h ps x) (each (type_tree h ps) xs) ts e in
      let more = plain_fields_wants xs rest in
      subst (λ ts. Spells (plain_fields_wants (x ∷ xs) rest) rest (flat_map (plain_field d ps) (numbered_fields k ts))) m.is
      (seq (seq (type_spelled h d same ps x m.first (marks To more) m.is_first) (next refl over)) (plain_spelled ps (suc k) xs m.second rest m.is_second))

  fields_spelled : (ps : List (List ℕ)) (fs : List (Spelling × RawType)) (xs : List (List ℕ × PTy)) (rest : Wants) → each (field_tree h ps) fs ≡ Some xs →
      Spells (fields_wants fs rest) rest (flat_map (named_field d ps) xs)
  fields_spelled ps [] xs rest e = some_so (λ xs. Spells rest rest (flat_map (named_field d ps) xs)) [] xs e over
  fields_spelled ps (f ∷ fs) xs rest e =
      let m = both_made (λ y ys. y ∷ ys) (field_tree h ps f) (each (field_tree h ps) fs) xs e in
      let q = mapped_made (λ (x : PTy). (f.0.text, x)) (type_tree h ps f.1) m.first m.is_first in
      let more = fields_wants fs rest in
      subst (λ xs. Spells (fields_wants (f ∷ fs) rest) rest (flat_map (named_field d ps) xs)) m.is
      (subst (λ (x : List ℕ × PTy). Spells (fields_wants (f ∷ fs) rest) rest (flat_map (named_field d ps) (x ∷ m.second))) q.2
      (next refl (next refl (next refl (seq (seq (type_spelled h d same ps f.1 q.0 (marks Close more) q.1) (next refl over)) (fields_spelled ps fs m.second rest m.is_second))))))

  -- ---- variants

  variant_spelled : (t : PType) (v : Variant) (x : NamedFields) (rest : Wants) → IsEnd t.name t.params v → variant_tree h t.params v ≡ Some x →
      Spells (marks Bar (w.name v.name.text ∷ marks Colon (plain_fields_wants v.fields (w.name v.end.text ∷ w.names v.parameters rest)))) rest (variant_tokens d t x)
  variant_spelled t v x rest g e =
      let m = mapped_made (λ (xs : List PTy). (v.name.text, numbered_fields 0 xs)) (each (type_tree h t.params) v.fields) x e in
      let more = w.name v.end.text ∷ w.names v.parameters rest in
      let wanted = marks Bar (w.name v.name.text ∷ marks Colon (plain_fields_wants v.fields more)) in
      subst (λ (x : NamedFields). Spells wanted rest (variant_tokens d t x)) m.2
      (next refl (next refl (next refl (seq (plain_spelled t.params 0 v.fields m.0 more m.1)
      (next (ap id (sym g.end)) (subst (λ (ns : List (List ℕ)). Spells (w.names v.parameters rest) rest (map id ns)) g.names (names_spelled v.parameters rest)))))))

  variants_spelled : (t : PType) (before : List (List ℕ)) (vs : List Variant) (xs : List NamedFields) (rest : Wants) → variants_faults h t.name t.params before vs ≡ [] →
      each (variant_tree h t.params) vs ≡ Some xs → Spells (variants_wants vs rest) rest (flat_map (variant_tokens d t) xs)
  variants_spelled t before [] xs rest g e = some_so (λ xs. Spells rest rest (flat_map (variant_tokens d t) xs)) [] xs e over
  variants_spelled t before (v ∷ vs) xs rest g e =
      let m = both_made (λ y ys. y ∷ ys) (variant_tree h t.params v) (each (variant_tree h t.params) vs) xs e in
      let later = variants_faults h t.name t.params (before ++ v.name.text ∷ []) vs in
      let here = none_right (new_member before v.name) (variant_faults h t.name t.params v ++ later) g in
      let ends = variant_ends t.name t.params v (none_left (variant_faults h t.name t.params v) later here) in
      subst (λ xs. Spells (variants_wants (v ∷ vs) rest) rest (flat_map (variant_tokens d t) xs)) m.is
      (seq (variant_spelled t v m.first (variants_wants vs rest) ends m.is_first)
      (variants_spelled t (before ++ v.name.text ∷ []) vs m.second rest (none_right (variant_faults h t.name t.params v) later here) m.is_second))

  -- ---- declarations

  abbrev made_type : Spelling → List Spelling → Members → List NamedFields → PType
  made_type s ps m vs = record { name = s.text; is_struct = is_structure m; params = texts ps; variants = vs }

  members_spelled : (s : Spelling) (ps : List Spelling) (m : Members) (vs : List NamedFields) (rest : Wants) → members_faults h s.text (texts ps) m ≡ [] →
      members_trees h (texts ps) m ≡ Some vs → Spells (declaration_wants (record { name = s; parameters = ps; members = m }) rest) rest (type_declaration d (made_type s ps m vs))
  members_spelled s ps (M.Variants variants) vs rest g e =
      next refl (next refl (seq (parameters_spelled ps (says (codes "where") (variants_wants variants rest)))
      (next refl (variants_spelled (made_type s ps (M.Variants variants) vs) [] variants vs rest g e))))
  members_spelled s ps (M.Fields fields) vs rest g e =
      let m = mapped_made (λ (xs : List (List ℕ × PTy)). (codes "mk", xs) ∷ []) (each (field_tree h (texts ps)) fields) vs e in
      subst (λ (vs : List NamedFields). Spells (declaration_wants (record { name = s; parameters = ps; members = M.Fields fields }) rest) rest (type_declaration d (made_type s ps (M.Fields fields) vs))) m.2
      (next refl (next refl (seq (parameters_spelled ps (says (codes "where") (fields_wants fields rest))) (next refl (fields_spelled (texts ps) fields m.0 rest m.1)))))

  declaration_spelled : (types parameters : List (List ℕ)) (x : Declaration) (t : PType) (rest : Wants) → declaration_faults h types parameters x ≡ [] → declaration_tree h x ≡ Some t →
      Spells (declaration_wants x rest) rest (type_declaration d t)
  declaration_spelled types parameters x t rest g e =
      let m = mapped_made (made_type x.name x.parameters x.members) (members_trees h (texts x.parameters) x.members) t e in
      let named = parameters_faults (types ++ x.name.text ∷ []) [] x.parameters in
      let inside = members_faults h x.name.text (texts x.parameters) x.members in
      subst (λ (t : PType). Spells (declaration_wants x rest) rest (type_declaration d t)) m.2
      (members_spelled x.name x.parameters x.members m.0 rest (none_right named inside (none_right (new_type types parameters x.name) (named ++ inside) g)) m.1)

  pub declarations_spelled : (types parameters : List (List ℕ)) (xs : List Declaration) (ts : List PType) (rest : Wants) → declarations_faults h types parameters xs ≡ [] →
      each (declaration_tree h) xs ≡ Some ts → Spells (declarations_wants xs rest) rest (flat_map (type_declaration d) ts)
  declarations_spelled types parameters [] ts rest g e = some_so (λ ts. Spells rest rest (flat_map (type_declaration d) ts)) [] ts e over
  declarations_spelled types parameters (x ∷ xs) ts rest g e =
      let m = both_made (λ y ys. y ∷ ys) (declaration_tree h x) (each (declaration_tree h) xs) ts e in
      let first = declaration_faults h types parameters x in
      let later = declarations_faults h (types ++ x.name.text ∷ []) (parameters ++ texts x.parameters) xs in
      subst (λ ts. Spells (declarations_wants (x ∷ xs) rest) rest (flat_map (type_declaration d) ts)) m.is
      (seq (declaration_spelled types parameters x m.first (declarations_wants xs rest) (none_left first later g) m.is_first)
      (declarations_spelled (types ++ x.name.text ∷ []) (parameters ++ texts x.parameters) xs m.second rest (none_right first later g) m.is_second))
