-- Definitions as they are spelled are spelled as the definitions that they stand for.
use Rattle.std.specs.Prelude.{◌≡◌, refl, ℕ, suc, true, List, [], ◌∷◌, ◌++◌, Option, Some, None, codes}
use Rattle.std.specs.List.{flat_map}
use Rattle.std.proofs.Common.{ap, sym, ◌∙◌, subst}
use Rattle.std.proofs.lemmas.Bool.{eqb-true}
use Rattle.pure_ast.specs.declared.def.Def.{Def}
use Rattle.pure_ast.specs.declared.def.DefKind.{DefKind}
use Rattle.pure_ast.specs.declared.def.Defs.{Defs}
use Rattle.pure_ast.specs.Code.{Code}
use Rattle.pure_ast.specs.Types.{PTy}
use Rattle.text_meaning.specs.declared.mark.Mark.TheVariants.{Close, OpenBrace, CloseBrace, Colon, Becomes}
use Rattle.text_meaning.specs.Spelled.{parameters_tokens, fuel_tokens, fuel_match, definition}
use Rattle.text_meaning.specs.SpelledNames.{var_token}
use Rattle.text_meaning.specs.Tokens.{word}
use Rattle.raw_ast.specs.declared.declarations.Definition.{Definition}
use Rattle.raw_ast.specs.declared.spelling.Spelling.{Spelling}
use Rattle.raw_ast.specs.Types.{RawType}
use Rattle.raw_meaning.specs.declared.outline.Outline.{Outline}
use Rattle.raw_meaning.specs.Faults.{texts, type_faults, code_faults, parameters_faults, values_faults, definition_faults, and_kind, definitions_faults}
use Rattle.raw_meaning.specs.Heads.{declared_by}
use Rattle.raw_meaning.specs.Numbers.{numbered}
use Rattle.raw_meaning.specs.OptionLemmas.{some_so, both_made, four_made, none_left, none_right, unbroken}
use Rattle.raw_meaning.specs.Outlines.{kind_of}
use Rattle.raw_meaning.specs.Rules.{parameter, is_number, new_definition}
use Rattle.raw_meaning.specs.Trees.{each, type_tree, code_tree, parameter_types, defined, definition_tree}
use Rattle.raw_meaning.specs.Wants.{Wants, says, marks, type_wants, code_wants, fuel_parameter_wants, fuel_match_wants, parameters_wants, type_parameters_wants, definition_wants, definitions_wants}
use Rattle.raw_soundness.specs.CodeSpelled.{code_spelled}
use Rattle.raw_soundness.specs.DeclarationsSpelled.{implicit_spelled}
use Rattle.raw_soundness.specs.NamesSpelled.{name_spelled}
use Rattle.raw_soundness.specs.NumbersSpelled.{numbered_spelled}
use Rattle.raw_soundness.specs.Spells.{Spells, over, next, seq}
use Rattle.raw_soundness.specs.TypesSpelled.{type_spelled}

-- a parameter is the variable of its place
number_is : (o : Option ℕ) (k : ℕ) → is_number o k ≡ true → o ≡ Some k
number_is None k h = absurd cc
number_is (Some n) k h = ap (λ x. Some x) (eqb-true n k h)

parameter_spelled : (k : ℕ) (s : Spelling) → parameter k s ≡ [] → var_token k ≡ word s.text
parameter_spelled k s e =
    let t = unbroken (is_number (numbered (codes "v") s.text) k) s.span e in
    ap word (sym (numbered_spelled (codes "v") s.text k (number_is (numbered (codes "v") s.text) k t)))

fuel_spelled : (rest : Wants) → Spells (fuel_parameter_wants rest) rest fuel_tokens
fuel_spelled rest = next refl (next refl (next refl (next refl (next refl over))))

match_spelled : (rest : Wants) → Spells (fuel_match_wants rest) rest fuel_match
match_spelled rest =
    next refl (next refl (next refl (next refl (next refl (next refl (next refl (next refl (next refl (next refl (next refl (next refl (next refl over))))))))))))

module _ (h : Outline) (d : Defs) (same : declared_by d ≡ h) where
  parameters_spelled : (ps : List (List ℕ)) (k : ℕ) (xs : List (Spelling × RawType)) (ts : List PTy) (rest : Wants) → values_faults h ps k xs ≡ [] → parameter_types h ps xs ≡ Some ts →
      Spells (parameters_wants xs rest) rest (parameters_tokens d ps k ts)
  parameters_spelled ps k [] ts rest g e = some_so (λ ts. Spells rest rest (parameters_tokens d ps k ts)) [] ts e over
  parameters_spelled ps k (x ∷ xs) ts rest g e =
      let m = both_made (λ y ys. y ∷ ys) (type_tree h ps x.1) (parameter_types h ps xs) ts e in
      let later = values_faults h ps (suc k) xs in
      let inside = none_right (parameter k x.0) (type_faults h ps x.1 ++ later) g in
      let named = parameter_spelled k x.0 (none_left (parameter k x.0) (type_faults h ps x.1 ++ later) g) in
      subst (λ ts. Spells (parameters_wants (x ∷ xs) rest) rest (parameters_tokens d ps k ts)) m.is
      (next refl (next named (next refl (seq (seq (type_spelled h d same ps x.1 m.first (marks Close (parameters_wants xs rest)) m.is_first) (next refl over))
      (parameters_spelled ps (suc k) xs m.second rest (none_right (type_faults h ps x.1) later inside) m.is_second)))))

  -- a definition's parts are spelled as they are
  spelled_of : (x : Definition) (kind : DefKind) (ts : List PTy) (r : PTy) (b : Code) (rest : Wants) → kind_of d.names x.name ≡ Some kind → values_faults h (texts x.type_parameters) 0 x.parameters ≡ [] →
      parameter_types h (texts x.type_parameters) x.parameters ≡ Some ts → type_tree h (texts x.type_parameters) x.result ≡ Some r → code_tree h x.code ≡ Some b →
      Spells (definition_wants x rest) rest (definition d (defined kind (texts x.type_parameters) ts r b))
  spelled_of x kind ts r b rest k g p q c =
      let ps = texts x.type_parameters in
      let body = code_wants x.code rest in
      let result = type_wants x.result (marks Becomes (fuel_match_wants body)) in
      let typed = marks Colon (says (codes "Result") result) in
      let values = parameters_wants x.parameters typed in
      next refl (seq (name_spelled d x.name kind (type_parameters_wants OpenBrace CloseBrace x.type_parameters (fuel_parameter_wants values)) k)
      (seq (seq (implicit_spelled x.type_parameters (fuel_parameter_wants values)) (seq (fuel_spelled values) (parameters_spelled ps 0 x.parameters ts typed g p)))
      (next refl (next refl (seq (type_spelled h d same ps x.result r (marks Becomes (fuel_match_wants body)) q)
      (next refl (seq (match_spelled body) (code_spelled h d same x.code b rest c))))))))

  definition_spelled : (types : List (List ℕ)) (kinds : List DefKind) (x : Definition) (t : Def) (rest : Wants) → definition_faults h types kinds x ≡ [] → definition_tree h x ≡ Some t →
      Spells (definition_wants x rest) rest (definition d t)
  definition_spelled types kinds x t rest g e =
      let ps = texts x.type_parameters in
      let m = four_made (λ (kind : DefKind) (xs : List PTy) (r : PTy) (b : Code). defined kind ps xs r b) (kind_of h.functions x.name)
      (parameter_types h ps x.parameters) (type_tree h ps x.result) (code_tree h x.code) t e in
      let named = new_definition h.functions kinds x.name in
      let parameters = parameters_faults types [] x.type_parameters in
      let values = values_faults h ps 0 x.parameters in
      let after = type_faults h ps x.result ++ code_faults h x.code in
      let fine = none_left values after (none_right parameters (values ++ after) (none_right named (parameters ++ (values ++ after)) g)) in
      let kind : kind_of d.names x.name ≡ Some m.first = ap (λ (h : Outline). kind_of h.functions x.name) same ∙ m.is_first in
      subst (λ (t : Def). Spells (definition_wants x rest) rest (definition d t)) m.rest.is
      (spelled_of x m.first m.rest.first m.rest.second m.rest.third rest kind fine m.rest.is_first m.rest.is_second m.rest.is_third)

  pub definitions_spelled : (types : List (List ℕ)) (kinds : List DefKind) (xs : List Definition) (ts : List Def) (rest : Wants) → definitions_faults h types kinds xs ≡ [] →
      each (definition_tree h) xs ≡ Some ts → Spells (definitions_wants xs rest) rest (flat_map (definition d) ts)
  definitions_spelled types kinds [] ts rest g e = some_so (λ ts. Spells rest rest (flat_map (definition d) ts)) [] ts e over
  definitions_spelled types kinds (x ∷ xs) ts rest g e =
      let m = both_made (λ y ys. y ∷ ys) (definition_tree h x) (each (definition_tree h) xs) ts e in
      let first = definition_faults h types kinds x in
      let more_kinds = and_kind kinds (kind_of h.functions x.name) in
      let later = definitions_faults h types more_kinds xs in
      subst (λ ts. Spells (definitions_wants (x ∷ xs) rest) rest (flat_map (definition d) ts)) m.is
      (seq (definition_spelled types kinds x m.first (definitions_wants xs rest) (none_left first later g) m.is_first)
      (definitions_spelled types more_kinds xs m.second rest (none_right first later g) m.is_second))
