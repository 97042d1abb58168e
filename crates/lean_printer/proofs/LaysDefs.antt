-- What is laid out is read back: declarations, definitions, and the whole text.
use Rattle.std.proofs.Common.{refl, Bool, true, false, List, [], ◌∷◌, length, pos, append-nil}
use Rattle.std.specs.Prelude.{codes}
use Rattle.std.specs.List.{flat_map}
use Rattle.std.specs.Fmt.{digits}
use Rattle.pure_ast.specs.declared.def.Def.{Def}
use Rattle.pure_ast.specs.declared.def.Defs.{Defs}
use Rattle.pure_ast.specs.declared.def.PType.{PType}
use Rattle.text_meaning.specs.declared.mark.Mark.TheVariants.{Becomes, Bar, Gives, Plus, Colon}
use Rattle.text_meaning.specs.Lexing.{Lexed}
use Rattle.text_meaning.specs.Lists.{Each}
use Rattle.text_meaning.specs.Lookups.{Variant, function_name}
use Rattle.text_meaning.specs.Names.{IsName}
use Rattle.text_meaning.specs.Reading.{ReadsText}
use Rattle.text_meaning.specs.Shown.{variant_text, structure_text, declared_text, declaration_text, definition_text, header, shown}
use Rattle.text_meaning.specs.Spelled.{variant_tokens, structure_fields, declared_tokens, type_declaration, fuel_match, definition, tokens_of}
use Rattle.text_meaning.specs.Tokens.{word, number, mark}
use Rattle.text_meaning.specs.WellFormed.{IsWellFormed, IsDefinition, function_of}
use Rattle.text_meaning.specs.WellFormedTypes.{IsType, IsDeclaration, AreVariants}
use Rattle.lean_printer.proofs.KnownNames.{each_both, each_map, known, functions_named, types_are_named}
use Rattle.lean_printer.proofs.Lays.{Lays, seq, glue, blank, tok, free, apart, nothing, each_lays}
use Rattle.lean_printer.proofs.LaysBinders.{ended, colon, type_parameters, spaced_names, ty, named_fields, plain_fields, binders}
use Rattle.lean_printer.proofs.LaysCode.{line, bar, code_lays}
use Rattle.lean_printer.proofs.LaysNames.{kind_lays}
use Rattle.lean_printer.proofs.LaysTypes.{Known}
use Rattle.lean_printer.proofs.LaysWords.{name_lays, NameLays}

new : Lays free apart (codes "\n") []
new = glue free apart (blank (codes "\n") ∷ []) (λ r h. refl) (λ r h. refl)

where_lays : Lays free free (codes " where") (word (codes "where") ∷ [])
where_lays = glue free free (blank (codes " ") ∷ tok (word (codes "where")) ∷ []) (λ r h. h) (λ r h. refl)

structure : Lays apart apart (codes "structure ") (word (codes "structure") ∷ [])
structure = glue apart apart (tok (word (codes "structure")) ∷ blank (codes " ") ∷ []) (λ r h. refl) (λ r h. refl)

inductive : Lays apart apart (codes "inductive ") (word (codes "inductive") ∷ [])
inductive = glue apart apart (tok (word (codes "inductive")) ∷ blank (codes " ") ∷ []) (λ r h. refl) (λ r h. refl)

def : Lays free apart (codes "\ndef ") (word (codes "def") ∷ [])
def = glue free apart (blank (codes "\n") ∷ tok (word (codes "def")) ∷ blank (codes " ") ∷ []) (λ r h. refl) (λ r h. refl)

result : Lays free apart (codes " : Result ") (mark Colon ∷ word (codes "Result") ∷ [])
result = glue free apart (blank (codes " ") ∷ tok (mark Colon) ∷ blank (codes " ") ∷ tok (word (codes "Result")) ∷ blank (codes " ") ∷ []) (λ r h. refl) (λ r h. refl)

matched : Lays free free (codes " :=\n  match n with\n  | 0 => outOfFuel\n  | n + 1 => do") (mark Becomes ∷ fuel_match)
unfolding digits
matched = glue free free (blank (codes " ") ∷ tok (mark Becomes) ∷ blank (codes "\n  ") ∷ tok (word (codes "match")) ∷ blank (codes " ") ∷ tok (word (codes "n"))
    ∷ blank (codes " ") ∷ tok (word (codes "with")) ∷ blank (codes "\n  ") ∷ tok (mark Bar) ∷ blank (codes " ") ∷ tok (number (pos 0)) ∷ blank (codes " ")
    ∷ tok (mark Gives) ∷ blank (codes " ") ∷ tok (word (codes "outOfFuel")) ∷ blank (codes "\n  ") ∷ tok (mark Bar) ∷ blank (codes " ") ∷ tok (word (codes "n"))
    ∷ blank (codes " ") ∷ tok (mark Plus) ∷ blank (codes " ") ∷ tok (number (pos 1)) ∷ blank (codes " ") ∷ tok (mark Gives) ∷ blank (codes " ")
    ∷ tok (word (codes "do")) ∷ []) (λ r h. h) (λ r h. refl)

header_lays : Lays apart free header (word (codes "import") ∷ word (codes "AenPrelude") ∷ word (codes "open") ∷ word (codes "AenPrelude") ∷ [])
header_lays = glue apart free (tok (word (codes "import")) ∷ blank (codes " ") ∷ tok (word (codes "AenPrelude")) ∷ blank (codes "\n")
    ∷ tok (word (codes "open")) ∷ blank (codes " ") ∷ tok (word (codes "AenPrelude")) ∷ blank (codes "\n") ∷ []) (λ r h. refl) (λ r h. refl)

module _ (defs : Defs) (facts : Known defs) (t : PType) (named : IsName t.name) (are : Each IsName t.params) where
  variants : (vs : List Variant) → Each (λ v. IsName v.0 × Each (λ f. IsType defs (length t.params) f.1) v.1) vs →
      Lays free free (flat_map (variant_text defs t) vs) (flat_map (variant_tokens defs t) vs)
  variants vs e = each_lays (variant_text defs t) (variant_tokens defs t) (λ v. IsName v.0 × Each (λ f. IsType defs (length t.params) f.1) v.1)
      (λ v h. seq (line 2) (seq bar (seq (name_lays v.0 h.0) (seq colon (seq (plain_fields defs facts t.params are v.1 h.1)
      (seq (name_lays t.name named) (spaced_names t.params are))))))) vs e

  fields : (vs : List Variant) → AreVariants true vs → Each (λ v. Each (λ f. IsType defs (length t.params) f.1) v.1) vs →
      Lays free free (structure_text defs t vs) (structure_fields defs t vs)
  fields [] h e = nothing
  fields (v ∷ []) h e = named_fields defs facts t.params are v.1
      (each_both (λ f. IsName f.0) (λ f. IsType defs (length t.params) f.1) v.1 (each_map (λ f. f.0) IsName v.1 h.1.0) e.0)
  fields (v ∷ w ∷ vs) h e = absurd h

  declared : (is_struct : Bool) → AreVariants is_struct t.variants → Each (λ v. Each (λ f. IsType defs (length t.params) f.1) v.1) t.variants →
      Lays apart free (declared_text defs t is_struct) (declared_tokens defs t is_struct)
  declared true h e = seq structure (seq (name_lays t.name named) (seq (type_parameters t.params are) (seq where_lays (fields t.variants h e))))
  declared false h e = seq inductive (seq (name_lays t.name named) (seq (type_parameters t.params are) (seq where_lays (variants t.variants
      (each_both (λ v. IsName v.0) (λ v. Each (λ f. IsType defs (length t.params) f.1) v.1) t.variants (each_map (λ v. v.0) IsName t.variants h.0.0) e)))))

module _ (defs : Defs) (wf : IsWellFormed defs) where
  facts : Known defs
  facts = known defs wf

  declaration : (t : PType) → IsDeclaration defs t × IsName t.name → Lays free free (declaration_text defs t) (type_declaration defs t)
  declaration t h = seq new (ended (declared defs facts t h.1 h.0.params.0.0 t.is_struct h.0.variants h.0.fields))

  one : (d : Def) → IsDefinition defs d × NameLays (function_name defs (function_of d.kind)) → Lays free free (definition_text defs d) (definition defs d)
  one d h =
      let are = h.0.type_params.0.0 in
      seq def (seq (kind_lays defs d.kind h.1) (seq (binders defs facts d.type_params are d.params h.0.params) (seq result
      (seq (ty defs facts d.type_params are d.result h.0.result) (seq matched (ended (code_lays defs facts d.code 4 h.0.code)))))))

  whole : Lays apart free (shown defs) (tokens_of defs)
  whole = seq header_lays (seq
      (each_lays (declaration_text defs) (type_declaration defs) (λ t. IsDeclaration defs t × IsName t.name) declaration defs.types
      (each_both (IsDeclaration defs) (λ t. IsName t.name) defs.types wf.types (types_are_named defs wf)))
      (each_lays (definition_text defs) (definition defs) (λ d. IsDefinition defs d × NameLays (function_name defs (function_of d.kind))) one defs.defs
      (each_both (IsDefinition defs) (λ d. NameLays (function_name defs (function_of d.kind))) defs.defs wf.definitions (functions_named defs wf))))

  -- the text of well-formed definitions reads as these definitions
  pub read_back : ReadsText (shown defs) defs
  read_back = record {
    tokens = coe 0 1 (i. Lexed (append-nil (tokens_of defs) i) (append-nil (shown defs) i)) (whole.run [] [] refl refl);
    well_formed = wf;
  }
