-- What is read of lexemes stands for what these lexemes spell (TEXT.md, "Reading").
use Rattle.std.specs.Prelude.{◌≡◌, refl, ℕ, List, [], ◌∷◌, map, Some}
use Rattle.std.proofs.Common.{ap, ◌∙◌}
use Rattle.pure_ast.specs.declared.def.Def.{Def}
use Rattle.pure_ast.specs.declared.def.Defs.{Defs}
use Rattle.pure_ast.specs.declared.def.PType.{PType}
use Rattle.pure_ast.specs.Terms.{Term}
use Rattle.pure_ast.specs.Types.{PTy}
use Rattle.text_meaning.specs.Spelled.{tokens_of}
use Rattle.text_meaning.specs.SpelledTerms.{term_tokens}
use Rattle.text_meaning.specs.SpelledTypes.{type_tokens}
use Rattle.text_tokens.specs.declared.lexeme.Lexeme.{Lexeme as Spelled}
use Rattle.text_tokens.specs.Stands.{AllStand}
use Rattle.text_table.specs.declared.part.Part.{Part}
use Rattle.text_table.specs.declared.part.Part.TheVariants as N
use Rattle.text_syntax.specs.Classing.{lexeme_of}
use Rattle.raw_ast.specs.declared.declarations.RawText.{RawText}
use Rattle.raw_ast.specs.Atoms.{RawAtom}
use Rattle.raw_ast.specs.Types.{RawType}
use Rattle.raw_values.specs.Carriers.{carrier}
use Rattle.raw_ways.specs.Reading.{Reads}
use Rattle.raw_meaning.specs.declared.outline.Outline.{Outline}
use Rattle.raw_meaning.specs.Faults.{type_names, declarations_faults, definitions_faults, faults}
use Rattle.raw_meaning.specs.HeadLemmas.{declared}
use Rattle.raw_meaning.specs.Heads.{declared_by}
use Rattle.raw_meaning.specs.Named.{IsNamedText}
use Rattle.raw_meaning.specs.OptionLemmas.{both_made, none_left, none_right}
use Rattle.raw_meaning.specs.Outlines.{outline_of}
use Rattle.raw_meaning.specs.Shape.{IsShapedType, IsShapedAtom, IsShapedText}
use Rattle.raw_meaning.specs.Trees.{each, type_tree, atom_tree, declaration_tree, definition_tree, definitions}
use Rattle.raw_meaning.specs.Wants.{text_wants, definitions_wants}
use Rattle.raw_soundness.specs.AtomsSpelled.{atom_spelled}
use Rattle.raw_soundness.specs.DeclarationsSpelled.{declarations_spelled}
use Rattle.raw_soundness.specs.DefinitionsSpelled.{definitions_spelled}
use Rattle.raw_soundness.specs.Kept.{kept}
use Rattle.raw_soundness.specs.Readings.{BearsNames, AllMeet, part_read}
use Rattle.raw_soundness.specs.Shapes.{IsShaped}
use Rattle.raw_soundness.specs.Spelled.{spelled}
use Rattle.raw_soundness.specs.Spells.{Spells, next, seq, all_stand}
use Rattle.raw_soundness.specs.Symbols.{wants}
use Rattle.raw_soundness.specs.TypesSpelled.{type_spelled}

-- ---- parts

-- what is read as a part of all lexemes has its shape, and the lexemes are what it wants
none_over : (left : List Spelled) → map lexeme_of left ≡ [] → AllMeet [] left
none_over [] e = tt
none_over (l ∷ ls) e = absurd cc

pub part_sound : (n : Part) (ls : List Spelled) (v : carrier n) → BearsNames ls → Reads n (map lexeme_of ls) [] v → IsShaped n v × AllMeet (wants n v []) ls
part_sound n ls v named reads =
    let r = part_read kept spelled n (map lexeme_of ls) [] v ls reads refl named in (r.shaped, r.meets [] (none_over r.left r.same))

-- ---- types

-- a type that is read is of the grammar's shape, and its lexemes are the tokens of the type that it stands for
pub record IsSoundType (ls : List Spelled) (x : RawType) : Type 0 where
  pub shaped : IsShapedType x
  pub stands : (h : Outline) (d : Defs) (ps : List (List ℕ)) (t : PTy) → declared_by d ≡ h → type_tree h ps x ≡ Some t → AllStand ls (type_tokens d ps t)

pub type_sound : (ls : List Spelled) (x : RawType) → BearsNames ls → Reads N.Type (map lexeme_of ls) [] x → IsSoundType ls x
type_sound ls x named reads =
    let r = part_sound N.Type ls x named reads in
    record {
      shaped = r.0;
      stands = λ h d ps t same e. all_stand (wants N.Type x []) (type_tokens d ps t) ls (type_spelled h d same ps x t [] e) r.1;
    }

-- ---- atoms

pub record IsSoundAtom (ls : List Spelled) (x : RawAtom) : Type 0 where
  pub shaped : IsShapedAtom x
  pub stands : (h : Outline) (d : Defs) (t : Term) → declared_by d ≡ h → atom_tree h x ≡ Some t → AllStand ls (term_tokens d t)

pub atom_sound : (ls : List Spelled) (x : RawAtom) → BearsNames ls → Reads N.Atom (map lexeme_of ls) [] x → IsSoundAtom ls x
atom_sound ls x named reads =
    let r = part_sound N.Atom ls x named reads in
    record {
      shaped = r.0;
      stands = λ h d t same e. all_stand (wants N.Atom x []) (term_tokens d t) ls (atom_spelled h d same x t [] e) r.1;
    }

-- ---- texts

-- a text that breaks no rule is spelled as the definitions that it stands for
text_spelled : (text : RawText) (d : Defs) → faults text ≡ [] → definitions text ≡ Some d → Spells (text_wants text []) [] (tokens_of d)
text_spelled text d g e =
    let h = outline_of text in
    let same = declared text d e in
    let m = both_made (λ (types : List PType) (ds : List Def). record { types = types; names = h.functions; defs = ds }) (each (declaration_tree h) text.types) (each (definition_tree h) text.definitions) d e in
    let first = declarations_faults h [] [] text.types in
    let later = definitions_faults h (type_names text.types) [] text.definitions in
    let types : each (declaration_tree h) text.types ≡ Some d.types = m.is_first ∙ ap (λ (d : Defs). Some d.types) m.is in
    let defs : each (definition_tree h) text.definitions ≡ Some d.defs = m.is_second ∙ ap (λ (d : Defs). Some d.defs) m.is in
    next refl (next refl (next refl (next refl (seq
    (declarations_spelled h d same [] [] text.types d.types (definitions_wants text.definitions []) (none_left first later g) types)
    (definitions_spelled h d same (type_names text.types) [] text.definitions d.defs [] (none_right first later g) defs)))))

-- a text that is read is of the grammar's shape, its declared names are names, and where it breaks no rule its lexemes are
-- the tokens of the definitions that it stands for
pub record IsSoundText (ls : List Spelled) (text : RawText) : Type 0 where
  pub shaped : IsShapedText text
  pub named : IsNamedText text
  pub stands : (d : Defs) → faults text ≡ [] → definitions text ≡ Some d → AllStand ls (tokens_of d)

pub text_sound : (ls : List Spelled) (text : RawText) → BearsNames ls → Reads N.Text (map lexeme_of ls) [] text → IsSoundText ls text
text_sound ls text named reads =
    let r = part_sound N.Text ls text named reads in
    record {
      shaped = r.0.0;
      named = r.0.1;
      stands = λ d g e. all_stand (text_wants text []) (tokens_of d) ls (text_spelled text d g e) r.1;
    }
