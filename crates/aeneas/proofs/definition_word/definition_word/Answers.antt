-- The parts of the word, and that there are no others.
use Rattle.std.proofs.Common.{◌∙◌, ◌∷◌, ◌++◌, sym, subst, lit<, map}
use Rattle.std.specs.String.{string_bytes}
use Rattle.aeneas.specs.DefinitionWord.{Lacks}
use Rattle.aeneas.specs.DefinitionParts.{IsOnly}
use Rattle.aeneas.proofs.DefinitionWords.{name_alone, unformed, with_types, around, before_lacks}
use Rattle.aeneas.proofs.definition_word.definition_word.Goals as goal

pub returns-in_default : goal.returns-in_default
returns-in_default c =
    let e = c.in_default.ensures.byte (lit< tt) (λ w o h. h) in
    subst (λ types. IsOnly c.args.word.now c.args.word.now (map string_bytes types)) (sym c.new.ensures.items) (name_alone c.args.word.now e)

pub returns-in-None : goal.returns-in-None
returns-in-None c =
    let e = c.in-Some.ensures.byte (lit< tt) (λ w o h. h) in
    let word = around 58 c.args.word.now e.2 ∙ (λ i. sym e.0 i ++ 58 ∷ sym e.1 i) in
    unformed c.args.word.now c.in-Some.name.now c.in-Some.rest.now word (subst (Lacks 58) (sym e.0) (before_lacks 58 c.args.word.now)) c.in-None.ensures

pub returns-in_ok-types-in-Some-types_text : goal.returns-in_ok-types-in-Some-types_text
returns-in_ok-types-in-Some-types_text c =
    let e = c.in-Some.ensures.byte (lit< tt) (λ w o h. h) in
    let word = around 58 c.args.word.now e.2 ∙ (λ i. sym e.0 i ++ 58 ∷ sym e.1 i) in
    with_types c.args.word.now c.in-Some.name.now c.in-Some.rest.now c.in-Some-types_text.text.now _ word (subst (Lacks 58) (sym e.0) (before_lacks 58 c.args.word.now)) c.in-Some-types_text.ensures c.in_ok-types-in-Some-types_text.ensures
