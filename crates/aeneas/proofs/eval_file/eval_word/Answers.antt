-- DEF names a definition, or none.
use Rattle.std.proofs.Common.{sym, subst, map, inl, List, ℕ, ◌<◌}
use Rattle.std.specs.Prelude.{MatchOption, Option, All}
use Rattle.std.specs.String.{string_bytes, string_len}
use Rattle.std.proofs.lemmas.Result.{IfOk-weaker}
use Rattle.aeneas.specs.declared.definition_word.DefinitionWord.{DefinitionWord}
use Rattle.aeneas.specs.DefinitionWord.{IsDefinitionWord}
use Rattle.aeneas.specs.DefinitionParts.{IsOnly}
use Rattle.aeneas.specs.Eval.{DefsReply}
use Rattle.aeneas.specs.declared.refusal.Refusal.TheVariants as R
use Rattle.aeneas.specs.Refusals.{IsRefusal}
use Rattle.aeneas.proofs.Evaluations.{within, short_pieces, short_strings, unnamed}
use Rattle.aeneas.proofs.eval_file.eval_word.Goals as goal

abbrev Parted : List ℕ → Option DefinitionWord → Type 0
Parted word o =
    MatchOption o ((name : List ℕ) (pieces : List (List ℕ)) → IsDefinitionWord word name pieces → ⊥)
    (λ w. IsOnly word w.name.now (map string_bytes w.types.items))

pub returns-in_default : goal.returns-in_default
returns-in_default c =
    let none = subst (Parted c.args.word.now) c.in_default.is c.in_ok-parts.ensures in
    IfOk-weaker c.refused.result (λ r. IsRefusal R.Name r.status r.text) (λ r. DefsReply c.args.defs.now c.args.word.now (map string_bytes c.args.values.now) c.args.fuel r.status r.text)
    (λ r h. inl (record { refusal = h; cause = λ name pieces parts. absurd (none name pieces parts) })) c.refused.ensures

pub returns-in-None : goal.returns-in-None
returns-in-None c =
    let only = subst (Parted c.args.word.now) c.in-Some.is c.in_ok-parts.ensures in
    IfOk-weaker c.refused-in-None.result (λ r. IsRefusal R.Name r.status r.text) (λ r. DefsReply c.args.defs.now c.args.word.now (map string_bytes c.args.values.now) c.args.fuel r.status r.text)
    (λ r h. inl (record { refusal = h; cause = unnamed c.args.defs.now c.args.word.now c.in-Some.parts.name.now (map string_bytes c.in-Some.parts.types.items) only c.in-None.ensures })) c.refused-in-None.ensures

pub eval_definition-requires-clause-known : goal.eval_definition-requires-clause-known
eval_definition-requires-clause-known c =
    let n = c.in-Some-def_named.ensures in within c.args.defs.now.defs c.in-Some-def_named.def.0 n.definition n.found

pub eval_definition-requires-clause-short_types : goal.eval_definition-requires-clause-short_types
eval_definition-requires-clause-short_types c =
    let only = subst (Parted c.args.word.now) c.in-Some.is c.in_ok-parts.ensures in
    let short = short_strings c.in-Some.parts.types.items (short_pieces c.args.word.now c.in-Some.parts.name.now (map string_bytes c.in-Some.parts.types.items) only.parts c.requires.short) in
    subst (All (λ w. string_len w < 4294967296)) (sym c.as_slice.ensures.value) short
