-- The words are those of the form.
use Rattle.std.proofs.Common.{◌∙◌, ap, map, ◌-◌, [], ◌∷◌, length, take, drop, sym}
use Rattle.std.specs.String.{string_bytes}
use Rattle.std.proofs.lemmas.List.Elements.{All-map}
use Rattle.aeneas.specs.Words.{IsShort}
use Rattle.aeneas.proofs.WordLemmas.{two_items, four_items, short_by_len}
use Rattle.aeneas.proofs.Forms.{file_form, call_form}
use Rattle.aeneas.proofs.command.form_of.Goals as goal

pub returns-in-len2 : goal.returns-in-len2
returns-in-len2 c =
    let two = two_items c.args.words.now c.command-item.result c.file-item.result c.in-len2.len_at_least c.in-len2.len_below c.command-item.is c.file-item.is in
    file_form (map string_bytes c.args.words.now) c.as_str.result.now c.as_str-in-len2.result.now
    (ap (λ ws. map string_bytes ws) two ∙ (λ i. sym c.as_str.ensures.value i ∷ sym c.as_str-in-len2.ensures.value i ∷ []))
    (All-map IsShort string_bytes c.args.words.now (short_by_len c.args.words.now c.requires)) c.file_form.result c.file_form.ensures

pub returns-in-len4-up : goal.returns-in-len4-up
returns-in-len4-up c =
    let four = four_items c.args.words.now c.command-item-2.result c.file-item-2.result c.name-item.result c.fuel-item.result c.in-len4-up.len_at_least
    c.command-item-2.is c.file-item-2.is c.name-item.is c.fuel-item.is in
    let rest = map string_bytes (take (length c.args.words.now - 4) (drop 4 c.args.words.now)) in
    call_form (map string_bytes c.args.words.now) c.as_str-in-len4-up.result.now c.as_str-in-len4-up-2.result.now c.as_str-in-len4-up-3.result.now c.as_str-in-len4-up-4.result.now rest
    (ap (λ ws. map string_bytes ws) four
    ∙ (λ i. sym c.as_str-in-len4-up.ensures.value i ∷ sym c.as_str-in-len4-up-2.ensures.value i ∷ sym c.as_str-in-len4-up-3.ensures.value i ∷ sym c.as_str-in-len4-up-4.ensures.value i ∷ rest))
    (All-map IsShort string_bytes c.args.words.now (short_by_len c.args.words.now c.requires)) c.call_form.result c.call_form.ensures
