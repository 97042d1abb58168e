use Rattle.std.proofs.Common.{◌∙◌, ap, map, Some}
use Rattle.std.specs.Option.{option_map}
use Rattle.text_meaning.specs.HasType.{put_in, field_types}
use Rattle.text_words.proofs.PuttingIn.{variant_there, variant_missing}
use Rattle.text_words.proofs.typing.variant_types.Goals as goal

pub returns-in_ok-field_types-in-Some-at : goal.returns-in_ok-field_types-in-Some-at
returns-in_ok-field_types-in-Some-at c =
    ap Some (c.in_ok-field_types-in-Some-at.ensures ∙ ap (map (λ f. put_in c.args.args.now f.1)) c.as_slice-in-Some-at.ensures)
    ∙ ap (option_map (field_types c.args.args.now)) (variant_there c.args.defs.now.types c.as_slice.result.now c.as_slice-in-Some.result.now c.args.ty.0 c.args.variant
    c.in-Some.decl.now c.in-Some-at.found.now c.as_slice.ensures c.in-Some.ensures c.as_slice-in-Some.ensures c.in-Some-at.ensures)

pub returns-in-None-at : goal.returns-in-None-at
returns-in-None-at c =
    ap (option_map (field_types c.args.args.now)) (variant_missing c.args.defs.now.types c.as_slice.result.now c.as_slice-in-Some.result.now c.args.ty.0 c.args.variant
    c.in-Some.decl.now c.as_slice.ensures c.in-Some.ensures c.as_slice-in-Some.ensures c.in-None-at.ensures)
