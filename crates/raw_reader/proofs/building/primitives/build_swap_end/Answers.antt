-- What `build_swap_end` calls builds the part. Written by tools/text_ways.py.
use Rattle.std.proofs.Common.{reverse, Ok}
use Rattle.text_table.specs.declared.part.Part.TheVariants as N
use Rattle.raw_reader.proofs.Places.{at_place, built_at_place}
use Rattle.raw_reader.proofs.building.primitives.build_swap_end.Goals as goal

pub replace_end_0-requires : goal.replace_end_0-requires
replace_end_0-requires c =
    let h = at_place N.SwapEnd c.args.index 0 (reverse c.args.values.now) c.in-0.is c.requires in
    record { value = h.value; below = h.below; makes = h.makes }

pub returns-in-0 : goal.returns-in-0
returns-in-0 c =
    built_at_place N.SwapEnd c.args.index 0 (reverse c.args.values.now) (reverse c.replace_end_0.new.values) (Ok c.replace_end_0.result) c.in-0.is c.replace_end_0.ensures

pub returns-in-1 : goal.returns-in-1
returns-in-1 c =
    built_at_place N.SwapEnd c.args.index 1 (reverse c.args.values.now) (reverse c.swap_end_1.new.values) (Ok c.swap_end_1.result) c.in-1.is c.swap_end_1.ensures
