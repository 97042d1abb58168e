-- What `build_borrowed` calls builds the part. Written by tools/source_build.py.
use Rattle.std.proofs.Common.{reverse, Ok}
use Rattle.source_grammar.specs.declared.part.Part.TheVariants as N
use Rattle.source_builder.proofs.Places.{at_place, built_at_place}
use Rattle.source_builder.proofs.building.expressions.build_borrowed.Goals as goal

pub borrowed_free_0-requires : goal.borrowed_free_0-requires
borrowed_free_0-requires c =
    let h = at_place (N.Borrowed c.args.context) c.args.index 0 (reverse c.args.values.now) c.in-0.is c.requires in
    record { value = h.value; below = h.below; makes = h.makes }

pub returns-in-0 : goal.returns-in-0
returns-in-0 c =
    built_at_place (N.Borrowed c.args.context) c.args.index 0 (reverse c.args.values.now) (reverse c.borrowed_free_0.new.values) (Ok c.borrowed_free_0.result) c.in-0.is c.borrowed_free_0.ensures

pub borrowed_free_1-requires : goal.borrowed_free_1-requires
borrowed_free_1-requires c =
    let h = at_place (N.Borrowed c.args.context) c.args.index 1 (reverse c.args.values.now) c.in-1.is c.requires in
    record { value = h.value; below = h.below; makes = h.makes }

pub returns-in-1 : goal.returns-in-1
returns-in-1 c =
    built_at_place (N.Borrowed c.args.context) c.args.index 1 (reverse c.args.values.now) (reverse c.borrowed_free_1.new.values) (Ok c.borrowed_free_1.result) c.in-1.is c.borrowed_free_1.ensures
