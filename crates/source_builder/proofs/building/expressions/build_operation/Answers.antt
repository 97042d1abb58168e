-- What `build_operation` calls builds the part. Written by tools/source_build.py.
use Rattle.source_grammar.specs.declared.part.Level.{Level}
use Rattle.std.proofs.Common.{ap, reverse}
use Rattle.source_grammar.specs.declared.part.Part.TheVariants as N
use Rattle.source_grammar.specs.declared.part.Level.TheVariants as L
use Rattle.source_builder.proofs.Places.{of_part, built_of_part}
use Rattle.source_builder.proofs.building.expressions.build_operation.Goals as goal

pub more_or_free_1-requires : goal.more_or_free_1-requires
more_or_free_1-requires c =
    let h = of_part (N.More c.args.level c.args.context) (N.More L.Or c.args.context) 1 (reverse c.args.values.now) (ap (λ (x : Level). (N.More x c.args.context)) c.in-Or.is) c.requires in
    record { value = h.value; below = h.below; makes = h.makes }

pub returns-in-Or : goal.returns-in-Or
returns-in-Or c =
    built_of_part (N.More c.args.level c.args.context) (N.More L.Or c.args.context) 1 (reverse c.args.values.now) (reverse c.more_or_free_1.new.values) c.more_or_free_1.result (ap (λ (x : Level). (N.More x c.args.context)) c.in-Or.is) c.more_or_free_1.ensures

pub more_or_free_1-requires-in-And : goal.more_or_free_1-requires-in-And
more_or_free_1-requires-in-And c =
    let h = of_part (N.More c.args.level c.args.context) (N.More L.And c.args.context) 1 (reverse c.args.values.now) (ap (λ (x : Level). (N.More x c.args.context)) c.in-And.is) c.requires in
    record { value = h.value; below = h.below; makes = h.makes }

pub returns-in-And : goal.returns-in-And
returns-in-And c =
    built_of_part (N.More c.args.level c.args.context) (N.More L.And c.args.context) 1 (reverse c.args.values.now) (reverse c.more_or_free_1-in-And.new.values) c.more_or_free_1-in-And.result (ap (λ (x : Level). (N.More x c.args.context)) c.in-And.is) c.more_or_free_1-in-And.ensures

pub more_assign_free_1-requires : goal.more_assign_free_1-requires
more_assign_free_1-requires c =
    let h = of_part (N.More c.args.level c.args.context) (N.More L.Compare c.args.context) 1 (reverse c.args.values.now) (ap (λ (x : Level). (N.More x c.args.context)) c.in-Compare.is) c.requires in
    record { value = h.value; below = h.below; makes = h.makes }

pub returns-in-Compare : goal.returns-in-Compare
returns-in-Compare c =
    built_of_part (N.More c.args.level c.args.context) (N.More L.Compare c.args.context) 1 (reverse c.args.values.now) (reverse c.more_assign_free_1.new.values) c.more_assign_free_1.result (ap (λ (x : Level). (N.More x c.args.context)) c.in-Compare.is) c.more_assign_free_1.ensures

pub more_or_free_1-requires-in-BitOr : goal.more_or_free_1-requires-in-BitOr
more_or_free_1-requires-in-BitOr c =
    let h = of_part (N.More c.args.level c.args.context) (N.More L.BitOr c.args.context) 1 (reverse c.args.values.now) (ap (λ (x : Level). (N.More x c.args.context)) c.in-BitOr.is) c.requires in
    record { value = h.value; below = h.below; makes = h.makes }

pub returns-in-BitOr : goal.returns-in-BitOr
returns-in-BitOr c =
    built_of_part (N.More c.args.level c.args.context) (N.More L.BitOr c.args.context) 1 (reverse c.args.values.now) (reverse c.more_or_free_1-in-BitOr.new.values) c.more_or_free_1-in-BitOr.result (ap (λ (x : Level). (N.More x c.args.context)) c.in-BitOr.is) c.more_or_free_1-in-BitOr.ensures

pub more_or_free_1-requires-in-Xor : goal.more_or_free_1-requires-in-Xor
more_or_free_1-requires-in-Xor c =
    let h = of_part (N.More c.args.level c.args.context) (N.More L.Xor c.args.context) 1 (reverse c.args.values.now) (ap (λ (x : Level). (N.More x c.args.context)) c.in-Xor.is) c.requires in
    record { value = h.value; below = h.below; makes = h.makes }

pub returns-in-Xor : goal.returns-in-Xor
returns-in-Xor c =
    built_of_part (N.More c.args.level c.args.context) (N.More L.Xor c.args.context) 1 (reverse c.args.values.now) (reverse c.more_or_free_1-in-Xor.new.values) c.more_or_free_1-in-Xor.result (ap (λ (x : Level). (N.More x c.args.context)) c.in-Xor.is) c.more_or_free_1-in-Xor.ensures

pub more_or_free_1-requires-in-BitAnd : goal.more_or_free_1-requires-in-BitAnd
more_or_free_1-requires-in-BitAnd c =
    let h = of_part (N.More c.args.level c.args.context) (N.More L.BitAnd c.args.context) 1 (reverse c.args.values.now) (ap (λ (x : Level). (N.More x c.args.context)) c.in-BitAnd.is) c.requires in
    record { value = h.value; below = h.below; makes = h.makes }

pub returns-in-BitAnd : goal.returns-in-BitAnd
returns-in-BitAnd c =
    built_of_part (N.More c.args.level c.args.context) (N.More L.BitAnd c.args.context) 1 (reverse c.args.values.now) (reverse c.more_or_free_1-in-BitAnd.new.values) c.more_or_free_1-in-BitAnd.result (ap (λ (x : Level). (N.More x c.args.context)) c.in-BitAnd.is) c.more_or_free_1-in-BitAnd.ensures

pub more_or_free_1-requires-in-Shift : goal.more_or_free_1-requires-in-Shift
more_or_free_1-requires-in-Shift c =
    let h = of_part (N.More c.args.level c.args.context) (N.More L.Shift c.args.context) 1 (reverse c.args.values.now) (ap (λ (x : Level). (N.More x c.args.context)) c.in-Shift.is) c.requires in
    record { value = h.value; below = h.below; makes = h.makes }

pub returns-in-Shift : goal.returns-in-Shift
returns-in-Shift c =
    built_of_part (N.More c.args.level c.args.context) (N.More L.Shift c.args.context) 1 (reverse c.args.values.now) (reverse c.more_or_free_1-in-Shift.new.values) c.more_or_free_1-in-Shift.result (ap (λ (x : Level). (N.More x c.args.context)) c.in-Shift.is) c.more_or_free_1-in-Shift.ensures

pub more_or_free_1-requires-in-Sum : goal.more_or_free_1-requires-in-Sum
more_or_free_1-requires-in-Sum c =
    let h = of_part (N.More c.args.level c.args.context) (N.More L.Sum c.args.context) 1 (reverse c.args.values.now) (ap (λ (x : Level). (N.More x c.args.context)) c.in-Sum.is) c.requires in
    record { value = h.value; below = h.below; makes = h.makes }

pub returns-in-Sum : goal.returns-in-Sum
returns-in-Sum c =
    built_of_part (N.More c.args.level c.args.context) (N.More L.Sum c.args.context) 1 (reverse c.args.values.now) (reverse c.more_or_free_1-in-Sum.new.values) c.more_or_free_1-in-Sum.result (ap (λ (x : Level). (N.More x c.args.context)) c.in-Sum.is) c.more_or_free_1-in-Sum.ensures

pub more_or_free_1-requires-in-Product : goal.more_or_free_1-requires-in-Product
more_or_free_1-requires-in-Product c =
    let h = of_part (N.More c.args.level c.args.context) (N.More L.Product c.args.context) 1 (reverse c.args.values.now) (ap (λ (x : Level). (N.More x c.args.context)) c.in-Product.is) c.requires in
    record { value = h.value; below = h.below; makes = h.makes }

pub returns-in-Product : goal.returns-in-Product
returns-in-Product c =
    built_of_part (N.More c.args.level c.args.context) (N.More L.Product c.args.context) 1 (reverse c.args.values.now) (reverse c.more_or_free_1-in-Product.new.values) c.more_or_free_1-in-Product.result (ap (λ (x : Level). (N.More x c.args.context)) c.in-Product.is) c.more_or_free_1-in-Product.ensures
