use Rattle.std.proofs.Common.{◌≡◌, ℕ, List, [], ◌∷◌, ◌++◌, ap, ◌∙◌, bytes_eq}
use Rattle.indexmap.specs.IndexMap.{get}
use Rattle.name_clashes.specs.declared.entry.Kind.TheVariants as kind
use Rattle.name_clashes.specs.declared.entry.Entry.{Entry}
use Rattle.name_clashes.specs.Twice.{entry}
use Rattle.name_clashes.proofs.Repeating.{noted}
use Rattle.name_clashes.proofs.seen.Seen.with.Goals as goal

pub invariant_of-result : goal.invariant_of-result
invariant_of-result c =
    let es : List Entry = c.self.inside.entries in
    let ys : List Entry = c.push.new.self in
    let q : ys ≡ es ++ entry c.args.kind c.args.name.now ∷ [] =
    c.in_ok-push.ensures.ok ∙ ap (λ (n : List ℕ). es ++ record { name = n; span = c.args.name.now.span; kind = c.args.kind } ∷ []) c.in_ok-own.ensures in
    let k = c.args.kind in
    let i = c.args.name.now in (
      noted kind.Type k i es ys c.must_differ-of_types.result (get bytes_eq c.self.inside.places.types) (get bytes_eq c.note_for.new.table) c.must_differ-of_types.ensures q c.in_ok-note_for.ensures c.self.invariant.0,
      noted kind.Value k i es ys c.must_differ-of_values.result (get bytes_eq c.self.inside.places.values) (get bytes_eq c.note_for-2.new.table) c.must_differ-of_values.ensures q c.in_ok-note_for-2.ensures c.self.invariant.1,
      noted kind.Both k i es ys c.must_differ-of_both.result (get bytes_eq c.self.inside.places.both) (get bytes_eq c.note_for-3.new.table) c.must_differ-of_both.ensures q c.in_ok-note_for-3.ensures c.self.invariant.2,
      noted kind.Parameter k i es ys c.must_differ-of_parameters.result (get bytes_eq c.self.inside.places.parameters) (get bytes_eq c.note_for-4.new.table) c.must_differ-of_parameters.ensures q c.in_ok-note_for-4.ensures c.self.invariant.3,
    )
