use Rattle.std.proofs.Common.{ap, map, ◌∙◌}
use Rattle.text_names.specs.Places.{place_by}
use Rattle.text_names.specs.contracts.kind_key.KindKeyPartialEq.TheImpl as key
use Rattle.text_names.proofs.by_kind.ByKind.place_of.Goals as goal

pub returns : goal.returns
returns g c =
    c.copied.ensures ∙ c.get.ensures.value ∙ c.self.invariant c.args.key
    ∙ ap (λ xs. place_by key.eq-value.it (map g.T.Kinded.key_of xs) c.args.key) c.self.view_is
