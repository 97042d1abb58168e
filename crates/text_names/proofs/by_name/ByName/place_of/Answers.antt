use Rattle.std.proofs.Common.{ap, map, ◌∙◌}
use Rattle.raw_meaning.specs.Outlines.{place_of}
use Rattle.text_names.proofs.Placing.{place_of_names}
use Rattle.text_names.proofs.by_name.ByName.place_of.Goals as goal

pub returns : goal.returns
returns g c =
    let a = c.copied.ensures in let b = c.get.ensures.value in
    c.copied.ensures ∙ c.get.ensures.value ∙ c.self.invariant c.args.name.now ∙ place_of_names (map g.T.Named.name_of c.self.inside.items) c.args.name.now
    ∙ ap (λ xs. place_of (map g.T.Named.name_of xs) c.args.name.now) c.self.view_is
