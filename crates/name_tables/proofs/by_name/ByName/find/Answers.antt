use Rattle.std.proofs.Common.{◌≡◌, ap, sym, ◌∙◌, Some, None, slice_get}
use Rattle.name_tables.proofs.Placing.{found_none, found_some}
use Rattle.name_tables.proofs.by_name.ByName.find.Goals as goal

pub returns-in_err-place : goal.returns-in_err-place
returns-in_err-place g c =
    let n : c.place_of.result ≡ None = c.in_err-place.was in
    rw c.from_residual.ensures (sym (found_none g.T.Named.name_of c.args.self.now c.args.name.now c.place_of.result c.place_of.ensures n))

pub returns-in_err-item : goal.returns-in_err-item
returns-in_err-item g c =
    let k : c.place_of.result ≡ Some c.in_ok-place.place = c.in_ok-place.was in
    let q : None ≡ slice_get c.args.self.now c.in_ok-place.place = c.in_err-item.ensures ∙ ap (λ xs. slice_get xs c.in_ok-place.place) (c.as_slice.ensures ∙ c.self.view_is) in
    rw c.from_residual-in_err-item.ensures (sym (found_some g.T.Named.name_of c.args.self.now c.args.name.now c.place_of.result c.in_ok-place.place None c.place_of.ensures k q))

pub returns : goal.returns
returns g c =
    let k : c.place_of.result ≡ Some c.in_ok-place.place = c.in_ok-place.was in
    let q : Some c.in_ok-item.item.now ≡ slice_get c.args.self.now c.in_ok-place.place = c.in_ok-item.ensures ∙ ap (λ xs. slice_get xs c.in_ok-place.place) (c.as_slice.ensures ∙ c.self.view_is) in
    sym (found_some g.T.Named.name_of c.args.self.now c.args.name.now c.place_of.result c.in_ok-place.place (Some c.in_ok-item.item.now) c.place_of.ensures k q)
