use Rattle.std.proofs.Common.{◌≡◌, ap, sym, ◌∙◌, Some, None, slice_get}
use Rattle.text_names.specs.contracts.kind_key.KindKeyPartialEq.TheImpl as key
use Rattle.text_names.proofs.Placing.{head_none, head_some}
use Rattle.text_names.proofs.by_kind.find.Goals as goal

pub returns-in_err-place : goal.returns-in_err-place
returns-in_err-place c =
    let n : c.place_of.result ≡ None = c.in_err-place.was in
    c.from_residual.ensures ∙ sym (head_none key.eq-value.it c.args.heads.now c.args.key c.place_of.result c.place_of.ensures n)

pub returns-in_err-head : goal.returns-in_err-head
returns-in_err-head c =
    let k : c.place_of.result ≡ Some c.in_ok-place.place = c.in_ok-place.was in
    let q : None ≡ slice_get c.args.heads.now c.in_ok-place.place = c.in_err-head.ensures ∙ ap (λ xs. slice_get xs c.in_ok-place.place) c.as_slice.ensures in
    c.from_residual-in_err-head.ensures ∙ sym (head_some key.eq-value.it c.args.heads.now c.args.key c.place_of.result c.in_ok-place.place None c.place_of.ensures k q)

pub returns : goal.returns
returns c =
    let k : c.place_of.result ≡ Some c.in_ok-place.place = c.in_ok-place.was in
    let q : Some c.in_ok-head.head.now ≡ slice_get c.args.heads.now c.in_ok-place.place = c.in_ok-head.ensures ∙ ap (λ xs. slice_get xs c.in_ok-place.place) c.as_slice.ensures in
    sym (head_some key.eq-value.it c.args.heads.now c.args.key c.place_of.result c.in_ok-place.place (Some c.in_ok-head.head.now) c.place_of.ensures k q)
