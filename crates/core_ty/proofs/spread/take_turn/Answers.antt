use Rattle.std.proofs.Common.{◌≡◌, ◌<◌, sym, ◌∙◌, ap, subst, length, List, Bool, arith}
use Rattle.std.proofs.lemmas.Result.{on_ok_weaker}
use Rattle.std.specs.List.{All}
use Rattle.core_ty.specs.declared.spread.Argument.{Argument}
use Rattle.core_ty.specs.Types as t
use Rattle.core_ty.specs.Marks.{AreSound, row_of}
use Rattle.core_ty.specs.Spread.{Holds, IsWaiting}
use Rattle.core_ty.proofs.Spreading.{mark_fits}
use Rattle.core_ty.specs.View.{ty_of}
use Rattle.core_ty.proofs.spread.take_turn.Goals as goal

pub returns-in-Tuple : goal.returns-in-Tuple
returns-in-Tuple c ds is s =
    let e : c.args.next.ty.now ≡ t.tuple (t.tys c.as_slice.result.now) = sym c.ty.view_is ∙ ap ty_of c.in-Tuple.is ∙ ap (λ xs. t.tuple (t.tys xs)) (sym c.as_slice.ensures) in
    on_ok_weaker c.enter_parts.result (λ all. record { fits = s.fits; held = all; waiting = s.waiting })
    (c.enter_parts.ensures ds (subst (λ x. Holds ds c.args.next.user x) e is) s.held)

pub returns-in-Named : goal.returns-in-Named
returns-in-Named c ds is s =
    let e : c.args.next.ty.now ≡ t.named c.in-Named.decl (t.tys c.as_slice-in-Named.result.now) =
    sym c.ty.view_is ∙ ap ty_of c.in-Named.is ∙ ap (λ xs. t.named c.in-Named.decl (t.tys xs)) (sym c.as_slice-in-Named.ensures) in
    on_ok_weaker c.enter_arguments.result (λ all. record { fits = s.fits; held = all.0; waiting = all.1 })
    (c.enter_arguments.ensures ds (subst (λ x. Holds ds c.args.next.user x) e is)
    (subst (λ (r : List (List Bool)). AreSound ds r) (sym c.as_slice-in-Named-2.ensures) s.fits.1) s.held s.waiting)

pub returns-in_ok-release-in-Param : goal.returns-in_ok-release-in-Param
returns-in_ok-release-in-Param c ds is s =
    let found = c.in-Some.ensures.2 in
    let n : c.in-Param.number ≡ c.in-Some.place = cc in
    let e : c.args.next.ty.now ≡ t.param c.in-Some.place = sym c.ty.view_is ∙ ap ty_of c.in-Param.is ∙ ap (λ k. t.param k) n in
    let low : c.in-Some.place < length (row_of c.args.rows.now c.args.next.user) =
    let row = c.row_of.ensures ∙ ap (λ (r : List (List Bool)). row_of r c.args.next.user) c.as_slice-in-Param.ensures in
    omega (arith, c.in-Some.ensures.0, ap length row) in
    let fits = mark_fits ds c.args.rows.now c.mark.new.rows c.args.next.user c.in-Some.place s.fits
    (subst (λ x. Holds ds c.args.next.user x) e is) low c.mark.ensures in
    record {
      fits = fits;
      held = c.in_ok-release-in-Param.ensures ds
          (subst (λ (r : List (List Bool)). AreSound ds r) (sym c.as_slice-in-Some-2.ensures) fits.1)
          (subst (λ (ws : List Argument). All (IsWaiting ds) ws) (sym c.as_slice-in-Some-3.ensures) s.waiting) s.held;
      waiting = s.waiting;
    }
