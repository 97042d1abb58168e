use Rattle.std.proofs.Common.{◌≡◌, sym, subst, List, get_or, slice_get, Some}
use Rattle.std.proofs.lemmas.Option.{slice_get-get_or}
use Rattle.core_ty.specs.declared.decl.Variant.{Variant}
use Rattle.core_ty.specs.Spread.{HoldsVariants}
use Rattle.core_ty.proofs.Spreading.{own_held}
use Rattle.core_ty.proofs.spread.all_fields.Goals as goal

pub loop-user-preserved : goal.loop-user-preserved
loop-user-preserved c =
    let decl = get_or c.args.decls.now c.loop-user.user c.index-decls-user.result in
    let here : slice_get c.args.decls.now c.loop-user.user ≡ Some decl =
    slice_get-get_or c.args.decls.now c.loop-user.user c.index-decls-user.result c.loop-user-test.true in
    c.in_ok-enter_variants.ensures c.args.decls.now
    (subst (λ (vs : List Variant). HoldsVariants c.args.decls.now c.loop-user.user vs) (sym c.as_slice.ensures)
    (own_held c.args.decls.now c.loop-user.user decl here))
    c.loop-user.invariant
