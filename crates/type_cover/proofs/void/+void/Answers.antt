use Rattle.std.proofs.Common.{ap, sym, ◌∙◌}
use Rattle.core_ty.specs.View.{ty_of}
use Rattle.type_cover.specs.Splitting.{is_void}
use Rattle.type_cover.proofs.Emptiness.{named_void, remembered, tuple_void, void_above}
use Rattle.core_ty.specs.Types as ty
use Rattle.type_cover.proofs.void.+void.Goals as goal

pub void_at-returns-clause-value : goal.void_at-returns-clause-value
void_at-returns-clause-value t c =
    void_above c.args.decls.now c.args.level c.args.ty.now c.content.result.now c.in_ok-is_void.is_void c.if-level-eq0.false c.content.ensures
    c.in_ok-is_void.ensures.value

pub void_at-returns-clause-kept : goal.void_at-returns-clause-kept
void_at-returns-clause-kept t c =
    remembered c.args.decls.now _ c.push.new.self _ c.in_ok-push.ensures.ok
    (void_above c.args.decls.now c.args.level c.args.ty.now c.content.result.now c.in_ok-is_void.is_void c.if-level-eq0.false c.content.ensures
    c.in_ok-is_void.ensures.value ∙ ap (is_void c.args.decls.now c.args.level) (sym c.in_ok-ty.ensures))
    c.in_ok-is_void.ensures.kept

pub void_level-returns-in-Tuple-clause-value : goal.void_level-returns-in-Tuple-clause-value
void_level-returns-in-Tuple-clause-value t c =
    tuple_void (is_void c.args.decls.now c.args.below) c.args.decls.now c.args.ty.now c.as_slice.result.now c.any_void.result
    (sym c.ty.view_is ∙ ap ty_of c.in-Tuple.is ∙ ap (λ xs. ty.tuple (ty.tys xs)) (sym c.as_slice.ensures)) c.any_void.ensures.value

pub void_level-returns-in-Some-clause-value : goal.void_level-returns-in-Some-clause-value
void_level-returns-in-Some-clause-value t c =
    named_void (is_void c.args.decls.now c.args.below) c.args.decls.now c.args.ty.now c.in-Named.decl c.as_slice-in-Some.result.now
    c.in-Some.declared.now c.as_slice-in-Some-2.result.now c.all_void.result
    (sym c.ty.view_is ∙ ap ty_of c.in-Named.is ∙ ap (λ xs. ty.named c.in-Named.decl (ty.tys xs)) (sym c.as_slice-in-Some.ensures))
    c.in-Some.ensures c.as_slice-in-Some-2.ensures c.all_void.ensures.value
