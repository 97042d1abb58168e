use Rattle.std.proofs.Common.{◌≡◌, ◌∙◌, sym, ap, subst, true, take}
use Rattle.std.specs.Prelude.{◌==◌}
use Rattle.rust_lex.specs.Characters.{begins}
use Rattle.rust_lex.specs.Lexing.{is_form, IsLongest}
use Rattle.rust_lex.proofs.LongestSlices.{IsFound, is_found, lifetime_begins}
use Rattle.rust_lex.proofs.Boundaries.{form_boundary}
use Rattle.rust_lex.proofs.lexer.token.Goals as goal

pub head-requires : goal.head-requires
head-requires c =
    let r : IsLongest c.args.after_dot c.in-Some.form c.in-Some.count c.args.text.now =
    subst (IsFound c.args.after_dot c.args.text.now) (sym c.found.ensures ∙ c.in-Some.is) (is_found c.args.after_dot c.args.text.now c.utf8.text) in
    form_boundary c.args.after_dot c.in-Some.form c.in-Some.count c.args.text.now c.utf8.text r.within r.is

pub kind_of-requires : goal.kind_of-requires
kind_of-requires c h =
    let r : IsLongest c.args.after_dot c.in-Some.form c.in-Some.count c.args.text.now =
    subst (IsFound c.args.after_dot c.args.text.now) (sym c.found.ensures ∙ c.in-Some.is) (is_found c.args.after_dot c.args.text.now c.utf8.text) in
    ap (begins (λ x. x == 39)) c.head.ensures
    ∙ lifetime_begins c.args.after_dot (take c.in-Some.count c.args.text.now) (subst (λ f. is_form c.args.after_dot f (take c.in-Some.count c.args.text.now) ≡ true) h r.is)
