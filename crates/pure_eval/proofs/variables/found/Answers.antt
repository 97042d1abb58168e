-- The entry in the place of the variable's number has the variable.
use Rattle.std.proofs.Common.{◌≡◌, ℕ, sym, subst}
use Rattle.std.specs.Prelude.{Some}
use Rattle.text_meaning.specs.Environment.{lookup}
use Rattle.pure_eval.proofs.Lookups.{hit}
use Rattle.pure_eval.proofs.variables.found.Goals as goal

pub returns-in-Some : goal.returns-in-Some
returns-in-Some c =
    let env = c.args.entries.now in
    let e = c.in-Some.entry.now in
    let h = hit 0 c.requires.0 env c.args.variable e c.requires.1 (sym c.in-Some.ensures) in
    sym (subst (λ (k : ℕ). lookup env k ≡ Some e.1) c.if-entry-variable.true h)
