-- A function has no more parameters than variables.
use Rattle.std.proofs.Common.{◌≡◌, ◌≤◌, true, length, arith, rules}
use Rattle.rust_sums.specs.Sums.{has_plain_signature}
use Rattle.rust_sums.proofs.Typed.{within}
use Rattle.rust_sums.proofs.functions.function.Goals as goal

pub overflow_cast-parameters : goal.overflow_cast-parameters
overflow_cast-parameters c =
    let h : length c.args.f.now.params ≤ length c.args.f.now.variables = within c.args.f.now (search rules) in
    omega (arith, h, c.requires)
