-- What is printed so far and what is left are the whole.
use Rattle.std.proofs.Common.{◌≡◌, ◌++◌, drop, string_bytes}
use Rattle.rust_printer.specs.Shown.{params_text}
use Rattle.rust_printer.proofs.items.put_params.Given as goal

abbrev pub invariant-loop-param : goal.invariant-loop-param
invariant-loop-param l = string_bytes l.out ++ params_text (drop l.param-index l.params) ≡ string_bytes l.fn.out ++ params_text l.params
