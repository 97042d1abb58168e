-- So many spaces are printed.
use Rattle.std.proofs.Common.{◌≡◌, ◌++◌, string_bytes}
use Rattle.text_meaning.specs.ShownCode.{new_line}
use Rattle.lean_printer.proofs.put.put_line.Given as goal

abbrev pub invariant-loop-space : goal.invariant-loop-space
invariant-loop-space l = string_bytes l.out ≡ string_bytes l.fn.out ++ new_line l._space
