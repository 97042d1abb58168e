-- What is printed so far and what is left are the whole; each call is on a smaller tree.
use Rattle.std.proofs.Common.{◌≡◌, ◌+◌, ◌*◌, ◌++◌, drop, string_bytes}
use Rattle.pure_ast.specs.Types.{nodes_pty, nodes_ptys, ptys}
use Rattle.text_meaning.specs.ShownTypes.{spaced_types, times_types}
use Rattle.lean_printer.proofs.types.+ty.Given as goal

abbrev pub decreases-put_type : goal.decreases-put_type
decreases-put_type l = 2 * nodes_pty l.ty.now

abbrev pub decreases-put_product : goal.decreases-put_product
decreases-put_product l = 2 * nodes_ptys (ptys l.parts.now) + 1

abbrev pub decreases-put_named : goal.decreases-put_named
decreases-put_named l = 2 * nodes_ptys (ptys l.args.now) + 1

abbrev pub decreases-put_spaced_types : goal.decreases-put_spaced_types
decreases-put_spaced_types l = 2 * nodes_ptys (ptys l.parts.now)

abbrev pub decreases-put_times_types : goal.decreases-put_times_types
decreases-put_times_types l = 2 * nodes_ptys (ptys l.parts.now)

abbrev pub invariant-put_spaced_types-loop-part : goal.invariant-put_spaced_types-loop-part
invariant-put_spaced_types-loop-part l =
    string_bytes l.out ++ spaced_types l.defs l.names (ptys (drop l.part-index l.parts)) ≡ string_bytes l.fn.out ++ spaced_types l.defs l.names (ptys l.parts)

abbrev pub invariant-put_times_types-loop-part : goal.invariant-put_times_types-loop-part
invariant-put_times_types-loop-part l =
    string_bytes l.out ++ times_types l.defs l.names (ptys (drop l.part-index l.parts)) ≡ string_bytes l.fn.out ++ times_types l.defs l.names (ptys l.parts)
