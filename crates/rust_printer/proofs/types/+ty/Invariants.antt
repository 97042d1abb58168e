-- What is printed so far and what is left are the whole; each call is on a smaller tree.
use Rattle.std.proofs.Common.{◌≡◌, ◌+◌, ◌*◌, ◌++◌, drop, string_bytes}
use Rattle.rust_ast.specs.SourceTypes.{nodes_written, nodes_writtens, writtens}
use Rattle.rust_printer.specs.ShownTypes.{types_text}
use Rattle.rust_printer.proofs.types.+ty.Given as goal

abbrev pub decreases-put_type : goal.decreases-put_type
decreases-put_type l = 2 * nodes_written l.ty.now

abbrev pub decreases-put_arguments : goal.decreases-put_arguments
decreases-put_arguments l = 2 * nodes_writtens (writtens l.args.now) + 1

abbrev pub decreases-put_types : goal.decreases-put_types
decreases-put_types l = 2 * nodes_writtens (writtens l.parts.now)

abbrev pub invariant-put_types-loop-part : goal.invariant-put_types-loop-part
invariant-put_types-loop-part l =
    string_bytes l.out ++ types_text (writtens (drop l.part-index l.parts)) ≡ string_bytes l.fn.out ++ types_text (writtens l.parts)
