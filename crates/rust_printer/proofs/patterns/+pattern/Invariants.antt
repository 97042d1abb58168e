-- What is printed so far and what is left are the whole; each call is on a smaller tree.
use Rattle.std.proofs.Common.{◌≡◌, ◌+◌, ◌*◌, ◌++◌, drop, string_bytes}
use Rattle.rust_ast.specs.SourcePatterns.{nodes_pat, nodes_pats, nodes_fieldpat, nodes_fieldpats, pats, fieldpats}
use Rattle.rust_printer.specs.ShownPatterns.{patterns_text, field_patterns_text}
use Rattle.rust_printer.proofs.patterns.+pattern.Given as goal

abbrev pub decreases-put_pattern : goal.decreases-put_pattern
decreases-put_pattern l = 2 * nodes_pat l.pattern.now

abbrev pub decreases-put_placed : goal.decreases-put_placed
decreases-put_placed l = 2 * nodes_pats (pats l.parts.now) + 1

abbrev pub decreases-put_patterns : goal.decreases-put_patterns
decreases-put_patterns l = 2 * nodes_pats (pats l.parts.now)

abbrev pub decreases-put_field_pattern : goal.decreases-put_field_pattern
decreases-put_field_pattern l = 2 * nodes_fieldpat l.pattern.now

abbrev pub decreases-put_field_patterns : goal.decreases-put_field_patterns
decreases-put_field_patterns l = 2 * nodes_fieldpats (fieldpats l.parts.now)

abbrev pub invariant-put_patterns-loop-part : goal.invariant-put_patterns-loop-part
invariant-put_patterns-loop-part l =
    string_bytes l.out ++ patterns_text (pats (drop l.part-index l.parts)) ≡ string_bytes l.fn.out ++ patterns_text (pats l.parts)

abbrev pub invariant-put_field_patterns-loop-part : goal.invariant-put_field_patterns-loop-part
invariant-put_field_patterns-loop-part l =
    string_bytes l.out ++ field_patterns_text (fieldpats (drop l.part-index l.parts)) ≡ string_bytes l.fn.out ++ field_patterns_text (fieldpats l.parts)
