use Rattle.std.proofs.Common.{◌≡◌, ◌+◌, length, chars, encode_utf8_all}
use denote.Text.{Utf8}
use denote.Shadow.{shadow}
use Rattle.unicode_ident.specs.Ident.{is_xid_continue}
use Rattle.rust_lex.specs.Characters.{front}
use Rattle.rust_lex.proofs.identifiers.continued_length.Given as goal

abbrev pub invariant-loop-c : goal.invariant-loop-c
invariant-loop-c l =
    shadow (Utf8 l.rest)
    × (l.count + length l.rest ≡ length l.fn.text)
    × (l.count + length (encode_utf8_all (front is_xid_continue (chars l.rest))) ≡ length (encode_utf8_all (front is_xid_continue (chars l.fn.text))))

abbrev pub decreases-loop-c : goal.decreases-loop-c
decreases-loop-c l = length l.rest
