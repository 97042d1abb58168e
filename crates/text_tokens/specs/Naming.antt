-- Whether a text is a name: the normal form of an identifier (TEXT.md, "Names").
use Rattle.std.specs.Prelude.{ℕ, Bool, ◌&&◌, List, bytes_eq, chars}
use Rattle.std.specs.Str.{is_utf8}
use Rattle.unicode_normalization.specs.Forms.{nfc}
use Rattle.text_meaning.specs.Names.{is_identifier}

unfoldable pub is_name : List ℕ → Bool
is_name w = is_utf8 w && (is_identifier (chars w) && bytes_eq (nfc (chars w)) (chars w))
