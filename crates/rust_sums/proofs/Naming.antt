-- A text that passes the test is a name.
use Rattle.std.proofs.Common.{◌≡◌, refl, sym, ap, ◌∙◌, ℕ, Bool, true, false, List}
use Rattle.std.specs.Prelude.{◌&&◌, bytes_eq, chars}
use Rattle.std.specs.Str.{IsUtf8, is_utf8}
use Rattle.std.proofs.lemmas.Bool.{and_parts}
use Rattle.std.proofs.lemmas.Str.{is_utf8-from_IsUtf8, IsUtf8-from_is_utf8}
use Rattle.std.proofs.lemmas.Slice.Eq.{bytes_eq-Decides}
use Rattle.unicode_normalization.specs.Forms.{nfc}
use Rattle.text_meaning.specs.Names.{IsName, is_identifier}
use Rattle.text_tokens.specs.Naming.{is_name}

pub name_is : (n : List ℕ) → is_name n ≡ true → IsName n
unfolding is_name
name_is n h =
    let whole = and_parts (is_utf8 n) (is_identifier (chars n) && bytes_eq (nfc (chars n)) (chars n)) h in
    let rest = and_parts (is_identifier (chars n)) (bytes_eq (nfc (chars n)) (chars n)) whole.1 in
    record { utf8 = IsUtf8-from_is_utf8 n whole.0; identifier = rest.0; normal = (bytes_eq-Decides (nfc (chars n)) (chars n)).0 rest.1 }
