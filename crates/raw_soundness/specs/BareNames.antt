-- A bare word is ASCII, and so a name.
use Rattle.std.proofs.Common.{◌≡◌, refl, ap, sym, ◌∙◌, ℕ, zero, suc, ◌<◌, Bool, true, false, List, [], ◌∷◌, All, arith}
use Rattle.std.specs.Prelude.{◌&&◌, ◌||◌, ◌==◌, nat_le, not, bytes_eq}
use Rattle.std.specs.List.{list_all}
use Rattle.std.specs.Str.{IsAscii}
use Rattle.std.proofs.lemmas.Bool.Decides.{nat_tests}
use Rattle.std.proofs.lemmas.Str.{chars-IsAscii, IsUtf8-from_ascii}
use Rattle.unicode_ident.proofs.IdentLemmas.{is_xid_start-ascii, is_xid_continue-ascii}
use Rattle.unicode_ident.specs.Ident.{is_xid_continue}
use Rattle.unicode_normalization.proofs.FormsLemmas.{normalize-ascii}
use Rattle.unicode_normalization.specs.Forms.{nfc}
use Rattle.text_meaning.specs.Names.{IsName, begins, starts_identifier, is_identifier, is_word_start, is_word_byte, is_bare}
use Rattle.text_syntax.specs.Among.{and_left, and_right}

and_true : (a b : Bool) → a ≡ true → b ≡ true → a && b ≡ true
and_true true b h g = g
and_true false b h g = absurd cc

byte_small : (c : ℕ) → is_word_byte c ≡ true → c < 128
byte_small c h = grind (arith, nat_tests)

start_byte : (c : ℕ) → is_word_start c ≡ true → is_word_byte c ≡ true
start_byte c h = rw h refl

byte_starts : (c : ℕ) → is_word_start c ≡ true → starts_identifier c ≡ true
byte_starts c h = ap (λ b. b || (c == 95)) (is_xid_start-ascii c (byte_small c (start_byte c h))) ∙ h

continues : (up low under digit : Bool) → (((up || low) || under) || digit) ≡ true → (((digit || up) || low) || under) ≡ true
continues true low under true h = refl
continues true low under false h = refl
continues false true under true h = refl
continues false true under false h = refl
continues false false true true h = refl
continues false false true false h = refl
continues false false false true h = refl
continues false false false false h = h

byte_continues : (c : ℕ) → is_word_byte c ≡ true → is_xid_continue c ≡ true
byte_continues c h =
    is_xid_continue-ascii c (byte_small c h) ∙ continues (nat_le 65 c && nat_le c 90) (nat_le 97 c && nat_le c 122) (c == 95) (nat_le 48 c && nat_le c 57) h

word_begins : (w : List ℕ) → begins is_word_start w ≡ true → begins starts_identifier w ≡ true
word_begins [] h = h
word_begins (c ∷ cs) h = byte_starts c h

bytes_continue : (w : List ℕ) → list_all is_word_byte w ≡ true → list_all is_xid_continue w ≡ true
bytes_continue [] h = refl
bytes_continue (c ∷ cs) h = and_true _ _ (byte_continues c (and_left _ _ h)) (bytes_continue cs (and_right (is_word_byte c) _ h))

bytes_small : (w : List ℕ) → list_all is_word_byte w ≡ true → All (λ c. c < 128) w
bytes_small [] h k d lt = absurd (omega arith)
bytes_small (c ∷ cs) h zero d lt = byte_small c (and_left _ _ h)
bytes_small (c ∷ cs) h (suc k) d lt = bytes_small cs (and_right (is_word_byte c) _ h) k d (omega arith)

bytes_ascii : (w : List ℕ) → list_all is_word_byte w ≡ true → IsAscii w
bytes_ascii [] h i = omega arith
bytes_ascii (c ∷ cs) h zero = byte_small c (and_left _ _ h)
bytes_ascii (c ∷ cs) h (suc i) = bytes_ascii cs (and_right (is_word_byte c) _ h) i

pub bare_name : (w : List ℕ) → is_bare w ≡ true → IsName w
bare_name w h =
    let plain : ((begins is_word_start w && list_all is_word_byte w) && not (bytes_eq w (95 ∷ []))) ≡ true = and_left _ _ h in
    let both : (begins is_word_start w && list_all is_word_byte w) ≡ true = and_left _ _ plain in
    let bytes = and_right (begins is_word_start w) _ both in
    let same = chars-IsAscii w (bytes_ascii w bytes) in
    record {
      utf8 = IsUtf8-from_ascii w (bytes_ascii w bytes);
      identifier = ap is_identifier same
          ∙ and_true _ _ (and_true _ _ (word_begins w (and_left _ _ both)) (bytes_continue w bytes)) (and_right (begins is_word_start w && list_all is_word_byte w) _ plain);
      normal = ap nfc same ∙ normalize-ascii _ w (bytes_small w bytes) ∙ sym same;
    }
