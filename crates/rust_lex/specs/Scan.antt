-- How the lexer finds what begins a text: the length of each form, and one step.
use Rattle.std.specs.Prelude.{ℕ, suc, zero, ◌+◌, ◌-◌, ◌*◌, nat_le, Bool, true, false, ◌&&◌, ◌==◌, if◌then◌else◌, List, [], ◌∷◌, Option, Some, None, length, take, drop, bytes_eq, chars, encode_utf8_all}
use Rattle.std.specs.Option.{option_map}
use Rattle.std.specs.Char.{is_ascii_digit, digit_value, encode_utf8}
use Rattle.unicode_ident.specs.Ident.{is_xid_continue}
use Rattle.aen_base.specs.declared.int_ty.IntTy.{IntTy}
use Rattle.rust_lex.specs.declared.token.Kind.{Kind}
use Rattle.rust_lex.specs.declared.token.Form.{Form}
use Rattle.rust_lex.specs.declared.token.Form.TheVariants.{Identifier, Lifetime, Number, Quoted, Mark}
use Rattle.rust_lex.specs.declared.step.Step.{Step}
use Rattle.rust_lex.specs.declared.step.Step.TheVariants as S
use Rattle.rust_lex.specs.Characters.{begins, front, is_white, in_line}
use Rattle.rust_lex.specs.Words.{int_types, int_word}
use Rattle.rust_lex.specs.Identifiers.{starts_identifier, is_named, name_of}
use Rattle.rust_lex.specs.Numbers.{base_of, prefix_length, after_prefix, is_digit_of, digits_of, suffix_of}
use Rattle.rust_lex.specs.Punctuation.{is_mark}
use Rattle.rust_lex.specs.Comments.{begins_line_comment, begins_block_comment}
use Rattle.rust_lex.specs.Lexing.{kind_of}

-- what stands behind a string, from behind its first `"` on
abbrev pub after_string : Bool → List ℕ → Option (List ℕ)
after_string taken [] = None
after_string true (c ∷ cs) = after_string false cs
after_string false (c ∷ cs) = if c == 34 then Some cs else after_string (c == 92) cs

-- what stands behind a comment, from behind its `/*` on, with so many comments open inside it
abbrev pub closed : ℕ → (ℕ → Option (List ℕ)) → List ℕ → Option (List ℕ)
closed zero further rest = Some rest
closed (suc d) further rest = further d

-- what the comment is in the byte that is looked at: the second one of `/*` or `*/`
unfoldable pub after_comment : ℕ → List ℕ → Option (List ℕ)
after_comment d [] = None
after_comment d (c ∷ []) = None
after_comment d (c ∷ e ∷ cs) =
    if (c == 47) && (e == 42) then after_comment (suc d) cs
    else (if (c == 42) && (e == 47) then closed d (λ n. after_comment n cs) cs
    else after_comment d (e ∷ cs))

-- the length of the integer that begins a text which begins with a digit
abbrev pub begins_word : List ℕ → List ℕ → Bool
begins_word w text = bytes_eq w (take (length w) text)

abbrev pub suffix_among : List ℕ → List IntTy → Option IntTy
suffix_among text [] = None
suffix_among text (t ∷ ts) = if begins_word (int_word t) text then Some t else suffix_among text ts

abbrev pub suffix_length : Option IntTy → ℕ
suffix_length None = 0
suffix_length (Some t) = length (int_word t)

unfoldable pub number_length : Bool → List ℕ → ℕ
number_length true text = length (front is_ascii_digit text)
number_length false text =
    if begins (is_digit_of (base_of text)) (after_prefix text)
    then prefix_length (base_of text) + length (digits_of text) + suffix_length (suffix_among (suffix_of text) int_types)
    else 1

-- the number that one more digit makes of a number; `_` makes nothing
abbrev pub with_digit : ℕ → ℕ → ℕ → ℕ
with_digit base n c = if c == 95 then n else n * base + digit_value c

-- the length of the identifier that begins a text
abbrev pub length_of : List ℕ → Option ℕ
length_of cs = if bytes_eq cs (95 ∷ []) then None else Some (length (encode_utf8_all cs))

unfoldable pub identifier_length : List ℕ → Option ℕ
identifier_length text = if begins starts_identifier (chars text) then length_of (front is_xid_continue (chars text)) else None

-- the name of an identifier, where its NFC is an identifier too
abbrev pub identifier_name : List ℕ → Option (List ℕ)
identifier_name w = if is_named w then Some (name_of w) else None

-- the length of what follows `'` in a lifetime
abbrev pub or_underscore : Option ℕ → List ℕ → Option ℕ
or_underscore (Some n) text = Some n
or_underscore None text = if begins (λ c. c == 95) text then Some 1 else None

abbrev pub lifetime_length : List ℕ → Option ℕ
lifetime_length text = or_underscore (identifier_length text) text

-- the length of the punctuation that begins a text
abbrev pub is_mark_of : ℕ → List ℕ → Bool
is_mark_of n text = nat_le n (length text) && is_mark (take n text)

abbrev pub mark_length : List ℕ → Option ℕ
mark_length text =
    if is_mark_of 3 text then Some 3
    else (if is_mark_of 2 text then Some 2
    else (if is_mark_of 1 text then Some 1 else None))

-- the longest slice of a token's form that begins a text: the form and the length
abbrev pub Found : Type 0
Found = Option (Form × ℕ)

abbrev pub of_form : Form → Option ℕ → Found
of_form form o = option_map (λ n. (form, n)) o

abbrev pub next_count : Option ℕ → Option ℕ
next_count o = option_map (λ n. suc n) o

abbrev pub or_mark : Option ℕ → List ℕ → Found
or_mark (Some n) text = Some (Identifier, n)
or_mark None text = of_form Mark (mark_length text)

abbrev pub before_rest : ℕ → Option (List ℕ) → Option ℕ
before_rest all o = option_map (λ rest. all - length rest) o

unfoldable pub found : Bool → List ℕ → Found
found after_dot text =
    if bytes_eq text [] then None
    else (if begins is_ascii_digit text then Some (Number, number_length after_dot text)
    else (if begins (λ c. c == 34) text then of_form Quoted (before_rest (length text) (after_string false (drop 1 text)))
    else (if begins (λ c. c == 39) text then of_form Lifetime (next_count (lifetime_length (drop 1 text)))
    else or_mark (identifier_length text) text)))

-- the length of the first character
abbrev pub first_width : List ℕ → ℕ
first_width [] = 0
first_width (c ∷ cs) = length (encode_utf8 c)

-- what begins a text
abbrev pub of_kind : Option Kind → ℕ → Step
of_kind None n = S.Fault n
of_kind (Some kind) n = S.Token kind n

abbrev pub step_found : Found → List ℕ → Step
step_found (Some p) text = of_kind (kind_of p.0 (take p.1 text)) p.1
step_found None text = if begins (λ c. c == 34) text then S.Fault (length text) else S.Fault (first_width (chars text))

abbrev pub step_comment : Option ℕ → List ℕ → Step
step_comment None text = S.Fault (length text)
step_comment (Some n) text = S.Gap n

unfoldable pub step : Bool → List ℕ → Step
step after_dot text =
    if bytes_eq text [] then S.End
    else (if begins is_white text then S.Gap 1
    else (if begins_line_comment text then S.Gap (length (front in_line text))
    else (if begins_block_comment text then step_comment (before_rest (length text) (after_comment 0 (drop 2 text))) text
    else step_found (found after_dot text) text)))
