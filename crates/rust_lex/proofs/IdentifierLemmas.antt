-- The longest identifier that begins a text.
use Rattle.std.proofs.Common.{◌≡◌, refl, ap, sym, subst, ◌∙◌, ℕ, ◌+◌, ◌-◌, ◌≤◌, Bool, true, false, List, [], ◌∷◌, ◌++◌, length, length-append, length-drop, slice_range, length-take-le, take, drop, Some, None, IsUtf8, chars, encode_utf8_all, arith}
use Rattle.std.specs.Prelude.{◌&&◌, ◌==◌, not, bytes_eq}
use Rattle.std.specs.List.{list_all}
use Rattle.std.specs.Str.{is_utf8}
use Rattle.std.proofs.Math.Utf8.{scalars, encode, encodes}
use Rattle.std.proofs.Math.Seq.{take-append_seam}
use Rattle.std.proofs.lemmas.Bool.{eqb-true}
use Rattle.std.proofs.lemmas.Str.{encodes-chars, chars-encodes, scalars-chars, encodes-append, chars-append, IsUtf8-from_is_utf8, is_utf8-from_IsUtf8, length-le-encodes, char_from_byte, encode_ascii}
use Rattle.unicode_ident.specs.Ident.{is_xid_start, is_xid_continue}
use Rattle.unicode_ident.proofs.IdentLemmas.{is_xid_start-is_xid_continue, is_xid_continue-ascii}
use Rattle.rust_lex.specs.Characters.{begins, front, back}
use Rattle.rust_lex.specs.Identifiers.{starts_identifier, are_identifier, is_identifier, IsIdentifierEnd, NoIdentifier}
use Rattle.rust_lex.specs.Scan.{identifier_length, length_of}
use Rattle.rust_lex.proofs.TestLemmas.{by_test, if_true, and_left, and_right, and_both, or_cases, clash, same_bytes, split, some_same, not_true}
use Rattle.rust_lex.proofs.FrontLemmas.{front_back, all_front, front_append}

-- what may begin an identifier may go on one
pub start_continues : (c : ℕ) → starts_identifier c ≡ true → is_xid_continue c ≡ true
start_continues c h =
    or_cases (is_xid_start c) (c == 95) h (is_xid_start-is_xid_continue c)
    (λ e. ap is_xid_continue (eqb-true c 95 e) ∙ is_xid_continue-ascii 95 (omega arith))

scalars_left : (xs ys : List ℕ) → scalars (xs ++ ys) ≡ true → scalars xs ≡ true
scalars_left [] ys h = refl
scalars_left (x ∷ xs) ys h = and_both _ _ (and_left _ _ h) (scalars_left xs ys (and_right _ _ h))

-- ---- a slice that is an identifier

pub record Spelled (w : List ℕ) : Type 0 where
  pub utf8 : IsUtf8 w
  pub starts : begins starts_identifier (chars w) ≡ true
  pub continues : list_all is_xid_continue (chars w) ≡ true
  pub no_underscore : bytes_eq (chars w) (95 ∷ []) ≡ false

not_false : (b : Bool) → not b ≡ true → b ≡ false
not_false true h = absurd cc
not_false false h = refl

pub spelled : (w : List ℕ) → is_identifier w ≡ true → Spelled w
unfolding is_identifier
spelled w h =
    let a = and_right (is_utf8 w) (are_identifier (chars w)) h in
    let b = and_left (begins starts_identifier (chars w) && list_all is_xid_continue (chars w)) (not (bytes_eq (chars w) (95 ∷ []))) a in
    record {
      utf8 = IsUtf8-from_is_utf8 w (and_left (is_utf8 w) (are_identifier (chars w)) h);
      starts = and_left _ _ b;
      continues = and_right _ _ b;
      no_underscore = not_false (bytes_eq (chars w) (95 ∷ [])) (and_right (begins starts_identifier (chars w) && list_all is_xid_continue (chars w)) _ a);
    }

-- the characters of a slice begin those of the text
pub chars_split : (m : ℕ) (text : List ℕ) → IsUtf8 (take m text) → chars text ≡ chars (take m text) ++ chars (drop m text)
chars_split m text u = ap chars (split m text) ∙ chars-append (take m text) (drop m text) u

begins_more : (p : ℕ → Bool) (xs ys : List ℕ) → begins p xs ≡ true → begins p (xs ++ ys) ≡ true
begins_more p [] ys h = absurd cc
begins_more p (x ∷ xs) ys h = h

pub slice_starts : (m : ℕ) (text : List ℕ) → is_identifier (take m text) ≡ true → begins starts_identifier (chars text) ≡ true
slice_starts m text h =
    let s = spelled (take m text) h in
    ap (begins starts_identifier) (chars_split m text s.utf8) ∙ begins_more starts_identifier (chars (take m text)) (chars (drop m text)) s.starts

slice_front : (m : ℕ) (text : List ℕ) → Spelled (take m text) →
    front is_xid_continue (chars text) ≡ chars (take m text) ++ front is_xid_continue (chars (drop m text))
slice_front m text s =
    ap (front is_xid_continue) (chars_split m text s.utf8) ∙ front_append is_xid_continue (chars (take m text)) (chars (drop m text)) s.continues

-- it is no longer than what is found
pub slice_short : (m : ℕ) (text : List ℕ) → m ≤ length text → is_identifier (take m text) ≡ true →
    m ≤ length (encode_utf8_all (front is_xid_continue (chars text)))
slice_short m text l h =
    let s = spelled (take m text) h in
    let rest = front is_xid_continue (chars (drop m text)) in
    let e = ap (λ x. length (encode_utf8_all x)) (slice_front m text s) ∙ ap length (encodes-append (chars (take m text)) rest) ∙ length-append (encode_utf8_all (chars (take m text))) (encode_utf8_all rest) in
    let k = ap length (encodes-chars (take m text) s.utf8) ∙ length-take-le m text l in
    omega arith

no_start : (p : ℕ → Bool) → begins p [] ≡ true → ⊥
no_start p h = cc

-- where `_` alone is found no slice is an identifier
pub lone_underscore : (m : ℕ) (text : List ℕ) → is_identifier (take m text) ≡ true → bytes_eq (front is_xid_continue (chars text)) (95 ∷ []) ≡ false
lone_underscore m text h =
    let s = spelled (take m text) h in
    not_true _ (λ e. by_chars (chars (take m text)) (front is_xid_continue (chars (drop m text))) (sym (slice_front m text s) ∙ same_bytes _ (95 ∷ []) e) s.starts s.no_underscore)
  where
    by_chars : (xs ys : List ℕ) → xs ++ ys ≡ 95 ∷ [] → begins starts_identifier xs ≡ true → bytes_eq xs (95 ∷ []) ≡ false → ⊥
    by_chars [] ys e h k = no_start starts_identifier h
    by_chars (x ∷ []) ys e h k =
        let p : x ≡ 95 = cc in
        clash (bytes_eq (x ∷ []) (95 ∷ [])) (ap (λ z. bytes_eq (z ∷ []) (95 ∷ [])) p) k
    by_chars (x ∷ y ∷ xs) ys e h k = absurd cc

-- ---- what is found

pub record IsFoundName (text : List ℕ) (n : ℕ) : Type 0 where
  pub within : n ≤ length text
  pub is : is_identifier (take n text) ≡ true
  pub longest : (m : ℕ) → m ≤ length text → is_identifier (take m text) ≡ true → m ≤ n

front_start : (cs : List ℕ) → begins starts_identifier cs ≡ true → begins starts_identifier (front is_xid_continue cs) ≡ true
front_start [] h = absurd cc
front_start (c ∷ cs) h = ap (begins starts_identifier) (if_true (is_xid_continue c) (c ∷ front is_xid_continue cs) [] (start_continues c h)) ∙ h

found_front : (text : List ℕ) → IsUtf8 text → begins starts_identifier (chars text) ≡ true →
    bytes_eq (front is_xid_continue (chars text)) (95 ∷ []) ≡ false → IsFoundName text (length (encode_utf8_all (front is_xid_continue (chars text))))
unfolding is_identifier
found_front text u s n =
    let f = front is_xid_continue (chars text) in
    let b = back is_xid_continue (chars text) in
    let whole = front_back is_xid_continue (chars text) in
    let e = sym (encodes-chars text u) ∙ ap encode_utf8_all (sym whole) ∙ encodes-append f b in
    let sc = scalars_left f b (ap scalars whole ∙ scalars-chars text u) in
    let t = ap (take (length (encode_utf8_all f))) e ∙ take-append_seam (encode_utf8_all f) (encode_utf8_all b) in
    let c = chars-encodes f sc in
    let l = ap length e ∙ length-append (encode_utf8_all f) (encode_utf8_all b) in
    let nn : not (bytes_eq f (95 ∷ [])) ≡ true = ap not n in
    record {
      within = omega arith;
      is = ap is_identifier t ∙ and_both (is_utf8 (encode_utf8_all f)) (are_identifier (chars (encode_utf8_all f))) (is_utf8-from_IsUtf8 (encode_utf8_all f) (f, (sc, refl)))
          (ap are_identifier c ∙ and_both _ _ (and_both _ _ (front_start (chars text) s) (all_front is_xid_continue (chars text))) nn);
      longest = λ m k h. slice_short m text k h;
    }

pub name_found : (text : List ℕ) (n : ℕ) → IsUtf8 text → identifier_length text ≡ Some n → IsFoundName text n
unfolding identifier_length
name_found text n u h =
    by_test (begins starts_identifier (chars text)) (length_of (front is_xid_continue (chars text))) None (Some n) h
    (λ s e. by_test (bytes_eq (front is_xid_continue (chars text)) (95 ∷ [])) None (Some (length (encode_utf8_all (front is_xid_continue (chars text))))) (Some n) e
    (λ t e. absurd cc)
    (λ t e. subst (IsFoundName text) (some_same _ n e) (found_front text u s t)))
    (λ s e. absurd cc)

pub name_none : (text : List ℕ) (m : ℕ) → identifier_length text ≡ None → is_identifier (take m text) ≡ false
unfolding identifier_length
name_none text m h =
    not_true (is_identifier (take m text)) (λ k.
    by_test (begins starts_identifier (chars text)) (length_of (front is_xid_continue (chars text))) None None h
    (λ s e. by_test (bytes_eq (front is_xid_continue (chars text)) (95 ∷ [])) None (Some (length (encode_utf8_all (front is_xid_continue (chars text))))) None e
    (λ t e. clash (bytes_eq (front is_xid_continue (chars text)) (95 ∷ [])) t (lone_underscore m text k))
    (λ t e. absurd cc))
    (λ s e. clash (begins starts_identifier (chars text)) (slice_starts m text k) s))

-- ---- the code's test for `_` alone

no_more : (cs : List ℕ) → length (encodes cs) ≡ 0 → cs ≡ []
no_more [] h = refl
no_more (c ∷ cs) h = let l = length-le-encodes (c ∷ cs) in absurd (omega arith)

both_equal : (a b : Bool) → (a ≡ true → b ≡ true) → (b ≡ true → a ≡ true) → a ≡ b
both_equal true b f g = sym (f refl)
both_equal false true f g = g refl
both_equal false false f g = refl

-- the first character is the first byte where that is `_`
first_line : (k : ℕ) (rest text : List ℕ) → encode k ++ rest ≡ text → begins (λ d. d == 95) text ≡ true → k ≡ 95
first_line k rest [] e h = absurd cc
first_line k rest (c ∷ cs) e h =
    let x = eqb-true c 95 h in
    char_from_byte (c ∷ cs) rest k (sym e) (omega arith) (omega arith) ∙ x

alone_from : (k : ℕ) (fs ks text : List ℕ) → encode k ++ encodes ks ≡ text → (length (encode k ++ encodes fs) == 1) ≡ true → begins (λ d. d == 95) text ≡ true →
    bytes_eq (k ∷ fs) (95 ∷ []) ≡ true
alone_from k fs ks text e h b =
    let p = first_line k (encodes ks) text e b in
    let w : length (encode k) ≡ 1 = ap (λ x. length (encode x)) p ∙ ap length (encode_ascii 95 (omega arith)) in
    let q = eqb-true (length (encode k ++ encodes fs)) 1 h in
    let l = length-append (encode k) (encodes fs) in
    let n = no_more fs (omega arith) in
    ap (λ x. bytes_eq (x ∷ fs) (95 ∷ [])) p ∙ ap (λ x. bytes_eq (95 ∷ x) (95 ∷ [])) n

alone_to : (k : ℕ) (fs ks text : List ℕ) → encode k ++ encodes ks ≡ text → bytes_eq (k ∷ fs) (95 ∷ []) ≡ true →
    ((length (encode k ++ encodes fs) == 1) && begins (λ d. d == 95) text) ≡ true
alone_to k fs ks text e h =
    let s = same_bytes (k ∷ fs) (95 ∷ []) h in
    let p : k ≡ 95 = cc in
    let n : fs ≡ [] = cc in
    let a : encode k ≡ 95 ∷ [] = ap encode p ∙ encode_ascii 95 (omega arith) in
    and_both (length (encode k ++ encodes fs) == 1) (begins (λ d. d == 95) text)
    (ap (λ x. length (x ++ encodes fs) == 1) a ∙ ap (λ x. length ((95 ∷ []) ++ encodes x) == 1) n)
    (ap (begins (λ d. d == 95)) (sym e) ∙ ap (λ x. begins (λ d. d == 95) (x ++ encodes ks)) a)

lone_by : (cs : List ℕ) (text : List ℕ) → encodes cs ≡ text → begins starts_identifier cs ≡ true →
    ((length (encodes (front is_xid_continue cs)) == 1) && begins (λ d. d == 95) text) ≡ bytes_eq (front is_xid_continue cs) (95 ∷ [])
lone_by [] text e h = absurd cc
lone_by (k ∷ ks) text e h =
    let f = if_true (is_xid_continue k) (k ∷ front is_xid_continue ks) [] (start_continues k h) in
    let P : List ℕ → Type 0 = λ x. ((length (encodes x) == 1) && begins (λ d. d == 95) text) ≡ bytes_eq x (95 ∷ []) in
    let r : P (k ∷ front is_xid_continue ks) =
    both_equal ((length (encodes (k ∷ front is_xid_continue ks)) == 1) && begins (λ d. d == 95) text) (bytes_eq (k ∷ front is_xid_continue ks) (95 ∷ []))
    (λ t. alone_from k (front is_xid_continue ks) ks text e (and_left (length (encodes (k ∷ front is_xid_continue ks)) == 1) (begins (λ d. d == 95) text) t)
    (and_right (length (encodes (k ∷ front is_xid_continue ks)) == 1) (begins (λ d. d == 95) text) t))
    (λ t. alone_to k (front is_xid_continue ks) ks text e t) in
    subst P (sym f) r

pub lone_test : (text : List ℕ) → IsUtf8 text → begins starts_identifier (chars text) ≡ true →
    ((length (encode_utf8_all (front is_xid_continue (chars text))) == 1) && begins (λ d. d == 95) text) ≡ bytes_eq (front is_xid_continue (chars text)) (95 ∷ [])
lone_test text u h = lone_by (chars text) text (encodes-chars text u) h

-- ---- an identifier inside a text

slice_at : (text : List ℕ) (at m : ℕ) → slice_range text at m ≡ take (m - at) (drop at text)
slice_at text at m = refl

pub end_found : (text : List ℕ) (at n : ℕ) → at ≤ length text → IsUtf8 (drop at text) → identifier_length (drop at text) ≡ Some n → IsIdentifierEnd at (at + n) text
end_found text at n l u h =
    let r = name_found (drop at text) n u h in
    let w = r.within in
    let d = length-drop at text in
    let e : at + n - at ≡ n = omega arith in
    record {
      after = omega arith;
      within = omega arith;
      is = ap (λ k. is_identifier (take k (drop at text))) e ∙ r.is;
      longest = λ m a k i. let x : m - at ≤ n = r.longest (m - at) (omega arith) i in omega arith;
    }

pub end_none : (text : List ℕ) (at : ℕ) → identifier_length (drop at text) ≡ None → NoIdentifier at text
end_none text at h m a k = name_none (drop at text) (m - at) h
