-- One step takes what the text begins with, and nothing else can be taken.
use Rattle.std.proofs.Common.{◌≡◌, refl, ap, sym, subst, ◌∙◌, ℕ, zero, suc, ◌-◌, ◌≤◌, Bool, true, false, List, [], ◌∷◌, ◌++◌, length, length-append, length-drop, length-take-le, take, drop, take-append-drop, Option, Some, None, IsUtf8, chars, encode_utf8, arith}
use Rattle.std.specs.Prelude.{◌==◌}
use Rattle.std.specs.List.{list_all}
use Rattle.std.proofs.Math.Utf8.{encode, encodes}
use Rattle.std.proofs.lemmas.Bool.{eqb-true}
use Rattle.std.proofs.lemmas.Bool.Decides.{nat_tests}
use Rattle.std.proofs.lemmas.Str.{encodes-chars, encode_same, length-encode, len_utf8_bounds}
use Rattle.rust_lex.specs.declared.token.Kind.{Kind}
use Rattle.rust_lex.specs.declared.token.Form.{Form}
use Rattle.rust_lex.specs.declared.token.Form.TheVariants.{Identifier, Lifetime, Number, Quoted, Mark}
use Rattle.rust_lex.specs.declared.step.Step.{Step}
use Rattle.rust_lex.specs.declared.step.Step.TheVariants as S
use Rattle.rust_lex.specs.Characters.{begins, front, is_white, in_line}
use Rattle.rust_lex.specs.Comments.{Closes, Gap, white, line, block, begins_comment, begins_line_comment, begins_block_comment}
use Rattle.rust_lex.specs.Lexing.{is_form, is_string, kind_of, IsLongest, IsToken, IsFault, string, comment, malformed, stray}
use Rattle.rust_lex.specs.Scan.{Found, found, step, step_found, step_comment, before_rest, after_comment, first_width, of_kind}
use Rattle.rust_lex.proofs.TestLemmas.{choose, if_true, if_false, and_left, and_right, clash, not_true, or_left, or_right, some_same}
use Rattle.rust_lex.proofs.FrontLemmas.{drop_front, front_length, all_front, begins_back, front_all, take_front}
use Rattle.rust_lex.proofs.StringLemmas.{Stands}
use Rattle.rust_lex.proofs.CommentLemmas.{read_through, comment_comes, closes_behind}
use Rattle.rust_lex.proofs.FirstBytes.{fits_first, first_fits, no_form}
use Rattle.rust_lex.proofs.LongestSlices.{IsFound, is_found, by_first, only_quoted, none_of, longest_found, none_found}

abbrev pub IsStep : Bool → List ℕ → Step → Type 0
IsStep dot text S.End = text ≡ []
IsStep dot text (S.Gap n) = Gap n text
IsStep dot text (S.Token kind n) = IsToken dot n kind text
IsStep dot text (S.Fault n) = IsFault dot n text

neither : (text : List ℕ) → begins_line_comment text ≡ false → begins_block_comment text ≡ false → begins_comment text ≡ false
neither text h k = rw (h, k) refl

-- ---- the step is right

line_step : (text : List ℕ) → begins_line_comment text ≡ true → Gap (length (front in_line text)) text
line_step text h =
    line h (front_length in_line text) (ap (list_all in_line) (take_front in_line text) ∙ all_front in_line text)
    (ap (begins in_line) (drop_front in_line text) ∙ begins_back in_line text)

closed_gap : (c : ℕ) (cs rest : List ℕ) (k : ℕ) → begins_block_comment (c ∷ cs) ≡ true → Closes (drop 1 cs) rest → Stands k (drop 1 cs) rest →
    Gap (length (c ∷ cs) - length rest) (c ∷ cs)
closed_gap c [] rest k h closes s = absurd (clash (begins (λ d. d == 42) []) (and_right (c == 47) (begins (λ d. d == 42) []) h) refl)
closed_gap c (d ∷ cs) rest k h closes s =
    let w = s.within in
    let l = ap length (sym s.left) ∙ length-drop k cs in
    let e : length (c ∷ d ∷ cs) - length rest ≡ suc (suc k) = omega arith in
    subst (λ n. Gap n (c ∷ d ∷ cs)) (sym e) (block h (omega arith) (subst (Closes cs) (sym s.left) closes))

block_step : (dot : Bool) (c : ℕ) (cs : List ℕ) → begins_block_comment (c ∷ cs) ≡ true →
    IsStep dot (c ∷ cs) (step_comment (before_rest (length (c ∷ cs)) (after_comment 0 (drop 1 cs))) (c ∷ cs))
block_step dot c cs h = by_end (after_comment 0 (drop 1 cs)) refl
  where
    by_end : (o : Option (List ℕ)) → after_comment 0 (drop 1 cs) ≡ o → IsStep dot (c ∷ cs) (step_comment (before_rest (length (c ∷ cs)) o) (c ∷ cs))
    by_end None e = comment h (λ rest k. let x : Some rest ≡ None = sym (read_through (drop 1 cs) rest k 0) ∙ e in cc)
    by_end (Some rest) e =
        let m = comment_comes (length (drop 1 cs)) 0 (drop 1 cs) rest (omega arith) e in
        let closes : Closes (drop 1 cs) rest = subst (Closes (drop 1 cs)) (some_same m.rest rest m.further) m.closes in
        let b = closes_behind (drop 1 cs) rest closes in
        closed_gap c cs rest b.count h closes b.stands

found_step : (dot : Bool) (c : ℕ) (cs : List ℕ) (o : Found) → IsUtf8 (c ∷ cs) → is_white c ≡ false → begins_comment (c ∷ cs) ≡ false →
    IsFound dot (c ∷ cs) o → IsStep dot (c ∷ cs) (step_found o (c ∷ cs))
found_step dot c cs (Some p) u w n f = by_kind (kind_of p.0 (take p.1 (c ∷ cs))) refl
  where
    by_kind : (o : Option Kind) → kind_of p.0 (take p.1 (c ∷ cs)) ≡ o → IsStep dot (c ∷ cs) (of_kind o p.1)
    by_kind None e = malformed p.0 f n e
    by_kind (Some k) e = record { form = p.0; longest = f; no_comment = n; is_kind = e }
found_step dot c cs None u w n f =
    choose (IsStep dot (c ∷ cs)) (c == 34) (S.Fault (length (c ∷ cs))) (S.Fault (first_width (chars (c ∷ cs))))
    (λ h. string h (λ m l. f Quoted m l))
    (λ h. by_chars (chars (c ∷ cs)) (encodes-chars (c ∷ cs) u) h)
  where
    by_chars : (ks : List ℕ) → encodes ks ≡ c ∷ cs → (c == 34) ≡ false → IsFault dot (first_width ks) (c ∷ cs)
    by_chars [] e h = absurd cc
    by_chars (k ∷ ks) e h = stray k (encodes ks) (sym e) w n h f

pub step_right : (dot : Bool) (text : List ℕ) → IsUtf8 text → IsStep dot text (step dot text)
unfolding step
step_right dot [] u = refl
step_right dot (c ∷ cs) u =
    choose (IsStep dot (c ∷ cs)) (is_white c) _ _ (λ h. white h) (λ w.
    choose (IsStep dot (c ∷ cs)) (begins_line_comment (c ∷ cs)) _ _ (line_step (c ∷ cs)) (λ l.
    choose (IsStep dot (c ∷ cs)) (begins_block_comment (c ∷ cs)) _ _ (block_step dot c cs) (λ b.
    found_step dot c cs (found dot (c ∷ cs)) u w (neither (c ∷ cs) l b) (is_found dot (c ∷ cs) u))))

-- ---- and no other

white_step : (dot : Bool) (c : ℕ) (cs : List ℕ) → is_white c ≡ true → step dot (c ∷ cs) ≡ S.Gap 1
unfolding step
white_step dot c cs h = if_true (is_white c) (S.Gap 1) _ h

comment_step : (dot : Bool) (c : ℕ) (cs : List ℕ) → is_white c ≡ false → begins_line_comment (c ∷ cs) ≡ true → step dot (c ∷ cs) ≡ S.Gap (length (front in_line (c ∷ cs)))
unfolding step
comment_step dot c cs w h = if_false (is_white c) (S.Gap 1) _ w ∙ if_true (begins_line_comment (c ∷ cs)) _ _ h

nested_step : (dot : Bool) (c : ℕ) (cs : List ℕ) → is_white c ≡ false → begins_line_comment (c ∷ cs) ≡ false → begins_block_comment (c ∷ cs) ≡ true →
    step dot (c ∷ cs) ≡ step_comment (before_rest (length (c ∷ cs)) (after_comment 0 (drop 1 cs))) (c ∷ cs)
unfolding step
nested_step dot c cs w l h =
    if_false (is_white c) (S.Gap 1) _ w ∙ if_false (begins_line_comment (c ∷ cs)) _ _ l ∙ if_true (begins_block_comment (c ∷ cs)) _ _ h

other_step : (dot : Bool) (c : ℕ) (cs : List ℕ) → is_white c ≡ false → begins_comment (c ∷ cs) ≡ false → step dot (c ∷ cs) ≡ step_found (found dot (c ∷ cs)) (c ∷ cs)
unfolding step
other_step dot c cs w n =
    if_false (is_white c) (S.Gap 1) _ w ∙ if_false (begins_line_comment (c ∷ cs)) _ _ (or_left (begins_line_comment (c ∷ cs)) (begins_block_comment (c ∷ cs)) n)
    ∙ if_false (begins_block_comment (c ∷ cs)) _ _ (or_right (begins_line_comment (c ∷ cs)) (begins_block_comment (c ∷ cs)) n)

slash_white : (c : ℕ) → (c == 47) ≡ true → is_white c ≡ false
slash_white c h = ap is_white (eqb-true c 47 h)

line_only : (dot : Bool) (n : ℕ) (text : List ℕ) → begins_line_comment text ≡ true → n ≤ length text → list_all in_line (take n text) ≡ true →
    begins in_line (drop n text) ≡ false → step dot text ≡ S.Gap n
line_only dot n [] h l a b = absurd cc
line_only dot n (c ∷ cs) h l a b =
    let f = ap (front in_line) (sym (take-append-drop n (c ∷ cs))) ∙ front_all in_line (take n (c ∷ cs)) (drop n (c ∷ cs)) a b in
    let t = length-take-le n (c ∷ cs) l in
    comment_step dot c cs (slash_white c (and_left (c == 47) _ h)) h ∙ ap (λ x. S.Gap x) (ap length f ∙ t)

star_slash : (cs : List ℕ) → begins (λ d. d == 42) cs ≡ true → begins (λ d. d == 47) cs ≡ false
star_slash [] h = refl
star_slash (d ∷ cs) h = ap (λ x. x == 47) (eqb-true d 42 h)

block_no_line : (c : ℕ) (cs : List ℕ) → begins_block_comment (c ∷ cs) ≡ true → begins_line_comment (c ∷ cs) ≡ false
block_no_line c cs h =
    let s = star_slash cs (and_right (c == 47) (begins (λ d. d == 42) cs) h) in
    not_true (begins_line_comment (c ∷ cs)) (λ k. clash (begins (λ d. d == 47) cs) (and_right (c == 47) (begins (λ d. d == 47) cs) k) s)

block_only : (dot : Bool) (n : ℕ) (text : List ℕ) → begins_block_comment text ≡ true → n ≤ length text → Closes (drop 2 text) (drop n text) → step dot text ≡ S.Gap n
block_only dot n [] h l k = absurd cc
block_only dot n (c ∷ cs) h l k =
    let r = read_through (drop 1 cs) (drop n (c ∷ cs)) k 0 in
    let d = length-drop n (c ∷ cs) in
    let e : length (c ∷ cs) - length (drop n (c ∷ cs)) ≡ n = omega arith in
    nested_step dot c cs (slash_white c (and_left (c == 47) _ h)) (block_no_line c cs h) h
    ∙ ap (λ o. step_comment (before_rest (length (c ∷ cs)) o) (c ∷ cs)) r ∙ ap (λ x. S.Gap x) e

open_only : (dot : Bool) (text : List ℕ) → begins_block_comment text ≡ true → ((rest : List ℕ) → Closes (drop 2 text) rest → ⊥) → step dot text ≡ S.Fault (length text)
open_only dot [] h k = absurd cc
open_only dot (c ∷ cs) h k =
    nested_step dot c cs (slash_white c (and_left (c == 47) _ h)) (block_no_line c cs h) h
    ∙ ap (λ o. step_comment (before_rest (length (c ∷ cs)) o) (c ∷ cs)) (by_end (after_comment 0 (drop 1 cs)) refl)
  where
    by_end : (o : Option (List ℕ)) → after_comment 0 (drop 1 cs) ≡ o → o ≡ None
    by_end None e = refl
    by_end (Some rest) e =
        let m = comment_comes (length (drop 1 cs)) 0 (drop 1 cs) rest (omega arith) e in
        absurd (k m.rest m.closes)

-- no form begins with white space
ink : (dot : Bool) (f : Form) (c : ℕ) → fits_first f c ≡ true → is_white c ≡ false
ink dot Identifier c h = grind (arith, nat_tests)
ink dot Lifetime c h = ap is_white (eqb-true c 39 h)
ink dot Number c h = grind (arith, nat_tests)
ink dot Quoted c h = ap is_white (eqb-true c 34 h)
ink dot Mark c h = grind (arith, nat_tests)

form_ink : (dot : Bool) (f : Form) (n c : ℕ) (cs : List ℕ) → is_form dot f (take n (c ∷ cs)) ≡ true → is_white c ≡ false
form_ink dot f zero c cs h = absurd (no_form dot f h)
form_ink dot f (suc n) c cs h = ink dot f c (first_fits dot f c (take n cs) h)

no_slice : (dot : Bool) (f : Form) (n : ℕ) → is_form dot f (take n []) ≡ true → ⊥
no_slice dot f zero h = no_form dot f h
no_slice dot f (suc n) h = no_form dot f h

form_only : (dot : Bool) (f : Form) (n : ℕ) (text : List ℕ) → IsUtf8 text → IsLongest dot f n text → begins_comment text ≡ false →
    step dot text ≡ of_kind (kind_of f (take n text)) n
form_only dot f n [] u a h = absurd (no_slice dot f n a.is)
form_only dot f n (c ∷ cs) u a h =
    other_step dot c cs (form_ink dot f n c cs a.is) h ∙ ap (λ o. step_found o (c ∷ cs)) (longest_found dot f n (c ∷ cs) u a)

string_only : (dot : Bool) (text : List ℕ) → IsUtf8 text → begins (λ c. c == 34) text ≡ true → ((m : ℕ) → m ≤ length text → is_string (take m text) ≡ false) →
    step dot text ≡ S.Fault (length text)
string_only dot [] u h k = absurd cc
string_only dot (c ∷ cs) u h k =
    let e = eqb-true c 34 h in
    let n = none_found dot (c ∷ cs) u (none_of dot Quoted (c ∷ cs) (by_first dot Quoted c cs (only_quoted c h)) k) in
    other_step dot c cs (ap is_white e) (ap (λ x. begins_comment (x ∷ cs)) e) ∙ ap (λ o. step_found o (c ∷ cs)) n
    ∙ if_true (c == 34) (S.Fault (length (c ∷ cs))) (S.Fault (first_width (chars (c ∷ cs)))) h

first_char : (ks : List ℕ) (k : ℕ) (rest : List ℕ) → encodes ks ≡ encode_utf8 k ++ rest → first_width ks ≡ length (encode_utf8 k)
unfolding encode_utf8
first_char [] k rest e =
    let l = ap length e ∙ length-append (encode k) rest in
    let m = length-encode k in
    let b = (len_utf8_bounds k).0 in
    absurd (omega arith)
first_char (j ∷ ks) k rest e = ap (λ x. length (encode x)) (encode_same j k (encodes ks) rest e).0

pub some_width : (k : ℕ) → 1 ≤ length (encode_utf8 k)
unfolding encode_utf8
some_width k = let m = length-encode k in let b = (len_utf8_bounds k).0 in omega arith

no_width : (k : ℕ) → 0 ≡ length (encode_utf8 k) → ⊥
unfolding encode_utf8
no_width k x = let m = length-encode k in let b = (len_utf8_bounds k).0 in omega arith

stray_only : (dot : Bool) (text : List ℕ) (k : ℕ) (rest : List ℕ) → IsUtf8 text → text ≡ encode_utf8 k ++ rest → begins is_white text ≡ false →
    begins_comment text ≡ false → begins (λ c. c == 34) text ≡ false → ((g : Form) (m : ℕ) → m ≤ length text → is_form dot g (take m text) ≡ false) →
    step dot text ≡ S.Fault (length (encode_utf8 k))
stray_only dot [] k rest u e w n q f = absurd (no_width k (first_char [] k rest e))
stray_only dot (c ∷ cs) k rest u e w n q f =
    other_step dot c cs w n ∙ ap (λ o. step_found o (c ∷ cs)) (none_found dot (c ∷ cs) u f)
    ∙ if_false (c == 34) (S.Fault (length (c ∷ cs))) (S.Fault (first_width (chars (c ∷ cs)))) q
    ∙ ap (λ x. S.Fault x) (first_char (chars (c ∷ cs)) k rest (encodes-chars (c ∷ cs) u ∙ e))

pub gap_only : (dot : Bool) (n : ℕ) (text : List ℕ) → Gap n text → step dot text ≡ S.Gap n
gap_only dot n text (white {c = c} {cs = cs} h) = white_step dot c cs h
gap_only dot n text (line h l a b) = line_only dot n text h l a b
gap_only dot n text (block h l k) = block_only dot n text h l k

pub token_only : (dot : Bool) (n : ℕ) (kind : Kind) (text : List ℕ) → IsUtf8 text → IsToken dot n kind text → step dot text ≡ S.Token kind n
token_only dot n kind text u t = form_only dot t.form n text u t.longest t.no_comment ∙ ap (λ o. of_kind o n) t.is_kind

pub fault_only : (dot : Bool) (n : ℕ) (text : List ℕ) → IsUtf8 text → IsFault dot n text → step dot text ≡ S.Fault n
fault_only dot n text u (string h k) = string_only dot text u h k
fault_only dot n text u (comment h k) = open_only dot text h k
fault_only dot n text u (malformed form a h e) = form_only dot form n text u a h ∙ ap (λ o. of_kind o n) e
fault_only dot n text u (stray c rest e w h q f) = stray_only dot text c rest u e w h q f
