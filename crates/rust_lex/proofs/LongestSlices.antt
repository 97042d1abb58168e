-- What is found is the longest slice of a token's form, and where nothing is found there is none.
use Rattle.std.proofs.Common.{◌≡◌, refl, ap, sym, subst, ◌∙◌, ℕ, zero, suc, ◌+◌, ◌-◌, ◌≤◌, Bool, true, false, List, [], ◌∷◌, length, length-drop, take, drop, Option, Some, None, IsUtf8, IsCharBoundary, arith}
use Rattle.std.specs.Prelude.{◌||◌, ◌==◌, bytes_eq}
use Rattle.std.specs.Option.{option_map}
use Rattle.std.specs.Char.{is_ascii_digit}
use Rattle.std.proofs.lemmas.Bool.{eqb-true}
use Rattle.std.proofs.lemmas.Bool.Decides.{nat_tests}
use Rattle.std.proofs.lemmas.Str.{IsUtf8-drop, IsCharBoundary-after_ascii}
use Rattle.rust_lex.specs.declared.token.Form.{Form}
use Rattle.rust_lex.specs.declared.token.Form.TheVariants.{Identifier, Lifetime, Number, Quoted, Mark}
use Rattle.rust_lex.specs.Characters.{begins}
use Rattle.rust_lex.specs.Identifiers.{is_identifier, is_lifetime}
use Rattle.rust_lex.specs.Punctuation.{is_mark}
use Rattle.rust_lex.specs.Lexing.{is_form, is_string, closes_string, IsLongest}
use Rattle.rust_lex.specs.Scan.{Found, found, of_form, or_mark, or_underscore, before_rest, after_string, identifier_length, lifetime_length, mark_length, number_length}
use Rattle.rust_lex.proofs.TestLemmas.{by_test, choose, and_left, and_right, and_both, or_cases, clash, not_true, some_same, or_true}
use Rattle.rust_lex.proofs.StringLemmas.{Stands, stands_count, string_ended, string_found}
use Rattle.rust_lex.proofs.NumberLemmas.{number_longest, number_is, digits_longest, digits_are}
use Rattle.rust_lex.proofs.IdentifierLemmas.{IsFoundName, name_found, name_none}
use Rattle.rust_lex.proofs.MarkLemmas.{mark_found, mark_none}
use Rattle.rust_lex.proofs.FirstBytes.{fits_first, first_fits, is_letter, is_mark_byte, no_form, form_is, form_of, underscore_mark}

abbrev pub IsFound : Bool → List ℕ → Found → Type 0
IsFound dot text None = (g : Form) (m : ℕ) → m ≤ length text → is_form dot g (take m text) ≡ false
IsFound dot text (Some p) = IsLongest dot p.0 p.1 text

-- where every slice with a form has this one
abbrev pub Only : Bool → List ℕ → Form → Type 0
Only dot text f = (g : Form) (m : ℕ) → is_form dot g (take m text) ≡ true → is_form dot f (take m text) ≡ true

-- the first byte rules the other forms out
pub by_first : (dot : Bool) (f : Form) (c : ℕ) (cs : List ℕ) →
    ((g : Form) → fits_first g c ≡ true → f ≡ g) → Only dot (c ∷ cs) f
by_first dot f c cs h g zero k = absurd (no_form dot g k)
by_first dot f c cs h g (suc m) k = subst (λ x. is_form dot x (c ∷ take m cs) ≡ true) (sym (h g (first_fits dot g c (take m cs) k))) k

only_number : (c : ℕ) → is_ascii_digit c ≡ true → (g : Form) → fits_first g c ≡ true → Number ≡ g
only_number c h Identifier k = absurd (clash (is_letter c) k (grind (arith, nat_tests)))
only_number c h Lifetime k = absurd (clash (c == 39) k (grind (arith, nat_tests)))
only_number c h Number k = refl
only_number c h Quoted k = absurd (clash (c == 34) k (grind (arith, nat_tests)))
only_number c h Mark k = absurd (clash (is_mark_byte c) k (grind (arith, nat_tests)))

pub only_quoted : (c : ℕ) → (c == 34) ≡ true → (g : Form) → fits_first g c ≡ true → Quoted ≡ g
only_quoted c h Identifier k = absurd (clash (is_letter c) k (ap is_letter (eqb-true c 34 h)))
only_quoted c h Lifetime k = absurd (clash (c == 39) k (ap (λ x. x == 39) (eqb-true c 34 h)))
only_quoted c h Number k = absurd (clash (is_ascii_digit c) k (ap is_ascii_digit (eqb-true c 34 h)))
only_quoted c h Quoted k = refl
only_quoted c h Mark k = absurd (clash (is_mark_byte c) k (ap is_mark_byte (eqb-true c 34 h)))

only_lifetime : (c : ℕ) → (c == 39) ≡ true → (g : Form) → fits_first g c ≡ true → Lifetime ≡ g
only_lifetime c h Identifier k = absurd (clash (is_letter c) k (ap is_letter (eqb-true c 39 h)))
only_lifetime c h Lifetime k = refl
only_lifetime c h Number k = absurd (clash (is_ascii_digit c) k (ap is_ascii_digit (eqb-true c 39 h)))
only_lifetime c h Quoted k = absurd (clash (c == 34) k (ap (λ x. x == 34) (eqb-true c 39 h)))
only_lifetime c h Mark k = absurd (clash (is_mark_byte c) k (ap is_mark_byte (eqb-true c 39 h)))

longest_of : (dot : Bool) (f : Form) (n : ℕ) (text : List ℕ) → Only dot text f → n ≤ length text → is_form dot f (take n text) ≡ true →
    ((m : ℕ) → m ≤ length text → is_form dot f (take m text) ≡ true → m ≤ n) → IsLongest dot f n text
longest_of dot f n text only w i l = record { within = w; is = i; longest = λ g m k h. l m k (only g m h) }

pub none_of : (dot : Bool) (f : Form) (text : List ℕ) → Only dot text f → ((m : ℕ) → m ≤ length text → is_form dot f (take m text) ≡ false) → IsFound dot text None
none_of dot f text only h g m k = not_true (is_form dot g (take m text)) (λ e. clash (is_form dot f (take m text)) (only g m e) (h m k))

-- ---- numbers

number_case : (dot : Bool) (c : ℕ) (cs : List ℕ) → is_ascii_digit c ≡ true → IsFound dot (c ∷ cs) (Some (Number, number_length dot (c ∷ cs)))
number_case false c cs h =
    let r = number_is c cs h in
    longest_of false Number (number_length false (c ∷ cs)) (c ∷ cs) (by_first false Number c cs (only_number c h)) r.within r.is (λ m k e. number_longest m (c ∷ cs) k e)
number_case true c cs h =
    let r = digits_are c cs h in
    longest_of true Number (number_length true (c ∷ cs)) (c ∷ cs) (by_first true Number c cs (only_number c h)) r.0 r.1 (λ m k e. digits_longest m (c ∷ cs) k e)

-- ---- strings

string_length : (c : ℕ) (cs : List ℕ) (m : ℕ) → m ≤ length (c ∷ cs) → is_string (take m (c ∷ cs)) ≡ true →
    (after_string false cs ≡ Some (drop m (c ∷ cs))) × (1 ≤ m)
string_length c cs zero l h = absurd cc
string_length c cs (suc m) l h = (string_found false m cs (omega arith) (and_right (c == 34) (closes_string false (take m cs)) h), omega arith)

string_case : (dot : Bool) (c : ℕ) (cs : List ℕ) → (c == 34) ≡ true → IsFound dot (c ∷ cs) (of_form Quoted (before_rest (length (c ∷ cs)) (after_string false cs)))
string_case dot c cs h = by_rest (after_string false cs) refl
  where
    by_rest : (o : Option (List ℕ)) → after_string false cs ≡ o → IsFound dot (c ∷ cs) (of_form Quoted (before_rest (length (c ∷ cs)) o))
    by_rest None e =
        none_of dot Quoted (c ∷ cs) (by_first dot Quoted c cs (only_quoted c h)) (λ m l. not_true _ (λ k.
        let f = (string_length c cs m l k).0 in let x : Some (drop m (c ∷ cs)) ≡ None = sym f ∙ e in cc))
    by_rest (Some rest) e =
        let r = string_ended false cs rest e in
        let w = r.stands.within in
        let n = stands_count r.count cs rest r.stands in
        let z : length cs ≡ r.count + length rest = rest_short r.count cs rest r.stands in
        let s : suc (length cs) - length rest ≡ suc r.count = by_arith (length cs) (length rest) r.count w n z in
        subst (λ x. IsLongest dot Quoted x (c ∷ cs)) (sym s)
        (longest_of dot Quoted (suc r.count) (c ∷ cs) (by_first dot Quoted c cs (only_quoted c h)) (suc_le r.count (length cs) w)
        (and_both (c == 34) (closes_string false (take r.count cs)) h r.closes)
        (λ m l k. same_length c cs rest r.count m l r.stands (string_length c cs m l k) e))
      where
        suc_le : (a b : ℕ) → a ≤ b → suc a ≤ suc b
        suc_le a b h = omega arith

        rest_short : (k : ℕ) (cs rest : List ℕ) → Stands k cs rest → length cs ≡ k + length rest
        rest_short k cs rest s = let w = s.within in let d = ap length (sym s.left) ∙ length-drop k cs in omega arith

        by_arith : (a b k : ℕ) → k ≤ a → a - b ≡ k → a ≡ k + b → suc a - b ≡ suc k
        by_arith a b k p q r = omega arith

        same_length : (c : ℕ) (cs rest : List ℕ) (k m : ℕ) → m ≤ length (c ∷ cs) → Stands k cs rest →
            (after_string false cs ≡ Some (drop m (c ∷ cs))) × (1 ≤ m) → after_string false cs ≡ Some rest → m ≤ suc k
        same_length c cs rest k m l s p e =
            let w = s.within in
            let d = ap length (sym s.left) ∙ length-drop k cs in
            let f : drop m (c ∷ cs) ≡ rest = some_same (drop m (c ∷ cs)) rest (sym p.0 ∙ e) in
            let g = ap length (sym f) ∙ length-drop m (c ∷ cs) in
            omega arith

-- ---- lifetimes

after_quote : (c : ℕ) (cs : List ℕ) → (c == 39) ≡ true → IsUtf8 (c ∷ cs) → IsUtf8 cs
after_quote c cs h u =
    let e = eqb-true c 39 h in
    IsUtf8-drop (c ∷ cs) 1 u (IsCharBoundary-after_ascii (c ∷ cs) 0 u (omega arith) (omega arith))

lone : (k : ℕ) (cs : List ℕ) → k ≤ length cs → bytes_eq (take k cs) (95 ∷ []) ≡ true → (k ≡ 1) × (begins (λ c. c == 95) cs ≡ true)
lone zero cs l h = absurd cc
lone (suc zero) [] l h = absurd cc
lone (suc zero) (c ∷ cs) l h = (refl, and_left (c == 95) _ h)
lone (suc (suc k)) [] l h = absurd cc
lone (suc (suc k)) (c ∷ []) l h = absurd (omega arith)
lone (suc (suc k)) (c ∷ d ∷ cs) l h = absurd (clash (bytes_eq (d ∷ take k cs) []) (and_right (c == 95) (bytes_eq (d ∷ take k cs) []) h) refl)

one_byte : (cs : List ℕ) → begins (λ c. c == 95) cs ≡ true → (1 ≤ length cs) × (bytes_eq (take 1 cs) (95 ∷ []) ≡ true)
one_byte [] h = absurd cc
one_byte (c ∷ cs) h = (omega arith, and_both (c == 95) true h refl)

some_bytes : (n : ℕ) (cs : List ℕ) → is_identifier (take n cs) ≡ true → 1 ≤ n
some_bytes zero cs h = absurd (no_form false Identifier h)
some_bytes (suc n) cs h = omega arith

-- behind the `'` an identifier or `_` stands
lifetime_longest : (c n : ℕ) (cs : List ℕ) → 1 ≤ n → ((k : ℕ) → k ≤ length cs → is_identifier (take k cs) ≡ true → k ≤ n) →
    (m : ℕ) → m ≤ length (c ∷ cs) → is_lifetime (take m (c ∷ cs)) ≡ true → m ≤ suc n
lifetime_longest c n cs o f zero l h = omega arith
lifetime_longest c n cs o f (suc k) l h =
    let w : k ≤ length cs = omega arith in
    or_cases (is_identifier (take k cs)) (bytes_eq (take k cs) (95 ∷ [])) (and_right (c == 39) _ h)
    (λ e. let i = f k w e in omega arith)
    (λ e. let i = (lone k cs w e).0 in omega arith)

no_lifetime : (c : ℕ) (cs : List ℕ) → identifier_length cs ≡ None → begins (λ c. c == 95) cs ≡ false →
    (m : ℕ) → m ≤ length (c ∷ cs) → is_lifetime (take m (c ∷ cs)) ≡ false
no_lifetime c cs e b zero l = refl
no_lifetime c cs e b (suc k) l =
    not_true (is_lifetime (c ∷ take k cs)) (λ h.
    or_cases (is_identifier (take k cs)) (bytes_eq (take k cs) (95 ∷ [])) (and_right (c == 39) _ h)
    (λ i. clash (is_identifier (take k cs)) i (name_none cs k e))
    (λ i. clash (begins (λ c. c == 95) cs) (lone k cs (omega arith) i).1 b))

lifetime_case : (dot : Bool) (c : ℕ) (cs : List ℕ) → (c == 39) ≡ true → IsUtf8 (c ∷ cs) →
    IsFound dot (c ∷ cs) (of_form Lifetime (option_map (λ n. suc n) (lifetime_length cs)))
lifetime_case dot c cs h u = by_name (identifier_length cs) refl
  where
    by_name : (o : Option ℕ) → identifier_length cs ≡ o → IsFound dot (c ∷ cs) (of_form Lifetime (option_map (λ n. suc n) (or_underscore o cs)))
    by_name (Some n) e =
        let r = name_found cs n (after_quote c cs h u) e in
        let w = r.within in
        longest_of dot Lifetime (suc n) (c ∷ cs) (by_first dot Lifetime c cs (only_lifetime c h)) (omega arith)
        (and_both (c == 39) (is_identifier (take n cs) || bytes_eq (take n cs) (95 ∷ [])) h (ap (λ b. b || bytes_eq (take n cs) (95 ∷ [])) r.is))
        (lifetime_longest c n cs (some_bytes n cs r.is) r.longest)
    by_name None e =
        choose (λ o. IsFound dot (c ∷ cs) (of_form Lifetime (option_map (λ n. suc n) o))) (begins (λ c. c == 95) cs) (Some 1) None
        (λ b. let p = one_byte cs b in
        longest_of dot Lifetime 2 (c ∷ cs) (by_first dot Lifetime c cs (only_lifetime c h)) (let q = p.0 in omega arith)
        (and_both (c == 39) (is_identifier (take 1 cs) || bytes_eq (take 1 cs) (95 ∷ [])) h (or_true (is_identifier (take 1 cs)) (bytes_eq (take 1 cs) (95 ∷ [])) p.1))
        (lifetime_longest c 1 cs (omega arith) (λ k l i. clash (is_identifier (take k cs)) i (name_none cs k e))))
        (λ b. none_of dot Lifetime (c ∷ cs) (by_first dot Lifetime c cs (only_lifetime c h)) (no_lifetime c cs e b))

-- ---- identifiers and punctuation

no_bytes : (dot : Bool) (g : Form) (m : ℕ) (text : List ℕ) → m ≤ 0 → is_form dot g (take m text) ≡ true → ⊥
no_bytes dot g zero text l h = no_form dot g h
no_bytes dot g (suc m) text l h = omega arith

first_of : (dot : Bool) (g : Form) (c : ℕ) (cs : List ℕ) (m : ℕ) → is_form dot g (take m (c ∷ cs)) ≡ true → fits_first g c ≡ true
first_of dot g c cs zero h = absurd (no_form dot g h)
first_of dot g c cs (suc m) h = first_fits dot g c (take m cs) h

letter_mark : (c : ℕ) → is_letter c ≡ true → is_mark_byte c ≡ true → c ≡ 95
letter_mark c h k = grind (arith, nat_tests)

-- a mark where an identifier begins is `_`
one_mark : (c : ℕ) (cs : List ℕ) (m : ℕ) → m ≤ length (c ∷ cs) → c ≡ 95 → is_mark (take m (c ∷ cs)) ≡ true → m ≤ 1
one_mark c cs zero l e h = omega arith
one_mark c [] (suc k) l e h = omega arith
one_mark c (d ∷ cs) (suc zero) l e h = omega arith
one_mark c (d ∷ cs) (suc (suc k)) l e h =
    absurd (let x = underscore_mark (d ∷ take k cs) (subst (λ b. is_mark (b ∷ d ∷ take k cs) ≡ true) e h) in cc)

among_letters : (dot : Bool) (c : ℕ) (cs : List ℕ) (n : ℕ) → is_ascii_digit c ≡ false → (c == 34) ≡ false → (c == 39) ≡ false →
    IsFoundName (c ∷ cs) n → 1 ≤ n → (g : Form) (m : ℕ) → m ≤ length (c ∷ cs) → is_form dot g (take m (c ∷ cs)) ≡ true → m ≤ n
among_letters dot c cs n h k l r o Identifier m w i = r.longest m w i
among_letters dot c cs n h k l r o Lifetime m w i = absurd (clash (c == 39) (first_of dot Lifetime c cs m i) l)
among_letters dot c cs n h k l r o Number m w i = absurd (clash (is_ascii_digit c) (first_of dot Number c cs m i) h)
among_letters dot c cs n h k l r o Quoted m w i = absurd (clash (c == 34) (first_of dot Quoted c cs m i) k)
among_letters dot c cs n h k l r o Mark m w i =
    let x = one_mark c cs m w (letter_mark c (first_of dot Identifier c cs n r.is) (first_of dot Mark c cs m i)) i in
    omega arith

among_marks : {n : ℕ} (dot : Bool) (c : ℕ) (cs : List ℕ) → is_ascii_digit c ≡ false → (c == 34) ≡ false → (c == 39) ≡ false →
    identifier_length (c ∷ cs) ≡ None → (g : Form) (m : ℕ) → m ≤ length (c ∷ cs) → is_form dot g (take m (c ∷ cs)) ≡ true →
    (is_mark (take m (c ∷ cs)) ≡ true → m ≤ n) → m ≤ n
among_marks dot c cs h k l e Identifier m w i f = absurd (clash (is_identifier (take m (c ∷ cs))) i (name_none (c ∷ cs) m e))
among_marks dot c cs h k l e Lifetime m w i f = absurd (clash (c == 39) (first_of dot Lifetime c cs m i) l)
among_marks dot c cs h k l e Number m w i f = absurd (clash (is_ascii_digit c) (first_of dot Number c cs m i) h)
among_marks dot c cs h k l e Quoted m w i f = absurd (clash (c == 34) (first_of dot Quoted c cs m i) k)
among_marks dot c cs h k l e Mark m w i f = f i

other_case : (dot : Bool) (c : ℕ) (cs : List ℕ) → is_ascii_digit c ≡ false → (c == 34) ≡ false → (c == 39) ≡ false → IsUtf8 (c ∷ cs) →
    IsFound dot (c ∷ cs) (or_mark (identifier_length (c ∷ cs)) (c ∷ cs))
other_case dot c cs h k l u = by_name (identifier_length (c ∷ cs)) refl
  where
    by_name : (o : Option ℕ) → identifier_length (c ∷ cs) ≡ o → IsFound dot (c ∷ cs) (or_mark o (c ∷ cs))
    by_name (Some n) e =
        let r = name_found (c ∷ cs) n u e in
        record { within = r.within; is = r.is; longest = λ g m w i. among_letters dot c cs n h k l r (some_bytes n (c ∷ cs) r.is) g m w i }
    by_name None e = by_mark (mark_length (c ∷ cs)) refl
      where
        by_mark : (o : Option ℕ) → mark_length (c ∷ cs) ≡ o → IsFound dot (c ∷ cs) (of_form Mark o)
        by_mark (Some n) f =
            let r = mark_found (c ∷ cs) n f in
            record { within = r.within; is = r.is; longest = λ g m w i. among_marks dot c cs h k l e g m w i (r.longest m w) }
        by_mark None f = λ g m w. not_true (is_form dot g (take m (c ∷ cs))) (λ i.
            let x : m ≤ 0 = among_marks dot c cs h k l e g m w i (λ j. absurd (clash (is_mark (take m (c ∷ cs))) j (mark_none (c ∷ cs) m f w))) in
            no_bytes dot g m (c ∷ cs) x i)

-- ---- all forms

nothing_case : (dot : Bool) → IsFound dot [] None
nothing_case dot g zero l = not_true (is_form dot g []) (no_form dot g)
nothing_case dot g (suc m) l = not_true (is_form dot g []) (no_form dot g)

pub is_found : (dot : Bool) (text : List ℕ) → IsUtf8 text → IsFound dot text (found dot text)
unfolding found
is_found dot [] u = nothing_case dot
is_found dot (c ∷ cs) u =
    choose (IsFound dot (c ∷ cs)) (is_ascii_digit c) _ _ (number_case dot c cs) (λ h.
    choose (IsFound dot (c ∷ cs)) (c == 34) _ _ (string_case dot c cs) (λ k.
    choose (IsFound dot (c ∷ cs)) (c == 39) _ _ (λ l. lifetime_case dot c cs l u) (λ l.
    other_case dot c cs h k l u)))

abbrev pub the_found : Form → ℕ → Found
the_found f n = Some (f, n)

-- the longest slice is the one that is found
unique : (dot : Bool) (f g : Form) (n m : ℕ) (text : List ℕ) → IsLongest dot f n text → IsLongest dot g m text → the_found g m ≡ the_found f n
unique dot f g n m text a b =
    let l : n ≤ m = b.longest f n a.within a.is in
    let k : m ≤ n = a.longest g m b.within b.is in
    let e : m ≡ n = omega arith in
    let p = sym (form_is dot g (take m text) b.is) ∙ ap (λ i. form_of (take i text)) e ∙ form_is dot f (take n text) a.is in
    λ i. the_found (p i) (e i)

found_by : (o : Found) (dot : Bool) (f : Form) (n : ℕ) (text : List ℕ) → IsFound dot text o → IsLongest dot f n text → o ≡ the_found f n
found_by None dot f n text h a = absurd (clash (is_form dot f (take n text)) a.is (h f n a.within))
found_by (Some p) dot f n text h a = unique dot f p.0 n p.1 text a h

pub longest_found : (dot : Bool) (f : Form) (n : ℕ) (text : List ℕ) → IsUtf8 text → IsLongest dot f n text → found dot text ≡ the_found f n
longest_found dot f n text u a = found_by (found dot text) dot f n text (is_found dot text u) a

none_by : (o : Found) (dot : Bool) (text : List ℕ) → IsFound dot text o → ((g : Form) (m : ℕ) → m ≤ length text → is_form dot g (take m text) ≡ false) → o ≡ None
none_by None dot text h k = refl
none_by (Some p) dot text h k = absurd (clash (is_form dot p.0 (take p.1 text)) h.is (k p.0 p.1 h.within))

pub none_found : (dot : Bool) (text : List ℕ) → IsUtf8 text → ((g : Form) (m : ℕ) → m ≤ length text → is_form dot g (take m text) ≡ false) → found dot text ≡ None
none_found dot text u k = none_by (found dot text) dot text (is_found dot text u) k

-- ---- what the code asks of a lifetime

pub lifetime_begins : (dot : Bool) (w : List ℕ) → is_form dot Lifetime w ≡ true → begins (λ c. c == 39) w ≡ true
lifetime_begins dot [] h = absurd cc
lifetime_begins dot (c ∷ w) h = and_left (c == 39) _ h

pub quote_boundary : (text : List ℕ) → IsUtf8 text → begins (λ c. c == 39) text ≡ true → IsCharBoundary text 1
quote_boundary [] u h = absurd cc
quote_boundary (c ∷ cs) u h = let e = eqb-true c 39 h in IsCharBoundary-after_ascii (c ∷ cs) 0 u (omega arith) (omega arith)

pub lifetime_within : (text : List ℕ) (n : ℕ) → IsUtf8 text → lifetime_length text ≡ Some n → n ≤ length text
lifetime_within text n u h = by_name (identifier_length text) refl h
  where
    by_name : (o : Option ℕ) → identifier_length text ≡ o → or_underscore o text ≡ Some n → n ≤ length text
    by_name (Some k) e f = let q : k ≡ n = some_same k n f in let r = (name_found text k u e).within in omega arith
    by_name None e f =
        by_test (begins (λ c. c == 95) text) (Some 1) None (Some n) f
        (λ b g. let q : 1 ≡ n = some_same 1 n g in let p = (one_byte text b).0 in omega arith)
        (λ b g. absurd cc)
