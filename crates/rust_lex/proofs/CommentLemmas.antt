-- Where a comment ends.
use Rattle.std.proofs.Common.{◌≡◌, refl, ap, sym, subst, ◌∙◌, ℕ, zero, suc, ◌+◌, ◌-◌, ◌≤◌, ◌<◌, true, false, List, [], ◌∷◌, length, drop, length-drop, Option, Some, None, arith}
use Rattle.std.specs.Prelude.{◌&&◌, ◌==◌}
use Rattle.std.proofs.lemmas.List.{drop-drop}
use Rattle.std.proofs.lemmas.Bool.{eqb-true}
use Rattle.rust_lex.specs.Characters.{begins}
use Rattle.rust_lex.specs.Comments.{Closes, here, nested, other, begins_block_comment, ends_block_comment}
use Rattle.rust_lex.specs.Scan.{after_comment, closed}
use Rattle.rust_lex.proofs.TestLemmas.{by_test, if_true, if_false, and_left, and_right, clash}
use Rattle.rust_lex.proofs.StringLemmas.{Stands, stands_more}

-- what is read on where so many comments are open behind a closed one
abbrev pub on : ℕ → List ℕ → Option (List ℕ)
on d rest = closed d (λ n. after_comment n rest) rest

step_other : (d c : ℕ) (cs : List ℕ) → begins_block_comment (c ∷ cs) ≡ false → ends_block_comment (c ∷ cs) ≡ false → after_comment d (c ∷ cs) ≡ after_comment d cs
unfolding after_comment
step_other d c [] h k = refl
step_other d c (e ∷ cs) h k = rw (h, k) refl

-- a closed comment is read through
pub read_through : (cs rest : List ℕ) → Closes cs rest → (d : ℕ) → after_comment d cs ≡ on d rest
unfolding after_comment
read_through cs rest (here) d = refl
read_through cs rest (nested {cs = inner} {mid = mid} a b) d = read_through inner mid a (suc d) ∙ read_through mid rest b d
read_through cs rest (other {c = c} {cs = inner} h k a) d = step_other d c inner h k ∙ read_through inner rest a d

pub record Comes (d : ℕ) (cs out : List ℕ) : Type 0 where
  pub rest : List ℕ
  pub closes : Closes cs rest
  pub short : length rest ≤ length cs
  pub further : on d rest ≡ Some out

two_same : (a b c e : ℕ) → ((c == a) && (e == b)) ≡ true → (c ≡ a) × (e ≡ b)
two_same a b c e h = (eqb-true c a (and_left (c == a) (e == b) h), eqb-true e b (and_right (c == a) (e == b) h))

opens : (d c e : ℕ) (cs out : List ℕ) → c ≡ 47 → e ≡ 42 → (m : Comes (suc d) cs out) → Comes d m.rest out → Comes d (c ∷ e ∷ cs) out
opens d c e cs out p q m r =
    let s = m.short in let t = r.short in
    record {
      rest = r.rest;
      closes = subst (λ x. Closes x r.rest) (λ i. sym p i ∷ sym q i ∷ cs) (nested m.closes r.closes);
      short = omega arith;
      further = r.further;
    }

ends : (d c e : ℕ) (cs out : List ℕ) → c ≡ 42 → e ≡ 47 → on d cs ≡ Some out → Comes d (c ∷ e ∷ cs) out
ends d c e cs out p q h =
    record { rest = cs; closes = subst (λ x. Closes x cs) (λ i. sym p i ∷ sym q i ∷ cs) here; short = omega arith; further = h }

pub comment_comes : (n d : ℕ) (cs out : List ℕ) → length cs ≤ n → after_comment d cs ≡ Some out → Comes d cs out
unfolding after_comment
comment_comes n d [] out l h = absurd cc
comment_comes n d (c ∷ []) out l h = absurd cc
comment_comes zero d (c ∷ e ∷ cs) out l h = absurd (omega arith)
comment_comes (suc n) d (c ∷ e ∷ cs) out l h =
    by_test ((c == 47) && (e == 42)) (after_comment (suc d) cs) _ (Some out) h
    (λ t g. let m = comment_comes n (suc d) cs out (omega arith) g in
    let s = m.short in
    let p = two_same 47 42 c e t in
    opens d c e cs out p.0 p.1 m (comment_comes n d m.rest out (omega arith) m.further))
    (λ t g. by_test ((c == 42) && (e == 47)) (on d cs) (after_comment d (e ∷ cs)) (Some out) g
    (λ u g. let p = two_same 42 47 c e u in ends d c e cs out p.0 p.1 g)
    (λ u g. let r = comment_comes n d (e ∷ cs) out (omega arith) g in
    let s = r.short in
    record { rest = r.rest; closes = other t u r.closes; short = omega arith; further = r.further }))

-- what stands behind a closed comment is a rest of the text
pub record Behind (cs rest : List ℕ) : Type 0 where
  pub count : ℕ
  pub stands : Stands count cs rest

pub closes_behind : (cs rest : List ℕ) → Closes cs rest → Behind cs rest
closes_behind cs rest (here) = record { count = 2; stands = record { within = omega arith; left = refl } }
closes_behind cs rest (nested {cs = inner} {mid = mid} a b) = join inner mid rest (closes_behind inner mid a) (closes_behind mid rest b)
  where
    join : (inner mid rest : List ℕ) → Behind inner mid → Behind mid rest → Behind (47 ∷ 42 ∷ inner) rest
    join inner mid rest a b =
        let s = a.stands.within in
        let t = b.stands.within in
        let m = ap length (sym a.stands.left) ∙ length-drop a.count inner in
        record { count = suc (suc (a.count + b.count)); stands = record { within = omega arith; left = sym (drop-drop b.count a.count inner) ∙ ap (drop b.count) a.stands.left ∙ b.stands.left } }
closes_behind cs rest (other {c = c} {cs = inner} h k a) =
    let r = closes_behind inner rest a in
    record { count = suc r.count; stands = stands_more r.count c inner rest r.stands }

-- ---- a turn of the search

pub open_turn : (d : ℕ) (xs : List ℕ) → begins_block_comment xs ≡ true → after_comment (d + 1) (drop 2 xs) ≡ after_comment d xs
unfolding after_comment
open_turn d [] h = absurd cc
open_turn d (c ∷ []) h = absurd (clash (begins (λ d. d == 42) []) (and_right (c == 47) (begins (λ d. d == 42) []) h) refl)
open_turn d (c ∷ e ∷ cs) h =
    let s : d + 1 ≡ suc d = omega arith in
    ap (λ n. after_comment n cs) s ∙ sym (if_true ((c == 47) && (e == 42)) (after_comment (suc d) cs) _ h)

pub other_turn : (d : ℕ) (xs : List ℕ) → begins_block_comment xs ≡ false → ends_block_comment xs ≡ false → after_comment d (drop 1 xs) ≡ after_comment d xs
unfolding after_comment
other_turn d [] h k = refl
other_turn d (c ∷ cs) h k = sym (step_other d c cs h k)

pub close_turn : (d : ℕ) (xs : List ℕ) → begins_block_comment xs ≡ false → ends_block_comment xs ≡ true → on d (drop 2 xs) ≡ after_comment d xs
unfolding after_comment
close_turn d [] h k = absurd cc
close_turn d (c ∷ []) h k = absurd (clash (begins (λ d. d == 47) []) (and_right (c == 42) (begins (λ d. d == 47) []) k) refl)
close_turn d (c ∷ e ∷ cs) h k =
    sym (if_false ((c == 47) && (e == 42)) (after_comment (suc d) cs) _ h ∙ if_true ((c == 42) && (e == 47)) (on d cs) (after_comment d (e ∷ cs)) k)

pub on_less : (d : ℕ) (xs : List ℕ) → 0 < d → after_comment (d - 1) xs ≡ on d xs
on_less zero xs h = absurd (omega arith)
on_less (suc d) xs h = let e : suc d - 1 ≡ d = omega arith in ap (λ n. after_comment n xs) e

pub none_left : (d : ℕ) (xs : List ℕ) → length xs ≤ 1 → after_comment d xs ≡ None
unfolding after_comment
none_left d [] h = refl
none_left d (c ∷ []) h = refl
none_left d (c ∷ e ∷ cs) h = absurd (omega arith)
