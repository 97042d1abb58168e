-- The first `»` after a name is the one that closes it.
use Rattle.std.proofs.Common.{◌≡◌, refl, ap, subst, ◌∙◌, ℕ, suc, ◌+◌, ◌/◌, ◌%◌, ◌<◌, Bool, true, false, List, [], ◌∷◌, ◌++◌, length, arith, length-append, append_assoc, Option, Some, None}
use Rattle.std.specs.Prelude.{◌&&◌, ◌==◌, cond}
use Rattle.std.specs.Option.{option_map}
use Rattle.std.specs.List.{list_all}
use Rattle.std.proofs.Math.Dec.{ltb}
use Rattle.std.proofs.Math.Utf8.{encode, encodes}
use Rattle.std.proofs.lemmas.Bool.{ne_eqb, eqb-true, ltb-true}
use Rattle.unicode_ident.specs.Ident.{is_xid_continue}
use Rattle.ucd_table.specs.Rows.{in_ranges}
use Rattle.ucd_derived.specs.XidContinueRanges.{xid_continue_ranges}
use Rattle.text_tokens.specs.Fronts.{begins_two, close_at}

not_lead : (b : ℕ) (xs : List ℕ) → (b ≡ 194 → ⊥) → begins_two 194 187 (b ∷ xs) ≡ false
not_lead b [] h = refl
not_lead b (d ∷ xs) h = (λ i. ne_eqb b 194 h i && (d == 187))

and_no : (a b : Bool) → (a ≡ true → b ≡ true → ⊥) → (a && b) ≡ false
and_no true true h = absurd (h refl refl)
and_no true false h = refl
and_no false b h = refl

-- bytes with no `»` among them, before any rest
abbrev pub Passes : List ℕ → Type 0
Passes bs = (xs : List ℕ) → close_at (bs ++ xs) ≡ option_map (λ n. length bs + n) (close_at xs)

none_map : (o : Option ℕ) → o ≡ option_map (λ n. 0 + n) o
none_map None = refl
none_map (Some n) = ap (λ k. Some k) (omega arith)

one_more : (k : ℕ) (o : Option ℕ) → option_map (λ n. n + 1) (option_map (λ n. k + n) o) ≡ option_map (λ n. suc k + n) o
one_more k None = refl
one_more k (Some n) = ap (λ k. Some k) (omega arith)

skip_byte : (b : ℕ) (bs xs : List ℕ) → begins_two 194 187 (b ∷ (bs ++ xs)) ≡ false →
    close_at (bs ++ xs) ≡ option_map (λ n. length bs + n) (close_at xs) →
    close_at (b ∷ (bs ++ xs)) ≡ option_map (λ n. suc (length bs) + n) (close_at xs)
skip_byte b bs xs h k = rw h (ap (λ o. option_map (λ n. n + 1) o) k ∙ one_more (length bs) (close_at xs))

pass_nil : Passes []
pass_nil xs = none_map (close_at xs)

pass_byte : (b : ℕ) (bs : List ℕ) → (b ≡ 194 → ⊥) → Passes bs → Passes (b ∷ bs)
pass_byte b bs h k xs = skip_byte b bs xs (not_lead b (bs ++ xs) h) (k xs)

pass_two : (b d : ℕ) (bs : List ℕ) → (b ≡ 194 → d ≡ 187 → ⊥) → Passes (d ∷ bs) → Passes (b ∷ d ∷ bs)
pass_two b d bs h k xs = skip_byte b (d ∷ bs) xs (and_no (b == 194) (d == 187) (λ p q. h (eqb-true b 194 p) (eqb-true d 187 q))) (k xs)

by_test : (b : Bool) (x y : List ℕ) → (b ≡ true → Passes x) → (b ≡ false → Passes y) → Passes (cond b x y)
by_test true x y h k = h refl
by_test false x y h k = k refl

-- a byte that is not the first of a character
later : (n : ℕ) (bs : List ℕ) → Passes bs → Passes ((128 + n % 64) ∷ bs)
later n bs h = pass_byte (128 + n % 64) bs (λ e. let k : n % 64 < 64 = omega arith in omega arith) h

pub encode_passes : (c : ℕ) → (c ≡ 187 → ⊥) → Passes (encode c)
unfolding encode
encode_passes c h =
    by_test (ltb c 128) _ _ (λ e. let k = ltb-true c 128 e in pass_byte c [] (λ p. omega arith) pass_nil) (λ e.
    by_test (ltb c 2048) _ _ (λ e. pass_two (192 + c / 64) (128 + c % 64) [] (λ p q. h (omega arith)) (later c [] pass_nil)) (λ e.
    by_test (ltb c 65536) _ _
    (λ e. pass_byte (224 + c / 4096) ((128 + c / 64 % 64) ∷ (128 + c % 64) ∷ []) (λ p. omega arith) (later (c / 64) ((128 + c % 64) ∷ []) (later c [] pass_nil)))
    (λ e. pass_byte (240 + c / 262144) ((128 + c / 4096 % 64) ∷ (128 + c / 64 % 64) ∷ (128 + c % 64) ∷ []) (λ p. omega arith) (later (c / 4096) ((128 + c / 64 % 64) ∷ (128 + c % 64) ∷ []) (later (c / 64) ((128 + c % 64) ∷ []) (later c [] pass_nil))))))

join_map : (a b : ℕ) (o : Option ℕ) → option_map (λ n. a + n) (option_map (λ n. b + n) o) ≡ option_map (λ n. (a + b) + n) o
join_map a b None = refl
join_map a b (Some n) = ap (λ k. Some k) (omega arith)

join : (ds bs : List ℕ) → Passes ds → Passes bs → Passes (ds ++ bs)
join ds bs h k xs =
    let e = join_map (length ds) (length bs) (close_at xs) in
    let l = length-append ds bs in
    let m = append_assoc ds bs xs in
    rw (m, l) (h (bs ++ xs) ∙ ap (λ o. option_map (λ n. length ds + n) o) (k xs) ∙ e)

continue_no : is_xid_continue 187 ≡ false
unfolding is_xid_continue in_ranges xid_continue_ranges
continue_no = refl

and_left : (a b : Bool) → (a && b) ≡ true → a ≡ true
and_left true b h = refl
and_left false b h = h

and_right : (a b : Bool) → (a && b) ≡ true → b ≡ true
and_right true b h = h
and_right false b h = absurd cc

not_close : (c : ℕ) → is_xid_continue c ≡ true → c ≡ 187 → ⊥
not_close c h e = let k = subst (λ x. is_xid_continue x ≡ true) e h in let m = continue_no in absurd cc

pub encodes_pass : (cs : List ℕ) → list_all is_xid_continue cs ≡ true → Passes (encodes cs)
encodes_pass [] h = pass_nil
encodes_pass (c ∷ cs) h =
    join (encode c) (encodes cs) (encode_passes c (not_close c (and_left _ _ h))) (encodes_pass cs (and_right _ _ h))

-- so the marks close right after the name
pub close_after : (bs rest : List ℕ) → Passes bs → close_at (bs ++ 194 ∷ 187 ∷ rest) ≡ Some (length bs)
close_after bs rest h = h (194 ∷ 187 ∷ rest) ∙ ap (λ k. Some k) (omega arith)
