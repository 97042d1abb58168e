-- What the calls so far handed out, one call on.
use Rattle.std.proofs.Common.{◌≡◌, ℕ, ◌+◌, ◌<◌, ◌≤◌, List, [], ◌∷◌, ◌++◌, length, refl, ap, ◌∙◌, sym, subst, arith, append_assoc, length-append}
use Rattle.std.proofs.lemmas.List.{append-nil}
use Rattle.aen_io.specs.Handed.{Handed, HandsOut, joined, since, IsInOrder, ReadsInOrder}
use Rattle.aen_io.specs.Reading.{IsWhole}
use Rattle.aen_io.specs.Told.{Told}
use Rattle.aen_io.specs.Turns.{Adds, IsFault}
use Rattle.aen_io.specs.declared.reading.ReadAll.{ReadAll}
use Rattle.aen_io.specs.declared.reading.ReadAll.TheVariants.{Failed, TooLong, Memory}

pub since_more : (before more : List Handed) → since before (before ++ more) ≡ more
since_more [] more = refl
since_more (h ∷ hs) more = since_more hs more

pub since_same : (before : List Handed) → since before before ≡ []
since_same [] = refl
since_same (h ∷ hs) = since_same hs

joined_more : (hs : List Handed) (h : Handed) → joined (hs ++ h ∷ []) ≡ joined hs ++ h.bytes
joined_more [] h = append-nil h.bytes
joined_more (x ∷ hs) h = ap (λ ys. x.bytes ++ ys) (joined_more hs h) ∙ sym (append_assoc x.bytes (joined hs) h.bytes)

order_more : (name : List ℕ) (at : ℕ) (hs : List Handed) (h : Handed) → IsInOrder name at hs → h.name ≡ name → h.at ≡ at + length (joined hs)
    → IsInOrder name at (hs ++ h ∷ [])
order_more name at [] h o n e = (n, omega (arith, e), tt)
order_more name at (x ∷ hs) h o n e =
    (o.0, o.1, order_more name (at + length x.bytes) hs h o.2 n (let l = length-append x.bytes (joined hs) in omega (arith, e, l)))

-- what was read so far: the calls since the first record handed out exactly these bytes, at least
-- one each
pub record IsReadSoFar (name : List ℕ) (before now : List Handed) (whole : List ℕ) : Type 0 where
  pub reads : ReadsInOrder name before now
  pub joined_is : whole ≡ joined (since before now)
  pub calls : length (since before now) ≤ length whole

pub nothing_read : (name : List ℕ) (before : List Handed) (whole : List ℕ) → whole ≡ [] → IsReadSoFar name before before whole
nothing_read name before whole e =
    let s = since_same before in
    record {
      reads = record { grown = sym (append-nil before) ∙ ap (λ hs. before ++ hs) (sym s); order = subst (λ hs. IsInOrder name 0 hs) (sym s) tt };
      joined_is = e ∙ ap joined (sym s);
      calls = let l = ap length s in omega (arith, l);
    }

since_next : (name : List ℕ) (before now next : List Handed) (whole bytes : List ℕ) → IsReadSoFar name before now whole → HandsOut now next name (length whole) bytes
    → since before next ≡ since before now ++ record { name = name; at = length whole; bytes = bytes } ∷ []
since_next name before now next whole bytes r h =
    let e : next ≡ before ++ (since before now ++ record { name = name; at = length whole; bytes = bytes } ∷ []) =
    h ∙ ap (λ (hs : List Handed). hs ++ record { name = name; at = length whole; bytes = bytes } ∷ []) r.reads.grown ∙ append_assoc before (since before now) (record { name = name; at = length whole; bytes = bytes } ∷ []) in
    ap (since before) e ∙ since_more before (since before now ++ record { name = name; at = length whole; bytes = bytes } ∷ [])

pub reads_next : (name : List ℕ) (before now next : List Handed) (whole bytes : List ℕ) → IsReadSoFar name before now whole → HandsOut now next name (length whole) bytes
    → ReadsInOrder name before next
reads_next name before now next whole bytes r h =
    let h' : Handed = record { name = name; at = length whole; bytes = bytes } in
    let s = since_next name before now next whole bytes r h in
    record {
      grown = h ∙ ap (λ (hs : List Handed). hs ++ h' ∷ []) r.reads.grown ∙ append_assoc before (since before now) (h' ∷ []) ∙ ap (λ hs. before ++ hs) (sym s);
      order = subst (λ hs. IsInOrder name 0 hs) (sym s) (order_more name 0 (since before now) h' r.reads.order refl (let l = ap length r.joined_is in omega (arith, l)));
    }

pub joined_next : (name : List ℕ) (before now next : List Handed) (whole bytes : List ℕ) → IsReadSoFar name before now whole → HandsOut now next name (length whole) bytes
    → joined (since before next) ≡ whole ++ bytes
joined_next name before now next whole bytes r h =
    ap joined (since_next name before now next whole bytes r h) ∙ joined_more (since before now) (record { name = name; at = length whole; bytes = bytes })
    ∙ ap (λ xs. xs ++ bytes) (sym r.joined_is)

pub calls_next : (name : List ℕ) (before now next : List Handed) (whole bytes : List ℕ) → IsReadSoFar name before now whole → HandsOut now next name (length whole) bytes
    → length (since before next) ≤ length whole + 1
calls_next name before now next whole bytes r h =
    let l = ap length (since_next name before now next whole bytes r h) ∙ length-append (since before now) (record { name = name; at = length whole; bytes = bytes } ∷ []) in
    omega (arith, l, r.calls)

pub read_more : (name : List ℕ) (before now next : List Handed) (n : ℕ) (whole new : List ℕ) → IsReadSoFar name before now whole → Adds name now next n whole new → 0 < n
    → IsReadSoFar name before next new
read_more name before now next n whole new r a p =
    record {
      reads = reads_next name before now next whole a.bytes r a.call;
      joined_is = a.added ∙ sym (joined_next name before now next whole a.bytes r a.call);
      calls =
          let c = calls_next name before now next whole a.bytes r a.call in
          let l = ap length a.added ∙ length-append whole a.bytes in
          omega (arith, c, l, a.size, p);
    }

-- a call that handed out nothing ends the file
pub read_whole : (name : List ℕ) (before now next : List Handed) (n : ℕ) (whole new : List ℕ) → IsReadSoFar name before now whole → Adds name now next n whole new → n ≡ 0
    → IsWhole name (since before next) new
read_whole name before now next n whole new r a z =
    let none : a.bytes ≡ [] = is_empty a.bytes (a.size ∙ z) in
    record {
      bytes_are = a.added ∙ sym (joined_next name before now next whole a.bytes r a.call);
      order = (reads_next name before now next whole a.bytes r a.call).order;
      ended = (since before now, (record { name = name; at = length whole; bytes = a.bytes }, since_next name before now next whole a.bytes r a.call, none));
    } where
      is_empty : (xs : List ℕ) → length xs ≡ 0 → xs ≡ []
      is_empty [] e = refl
      is_empty (x ∷ xs) e = absurd (omega (arith, e))

-- a turn that failed
pub reads_after : (name : List ℕ) (first log then_log : List Handed) (whole : List ℕ) (e : ReadAll) (told : Told) (at b c : ℕ)
    → at ≡ length whole → IsReadSoFar name first log whole → IsFault told name at log then_log b c e → ReadsInOrder name first then_log
reads_after name first log then_log whole Failed told at b c l r f = subst (λ hs. ReadsInOrder name first hs) (sym f.1) r.reads
reads_after name first log then_log whole (TooLong n) told at b c l r f = absurd f
reads_after name first log then_log whole Memory told at b c l r f =
    reads_next name first log then_log whole f.0 r (subst (λ k. HandsOut log then_log name k f.0) l f.1)

pub calls_after : (name : List ℕ) (first log then_log : List Handed) (whole : List ℕ) (e : ReadAll) (told : Told) (at b c : ℕ)
    → at ≡ length whole → IsReadSoFar name first log whole → IsFault told name at log then_log b c e → length (since first then_log) ≤ length whole + 1
calls_after name first log then_log whole Failed told at b c l r f =
    let same = ap (λ hs. length (since first hs)) f.1 in
    omega (arith, same, r.calls)
calls_after name first log then_log whole (TooLong n) told at b c l r f = absurd f
calls_after name first log then_log whole Memory told at b c l r f =
    calls_next name first log then_log whole f.0 r (subst (λ k. HandsOut log then_log name k f.0) l f.1)
