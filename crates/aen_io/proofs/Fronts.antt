-- What was read so far is the front of the content.
use Rattle.std.proofs.Common.{◌≡◌, ℕ, ◌+◌, ◌<◌, ◌≤◌, List, [], ◌++◌, length, take, drop, Option, None, Some, IsSomeAnd, refl, ap, ◌∙◌, sym, subst, arith, length-take}
use Rattle.std.proofs.lemmas.List.{append-nil, take_all}
use Rattle.aen_io.specs.Told.{Told, OfContent}
use Rattle.aen_io.specs.Turns.{GoesOn}
use Rattle.aen_io.proofs.Writings.{take_add}

-- the front of a content that may be missing
abbrev pub IsFrontOf : Option (List ℕ) → List ℕ → Type 0
IsFrontOf None xs = xs ≡ []
IsFrontOf (Some c) xs = xs ≡ take (length xs) c

abbrev pub IsFront : Told → List ℕ → List ℕ → Type 0
IsFront None name xs = Unit {0}
IsFront (Some content) name xs = IsFrontOf (content name) xs

start_of : (o : Option (List ℕ)) → IsFrontOf o []
start_of None = refl
start_of (Some c) = refl

pub front_start : (told : Told) (name : List ℕ) → IsFront told name []
front_start None name = tt
front_start (Some content) name = start_of (content name)

more_of : (o : Option (List ℕ)) (n room : ℕ) (old new : List ℕ) → length new ≡ length old + n
    → IsFrontOf o old → IsSomeAnd o (λ c. GoesOn c n room old new) → IsFrontOf o new
more_of None n room old new e f h = absurd h
more_of (Some c) n room old new e f h =
    h.bytes ∙ ap (λ xs. xs ++ take n (drop (length old) c)) f ∙ take_add (length old) n c ∙ ap (λ k. take k c) (sym e)

pub front_more : (told : Told) (name : List ℕ) (n room : ℕ) (old new : List ℕ) → length new ≡ length old + n
    → IsFront told name old → OfContent told name (λ c. GoesOn c n room old new) → IsFront told name new
front_more None name n room old new e f h = tt
front_more (Some content) name n room old new e f h = more_of (content name) n room old new e f h

whole_of : (o : Option (List ℕ)) (room : ℕ) (old new : List ℕ) → 0 < room
    → IsFrontOf o old → IsSomeAnd o (λ c. GoesOn c 0 room old new) → IsSomeAnd o (λ c. new ≡ c)
whole_of None room old new r f h = absurd h
whole_of (Some c) room old new r f h =
    h.bytes ∙ append-nil old ∙ f ∙ take_all (length old) c (h.end refl r)

pub front_whole : (told : Told) (name : List ℕ) (n room : ℕ) (old new : List ℕ) → n ≡ 0 → 0 < room
    → IsFront told name old → OfContent told name (λ c. GoesOn c n room old new) → OfContent told name (λ c. new ≡ c)
front_whole None name n room old new z r f h = tt
front_whole (Some content) name n room old new z r f h =
    whole_of (content name) room old new r f (subst (λ k. IsSomeAnd (content name) (λ c. GoesOn c k room old new)) z h)

long_of : (o : Option (List ℕ)) (limit : ℕ) (xs : List ℕ) → length xs ≡ limit + 1
    → IsFrontOf o xs → IsSomeAnd o (λ c. limit < length c)
long_of None limit xs e f = absurd (let l : length xs ≡ 0 = ap length f in omega arith)
long_of (Some c) limit xs e f = let l = ap length f ∙ length-take (length xs) c in omega arith

pub front_long : (told : Told) (name : List ℕ) (limit : ℕ) (xs : List ℕ) → length xs ≡ limit + 1
    → IsFront told name xs → OfContent told name (λ c. limit < length c)
front_long None name limit xs e f = tt
front_long (Some content) name limit xs e f = long_of (content name) limit xs e f

pub front_turn : (told now : Told) (name : List ℕ) (n room : ℕ) (old new : List ℕ) → now ≡ told → length new ≡ length old + n
    → IsFront told name old → OfContent now name (λ c. GoesOn c n room old new) → IsFront told name new
front_turn told now name n room old new k e f h =
    front_more told name n room old new e f (subst (λ t. OfContent t name (λ c. GoesOn c n room old new)) k h)

pub front_end : (told now : Told) (name : List ℕ) (n room : ℕ) (old new : List ℕ) → now ≡ told → n ≡ 0 → 0 < room
    → IsFront told name old → OfContent now name (λ c. GoesOn c n room old new) → OfContent told name (λ c. new ≡ c)
front_end told now name n room old new k z r f h =
    front_whole told name n room old new z r f (subst (λ t. OfContent t name (λ c. GoesOn c n room old new)) k h)

pub front_empty : (told : Told) (name xs : List ℕ) → xs ≡ [] → IsFront told name xs
front_empty told name xs e = subst (λ ys. IsFront told name ys) (sym e) (front_start told name)

pub has_room : (k : ℕ) (buffer : List ℕ) → 0 < k → k ≤ length buffer → 0 < length (take k buffer)
has_room k buffer p h = let e = length-take k buffer in omega arith
