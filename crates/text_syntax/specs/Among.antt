-- Classes that are among others.
use Rattle.std.specs.Prelude.{◌≡◌, refl, Bool, true, false, not, ◌&&◌, ◌||◌, List, [], ◌∷◌, ◌++◌}
use Rattle.std.specs.List.{list_any, list_all}
use Rattle.std.proofs.Common.{sym, subst}
use denote.Enum.Bare.{sameb, same_true, true_same}
use Rattle.text_meaning.specs.Lists.{Each}
use Rattle.text_table.specs.contracts.class.Class.{the_type}
use Rattle.text_table.specs.declared.class.Class.{Class}

-- one of these classes
abbrev pub is_one_of : Class → List Class → Bool
is_one_of c cs = list_any (sameb the_type c) cs

pub either_left : (a b : Bool) → a ≡ true → a || b ≡ true
either_left true b h = refl
either_left false b h = absurd cc

pub either_right : (a b : Bool) → b ≡ true → a || b ≡ true
either_right true b h = refl
either_right false b h = h

pub and_left : (a b : Bool) → a && b ≡ true → a ≡ true
and_left true b h = refl
and_left false b h = absurd cc

pub and_right : (a b : Bool) → a && b ≡ true → b ≡ true
and_right true b h = h
and_right false b h = absurd cc

pub implied : (a b : Bool) → not a || b ≡ true → a ≡ true → b ≡ true
implied true b h g = h
implied false b h g = absurd cc

pub opposed : (b : Bool) → not b ≡ true → b ≡ true → ⊥
opposed true h g = cc
opposed false h g = cc

each_by : (b : Bool) (P : Class → Type 0) (d c : Class) (cs : List Class) → sameb the_type d c ≡ b → P c → (is_one_of d cs ≡ true → P d) → b || is_one_of d cs ≡ true → P d
each_by true P d c cs e p later h = subst P (sym (same_true the_type tt d c e)) p
each_by false P d c cs e p later h = later h

-- what holds of each of these classes holds of one among them
pub each_class : (P : Class → Type 0) (cs : List Class) (d : Class) → Each P cs → is_one_of d cs ≡ true → P d
each_class P [] d a h = absurd cc
each_class P (c ∷ cs) d a h = each_by (sameb the_type d c) P d c cs refl a.0 (λ g. each_class P cs d a.1 g) h

pub all_each : (test : Class → Bool) (cs : List Class) → list_all test cs ≡ true → Each (λ c. test c ≡ true) cs
all_each test [] h = tt
all_each test (c ∷ cs) h = (and_left (test c) (list_all test cs) h, all_each test cs (and_right (test c) (list_all test cs) h))

-- the same of a test
pub each_one : (test : Class → Bool) (cs : List Class) (d : Class) → list_all test cs ≡ true → is_one_of d cs ≡ true → test d ≡ true
each_one test cs d a h = each_class (λ c. test c ≡ true) cs d (all_each test cs a) h

-- what fails of each of them does not hold of one among them
pub none_of : (test : Class → Bool) (cs : List Class) (d : Class) → list_all (λ c. not (test c)) cs ≡ true → is_one_of d cs ≡ true → test d ≡ true → ⊥
none_of test cs d a h g = opposed (test d) (each_one (λ c. not (test c)) cs d a h) g

-- the only one
pub only_class : (c d : Class) → is_one_of c (d ∷ []) ≡ true → c ≡ d
only_class c d h = each_class (λ x. x ≡ d) (d ∷ []) c (refl, tt) h

-- a class is among those that it is one of
pub here : (c d : Class) (cs : List Class) → c ≡ d → is_one_of c (d ∷ cs) ≡ true
here c d cs e = either_left (sameb the_type c d) (is_one_of c cs) (true_same the_type c d e)

pub later : (c d : Class) (cs : List Class) → is_one_of c cs ≡ true → is_one_of c (d ∷ cs) ≡ true
later c d cs h = either_right (sameb the_type c d) (is_one_of c cs) h

pub behind : (c : Class) (cs ds : List Class) → is_one_of c ds ≡ true → is_one_of c (cs ++ ds) ≡ true
behind c [] ds h = h
behind c (d ∷ cs) ds h = later c d (cs ++ ds) (behind c cs ds h)
