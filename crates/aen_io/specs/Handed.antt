-- What the calls on files handed out, one after another.
use Rattle.std.specs.Prelude.{◌≡◌, ℕ, ◌+◌, List, [], ◌∷◌, ◌++◌, length, drop, refl}
use Rattle.std.specs.Coded.{Coded, coded×, coded_list, coded_ℕ, code_by}

-- a call handed out these bytes, from this byte of this file on
-- (PROMISES.md, "Safe and total")
pub record Handed : Type 0 where
  pub name : List ℕ
  pub at : ℕ
  pub bytes : List ℕ

-- what the logic needs to keep a list of them in a ghost field
abbrev coded_handed : Coded Handed
coded_handed = code_by (List ℕ × (ℕ × List ℕ)) (coded× (coded_list coded_ℕ) (coded× coded_ℕ (coded_list coded_ℕ)))
    (λ h. (h.name, (h.at, h.bytes))) (λ t. record { name = t.0; at = t.1.0; bytes = t.1.1 }) (λ _. refl)

abbrev pub coded_handeds : Coded (List Handed)
coded_handeds = coded_list coded_handed

-- one call more, which handed out these bytes (PROMISES.md, "Safe and total")
abbrev pub HandsOut : List Handed → List Handed → List ℕ → ℕ → List ℕ → Type 0
HandsOut before after name at bytes = after ≡ before ++ record { name = name; at = at; bytes = bytes } ∷ []

-- all bytes that were handed out, in order (PROMISES.md, "Safe and total")
abbrev pub joined : List Handed → List ℕ
joined [] = []
joined (h ∷ hs) = h.bytes ++ joined hs

-- what was recorded after the first of two records (PROMISES.md, "Safe and total")
abbrev pub since : {A : Type 0} → List A → List A → List A
since before after = drop (length before) after

-- bytes of this file alone, from this byte on, each call where the one before it ended
-- (PROMISES.md, "Safe and total")
abbrev pub IsInOrder : List ℕ → ℕ → List Handed → Type 0
IsInOrder name at [] = Unit {0}
IsInOrder name at (h ∷ hs) = (h.name ≡ name) × (h.at ≡ at) × IsInOrder name (at + length h.bytes) hs

-- the calls after the first of two records are calls on this file alone, from its first byte on
-- (PROMISES.md, "Safe and total")
pub record ReadsInOrder (name : List ℕ) (before after : List Handed) : Type 0 where
  pub grown : after ≡ before ++ since before after
  pub order : IsInOrder name 0 (since before after)

-- the last call handed out nothing: the file's end (PROMISES.md, "Safe and total")
abbrev pub ReachesEnd : List Handed → Type 0
ReachesEnd handed = (front : List Handed) × ((last : Handed) × (handed ≡ front ++ last ∷ []) × (last.bytes ≡ []))
