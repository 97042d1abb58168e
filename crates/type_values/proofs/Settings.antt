-- Putting into a list and taking from it, item by item.
use Rattle.std.proofs.Common.{◌≡◌, List, [], ◌∷◌, ◌++◌, refl, slice_get}
use Rattle.std.specs.Prelude.{Some, None, slice_set}
use Rattle.core_ty.specs.Types as t
use Rattle.type_rules.specs.Lists.{rest_of}
use Rattle.type_rules.specs.States.{first_or, no_loop, break_noted, broken_first}
use Rattle.type_rules.specs.declared.state.Loop.{Loop}

pub rest_before : (ls : List Loop) (last : Loop) → (ls ≡ [] → ⊥) → rest_of (ls ++ last ∷ []) ≡ rest_of ls ++ last ∷ []
rest_before [] last h = absurd (h refl)
rest_before (l ∷ ls) last h = refl

pub first_of : (ls : List Loop) (last : Loop) → (ls ≡ [] → ⊥) → first_or (ls ++ last ∷ []) no_loop ≡ first_or ls no_loop
first_of [] last h = absurd (h refl)
first_of (l ∷ ls) last h = refl

pub split_first : (ls : List Loop) (l : Loop) → slice_get ls 0 ≡ Some l → ls ≡ l ∷ rest_of ls
split_first [] l h = absurd cc
split_first (y ∷ ys) l h = cc

pub none_first : (ls : List Loop) → slice_get ls 0 ≡ None → ls ≡ []
none_first [] h = refl
none_first (y ∷ ys) h = absurd cc

pub noted_first : (ls : List Loop) (l m : Loop) (x : t.Ty) → slice_get ls 0 ≡ Some l → slice_set (slice_set ls 0 m) 0 (break_noted x l) ≡ broken_first x ls
noted_first [] l m x h = absurd cc
noted_first (y ∷ ys) l m x h = cc
