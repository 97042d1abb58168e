-- What a borrow lends.
use Rattle.std.specs.Prelude.{◌≡◌, Bool, Result, Ok, Err}
use Rattle.rust_ast.specs.Spelled as s

-- the content of a borrow of this kind, or another form
abbrev pub IsLent : Bool → s.Form → Result s.Place s.Form → Type 0
IsLent m n (Ok p) = n ≡ s.borrow m p
IsLent m n (Err n2) = (n2 ≡ n) × ((p : s.Place) → n ≡ s.borrow m p → ⊥)
