-- The place of a copy.
use Rattle.std.specs.Prelude.{◌≡◌, true, Result, Ok, Err}
use Rattle.rust_ast.specs.Spelled as s

-- a copied place, or another form
abbrev pub IsCopied : s.Form → Result s.Place s.Form → Type 0
IsCopied n (Ok p) = n ≡ s.use_of p true
IsCopied n (Err n2) = (n2 ≡ n) × ((p : s.Place) → n ≡ s.use_of p true → ⊥)
