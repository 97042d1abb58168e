-- Productions with what they make, from the table and a function for each production.
use Rattle.std.specs.Prelude.{◌≡◌, refl, List, [], ◌∷◌}
use Rattle.std.proofs.Common.{ap}
use Rattle.table_reader.specs.declared.symbol.Symbol.{Symbol}
use Rattle.table_reader.specs.Reading.{Made, Parts, plain}

-- what each of these productions of a part makes of the values of its symbols, in order
abbrev pub Makes : (T N L : Type 0) → (N → Type 0) → N → List (List (Symbol T N)) → Type 0
Makes T N L carrier n [] = Unit {0}
Makes T N L carrier n (p ∷ ps) = (Parts T N L carrier p → carrier n) × Makes T N L carrier n ps

-- these productions with what they make
abbrev pub made_of : (T N L : Type 0) → (carrier : N → Type 0) → (n : N) → (ps : List (List (Symbol T N))) → Makes T N L carrier n ps → List (Made T N L carrier n)
made_of T N L carrier n [] makes = []
made_of T N L carrier n (p ∷ ps) makes = record { symbols = p; make = makes.0 } ∷ made_of T N L carrier n ps makes.1

same_of : (T N L : Type 0) (carrier : N → Type 0) (n : N) (ps : List (List (Symbol T N))) (makes : Makes T N L carrier n ps) → plain carrier n (made_of T N L carrier n ps makes) ≡ ps
same_of T N L carrier n [] makes = refl
same_of T N L carrier n (p ∷ ps) makes = ap (λ (qs : List (List (Symbol T N))). p ∷ qs) (same_of T N L carrier n ps makes.1)

module _ (T N L : Type 0) (carrier : N → Type 0) (productions : N → List (List (Symbol T N))) (makes : (n : N) → Makes T N L carrier n (productions n)) where
  -- the productions of each part with what they make: a language's `made`
  abbrev pub made_by : (n : N) → List (Made T N L carrier n)
  made_by n = made_of T N L carrier n (productions n) (makes n)

  -- and its proof that the productions are those of the grammar
  pub same_made : (n : N) → plain carrier n (made_by n) ≡ productions n
  same_made n = same_of T N L carrier n (productions n) (makes n)
