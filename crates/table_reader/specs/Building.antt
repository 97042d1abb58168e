-- What a production makes of the values that stand on a stack, the newest first.
use Rattle.std.specs.Prelude.{◌≡◌, ℕ, zero, suc, List, [], ◌∷◌, IfOk}
use Rattle.std.proofs.Common.{sym, subst}
use Rattle.std.specs.declared.result.Result.{Result}
use Rattle.table_reader.specs.declared.item.Item.{Item}
use Rattle.table_reader.specs.declared.item.Item.TheVariants as I
use Rattle.table_reader.specs.declared.symbol.Symbol.{Symbol}
use Rattle.table_reader.specs.declared.symbol.Symbol.TheVariants as S
use Rattle.table_reader.specs.Reading.{Made, Parts, ValueOf}

module _ {T N L V : Type 0} (carrier : N → Type 0) (held : (n : N) → carrier n → V) where
  -- how the value of a symbol is held on a stack
  abbrev pub item : (s : Symbol T N) → ValueOf T N L carrier s → Item L V
  item (S.Token t) v = I.Token v
  item (S.Part n) v = I.Part (held n v)

  -- the values of symbols, put on a stack one after another
  abbrev pub put : (p : List (Symbol T N)) → Parts T N L carrier p → List (Item L V) → List (Item L V)
  put [] vs below = below
  put (s ∷ p) vs below = put p vs.1 (item s vs.0 ∷ below)

  -- the production in this place makes this value of what stands on top of the stack, and this is below
  abbrev pub MakesBy : (n : N) → List (Made T N L carrier n) → ℕ → List (Item L V) → V → List (Item L V) → Type 0
  MakesBy n [] i stack value below = ⊥
  MakesBy n (m ∷ ms) zero stack value below = (vs : Parts T N L carrier m.symbols) × ((stack ≡ put m.symbols vs below) × (value ≡ held n (m.make vs)))
  MakesBy n (m ∷ ms) (suc i) stack value below = MakesBy n ms i stack value below

  -- the values of the symbols of the production in this place stand on top of the stack
  pub record CanBuild (n : N) (ms : List (Made T N L carrier n)) (i : ℕ) (stack : List (Item L V)) : Type 0 where
    pub value : V
    pub below : List (Item L V)
    pub makes : MakesBy n ms i stack value below

  -- this is the value that the production in this place makes, and what stood below is left
  abbrev pub IsBuilt : (n : N) → List (Made T N L carrier n) → ℕ → List (Item L V) → V → List (Item L V) → Type 0
  IsBuilt n ms i stack it new = (value : V) (below : List (Item L V)) → MakesBy n ms i stack value below → (it ≡ value) × (new ≡ below)

  -- the same of a part and place that are known
  pub can_build_at : (made : (n : N) → List (Made T N L carrier n)) (n m : N) (i j : ℕ) (stack : List (Item L V)) → n ≡ m → i ≡ j → CanBuild n (made n) i stack → CanBuild m (made m) j stack
  can_build_at made n m i j stack e f h =
      subst (λ (k : N). CanBuild k (made k) j stack) e (subst (λ (k : ℕ). CanBuild n (made n) k stack) f h)

  pub built_at : (made : (n : N) → List (Made T N L carrier n)) (n m : N) (i j : ℕ) (stack new : List (Item L V)) (E : Type 0) (result : Result V E) → n ≡ m → i ≡ j →
      IfOk result (λ it. IsBuilt m (made m) j stack it new) → IfOk result (λ it. IsBuilt n (made n) i stack it new)
  built_at made n m i j stack new E result e f h =
      subst (λ (k : N). IfOk result (λ it. IsBuilt k (made k) i stack it new)) (sym e)
      (subst (λ (k : ℕ). IfOk result (λ it. IsBuilt m (made m) k stack it new)) (sym f) h)
