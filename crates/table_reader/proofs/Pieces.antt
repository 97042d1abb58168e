-- As many turns as a lexeme needs are enough, and more give the same.
use Rattle.std.proofs.Common.{◌≡◌, refl, ℕ, zero, suc, ◌<◌, arith, List}
use Rattle.table_reader.specs.declared.symbol.Symbol.{Symbol}
use Rattle.table_reader.specs.declared.take.Take.{Take}
use Rattle.table_reader.specs.Conditions.{Fits}
use Rattle.table_reader.specs.Steps.{Turn, refused, taken, left, turn, turns, after_turn}
use Rattle.table_reader.proofs.Completeness as Completeness

module _ {T N L : Type 0} (takes : T → L → Take L) (productions : N → List (List (Symbol T N))) (rank : ℕ) (weight : L → ℕ)
    (fits : Fits takes productions rank weight) where
  abbrev Symbols : Type 0
  Symbols = List (Symbol T N)

  abbrev Lighter : Turn T N L → L → Type 0
  Lighter t l = Completeness.Lighter takes productions rank weight fits t l

  same_after : (k m : ℕ) (t : Turn T N L) (l : L) → Lighter t l →
      ((p : Symbols) (r : L) → weight r < weight l → turns takes productions rank weight k p r ≡ turns takes productions rank weight m p r) →
      after_turn takes productions rank weight t (λ p r. turns takes productions rank weight k p r)
      ≡ after_turn takes productions rank weight t (λ p r. turns takes productions rank weight m p r)
  same_after k m refused l h f = refl
  same_after k m (taken p) l h f = refl
  same_after k m (left p r) l h f = f p r h

  -- more turns than the lexeme has weight are all the same
  pub same_turns : (k m : ℕ) (s : Symbols) (l : L) → weight l < k → weight l < m → turns takes productions rank weight k s l ≡ turns takes productions rank weight m s l
  same_turns zero m s l v w = absurd (omega arith)
  same_turns (suc k) zero s l v w = absurd (omega arith)
  same_turns (suc k) (suc m) s l v w =
      same_after k m (turn takes productions rank weight s l) l (Completeness.turn_lighter takes productions rank weight fits s l)
      (λ p r u. same_turns k m p r (omega (arith, u, v)) (omega (arith, u, w)))
