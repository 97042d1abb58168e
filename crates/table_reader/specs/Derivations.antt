-- Which lexemes are derived, and where lexemes leave what is derived.
use Rattle.std.specs.Prelude.{◌≡◌, ◌⊎◌, ℕ, suc, ◌≤◌, ◌<◌, List, [], ◌∷◌, ◌++◌, take, length, map}
use Rattle.table_reader.specs.declared.symbol.Production.{Production}
use Rattle.table_reader.specs.declared.symbol.Symbol.{Symbol}
use Rattle.table_reader.specs.declared.symbol.Symbol.TheVariants as S
use Rattle.table_reader.specs.declared.take.Take.{Take}
use Rattle.table_reader.specs.declared.take.Take.TheVariants as K

-- an item of a list
abbrev pub IsOneOf : {A : Type 0} → A → List A → Type 0
IsOneOf x [] = ⊥
IsOneOf x (y ∷ ys) = (x ≡ y) ⊎ IsOneOf x ys

-- the symbols of productions
abbrev pub rows : {T N : Type 0} → List (Production T N) → List (List (Symbol T N))
rows ps = map (λ p. p.symbols.now) ps

module _ {T N L : Type 0} (takes : T → L → Take L) (productions : N → List (List (Symbol T N))) where
  -- a token of the grammar stands for a lexeme, or for its front, and then the rest for what is left of it and
  -- the lexemes after it; a part stands for the symbols of one of its productions
  pub data Derives : List (Symbol T N) → List L → Type 0 where
    nothing : Derives [] []
    token : {t : T} {l : L} {rest : List (Symbol T N)} {ls : List L} →
        takes t l ≡ K.Whole → Derives rest ls → Derives (S.Token t ∷ rest) (l ∷ ls)
    piece : {t : T} {l : L} {rest : List (Symbol T N)} {ls : List L} (taken left : L) →
        takes t l ≡ K.Front taken left → Derives rest (left ∷ ls) → Derives (S.Token t ∷ rest) (l ∷ ls)
    part : {n : N} {rest : List (Symbol T N)} {ls : List L} (p : List (Symbol T N)) →
        IsOneOf p (productions n) → Derives (p ++ rest) ls → Derives (S.Part n ∷ rest) ls

  -- something that is derived begins with these lexemes
  abbrev pub IsViable : List (Symbol T N) → List L → Type 0
  IsViable start ls = (us : List L) × Derives start (ls ++ us)

  -- the first lexeme such that nothing that is derived begins with the lexemes up to it; or the end, where
  -- something that is derived begins with all of them and they are not derived
  pub record IsFault (start : List (Symbol T N)) (ls : List L) (k : ℕ) : Type 0 where
    pub within : k ≤ length ls
    pub before : IsViable start (take k ls)
    pub here : k < length ls → IsViable start (take (suc k) ls) → ⊥
    pub ends : k ≡ length ls → Derives start ls → ⊥
