-- What is counted along the lexemes of a source, and its limits (LANGUAGE.md, "Limits").
use Rattle.std.specs.Prelude.{ℕ, suc, ◌+◌, ◌-◌, ◌<◌, nat_lt, Bool, false, ◌||◌, List, [], ◌∷◌, length, take, sum}
use Rattle.source_grammar.specs.declared.class.Class.{Class}
use Rattle.source_grammar.specs.declared.class.Class.TheVariants as C
use Rattle.source_grammar.specs.declared.lexeme.Lexeme.{Lexeme}
use Rattle.source_syntax.specs.declared.effect.Effect.{Effect}
use Rattle.source_syntax.specs.declared.effect.Effect.TheVariants as E

-- what a lexeme does to what is counted: a bracket opens a level or closes one; operators count at their level,
-- and where a statement, an item or a part of a list begins, its level's count begins anew
abbrev pub effect : Class → Effect
effect C.OpenBracket = E.Opens
effect C.OpenSquare = E.Opens
effect C.OpenBrace = E.Opens
effect C.CloseBracket = E.Closes
effect C.CloseSquare = E.Closes
effect C.CloseBrace = E.Closes
effect C.Semicolon = E.Resets
effect C.Comma = E.Resets
effect C.Gives = E.Resets
effect C.Let = E.Resets
effect C.Fn = E.Resets
effect C.Struct = E.Resets
effect C.Enum = E.Resets
effect C.As = E.Counts
effect C.Return = E.Counts
effect C.Break = E.Counts
effect C.Dot = E.Counts
effect C.Plus = E.Counts
effect C.Minus = E.Counts
effect C.Star = E.Counts
effect C.Slash = E.Counts
effect C.Percent = E.Counts
effect C.Shl = E.Counts
effect C.Shr = E.Counts
effect C.And = E.Counts
effect C.Caret = E.Counts
effect C.Bar = E.Counts
effect C.AndAnd = E.Counts
effect C.BarBar = E.Counts
effect C.Not = E.Counts
effect C.EqualsEquals = E.Counts
effect C.NotEquals = E.Counts
effect C.Less = E.Counts
effect C.Greater = E.Counts
effect C.LessEquals = E.Counts
effect C.GreaterEquals = E.Counts
effect C.Equals = E.Counts
effect C.PlusEquals = E.Counts
effect C.MinusEquals = E.Counts
effect C.StarEquals = E.Counts
effect C.SlashEquals = E.Counts
effect C.PercentEquals = E.Counts
effect C.AndEquals = E.Counts
effect C.BarEquals = E.Counts
effect C.CaretEquals = E.Counts
effect C.ShlEquals = E.Counts
effect C.ShrEquals = E.Counts
effect c = E.Nothing

-- the brackets that are open after a lexeme: a closing one of any kind ends one, where one is open
abbrev pub bracketed : ℕ → Effect → ℕ
bracketed n E.Opens = suc n
bracketed n E.Closes = n - 1
bracketed n e = n

-- the operators counted in the innermost level, and in each level around it; the last is the text outside all brackets
pub record Levels : Type 0 where
  pub innermost : ℕ
  pub around : List ℕ

abbrev pub closed : ℕ → List ℕ → Levels
closed n [] = record { innermost = n; around = [] }
closed n (outer ∷ around) = record { innermost = outer; around = around }

abbrev pub levelled : Levels → Effect → Levels
levelled s E.Opens = record { innermost = 0; around = s.innermost ∷ s.around }
levelled s E.Closes = closed s.innermost s.around
levelled s E.Resets = record { innermost = 0; around = s.around }
levelled s E.Counts = record { innermost = suc s.innermost; around = s.around }
levelled s E.Nothing = s

-- open brackets and the operators counted in all open levels
abbrev pub depth : Levels → ℕ
depth s = s.innermost + (sum s.around + length s.around)

abbrev pub outside : Levels
outside = record { innermost = 0; around = [] }

-- words `else` since the last word `fn`
abbrev pub elses : ℕ → Class → ℕ
elses n C.Fn = 0
elses n C.Else = suc n
elses n c = n

module _ {S : Type 0} (after : S → Class → S) (count : S → ℕ) (limit : ℕ) where
  -- what is counted after these lexemes
  abbrev pub counted : S → List Lexeme → S
  counted s [] = s
  counted s (l ∷ ls) = counted (after s l.class) ls

  -- the count passes its limit at some lexeme
  abbrev pub Passes : S → List Lexeme → Type 0
  Passes s ls = (k : ℕ) × (limit < count (counted s (take k ls)))

  -- the same, decided
  abbrev pub passes : S → List Lexeme → Bool
  passes s [] = false
  passes s (l ∷ ls) = nat_lt limit (count (after s l.class)) || passes (after s l.class) ls

abbrev pub bracketing : ℕ → Class → ℕ
bracketing n c = bracketed n (effect c)

abbrev pub levelling : Levels → Class → Levels
levelling s c = levelled s (effect c)

abbrev pub itself : ℕ → ℕ
itself n = n

-- more than 100 brackets are open at some lexeme
abbrev pub PassesNesting : List Lexeme → Type 0
PassesNesting ls = Passes bracketing itself 100 0 ls

abbrev pub passes_nesting : List Lexeme → Bool
passes_nesting ls = passes bracketing itself 100 0 ls

-- the depth is more than 250 at some lexeme
abbrev pub PassesDepth : List Lexeme → Type 0
PassesDepth ls = Passes levelling depth 250 outside ls

abbrev pub passes_depth : List Lexeme → Bool
passes_depth ls = passes levelling depth 250 outside ls

-- more than 250 words `else` stand since the last `fn` at some lexeme
abbrev pub PassesElse : List Lexeme → Type 0
PassesElse ls = Passes elses itself 250 0 ls

abbrev pub passes_else : List Lexeme → Bool
passes_else ls = passes elses itself 250 0 ls
