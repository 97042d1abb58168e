-- The grammar: what each part may be replaced by (docs/TEXT.md, "Grammar"). Where two ways begin alike, a part of its own
-- stands for what comes after that beginning. Written by tools/grammar.py.
use Rattle.std.specs.Prelude.{ℕ, List, [], ◌∷◌}
use Rattle.table_reader.specs.declared.symbol.Symbol.{Symbol}
use Rattle.table_reader.specs.declared.symbol.Symbol.TheVariants as S
use Rattle.text_table.specs.declared.terminal.Terminal.{Terminal}
use Rattle.text_table.specs.declared.terminal.Terminal.TheVariants as T
use Rattle.text_table.specs.declared.part.Part.{Part}
use Rattle.text_table.specs.declared.part.Part.TheVariants as N

-- a token, and what comes after it
infixr 5 ◌▸◌
abbrev pub ◌▸◌ : Terminal → List (Symbol Terminal Part) → List (Symbol Terminal Part)
t ▸ rest = S.Token t ∷ rest

-- a part, and what comes after it
infixr 5 ◌▹◌
abbrev pub ◌▹◌ : Part → List (Symbol Terminal Part) → List (Symbol Terminal Part)
n ▹ rest = S.Part n ∷ rest

abbrev pub productions : Part → List (List (Symbol Terminal Part))
-- `text`
productions N.Text = (T.Import ▸ T.AenPrelude ▸ T.Open ▸ T.AenPrelude ▸ N.Types ▹ N.Definitions ▹ []) ∷ []
-- `type*`
productions N.Types = [] ∷ (N.Declaration ▹ N.Types ▹ []) ∷ []
-- `type`
productions N.Declaration =
    (T.Inductive ▸ T.Name ▸ N.TypeParameters ▹ T.Where ▸ N.Variants ▹ [])
    ∷ (T.Structure ▸ T.Name ▸ N.TypeParameters ▹ T.Where ▸ N.Fields ▹ []) ∷ []
-- `("(" id ":" "Type" ")")*`
productions N.TypeParameters = [] ∷ (T.OpenBracket ▸ T.Name ▸ T.Colon ▸ T.Type ▸ T.CloseBracket ▸ N.TypeParameters ▹ []) ∷ []
-- `("|" id ":" (aty "→")* id id*)*`
productions N.Variants = [] ∷ (T.Bar ▸ T.Name ▸ T.Colon ▸ N.VariantType ▹ N.Variants ▹ []) ∷ []
-- `(aty "→")* id id*`: whether an id is a type or the end shows after it
productions N.VariantType = (N.OtherType ▹ T.To ▸ N.VariantType ▹ []) ∷ (T.Name ▸ N.VariantEnd ▹ []) ∷ []
-- The same after that id.
productions N.VariantEnd = [] ∷ (T.To ▸ N.VariantType ▹ []) ∷ (T.Name ▸ N.Names ▹ []) ∷ []
-- `id*`
productions N.Names = [] ∷ (T.Name ▸ N.Names ▹ []) ∷ []
-- `("(" id ":" aty ")")*`
productions N.Fields = [] ∷ (T.OpenBracket ▸ T.Name ▸ T.Colon ▸ N.Type ▹ T.CloseBracket ▸ N.Fields ▹ []) ∷ []
-- `aty`
productions N.Type = (N.OtherType ▹ []) ∷ (T.Name ▸ []) ∷ []
-- An `aty` that is no id.
productions N.OtherType = (T.Int ▸ []) ∷ (T.Bool ▸ []) ∷ (T.Unit ▸ []) ∷ (T.OpenBracket ▸ N.TypeInBrackets ▹ []) ∷ []
-- An `aty` after its `(`.
productions N.TypeInBrackets =
    (N.OtherType ▹ T.Times ▸ N.Type ▹ N.Factors ▹ [])
    ∷ (T.Exit ▸ N.Type ▹ N.Type ▹ T.CloseBracket ▸ [])
    ∷ (T.Name ▸ N.AfterTypeName ▹ []) ∷ []
-- An `aty` after its `(` and an id, which may be the first part of a product.
productions N.AfterTypeName = (N.Type ▹ N.TypeArguments ▹ []) ∷ (T.Times ▸ N.Type ▹ N.Factors ▹ []) ∷ []
-- `aty* ")"`
productions N.TypeArguments = (T.CloseBracket ▸ []) ∷ (N.Type ▹ N.TypeArguments ▹ []) ∷ []
-- `("×" aty)* ")"`
productions N.Factors = (T.CloseBracket ▸ []) ∷ (T.Times ▸ N.Type ▹ N.Factors ▹ []) ∷ []
-- `def*`
productions N.Definitions = [] ∷ (N.Definition ▹ N.Definitions ▹ []) ∷ []
-- `def`
productions N.Definition = (T.Def ▸ N.DefinitionName ▹ N.ImplicitParameters ▹ N.FuelParameter ▹ N.Parameters ▹ T.Colon ▸ T.Result ▸ N.Type ▹ T.Becomes ▸ N.FuelMatch ▹ N.Code ▹ []) ∷ []
-- `"(" "n" ":" "Nat" ")"`
productions N.FuelParameter = (T.OpenBracket ▸ T.Fuel ▸ T.Colon ▸ T.Nat ▸ T.CloseBracket ▸ []) ∷ []
-- `"match" "n" "with" "|" "0" "=>" "outOfFuel" "|" "n" "+" "1" "=>" "do"`
productions N.FuelMatch = (T.Match ▸ T.Fuel ▸ T.With ▸ T.Bar ▸ T.Zero ▸ T.Gives ▸ T.OutOfFuel ▸ T.Bar ▸ T.Fuel ▸ T.Plus ▸ T.One ▸ T.Gives ▸ T.Do ▸ []) ∷ []
-- `dname`
productions N.DefinitionName = (T.Fn ▸ T.Dot ▸ T.Name ▸ N.NameEnd ▹ []) ∷ []
-- `("." "loop"k)? ("." "back"k)?`
productions N.NameEnd = [] ∷ (T.Dot ▸ N.NamePart ▹ []) ∷ []
-- The same after its first dot.
productions N.NamePart = (T.LoopNumber ▸ N.BackEnd ▹ []) ∷ (T.Back ▸ []) ∷ []
-- `("." "back"k)?`
productions N.BackEnd = [] ∷ (T.Dot ▸ T.Back ▸ []) ∷ []
-- `("{" id ":" "Type" "}")*`
productions N.ImplicitParameters = [] ∷ (T.OpenBrace ▸ T.Name ▸ T.Colon ▸ T.Type ▸ T.CloseBrace ▸ N.ImplicitParameters ▹ []) ∷ []
-- `("(" var ":" aty ")")*`
productions N.Parameters = [] ∷ (T.OpenBracket ▸ T.Variable ▸ T.Colon ▸ N.Type ▹ T.CloseBracket ▸ N.Parameters ▹ []) ∷ []
-- `code`
productions N.Code =
    (T.Let ▸ T.Variable ▸ N.Bound ▹ [])
    ∷ (T.OpenBracket ▸ T.Match ▸ N.Atom ▹ T.With ▸ N.Arms ▹ [])
    ∷ (N.Computation ▹ []) ∷ []
-- Code after `let` and its variable.
productions N.Bound =
    (T.From ▸ N.Computation ▹ T.Semicolon ▸ N.Code ▹ [])
    ∷ (T.Becomes ▸ N.Atom ▹ T.Semicolon ▸ N.Code ▹ []) ∷ []
-- `arm* ")"`
productions N.Arms = (T.CloseBracket ▸ []) ∷ (T.Bar ▸ N.Pattern ▹ T.Gives ▸ T.Do ▸ N.Code ▹ N.Arms ▹ []) ∷ []
-- `pat`
productions N.Pattern =
    (T.Truth ▸ [])
    ∷ (T.OpenBracket ▸ T.Variable ▸ T.Comma ▸ T.Variable ▸ N.PatternParts ▹ [])
    ∷ (N.Constructor ▹ N.Variables ▹ []) ∷ []
-- `("," var)* ")"`
productions N.PatternParts = (T.CloseBracket ▸ []) ∷ (T.Comma ▸ T.Variable ▸ N.PatternParts ▹ []) ∷ []
-- `var*`
productions N.Variables = [] ∷ (T.Variable ▸ N.Variables ▹ []) ∷ []
-- `comp`
productions N.Computation =
    (T.Ok ▸ N.Atom ▹ [])
    ∷ (T.Fail ▸ [])
    ∷ (N.DefinitionName ▹ T.Fuel ▸ N.Atoms ▹ [])
    ∷ (N.Primitive ▹ N.Atoms ▹ []) ∷ []
-- `prim`
productions N.Primitive =
    (T.Int ▸ T.Dot ▸ T.IntOperator ▸ [])
    ∷ (T.Bool ▸ T.Dot ▸ T.BoolOperator ▸ [])
    ∷ (T.Cast ▸ T.Dot ▸ N.CastFrom ▹ [])
    ∷ (T.Box ▸ T.Dot ▸ T.New ▸ [])
    ∷ (T.Mem ▸ T.Dot ▸ N.InMemory ▹ []) ∷ []
-- A cast after its first dot.
productions N.CastFrom = (T.Int ▸ T.Dot ▸ T.Int ▸ []) ∷ (T.Bool ▸ T.Dot ▸ T.Int ▸ []) ∷ []
-- A primitive after `mem` and its dot.
productions N.InMemory = (T.Replace ▸ N.ReplaceEnd ▹ []) ∷ (T.Swap ▸ N.SwapEnd ▹ []) ∷ []
-- What follows `mem.replace`.
productions N.ReplaceEnd = [] ∷ (T.Dot ▸ T.BackZero ▸ []) ∷ []
-- What follows `mem.swap`.
productions N.SwapEnd = [] ∷ (T.Dot ▸ N.SwapRegion ▹ []) ∷ []
-- The same after its dot.
productions N.SwapRegion = (T.BackZero ▸ []) ∷ (T.BackOne ▸ []) ∷ []
-- `atom`
productions N.Atom = (N.PlainAtom ▹ []) ∷ (N.Constructor ▹ []) ∷ []
-- An `atom` that is no `cname`.
productions N.PlainAtom =
    (T.Variable ▸ [])
    ∷ (T.Number ▸ T.Hash ▸ T.Int ▸ [])
    ∷ (T.Truth ▸ [])
    ∷ (T.UnitValue ▸ [])
    ∷ (T.OpenBracket ▸ N.AtomInBrackets ▹ []) ∷ []
-- `cname`
productions N.Constructor = (T.Name ▸ T.Dot ▸ T.Name ▸ []) ∷ (T.Exit ▸ T.Dot ▸ N.ExitVariant ▹ []) ∷ []
-- A constructor after `Exit` and its dot.
productions N.ExitVariant = (T.Brk ▸ []) ∷ (T.Ret ▸ []) ∷ []
-- An `atom` after its `(`: a tuple, or a constructor with parts.
productions N.AtomInBrackets =
    (N.PlainAtom ▹ T.Comma ▸ N.Atom ▹ N.TupleParts ▹ [])
    ∷ (N.Constructor ▹ N.AfterConstructor ▹ []) ∷ []
-- The same after a constructor, which may be the first part of a tuple.
productions N.AfterConstructor = (N.Atom ▹ N.Arguments ▹ []) ∷ (T.Comma ▸ N.Atom ▹ N.TupleParts ▹ []) ∷ []
-- `("," atom)* ")"`
productions N.TupleParts = (T.CloseBracket ▸ []) ∷ (T.Comma ▸ N.Atom ▹ N.TupleParts ▹ []) ∷ []
-- `atom* ")"`
productions N.Arguments = (T.CloseBracket ▸ []) ∷ (N.Atom ▹ N.Arguments ▹ []) ∷ []
-- `atom*`
productions N.Atoms = [] ∷ (N.Atom ▹ N.Atoms ▹ []) ∷ []

-- how many parts can begin one another
abbrev pub rank : ℕ
rank = 2
