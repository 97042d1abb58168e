-- The classes of each token, and how they are spelled. Written by tools/grammar.py.
use Rattle.std.specs.Prelude.{ℕ, List, [], ◌∷◌, codes}
use Rattle.source_grammar.specs.declared.class.Class.{Class}
use Rattle.source_grammar.specs.declared.class.Class.TheVariants as C
use Rattle.source_grammar.specs.declared.terminal.Terminal.{Terminal}
use Rattle.source_grammar.specs.declared.terminal.Terminal.TheVariants as T

abbrev pub classes : Terminal → List Class
classes T.IntWord = C.IntWord ∷ []
classes T.Lifetime = C.Lifetime ∷ []
classes T.Integer = C.Integer ∷ []
classes T.Digits = C.Digits ∷ []
classes T.Text = C.Text ∷ []
classes T.As = C.As ∷ []
classes T.Break = C.Break ∷ []
classes T.Continue = C.Continue ∷ []
classes T.Else = C.Else ∷ []
classes T.Enum = C.Enum ∷ []
classes T.Fn = C.Fn ∷ []
classes T.If = C.If ∷ []
classes T.Let = C.Let ∷ []
classes T.Loop = C.Loop ∷ []
classes T.Match = C.Match ∷ []
classes T.Mut = C.Mut ∷ []
classes T.Pub = C.Pub ∷ []
classes T.Return = C.Return ∷ []
classes T.Struct = C.Struct ∷ []
classes T.Use = C.Use ∷ []
classes T.While = C.While ∷ []
classes T.Bool = C.Bool ∷ []
classes T.Box = C.Box ∷ []
classes T.Allow = C.Allow ∷ []
classes T.Std = C.Std ∷ []
classes T.Mem = C.Mem ∷ []
classes T.New = C.New ∷ []
classes T.Assert = C.Assert ∷ []
classes T.Colons = C.Colons ∷ []
classes T.Arrow = C.Arrow ∷ []
classes T.Gives = C.Gives ∷ []
classes T.AndAnd = C.AndAnd ∷ []
classes T.BarBar = C.BarBar ∷ []
classes T.Minus = C.Minus ∷ []
classes T.Star = C.Star ∷ []
classes T.And = C.And ∷ []
classes T.Bar = C.Bar ∷ []
classes T.Caret = C.Caret ∷ []
classes T.Not = C.Not ∷ []
classes T.Equals = C.Equals ∷ []
classes T.Less = C.Less ∷ []
classes T.Greater = C.Greater ∷ []
classes T.OpenBracket = C.OpenBracket ∷ []
classes T.CloseBracket = C.CloseBracket ∷ []
classes T.OpenBrace = C.OpenBrace ∷ []
classes T.CloseBrace = C.CloseBrace ∷ []
classes T.OpenSquare = C.OpenSquare ∷ []
classes T.CloseSquare = C.CloseSquare ∷ []
classes T.Comma = C.Comma ∷ []
classes T.Semicolon = C.Semicolon ∷ []
classes T.Colon = C.Colon ∷ []
classes T.Dot = C.Dot ∷ []
classes T.Hash = C.Hash ∷ []
classes T.Wild = C.Wild ∷ []
classes T.Identifier = C.Other ∷ C.Allow ∷ C.Derive ∷ C.Std ∷ C.Mem ∷ C.New ∷ C.Replace ∷ C.Swap ∷ C.Panic ∷ C.Unreachable ∷ C.Assert ∷ []
classes T.PathName = C.Other ∷ C.Allow ∷ C.Derive ∷ C.New ∷ C.Replace ∷ C.Swap ∷ []
classes T.PatternName = C.Other ∷ C.Allow ∷ C.Derive ∷ C.New ∷ C.Replace ∷ C.Swap ∷ C.Panic ∷ C.Unreachable ∷ C.Assert ∷ []
classes T.NotMem = C.Other ∷ C.Allow ∷ C.Derive ∷ C.Std ∷ C.New ∷ C.Replace ∷ C.Swap ∷ C.Panic ∷ C.Unreachable ∷ C.Assert ∷ []
classes T.NotSwap = C.Other ∷ C.Allow ∷ C.Derive ∷ C.Std ∷ C.Mem ∷ C.New ∷ C.Panic ∷ C.Unreachable ∷ C.Assert ∷ []
classes T.SwapName = C.Replace ∷ C.Swap ∷ []
classes T.AttributeName = C.Allow ∷ C.Derive ∷ []
classes T.PanicName = C.Panic ∷ C.Unreachable ∷ []
classes T.BoolLiteral = C.False ∷ C.True ∷ []
classes T.AnyLifetime = C.Lifetime ∷ C.Elided ∷ []
classes T.AssignOp = C.ShlEquals ∷ C.ShrEquals ∷ C.PlusEquals ∷ C.MinusEquals ∷ C.StarEquals ∷ C.SlashEquals ∷ C.PercentEquals ∷ C.AndEquals ∷ C.BarEquals ∷ C.CaretEquals ∷ C.Equals ∷ []
classes T.CompareOp = C.EqualsEquals ∷ C.NotEquals ∷ C.LessEquals ∷ C.GreaterEquals ∷ C.Less ∷ C.Greater ∷ []
classes T.ShiftOp = C.Shl ∷ C.Shr ∷ []
classes T.SumOp = C.Plus ∷ C.Minus ∷ []
classes T.ProductOp = C.Star ∷ C.Slash ∷ C.Percent ∷ []
classes T.TypesEnd = C.ShrEquals ∷ C.GreaterEquals ∷ C.Shr ∷ C.Greater ∷ []

-- one of them that is taken whole
abbrev pub sample_class : Terminal → Class
sample_class T.IntWord = C.IntWord
sample_class T.Lifetime = C.Lifetime
sample_class T.Integer = C.Integer
sample_class T.Digits = C.Digits
sample_class T.Text = C.Text
sample_class T.As = C.As
sample_class T.Break = C.Break
sample_class T.Continue = C.Continue
sample_class T.Else = C.Else
sample_class T.Enum = C.Enum
sample_class T.Fn = C.Fn
sample_class T.If = C.If
sample_class T.Let = C.Let
sample_class T.Loop = C.Loop
sample_class T.Match = C.Match
sample_class T.Mut = C.Mut
sample_class T.Pub = C.Pub
sample_class T.Return = C.Return
sample_class T.Struct = C.Struct
sample_class T.Use = C.Use
sample_class T.While = C.While
sample_class T.Bool = C.Bool
sample_class T.Box = C.Box
sample_class T.Allow = C.Allow
sample_class T.Std = C.Std
sample_class T.Mem = C.Mem
sample_class T.New = C.New
sample_class T.Assert = C.Assert
sample_class T.Colons = C.Colons
sample_class T.Arrow = C.Arrow
sample_class T.Gives = C.Gives
sample_class T.AndAnd = C.AndAnd
sample_class T.BarBar = C.BarBar
sample_class T.Minus = C.Minus
sample_class T.Star = C.Star
sample_class T.And = C.And
sample_class T.Bar = C.Bar
sample_class T.Caret = C.Caret
sample_class T.Not = C.Not
sample_class T.Equals = C.Equals
sample_class T.Less = C.Less
sample_class T.Greater = C.Greater
sample_class T.OpenBracket = C.OpenBracket
sample_class T.CloseBracket = C.CloseBracket
sample_class T.OpenBrace = C.OpenBrace
sample_class T.CloseBrace = C.CloseBrace
sample_class T.OpenSquare = C.OpenSquare
sample_class T.CloseSquare = C.CloseSquare
sample_class T.Comma = C.Comma
sample_class T.Semicolon = C.Semicolon
sample_class T.Colon = C.Colon
sample_class T.Dot = C.Dot
sample_class T.Hash = C.Hash
sample_class T.Wild = C.Wild
sample_class T.Identifier = C.Other
sample_class T.PathName = C.Other
sample_class T.PatternName = C.Other
sample_class T.NotMem = C.Other
sample_class T.NotSwap = C.Other
sample_class T.SwapName = C.Replace
sample_class T.AttributeName = C.Allow
sample_class T.PanicName = C.Panic
sample_class T.BoolLiteral = C.False
sample_class T.AnyLifetime = C.Lifetime
sample_class T.AssignOp = C.ShlEquals
sample_class T.CompareOp = C.EqualsEquals
sample_class T.ShiftOp = C.Shl
sample_class T.SumOp = C.Plus
sample_class T.ProductOp = C.Star
sample_class T.TypesEnd = C.Greater

-- how lexemes of a class are spelled, where it has one spelling
abbrev pub spelling : Class → List ℕ
spelling C.As = codes "as"
spelling C.Break = codes "break"
spelling C.Continue = codes "continue"
spelling C.Else = codes "else"
spelling C.Enum = codes "enum"
spelling C.False = codes "false"
spelling C.Fn = codes "fn"
spelling C.If = codes "if"
spelling C.Let = codes "let"
spelling C.Loop = codes "loop"
spelling C.Match = codes "match"
spelling C.Mut = codes "mut"
spelling C.Pub = codes "pub"
spelling C.Return = codes "return"
spelling C.Struct = codes "struct"
spelling C.True = codes "true"
spelling C.Use = codes "use"
spelling C.While = codes "while"
spelling C.Bool = codes "bool"
spelling C.Box = codes "Box"
spelling C.Allow = codes "allow"
spelling C.Derive = codes "derive"
spelling C.Std = codes "std"
spelling C.Mem = codes "mem"
spelling C.New = codes "new"
spelling C.Replace = codes "replace"
spelling C.Swap = codes "swap"
spelling C.Panic = codes "panic"
spelling C.Unreachable = codes "unreachable"
spelling C.Assert = codes "assert"
spelling C.ShlEquals = codes "<<="
spelling C.ShrEquals = codes ">>="
spelling C.Colons = codes "::"
spelling C.Arrow = codes "->"
spelling C.Gives = codes "=>"
spelling C.EqualsEquals = codes "=="
spelling C.NotEquals = codes "!="
spelling C.LessEquals = codes "<="
spelling C.GreaterEquals = codes ">="
spelling C.AndAnd = codes "&&"
spelling C.BarBar = codes "||"
spelling C.Shl = codes "<<"
spelling C.Shr = codes ">>"
spelling C.PlusEquals = codes "+="
spelling C.MinusEquals = codes "-="
spelling C.StarEquals = codes "*="
spelling C.SlashEquals = codes "/="
spelling C.PercentEquals = codes "%="
spelling C.AndEquals = codes "&="
spelling C.BarEquals = codes "|="
spelling C.CaretEquals = codes "^="
spelling C.Plus = codes "+"
spelling C.Minus = codes "-"
spelling C.Star = codes "*"
spelling C.Slash = codes "/"
spelling C.Percent = codes "%"
spelling C.And = codes "&"
spelling C.Bar = codes "|"
spelling C.Caret = codes "^"
spelling C.Not = codes "!"
spelling C.Equals = codes "="
spelling C.Less = codes "<"
spelling C.Greater = codes ">"
spelling C.OpenBracket = codes "("
spelling C.CloseBracket = codes ")"
spelling C.OpenBrace = codes "{"
spelling C.CloseBrace = codes "}"
spelling C.OpenSquare = codes "["
spelling C.CloseSquare = codes "]"
spelling C.Comma = codes ","
spelling C.Semicolon = codes ";"
spelling C.Colon = codes ":"
spelling C.Dot = codes "."
spelling C.Hash = codes "#"
spelling C.Wild = codes "_"
spelling c = []

-- the classes of words, and of identifiers with a class of their own
abbrev pub names : List Class
names = C.As ∷ C.Break ∷ C.Continue ∷ C.Else ∷ C.Enum ∷ C.False ∷ C.Fn ∷ C.If ∷ C.Let ∷ C.Loop ∷ C.Match ∷ C.Mut ∷ C.Pub ∷ C.Return ∷ C.Struct ∷ C.True ∷ C.Use ∷ C.While ∷ C.Bool ∷ C.Box ∷ C.Allow ∷ C.Derive ∷ C.Std ∷ C.Mem ∷ C.New ∷ C.Replace ∷ C.Swap ∷ C.Panic ∷ C.Unreachable ∷ C.Assert ∷ []

-- the classes of marks
abbrev pub marks : List Class
marks = C.ShlEquals ∷ C.ShrEquals ∷ C.Colons ∷ C.Arrow ∷ C.Gives ∷ C.EqualsEquals ∷ C.NotEquals ∷ C.LessEquals ∷ C.GreaterEquals ∷ C.AndAnd ∷ C.BarBar ∷ C.Shl ∷ C.Shr ∷ C.PlusEquals ∷ C.MinusEquals ∷ C.StarEquals ∷ C.SlashEquals ∷ C.PercentEquals ∷ C.AndEquals ∷ C.BarEquals ∷ C.CaretEquals ∷ C.Plus ∷ C.Minus ∷ C.Star ∷ C.Slash ∷ C.Percent ∷ C.And ∷ C.Bar ∷ C.Caret ∷ C.Not ∷ C.Equals ∷ C.Less ∷ C.Greater ∷ C.OpenBracket ∷ C.CloseBracket ∷ C.OpenBrace ∷ C.CloseBrace ∷ C.OpenSquare ∷ C.CloseSquare ∷ C.Comma ∷ C.Semicolon ∷ C.Colon ∷ C.Dot ∷ C.Hash ∷ C.Wild ∷ []
