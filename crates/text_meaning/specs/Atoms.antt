-- Values that are terms of well-formed definitions (TEXT.md, "Well-formed definitions").
use Rattle.pure_ast.specs.declared.def.Defs.{Defs}
use Rattle.pure_ast.specs.Values.{PValue}
use Rattle.text_meaning.specs.ValueTerms.{value_term}
use Rattle.text_meaning.specs.WellFormedTerms.{IsTerm}

-- a value whose term is well-formed: numbers in range, no tuple of one part, and each constructor with all its parts
abbrev pub IsAtom : Defs → PValue → Type 0
IsAtom defs a = IsTerm defs (value_term a)
