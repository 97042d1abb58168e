-- Each part derives something. Written by tools/grammar.py.
use Rattle.std.specs.Prelude.{◌≡◌, refl, [], ◌∷◌, map, None}
use Rattle.text_table.specs.declared.part.Part.{Part}
use Rattle.text_table.specs.declared.part.Part.TheVariants as N
use Rattle.table_reader.specs.declared.symbol.Symbol.TheVariants as S
use Rattle.table_reader.specs.Steps.{fault_from}
use Rattle.text_table.specs.Productions.{productions, rank}
use Rattle.text_table.specs.Lexemes.{takes, weight, sample}
use Rattle.text_table.specs.Shortest.{shortest}

pub ends : (n : Part) → fault_from takes productions rank weight (S.Part n ∷ []) (map sample (shortest n)) ≡ None
ends N.Text = refl
ends N.Types = refl
ends N.Declaration = refl
ends N.TypeParameters = refl
ends N.Variants = refl
ends N.VariantType = refl
ends N.VariantEnd = refl
ends N.Names = refl
ends N.Fields = refl
ends N.Type = refl
ends N.OtherType = refl
ends N.TypeInBrackets = refl
ends N.AfterTypeName = refl
ends N.TypeArguments = refl
ends N.Factors = refl
ends N.Definitions = refl
ends N.Definition = refl
ends N.FuelParameter = refl
ends N.FuelMatch = refl
ends N.DefinitionName = refl
ends N.NameEnd = refl
ends N.NamePart = refl
ends N.BackEnd = refl
ends N.ImplicitParameters = refl
ends N.Parameters = refl
ends N.Code = refl
ends N.Bound = refl
ends N.Arms = refl
ends N.Pattern = refl
ends N.PatternParts = refl
ends N.Variables = refl
ends N.Computation = refl
ends N.Primitive = refl
ends N.CastFrom = refl
ends N.InMemory = refl
ends N.ReplaceEnd = refl
ends N.SwapEnd = refl
ends N.SwapRegion = refl
ends N.Atom = refl
ends N.PlainAtom = refl
ends N.Constructor = refl
ends N.ExitVariant = refl
ends N.AtomInBrackets = refl
ends N.AfterConstructor = refl
ends N.TupleParts = refl
ends N.Arguments = refl
ends N.Atoms = refl
