-- What is asked of each part holds. Written by tools/grammar.py.
use Rattle.std.specs.Prelude.{◌≡◌, refl, true}
use Rattle.text_table.specs.declared.part.Part.{Part}
use Rattle.text_table.specs.declared.part.Part.TheVariants as N
use Rattle.table_reader.specs.Conditions.{fits_part}
use Rattle.text_table.specs.Productions.{productions, rank}
use Rattle.text_table.specs.Follow.{follow}
use Rattle.text_table.specs.Apart.{apart, same}

pub table : (n : Part) → fits_part productions rank follow apart same n ≡ true
table N.Text = refl
table N.Types = refl
table N.Declaration = refl
table N.TypeParameters = refl
table N.Variants = refl
table N.VariantType = refl
table N.VariantEnd = refl
table N.Names = refl
table N.Fields = refl
table N.Type = refl
table N.OtherType = refl
table N.TypeInBrackets = refl
table N.AfterTypeName = refl
table N.TypeArguments = refl
table N.Factors = refl
table N.Definitions = refl
table N.Definition = refl
table N.FuelParameter = refl
table N.FuelMatch = refl
table N.DefinitionName = refl
table N.NameEnd = refl
table N.NamePart = refl
table N.BackEnd = refl
table N.ImplicitParameters = refl
table N.Parameters = refl
table N.Code = refl
table N.Bound = refl
table N.Arms = refl
table N.Pattern = refl
table N.PatternParts = refl
table N.Variables = refl
table N.Computation = refl
table N.Primitive = refl
table N.CastFrom = refl
table N.InMemory = refl
table N.ReplaceEnd = refl
table N.SwapEnd = refl
table N.SwapRegion = refl
table N.Atom = refl
table N.PlainAtom = refl
table N.Constructor = refl
table N.ExitVariant = refl
table N.AtomInBrackets = refl
table N.AfterConstructor = refl
table N.TupleParts = refl
table N.Arguments = refl
table N.Atoms = refl
