-- What definitions declare (TEXT.md, "Well-formed definitions").
use Rattle.std.specs.Prelude.{length, map}
use Rattle.pure_ast.specs.declared.def.Def.{Def}
use Rattle.pure_ast.specs.declared.def.Defs.{Defs}
use Rattle.pure_ast.specs.declared.def.PType.{PType}
use Rattle.text_meaning.specs.Lookups.{Variant}
use Rattle.raw_meaning.specs.declared.outline.DefinitionHead.{DefinitionHead}
use Rattle.raw_meaning.specs.declared.outline.Outline.{Outline}
use Rattle.raw_meaning.specs.declared.outline.TypeHead.{TypeHead}
use Rattle.raw_meaning.specs.declared.outline.VariantHead.{VariantHead}

abbrev pub head_of_variant : Variant → VariantHead
head_of_variant v = record { name = v.0; fields = length v.1 }

abbrev pub head_of_type : PType → TypeHead
head_of_type t = record { name = t.name; parameters = length t.params; variants = map head_of_variant t.variants }

abbrev pub head_of_definition : Def → DefinitionHead
head_of_definition x = record { kind = x.kind; parameters = length x.params }

abbrev pub declared_by : Defs → Outline
declared_by d = record { types = map head_of_type d.types; functions = d.names; definitions = map head_of_definition d.defs }
