-- What a type's name with so many arguments stands for.
use Rattle.std.specs.Prelude.{ℕ, ◌==◌, if◌then◌else◌, Option, Some, None}
use Rattle.std.specs.Option.{option_map}
use Rattle.raw_meaning.specs.Trees.{with_parts}
use Rattle.text_names.specs.declared.name_rules.TypeName.{TypeName}
use Rattle.text_names.specs.declared.name_rules.TypeName.TheVariants as T

-- a type parameter has no arguments; a declared type has one for each of its type parameters
abbrev pub type_named : Option ℕ → Option (ℕ × ℕ) → ℕ → Option TypeName
type_named (Some k) found count = if count == 0 then Some (T.Parameter k) else None
type_named None found count = option_map (λ k. T.Declared k) (with_parts found count)
