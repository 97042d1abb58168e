-- The class of a word that has one of its own (TEXT.md, "Words").
use Rattle.std.specs.Prelude.{ℕ, if◌then◌else◌, List, [], ◌∷◌, Option, Some, None, bytes_eq}
use Rattle.text_table.specs.declared.class.Class.{Class}
use Rattle.text_table.specs.Classes.{spelling, names}

-- the one of these classes that is spelled so
abbrev pub class_among : List ℕ → List Class → Option Class
class_among w [] = None
class_among w (c ∷ cs) = if bytes_eq w (spelling c) then Some c else class_among w cs

abbrev pub class_named : List ℕ → Option Class
class_named w = class_among w names
