-- The class of a spelling (LANGUAGE.md, "Tokens").
use Rattle.std.specs.Prelude.{ℕ, if◌then◌else◌, List, [], ◌∷◌, bytes_eq}
use Rattle.source_grammar.specs.declared.class.Class.{Class}
use Rattle.source_grammar.specs.declared.class.Class.TheVariants as C
use Rattle.source_grammar.specs.Classes.{spelling, names, marks}

-- the one of these classes that is spelled so, or another where none is
abbrev pub class_among : List ℕ → Class → List Class → Class
class_among w other [] = other
class_among w other (c ∷ cs) = if bytes_eq w (spelling c) then c else class_among w other cs

-- of a word or an identifier by its name
abbrev pub class_named : List ℕ → Class → Class
class_named name other = class_among name other names

-- of a mark; each has one
abbrev pub class_marked : List ℕ → Class
class_marked w = class_among w C.Excluded marks
