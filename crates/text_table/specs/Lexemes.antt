-- How tokens of the grammar take lexemes (TEXT.md, "Grammar").
use Rattle.std.specs.Prelude.{ℕ, Bool, if◌then◌else◌, []}
use Rattle.std.specs.List.{list_any}
use denote.Enum.Bare.{sameb}
use Rattle.table_reader.specs.declared.take.Take.{Take}
use Rattle.table_reader.specs.declared.take.Take.TheVariants as K
use Rattle.text_table.specs.declared.class.Class.{Class}
use Rattle.text_table.specs.declared.lexeme.Lexeme.{Lexeme}
use Rattle.text_table.specs.declared.terminal.Terminal.{Terminal}
use Rattle.text_table.specs.contracts.class.Class as cls
use Rattle.text_table.specs.Classes.{classes, sample_class}

abbrev pub has_class : Terminal → Class → Bool
has_class t c = list_any (sameb cls.the_type c) (classes t)

-- a token takes the lexemes of its classes, and whole
abbrev pub takes : Terminal → Lexeme → Take Lexeme
takes t l = if has_class t l.class then K.Whole else K.No

-- no front of a lexeme is taken
abbrev pub weight : Lexeme → ℕ
weight l = 0

-- a lexeme that a token takes
abbrev pub sample : Terminal → Lexeme
sample t = record { class = sample_class t; span = record { lo = 0; hi = 0 }; text = [] }
