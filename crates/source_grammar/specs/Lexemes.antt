-- How tokens of the grammar take lexemes (LANGUAGE.md, "Grammar").
use Rattle.std.specs.Prelude.{ℕ, ◌+◌, nat_lt, Bool, if◌then◌else◌}
use Rattle.std.specs.List.{list_any}
use denote.Enum.Bare.{sameb}
use Rattle.aen_base.specs.declared.span.Span.{Span}
use Rattle.table_reader.specs.declared.take.Take.{Take}
use Rattle.table_reader.specs.declared.take.Take.TheVariants as K
use Rattle.source_grammar.specs.declared.class.Class.{Class}
use Rattle.source_grammar.specs.declared.class.Class.TheVariants as C
use Rattle.source_grammar.specs.declared.lexeme.Content.TheVariants as Content
use Rattle.source_grammar.specs.declared.lexeme.Lexeme.{Lexeme}
use Rattle.source_grammar.specs.declared.terminal.Terminal.{Terminal}
use Rattle.source_grammar.specs.declared.terminal.Terminal.TheVariants as T
use Rattle.source_grammar.specs.contracts.class.Class as cls
use Rattle.source_grammar.specs.contracts.terminal.Terminal.{the_type}
use Rattle.source_grammar.specs.Classes.{classes, sample_class}

abbrev pub has_class : Terminal → Class → Bool
has_class t c = list_any (sameb cls.the_type c) (classes t)

abbrev pub mark : Class → ℕ → ℕ → Lexeme
mark class lo hi = record { class = class; span = record { lo = lo; hi = hi }; content = Content.Nothing }

-- the place after the first byte
abbrev pub middle : Span → ℕ
middle span = if nat_lt span.lo span.hi then span.lo + 1 else span.lo

-- the first byte of a mark as `>`, and what is left as a mark of this class
abbrev pub split : Span → Class → Take Lexeme
split span left = K.Front (mark C.Greater span.lo (middle span)) (mark left (middle span) span.hi)

-- where a list of types ends, `>>`, `>=` and `>>=` are read as `>` and the rest
abbrev pub parted : Class → Span → Take Lexeme
parted C.Shr span = split span C.Greater
parted C.GreaterEquals span = split span C.Equals
parted C.ShrEquals span = split span C.GreaterEquals
parted class span = K.Whole

abbrev pub end_of_types : Lexeme → Take Lexeme
end_of_types l = parted l.class l.span

-- a token takes the lexemes of its classes, and whole but for the end of a list of types
abbrev pub takes : Terminal → Lexeme → Take Lexeme
takes t l = if has_class t l.class then (if sameb the_type t T.TypesEnd then end_of_types l else K.Whole) else K.No

-- how often the front of a lexeme can be taken
abbrev pub weight_of : Class → ℕ
weight_of C.Shr = 1
weight_of C.GreaterEquals = 1
weight_of C.ShrEquals = 2
weight_of class = 0

abbrev pub weight : Lexeme → ℕ
weight l = weight_of l.class

-- a lexeme that a token takes whole
abbrev pub sample : Terminal → Lexeme
sample t = mark (sample_class t) 0 0
