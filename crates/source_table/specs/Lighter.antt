-- What is left of a lexeme is lighter.
use Rattle.std.specs.Prelude.{◌≡◌, ℕ, ◌<◌, Bool, true, false, if◌then◌else◌}
use Rattle.std.proofs.Common.{arith, subst}
use Rattle.aen_base.specs.declared.span.Span.{Span}
use Rattle.table_reader.specs.declared.take.Take.{Take}
use Rattle.table_reader.specs.declared.take.Take.TheVariants as K
use Rattle.source_grammar.specs.declared.class.Class.{Class}
use Rattle.source_grammar.specs.declared.class.Class.TheVariants as C
use Rattle.source_grammar.specs.declared.lexeme.Lexeme.{Lexeme}
use Rattle.source_grammar.specs.declared.terminal.Terminal.{Terminal}
use Rattle.source_grammar.specs.declared.terminal.Terminal.TheVariants as T
use Rattle.source_grammar.specs.contracts.terminal.Terminal.{the_type}
use Rattle.source_grammar.specs.Lexemes.{takes, end_of_types, parted, split, weight, weight_of, has_class}
use denote.Enum.Bare.{sameb}

front_by : (b d : Bool) (k : Take Lexeme) (p r : Lexeme) → (if b then (if d then k else K.Whole) else K.No) ≡ K.Front p r → k ≡ K.Front p r
front_by true true k p r h = h
front_by true false k p r h = absurd cc
front_by false d k p r h = absurd cc

-- of a mark that is split
left_by : (span : Span) (c : Class) (n : ℕ) (p r : Lexeme) → weight_of c < n → split span c ≡ K.Front p r → weight r < n
left_by span c n p r h e = let same : c ≡ r.class = cc in subst (λ (x : Class). weight_of x < n) same h

parted_lighter : (c : Class) (span : Span) (p r : Lexeme) → parted c span ≡ K.Front p r → weight r < weight_of c
parted_lighter C.Shr span p r e = left_by span C.Greater 1 p r (omega arith) e
parted_lighter C.GreaterEquals span p r e = left_by span C.Equals 1 p r (omega arith) e
parted_lighter C.ShrEquals span p r e = left_by span C.GreaterEquals 2 p r (omega arith) e
parted_lighter c span p r e = absurd cc

pub lighter : (t : Terminal) (l p r : Lexeme) → takes t l ≡ K.Front p r → weight r < weight l
lighter t l p r e = parted_lighter l.class l.span p r (front_by (has_class t l.class) (sameb the_type t T.TypesEnd) (end_of_types l) p r e)
