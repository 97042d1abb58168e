-- The table fits.
use Rattle.std.specs.Prelude.{◌≡◌, refl, ◌<◌, Bool, true, false, if◌then◌else◌}
use Rattle.table_reader.specs.Conditions.{Fits}
use Rattle.table_reader.specs.declared.take.Take.TheVariants as K
use Rattle.text_table.specs.declared.lexeme.Lexeme.{Lexeme}
use Rattle.text_table.specs.declared.terminal.Terminal.{Terminal}
use Rattle.text_table.specs.declared.terminal.Terminal.TheVariants as T
use Rattle.text_table.specs.Lexemes.{takes, weight, sample, has_class}
use Rattle.text_table.specs.Productions.{productions, rank}
use Rattle.text_table.specs.Apart.{apart, same, apart_right, same_right}
use Rattle.text_table.specs.Ends.{ends}
use Rattle.text_table.specs.Follow.{follow}
use Rattle.text_table.specs.Shortest.{shortest}
use Rattle.text_table.specs.PartsFit.{table}

sampled : (t : Terminal) → takes t (sample t) ≡ K.Whole
sampled T.Int = refl
sampled t = refl

never_front : (b : Bool) (p r : Lexeme) → (if b then K.Whole else K.No) ≡ K.Front p r → ⊥
never_front true p r h = cc
never_front false p r h = cc

lighter : (t : Terminal) (l p r : Lexeme) → takes t l ≡ K.Front p r → weight r < weight l
lighter t l p r h = absurd (never_front (has_class t l.class) p r h)

pub fits : Fits takes productions rank weight
fits = record {
  follow = follow;
  apart = apart;
  same = same;
  table = table;
  sample = sample;
  shortest = shortest;
  ends = ends;
  sampled = sampled;
  apart_right = apart_right;
  same_right = same_right;
  lighter = lighter;
}
