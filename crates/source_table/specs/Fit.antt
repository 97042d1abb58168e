-- The table fits.
use Rattle.std.specs.Prelude.{◌≡◌, refl}
use Rattle.table_reader.specs.Conditions.{Fits}
use Rattle.table_reader.specs.declared.take.Take.TheVariants as K
use Rattle.source_grammar.specs.declared.terminal.Terminal.{Terminal}
use Rattle.source_grammar.specs.declared.terminal.Terminal.TheVariants as T
use Rattle.source_grammar.specs.Lexemes.{takes, weight, sample}
use Rattle.source_grammar.specs.Productions.{productions, rank}
use Rattle.source_table.specs.Apart.{apart, same, apart_right, same_right}
use Rattle.source_table.specs.Ends.{ends}
use Rattle.source_table.specs.Follow.{follow}
use Rattle.source_table.specs.Lighter.{lighter}
use Rattle.source_table.specs.Shortest.{shortest}
use Rattle.source_table.specs.PartsFit.{table}

sampled : (t : Terminal) → takes t (sample t) ≡ K.Whole
sampled T.TypesEnd = refl
sampled t = refl

pub fits : Fits takes productions rank weight
fits = record {
  follow = follow;
  apart = apart;
  same = same;
  table = table;
  sample = sample;
  shortest = shortest;
  ends = ends;
  sampled = sampled;
  apart_right = apart_right;
  same_right = same_right;
  lighter = lighter;
}
