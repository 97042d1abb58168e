use Rattle.std.proofs.Common.{sym, ap, ◌∙◌, arith, map, List}
use Rattle.std.specs.Prelude.{Some}
use Rattle.std.specs.String.{string_bytes}
use Rattle.pure_ast.specs.Values.{PValue}
use Rattle.call_frame.specs.Written.{word_value}
use Rattle.call_frame.proofs.Reading.{reading_next, item_at}
use Rattle.call_frame.proofs.words.values.Goals as goal

pub loop-word-preserved : goal.loop-word-preserved
loop-word-preserved c =
    let found = item_at string_bytes c.args.words.now c.loop-word.word-index c.word-item.result c.loop-word-test.true c.word-item.is in
    let bytes = sym c.as_str.ensures.value ∙ sym c.as_bytes.ensures.value in
    let place = c.loop-word.invariant.place in
    record {
      place = omega arith;
      read = reading_next (map string_bytes c.args.words.now) c.loop-word.word-index c.loop-word.values (string_bytes c.word-item.result) c.in-Some.value found
          c.loop-word.invariant.read (ap word_value bytes ∙ sym c.in-Some.ensures)
          ∙ ap (λ (l : List PValue). map Some l) (sym c.in_ok-push.ensures.ok);
    }
