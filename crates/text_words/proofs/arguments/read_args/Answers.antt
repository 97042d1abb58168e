-- What a word or a piece writes is one.
use Rattle.text_words.proofs.ValueReading.{word_once, type_once}
use Rattle.text_words.proofs.arguments.read_args.Goals as goal

pub returns-clause-one_value : goal.returns-clause-one_value
returns-clause-one_value c = λ ty word v w a b. word_once c.args.defs.now c.requires.well_formed word ty v w a b

pub returns-clause-one_type : goal.returns-clause-one_type
returns-clause-one_type c = λ piece t u a b. type_once c.args.defs.now c.requires.well_formed piece t u a b
