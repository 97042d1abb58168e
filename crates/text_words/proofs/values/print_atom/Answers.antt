-- The printed text has the tokens of the value, so it is its word.
use Rattle.std.proofs.Common.{◌≡◌, sym, subst, true}
use Rattle.std.proofs.lemmas.Result.{IfOk-weaker}
use Rattle.pure_ast.specs.Types.{PTy}
use Rattle.text_meaning.specs.Atoms.{IsAtom}
use Rattle.text_meaning.specs.HasType.{HasType}
use Rattle.text_meaning.specs.Lexing.{Lexed}
use Rattle.text_meaning.specs.ShownTerms.{term_text}
use Rattle.text_meaning.specs.SpelledTerms.{term_tokens}
use Rattle.text_meaning.specs.ValueTerms.{value_term}
use Rattle.text_meaning.specs.WellFormed.{IsWellFormed}
use Rattle.text_syntax.specs.Brackets.{few_open}
use Rattle.text_words.specs.ValueWords.{IsWord}
use Rattle.text_words.proofs.values.print_atom.Goals as goal

pub returns-clause-read_back : goal.returns-clause-read_back
returns-clause-read_back c =
    let d = c.args.defs.now in
    let v = c.args.v.now in
    IfOk-weaker c.print_value.result (λ t. t ≡ term_text d (value_term v))
    (λ t. (ty : PTy) → IsWellFormed d → IsAtom d v → HasType d ty v → few_open 0 (term_tokens d (value_term v)) ≡ true → IsWord d ty t v)
    (λ t same ty formed atom typed few. record {
      tokens = subst (λ w. Lexed (term_tokens d (value_term v)) w) (sym same) (c.print_value.ensures.read_back formed atom);
      term = atom;
      few = few;
      type = typed;
    }) c.print_value.ensures.layout
