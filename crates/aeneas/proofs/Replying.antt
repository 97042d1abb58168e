-- A command's reply is the reply to its words, which have one form alone.
use Rattle.std.proofs.Common.{◌≡◌, ap, sym, subst, ◌∙◌, ℕ, List, ◌∷◌}
use Rattle.std.specs.Prelude.{All, codes}
use Rattle.std.proofs.lemmas.List.Elements.{All-head, All-tail}
use Rattle.aeneas.specs.Eval.{EvalReply}
use Rattle.aeneas.specs.Parsed.{IsRunCommand, IsEvalCommand}
use Rattle.aeneas.specs.declared.refusal.Refusal.TheVariants as R
use Rattle.aeneas.specs.Refusals.{IsRefusal}
use Rattle.aeneas.specs.Reply.{IsReply, CheckReply, TranslateReply}
use Rattle.aeneas.specs.Run.{RunReply}
use Rattle.aeneas.specs.Seen.{Seen, ReadsNothing}
use Rattle.aeneas.specs.Words.{IsShort, IsCheck, IsTranslate, IsRun, IsEval, HasNoForm, fuel_of}

-- words without a form
pub misused : (words : List (List ℕ)) (s : Seen) (status : ℕ) (text : List ℕ) → HasNoForm words → ReadsNothing s → IsRefusal R.Usage status text → IsReply words s status text
misused words s status text none unread h = record {
  usage = λ _. record { refusal = h; unread = unread };
  check = λ f t. absurd (none.check f t);
  translate = λ f t. absurd (none.translate f t);
  run = λ f n w vs r. absurd (none.run f n w vs r);
  eval = λ f n w vs r. absurd (none.eval f n w vs r);
}

module _ (words : List (List ℕ)) (s : Seen) (file : List ℕ) (status : ℕ) (text : List ℕ) where
  pub check_reply : IsCheck words file → CheckReply s file status text → IsReply words s status text
  check_reply c h = record {
    usage = λ none. absurd (none.check file c);
    check = λ f t. (let e = sym c.words_are ∙ t.words_are in let a : file ≡ f = cc in subst (λ x. CheckReply s x status text) a h);
    translate = λ f t. (let e = sym c.words_are ∙ t.words_are in absurd cc);
    run = λ f n w vs r. (let e = sym c.words_are ∙ r.words_are in absurd cc);
    eval = λ f n w vs r. (let e = sym c.words_are ∙ r.words_are in absurd cc);
  }

  pub translate_reply : IsTranslate words file → TranslateReply s file status text → IsReply words s status text
  translate_reply c h = record {
    usage = λ none. absurd (none.translate file c);
    check = λ f t. (let e = sym c.words_are ∙ t.words_are in absurd cc);
    translate = λ f t. (let e = sym c.words_are ∙ t.words_are in let a : file ≡ f = cc in subst (λ x. TranslateReply s x status text) a h);
    run = λ f n w vs r. (let e = sym c.words_are ∙ r.words_are in absurd cc);
    eval = λ f n w vs r. (let e = sym c.words_are ∙ r.words_are in absurd cc);
  }

module _ (words : List (List ℕ)) (s : Seen) (file name : List ℕ) (fuel : ℕ) (values : List (List ℕ)) (status : ℕ) (text : List ℕ) where
  run_same : (c : IsRunCommand words file name fuel values) → RunReply s file name values fuel status text →
      (f n w : List ℕ) (vs : List (List ℕ)) → IsRun words f n w vs → RunReply s f n vs (fuel_of w) status text
  run_same c h f n w vs r =
      let e = sym c.run.words_are ∙ r.words_are in
      let a : file ≡ f = cc in
      let b : name ≡ n = cc in
      let d : c.word ≡ w = cc in
      let g : values ≡ vs = cc in
      let m : fuel ≡ fuel_of w = c.number ∙ ap fuel_of d in
      (coe 0 1 (i. RunReply s (a i) (b i) (g i) (m i) status text) h)

  eval_same : (c : IsEvalCommand words file name fuel values) → EvalReply s file name values fuel status text →
      (f n w : List ℕ) (vs : List (List ℕ)) → IsEval words f n w vs → EvalReply s f n vs (fuel_of w) status text
  eval_same c h f n w vs r =
      let e = sym c.eval.words_are ∙ r.words_are in
      let a : file ≡ f = cc in
      let b : name ≡ n = cc in
      let d : c.word ≡ w = cc in
      let g : values ≡ vs = cc in
      let m : fuel ≡ fuel_of w = c.number ∙ ap fuel_of d in
      (coe 0 1 (i. EvalReply s (a i) (b i) (g i) (m i) status text) h)

  pub run_reply : IsRunCommand words file name fuel values → RunReply s file name values fuel status text → IsReply words s status text
  run_reply c h = record {
    usage = λ none. absurd (none.run file name c.word values c.run);
    check = λ f t. (let e = sym c.run.words_are ∙ t.words_are in absurd cc);
    translate = λ f t. (let e = sym c.run.words_are ∙ t.words_are in absurd cc);
    run = λ f n w vs r. run_same c h f n w vs r;
    eval = λ f n w vs r. (let e = sym c.run.words_are ∙ r.words_are in absurd cc);
  }

  pub eval_reply : IsEvalCommand words file name fuel values → EvalReply s file name values fuel status text → IsReply words s status text
  eval_reply c h = record {
    usage = λ none. absurd (none.eval file name c.word values c.eval);
    check = λ f t. (let e = sym c.eval.words_are ∙ t.words_are in absurd cc);
    translate = λ f t. (let e = sym c.eval.words_are ∙ t.words_are in absurd cc);
    run = λ f n w vs r. (let e = sym c.eval.words_are ∙ r.words_are in absurd cc);
    eval = λ f n w vs r. eval_same c h f n w vs r;
  }

  -- DEF and the values of `eval` are short
  tail_short : (c : IsEvalCommand words file name fuel values) → All IsShort (name ∷ c.word ∷ values)
  tail_short c =
      let all = subst (All IsShort) c.eval.words_are c.eval.short in
      All-tail IsShort file (name ∷ c.word ∷ values) (All-tail IsShort (codes "eval") (file ∷ name ∷ c.word ∷ values) all)

  pub name_short : IsEvalCommand words file name fuel values → IsShort name
  name_short c = All-head IsShort name (c.word ∷ values) (tail_short c)

  pub values_short : IsEvalCommand words file name fuel values → All IsShort values
  values_short c = All-tail IsShort c.word values (All-tail IsShort name (c.word ∷ values) (tail_short c))
