-- Type parameters, fields and parameters are lexed as their tokens.
use Rattle.std.proofs.Common.{refl, ap, ◌∙◌, ℕ, suc, Bool, List, [], ◌∷◌, ◌++◌, length, append_assoc}
use Rattle.std.specs.Prelude.{codes, map}
use Rattle.std.specs.List.{flat_map}
use Rattle.pure_ast.specs.declared.def.Defs.{Defs}
use Rattle.pure_ast.specs.Types.{PTy}
use Rattle.text_meaning.specs.declared.mark.Mark.TheVariants.{Open, Close, OpenBrace, CloseBrace, Colon, To}
use Rattle.text_meaning.specs.Lexing.{Lexed}
use Rattle.text_meaning.specs.Lists.{Each}
use Rattle.text_meaning.specs.Names.{IsName}
use Rattle.text_meaning.specs.Shown.{type_parameter_text, implicit_text, named_field_text, plain_field_text, parameters_text, to}
use Rattle.text_meaning.specs.ShownNames.{name_text}
use Rattle.text_meaning.specs.ShownTypes.{type_text}
use Rattle.text_meaning.specs.SpelledTypes.{type_tokens}
use Rattle.text_meaning.specs.Spelled.{type_parameter, implicit_parameter, named_field, plain_field, parameters_tokens, fuel_tokens}
use Rattle.text_meaning.specs.Tokens.{Token, word, id, mark}
use Rattle.text_meaning.specs.WellFormedTypes.{IsType}
use Rattle.lean_printer.proofs.KnownNames.{name_at}
use Rattle.lean_printer.proofs.Lays.{Lays, seq, glue, blank, tok, free, apart, nothing, gap_run, each_lays}
use Rattle.lean_printer.proofs.LaysCode.{line}
use Rattle.lean_printer.proofs.LaysTypes.{Known, open_lays, close_lays, space, type_lays}
use Rattle.lean_printer.proofs.LaysWords.{var_lays, name_lays}

-- a line feed after the last token
pub ended : {s : List ℕ → Bool} {a : List ℕ} {us : List Token} → Lays s free a us → Lays s free (a ++ codes "\n") us
ended {s} {a} {us} x = record {
  run = λ rest ts h l. coe 1 0 (i. Lexed (us ++ ts) (append_assoc a (codes "\n") rest i)) (x.run (codes "\n" ++ rest) ts refl (gap_run (codes "\n") refl ts rest l));
  start = λ rest h. ap s (append_assoc a (codes "\n") rest) ∙ x.start (codes "\n" ++ rest) refl;
}

pub colon : Lays free apart (codes " : ") (mark Colon ∷ [])
colon = glue free apart (blank (codes " ") ∷ tok (mark Colon) ∷ blank (codes " ") ∷ []) (λ r h. refl) (λ r h. refl)

pub spaced_open : Lays free apart (codes " (") (mark Open ∷ [])
spaced_open = glue free apart (blank (codes " ") ∷ tok (mark Open) ∷ []) (λ r h. h) (λ r h. refl)

spaced_brace : Lays free apart (codes " {") (mark OpenBrace ∷ [])
spaced_brace = glue free apart (blank (codes " ") ∷ tok (mark OpenBrace) ∷ []) (λ r h. refl) (λ r h. refl)

type_close : Lays free free (codes " : Type)") (mark Colon ∷ word (codes "Type") ∷ mark Close ∷ [])
type_close = glue free free (blank (codes " ") ∷ tok (mark Colon) ∷ blank (codes " ") ∷ tok (word (codes "Type")) ∷ tok (mark Close) ∷ []) (λ r h. refl) (λ r h. refl)

type_brace : Lays free free (codes " : Type}") (mark Colon ∷ word (codes "Type") ∷ mark CloseBrace ∷ [])
type_brace = glue free free (blank (codes " ") ∷ tok (mark Colon) ∷ blank (codes " ") ∷ tok (word (codes "Type")) ∷ tok (mark CloseBrace) ∷ []) (λ r h. refl) (λ r h. refl)

to_lays : Lays free apart to (mark To ∷ [])
to_lays = glue free apart (blank (codes " ") ∷ tok (mark To) ∷ blank (codes " ") ∷ []) (λ r h. refl) (λ r h. refl)

fuel_lays : Lays free free (codes " (n : Nat)") fuel_tokens
fuel_lays = glue free free (blank (codes " ") ∷ tok (mark Open) ∷ tok (word (codes "n")) ∷ blank (codes " ") ∷ tok (mark Colon) ∷ blank (codes " ")
    ∷ tok (word (codes "Nat")) ∷ tok (mark Close) ∷ []) (λ r h. refl) (λ r h. refl)

pub type_parameters : (names : List (List ℕ)) → Each IsName names → Lays free free (flat_map type_parameter_text names) (flat_map type_parameter names)
type_parameters names e = each_lays type_parameter_text type_parameter IsName (λ n h. seq spaced_open (seq (name_lays n h) type_close)) names e

implicits : (names : List (List ℕ)) → Each IsName names → Lays free free (flat_map implicit_text names) (flat_map implicit_parameter names)
implicits names e = each_lays implicit_text implicit_parameter IsName (λ n h. seq spaced_brace (seq (name_lays n h) type_brace)) names e

pub spaced_names : (names : List (List ℕ)) → Each IsName names → Lays free free (flat_map (λ p. codes " " ++ name_text p) names) (map id names)
spaced_names [] e = nothing
spaced_names (n ∷ names) e = seq (seq space (name_lays n e.0)) (spaced_names names e.1)

module _ (defs : Defs) (known : Known defs) (names : List (List ℕ)) (are : Each IsName names) where
  pub ty : (t : PTy) → IsType defs (length names) t → Lays apart free (type_text defs names t) (type_tokens defs names t)
  ty t h = type_lays defs known names (λ k l. name_at names k l are) t h

  pub named_fields : (fs : List (List ℕ × PTy)) → Each (λ f. IsName f.0 × IsType defs (length names) f.1) fs →
      Lays free free (flat_map (named_field_text defs names) fs) (flat_map (named_field defs names) fs)
  named_fields fs e = each_lays (named_field_text defs names) (named_field defs names) (λ f. IsName f.0 × IsType defs (length names) f.1)
      (λ f h. seq (line 2) (seq open_lays (seq (name_lays f.0 h.0) (seq colon (seq (ty f.1 h.1) close_lays))))) fs e

  pub plain_fields : (fs : List (List ℕ × PTy)) → Each (λ f. IsType defs (length names) f.1) fs →
      Lays apart apart (flat_map (plain_field_text defs names) fs) (flat_map (plain_field defs names) fs)
  plain_fields fs e = each_lays (plain_field_text defs names) (plain_field defs names) (λ f. IsType defs (length names) f.1)
      (λ f h. seq (ty f.1 h) to_lays) fs e

  parameters : (ts : List PTy) (k : ℕ) → Each (IsType defs (length names)) ts →
      Lays free free (parameters_text defs names k ts) (parameters_tokens defs names k ts)
  parameters [] k e = nothing
  parameters (t ∷ ts) k e = seq (seq spaced_open (seq (var_lays k) (seq colon (seq (ty t e.0) close_lays)))) (parameters ts (suc k) e.1)

  pub binders : (ts : List PTy) → Each (IsType defs (length names)) ts →
      Lays free free (flat_map implicit_text names ++ (codes " (n : Nat)" ++ parameters_text defs names 0 ts))
      (flat_map implicit_parameter names ++ (fuel_tokens ++ parameters_tokens defs names 0 ts))
  binders ts e = seq (implicits names are) (seq fuel_lays (parameters ts 0 e))
