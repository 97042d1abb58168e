-- Types are lexed as their tokens.
use Rattle.std.proofs.Common.{◌≡◌, refl, ℕ, ◌<◌, Some, List, [], ◌∷◌, length}
use Rattle.std.specs.Prelude.{codes}
use Rattle.pure_ast.specs.declared.ctor.CtorId.{CtorId}
use Rattle.pure_ast.specs.declared.def.Defs.{Defs}
use Rattle.pure_ast.specs.Types.{PTy, PTys, integer, boolean, unit, product, named, parameter, exit, no_ptys, more_ptys}
use Rattle.text_meaning.specs.declared.mark.Mark.TheVariants.{Open, Close, Times}
use Rattle.text_meaning.specs.Lookups.{type_name, parameter_name, parts_of}
use Rattle.text_meaning.specs.Tokens.{word, mark}
use Rattle.text_meaning.specs.ShownNames.{ctor_text, callee_text}
use Rattle.text_meaning.specs.ShownTypes.{type_text, spaced_types, times_types, times}
use Rattle.text_meaning.specs.SpelledNames.{ctor_tokens, callee_tokens}
use Rattle.text_meaning.specs.SpelledTypes.{type_tokens, types_tokens, times_tokens}
use Rattle.text_meaning.specs.WellFormedTerms.{parameters_count}
use Rattle.text_meaning.specs.WellFormedTypes.{IsType, AreTypes, parameters_of}
use Rattle.lean_printer.proofs.Lays.{Lays, seq, glue, blank, tok, free, apart, nothing}
use Rattle.lean_printer.proofs.LaysWords.{word_lays, int_lays, NameLays}

-- the names that well-formed definitions cite are read back
pub record Known (defs : Defs) : Type 0 where
  pub type_known : (t count : ℕ) → parameters_of defs t ≡ Some count → NameLays (type_name defs t)
  pub ctor_known : (c : CtorId) (count : ℕ) → parts_of defs c ≡ Some count → Lays apart free (ctor_text defs c) (ctor_tokens defs c)
  pub callee_known : (d count : ℕ) → parameters_count defs d ≡ Some count → Lays apart free (callee_text defs d) (callee_tokens defs d)

pub open_lays : Lays apart apart (codes "(") (mark Open ∷ [])
open_lays = glue apart apart (tok (mark Open) ∷ []) (λ r h. h) (λ r h. refl)

pub close_lays : Lays free free (codes ")") (mark Close ∷ [])
close_lays = glue free free (tok (mark Close) ∷ []) (λ r h. refl) (λ r h. refl)

pub space : Lays free apart (codes " ") []
space = glue free apart (blank (codes " ") ∷ []) (λ r h. refl) (λ r h. refl)

times_lays : Lays free apart times (mark Times ∷ [])
times_lays = glue free apart (blank (codes " ") ∷ tok (mark Times) ∷ blank (codes " ") ∷ []) (λ r h. refl) (λ r h. refl)

exit_lays : Lays apart apart (codes "(Exit ") (mark Open ∷ word (codes "Exit") ∷ [])
exit_lays = glue apart apart (tok (mark Open) ∷ tok (word (codes "Exit")) ∷ blank (codes " ") ∷ []) (λ r h. refl) (λ r h. refl)

module _ (defs : Defs) (known : Known defs) (names : List (List ℕ)) (named_all : (k : ℕ) → k < length names → NameLays (parameter_name names k)) where
  mutual
    pub type_lays : (t : PTy) → IsType defs (length names) t → Lays apart free (type_text defs names t) (type_tokens defs names t)
    type_lays (integer t) h = int_lays t
    type_lays boolean h = word_lays (codes "Bool") (λ r. refl)
    type_lays unit h = word_lays (codes "Unit") (λ r. refl)
    type_lays (named t no_ptys) h = known.type_known t _ h.0
    type_lays (named t (more_ptys a rest)) h =
        seq open_lays (seq (known.type_known t _ h.0) (seq space (seq (type_lays a h.1.0) (seq (spaced_lays rest h.1.1) close_lays))))
    type_lays (parameter k) h = named_all k h
    type_lays (exit a b) h = seq exit_lays (seq (type_lays a h.0) (seq space (seq (type_lays b h.1) close_lays)))
    type_lays (product no_ptys) h =
        glue apart free (tok (mark Open) ∷ blank (codes " ") ∷ tok (mark Close) ∷ []) (λ r h. refl) (λ r h. refl)
    type_lays (product (more_ptys a rest)) h = seq open_lays (seq (type_lays a h.1.0) (seq (times_all rest h.1.1) close_lays))

    spaced_lays : (ts : PTys) → AreTypes defs (length names) ts → Lays free free (spaced_types defs names ts) (types_tokens defs names ts)
    spaced_lays no_ptys h = nothing
    spaced_lays (more_ptys a rest) h = seq space (seq (type_lays a h.0) (spaced_lays rest h.1))

    times_all : (ts : PTys) → AreTypes defs (length names) ts → Lays free free (times_types defs names ts) (times_tokens defs names ts)
    times_all no_ptys h = nothing
    times_all (more_ptys a rest) h = seq times_lays (seq (type_lays a h.0) (times_all rest h.1))
