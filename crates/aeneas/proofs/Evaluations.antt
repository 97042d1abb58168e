-- The replies of `eval`, put together from what each step says.
use Rattle.std.proofs.Common.{◌≡◌, refl, ap, sym, subst, ◌∙◌, inl, inr, ℕ, zero, suc, ◌<◌, ◌^◌, List, [], ◌∷◌, ◌++◌, length, length-append, map, arith, Some, String, Global}
use Rattle.std.specs.Prelude.{All, Ok, Err, slice_get, ◌==◌, codes}
use Rattle.std.specs.List.{slice_split, join_with_byte}
use Rattle.std.proofs.lemmas.List.Splits.{join_with_byte-slice_split}
use Rattle.std.proofs.lemmas.List.Elements.{All-cons}
use Rattle.std.specs.String.{string_bytes, string_len}
use Rattle.text_words.specs.declared.arguments.ArgFault.{ArgFault}
use Rattle.text_words.specs.declared.arguments.ArgFault.TheVariants as W
use Rattle.text_words.specs.NamedDefinitions.{NoneNamed}
use Rattle.text_words.specs.ValueWords.{IsReadingAt, parameter_types}
use Rattle.pure_ast.specs.declared.def.Def.{Def}
use Rattle.pure_ast.specs.declared.def.Defs.{Defs}
use Rattle.pure_ast.specs.Values.{PValue}
use Rattle.text_meaning.specs.Evaluate.{evaluate}
use Rattle.aeneas.specs.DefinitionWord.{IsDefinitionWord}
use Rattle.aeneas.specs.DefinitionParts.{IsOnly}
use Rattle.aeneas.specs.Eval.{AnswerReply, ArgFaultReply, EvaluationReply}
use Rattle.aeneas.specs.declared.refusal.Refusal.TheVariants as R
use Rattle.aeneas.specs.Refusals.{IsRefusal}
use Rattle.aeneas.specs.Words.{IsShort}
use Rattle.aeneas.proofs.WordLemmas.{all_unmapped, len_by_short}

-- how many parameter types there are
same_length : {A B : Type 0} (f : A → B) (xs : List A) → length (map f xs) ≡ length xs
same_length f [] = refl
same_length f (x ∷ xs) = ap suc (same_length f xs)

-- an item that is there
pub item_there : {A : Type 0} (xs : List A) (k : ℕ) → k < length xs → (x : A) × (slice_get xs k ≡ Some x)
item_there [] k h = absurd (omega arith)
item_there (x ∷ xs) zero h = (x, refl)
item_there (x ∷ xs) (suc k) h = item_there xs k (omega arith)

pub within : {A : Type 0} (xs : List A) (k : ℕ) (x : A) → slice_get xs k ≡ Some x → k < length xs
within [] k x h = absurd cc
within (y ∷ xs) zero x h = omega arith
within (y ∷ xs) (suc k) x h = let r = within xs k x h in omega arith

module _ (defs : Defs) (k : ℕ) (d : Def) (found : slice_get defs.defs k ≡ Some d) (pieces words : List (List ℕ)) (n status : ℕ) (text : List ℕ) where
  -- words that are no types or arguments
  pub refused : (fault : ArgFault) → IsReadingAt defs d pieces words (Err fault) → ArgFaultReply fault status text → EvaluationReply defs k pieces words n status text
  refused W.Types h r = record { definition = d; found = found; reply = inl (record { refusal = r; cause = h }) }
  refused (W.WrongCount expected given) h r =
      let count : length (parameter_types d h.0) ≡ length d.params = same_length _ d.params in
      record {
        definition = d;
        found = found;
        reply = inr (inl (record {
          args = h.0;
          types = h.1.0;
          refusal = subst (λ g. IsRefusal (R.Count (length d.params) g) status text) h.1.1.2 (subst (λ e. IsRefusal (R.Count e given) status text) (h.1.1.1 ∙ count) r);
          cause = λ e. h.1.1.0 (count ∙ e);
        }));
      }
  refused (W.BadValue i) h r =
      let count : length (parameter_types d h.0) ≡ length d.params = same_length _ d.params in
      record {
        definition = d;
        found = found;
        reply = inr (inr (inl (record {
          args = h.0;
          types = h.1.0;
          count = sym count ∙ h.1.1.0;
          place = i;
          refusal = r;
          cause = h.1.1.1;
        })));
      }
  refused W.Memory h r = absurd r

  -- the answer on the arguments
  pub answered : (values : List PValue) → IsReadingAt defs d pieces words (Ok values) → AnswerReply defs (evaluate defs k values n) status text → EvaluationReply defs k pieces words n status text
  answered values h r = record {
    definition = d;
    found = found;
    reply = inr (inr (inr (record { args = h.0; types = h.1.0; values = values; written = h.1.1; answer = r })));
  }

none_short : (P : List ℕ → Type 0) → All P []
none_short P k d h = absurd (omega arith)

-- pieces are no longer than what they were cut off
pieces_within : (c : ℕ) (ps : List (List ℕ)) (n : ℕ) → length (join_with_byte c ps) < n → All (λ w. length w < n) ps
pieces_within c [] n h = none_short (λ w. length w < n)
pieces_within c (x ∷ []) n h = All-cons (λ (w : List ℕ). length w < n) x [] h (none_short (λ w. length w < n))
pieces_within c (x ∷ y ∷ ps) n h =
    let e = length-append x (c ∷ join_with_byte c (y ∷ ps)) in
    All-cons (λ (w : List ℕ). length w < n) x (y ∷ ps) (omega (arith, e, h)) (pieces_within c (y ∷ ps) n (omega (arith, e, h)))

-- the types of a short word are short
pub short_pieces : (word name : List ℕ) (pieces : List (List ℕ)) → IsDefinitionWord word name pieces → length word < 2 ^ 32 → All IsShort pieces
short_pieces word name pieces (inl g) h = subst (All IsShort) (sym g.none) (none_short IsShort)
short_pieces word name pieces (inr g) h =
    let a = ap length g.word_is ∙ length-append name (codes "::<" ++ (g.inner ++ codes ">")) in
    let b = length-append g.inner (codes ">") in
    subst (All IsShort) (sym g.cut) (pieces_within 44 (slice_split (λ c. c == 44) g.inner) (2 ^ 32) (let e = ap length (join_with_byte-slice_split 44 g.inner) in omega (arith, a, b, e, h)))

pub short_strings : (ws : List (String Global)) → All IsShort (map string_bytes ws) → All (λ w. string_len w < 4294967296) ws
short_strings ws h = len_by_short ws (all_unmapped IsShort string_bytes ws h)

-- a word that names no definition
pub unnamed : (defs : Defs) (word name : List ℕ) (pieces : List (List ℕ)) → IsOnly word name pieces → NoneNamed defs name (2 ^ 32) →
    (other : List ℕ) (more : List (List ℕ)) → IsDefinitionWord word other more → NoneNamed defs other (2 ^ 32)
unnamed defs word name pieces only none other more parts = subst (λ m. NoneNamed defs m (2 ^ 32)) (sym (only.only other more parts)) none
