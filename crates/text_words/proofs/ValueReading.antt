-- A word is read as the value that it is, and a piece as the type that it is.
use Rattle.std.proofs.Common.{◌≡◌, refl, ap, sym, ◌∙◌, subst, ℕ, Bool, true, false, List, [], map, Option, Some, None, ◌⊎◌, inl, inr}
use Rattle.std.specs.Prelude.{if◌then◌else◌, MatchOption, Result, IfOk, is_some}
use Rattle.std.specs.Option.{option_and_then}
use Rattle.std.proofs.lemmas.Option.{same_Some}
use Rattle.std.proofs.lemmas.Result.{IfOk-weaker}
use Rattle.aen_base.specs.declared.span.Span.{Span}
use Rattle.pure_ast.specs.declared.def.Defs.{Defs}
use Rattle.pure_ast.specs.Terms.{Term}
use Rattle.pure_ast.specs.Types.{PTy}
use Rattle.pure_ast.specs.Values.{PValue}
use Rattle.text_meaning.specs.SpelledTerms.{term_tokens}
use Rattle.text_meaning.specs.SpelledTypes.{type_tokens}
use Rattle.text_meaning.specs.ValueTerms.{value_term}
use Rattle.text_meaning.specs.WellFormed.{IsWellFormed}
use Rattle.text_meaning.specs.WellFormedTerms.{IsTerm}
use Rattle.text_meaning.specs.WellFormedTypes.{IsType, AreTypeParameters}
use Rattle.text_tokens.specs.declared.lexeme.Lexeme.{Lexeme as Spelled}
use Rattle.text_tokens.specs.Scan.{cut_text}
use Rattle.text_tokens.proofs.Exact.{lexemes_exact, lexemes_none}
use Rattle.text_tokens.specs.Stands.{AllStand, AreLexemes, HasNoTokens}
use Rattle.text_table.specs.declared.lexeme.Lexeme.{Lexeme}
use Rattle.text_table.specs.declared.part.Part.TheVariants as N
use Rattle.text_syntax.specs.Brackets.{few_open, few_lexemes, same_few}
use Rattle.text_syntax.specs.Classing.{lexeme_of}
use Rattle.raw_meaning.specs.declared.outline.Outline.{Outline}
use Rattle.raw_meaning.specs.Heads.{declared_by}
use Rattle.raw_completeness.specs.Atoms.{atom_read}
use Rattle.raw_completeness.specs.Finding.{finds, places}
use Rattle.raw_completeness.specs.Rows.{all_begin}
use Rattle.raw_completeness.specs.Types.{as_type, type_read}
use Rattle.raw_forms.specs.Atoms.{atom_formed}
use Rattle.raw_forms.specs.Types.{type_formed}
use Rattle.raw_soundness.specs.Readings.{BearsNames}
use Rattle.raw_soundness.specs.Sound.{atom_sound, type_sound}
use Rattle.text_syntax.specs.ProperTokens.{term_proper, type_proper}
use Rattle.text_words.specs.Typing.{has_type, closed_value}
use Rattle.text_words.specs.ValueWords.{IsWord, IsPiece}
use Rattle.text_words.specs.WordReading.{IsTermRead, IsTypeRead, IsTermOf, IsTypeOf, Finds, of_type, value_of}
use Rattle.text_words.proofs.OneReading.{read_once, term_once, type_once as read_type_once}
use Rattle.text_words.proofs.Typed.{type_is, type_found, closed_sound, closed_found}

-- what gives a value gives it in each step
if_some : {A : Type 0} (b : Bool) (o : Option A) (x : A) → (if b then o else None) ≡ Some x → (b ≡ true) × (o ≡ Some x)
if_some true o x h = (refl, h)
if_some false o x h = absurd cc

then_some : {A B : Type 0} (f : A → Option B) (o : Option A) (y : B) → option_and_then f o ≡ Some y → (x : A) × ((o ≡ Some x) × (f x ≡ Some y))
then_some f None y h = absurd cc
then_some f (Some x) y h = (x, (refl, h))

no_parameters : (d : Defs) → AreTypeParameters d []
no_parameters d = ((tt, tt), tt)

module _ (d : Defs) (formed : IsWellFormed d) (ls : List Spelled) (text : List ℕ) (lexed : AreLexemes ls text) where
  -- ---- terms

  term_sound : BearsNames ls → (t : Term) → IsTermOf (declared_by d) ls t → AllStand ls (term_tokens d t) × IsTerm d t
  term_sound named t r =
      let s = atom_sound ls r.term.raw named r.term.read.reads in
      let f = atom_formed (declared_by d) r.term.raw s.shaped r.term.faults in
      (s.stands (declared_by d) d t refl r.term.tree, subst (IsTerm d) (same_Some f.tree t (sym f.is ∙ r.term.tree)) (f.fits d refl))

  term_found : (t : Term) → IsTerm d t → AllStand ls (term_tokens d t) → few_open 0 (term_tokens d t) ≡ true → IsTermOf (declared_by d) ls t
  term_found t w stand few =
      let g = atom_read d (declared_by d) (finds d formed) t w ls [] (all_begin (term_tokens d t) ls stand) in
      record {
        few = same_few ls (term_tokens d t) 0 stand ∙ few;
        term = record { raw = g.value; read = read_once N.Atom (map lexeme_of ls) g.value g.reads; tree = g.holds.0; faults = g.holds.1 };
      }

  -- ---- values

  value_by : BearsNames ls → (ty : PTy) (t : Term) (v : PValue) → IsTermOf (declared_by d) ls t → closed_value t ≡ Some v → has_type d ty v ≡ true → IsWord d ty text v
  value_by named ty t v r e typed =
      let s = term_sound named t r in
      let is = closed_sound t v e in
      let term = subst (IsTerm d) is s.1 in
      let stand = subst (λ (x : Term). AllStand ls (term_tokens d x)) is s.0 in
      record {
        tokens = (lexed (term_tokens d (value_term v)) (term_proper d (value_term v) term)).1 stand;
        term = term;
        few = sym (same_few ls (term_tokens d (value_term v)) 0 stand) ∙ r.few;
        type = type_is d ty v typed;
      }

  value_sound : BearsNames ls → (ty : PTy) (o : Option Term) (v : PValue) → Finds (IsTermOf (declared_by d) ls) o → value_of d ty o ≡ Some v → IsWord d ty text v
  value_sound named ty None v r h = absurd cc
  value_sound named ty (Some t) v r h =
      let b = then_some (of_type d ty) (closed_value t) v h in
      let c = if_some (has_type d ty b.0) (Some b.0) v b.1.1 in
      let same = same_Some b.0 v c.1 in
      value_by named ty t v r (b.1.0 ∙ ap Some same) (ap (has_type d ty) (sym same) ∙ c.0)

  word_found : (ty : PTy) (v : PValue) → IsWord d ty text v → IsTermOf (declared_by d) ls (value_term v)
  word_found ty v w = term_found (value_term v) w.term ((lexed (term_tokens d (value_term v)) (term_proper d (value_term v) w.term)).0 w.tokens) w.few

  value_complete : (ty : PTy) (o : Option Term) (v : PValue) → Finds (IsTermOf (declared_by d) ls) o → IsWord d ty text v → value_of d ty o ≡ Some v
  value_complete ty None v r w = absurd (r (value_term v) (word_found ty v w))
  value_complete ty (Some t) v r w =
      let same = term_once (declared_by d) (map lexeme_of ls) t (value_term v) r.term (word_found ty v w).term in
      rw same (rw (closed_found v) (rw (type_found d ty v w.type) refl))

  pub value_once : (ty : PTy) (v w : PValue) → IsWord d ty text v → IsWord d ty text w → v ≡ w
  value_once ty v w a b =
      same_Some v w (sym (value_complete ty (Some (value_term v)) v (word_found ty v a) a) ∙ value_complete ty (Some (value_term v)) w (word_found ty v a) b)

  value_from : BearsNames ls → (ty : PTy) (o : Option Term) (r : Option PValue) → Finds (IsTermOf (declared_by d) ls) o → value_of d ty o ≡ r →
      MatchOption r ((v : PValue) → IsWord d ty text v → ⊥) (λ v. IsWord d ty text v)
  value_from named ty o None f h = λ v w. let k = value_complete ty o v f w in absurd cc
  value_from named ty o (Some v) f h = value_sound named ty o v f h

  pub value_exact : BearsNames ls → (ty : PTy) (o : Option Term) (r : Option PValue) → Finds (IsTermOf (declared_by d) ls) o → r ≡ value_of d ty o →
      MatchOption r ((v : PValue) → IsWord d ty text v → ⊥) (λ v. IsWord d ty text v)
  value_exact named ty o r f h = value_from named ty o r f (sym h)

  -- ---- types

  piece_sound : BearsNames ls → (t : PTy) → IsTypeOf (declared_by d) ls t → IsPiece d text t
  piece_sound named t r =
      let s = type_sound ls r.type.raw named r.type.read.reads in
      let f = type_formed (declared_by d) [] r.type.raw s.shaped r.type.faults in
      let stand = s.stands (declared_by d) d [] t refl r.type.tree in
      record {
        tokens = (lexed (type_tokens d [] t) (type_proper d [] t)).1 stand;
        type = subst (IsType d 0) (same_Some f.tree t (sym f.is ∙ r.type.tree)) (f.fits d refl);
        few = sym (same_few ls (type_tokens d [] t) 0 stand) ∙ r.few;
      }

  piece_found : (t : PTy) → IsPiece d text t → IsTypeOf (declared_by d) ls t
  piece_found t w =
      let stand = (lexed (type_tokens d [] t) (type_proper d [] t)).0 w.tokens in
      let g = as_type d (declared_by d) [] t (type_read d (declared_by d) [] (finds d formed) (places d [] (no_parameters d)) t w.type) ls [] (all_begin (type_tokens d [] t) ls stand) in
      record {
        few = same_few ls (type_tokens d [] t) 0 stand ∙ w.few;
        type = record { raw = g.value; read = read_once N.Type (map lexeme_of ls) g.value g.reads; tree = g.holds.0; faults = g.holds.1 };
      }

  pub piece_once : (t u : PTy) → IsPiece d text t → IsPiece d text u → t ≡ u
  piece_once t u a b = read_type_once (declared_by d) (map lexeme_of ls) t u (piece_found t a).type (piece_found u b).type

  pub piece_exact : BearsNames ls → (o : Option PTy) → Finds (IsTypeOf (declared_by d) ls) o → MatchOption o ((t : PTy) → IsPiece d text t → ⊥) (λ t. IsPiece d text t)
  piece_exact named None f = λ t w. f t (piece_found t w)
  piece_exact named (Some t) f = piece_sound named t f

-- a text without tokens is no value and no type
pub no_word : (d : Defs) (ty : PTy) (text : List ℕ) → HasNoTokens text → (v : PValue) → IsWord d ty text v → ⊥
no_word d ty text h v w = h (term_tokens d (value_term v)) (term_proper d (value_term v) w.term) w.tokens

pub no_piece : (d : Defs) (text : List ℕ) → HasNoTokens text → (t : PTy) → IsPiece d text t → ⊥
no_piece d text h t w = h (type_tokens d [] t) (type_proper d [] t) w.tokens

-- a text is one value of a type at most, and one type
module _ (d : Defs) (formed : IsWellFormed d) (text : List ℕ) where
  lexed_by : (o : Option Span) → (cut_text text).fault ≡ o → AreLexemes (cut_text text).list text ⊎ HasNoTokens text
  lexed_by None e = inl (lexemes_exact text (cut_text text) refl e)
  lexed_by (Some s) e = inr (lexemes_none text (cut_text text) refl (λ n. let k : None ≡ Some s = sym n ∙ e in absurd cc))

  lexed : AreLexemes (cut_text text).list text ⊎ HasNoTokens text
  lexed = lexed_by (cut_text text).fault refl

  pub word_once : (ty : PTy) (v w : PValue) → IsWord d ty text v → IsWord d ty text w → v ≡ w
  word_once ty v w a b = by lexed
    where
      by : AreLexemes (cut_text text).list text ⊎ HasNoTokens text → v ≡ w
      by (inl are) = value_once d formed (cut_text text).list text are ty v w a b
      by (inr none) = absurd (no_word d ty text none v a)

  pub type_once : (t u : PTy) → IsPiece d text t → IsPiece d text u → t ≡ u
  type_once t u a b = by lexed
    where
      by : AreLexemes (cut_text text).list text ⊎ HasNoTokens text → t ≡ u
      by (inl are) = piece_once d formed (cut_text text).list text are t u a b
      by (inr none) = absurd (no_piece d text none t a)

pub some_fault : {A : Type 0} (o : Option A) → true ≡ is_some o → o ≡ None → ⊥
some_fault None h e = absurd cc
some_fault (Some x) h e = absurd cc

pub no_fault : {A : Type 0} (o : Option A) → false ≡ is_some o → o ≡ None
no_fault None h = refl
no_fault (Some x) h = absurd cc

-- what is read under the tables of what the definitions declare
pub value_read : {E : Type 0} (d : Defs) (h : Outline) (ty : PTy) (ls : List Spelled) (text : List ℕ) (o : Option Term) (r : Result (Option PValue) E) → IsWellFormed d →
    h ≡ declared_by d → AreLexemes ls text → BearsNames ls → Finds (IsTermOf h ls) o → IfOk r (λ v. v ≡ value_of d ty o) →
    IfOk r (λ v. MatchOption v ((w : PValue) → IsWord d ty text w → ⊥) (λ w. IsWord d ty text w))
value_read d h ty ls text o r formed own lexed named f k =
    let found = subst (λ (h : Outline). Finds (IsTermOf h ls) o) own f in
    IfOk-weaker r (λ v. v ≡ value_of d ty o) (λ v. MatchOption v ((w : PValue) → IsWord d ty text w → ⊥) (λ w. IsWord d ty text w))
    (λ v e. value_exact d formed ls text lexed named ty o v found e) k

pub piece_read : {E : Type 0} (d : Defs) (h : Outline) (ls : List Spelled) (text : List ℕ) (r : Result (Option PTy) E) → IsWellFormed d →
    h ≡ declared_by d → AreLexemes ls text → BearsNames ls → IfOk r (λ o. Finds (IsTypeOf h ls) o) →
    IfOk r (λ o. MatchOption o ((t : PTy) → IsPiece d text t → ⊥) (λ t. IsPiece d text t))
piece_read d h ls text r formed own lexed named k =
    IfOk-weaker r (λ o. Finds (IsTypeOf h ls) o) (λ o. MatchOption o ((t : PTy) → IsPiece d text t → ⊥) (λ t. IsPiece d text t))
    (λ o f. piece_exact d formed ls text lexed named o (subst (λ (h : Outline). Finds (IsTypeOf h ls) o) own f)) k

-- few brackets beside what is read of lexemes with their classes
term_some : (h : Outline) (ls : List Spelled) (o : Option Term) → few_lexemes 0 ls ≡ true → Finds (IsTermRead h (map lexeme_of ls)) o → Finds (IsTermOf h ls) o
term_some h ls None few f = λ t g. f t g.term
term_some h ls (Some t) few f = record { few = few; term = f }

pub term_within : {E : Type 0} (h : Outline) (ls : List Spelled) (qs : List Lexeme) (r : Result (Option Term) E) → few_lexemes 0 ls ≡ true → qs ≡ map lexeme_of ls →
    IfOk r (λ o. Finds (IsTermRead h qs) o) → IfOk r (λ o. Finds (IsTermOf h ls) o)
term_within h ls qs r few e k =
    IfOk-weaker r (λ o. Finds (IsTermRead h qs) o) (λ o. Finds (IsTermOf h ls) o) (λ o f. term_some h ls o few (subst (λ (x : List Lexeme). Finds (IsTermRead h x) o) e f)) k

type_some : (h : Outline) (ls : List Spelled) (o : Option PTy) → few_lexemes 0 ls ≡ true → Finds (IsTypeRead h (map lexeme_of ls)) o → Finds (IsTypeOf h ls) o
type_some h ls None few f = λ t g. f t g.type
type_some h ls (Some t) few f = record { few = few; type = f }

pub type_within : {E : Type 0} (h : Outline) (ls : List Spelled) (qs : List Lexeme) (r : Result (Option PTy) E) → few_lexemes 0 ls ≡ true → qs ≡ map lexeme_of ls →
    IfOk r (λ o. Finds (IsTypeRead h qs) o) → IfOk r (λ o. Finds (IsTypeOf h ls) o)
type_within h ls qs r few e k =
    IfOk-weaker r (λ o. Finds (IsTypeRead h qs) o) (λ o. Finds (IsTypeOf h ls) o) (λ o f. type_some h ls o few (subst (λ (x : List Lexeme). Finds (IsTypeRead h x) o) e f)) k
