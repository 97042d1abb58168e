-- What a text's lexemes come to is what the text comes to.
use Rattle.std.proofs.Common.{◌≡◌, refl, sym, ap, ◌∙◌, subst, inl, inr, ℕ, zero, suc, ◌≤◌, ◌<◌, Bool, List, [], ◌∷◌, length, take_all, Option, Some, None, Result, Ok, Err, ◌⊎◌, arith}
use Rattle.std.specs.Prelude.{⊤, MatchResult}
use Rattle.std.specs.Result.{IsErrAnd}
use Rattle.aen_base.specs.declared.span.Span.{Span}
use Rattle.pure_ast.specs.declared.def.Defs.{Defs}
use Rattle.table_reader.specs.declared.symbol.Symbol.TheVariants as S
use Rattle.table_reader.specs.Derivations as table
use Rattle.text_meaning.specs.Reading.{ReadsText}
use Rattle.text_meaning.specs.Spelled.{tokens_of}
use Rattle.text_meaning.specs.WellFormed.{IsWellFormed}
use Rattle.text_tokens.specs.declared.lexeme.Lexemes.{Lexemes}
use Rattle.text_tokens.specs.Lexing.{IsLexed}
use Rattle.text_tokens.specs.Stands.{AllStand, AreLexemes, HasNoTokens}
use Rattle.text_table.specs.declared.lexeme.Lexeme.{Lexeme}
use Rattle.text_table.specs.declared.part.Part.TheVariants as N
use Rattle.text_table.specs.Lexemes.{takes}
use Rattle.text_table.specs.Productions.{productions}
use Rattle.text_syntax.specs.Brackets.{few_lexemes, same_few}
use Rattle.text_syntax.specs.ProperTokens.{reading_lexed, unread}
use Rattle.raw_ast.specs.declared.declarations.RawText.{RawText}
use Rattle.raw_meaning.specs.Faults.{faults}
use Rattle.raw_meaning.specs.Trees.{definitions}
use Rattle.raw_ways.specs.Reading as raw
use Rattle.raw_forms.specs.TextForms.{text_formed}
use Rattle.raw_soundness.specs.Readings.{BearsNames}
use Rattle.raw_soundness.specs.Sound.{text_sound}
use Rattle.raw_completeness.specs.Complete.{text_stands, text_is_read}
use Rattle.text_names.specs.Settled.{first}
use Rattle.lean_reader.specs.declared.read.LeanFault.{LeanFault}
use Rattle.lean_reader.specs.declared.read.LeanFault.TheVariants.{Syntax, Limit, Memory}
use Rattle.lean_reader.specs.Faults.{classed, IsPlaceIn}
use Rattle.lean_reader.specs.Placed.{IsPlaced, IsBehind, IsMisread, IsRaw, IsWithin}
use Rattle.lean_reader.specs.Reading.{IsRead, IsUnread, IsFault}
use Rattle.lean_reader.proofs.Derived.{viable}

-- what is known of a text's lexemes
pub record Lexing (text : List ℕ) (l : Lexemes) : Type 0 where
  pub exact : l.fault ≡ None → AreLexemes l.list text
  pub none : (l.fault ≡ None → ⊥) → HasNoTokens text
  pub lexed : IsLexed text l.list l.fault
  pub names : BearsNames l.list

none_some : {A G : Type 0} (o : Option A) (x : A) → o ≡ Some x → o ≡ None → G
none_some o x h k = let e : Some x ≡ None = sym h ∙ k in absurd cc

-- ---- no reading

-- a text is read only of lexemes that stand for the tokens of well-formed definitions
unread_by : (o : Option Span) (text : List ℕ) (l : Lexemes) → Lexing text l → l.fault ≡ o → ((d : Defs) → IsWellFormed d → AllStand l.list (tokens_of d) → ⊥) → IsUnread text
unread_by None text l h e f d r = f d r.well_formed ((reading_lexed l.list text d (h.exact e) r.well_formed).0 r.tokens)
unread_by (Some bad) text l h e f d r = unread text (h.none (λ k. none_some l.fault bad e k)) d r

no_reading : (text : List ℕ) (l : Lexemes) → Lexing text l → ((d : Defs) → IsWellFormed d → AllStand l.list (tokens_of d) → ⊥) → IsUnread text
no_reading text l h f = unread_by l.fault text l h refl f

-- ---- a fault of the grammar

end_by : (o : Option Span) (text : List ℕ) (ls : List Lexeme) (bad : Option Span) (place : Span) → bad ≡ o → IsBehind bad (length text) place → raw.IsFault N.Text ls (length ls) → IsPlaceIn text ls bad place
end_by None text ls bad place e h f = inr (inr (inl (record { whole = e; fault = f; empty = subst (λ (b : Option Span). IsBehind b (length text) place) e h })))
end_by (Some x) text ls bad place e h f =
    let here : place ≡ x = subst (λ (b : Option Span). IsBehind b (length text) place) e h in
    let before = subst (λ (ms : List Lexeme). table.IsViable takes productions (S.Part N.Text ∷ []) ms) (take_all (length ls) ls (omega arith)) f.before in
    inr (inl (record { fault = e ∙ ap (λ s. Some s) (sym here); before = before }))

less_or_same : (k n : ℕ) → k ≤ n → (k < n) ⊎ (k ≡ n)
less_or_same zero zero h = inr refl
less_or_same zero (suc n) h = inl (omega arith)
less_or_same (suc k) zero h = absurd (omega arith)
less_or_same (suc k) (suc n) h = by_less (less_or_same k n (omega arith))
  where
    by_less : (k < n) ⊎ (k ≡ n) → (suc k < suc n) ⊎ (suc k ≡ suc n)
    by_less (inl l) = inl (omega arith)
    by_less (inr e) = inr (ap suc e)

placed_by : (text : List ℕ) (ls : List Lexeme) (bad : Option Span) (k : ℕ) (place : Span) → (k < length ls) ⊎ (k ≡ length ls) → raw.IsFault N.Text ls k →
    IsPlaced ls k bad (length text) place → IsPlaceIn text ls bad place
placed_by text ls bad k place (inl l) f p = inl (record { number = k; fault = f; span = p.here l })
placed_by text ls bad k place (inr e) f p = end_by bad text ls bad place refl (p.behind e) (subst (λ (n : ℕ). raw.IsFault N.Text ls n) e f)

-- a text whose lexemes are no text by the grammar
pub grammar_fault : (text : List ℕ) (l : Lexemes) (k : ℕ) (place : Span) → Lexing text l → raw.IsNotRead N.Text (classed l.list) → raw.IsFault N.Text (classed l.list) k →
    IsPlaced (classed l.list) k l.fault (length text) place → IsFault text (Syntax place)
grammar_fault text l k place h n f p = (
  no_reading text l h (λ d w s. text_is_read d l.list w s n),
  record { lexemes = l; lexed = h.lexed; at = placed_by text (classed l.list) l.fault k place (less_or_same k (length (classed l.list)) f.within) f p },
)

-- ---- a text by the grammar

-- definitions that it stands for
pub record Stands (text : List ℕ) (l : Lexemes) (d : Defs) : Type 0 where
  pub reads : ReadsText text d
  pub stand : AllStand l.list (tokens_of d)

stands : (text : List ℕ) (l : Lexemes) (r : RawText) (d : Defs) → Lexing text l → raw.IsRead N.Text (classed l.list) r → l.fault ≡ None →
    faults r ≡ [] → definitions r ≡ Some d → Stands text l d
stands text l r d h g e f t =
    let s = text_sound l.list r h.names g.reads in
    let m = text_formed r s.shaped s.named f in
    let same : m.tree ≡ d = let q : Some m.tree ≡ Some d = sym m.is ∙ t in cc in
    let w : IsWellFormed d = subst IsWellFormed same m.well_formed in
    let a = s.stands d f t in
    record { reads = record { tokens = (reading_lexed l.list text d (h.exact e) w).1 a; well_formed = w }; stand = a }

pub is_read : (text : List ℕ) (l : Lexemes) (r : RawText) (d : Defs) (few : Bool) → Lexing text l → raw.IsRead N.Text (classed l.list) r →
    few ≡ few_lexemes 0 l.list → IsWithin r l.fault few (Ok d) → IsRead text d
is_read text l r d few h g q w =
    let s = stands text l r d h g w.0 w.1 w.2 in
    record {
      reads = s.reads;
      only = λ other o.
          let a = (reading_lexed l.list text other (h.exact w.0) o.well_formed).0 o.tokens in
          let t = text_stands other l.list r o.well_formed a g in
          let e : Some other ≡ Some d = sym t.0 ∙ w.2 in cc;
      few = sym (same_few l.list (tokens_of d) 0 s.stand) ∙ sym q ∙ w.3;
    }

no_first : {A G : Type 0} (xs : List A) (x : A) → first xs ≡ Some x → xs ≡ [] → G
no_first xs x h e = let k : None ≡ Some x = ap first (sym e) ∙ h in absurd cc

broken : (text : List ℕ) (l : Lexemes) (r : RawText) (place : Span) → Lexing text l → raw.IsRead N.Text (classed l.list) r →
    (l.fault ≡ Some place) ⊎ ((l.fault ≡ None) × (first (faults r) ≡ Some place)) → IsFault text (Syntax place)
broken text l r place h g (inl e) = (
  λ d o. unread text (h.none (λ k. none_some l.fault place e k)) d o,
  record { lexemes = l; lexed = h.lexed; at = inr (inl (record { fault = e; before = viable (classed l.list) r g.reads })) },
)
broken text l r place h g (inr (e, f)) = (
  no_reading text l h (λ d w s. no_first (faults r) place f (text_stands d l.list r w s g).1),
  record { lexemes = l; lexed = h.lexed; at = inr (inr (inr (record { whole = e; spelled = r; reads = g.reads; at = f }))) },
)

pub is_fault : (text : List ℕ) (l : Lexemes) (r : RawText) (x : LeanFault) (few : Bool) → Lexing text l → raw.IsRead N.Text (classed l.list) r →
    few ≡ few_lexemes 0 l.list → IsWithin r l.fault few (Err x) → IsFault text x
is_fault text l r (Syntax place) few h g q w = broken text l r place h g w
is_fault text l r (Limit which count) few h g q w =
    let d = w.4.0 in
    let s = stands text l r d h g w.2 w.3 w.4.1.0 in
    (w.0, w.1, record { defs = d; reads = s.reads; many = sym (same_few l.list (tokens_of d) 0 s.stand) ∙ sym q ∙ w.4.1.1 })
is_fault text l r Memory few h g q w = tt

-- ---- what the calls answer

-- lexemes that are read as a text, and those that are none
abbrev IsAnswer : List Lexeme → Result RawText ℕ → Type 0
IsAnswer ls r = MatchResult r (λ (text : RawText). raw.IsRead N.Text ls text) (λ (place : ℕ). raw.IsFault N.Text ls place)

pub answered : (ls ms : List Lexeme) (r : Result RawText ℕ) (x : RawText) → ms ≡ ls → r ≡ Ok x → IsAnswer ms r → raw.IsRead N.Text ls x
answered ls ms r x e f h = subst (λ (ns : List Lexeme). raw.IsRead N.Text ns x) e (subst (IsAnswer ms) f h)

pub answered_at : (ls ms : List Lexeme) (r : Result RawText ℕ) (k : ℕ) → ms ≡ ls → r ≡ Err k → IsAnswer ms r → raw.IsFault N.Text ls k
answered_at ls ms r k e f h = subst (λ (ns : List Lexeme). raw.IsFault N.Text ns k) e (subst (IsAnswer ms) f h)

pub not_read : (ls ms : List Lexeme) (r : Result RawText ℕ) (k : ℕ) → ms ≡ ls → r ≡ Err k → MatchResult r (λ (text : RawText). ⊤) (λ (place : ℕ). raw.IsNotRead N.Text ms) → raw.IsNotRead N.Text ls
not_read ls ms r k e f h = subst (λ (ns : List Lexeme). raw.IsNotRead N.Text ns) e (subst (λ (r : Result RawText ℕ). MatchResult r (λ (text : RawText). ⊤) (λ (place : ℕ). raw.IsNotRead N.Text ms)) f h)

-- what those lexemes come to that a call was given
pub read_as : (ls ms : List Lexeme) (bad : Option Span) (end : ℕ) (r : Result RawText Span) (x : RawText) → ms ≡ ls → r ≡ Ok x → IsRaw ms bad end r → raw.IsRead N.Text ls x
read_as ls ms bad end r x e f h = subst (λ (ns : List Lexeme). raw.IsRead N.Text ns x) e (subst (IsRaw ms bad end) f h)

pub misread : (ls ms : List Lexeme) (bad : Option Span) (end : ℕ) (r : Result RawText Span) (place : Span) → ms ≡ ls → r ≡ Err place → IsRaw ms bad end r → IsMisread ls bad end place
misread ls ms bad end r place e f h = subst (λ (ns : List Lexeme). IsMisread ns bad end place) e (subst (IsRaw ms bad end) f h)

-- an error that is handed on
pub handed_on : (text : List ℕ) (r : Result Defs LeanFault) (x : LeanFault) → IsErrAnd r (λ y. y ≡ x) → IsFault text x → MatchResult r (IsRead text) (IsFault text)
handed_on text (Ok d) x e h = absurd e
handed_on text (Err y) x e h = subst (IsFault text) (sym e) h
