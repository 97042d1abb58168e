-- What is read as a part: its lexemes meet what the part wants, and its value has the part's shape, where each production keeps both.
use Rattle.std.specs.Prelude.{◌≡◌, refl, ℕ, Bool, true, false, if◌then◌else◌, List, [], ◌∷◌, map}
use Rattle.std.proofs.Common.{ap, sym, ◌∙◌, subst, inl, inr}
use Rattle.table_reader.specs.declared.symbol.Symbol.{Symbol}
use Rattle.table_reader.specs.declared.symbol.Symbol.TheVariants as S
use Rattle.table_reader.specs.declared.take.Take.{Take}
use Rattle.table_reader.specs.declared.take.Take.TheVariants as K
use Rattle.table_reader.specs.Derivations.{IsOneOf}
use Rattle.table_reader.specs.Reading as R
use Rattle.text_meaning.specs.Lists.{Each}
use Rattle.text_meaning.specs.Names.{IsName}
use Rattle.text_meaning.specs.Tokens.{id}
use Rattle.text_tokens.specs.declared.lexeme.LexemeKind.{LexemeKind}
use Rattle.text_tokens.specs.declared.lexeme.LexemeKind.TheVariants.{Word, Marked, Number, Punct}
use Rattle.text_tokens.specs.declared.lexeme.Lexeme.{Lexeme as Spelled}
use Rattle.text_tokens.specs.Lexing.{BearsName}
use Rattle.text_tokens.specs.Stands.{Stands}
use Rattle.text_table.specs.declared.lexeme.Lexeme.{Lexeme}
use Rattle.text_table.specs.declared.part.Part.{Part}
use Rattle.text_table.specs.declared.terminal.Terminal.{Terminal}
use Rattle.text_table.specs.declared.terminal.Terminal.TheVariants as T
use Rattle.text_table.specs.Lexemes.{takes, has_class}
use Rattle.text_syntax.specs.Classing.{class_of, lexeme_of, text_of}
use Rattle.text_syntax.specs.Standing.{is_id}
use Rattle.raw_values.specs.Carriers.{carrier}
use Rattle.raw_ways.specs.Makes.{made}
use Rattle.raw_ways.specs.Reading.{Reads}
use Rattle.raw_meaning.specs.Wants.{Wants, Meets}
use Rattle.raw_soundness.specs.BareNames.{bare_name}
use Rattle.raw_soundness.specs.Met.{met}
use Rattle.raw_soundness.specs.Shapes.{IsShaped, AreTaken, IsNameIfId}
use Rattle.raw_soundness.specs.Symbols.{wants, all_wants}

abbrev pub Made : Part → Type 0
Made n = R.Made Terminal Part Lexeme carrier n

abbrev pub Values : List (Symbol Terminal Part) → Type 0
Values p = R.Parts Terminal Part Lexeme carrier p

abbrev pub ReadsAll : (p : List (Symbol Terminal Part)) → List Lexeme → List Lexeme → Values p → Type 0
ReadsAll p ls us vs = R.ReadsAll takes carrier made p ls us vs

-- ---- what is asked of each production

-- P holds of each production with the values of its symbols
abbrev pub OfEach : (n : Part) → ((m : Made n) → Values m.symbols → Type 0) → List (Made n) → Type 0
OfEach n P [] = Unit {0}
OfEach n P (m ∷ ms) = ((vs : Values m.symbols) → AreTaken m.symbols vs → P m vs) × OfEach n P ms

pub of_one : (n : Part) (P : (m : Made n) → Values m.symbols → Type 0) (m : Made n) (ms : List (Made n)) → OfEach n P ms → IsOneOf m ms →
    (vs : Values m.symbols) → AreTaken m.symbols vs → P m vs
of_one n P m [] a h = absurd h
of_one n P m (k ∷ ms) a (inl e) = subst (λ (x : Made n). (vs : Values x.symbols) → AreTaken x.symbols vs → P x vs) (sym e) a.0
of_one n P m (k ∷ ms) a (inr h) = of_one n P m ms a.1 h

-- it makes a value of the part's shape, which wants what its symbols want
abbrev pub IsKept : (n : Part) → (m : Made n) → Values m.symbols → Type 0
IsKept n m vs = IsShaped n (m.make vs)

abbrev pub IsSpelled : (n : Part) → (m : Made n) → Values m.symbols → Type 0
IsSpelled n m vs = (rest : Wants) → wants n (m.make vs) rest ≡ all_wants m.symbols vs rest

-- ---- lexemes

-- each lexeme is what is wanted, and there are as many
abbrev pub AllMeet : Wants → List Spelled → Type 0
AllMeet [] [] = Unit {0}
AllMeet [] (l ∷ ls) = ⊥
AllMeet (w ∷ ws) [] = ⊥
AllMeet (w ∷ ws) (l ∷ ls) = Meets w l.kind × AllMeet ws ls

-- what stands between marks is a name
abbrev pub BearsNames : List Spelled → Type 0
BearsNames ls = Each (λ (l : Spelled). BearsName l.kind) ls

name_of : (k : LexemeKind) → has_class T.Name (class_of k) ≡ true → BearsName k → IsName (text_of k)
name_of (Word w) h g = let s : Stands (Word w) (id (text_of (Word w))) = is_id (Word w) h in subst (λ (x : List ℕ). IsName x) (sym s.0) (bare_name w s.1)
name_of (Marked n) h g = g
name_of (Number s) h g = absurd (is_id (Number s) h)
name_of (Punct m) h g = absurd (is_id (Punct m) h)

name_if_id : (t : Terminal) (l : Spelled) → has_class t (class_of l.kind) ≡ true → BearsName l.kind → IsNameIfId t (lexeme_of l)
name_if_id T.Name l h g = name_of l.kind h g
name_if_id t l h g = tt

abbrev take_if : Bool → Take Lexeme
take_if b = if b then K.Whole else K.No

taken_whole : (b : Bool) → take_if b ≡ K.Whole → b ≡ true
taken_whole true h = refl
taken_whole false h = absurd cc

not_a_front : (b : Bool) (x y : Lexeme) → take_if b ≡ K.Front x y → ⊥
not_a_front true x y h = cc
not_a_front false x y h = cc

-- ---- what is read

-- lexemes that are left, before which are those of the part
pub record IsRead (n : Part) (v : carrier n) (us : List Lexeme) (xs : List Spelled) : Type 0 where
  pub left : List Spelled
  pub same : map lexeme_of left ≡ us
  pub named : BearsNames left
  pub shaped : IsShaped n v
  pub meets : (rest : Wants) → AllMeet rest left → AllMeet (wants n v rest) xs

pub record AreRead (p : List (Symbol Terminal Part)) (vs : Values p) (us : List Lexeme) (xs : List Spelled) : Type 0 where
  pub left : List Spelled
  pub same : map lexeme_of left ≡ us
  pub named : BearsNames left
  pub taken : AreTaken p vs
  pub meets : (rest : Wants) → AllMeet rest left → AllMeet (all_wants p vs rest) xs

-- a token before symbols that are read
token_read : (t : Terminal) (p : List (Symbol Terminal Part)) (us : List Lexeme) (vs : Values p) (x : Spelled) (xs : List Spelled) (l : Lexeme) → lexeme_of x ≡ l →
    has_class t l.class ≡ true → BearsName x.kind → AreRead p vs us xs → AreRead (S.Token t ∷ p) (l, vs) us (x ∷ xs)
token_read t p us vs x xs l e h g s =
    subst (λ (y : Lexeme). AreRead (S.Token t ∷ p) (y, vs) us (x ∷ xs)) e
    (let k : has_class t (class_of x.kind) ≡ true = ap (λ (y : Lexeme). has_class t y.class) e ∙ h in
    record {
      left = s.left;
      same = s.same;
      named = s.named;
      taken = ((k, name_if_id t x k g), s.taken);
      meets = λ rest f. (met t x k, s.meets rest f);
    })

module _ (kept : (n : Part) → OfEach n (IsKept n) (made n)) (spelled : (n : Part) → OfEach n (IsSpelled n) (made n)) where
  mutual
    pub part_read : (n : Part) (ls us : List Lexeme) (v : carrier n) (xs : List Spelled) → Reads n ls us v → map lexeme_of xs ≡ ls → BearsNames xs → IsRead n v us xs
    part_read n ls us _ xs (R.by m one vs r) e g =
        let s = all_read m.symbols ls us vs xs r e g in
        record {
          left = s.left;
          same = s.same;
          named = s.named;
          shaped = of_one n (IsKept n) m (made n) (kept n) one vs s.taken;
          meets = λ rest h. subst (λ (w : Wants). AllMeet w xs) (sym (of_one n (IsSpelled n) m (made n) (spelled n) one vs s.taken rest)) (s.meets rest h);
        }

    pub all_read : (p : List (Symbol Terminal Part)) (ls us : List Lexeme) (vs : Values p) (xs : List Spelled) → ReadsAll p ls us vs → map lexeme_of xs ≡ ls → BearsNames xs →
        AreRead p vs us xs
    all_read [] ls us _ xs R.nothing e g = record { left = xs; same = e; named = g; taken = tt; meets = λ rest h. h }
    all_read (S.Token t ∷ p) (l ∷ ls) us _ [] (R.token {vs} a r) e g = absurd cc
    all_read (S.Token t ∷ p) (l ∷ ls) us _ (x ∷ xs) (R.token {vs} a r) e g =
        let first : lexeme_of x ≡ l = cc in
        let more : map lexeme_of xs ≡ ls = cc in
        token_read t p us vs x xs l first (taken_whole (has_class t l.class) a) g.0 (all_read p ls us vs xs r more g.1)
    all_read (S.Token t ∷ p) (l ∷ ls) us _ xs (R.piece {vs} half k a r) e g = absurd (not_a_front (has_class t l.class) half k a)
    all_read (S.Part n ∷ p) ls us _ xs (R.part {ms} {v} {vs} r rs) e g =
        let s = part_read n ls ms v xs r e g in
        let q = all_read p ms us vs s.left rs s.same s.named in
        record {
          left = q.left;
          same = q.same;
          named = q.named;
          taken = (s.shaped, q.taken);
          meets = λ rest h. s.meets (all_wants p vs rest) (q.meets rest h);
        }
