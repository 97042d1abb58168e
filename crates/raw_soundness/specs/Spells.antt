-- What is wanted is what tokens are, and lexemes that are what is wanted stand for these tokens.
use Rattle.std.specs.Prelude.{refl, List, [], ◌∷◌, ◌++◌}
use Rattle.std.proofs.Common.{sym, subst}
use Rattle.text_meaning.specs.Tokens.{Token, word, id, number, mark}
use Rattle.text_tokens.specs.declared.lexeme.LexemeKind.{LexemeKind}
use Rattle.text_tokens.specs.declared.lexeme.LexemeKind.TheVariants as L
use Rattle.text_tokens.specs.declared.lexeme.Lexeme.{Lexeme as Spelled}
use Rattle.text_tokens.specs.Stands.{Stands, AllStand}
use Rattle.raw_meaning.specs.Wants as w
use Rattle.raw_meaning.specs.Wants.{Want, Wants, Meets, IsFor, fixed, digits, numbered}
use Rattle.raw_soundness.specs.Readings.{AllMeet}

-- wants are those of tokens, one after another, and then these
pub data Spells : Wants → Wants → List Token → Type 0 where
  over : {ws : Wants} → Spells ws ws []
  next : {x : Want} {ws rest : Wants} {u : Token} {us : List Token} → IsFor x u → Spells ws rest us → Spells (x ∷ ws) rest (u ∷ us)

pub seq : {ws middle rest : Wants} {us vs : List Token} → Spells ws middle us → Spells middle rest vs → Spells ws rest (us ++ vs)
seq over s = s
seq (next f r) s = next f (seq r s)

stands : (x : Want) (u : Token) (k : LexemeKind) → Meets x k → IsFor x u → Stands k u
stands (fixed t) u k h f = subst (Stands k) (sym f) h
stands (w.name n) u k h f = subst (Stands k) (sym f) h
stands (digits s) (number z) k h f = subst (λ (x : LexemeKind). Stands x (number z)) (sym h) f
stands (digits s) (word v) k h f = absurd f
stands (digits s) (id n) k h f = absurd f
stands (digits s) (mark m) k h f = absurd f
stands (numbered v) u k h f = subst (λ (x : LexemeKind). Stands x u) (sym h) (subst (Stands (L.Word v)) (sym f) refl)

pub all_stand : (ws : Wants) (us : List Token) (ls : List Spelled) → Spells ws [] us → AllMeet ws ls → AllStand ls us
all_stand [] [] [] over h = tt
all_stand [] [] (l ∷ ls) over h = absurd h
all_stand [] (u ∷ us) ls s h = elim s [ ]
all_stand (x ∷ ws) [] ls s h = elim s [ ]
all_stand (x ∷ ws) (u ∷ us) [] (next f s) h = absurd h
all_stand (x ∷ ws) (u ∷ us) (l ∷ ls) (next f s) h = (stands x u l.kind h.0 f, all_stand ws us ls s h.1)
