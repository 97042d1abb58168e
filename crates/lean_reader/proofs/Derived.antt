-- What is read as a text is derived by the grammar.
use Rattle.std.proofs.Common.{sym, ap, subst, inl, inr, List, [], ◌∷◌, ◌++◌, map}
use Rattle.std.proofs.lemmas.List.{append-nil}
use Rattle.table_reader.specs.declared.symbol.Symbol.{Symbol}
use Rattle.table_reader.specs.declared.symbol.Symbol.TheVariants as S
use Rattle.table_reader.specs.Derivations as D
use Rattle.table_reader.specs.Derivations.{IsOneOf}
use Rattle.table_reader.specs.Making.{same_made}
use Rattle.table_reader.specs.Reading as R
use Rattle.table_reader.specs.Reading.{Made, Parts}
use Rattle.text_table.specs.declared.lexeme.Lexeme.{Lexeme}
use Rattle.text_table.specs.declared.part.Part.{Part}
use Rattle.text_table.specs.declared.part.Part.TheVariants as N
use Rattle.text_table.specs.declared.terminal.Terminal.{Terminal}
use Rattle.text_table.specs.Lexemes.{takes}
use Rattle.text_table.specs.Productions.{productions}
use Rattle.raw_values.specs.Carriers.{carrier}
use Rattle.raw_ways.specs.Makes.{made, makes}
use Rattle.raw_ways.specs.Reading.{Reads}

abbrev Symbols : Type 0
Symbols = List (Symbol Terminal Part)

abbrev Derives : Symbols → List Lexeme → Type 0
Derives p ls = D.Derives takes productions p ls

of_plain : (n : Part) (m : Made Terminal Part Lexeme carrier n) (ms : List (Made Terminal Part Lexeme carrier n)) → IsOneOf m ms →
    IsOneOf m.symbols (map (λ (q : Made Terminal Part Lexeme carrier n). q.symbols) ms)
of_plain n m [] h = absurd h
of_plain n m (q ∷ ms) (inl e) = inl (ap (λ q. q.symbols) e)
of_plain n m (q ∷ ms) (inr h) = inr (of_plain n m ms h)

production : (n : Part) (m : Made Terminal Part Lexeme carrier n) → IsOneOf m (made n) → IsOneOf m.symbols (productions n)
production n m h = subst (λ (ps : List Symbols). IsOneOf m.symbols ps) (same_made Terminal Part Lexeme carrier productions makes n) (of_plain n m (made n) h)

mutual
  part_derived : (n : Part) (ls us : List Lexeme) (v : carrier n) (q : Symbols) → Reads n ls us v → Derives q us → Derives (S.Part n ∷ q) ls
  part_derived n ls us _ q (R.by m one vs r) d = D.part m.symbols (production n m one) (all_derived m.symbols ls us vs q r d)

  all_derived : (p : Symbols) (ls us : List Lexeme) (vs : Parts Terminal Part Lexeme carrier p) (q : Symbols) → R.ReadsAll takes carrier made p ls us vs → Derives q us → Derives (p ++ q) ls
  all_derived [] ls us _ q R.nothing d = d
  all_derived (S.Token t ∷ p) (l ∷ ls) us _ q (R.token {vs} e r) d = D.token e (all_derived p ls us vs q r d)
  all_derived (S.Token t ∷ p) (l ∷ ls) us _ q (R.piece {vs} half k e r) d = D.piece half k e (all_derived p (k ∷ ls) us vs q r d)
  all_derived (S.Part n ∷ p) ls us _ q (R.part {ms} {v} {vs} r rs) d = part_derived n ls ms v (p ++ q) r (all_derived p ms us vs q rs d)

-- lexemes that are read as a text begin one
pub viable : (ls : List Lexeme) (v : carrier N.Text) → Reads N.Text ls [] v → D.IsViable takes productions (S.Part N.Text ∷ []) ls
viable ls v r = ([], subst (λ (ms : List Lexeme). Derives (S.Part N.Text ∷ []) ms) (sym (append-nil ls)) (part_derived N.Text ls [] v [] r D.nothing))
