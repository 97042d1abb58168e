-- What lexemes are read as a program comes to.
use Rattle.std.proofs.Common.{◌≡◌, sym, ap, ◌∙◌, subst, inl, inr, ℕ, List, [], ◌∷◌, ◌++◌, map, Option, Some, None, MatchOption, Result, Ok, MatchResult}
use Rattle.std.proofs.lemmas.List.{append-nil}
use Rattle.aen_base.specs.declared.limits.Which.{Which}
use Rattle.aen_base.specs.declared.span.Span.{Span}
use Rattle.table_reader.specs.declared.symbol.Symbol.{Symbol}
use Rattle.table_reader.specs.declared.symbol.Symbol.TheVariants as S
use Rattle.table_reader.specs.Derivations as D
use Rattle.table_reader.specs.Derivations.{IsOneOf}
use Rattle.table_reader.specs.Reading as R
use Rattle.table_reader.specs.Reading.{Made}
use Rattle.rust_lex.specs.declared.token.Token.{Token}
use Rattle.source_grammar.specs.declared.lexeme.Lexeme.{Lexeme}
use Rattle.source_grammar.specs.declared.terminal.Terminal.{Terminal}
use Rattle.source_grammar.specs.declared.part.Part.{Part}
use Rattle.source_grammar.specs.declared.part.Part.TheVariants as N
use Rattle.source_grammar.specs.Lexemes.{takes}
use Rattle.source_grammar.specs.Productions.{productions}
use Rattle.source_syntax.specs.Refusals as syntax
use Rattle.source_ways.specs.Carriers.{Carrier, Values}
use Rattle.source_ways.specs.Reading.{Reads, made}
use Rattle.source_ways.specs.Made.{same_productions}
use Rattle.source_values.specs.declared.value.Value.{Value}
use Rattle.source_values.specs.declared.value.Value.TheVariants as V
use Rattle.source_values.specs.Held.{held}
use Rattle.source_values.specs.Stacked.{Is}
use Rattle.rust_ast.specs.declared.program.Program.{Program}
use Rattle.rust_reader.specs.Answers.{IsRead}

abbrev Symbols : Type 0
Symbols = List (Symbol Terminal Part)

abbrev Derives : Symbols → List Lexeme → Type 0
Derives p ls = D.Derives takes productions p ls

abbrev IsPart : (n : Part) → List Lexeme → List Lexeme → Carrier n → Type 0
IsPart n ls us v = R.Reads takes Carrier made n ls us v

of_plain : (n : Part) (m : Made Terminal Part Lexeme Carrier n) (ms : List (Made Terminal Part Lexeme Carrier n)) → IsOneOf m ms →
    IsOneOf m.symbols (map (λ (q : Made Terminal Part Lexeme Carrier n). q.symbols) ms)
of_plain n m [] h = absurd h
of_plain n m (q ∷ ms) (inl e) = inl (ap (λ q. q.symbols) e)
of_plain n m (q ∷ ms) (inr h) = inr (of_plain n m ms h)

production : (n : Part) (m : Made Terminal Part Lexeme Carrier n) → IsOneOf m (made n) → IsOneOf m.symbols (productions n)
production n m h = subst (λ (ps : List Symbols). IsOneOf m.symbols ps) (same_productions n) (of_plain n m (made n) h)

-- what is read is derived, before what derives what is left
mutual
  part_derived : (n : Part) (ls us : List Lexeme) (v : Carrier n) (q : Symbols) → IsPart n ls us v → Derives q us → Derives (S.Part n ∷ q) ls
  part_derived n ls us _ q (R.by m one vs r) d = D.part m.symbols (production n m one) (all_derived m.symbols ls us vs q r d)

  all_derived : (p : Symbols) (ls us : List Lexeme) (vs : Values p) (q : Symbols) → R.ReadsAll takes Carrier made p ls us vs → Derives q us → Derives (p ++ q) ls
  all_derived [] ls us _ q R.nothing d = d
  all_derived (S.Token t ∷ p) (l ∷ ls) us _ q (R.token {vs} e r) d = D.token e (all_derived p ls us vs q r d)
  all_derived (S.Token t ∷ p) (l ∷ ls) us _ q (R.piece {vs} half k e r) d = D.piece half k e (all_derived p (k ∷ ls) us vs q r d)
  all_derived (S.Part n ∷ p) ls us _ q (R.part {ms} {v} {vs} r rs) d = part_derived n ls ms v (p ++ q) r (all_derived p ms us vs q rs d)

pub derived : (ls : List Lexeme) (v : Carrier N.Program) → IsPart N.Program ls [] v → syntax.IsProgram ls
derived ls v r = part_derived N.Program ls [] v [] r D.nothing

-- a program before a lexical fault
pub at_lexical : (ls : List Lexeme) (bad : Option Span) (end : ℕ) (span : Span) (value : Value) → R.IsReadAs takes Carrier made held N.Program ls value →
    bad ≡ Some span → syntax.IsSyntaxFault ls bad end span
at_lexical ls bad end span value h b =
    syntax.lexical ([], subst syntax.IsProgram (sym (append-nil ls)) (derived ls h.carried h.reads)) b

-- the value is that of a program
pub holds_items : (ls : List Lexeme) (value : Value) → R.IsReadAs takes Carrier made held N.Program ls value → Is V.Items value
holds_items ls value h = record { value = h.carried; is = h.holds }

-- and no other program is read
other_is : (ls : List Lexeme) (p q : Program) (v : Carrier N.Program) → ((w : Carrier N.Program) → IsPart N.Program ls [] w → w ≡ v) → p ≡ record { items = v.value } →
    Reads ls q → q ≡ p
other_is ls p q v alone e r = r.1.1 ∙ (ap (λ (w : Carrier N.Program). let x : Program = record { items = w.value } in x) (alone r.0 r.1.0) ∙ sym e)

pub found : (ls : List Lexeme) (bad : Option Span) (p : Program) (value : Value) (r : Result Value ℕ) →
    MatchResult r (R.IsReadAs takes Carrier made held N.Program ls) (D.IsFault takes productions syntax.program ls) → r ≡ Ok value →
    ((v : Carrier N.Program) → value ≡ held N.Program v → p ≡ record { items = v.value }) → bad ≡ None →
    (bad ≡ None) × syntax.IsProgram ls × Reads ls p × ((q : Program) → Reads ls q → q ≡ p)
found ls bad p value r read ok is none =
    let h : R.IsReadAs takes Carrier made held N.Program ls value =
    subst (λ (x : Result Value ℕ). MatchResult x (R.IsReadAs takes Carrier made held N.Program ls) (D.IsFault takes productions syntax.program ls)) ok read in
    let e : p ≡ record { items = h.carried.value } = is h.carried h.holds in
    (none, derived ls h.carried h.reads, (h.carried, (h.reads, e)), λ q r. other_is ls p q h.carried h.only e r)

-- no limit is passed
pub within : (ls : List Lexeme) (o : Option (Which × ℕ)) → MatchOption o (syntax.KeepsLimits ls) (λ (which, n). syntax.IsPassed ls which n) → o ≡ None → syntax.KeepsLimits ls
within ls o h e = subst (λ (x : Option (Which × ℕ)). MatchOption x (syntax.KeepsLimits ls) (λ (which, n). syntax.IsPassed ls which n)) e h

-- the program of tokens that are these lexemes, without excluded words and within the limits
pub kept : (end : ℕ) (ts : List Token) (ls all : List Lexeme) (bad : Option Span) (p : Program) (r : Result Program Span) → ls ≡ all →
    syntax.first_excluded ts ≡ None → syntax.KeepsLimits ls → IsRead ls bad end r → r ≡ Ok p →
    syntax.IsKept ts all bad × Reads all p × ((q : Program) → Reads all q → q ≡ p)
kept end ts ls all bad p r e words limits read ok =
    let h : IsRead ls bad end (Ok p) = subst (λ (x : Result Program Span). IsRead ls bad end x) ok read in
    subst (λ (ms : List Lexeme). syntax.IsKept ts ms bad × Reads ms p × ((q : Program) → Reads ms q → q ≡ p)) e ((words, limits, h.0, h.1), h.2, h.3)
