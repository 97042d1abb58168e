-- A fault of lexemes is where the source leaves the grammar.
use Rattle.std.specs.Prelude.{◌≡◌, ℕ, ◌<◌, ◌≤◌, List, Option, Some, None, length, slice_get}
use Rattle.std.proofs.Common.{arith, subst, sym, ◌∙◌, inl, inr, get_or}
use Rattle.std.proofs.Math.Seq.{take_all}
use Rattle.std.proofs.lemmas.Option.{slice_get_cases}
use Rattle.aen_base.specs.declared.span.Span.{Span}
use Rattle.source_grammar.specs.declared.lexeme.Lexeme.{Lexeme}
use Rattle.source_syntax.specs.Refusals.{IsProgram, IsViable, IsFault, IsSyntaxFault, token, lexical, unfinished}

got : (ls : List Lexeme) (k : ℕ) (l : Lexeme) → k < length ls → ((d : Lexeme) → l ≡ get_or ls k d) → slice_get ls k ≡ Some l
got ls k l h e = elim (slice_get_cases ls k).1 as (λ s. slice_get ls k ≡ Some l) [
  | inl p ↦ subst (λ (x : Lexeme). slice_get ls k ≡ Some x) (sym (e p.0 ∙ p.3)) p.2
  | inr p ↦ absurd (omega arith)
]

-- all lexemes are viable where the fault is past them
viable : (ls : List Lexeme) (k : ℕ) → IsFault ls k → length ls ≤ k → IsViable ls
viable ls k f h = subst IsViable (take_all k ls h) f.before

unread : (ls : List Lexeme) (k : ℕ) → IsFault ls k → length ls ≤ k → IsProgram ls → ⊥
unread ls k f h d = let w = f.within in f.ends (omega arith) d

pub at_token : (ls : List Lexeme) (bad : Option Span) (end k : ℕ) (l : Lexeme) → IsFault ls k → k < length ls → ((d : Lexeme) → l ≡ get_or ls k d) →
    IsSyntaxFault ls bad end l.span
at_token ls bad end k l f h e = token k f (got ls k l h e)

pub at_lexical : (ls : List Lexeme) (bad : Option Span) (end k : ℕ) (span : Span) → IsFault ls k → length ls ≤ k → bad ≡ Some span → IsSyntaxFault ls bad end span
at_lexical ls bad end k span f h b = lexical (viable ls k f h) b

pub at_end : (ls : List Lexeme) (bad : Option Span) (end k : ℕ) → IsFault ls k → length ls ≤ k → bad ≡ None → IsSyntaxFault ls bad end (record { lo = end; hi = end })
at_end ls bad end k f h b = unfinished (viable ls k f h) (unread ls k f h) b
