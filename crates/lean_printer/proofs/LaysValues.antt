-- A term that stands alone as a text is lexed as its tokens.
use Rattle.std.proofs.Common.{refl, subst, List, [], ◌++◌, ℕ, append-nil}
use Rattle.pure_ast.specs.declared.def.Defs.{Defs}
use Rattle.pure_ast.specs.Terms.{Term}
use Rattle.text_meaning.specs.Lexing.{Lexed}
use Rattle.text_meaning.specs.ShownTerms.{term_text}
use Rattle.text_meaning.specs.SpelledTerms.{term_tokens}
use Rattle.text_meaning.specs.Tokens.{Token}
use Rattle.text_meaning.specs.WellFormed.{IsWellFormed}
use Rattle.text_meaning.specs.WellFormedTerms.{IsTerm}
use Rattle.lean_printer.proofs.KnownNames.{known}
use Rattle.lean_printer.proofs.LaysTerms.{term_lays}

-- nothing follows
alone : (ts : List Token) (text : List ℕ) → Lexed (ts ++ []) (text ++ []) → Lexed ts text
alone ts text h = subst (λ w. Lexed ts w) (append-nil text) (subst (λ us. Lexed us (text ++ [])) (append-nil ts) h)

pub term_lexed : (d : Defs) (t : Term) → IsWellFormed d → IsTerm d t → Lexed (term_tokens d t) (term_text d t)
term_lexed d t formed h =
    let lays = term_lays d (known d formed) t h in
    alone (term_tokens d t) (term_text d t) (lays.run [] [] refl refl)
