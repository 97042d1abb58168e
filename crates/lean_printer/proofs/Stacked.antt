-- A stack of pieces with one more on it.
use Rattle.std.proofs.Common.{◌≡◌, refl, ap, sym, ◌∙◌, ℕ, ◌+◌, ◌<◌, ◌≤◌, List, [], ◌∷◌, ◌++◌, append_assoc, append-nil, arith}
use Rattle.pure_ast.specs.declared.def.Defs.{Defs}
use Rattle.lean_printer.specs.declared.values.Piece.{Piece}
use Rattle.lean_printer.specs.Pieces.{piece_text, pieces_text, piece_cost, pieces_cost}

pub pushed_text : (defs : Defs) (old : List Piece) (p : Piece) → pieces_text defs (old ++ p ∷ []) ≡ piece_text defs p ++ pieces_text defs old
pushed_text defs [] p = sym (append-nil (piece_text defs p))
pushed_text defs (q ∷ old) p =
    ap (λ l. l ++ piece_text defs q) (pushed_text defs old p) ∙ append_assoc (piece_text defs p) (pieces_text defs old) (piece_text defs q)

pub pushed_cost : (old : List Piece) (p : Piece) → pieces_cost (old ++ p ∷ []) ≡ piece_cost p + pieces_cost old
pushed_cost [] p = refl
pushed_cost (q ∷ old) p = let h = pushed_cost old p in omega (arith, h)

-- two more on it
pub both_text : (defs : Defs) (old mid new : List Piece) (p q : Piece) → mid ≡ old ++ p ∷ [] → new ≡ mid ++ q ∷ [] →
    pieces_text defs new ≡ piece_text defs q ++ (piece_text defs p ++ pieces_text defs old)
both_text defs old mid new p q a b =
    ap (pieces_text defs) b ∙ pushed_text defs mid q ∙ ap (λ l. piece_text defs q ++ l) (ap (pieces_text defs) a ∙ pushed_text defs old p)

pub both_cost : (old mid new : List Piece) (p q : Piece) → mid ≡ old ++ p ∷ [] → new ≡ mid ++ q ∷ [] →
    pieces_cost new ≡ piece_cost q + (piece_cost p + pieces_cost old)
both_cost old mid new p q a b =
    ap pieces_cost b ∙ pushed_cost mid q ∙ ap (λ n. piece_cost q + n) (ap pieces_cost a ∙ pushed_cost old p)

-- a turn: the newest piece is taken off, and is printed in part
pub turn_text : (defs : Defs) (out more whole : List ℕ) (stack rest new : List Piece) (p : Piece) → stack ≡ rest ++ p ∷ [] →
    more ++ pieces_text defs new ≡ out ++ (piece_text defs p ++ pieces_text defs rest) → out ++ pieces_text defs stack ≡ whole →
    more ++ pieces_text defs new ≡ whole
turn_text defs out more whole stack rest new p a b c =
    b ∙ ap (λ l. out ++ l) (sym (ap (pieces_text defs) a ∙ pushed_text defs rest p)) ∙ c

pub turn_cost : (stack rest new : List Piece) (p : Piece) → stack ≡ rest ++ p ∷ [] → pieces_cost new + 1 ≤ piece_cost p + pieces_cost rest →
    pieces_cost new < pieces_cost stack
turn_cost stack rest new p a b = let h = ap pieces_cost a ∙ pushed_cost rest p in omega (arith, h, b)
