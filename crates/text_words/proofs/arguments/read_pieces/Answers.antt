use Rattle.std.proofs.Common.{sym, subst, map}
use Rattle.std.specs.String.{string_bytes}
use Rattle.pure_ast.specs.Types.{PTy}
use Rattle.text_words.specs.ValueWords.{IsPiece}
use Rattle.text_words.proofs.ArgumentLists.{item_at, pieces_next, pieces_bad, match_none, match_some}
use Rattle.text_words.proofs.arguments.read_pieces.Goals as goal

pub returns-in-None : goal.returns-in-None
returns-in-None c =
    let found = item_at string_bytes c.args.pieces.now c.loop-piece.piece-index c.piece-item.result c.loop-piece-test.true c.piece-item.is in
    let none = match_none c.in_ok-ty.field-0 ((t : PTy) → IsPiece c.args.defs.now c.as_str.result.now t → ⊥) (λ t. IsPiece c.args.defs.now c.as_str.result.now t) c.in-None.is c.in_ok-ty.ensures in
    pieces_bad c.args.defs.now (map string_bytes c.args.pieces.now) c.loop-piece.piece-index (string_bytes c.piece-item.result) found
    (λ t w. none t (subst (λ x. IsPiece c.args.defs.now x t) (sym c.as_str.ensures.value) w))

pub loop-piece-preserved : goal.loop-piece-preserved
loop-piece-preserved c =
    let found = item_at string_bytes c.args.pieces.now c.loop-piece.piece-index c.piece-item.result c.loop-piece-test.true c.piece-item.is in
    let is = match_some c.in_ok-ty.field-0 c.in-Some.ty ((t : PTy) → IsPiece c.args.defs.now c.as_str.result.now t → ⊥) (λ t. IsPiece c.args.defs.now c.as_str.result.now t) c.in-Some.is c.in_ok-ty.ensures in
    pieces_next c.args.defs.now (map string_bytes c.args.pieces.now) c.loop-piece.piece-index c.loop-piece.args c.push.new.self (string_bytes c.piece-item.result) c.in-Some.ty
    found c.loop-piece.invariant (subst (λ x. IsPiece c.args.defs.now x c.in-Some.ty) c.as_str.ensures.value is) c.in_ok-push-in-Some.ensures.ok
