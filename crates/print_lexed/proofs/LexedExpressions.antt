-- The tokens of expressions, statements and blocks are lexed as themselves.
use Rattle.std.proofs.Common.{refl, Bool, true, false, List, ◌∷◌}
use Rattle.rust_ast.specs.Source as s
use Rattle.rust_ast.specs.SourceTypes as t
use Rattle.rust_ast.specs.SourcePatterns as p
use Rattle.source_grammar.specs.declared.class.Class.TheVariants as C
use Rattle.rust_printer.specs.Tok.{Tok, mark}
use Rattle.rust_printer.specs.Forms.{is_operand, is_core, is_leading}
use Rattle.rust_printer.specs.ExpressionTokens.{in_brackets_unless, type_of_let_tokens, expr_tokens, maybe_tokens, loop_tokens, block_tokens, value_tokens, stmt_tokens, given_tokens, exprs_tokens, arms_tokens, inits_tokens, stmts_tokens}
use Rattle.rust_printer.specs.PatternTokens.{pattern_tokens}
use Rattle.print_lexed.proofs.Sequences.{AreLexed, then_blank, then_dot}
use Rattle.print_lexed.proofs.LexedMarks.{dot_lexed}
use Rattle.print_lexed.proofs.LexedNumbers.{int_lexed}
use Rattle.print_lexed.proofs.LexedTypes.{then_mark, then_name, truth_lexed, mut_lexed, size_lexed, bin_lexed, update_lexed, cmp_lexed, type_lexed, turbo_lexed, path_lexed, panic_lexed}
use Rattle.print_lexed.proofs.LexedPatterns.{pattern_lexed}
use Rattle.print_lexed.proofs.Spellable.{IsPattern, IsLetType, IsExpr, IsMaybe, IsBlock, IsStmt, AreExprs, AreArms, AreInits, AreStmts}

abbrev Goes : (List Tok → List Tok) → Type 0
Goes toks = (more : List Tok) → AreLexed false more → AreLexed false (toks more)

bracketed : (b : Bool) (toks : List Tok → List Tok) → Goes toks → {more : List Tok} → AreLexed false more → AreLexed false (in_brackets_unless b toks more)
bracketed true toks g m = g _ m
bracketed false toks g m = then_mark C.OpenBracket refl refl (g _ (then_mark C.CloseBracket refl refl m))

let_type_lexed : (x : t.MaybeWritten) → IsLetType x → {more : List Tok} → AreLexed false more → AreLexed false (type_of_let_tokens x more)
let_type_lexed t.no_maybewritten k m = m
let_type_lexed (t.some_maybewritten ty) k m = then_mark C.Colon refl refl (type_lexed ty k m)

mutual
  pub expr_lexed : (x : s.Expr) → IsExpr x → {more : List Tok} → AreLexed false more → AreLexed false (expr_tokens x more)
  expr_lexed (s.number span negative size suffix) k m = size_lexed negative size suffix k m
  expr_lexed (s.truth span value) k m = truth_lexed value m
  expr_lexed (s.tuple span parts) k m = then_mark C.OpenBracket refl refl (exprs_lexed parts k (then_mark C.CloseBracket refl refl m))
  expr_lexed (s.inner b) k m = block_lexed b k m
  expr_lexed (s.branch span e b other) k m = then_mark C.If refl refl (then_mark C.OpenBracket refl refl (expr_lexed e k.0 (then_mark C.CloseBracket refl refl (block_lexed b k.1.0 (then_mark C.Else refl refl (expr_lexed other k.1.1 m))))))
  expr_lexed (s.select span e arms) k m = then_mark C.Match refl refl (then_mark C.OpenBracket refl refl (expr_lexed e k.0 (then_mark C.CloseBracket refl refl (then_mark C.OpenBrace refl refl (arms_lexed arms k.1 (then_mark C.CloseBrace refl refl m))))))
  expr_lexed (s.let_branch span pat e b other) k m =
      then_mark C.If refl refl (then_mark C.Let refl refl (pattern_lexed pat k.0 (then_mark C.Equals refl refl (then_mark C.OpenBracket refl refl (expr_lexed e k.1.0 (then_mark C.CloseBracket refl refl (expr_lexed b k.1.1.0 (then_mark C.Else refl refl (expr_lexed other k.1.1.1 m)))))))))
  expr_lexed (s.forever span true b) k m = k _ m
  expr_lexed (s.forever span false b) k m = loop_lexed b k m
  expr_lexed (s.panic span) k m = then_blank panic_lexed refl (then_mark C.Not refl refl (then_mark C.OpenBracket refl refl (then_mark C.CloseBracket refl refl m)))
  expr_lexed (s.path span path) k m = path_lexed path k m
  expr_lexed (s.call span path tys parts) k m = path_lexed path k.0 (turbo_lexed tys k.1.0 (then_mark C.OpenBracket refl refl (exprs_lexed parts k.1.1 (then_mark C.CloseBracket refl refl m))))
  expr_lexed (s.literal span name tys parts) k m = then_name name.name k.0 (turbo_lexed tys k.1.0 (then_mark C.OpenBrace refl refl (inits_lexed parts k.1.1 (then_mark C.CloseBrace refl refl m))))
  expr_lexed (s.field span e place name) k m = bracketed (is_core e) (expr_tokens e) (λ more n. expr_lexed e k.0 n) (then_dot dot_lexed (then_blank k.1 refl m))
  expr_lexed (s.minus span e) k m = then_mark C.Minus refl refl (then_mark C.OpenBracket refl refl (expr_lexed e k (then_mark C.CloseBracket refl refl m)))
  expr_lexed (s.negation span e) k m = then_mark C.Not refl refl (bracketed (is_operand e) (expr_tokens e) (λ more n. expr_lexed e k n) m)
  expr_lexed (s.deref span e) k m = then_mark C.Star refl refl (bracketed (is_operand e) (expr_tokens e) (λ more n. expr_lexed e k n) m)
  expr_lexed (s.borrow span mutable e) k m = then_mark C.And refl refl (mut_lexed mutable (bracketed (is_operand e) (expr_tokens e) (λ more n. expr_lexed e k n) m))
  expr_lexed (s.binary span op a b) k m = bracketed (is_operand a) (expr_tokens a) (λ more n. expr_lexed a k.0 n) (bin_lexed op (bracketed (is_operand b) (expr_tokens b) (λ more n. expr_lexed b k.1 n) m))
  expr_lexed (s.compare span op a b) k m = bracketed (is_operand a) (expr_tokens a) (λ more n. expr_lexed a k.0 n) (cmp_lexed op (bracketed (is_operand b) (expr_tokens b) (λ more n. expr_lexed b k.1 n) m))
  expr_lexed (s.both span a b) k m = bracketed (is_operand a) (expr_tokens a) (λ more n. expr_lexed a k.0 n) (then_mark C.AndAnd refl refl (bracketed (is_operand b) (expr_tokens b) (λ more n. expr_lexed b k.1 n) m))
  expr_lexed (s.either span a b) k m = bracketed (is_operand a) (expr_tokens a) (λ more n. expr_lexed a k.0 n) (then_mark C.BarBar refl refl (bracketed (is_operand b) (expr_tokens b) (λ more n. expr_lexed b k.1 n) m))
  expr_lexed (s.cast span e ty) k m = bracketed (is_operand e) (expr_tokens e) (λ more n. expr_lexed e k n) (then_mark C.As refl refl (then_blank (int_lexed ty) refl m))
  expr_lexed (s.assign span a b) k m = bracketed (is_operand a) (expr_tokens a) (λ more n. expr_lexed a k.0 n) (then_mark C.Equals refl refl (bracketed (is_operand b) (expr_tokens b) (λ more n. expr_lexed b k.1 n) m))
  expr_lexed (s.update span op a b) k m = bracketed (is_operand a) (expr_tokens a) (λ more n. expr_lexed a k.0 n) (update_lexed op (bracketed (is_operand b) (expr_tokens b) (λ more n. expr_lexed b k.1 n) m))
  expr_lexed (s.give span value) k m = then_mark C.Return refl refl (maybe_lexed value k m)
  expr_lexed (s.leave span value) k m = then_mark C.Break refl refl (maybe_lexed value k m)
  expr_lexed (s.go_on span) k m = then_mark C.Continue refl refl m

  maybe_lexed : (x : s.MaybeExpr) → IsMaybe x → {more : List Tok} → AreLexed false more → AreLexed false (maybe_tokens x more)
  maybe_lexed s.no_maybeexpr k m = m
  maybe_lexed (s.some_maybeexpr e) k m = expr_lexed e k m

  loop_lexed : (x : s.Block) → IsBlock x → {more : List Tok} → AreLexed false more → AreLexed false (loop_tokens false x more)
  loop_lexed (s.block span before value) k m = then_mark C.Loop refl refl (then_mark C.OpenBrace refl refl (stmts_lexed before k.0 (value_lexed value k.1 (then_mark C.CloseBrace refl refl m))))

  pub block_lexed : (x : s.Block) → IsBlock x → {more : List Tok} → AreLexed false more → AreLexed false (block_tokens x more)
  block_lexed (s.block span before value) k m = then_mark C.OpenBrace refl refl (stmts_lexed before k.0 (value_lexed value k.1 (then_mark C.CloseBrace refl refl m)))

  value_lexed : (x : s.MaybeExpr) → IsMaybe x → {more : List Tok} → AreLexed false more → AreLexed false (value_tokens x more)
  value_lexed s.no_maybeexpr k m = m
  value_lexed (s.some_maybeexpr e) k m = bracketed (is_leading e) (expr_tokens e) (λ more n. expr_lexed e k n) m

  stmt_lexed : (x : s.Stmt) → IsStmt x → {more : List Tok} → AreLexed false more → AreLexed false (stmt_tokens x more)
  stmt_lexed (s.run e true) k m = bracketed (is_operand e) (expr_tokens e) (λ more n. expr_lexed e k n) (then_mark C.Semicolon refl refl m)
  stmt_lexed (s.run e false) k m = expr_lexed e k (then_mark C.Semicolon refl refl m)
  stmt_lexed (s.bind span pat ty value) k m = then_mark C.Let refl refl (pattern_lexed pat k.0 (let_type_lexed ty k.1.0 (given_lexed value k.1.1 (then_mark C.Semicolon refl refl m))))

  given_lexed : (x : s.MaybeExpr) → IsMaybe x → {more : List Tok} → AreLexed false more → AreLexed false (given_tokens x more)
  given_lexed s.no_maybeexpr k m = m
  given_lexed (s.some_maybeexpr e) k m = then_mark C.Equals refl refl (expr_lexed e k m)

  exprs_lexed : (x : s.Exprs) → AreExprs x → {more : List Tok} → AreLexed false more → AreLexed false (exprs_tokens x more)
  exprs_lexed s.no_exprs k m = m
  exprs_lexed (s.more_exprs e rest) k m = expr_lexed e k.0 (then_mark C.Comma refl refl (exprs_lexed rest k.1 m))

  arms_lexed : (x : s.Arms) → AreArms x → {more : List Tok} → AreLexed false more → AreLexed false (arms_tokens x more)
  arms_lexed s.no_arms k m = m
  arms_lexed (s.more_arms pat e rest) k m = pattern_lexed pat k.0 (then_mark C.Gives refl refl (bracketed (is_leading e) (expr_tokens e) (λ more n. expr_lexed e k.1.0 n) (then_mark C.Comma refl refl (arms_lexed rest k.1.1 m))))

  inits_lexed : (x : s.Inits) → AreInits x → {more : List Tok} → AreLexed false more → AreLexed false (inits_tokens x more)
  inits_lexed s.no_inits k m = m
  inits_lexed (s.more_inits span name e rest) k m = then_name name k.0 (then_mark C.Colon refl refl (expr_lexed e k.1.0 (then_mark C.Comma refl refl (inits_lexed rest k.1.1 m))))

  stmts_lexed : (x : s.Stmts) → AreStmts x → {more : List Tok} → AreLexed false more → AreLexed false (stmts_tokens x more)
  stmts_lexed s.no_stmts k m = m
  stmts_lexed (s.more_stmts one rest) k m = stmt_lexed one k.0 (stmts_lexed rest k.1 m)

-- ---- what a `while` asks

pub asked_by : (e : s.Expr) (b : s.Block) → IsExpr e → IsBlock b → {more : List Tok} → AreLexed false more → AreLexed false (mark C.While ∷ mark C.OpenBracket ∷ expr_tokens e (mark C.CloseBracket ∷ block_tokens b more))
asked_by e b k j m = then_mark C.While refl refl (then_mark C.OpenBracket refl refl (expr_lexed e k (then_mark C.CloseBracket refl refl (block_lexed b j m))))

pub matched_by : (pat : p.Pat) (e : s.Expr) (b : s.Block) → IsPattern pat → IsExpr e → IsBlock b → {more : List Tok} → AreLexed false more →
    AreLexed false (mark C.While ∷ mark C.Let ∷ pattern_tokens pat (mark C.Equals ∷ mark C.OpenBracket ∷ expr_tokens e (mark C.CloseBracket ∷ block_tokens b more)))
matched_by pat e b i k j m = then_mark C.While refl refl (then_mark C.Let refl refl (pattern_lexed pat i (then_mark C.Equals refl refl (then_mark C.OpenBracket refl refl (expr_lexed e k (then_mark C.CloseBracket refl refl (block_lexed b j m)))))))
