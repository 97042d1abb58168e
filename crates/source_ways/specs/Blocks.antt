-- How blocks, statements and what is like a block are read (LANGUAGE.md, "Grammar", "Read as").
-- All that is made up has the span of the whole.
use Rattle.std.specs.Prelude.{Bool, true, false, List, [], ◌∷◌, Option, Some, None}
use Rattle.aen_base.specs.declared.span.Span.{Span}
use Rattle.source_grammar.specs.declared.lexeme.Lexeme.{Lexeme}
use Rattle.rust_ast.specs.Source as s
use Rattle.rust_ast.specs.SourceTypes as t
use Rattle.rust_ast.specs.SourcePatterns as p
use Rattle.source_ways.specs.declared.clauses.Body.{Body}
use Rattle.source_ways.specs.declared.clauses.Condition.{Condition}
use Rattle.source_ways.specs.declared.clauses.Condition.TheVariants as condition
use Rattle.source_ways.specs.declared.clauses.Conditional.{Conditional}
use Rattle.source_ways.specs.declared.clauses.ArmBody.{ArmBody}
use Rattle.source_ways.specs.declared.spanned.Spanned.{Spanned}
use Rattle.source_ways.specs.Spans.{join, span_of}

abbrev pub block_of : Span → Body → s.Block
block_of whole body = s.block whole (s.stmts body.statements) (s.maybeexpr body.value)

-- `{}`, and a block of an expression alone
abbrev pub no_block : Span → s.Block
no_block whole = block_of whole (record { statements = []; value = None })

abbrev pub only_value : Span → s.Expr → s.Block
only_value whole value = block_of whole (record { statements = []; value = Some value })

-- ---- statements

abbrev pub block : Span → Lexeme → Spanned Body → s.Block
block whole brace body = block_of whole body.value

abbrev pub ended : Span → Lexeme → Body
ended whole brace = record { statements = []; value = None }

abbrev pub before : s.Stmt → Body → Body
before statement body = record { statements = statement ∷ body.statements; value = body.value }

-- a `let` ends where its pattern, type and value end
abbrev pub let_of : Lexeme → Spanned p.Pat → Spanned (Option t.Written) → Spanned (Option s.Expr) → Spanned Body → Body
let_of word pat ty value rest =
    before
    (s.bind (span_of (join (Some word.span) (join pat.extent (join ty.extent value.extent)))) pat.value (t.maybewritten ty.value) (s.maybeexpr value.value))
    rest.value

abbrev pub let_statement : Span → Lexeme → Spanned p.Pat → Spanned (Option t.Written) → Spanned (Option s.Expr) → Lexeme → Spanned Body → Body
let_statement whole word pat ty value semicolon rest = let_of word pat ty value rest

-- an expression with nothing after it is the block's value
abbrev pub run : s.Expr → Bool → Option Body → Body
run e semicolon None = record { statements = []; value = Some e }
run e semicolon (Some body) = before (s.run e semicolon) body

abbrev pub block_like_first : Span → Spanned s.Expr → Spanned (Option Body) → Body
block_like_first whole e rest = run e.value false rest.value

abbrev pub expression_first : Span → Spanned s.Expr → Spanned (Option Body) → Body
expression_first whole e rest = run e.value true rest.value

-- ---- `match`, `loop`, `while`, `if`

abbrev pub inner_block : Span → Spanned s.Block → s.Expr
inner_block whole b = s.inner b.value

abbrev pub match_expression : Span → Lexeme → Spanned s.Expr → Lexeme → Spanned (List (p.Pat × s.Expr)) → s.Expr
match_expression whole word scrutinee brace arms = s.select whole scrutinee.value (s.arms arms.value)

abbrev pub loop_expression : Span → Lexeme → Spanned s.Block → s.Expr
loop_expression whole word body = s.forever whole false body.value

abbrev pub holds : Spanned s.Expr → Spanned s.Block → Option s.Expr → Conditional
holds e body other = record { condition = condition.Holds e.value; body = body.value; otherwise = other }

abbrev pub matches : Spanned p.Pat → Spanned s.Expr → Spanned s.Block → Option s.Expr → Conditional
matches pat e body other = record { condition = condition.Matches pat.value e.value; body = body.value; otherwise = other }

-- one of two, by a condition or by whether a pattern matches
abbrev pub choice : Span → Condition → s.Block → s.Expr → s.Expr
choice whole (condition.Holds e) body other = s.branch whole e body other
choice whole (condition.Matches pat e) body other = s.let_branch whole pat e (s.inner body) other

-- without `else` there is `{}`
abbrev pub otherwise : Span → Option s.Expr → s.Expr
otherwise whole None = s.inner (no_block whole)
otherwise whole (Some other) = other

abbrev pub if_expression : Span → Lexeme → Spanned Conditional → s.Expr
if_expression whole word c = choice whole c.value.condition c.value.body (otherwise whole c.value.otherwise)

-- `while c B` is `loop { if c B else { break } }`, `while let p = e B` is `loop { match e { p => B, _ => break } }`
abbrev pub leaving : Span → Condition → s.Expr
leaving whole (condition.Holds e) = s.inner (only_value whole (s.leave whole s.no_maybeexpr))
leaving whole (condition.Matches pat e) = s.leave whole s.no_maybeexpr

abbrev pub while_expression : Span → Lexeme → Spanned Conditional → s.Expr
while_expression whole word c =
    s.forever whole true (only_value whole (choice whole c.value.condition c.value.body (leaving whole c.value.condition)))

-- `assert!(e)` is `if e {} else { panic!() }`
abbrev pub asserted : Span → s.Expr → s.Expr
asserted whole e = s.branch whole e (no_block whole) (s.inner (only_value whole (s.panic whole)))

-- ---- arms

abbrev pub arm : Span → Spanned p.Pat → Lexeme → Spanned ArmBody → List (p.Pat × s.Expr)
arm whole pat mark body = (pat.value, body.value.body) ∷ body.value.more

abbrev pub arm_body : Span → Spanned s.Expr → Spanned (List (p.Pat × s.Expr)) → ArmBody
arm_body whole body more = record { body = body.value; more = more.value }
