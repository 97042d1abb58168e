-- What is made of trees that keep what is kept keeps it too.
use Rattle.std.proofs.Common.{ℕ, Bool, true, false, if◌then◌else◌, List, [], ◌∷◌, Option, Some, None}
use Rattle.aen_base.specs.declared.span.Span.{Span}
use Rattle.aen_base.specs.declared.int_ty.IntTy.{IntTy}
use Rattle.source_grammar.specs.declared.class.Class.{Class}
use Rattle.source_grammar.specs.declared.class.Class.TheVariants as C
use Rattle.source_grammar.specs.declared.part.Listed.{Listed}
use Rattle.source_grammar.specs.declared.part.Listed.TheVariants as Of
use Rattle.rust_ast.specs.declared.ident.Ident.{Ident}
use Rattle.rust_ast.specs.Patterns as suffixes
use Rattle.rust_ast.specs.Source as s
use Rattle.rust_ast.specs.SourceTypes as t
use Rattle.rust_ast.specs.SourcePatterns as p
use Rattle.source_ways.specs.declared.clauses.Body.{Body}
use Rattle.source_ways.specs.declared.clauses.Condition.{Condition}
use Rattle.source_ways.specs.declared.clauses.Condition.TheVariants as condition
use Rattle.source_ways.specs.declared.constructors.Given.{Given}
use Rattle.source_ways.specs.declared.constructors.Given.TheVariants as given
use Rattle.source_ways.specs.declared.operations.Operation.{Operation}
use Rattle.source_ways.specs.declared.operations.Join.{Join}
use Rattle.source_ways.specs.declared.operations.Join.TheVariants as by
use Rattle.source_ways.specs.Carriers.{Field}
use Rattle.source_ways.specs.Spans.{from_to, same_span}
use Rattle.source_ways.specs.Says.{is_class}
use Rattle.source_ways.specs.Types.{enclosed_type}
use Rattle.source_ways.specs.PathNodes.{built_in}
use Rattle.source_ways.specs.Patterns.{enclosed_pattern, with_parts, field_of}
use Rattle.source_ways.specs.Blocks.{run, choice, otherwise, leaving, only_value}
use Rattle.source_ways.specs.Operators.{join_of, joined_by, joined, to_the_left, cast_to, fields_of, negated}
use Rattle.source_ways.specs.Expressions.{enclosed, value_of}
use Rattle.source_ways.specs.Items.{fields_in_braces}
use Rattle.print_lexed.proofs.Spellable.{IsName, IsSize, IsType, AreTypes, IsPath, IsPattern, IsFieldPattern, ArePatterns, IsExpr, IsMaybe, IsBlock, AreExprs, IsStmt, IsWhile, AreFields, HasFields}
use Rattle.print_lexed.proofs.LexedExpressions.{asked_by, matched_by}
use Rattle.print_lexed.proofs.Keeps.{AreListed, IsBody, IsRest, IsAsked, IsElse, AreOperations, ArePlaces, IsParts, IsMaybePattern}

pub none_listed : (x : Listed) → AreListed x []
none_listed Of.Names = tt
none_listed Of.TypeNames = tt
none_listed Of.Parameters = tt
none_listed Of.Fields = tt
none_listed Of.TupleFields = tt
none_listed Of.Variants = tt
none_listed Of.TypesInAngles = tt
none_listed Of.Types = tt
none_listed Of.Arguments = tt
none_listed Of.Initials = tt
none_listed Of.Patterns = tt
none_listed Of.FieldPatterns = tt

pub fields_kept : (fields : List Field) → AreFields fields → HasFields (fields_in_braces fields)
fields_kept [] k = tt
fields_kept (field ∷ fields) k = k

-- ---- what stands in brackets

pub type_kept : (whole : Span) (tys : List t.Written) → AreTypes (t.writtens tys) → IsType (enclosed_type whole tys)
type_kept whole [] k = tt
type_kept whole (ty ∷ []) k = k.0
type_kept whole (ty ∷ (next ∷ more)) k = k

pub pattern_kept : (whole : Span) (pats : List p.Pat) → ArePatterns (p.pats pats) → IsPattern (enclosed_pattern whole pats)
pattern_kept whole [] k = tt
pattern_kept whole (pat ∷ []) k = k.0
pattern_kept whole (pat ∷ (next ∷ more)) k = k

pub enclosed_kept : (whole : Span) (parts : List s.Expr) → AreExprs (s.exprs parts) → IsExpr (enclosed whole parts)
enclosed_kept whole [] k = tt
enclosed_kept whole (e ∷ []) k = k.0
enclosed_kept whole (e ∷ (next ∷ more)) k = k

-- ---- names

pub two_names : (first second : Ident) → IsName first.name → IsName second.name → IsPath (t.two first t.no_turbo second)
two_names first second n m = (n, (tt, m))

pub names_and_types : (first : Ident) (tys : t.Writtens) (second : Ident) → IsName first.name → AreTypes tys → IsName second.name → IsPath (t.two first (t.turbo tys) second)
names_and_types first tys second n k m = (n, (k, m))

pub built_in_kept : (class : Class) (path mem : Span) (after_std : Bool) → IsPath (built_in class path mem after_std)
built_in_kept class path mem after_std = by_test (is_class class C.Swap) where
  by_test : (b : Bool) → IsPath (if b then t.mem_swap path mem after_std else t.mem_replace path mem after_std)
  by_test true = tt
  by_test false = tt

pub value_kept : (name : Ident) (value : Option s.Expr) → IsName name.name → IsMaybe (s.maybeexpr value) → IsExpr (value_of name value)
value_kept name None n k = n
value_kept name (Some e) n k = k

-- ---- patterns

pub parts_kept : (whole : Span) (path : t.Path) (parts : Given) → IsPath path → IsParts parts → IsPattern (with_parts whole path parts)
parts_kept whole path (given.Placed pats) ok k = (ok, k)
parts_kept whole path (given.Named fields) ok k = (ok, k)

pub field_pattern_kept : (name : Ident) (pat : Option p.Pat) → IsName name.name → IsMaybePattern pat → IsFieldPattern (field_of name pat)
field_pattern_kept name None n k = n
field_pattern_kept name (Some pat) n k = (n, k)

-- ---- blocks

pub run_kept : (e : s.Expr) (semicolon : Bool) (rest : Option Body) → IsExpr e → IsStmt (s.run e semicolon) → IsRest rest → IsBody (run e semicolon rest)
run_kept e semicolon None k one r = (tt, k)
run_kept e semicolon (Some body) k one r = ((one, r.0), r.1)

else_kept : (whole : Span) (other : Option s.Expr) → IsElse other → IsExpr (otherwise whole other)
else_kept whole None k = (tt, tt)
else_kept whole (Some e) k = k

pub if_kept : (whole : Span) (asked : Condition) (body : s.Block) (other : Option s.Expr) → IsAsked asked → IsBlock body → IsElse other →
    IsExpr (choice whole asked body (otherwise whole other))
if_kept whole (condition.Holds e) body other a b k = (a, (b, else_kept whole other k))
if_kept whole (condition.Matches pat e) body other a b k = (a.0, (a.1, (b, else_kept whole other k)))

pub while_kept : (whole : Span) (asked : Condition) (body : s.Block) → IsAsked asked → IsBlock body → IsWhile (only_value whole (choice whole asked body (leaving whole asked)))
while_kept whole (condition.Holds e) body a b = λ more m. asked_by e body a b m
while_kept whole (condition.Matches pat e) body a b = λ more m. matched_by pat e body a.0 a.1 b m

-- ---- operators

joined_kept : (join : Join) (span : Span) (a b : s.Expr) → IsExpr a → IsExpr b → IsExpr (joined_by join span a b)
joined_kept by.Either span a b k j = (k, j)
joined_kept by.Both span a b k j = (k, j)
joined_kept (by.Compare op) span a b k j = (k, j)
joined_kept (by.Binary op) span a b k j = (k, j)
joined_kept (by.Update op) span a b k j = (k, j)
joined_kept by.Assign span a b k j = (k, j)

pub grouped_kept : (lo : ℕ) (e : s.Expr) (os : List Operation) → IsExpr e → AreOperations os → IsExpr (to_the_left lo e os)
grouped_kept lo e [] k j = k
grouped_kept lo e (o ∷ os) k j =
    grouped_kept lo (joined o.operator (from_to lo o.hi) e o.right) os (joined_kept (join_of o.operator) (from_to lo o.hi) e o.right k j.0) j.1

pub cast_kept : (lo : ℕ) (e : s.Expr) (cs : List (Span × IntTy)) → IsExpr e → IsExpr (cast_to lo e cs)
cast_kept lo e [] k = k
cast_kept lo e (c ∷ cs) k = cast_kept lo (s.cast (from_to lo c.0.hi) e c.1) cs k

pub places_kept : (lo : ℕ) (e : s.Expr) (fs : List Ident) → IsExpr e → ArePlaces fs → IsExpr (fields_of lo e fs)
places_kept lo e [] k j = k
places_kept lo e (f ∷ fs) k j = places_kept lo (s.field (from_to lo f.span.hi) e f.span f.name) fs (k, j.0) j.1

number_kept : (b : Bool) (whole span : Span) (size : ℕ) (end : suffixes.Suffix) → IsSize size → IsExpr (if b then s.number whole true size end else s.minus whole (s.number span false size end))
number_kept true whole span size end k = k
number_kept false whole span size end k = k

pub negated_kept : (whole operand : Span) (e : s.Expr) → IsExpr e → IsExpr (negated whole operand e)
negated_kept whole operand (s.number span false size a3) k = number_kept (same_span span operand) whole span size a3 k
negated_kept whole operand (s.number a0 true a2 a3) k = k
negated_kept whole operand (s.truth a0 a1) k = k
negated_kept whole operand (s.tuple a0 a1) k = k
negated_kept whole operand (s.inner a0) k = k
negated_kept whole operand (s.branch a0 a1 a2 a3) k = k
negated_kept whole operand (s.select a0 a1 a2) k = k
negated_kept whole operand (s.let_branch a0 a1 a2 a3 a4) k = k
negated_kept whole operand (s.forever a0 a1 a2) k = k
negated_kept whole operand (s.panic a0) k = k
negated_kept whole operand (s.path a0 a1) k = k
negated_kept whole operand (s.call a0 a1 a2 a3) k = k
negated_kept whole operand (s.literal a0 a1 a2 a3) k = k
negated_kept whole operand (s.field a0 a1 a2 a3) k = k
negated_kept whole operand (s.minus a0 a1) k = k
negated_kept whole operand (s.negation a0 a1) k = k
negated_kept whole operand (s.deref a0 a1) k = k
negated_kept whole operand (s.borrow a0 a1 a2) k = k
negated_kept whole operand (s.binary a0 a1 a2 a3) k = k
negated_kept whole operand (s.compare a0 a1 a2 a3) k = k
negated_kept whole operand (s.both a0 a1 a2) k = k
negated_kept whole operand (s.either a0 a1 a2) k = k
negated_kept whole operand (s.cast a0 a1 a2) k = k
negated_kept whole operand (s.assign a0 a1 a2) k = k
negated_kept whole operand (s.update a0 a1 a2 a3) k = k
negated_kept whole operand (s.give a0 a1) k = k
negated_kept whole operand (s.leave a0 a1) k = k
negated_kept whole operand (s.go_on a0) k = k
