-- What is kept by every program that is read: names that their places allow, and the forms that the grammar gives.
use Rattle.std.specs.Prelude.{◌≡◌, ◌⊎◌, ℕ, Bool, true, false, List, [], ◌∷◌, Option, Some, None}
use Rattle.aen_base.specs.declared.span.Span.{Span}
use Rattle.rust_ast.specs.declared.ident.Ident.{Ident}
use Rattle.rust_ast.specs.declared.program.Program.{Program}
use Rattle.rust_ast.specs.declared.program.Item.{Item}
use Rattle.rust_ast.specs.declared.program.Item.TheVariants as items
use Rattle.rust_ast.specs.declared.program.Param.{Param}
use Rattle.rust_ast.specs.declared.program.Fields.{Fields}
use Rattle.rust_ast.specs.declared.program.Fields.TheVariants as has_fields
use Rattle.rust_ast.specs.declared.program.Variant.{Variant}
use Rattle.rust_ast.specs.SourceTypes as t
use Rattle.rust_ast.specs.SourcePatterns as p
use Rattle.rust_ast.specs.Source as s
use Rattle.source_grammar.specs.declared.class.Class.TheVariants as C
use Rattle.source_grammar.specs.declared.terminal.Terminal.TheVariants as T
use Rattle.source_grammar.specs.Lexemes.{has_class}
use Rattle.source_grammar.specs.Spelled.{class_named}
use Rattle.source_ways.specs.Blocks.{only_value}
use Rattle.rust_printer.specs.Bare.{bare_expr, nowhere}
use Rattle.rust_printer.specs.Tok.{is_place}

-- no word
abbrev pub IsName : List ℕ → Type 0
IsName name = has_class T.Identifier (class_named name C.Other) ≡ true

-- two parts at least
abbrev pub AreTwoTypes : t.Writtens → Type 0
AreTwoTypes t.no_writtens = ⊥
AreTwoTypes (t.more_writtens ty t.no_writtens) = ⊥
AreTwoTypes (t.more_writtens ty (t.more_writtens next rest)) = Unit {0}

abbrev mutual
  pub IsType : t.Written → Type 0
  IsType (t.int span ty) = Unit {0}
  IsType (t.bool span) = Unit {0}
  IsType (t.unit span) = Unit {0}
  IsType (t.tuple span parts) = AreTwoTypes parts × AreTypes parts
  IsType (t.ref span life mutable ty) = IsType ty
  IsType (t.boxed span ty) = IsType ty
  IsType (t.named span name args) = IsName name.name × AreTypes args

  pub AreTypes : t.Writtens → Type 0
  AreTypes t.no_writtens = Unit {0}
  AreTypes (t.more_writtens ty rest) = IsType ty × AreTypes rest

abbrev pub IsTurbo : t.Turbo → Type 0
IsTurbo t.no_turbo = Unit {0}
IsTurbo (t.turbo tys) = AreTypes tys

-- not `mem::replace` or `mem::swap`
abbrev pub IsNoBuiltIn : List ℕ → List ℕ → Type 0
IsNoBuiltIn first second = class_named first C.Other ≡ C.Mem → has_class T.NotSwap (class_named second C.Other) ≡ true

abbrev pub IsPath : t.Path → Type 0
IsPath (t.one name) = IsName name.name
IsPath (t.two first tys second) = IsName first.name × (IsTurbo tys × (IsName second.name × (tys ≡ t.no_turbo → IsNoBuiltIn first.name second.name)))
IsPath path = Unit {0}

-- no parts, or two at least
abbrev pub AreNotOnePattern : p.Pats → Type 0
AreNotOnePattern p.no_pats = Unit {0}
AreNotOnePattern (p.more_pats pat p.no_pats) = ⊥
AreNotOnePattern (p.more_pats pat (p.more_pats next rest)) = Unit {0}

abbrev mutual
  pub IsPattern : p.Pat → Type 0
  IsPattern (p.wild span) = Unit {0}
  IsPattern (p.lone name) = IsName name.name
  IsPattern (p.mut_bind span name) = IsName name.name
  IsPattern (p.number span negative size end) = Unit {0}
  IsPattern (p.truth span value) = Unit {0}
  IsPattern (p.tuple span parts) = AreNotOnePattern parts × ArePatterns parts
  IsPattern (p.construct span path parts) = IsPath path × ArePatterns parts
  IsPattern (p.literal span path parts) = IsPath path × AreFieldPatterns parts

  pub IsFieldPattern : p.FieldPat → Type 0
  IsFieldPattern (p.short name) = IsName name.name
  IsFieldPattern (p.given span name pat) = IsName name × IsPattern pat

  pub ArePatterns : p.Pats → Type 0
  ArePatterns p.no_pats = Unit {0}
  ArePatterns (p.more_pats pat rest) = IsPattern pat × ArePatterns rest

  pub AreFieldPatterns : p.FieldPats → Type 0
  AreFieldPatterns p.no_fieldpats = Unit {0}
  AreFieldPatterns (p.more_fieldpats pat rest) = IsFieldPattern pat × AreFieldPatterns rest

-- what ends at its last brace
abbrev pub is_block_like : s.Expr → Bool
is_block_like (s.number a0 a1 a2 a3) = false
is_block_like (s.truth a0 a1) = false
is_block_like (s.tuple a0 a1) = false
is_block_like (s.inner a0) = true
is_block_like (s.branch a0 a1 a2 a3) = true
is_block_like (s.select a0 a1 a2) = true
is_block_like (s.let_branch a0 a1 a2 a3 a4) = true
is_block_like (s.forever a0 a1 a2) = true
is_block_like (s.panic a0) = false
is_block_like (s.path a0 a1) = false
is_block_like (s.call a0 a1 a2 a3) = false
is_block_like (s.literal a0 a1 a2 a3) = false
is_block_like (s.field a0 a1 a2 a3) = false
is_block_like (s.minus a0 a1) = false
is_block_like (s.negation a0 a1) = false
is_block_like (s.deref a0 a1) = false
is_block_like (s.borrow a0 a1 a2) = false
is_block_like (s.binary a0 a1 a2 a3) = false
is_block_like (s.compare a0 a1 a2 a3) = false
is_block_like (s.both a0 a1 a2) = false
is_block_like (s.either a0 a1 a2) = false
is_block_like (s.cast a0 a1 a2) = false
is_block_like (s.assign a0 a1 a2) = false
is_block_like (s.update a0 a1 a2 a3) = false
is_block_like (s.give a0 a1) = false
is_block_like (s.leave a0 a1) = false
is_block_like (s.go_on a0) = false

-- what may stand after `else`
abbrev pub is_else : s.Expr → Bool
is_else (s.number a0 a1 a2 a3) = false
is_else (s.truth a0 a1) = false
is_else (s.tuple a0 a1) = false
is_else (s.inner a0) = true
is_else (s.branch a0 a1 a2 a3) = true
is_else (s.select a0 a1 a2) = false
is_else (s.let_branch a0 a1 a2 a3 a4) = true
is_else (s.forever a0 a1 a2) = false
is_else (s.panic a0) = false
is_else (s.path a0 a1) = false
is_else (s.call a0 a1 a2 a3) = false
is_else (s.literal a0 a1 a2 a3) = false
is_else (s.field a0 a1 a2 a3) = false
is_else (s.minus a0 a1) = false
is_else (s.negation a0 a1) = false
is_else (s.deref a0 a1) = false
is_else (s.borrow a0 a1 a2) = false
is_else (s.binary a0 a1 a2 a3) = false
is_else (s.compare a0 a1 a2 a3) = false
is_else (s.both a0 a1 a2) = false
is_else (s.either a0 a1 a2) = false
is_else (s.cast a0 a1 a2) = false
is_else (s.assign a0 a1 a2) = false
is_else (s.update a0 a1 a2 a3) = false
is_else (s.give a0 a1) = false
is_else (s.leave a0 a1) = false
is_else (s.go_on a0) = false

-- the name of a field, or its place
abbrev pub IsPlace : List ℕ → Type 0
IsPlace name = (is_place name ≡ true) ⊎ ((is_place name ≡ false) × IsName name)

abbrev pub AreNotOne : s.Exprs → Type 0
AreNotOne s.no_exprs = Unit {0}
AreNotOne (s.more_exprs e s.no_exprs) = ⊥
AreNotOne (s.more_exprs e (s.more_exprs next rest)) = Unit {0}

abbrev pub IsLetType : t.MaybeWritten → Type 0
IsLetType t.no_maybewritten = Unit {0}
IsLetType (t.some_maybewritten ty) = IsType ty

-- what a `while` does where it is over
abbrev pub leaves : s.Expr
leaves = s.leave nowhere s.no_maybeexpr

abbrev mutual
  pub IsExpr : s.Expr → Type 0
  IsExpr (s.number span negative size end) = Unit {0}
  IsExpr (s.truth span value) = Unit {0}
  IsExpr (s.tuple span parts) = AreNotOne parts × AreExprs parts
  IsExpr (s.inner b) = IsBlock b
  IsExpr (s.branch span e b other) = IsExpr e × (IsBlock b × ((is_else other ≡ true) × IsExpr other))
  IsExpr (s.select span e arms) = IsExpr e × AreArms arms
  IsExpr (s.let_branch span pat e b other) = IsPattern pat × (IsExpr e × (IsInner b × ((is_else other ≡ true) × IsExpr other)))
  IsExpr (s.forever span true b) = IsWhile b
  IsExpr (s.forever span false b) = IsBlock b
  IsExpr (s.panic span) = Unit {0}
  IsExpr (s.path span path) = IsPath path
  IsExpr (s.call span path tys parts) = IsPath path × (IsTurbo tys × AreExprs parts)
  IsExpr (s.literal span name tys parts) = IsName name.name × (IsTurbo tys × AreInits parts)
  IsExpr (s.field span e place name) = IsExpr e × IsPlace name
  IsExpr (s.minus span e) = IsExpr e
  IsExpr (s.negation span e) = IsExpr e
  IsExpr (s.deref span e) = IsExpr e
  IsExpr (s.borrow span mutable e) = IsExpr e
  IsExpr (s.binary span op a b) = IsExpr a × IsExpr b
  IsExpr (s.compare span op a b) = IsExpr a × IsExpr b
  IsExpr (s.both span a b) = IsExpr a × IsExpr b
  IsExpr (s.either span a b) = IsExpr a × IsExpr b
  IsExpr (s.cast span e ty) = IsExpr e
  IsExpr (s.assign span a b) = IsExpr a × IsExpr b
  IsExpr (s.update span op a b) = IsExpr a × IsExpr b
  IsExpr (s.give span value) = IsMaybe value
  IsExpr (s.leave span value) = IsMaybe value
  IsExpr (s.go_on span) = Unit {0}

  pub IsMaybe : s.MaybeExpr → Type 0
  IsMaybe s.no_maybeexpr = Unit {0}
  IsMaybe (s.some_maybeexpr e) = IsExpr e

  pub IsInner : s.Expr → Type 0
  IsInner (s.inner b) = IsBlock b
  IsInner other = ⊥

  pub IsWhile : s.Block → Type 0
  IsWhile (s.block span s.no_stmts (s.some_maybeexpr (s.branch whole e b other))) = IsExpr e × (IsBlock b × (bare_expr other ≡ s.inner (only_value nowhere leaves)))
  IsWhile (s.block span s.no_stmts (s.some_maybeexpr (s.let_branch whole pat e b other))) = IsPattern pat × (IsExpr e × (IsInner b × (bare_expr other ≡ leaves)))
  IsWhile other = ⊥

  pub IsBlock : s.Block → Type 0
  IsBlock (s.block span before value) = AreStmts before × IsMaybe value

  pub IsStmt : s.Stmt → Type 0
  IsStmt (s.run e true) = IsExpr e
  IsStmt (s.run e false) = (is_block_like e ≡ true) × IsExpr e
  IsStmt (s.bind span pat ty value) = IsPattern pat × (IsLetType ty × IsMaybe value)

  pub AreExprs : s.Exprs → Type 0
  AreExprs s.no_exprs = Unit {0}
  AreExprs (s.more_exprs e rest) = IsExpr e × AreExprs rest

  pub AreArms : s.Arms → Type 0
  AreArms s.no_arms = Unit {0}
  AreArms (s.more_arms pat e rest) = IsPattern pat × (IsExpr e × AreArms rest)

  pub AreInits : s.Inits → Type 0
  AreInits s.no_inits = Unit {0}
  AreInits (s.more_inits span name e rest) = IsName name × (IsExpr e × AreInits rest)

  pub AreStmts : s.Stmts → Type 0
  AreStmts s.no_stmts = Unit {0}
  AreStmts (s.more_stmts one rest) = IsStmt one × AreStmts rest

abbrev pub AreNames : List Ident → Type 0
AreNames [] = Unit {0}
AreNames (name ∷ names) = IsName name.name × AreNames names

abbrev pub AreParams : List Param → Type 0
AreParams [] = Unit {0}
AreParams (param ∷ params) = IsName param.name.name × (IsType param.ty × AreParams params)

abbrev pub IsResult : Option t.Written → Type 0
IsResult None = Unit {0}
IsResult (Some ty) = IsType ty

abbrev pub AreFields : List (Span × List ℕ × t.Written) → Type 0
AreFields [] = Unit {0}
AreFields (field ∷ fields) = IsName field.1 × (IsType field.2 × AreFields fields)

-- with names there is one field at least
abbrev pub HasFields : Fields → Type 0
HasFields (has_fields.Named []) = ⊥
HasFields (has_fields.Named (field ∷ fields)) = AreFields (field ∷ fields)
HasFields (has_fields.Placed tys) = AreTypes (t.writtens tys)

abbrev pub AreVariants : List Variant → Type 0
AreVariants [] = Unit {0}
AreVariants (variant ∷ variants) = IsName variant.name.name × (AreTypes (t.writtens variant.fields) × AreVariants variants)

abbrev pub IsItem : Item → Type 0
IsItem (items.Function f) = IsName f.name.name × (AreNames f.type_params × (AreParams f.params × (IsResult f.result × IsBlock f.body)))
IsItem (items.Struct x) = IsName x.name.name × (AreNames x.params × HasFields x.fields)
IsItem (items.Enum x) = IsName x.name.name × (AreNames x.params × AreVariants x.variants)
IsItem items.UseMem = Unit {0}

abbrev pub AreItems : List Item → Type 0
AreItems [] = Unit {0}
AreItems (item ∷ items) = IsItem item × AreItems items

abbrev pub IsProgram : Program → Type 0
IsProgram x = AreItems x.items
