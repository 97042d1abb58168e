-- Trees all whose names, lifetimes and numbers are lexed as themselves.
use Rattle.std.specs.Prelude.{ℕ, ◌<◌, ◌^◌, true, false, List, [], ◌∷◌, Option, Some, None}
use Rattle.aen_base.specs.declared.span.Span.{Span}
use Rattle.rust_ast.specs.declared.ident.Ident.{Ident}
use Rattle.rust_ast.specs.declared.program.Item.{Item}
use Rattle.rust_ast.specs.declared.program.Item.TheVariants as items
use Rattle.rust_ast.specs.declared.program.Param.{Param}
use Rattle.rust_ast.specs.declared.program.Fields.{Fields}
use Rattle.rust_ast.specs.declared.program.Fields.TheVariants as has_fields
use Rattle.rust_ast.specs.declared.program.Variant.{Variant}
use Rattle.rust_ast.specs.SourceTypes as t
use Rattle.rust_ast.specs.SourcePatterns as p
use Rattle.rust_ast.specs.Source as s
use Rattle.rust_printer.specs.Tok.{Tok, named, lifetime, placed}
use Rattle.rust_printer.specs.ExpressionTokens.{loop_tokens}
use Rattle.print_lexed.proofs.Sequences.{IsLexed, AreLexed}

-- a name that is lexed as itself
abbrev pub IsName : List ℕ → Type 0
IsName name = IsLexed false (named name) × IsLexed true (placed name)

-- digits, or such a name
abbrev pub IsPlace : List ℕ → Type 0
IsPlace name = IsLexed true (placed name)

abbrev pub IsLife : List ℕ → Type 0
IsLife name = IsLexed false (lifetime name)

abbrev pub IsLifetime : t.Lifetime → Type 0
IsLifetime t.elided = Unit {0}
IsLifetime (t.lifetime name) = IsLife name.name

abbrev pub IsSize : ℕ → Type 0
IsSize size = size < 2 ^ 128

abbrev mutual
  pub IsType : t.Written → Type 0
  IsType (t.int span ty) = Unit {0}
  IsType (t.bool span) = Unit {0}
  IsType (t.unit span) = Unit {0}
  IsType (t.tuple span parts) = AreTypes parts
  IsType (t.ref span life mutable ty) = IsLifetime life × IsType ty
  IsType (t.boxed span ty) = IsType ty
  IsType (t.named span name args) = IsName name.name × AreTypes args

  pub AreTypes : t.Writtens → Type 0
  AreTypes t.no_writtens = Unit {0}
  AreTypes (t.more_writtens ty rest) = IsType ty × AreTypes rest

abbrev pub IsTurbo : t.Turbo → Type 0
IsTurbo t.no_turbo = Unit {0}
IsTurbo (t.turbo tys) = AreTypes tys

abbrev pub IsPath : t.Path → Type 0
IsPath (t.one name) = IsName name.name
IsPath (t.two first tys second) = IsName first.name × (IsTurbo tys × IsName second.name)
IsPath path = Unit {0}

abbrev mutual
  pub IsPattern : p.Pat → Type 0
  IsPattern (p.wild span) = Unit {0}
  IsPattern (p.lone name) = IsName name.name
  IsPattern (p.mut_bind span name) = IsName name.name
  IsPattern (p.number span negative size end) = IsSize size
  IsPattern (p.truth span value) = Unit {0}
  IsPattern (p.tuple span parts) = ArePatterns parts
  IsPattern (p.construct span path parts) = IsPath path × ArePatterns parts
  IsPattern (p.literal span path parts) = IsPath path × AreFieldPatterns parts

  pub IsFieldPattern : p.FieldPat → Type 0
  IsFieldPattern (p.short name) = IsName name.name
  IsFieldPattern (p.given span name pat) = IsName name × IsPattern pat

  pub ArePatterns : p.Pats → Type 0
  ArePatterns p.no_pats = Unit {0}
  ArePatterns (p.more_pats pat rest) = IsPattern pat × ArePatterns rest

  pub AreFieldPatterns : p.FieldPats → Type 0
  AreFieldPatterns p.no_fieldpats = Unit {0}
  AreFieldPatterns (p.more_fieldpats pat rest) = IsFieldPattern pat × AreFieldPatterns rest

abbrev pub IsLetType : t.MaybeWritten → Type 0
IsLetType t.no_maybewritten = Unit {0}
IsLetType (t.some_maybewritten ty) = IsType ty

-- the body of a loop that is written with `while`
abbrev pub IsWhile : s.Block → Type 0
IsWhile b = (more : List Tok) → AreLexed false more → AreLexed false (loop_tokens true b more)

abbrev mutual
  pub IsExpr : s.Expr → Type 0
  IsExpr (s.number span negative size end) = IsSize size
  IsExpr (s.truth span value) = Unit {0}
  IsExpr (s.tuple span parts) = AreExprs parts
  IsExpr (s.inner b) = IsBlock b
  IsExpr (s.branch span e b other) = IsExpr e × (IsBlock b × IsExpr other)
  IsExpr (s.select span e arms) = IsExpr e × AreArms arms
  IsExpr (s.let_branch span pat e b other) = IsPattern pat × (IsExpr e × (IsExpr b × IsExpr other))
  IsExpr (s.forever span true b) = IsWhile b
  IsExpr (s.forever span false b) = IsBlock b
  IsExpr (s.panic span) = Unit {0}
  IsExpr (s.path span path) = IsPath path
  IsExpr (s.call span path tys parts) = IsPath path × (IsTurbo tys × AreExprs parts)
  IsExpr (s.literal span name tys parts) = IsName name.name × (IsTurbo tys × AreInits parts)
  IsExpr (s.field span e place name) = IsExpr e × IsPlace name
  IsExpr (s.minus span e) = IsExpr e
  IsExpr (s.negation span e) = IsExpr e
  IsExpr (s.deref span e) = IsExpr e
  IsExpr (s.borrow span mutable e) = IsExpr e
  IsExpr (s.binary span op a b) = IsExpr a × IsExpr b
  IsExpr (s.compare span op a b) = IsExpr a × IsExpr b
  IsExpr (s.both span a b) = IsExpr a × IsExpr b
  IsExpr (s.either span a b) = IsExpr a × IsExpr b
  IsExpr (s.cast span e ty) = IsExpr e
  IsExpr (s.assign span a b) = IsExpr a × IsExpr b
  IsExpr (s.update span op a b) = IsExpr a × IsExpr b
  IsExpr (s.give span value) = IsMaybe value
  IsExpr (s.leave span value) = IsMaybe value
  IsExpr (s.go_on span) = Unit {0}

  pub IsMaybe : s.MaybeExpr → Type 0
  IsMaybe s.no_maybeexpr = Unit {0}
  IsMaybe (s.some_maybeexpr e) = IsExpr e

  pub IsBlock : s.Block → Type 0
  IsBlock (s.block span before value) = AreStmts before × IsMaybe value

  pub IsStmt : s.Stmt → Type 0
  IsStmt (s.run e true) = IsExpr e
  IsStmt (s.run e false) = IsExpr e
  IsStmt (s.bind span pat ty value) = IsPattern pat × (IsLetType ty × IsMaybe value)

  pub AreExprs : s.Exprs → Type 0
  AreExprs s.no_exprs = Unit {0}
  AreExprs (s.more_exprs e rest) = IsExpr e × AreExprs rest

  pub AreArms : s.Arms → Type 0
  AreArms s.no_arms = Unit {0}
  AreArms (s.more_arms pat e rest) = IsPattern pat × (IsExpr e × AreArms rest)

  pub AreInits : s.Inits → Type 0
  AreInits s.no_inits = Unit {0}
  AreInits (s.more_inits span name e rest) = IsName name × (IsExpr e × AreInits rest)

  pub AreStmts : s.Stmts → Type 0
  AreStmts s.no_stmts = Unit {0}
  AreStmts (s.more_stmts one rest) = IsStmt one × AreStmts rest

abbrev pub AreNames : List Ident → Type 0
AreNames [] = Unit {0}
AreNames (name ∷ names) = IsName name.name × AreNames names

abbrev pub AreLives : List Ident → Type 0
AreLives [] = Unit {0}
AreLives (name ∷ names) = IsLife name.name × AreLives names

abbrev pub AreParams : List Param → Type 0
AreParams [] = Unit {0}
AreParams (param ∷ params) = IsName param.name.name × (IsType param.ty × AreParams params)

abbrev pub IsResult : Option t.Written → Type 0
IsResult None = Unit {0}
IsResult (Some ty) = IsType ty

abbrev pub AreFields : List (Span × List ℕ × t.Written) → Type 0
AreFields [] = Unit {0}
AreFields (field ∷ fields) = IsName field.1 × (IsType field.2 × AreFields fields)

abbrev pub HasFields : Fields → Type 0
HasFields (has_fields.Named fields) = AreFields fields
HasFields (has_fields.Placed tys) = AreTypes (t.writtens tys)

abbrev pub AreVariants : List Variant → Type 0
AreVariants [] = Unit {0}
AreVariants (variant ∷ variants) = IsName variant.name.name × (AreTypes (t.writtens variant.fields) × AreVariants variants)

abbrev pub IsItem : Item → Type 0
IsItem (items.Function f) = IsName f.name.name × ((AreLives f.lifetimes × AreNames f.type_params) × (AreParams f.params × (IsResult f.result × IsBlock f.body)))
IsItem (items.Struct x) = IsName x.name.name × (AreNames x.params × HasFields x.fields)
IsItem (items.Enum x) = IsName x.name.name × (AreNames x.params × AreVariants x.variants)
IsItem items.UseMem = Unit {0}

abbrev pub AreItems : List Item → Type 0
AreItems [] = Unit {0}
AreItems (item ∷ items) = IsItem item × AreItems items
