-- Programs without their spans: every span is empty.
-- Written by tools/bare.py from tools/rust_ast.desc.py.
use Rattle.std.specs.Prelude.{◌≡◌, ℕ, List, Option, Some, None, map}
use Rattle.aen_base.specs.declared.span.Span.{Span}
use Rattle.rust_ast.specs.declared.ident.Ident.{Ident}
use Rattle.rust_ast.specs.SourceTypes as t
use Rattle.rust_ast.specs.SourcePatterns as p
use Rattle.rust_ast.specs.Source as s
use Rattle.rust_ast.specs.declared.program.Program.{Program}
use Rattle.rust_ast.specs.declared.program.Item.{Item}
use Rattle.rust_ast.specs.declared.program.Item.TheVariants as items
use Rattle.rust_ast.specs.declared.program.Param.{Param}
use Rattle.rust_ast.specs.declared.program.Fields.{Fields}
use Rattle.rust_ast.specs.declared.program.Fields.TheVariants as has_fields
use Rattle.rust_ast.specs.declared.program.Variant.{Variant}

abbrev pub nowhere : Span
nowhere = record { lo = 0; hi = 0 }

abbrev pub bare_ident : Ident → Ident
bare_ident name = record { name = name.name; span = nowhere }

abbrev mutual
  pub bare_lifetime : t.Lifetime → t.Lifetime
  bare_lifetime t.elided = t.elided
  bare_lifetime (t.lifetime a0) = t.lifetime (bare_ident a0)

  pub bare_turbo : t.Turbo → t.Turbo
  bare_turbo t.no_turbo = t.no_turbo
  bare_turbo (t.turbo a0) = t.turbo (bare_writtens a0)

  pub bare_path : t.Path → t.Path
  bare_path (t.one a0) = t.one (bare_ident a0)
  bare_path (t.two a0 a1 a2) = t.two (bare_ident a0) (bare_turbo a1) (bare_ident a2)
  bare_path (t.box_new span) = t.box_new nowhere
  bare_path (t.mem_replace span a1 a2) = t.mem_replace nowhere nowhere a2
  bare_path (t.mem_swap span a1 a2) = t.mem_swap nowhere nowhere a2

  pub bare_written : t.Written → t.Written
  bare_written (t.int span a1) = t.int nowhere a1
  bare_written (t.bool span) = t.bool nowhere
  bare_written (t.unit span) = t.unit nowhere
  bare_written (t.tuple span a1) = t.tuple nowhere (bare_writtens a1)
  bare_written (t.ref span a1 a2 a3) = t.ref nowhere (bare_lifetime a1) a2 (bare_written a3)
  bare_written (t.boxed span a1) = t.boxed nowhere (bare_written a1)
  bare_written (t.named span a1 a2) = t.named nowhere (bare_ident a1) (bare_writtens a2)

  pub bare_writtens : t.Writtens → t.Writtens
  bare_writtens t.no_writtens = t.no_writtens
  bare_writtens (t.more_writtens a0 a1) = t.more_writtens (bare_written a0) (bare_writtens a1)

  pub bare_maybewritten : t.MaybeWritten → t.MaybeWritten
  bare_maybewritten t.no_maybewritten = t.no_maybewritten
  bare_maybewritten (t.some_maybewritten a0) = t.some_maybewritten (bare_written a0)

abbrev mutual
  pub bare_pat : p.Pat → p.Pat
  bare_pat (p.wild span) = p.wild nowhere
  bare_pat (p.lone a0) = p.lone (bare_ident a0)
  bare_pat (p.mut_bind span a1) = p.mut_bind nowhere (bare_ident a1)
  bare_pat (p.number span a1 a2 a3) = p.number nowhere a1 a2 a3
  bare_pat (p.truth span a1) = p.truth nowhere a1
  bare_pat (p.tuple span a1) = p.tuple nowhere (bare_pats a1)
  bare_pat (p.construct span a1 a2) = p.construct nowhere (bare_path a1) (bare_pats a2)
  bare_pat (p.literal span a1 a2) = p.literal nowhere (bare_path a1) (bare_fieldpats a2)

  pub bare_fieldpat : p.FieldPat → p.FieldPat
  bare_fieldpat (p.short a0) = p.short (bare_ident a0)
  bare_fieldpat (p.given span a1 a2) = p.given nowhere a1 (bare_pat a2)

  pub bare_pats : p.Pats → p.Pats
  bare_pats p.no_pats = p.no_pats
  bare_pats (p.more_pats a0 a1) = p.more_pats (bare_pat a0) (bare_pats a1)

  pub bare_fieldpats : p.FieldPats → p.FieldPats
  bare_fieldpats p.no_fieldpats = p.no_fieldpats
  bare_fieldpats (p.more_fieldpats a0 a1) = p.more_fieldpats (bare_fieldpat a0) (bare_fieldpats a1)

abbrev mutual
  pub bare_expr : s.Expr → s.Expr
  bare_expr (s.number span a1 a2 a3) = s.number nowhere a1 a2 a3
  bare_expr (s.truth span a1) = s.truth nowhere a1
  bare_expr (s.tuple span a1) = s.tuple nowhere (bare_exprs a1)
  bare_expr (s.inner a0) = s.inner (bare_block a0)
  bare_expr (s.branch span a1 a2 a3) = s.branch nowhere (bare_expr a1) (bare_block a2) (bare_expr a3)
  bare_expr (s.select span a1 a2) = s.select nowhere (bare_expr a1) (bare_arms a2)
  bare_expr (s.let_branch span a1 a2 a3 a4) = s.let_branch nowhere (bare_pat a1) (bare_expr a2) (bare_expr a3) (bare_expr a4)
  bare_expr (s.forever span a1 a2) = s.forever nowhere a1 (bare_block a2)
  bare_expr (s.panic span) = s.panic nowhere
  bare_expr (s.path span a1) = s.path nowhere (bare_path a1)
  bare_expr (s.call span a1 a2 a3) = s.call nowhere (bare_path a1) (bare_turbo a2) (bare_exprs a3)
  bare_expr (s.literal span a1 a2 a3) = s.literal nowhere (bare_ident a1) (bare_turbo a2) (bare_inits a3)
  bare_expr (s.field span a1 a2 a3) = s.field nowhere (bare_expr a1) nowhere a3
  bare_expr (s.minus span a1) = s.minus nowhere (bare_expr a1)
  bare_expr (s.negation span a1) = s.negation nowhere (bare_expr a1)
  bare_expr (s.deref span a1) = s.deref nowhere (bare_expr a1)
  bare_expr (s.borrow span a1 a2) = s.borrow nowhere a1 (bare_expr a2)
  bare_expr (s.binary span a1 a2 a3) = s.binary nowhere a1 (bare_expr a2) (bare_expr a3)
  bare_expr (s.compare span a1 a2 a3) = s.compare nowhere a1 (bare_expr a2) (bare_expr a3)
  bare_expr (s.both span a1 a2) = s.both nowhere (bare_expr a1) (bare_expr a2)
  bare_expr (s.either span a1 a2) = s.either nowhere (bare_expr a1) (bare_expr a2)
  bare_expr (s.cast span a1 a2) = s.cast nowhere (bare_expr a1) a2
  bare_expr (s.assign span a1 a2) = s.assign nowhere (bare_expr a1) (bare_expr a2)
  bare_expr (s.update span a1 a2 a3) = s.update nowhere a1 (bare_expr a2) (bare_expr a3)
  bare_expr (s.give span a1) = s.give nowhere (bare_maybeexpr a1)
  bare_expr (s.leave span a1) = s.leave nowhere (bare_maybeexpr a1)
  bare_expr (s.go_on span) = s.go_on nowhere

  pub bare_stmt : s.Stmt → s.Stmt
  bare_stmt (s.run a0 a1) = s.run (bare_expr a0) a1
  bare_stmt (s.bind span a1 a2 a3) = s.bind nowhere (bare_pat a1) (bare_maybewritten a2) (bare_maybeexpr a3)

  pub bare_block : s.Block → s.Block
  bare_block (s.block span a1 a2) = s.block nowhere (bare_stmts a1) (bare_maybeexpr a2)

  pub bare_exprs : s.Exprs → s.Exprs
  bare_exprs s.no_exprs = s.no_exprs
  bare_exprs (s.more_exprs a0 a1) = s.more_exprs (bare_expr a0) (bare_exprs a1)

  pub bare_arms : s.Arms → s.Arms
  bare_arms s.no_arms = s.no_arms
  bare_arms (s.more_arms a0 a1 a2) = s.more_arms (bare_pat a0) (bare_expr a1) (bare_arms a2)

  pub bare_inits : s.Inits → s.Inits
  bare_inits s.no_inits = s.no_inits
  bare_inits (s.more_inits span a1 a2 a3) = s.more_inits nowhere a1 (bare_expr a2) (bare_inits a3)

  pub bare_stmts : s.Stmts → s.Stmts
  bare_stmts s.no_stmts = s.no_stmts
  bare_stmts (s.more_stmts a0 a1) = s.more_stmts (bare_stmt a0) (bare_stmts a1)

  pub bare_maybeexpr : s.MaybeExpr → s.MaybeExpr
  bare_maybeexpr s.no_maybeexpr = s.no_maybeexpr
  bare_maybeexpr (s.some_maybeexpr a0) = s.some_maybeexpr (bare_expr a0)

-- ---- items

abbrev pub bare_result : Option t.Written → Option t.Written
bare_result None = None
bare_result (Some ty) = Some (bare_written ty)

abbrev pub bare_types : List t.Written → List t.Written
bare_types tys = map bare_written tys

abbrev pub bare_param : Param → Param
bare_param x = record { mutable = x.mutable; name = bare_ident x.name; ty = bare_written x.ty }

abbrev pub bare_field : Span × List ℕ × t.Written → Span × List ℕ × t.Written
bare_field x = (nowhere, x.1, bare_written x.2)

abbrev pub bare_fields : Fields → Fields
bare_fields (has_fields.Named fields) = has_fields.Named (map bare_field fields)
bare_fields (has_fields.Placed tys) = has_fields.Placed (bare_types tys)

abbrev pub bare_variant : Variant → Variant
bare_variant x = record { name = bare_ident x.name; fields = bare_types x.fields }

abbrev pub bare_item : Item → Item
bare_item (items.Function f) =
    items.Function (record {
      name = bare_ident f.name;
      lifetimes = map bare_ident f.lifetimes;
      type_params = map bare_ident f.type_params;
      params = map bare_param f.params;
      result = bare_result f.result;
      body = bare_block f.body;
    })
bare_item (items.Struct x) = items.Struct (record { name = bare_ident x.name; params = map bare_ident x.params; fields = bare_fields x.fields })
bare_item (items.Enum x) = items.Enum (record { name = bare_ident x.name; params = map bare_ident x.params; variants = map bare_variant x.variants })
bare_item items.UseMem = items.UseMem

abbrev pub bare_program : Program → Program
bare_program x = record { items = map bare_item x.items }

-- the same program but for spans
abbrev pub Same : Program → Program → Type 0
Same a b = bare_program a ≡ bare_program b
