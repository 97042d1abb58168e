-- Paths in expressions are read of their tokens, with what they are applied to.
use Rattle.std.proofs.Common.{◌≡◌, ◌⊎◌, refl, ap, ◌∙◌, inl, inr, ℕ, Bool, true, false, List, ◌∷◌, codes}
use Rattle.table_reader.specs.Reading as R
use Rattle.source_grammar.specs.declared.class.Class.{Class}
use Rattle.source_grammar.specs.declared.class.Class.TheVariants as C
use Rattle.source_grammar.specs.declared.lexeme.Lexeme.{Lexeme}
use Rattle.source_grammar.specs.declared.terminal.Terminal.TheVariants as T
use Rattle.source_grammar.specs.declared.part.Part.TheVariants as N
use Rattle.source_grammar.specs.declared.part.Context.TheVariants as At
use Rattle.source_grammar.specs.declared.part.Listed.TheVariants as Of
use Rattle.source_grammar.specs.Lexemes.{has_class}
use Rattle.source_grammar.specs.Spelled.{class_named}
use Rattle.aen_base.specs.declared.span.Span.{Span}
use Rattle.rust_ast.specs.declared.ident.Ident.{Ident}
use Rattle.rust_ast.specs.SourceTypes as t
use Rattle.rust_ast.specs.Source as s
use Rattle.source_ways.specs.declared.paths.Calling.{Calling}
use Rattle.source_ways.specs.declared.paths.Further.{Further}
use Rattle.source_ways.specs.declared.paths.InMem.{InMem}
use Rattle.source_ways.specs.Says.{ident, name_in}
use Rattle.source_ways.specs.PathNodes.{built_in}
use Rattle.source_ways.specs.Paths.{called, continued, begun_by, in_std}
use Rattle.rust_printer.specs.Tok.{Tok, mark, named}
use Rattle.rust_printer.specs.TypeTokens.{turbo_tokens, path_tokens}
use Rattle.rust_printer.specs.Bare.{bare_ident, bare_turbo, bare_path, bare_writtens, bare_expr, bare_exprs, nowhere}
use Rattle.rust_printer.specs.Laid.{Laid}
use Rattle.rust_printer.proofs.Printable.{IsName, IsTurbo, IsPath, IsNoBuiltIn}
use Rattle.rust_printer.proofs.ReadCommon.{Read, read_by, Off, off, tok}
use Rattle.rust_printer.proofs.ReadTypes.{at_nowhere, in_angles_read}
use Rattle.rust_printer.proofs.Starts.{Start, plain_start, mem_start, std_start, panic_start, assert_start, start, mem_or_not}

-- what a path makes with what stands after its last name
abbrev pub IsCalled : (t.Path → s.Expr) → Calling → Type 0
IsCalled target v = (whole : Span) (path : t.Path) → bare_expr (called whole path v) ≡ target (bare_path path)

-- what a name and types make with what stands after them
abbrev pub IsFurther : (Ident → t.Turbo → s.Expr) → Further → Type 0
IsFurther target v = (whole : Span) (name : Ident) (tys : t.Turbo) → bare_expr (continued whole name tys v) ≡ target (bare_ident name) (bare_turbo tys)

-- what `std::mem` makes with what stands after it
abbrev pub IsInMem : (t.Path → s.Expr) → InMem → Type 0
IsInMem target v = (mem : Lexeme) (whole : Span) (name : Ident) → bare_expr (begun_by whole name (in_std mem v)) ≡ target (t.two (bare_ident name) t.no_turbo (bare_ident (ident mem)))

-- what stands after a path's last name, and after `std::mem`
pub record Called (target : t.Path → s.Expr) (more : List Tok) (ls : List Lexeme) : Type 0 where
  pub after_path : Read N.AfterPath (IsCalled target) more ls
  pub after_mem : Read N.AfterStdMem (IsInMem target) more ls

abbrev pub Core : s.Expr → List Tok → List Lexeme → Type 0
Core e more ls = Read (N.Core At.Free) (λ v. bare_expr v ≡ e) more ls

-- nothing stands there
pub not_called : (at : ℕ) (more : List Tok) (ls : List Lexeme) → Laid at more ls → Called (λ path. s.path nowhere path) more ls
not_called at more ls laid = record {
  after_path = read_by _ (inl refl) _ ls R.nothing (λ whole path. refl) laid;
  after_mem = read_by _ (inl refl) _ ls R.nothing (λ mem whole name. refl) laid;
}

abbrev pub Arguments : s.Exprs → List Tok → List Lexeme → Type 0
Arguments parts more ls = Read (N.List Of.Arguments) (λ v. bare_exprs (s.exprs v) ≡ bare_exprs parts) more ls

-- arguments, perhaps with types before them
pub is_called : (tys : t.Turbo) (parts : s.Exprs) → IsTurbo tys → (at : ℕ) (ts more : List Tok) (ls : List Lexeme) → Laid at (turbo_tokens tys (mark C.OpenBracket ∷ ts)) ls →
    ((from : ℕ) (us : List Lexeme) → Laid from ts us → Arguments parts more us) →
    Called (λ path. s.call nowhere path (bare_turbo tys) (bare_exprs parts)) more ls
is_called t.no_turbo parts ok at ts more ls laid args =
    let a = off laid in
    let x = args a.at a.rest a.left in
    record {
      after_path = read_by _ (inr (inl refl)) _ x.rest (tok a T.OpenBracket refl refl (R.part x.reads R.nothing)) (λ whole path i. s.call nowhere (bare_path path) t.no_turbo (x.is i)) x.left;
      after_mem = read_by _ (inr (inl refl)) _ x.rest (tok a T.OpenBracket refl refl (R.part x.reads R.nothing))
          (λ mem whole name i. s.call nowhere (t.two (bare_ident name) t.no_turbo (bare_ident (ident mem))) t.no_turbo (x.is i)) x.left;
    }
is_called (t.turbo tys) parts ok at ts more ls laid args =
    let a = off laid in
    let b = off a.left in
    let y = in_angles_read tys ok b.at _ b.rest b.left in
    let c = off y.left in
    let x = args c.at c.rest c.left in
    record {
      after_path = read_by _ (inr (inr (inl refl))) _ x.rest
          (tok a T.Colons refl refl (tok b T.Less refl refl (R.part y.reads (tok c T.OpenBracket refl refl (R.part x.reads R.nothing)))))
          (λ whole path i. s.call nowhere (bare_path path) (t.turbo (y.is i)) (x.is i)) x.left;
      after_mem = read_by _ (inr (inr (inl refl))) _ x.rest
          (tok a T.Colons refl refl (R.part (R.by _ (inl refl) _ (tok b T.Less refl refl (R.part y.reads (tok c T.OpenBracket refl refl (R.part x.reads R.nothing))))) R.nothing))
          (λ mem whole name i. s.call nowhere (t.two (bare_ident name) t.no_turbo (bare_ident (ident mem))) (t.turbo (y.is i)) (x.is i)) x.left;
    }

-- ---- what stands after a path's first name

abbrev pub Named : (Ident → s.Expr) → List ℕ → List Tok → List Lexeme → Type 0
Named target name more ls = Core (target (at_nowhere name)) more ls

-- nothing
pub alone : (name : List ℕ) → Start (class_named name C.Other) → (more : List Tok) (ls : List Lexeme) → (o : Off (named name) more ls) →
    Named (λ x. s.path nowhere (t.one x)) name more ls
alone name (plain_start h) more ls o = read_by _ (inr (inr (inr (inl refl)))) _ o.rest (tok o T.PathName h refl (R.part (R.by _ (inl refl) _ R.nothing) R.nothing)) (λ i. s.path nowhere (t.one (at_nowhere (name_in (o.content i))))) o.left
alone name (mem_start h) more ls o = read_by _ (inr (inr (inr (inr (inl refl))))) _ o.rest (tok o T.Mem (ap (has_class T.Mem) h) refl (R.part (R.by _ (inl refl) _ R.nothing) R.nothing)) (λ i. s.path nowhere (t.one (at_nowhere (name_in (o.content i))))) o.left
alone name (std_start h) more ls o = read_by _ (inr (inr (inr (inr (inr (inl refl)))))) _ o.rest (tok o T.Std (ap (has_class T.Std) h) refl (R.part (R.by _ (inl refl) _ R.nothing) R.nothing)) (λ i. s.path nowhere (t.one (at_nowhere (name_in (o.content i))))) o.left
alone name (panic_start h) more ls o = read_by _ (inr (inr (inr (inr (inr (inr (inr (inl refl)))))))) _ o.rest (tok o T.PanicName h refl (R.part (R.by _ (inl refl) _ R.nothing) R.nothing)) (λ i. s.path nowhere (t.one (at_nowhere (name_in (o.content i))))) o.left
alone name (assert_start h) more ls o = read_by _ (inr (inr (inr (inr (inr (inr (inr (inr (inl refl))))))))) _ o.rest (tok o T.Assert (ap (has_class T.Assert) h) refl (R.part (R.by _ (inl refl) _ R.nothing) R.nothing)) (λ i. s.path nowhere (t.one (at_nowhere (name_in (o.content i))))) o.left

abbrev pub Applied : (Ident → t.Turbo → s.Expr) → List Tok → List Lexeme → Type 0
Applied target more ls = Read (N.Applied At.Free) (IsFurther target) more ls

-- what it is applied to
pub applied : (name : List ℕ) → Start (class_named name C.Other) → (target : Ident → t.Turbo → s.Expr) (ts more : List Tok) (ls : List Lexeme) → (o : Off (named name) ts ls) →
    Applied target more o.rest → Named (λ x. target x t.no_turbo) name more ls
applied name (plain_start h) target ts more ls o x = read_by _ (inr (inr (inr (inl refl)))) _ x.rest (tok o T.PathName h refl (R.part (R.by _ (inr (inl refl)) _ (R.part (R.by _ (inl refl) _ (R.part x.reads R.nothing)) R.nothing)) R.nothing)) (x.is _ (ident o.lexeme) t.no_turbo ∙ ap (λ c. target (at_nowhere (name_in c)) t.no_turbo) o.content) x.left
applied name (mem_start h) target ts more ls o x = read_by _ (inr (inr (inr (inr (inl refl))))) _ x.rest (tok o T.Mem (ap (has_class T.Mem) h) refl (R.part (R.by _ (inr (inl refl)) _ (R.part x.reads R.nothing)) R.nothing)) (x.is _ (ident o.lexeme) t.no_turbo ∙ ap (λ c. target (at_nowhere (name_in c)) t.no_turbo) o.content) x.left
applied name (std_start h) target ts more ls o x = read_by _ (inr (inr (inr (inr (inr (inl refl)))))) _ x.rest (tok o T.Std (ap (has_class T.Std) h) refl (R.part (R.by _ (inr (inl refl)) _ (R.part x.reads R.nothing)) R.nothing)) (x.is _ (ident o.lexeme) t.no_turbo ∙ ap (λ c. target (at_nowhere (name_in c)) t.no_turbo) o.content) x.left
applied name (panic_start h) target ts more ls o x = read_by _ (inr (inr (inr (inr (inr (inr (inr (inl refl)))))))) _ x.rest (tok o T.PanicName h refl (R.part (R.by _ (inr (inl refl)) _ (R.part (R.by _ (inl refl) _ (R.part x.reads R.nothing)) R.nothing)) R.nothing)) (x.is _ (ident o.lexeme) t.no_turbo ∙ ap (λ c. target (at_nowhere (name_in c)) t.no_turbo) o.content) x.left
applied name (assert_start h) target ts more ls o x = read_by _ (inr (inr (inr (inr (inr (inr (inr (inr (inl refl))))))))) _ x.rest (tok o T.Assert (ap (has_class T.Assert) h) refl (R.part (R.by _ (inr (inl refl)) _ (R.part (R.by _ (inl refl) _ (R.part x.reads R.nothing)) R.nothing)) R.nothing)) (x.is _ (ident o.lexeme) t.no_turbo ∙ ap (λ c. target (at_nowhere (name_in c)) t.no_turbo) o.content) x.left

-- types and more
pub with_types : (name : List ℕ) → Start (class_named name C.Other) → (target : Ident → t.Turbo → s.Expr) (tys : t.Writtens) (ts us vs ws more : List Tok) (ls : List Lexeme) →
    (o : Off (named name) ts ls) (a : Off (mark C.Colons) us o.rest) (b : Off (mark C.Less) vs a.rest)
    (y : Read (N.List Of.TypesInAngles) (λ v. bare_writtens (t.writtens v) ≡ bare_writtens tys) ws b.rest) →
    Read (N.AfterTurbo At.Free) (IsFurther target) more y.rest → Named (λ x. target x (t.turbo (bare_writtens tys))) name more ls
with_types name (plain_start h) target tys ts us vs ws more ls o a b y x = read_by _ (inr (inr (inr (inl refl)))) _ x.rest (tok o T.PathName h refl (R.part (R.by _ (inr (inl refl)) _ (R.part (R.by _ (inr (inl refl)) _ (tok a T.Colons refl refl (R.part (R.by _ (inl refl) _ (tok b T.Less refl refl (R.part y.reads (R.part x.reads R.nothing)))) R.nothing))) R.nothing)) R.nothing)) (x.is _ (ident o.lexeme) (t.turbo (t.writtens y.value.value)) ∙ (λ i. target (at_nowhere (name_in (o.content i))) (t.turbo (y.is i)))) x.left
with_types name (mem_start h) target tys ts us vs ws more ls o a b y x = read_by _ (inr (inr (inr (inr (inl refl))))) _ x.rest (tok o T.Mem (ap (has_class T.Mem) h) refl (R.part (R.by _ (inr (inr (inl refl))) _ (tok a T.Colons refl refl (R.part (R.by _ (inl refl) _ (tok b T.Less refl refl (R.part y.reads (R.part x.reads R.nothing)))) R.nothing))) R.nothing)) (x.is _ (ident o.lexeme) (t.turbo (t.writtens y.value.value)) ∙ (λ i. target (at_nowhere (name_in (o.content i))) (t.turbo (y.is i)))) x.left
with_types name (std_start h) target tys ts us vs ws more ls o a b y x = read_by _ (inr (inr (inr (inr (inr (inl refl)))))) _ x.rest (tok o T.Std (ap (has_class T.Std) h) refl (R.part (R.by _ (inr (inr (inl refl))) _ (tok a T.Colons refl refl (R.part (R.by _ (inl refl) _ (tok b T.Less refl refl (R.part y.reads (R.part x.reads R.nothing)))) R.nothing))) R.nothing)) (x.is _ (ident o.lexeme) (t.turbo (t.writtens y.value.value)) ∙ (λ i. target (at_nowhere (name_in (o.content i))) (t.turbo (y.is i)))) x.left
with_types name (panic_start h) target tys ts us vs ws more ls o a b y x = read_by _ (inr (inr (inr (inr (inr (inr (inr (inl refl)))))))) _ x.rest (tok o T.PanicName h refl (R.part (R.by _ (inr (inl refl)) _ (R.part (R.by _ (inr (inl refl)) _ (tok a T.Colons refl refl (R.part (R.by _ (inl refl) _ (tok b T.Less refl refl (R.part y.reads (R.part x.reads R.nothing)))) R.nothing))) R.nothing)) R.nothing)) (x.is _ (ident o.lexeme) (t.turbo (t.writtens y.value.value)) ∙ (λ i. target (at_nowhere (name_in (o.content i))) (t.turbo (y.is i)))) x.left
with_types name (assert_start h) target tys ts us vs ws more ls o a b y x = read_by _ (inr (inr (inr (inr (inr (inr (inr (inr (inl refl))))))))) _ x.rest (tok o T.Assert (ap (has_class T.Assert) h) refl (R.part (R.by _ (inr (inl refl)) _ (R.part (R.by _ (inr (inl refl)) _ (tok a T.Colons refl refl (R.part (R.by _ (inl refl) _ (tok b T.Less refl refl (R.part y.reads (R.part x.reads R.nothing)))) R.nothing))) R.nothing)) R.nothing)) (x.is _ (ident o.lexeme) (t.turbo (t.writtens y.value.value)) ∙ (λ i. target (at_nowhere (name_in (o.content i))) (t.turbo (y.is i)))) x.left

-- a second name
pub second : (name : List ℕ) → Start (class_named name C.Other) → (next : List ℕ) → IsName next → IsNoBuiltIn name next → (target : t.Path → s.Expr) (ts us vs more : List Tok) (ls : List Lexeme) →
    (o : Off (named name) ts ls) (a : Off (mark C.Colons) us o.rest) (b : Off (named next) vs a.rest) → Called target more b.rest →
    Named (λ x. target (t.two x t.no_turbo (at_nowhere next))) name more ls
second name (plain_start h) next ok no_built_in target ts us vs more ls o a b z = let x = z.after_path in read_by _ (inr (inr (inr (inl refl)))) _ x.rest (tok o T.PathName h refl (R.part (R.by _ (inr (inl refl)) _ (R.part (R.by _ (inr (inl refl)) _ (tok a T.Colons refl refl (R.part (R.by _ (inr (inl refl)) _ (tok b T.Identifier ok refl (R.part x.reads R.nothing))) R.nothing))) R.nothing)) R.nothing)) (x.is _ (t.two (ident o.lexeme) t.no_turbo (ident b.lexeme)) ∙ (λ i. target (t.two (at_nowhere (name_in (o.content i))) t.no_turbo (at_nowhere (name_in (b.content i)))))) x.left
second name (mem_start h) next ok no_built_in target ts us vs more ls o a b z = let x = z.after_path in read_by _ (inr (inr (inr (inr (inl refl))))) _ x.rest (tok o T.Mem (ap (has_class T.Mem) h) refl (R.part (R.by _ (inr (inr (inl refl))) _ (tok a T.Colons refl refl (R.part (R.by _ (inr (inr (inl refl))) _ (tok b T.NotSwap (no_built_in h) refl (R.part x.reads R.nothing))) R.nothing))) R.nothing)) (x.is _ (t.two (ident o.lexeme) t.no_turbo (ident b.lexeme)) ∙ (λ i. target (t.two (at_nowhere (name_in (o.content i))) t.no_turbo (at_nowhere (name_in (b.content i)))))) x.left
second name (std_start h) next ok no_built_in target ts us vs more ls o a b z = by_next (mem_or_not (class_named next C.Other) ok) where
  by_next : (has_class T.NotMem (class_named next C.Other) ≡ true) ⊎ (class_named next C.Other ≡ C.Mem) → Named (λ x. target (t.two x t.no_turbo (at_nowhere next))) name more ls
  by_next (inl n) = let x = z.after_path in read_by _ (inr (inr (inr (inr (inr (inl refl)))))) _ x.rest (tok o T.Std (ap (has_class T.Std) h) refl (R.part (R.by _ (inr (inr (inl refl))) _ (tok a T.Colons refl refl (R.part (R.by _ (inr (inr (inl refl))) _ (tok b T.NotMem n refl (R.part x.reads R.nothing))) R.nothing))) R.nothing)) (x.is _ (t.two (ident o.lexeme) t.no_turbo (ident b.lexeme)) ∙ (λ i. target (t.two (at_nowhere (name_in (o.content i))) t.no_turbo (at_nowhere (name_in (b.content i)))))) x.left
  by_next (inr n) = let x = z.after_mem in read_by _ (inr (inr (inr (inr (inr (inl refl)))))) _ x.rest (tok o T.Std (ap (has_class T.Std) h) refl (R.part (R.by _ (inr (inr (inl refl))) _ (tok a T.Colons refl refl (R.part (R.by _ (inr (inl refl)) _ (tok b T.Mem (ap (has_class T.Mem) n) refl (R.part x.reads R.nothing))) R.nothing))) R.nothing)) (x.is b.lexeme _ (ident o.lexeme) ∙ (λ i. target (t.two (at_nowhere (name_in (o.content i))) t.no_turbo (at_nowhere (name_in (b.content i)))))) x.left
second name (panic_start h) next ok no_built_in target ts us vs more ls o a b z = let x = z.after_path in read_by _ (inr (inr (inr (inr (inr (inr (inr (inl refl)))))))) _ x.rest (tok o T.PanicName h refl (R.part (R.by _ (inr (inl refl)) _ (R.part (R.by _ (inr (inl refl)) _ (tok a T.Colons refl refl (R.part (R.by _ (inr (inl refl)) _ (tok b T.Identifier ok refl (R.part x.reads R.nothing))) R.nothing))) R.nothing)) R.nothing)) (x.is _ (t.two (ident o.lexeme) t.no_turbo (ident b.lexeme)) ∙ (λ i. target (t.two (at_nowhere (name_in (o.content i))) t.no_turbo (at_nowhere (name_in (b.content i)))))) x.left
second name (assert_start h) next ok no_built_in target ts us vs more ls o a b z = let x = z.after_path in read_by _ (inr (inr (inr (inr (inr (inr (inr (inr (inl refl))))))))) _ x.rest (tok o T.Assert (ap (has_class T.Assert) h) refl (R.part (R.by _ (inr (inl refl)) _ (R.part (R.by _ (inr (inl refl)) _ (tok a T.Colons refl refl (R.part (R.by _ (inr (inl refl)) _ (tok b T.Identifier ok refl (R.part x.reads R.nothing))) R.nothing))) R.nothing)) R.nothing)) (x.is _ (t.two (ident o.lexeme) t.no_turbo (ident b.lexeme)) ∙ (λ i. target (t.two (at_nowhere (name_in (o.content i))) t.no_turbo (at_nowhere (name_in (b.content i)))))) x.left

-- a second name after types
pub later : (next : List ℕ) → IsName next → (target : t.Path → s.Expr) (ts us more : List Tok) (ls : List Lexeme) →
    (a : Off (mark C.Colons) ts ls) (b : Off (named next) us a.rest) → Called target more b.rest →
    Read (N.AfterTurbo At.Free) (IsFurther (λ x tys. target (t.two x tys (at_nowhere next)))) more ls
later next ok target ts us more ls a b z =
    let x = z.after_path in
    read_by _ (inr (inl refl)) _ x.rest (tok a T.Colons refl refl (tok b T.Identifier ok refl (R.part x.reads R.nothing)))
    (λ whole name tys. x.is whole (t.two name tys (ident b.lexeme)) ∙ ap (λ c. target (t.two (bare_ident name) (bare_turbo tys) (at_nowhere (name_in c)))) b.content) x.left

-- the built-in `replace`, by its class
replace_is : (v : Calling) (target : t.Path → s.Expr) (whole path mem : Span) (class : Class) (after_std : Bool) → class ≡ class_named (codes "replace") C.Other → IsCalled target v →
    bare_expr (called whole (built_in class path mem after_std) v) ≡ target (t.mem_replace nowhere nowhere after_std)
replace_is v target whole path mem class after_std e is = is whole (built_in class path mem after_std) ∙ ap (λ c. target (bare_path (built_in c path mem after_std))) e

-- the built-in `swap`, by its class
swap_is : (v : Calling) (target : t.Path → s.Expr) (whole path mem : Span) (class : Class) (after_std : Bool) → class ≡ class_named (codes "swap") C.Other → IsCalled target v →
    bare_expr (called whole (built_in class path mem after_std) v) ≡ target (t.mem_swap nowhere nowhere after_std)
swap_is v target whole path mem class after_std e is = is whole (built_in class path mem after_std) ∙ ap (λ c. target (bare_path (built_in c path mem after_std))) e

-- a path of two names or of a built-in function, with what stands after it
pub path_called : (path : t.Path) → IsPath path → (target : t.Path → s.Expr) (at : ℕ) (ts more : List Tok) (ls : List Lexeme) → Laid at (path_tokens path ts) ls →
    ((from : ℕ) (us : List Lexeme) → Laid from ts us → Called target more us) →
    ((name : Ident) → IsName name.name → (o : Off (named name.name) ts ls) → Named (λ x. target (t.one x)) name.name more ls) → Core (target (bare_path path)) more ls
path_called (t.one name) ok target at ts more ls laid rest one = one name ok (off laid)
path_called (t.two first t.no_turbo next) ok target at ts more ls laid rest one =
    let o = off laid in
    let a = off o.left in
    let b = off a.left in
    second first.name (start (class_named first.name C.Other) ok.0) next.name ok.1.1.0 (ok.1.1.1 refl) target _ _ _ more ls o a b (rest b.at b.rest b.left)
path_called (t.two first (t.turbo tys) next) ok target at ts more ls laid rest one =
    let o = off laid in
    let a = off o.left in
    let b = off a.left in
    let y = in_angles_read tys ok.1.0 b.at _ b.rest b.left in
    let c = off y.left in
    let d = off c.left in
    with_types first.name (start (class_named first.name C.Other) ok.0) (λ x tys. target (t.two x tys (at_nowhere next.name))) tys _ _ _ _ more ls o a b y
    (later next.name ok.1.1.0 target _ _ more y.rest c d (rest d.at d.rest d.left))
path_called (t.box_new span) ok target at ts more ls laid rest one =
    let a = off laid in
    let b = off a.left in
    let c = off b.left in
    let x = (rest c.at c.rest c.left).after_path in
    read_by _ (inr (inr (inr (inr (inr (inr (inl refl))))))) _ x.rest (tok a T.Box refl refl (tok b T.Colons refl refl (tok c T.New refl refl (R.part x.reads R.nothing)))) (x.is _ _) x.left
path_called (t.mem_replace span mem false) ok target at ts more ls laid rest one =
    let a = off laid in
    let b = off a.left in
    let c = off b.left in
    let x = (rest c.at c.rest c.left).after_path in
    read_by _ (inr (inr (inr (inr (inl refl))))) _ x.rest (tok a T.Mem refl refl (R.part (R.by _ (inr (inr (inl refl))) _ (tok b T.Colons refl refl (R.part (R.by _ (inr (inl refl)) _ (tok c T.SwapName refl refl (R.part x.reads R.nothing))) R.nothing))) R.nothing)) (replace_is _ target _ _ _ _ _ c.class x.is) x.left
path_called (t.mem_replace span mem true) ok target at ts more ls laid rest one =
    let a = off laid in
    let b = off a.left in
    let c = off b.left in
    let d = off c.left in
    let e = off d.left in
    let x = (rest e.at e.rest e.left).after_path in
    read_by _ (inr (inr (inr (inr (inr (inl refl)))))) _ x.rest (tok a T.Std refl refl (R.part (R.by _ (inr (inr (inl refl))) _ (tok b T.Colons refl refl (R.part (R.by _ (inr (inl refl)) _ (tok c T.Mem refl refl (R.part (R.by _ (inr (inr (inl refl))) _ (tok d T.Colons refl refl (R.part (R.by _ (inr (inl refl)) _ (tok e T.SwapName refl refl (R.part x.reads R.nothing))) R.nothing))) R.nothing))) R.nothing))) R.nothing)) (replace_is _ target _ _ _ _ _ e.class x.is) x.left
path_called (t.mem_swap span mem false) ok target at ts more ls laid rest one =
    let a = off laid in
    let b = off a.left in
    let c = off b.left in
    let x = (rest c.at c.rest c.left).after_path in
    read_by _ (inr (inr (inr (inr (inl refl))))) _ x.rest (tok a T.Mem refl refl (R.part (R.by _ (inr (inr (inl refl))) _ (tok b T.Colons refl refl (R.part (R.by _ (inr (inl refl)) _ (tok c T.SwapName refl refl (R.part x.reads R.nothing))) R.nothing))) R.nothing)) (swap_is _ target _ _ _ _ _ c.class x.is) x.left
path_called (t.mem_swap span mem true) ok target at ts more ls laid rest one =
    let a = off laid in
    let b = off a.left in
    let c = off b.left in
    let d = off c.left in
    let e = off d.left in
    let x = (rest e.at e.rest e.left).after_path in
    read_by _ (inr (inr (inr (inr (inr (inl refl)))))) _ x.rest (tok a T.Std refl refl (R.part (R.by _ (inr (inr (inl refl))) _ (tok b T.Colons refl refl (R.part (R.by _ (inr (inl refl)) _ (tok c T.Mem refl refl (R.part (R.by _ (inr (inr (inl refl))) _ (tok d T.Colons refl refl (R.part (R.by _ (inr (inl refl)) _ (tok e T.SwapName refl refl (R.part x.reads R.nothing))) R.nothing))) R.nothing))) R.nothing))) R.nothing)) (swap_is _ target _ _ _ _ _ e.class x.is) x.left

-- a name with perhaps types, and what it is applied to
pub one_called : (name : List ℕ) → IsName name → (tys : t.Turbo) → IsTurbo tys → (target : Ident → t.Turbo → s.Expr) (ts more : List Tok) (ls : List Lexeme) → (o : Off (named name) (turbo_tokens tys ts) ls) →
    ((from : ℕ) (us : List Lexeme) → Laid from ts us → Applied target more us) → Named (λ x. target x (bare_turbo tys)) name more ls
one_called name ok t.no_turbo okt target ts more ls o f = applied name (start (class_named name C.Other) ok) target ts more ls o (f o.at o.rest o.left)
one_called name ok (t.turbo tys) okt target ts more ls o f =
    let a = off o.left in
    let b = off a.left in
    let y = in_angles_read tys okt b.at _ b.rest b.left in
    let x = f y.at y.rest y.left in
    with_types name (start (class_named name C.Other) ok) target tys _ _ _ _ more ls o a b y (read_by _ (inl refl) _ x.rest (R.part x.reads R.nothing) x.is x.left)
