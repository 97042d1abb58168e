-- Types are read of their tokens.
use Rattle.std.proofs.Common.{◌≡◌, refl, ap, ◌∙◌, inl, inr, ℕ, Bool, true, false, List, ◌∷◌, if◌then◌else◌}
use Rattle.table_reader.specs.Reading as R
use Rattle.source_grammar.specs.declared.class.Class.{Class}
use Rattle.source_grammar.specs.declared.class.Class.TheVariants as C
use Rattle.source_grammar.specs.declared.lexeme.Content.{Content}
use Rattle.source_grammar.specs.declared.lexeme.Lexeme.{Lexeme}
use Rattle.source_grammar.specs.declared.terminal.Terminal.TheVariants as T
use Rattle.source_grammar.specs.declared.part.Part.TheVariants as N
use Rattle.source_grammar.specs.declared.part.Listed.TheVariants as Of
use Rattle.rust_ast.specs.SourceTypes as t
use Rattle.rust_ast.specs.declared.ident.Ident.{Ident}
use Rattle.source_ways.specs.Says.{name_in, int_type_in, is_class}
use Rattle.rust_printer.specs.Tok.{Tok, mark}
use Rattle.rust_printer.specs.WordTokens.{mut_tokens}
use Rattle.rust_printer.specs.TypeTokens.{lifetime_tokens, type_tokens, arguments_tokens, types_tokens}
use Rattle.rust_printer.specs.Bare.{bare_lifetime, bare_written, bare_writtens, nowhere}
use Rattle.rust_printer.specs.Laid.{Laid}
use Rattle.rust_printer.proofs.Printable.{IsType, AreTypes}
use Rattle.rust_printer.proofs.ReadCommon.{Read, read_by, off, tok, tok_end}

-- a name that stands nowhere
abbrev pub at_nowhere : List ℕ → Ident
at_nowhere name = record { name = name; span = nowhere }

pub mut_read : (mutable : Bool) (at : ℕ) (more : List Tok) (ls : List Lexeme) → Laid at (mut_tokens mutable more) ls → Read N.BorrowMut (λ v. v ≡ mutable) more ls
mut_read true at more ls laid = let o = off laid in read_by _ (inr (inl refl)) _ o.rest (tok o T.Mut refl refl R.nothing) refl o.left
mut_read false at more ls laid = read_by _ (inl refl) _ ls R.nothing refl laid

abbrev life_of : Class → Content → t.Lifetime
life_of class content = if is_class class C.Elided then t.elided else t.lifetime (at_nowhere (name_in content))

same_life : (class : Class) (content : Content) (l : Lexeme) → bare_lifetime (if is_class class C.Elided then t.elided else t.lifetime (record { name = name_in content; span = l.span })) ≡ life_of class content
same_life class content l = by_test (is_class class C.Elided) (name_in content) l where
  by_test : (test : Bool) (name : List ℕ) (l : Lexeme) → bare_lifetime (if test then t.elided else t.lifetime (record { name = name; span = l.span })) ≡ (if test then t.elided else t.lifetime (at_nowhere name))
  by_test true name l = refl
  by_test false name l = refl

pub lifetime_read : (life : t.Lifetime) (at : ℕ) (more : List Tok) (ls : List Lexeme) → Laid at (lifetime_tokens life more) ls →
    Read N.BorrowLifetime (λ v. bare_lifetime v ≡ bare_lifetime life) more ls
lifetime_read t.elided at more ls laid = read_by _ (inl refl) _ ls R.nothing refl laid
lifetime_read (t.lifetime name) at more ls laid =
    let o = off laid in
    read_by _ (inr (inl refl)) _ o.rest (tok o T.AnyLifetime refl refl R.nothing)
    (same_life o.lexeme.class o.lexeme.content o.lexeme ∙ (λ i. life_of (o.class i) (o.content i))) o.left

mutual
  pub type_read : (ty : t.Written) → IsType ty → (at : ℕ) (more : List Tok) (ls : List Lexeme) → Laid at (type_tokens ty more) ls → Read N.Type (λ v. bare_written v ≡ bare_written ty) more ls
  type_read (t.int span ty) ok at more ls laid =
      let o = off laid in
      read_by _ (inl refl) _ o.rest (tok o T.IntWord refl refl R.nothing) (ap (λ x. t.int nowhere (int_type_in x)) o.content) o.left
  type_read (t.bool span) ok at more ls laid =
      let o = off laid in
      read_by _ (inr (inl refl)) _ o.rest (tok o T.Bool refl refl R.nothing) refl o.left
  type_read (t.unit span) ok at more ls laid =
      let a = off laid in
      let b = off a.left in
      read_by _ (inr (inr (inl refl))) _ b.rest (tok a T.OpenBracket refl refl (R.part (R.by _ (inl refl) _ (tok b T.CloseBracket refl refl R.nothing)) R.nothing)) refl b.left
  type_read (t.tuple span t.no_writtens) ok at more ls laid = absurd ok.0
  type_read (t.tuple span (t.more_writtens one t.no_writtens)) ok at more ls laid = absurd ok.0
  type_read (t.tuple span (t.more_writtens one (t.more_writtens two rest))) ok at more ls laid =
      let a = off laid in
      let x = type_read one ok.1.0 a.at _ a.rest a.left in
      let b = off x.left in
      let y = type_read two ok.1.1.0 b.at _ b.rest b.left in
      let c = off y.left in
      let z = types_read rest ok.1.1.1 c.at more c.rest c.left in
      read_by _ (inr (inr (inl refl))) _ z.rest
      (tok a T.OpenBracket refl refl (R.part (R.by _ (inr (inl refl)) _ (R.part x.reads (R.part (R.by _ (inr (inl refl)) _
      (tok b T.Comma refl refl (R.part y.reads (R.part (R.by _ (inr (inl refl)) _ (tok c T.Comma refl refl (R.part z.reads R.nothing))) R.nothing)))) R.nothing))) R.nothing))
      (λ i. t.tuple nowhere (t.more_writtens (x.is i) (t.more_writtens (y.is i) (z.is i)))) z.left
  type_read (t.ref span life mutable ty) ok at more ls laid =
      let o = off laid in
      let x = lifetime_read life o.at _ o.rest o.left in
      let y = mut_read mutable x.at _ x.rest x.left in
      let z = type_read ty ok y.at more y.rest y.left in
      read_by _ (inr (inr (inr (inl refl)))) _ z.rest (tok o T.And refl refl (R.part x.reads (R.part y.reads (R.part z.reads R.nothing))))
      (λ i. t.ref nowhere (x.is i) (y.is i) (z.is i)) z.left
  type_read (t.boxed span ty) ok at more ls laid =
      let a = off laid in
      let b = off a.left in
      let x = type_read ty ok b.at _ b.rest b.left in
      let c = off x.left in
      read_by _ (inr (inr (inr (inr (inl refl))))) _ c.rest (tok a T.Box refl refl (tok b T.Less refl refl (R.part x.reads (tok_end c R.nothing))))
      (λ i. t.boxed nowhere (x.is i)) c.left
  type_read (t.named span name args) ok at more ls laid =
      let o = off laid in
      let x = arguments_read args ok.1 o.at more o.rest o.left in
      read_by _ (inr (inr (inr (inr (inr (inl refl)))))) _ x.rest (tok o T.Identifier ok.0 refl (R.part x.reads R.nothing))
      (λ i. t.named nowhere (at_nowhere (name_in (o.content i))) (x.is i)) x.left

  pub arguments_read : (args : t.Writtens) → AreTypes args → (at : ℕ) (more : List Tok) (ls : List Lexeme) → Laid at (arguments_tokens args more) ls →
      Read N.TypeArguments (λ v. bare_writtens (t.writtens v) ≡ bare_writtens args) more ls
  arguments_read t.no_writtens ok at more ls laid = read_by _ (inl refl) _ ls R.nothing refl laid
  arguments_read (t.more_writtens one rest) ok at more ls laid =
      let a = off laid in
      let x = type_read one ok.0 a.at _ a.rest a.left in
      let b = off x.left in
      let z = in_angles_read rest ok.1 b.at more b.rest b.left in
      read_by _ (inr (inl refl)) _ z.rest
      (tok a T.Less refl refl (R.part (R.by _ (inr (inl refl)) _ (R.part x.reads (R.part (R.by _ (inr (inl refl)) _ (tok b T.Comma refl refl (R.part z.reads R.nothing))) R.nothing))) R.nothing))
      (λ i. t.more_writtens (x.is i) (z.is i)) z.left

  pub types_read : (tys : t.Writtens) → AreTypes tys → (at : ℕ) (more : List Tok) (ls : List Lexeme) → Laid at (types_tokens tys (mark C.CloseBracket ∷ more)) ls →
      Read (N.List Of.Types) (λ v. bare_writtens (t.writtens v) ≡ bare_writtens tys) more ls
  types_read t.no_writtens ok at more ls laid = let o = off laid in read_by _ (inl refl) _ o.rest (tok o T.CloseBracket refl refl R.nothing) refl o.left
  types_read (t.more_writtens one rest) ok at more ls laid =
      let x = type_read one ok.0 at _ ls laid in
      let b = off x.left in
      let z = types_read rest ok.1 b.at more b.rest b.left in
      read_by _ (inr (inl refl)) _ z.rest (R.part x.reads (R.part (R.by _ (inr (inl refl)) _ (tok b T.Comma refl refl (R.part z.reads R.nothing))) R.nothing))
      (λ i. t.more_writtens (x.is i) (z.is i)) z.left

  pub in_angles_read : (tys : t.Writtens) → AreTypes tys → (at : ℕ) (more : List Tok) (ls : List Lexeme) → Laid at (types_tokens tys (mark C.Greater ∷ more)) ls →
      Read (N.List Of.TypesInAngles) (λ v. bare_writtens (t.writtens v) ≡ bare_writtens tys) more ls
  in_angles_read t.no_writtens ok at more ls laid = let o = off laid in read_by _ (inl refl) _ o.rest (tok_end o R.nothing) refl o.left
  in_angles_read (t.more_writtens one rest) ok at more ls laid =
      let x = type_read one ok.0 at _ ls laid in
      let b = off x.left in
      let z = in_angles_read rest ok.1 b.at more b.rest b.left in
      read_by _ (inr (inl refl)) _ z.rest (R.part x.reads (R.part (R.by _ (inr (inl refl)) _ (tok b T.Comma refl refl (R.part z.reads R.nothing))) R.nothing))
      (λ i. t.more_writtens (x.is i) (z.is i)) z.left
