-- Patterns are read of their tokens.
use Rattle.std.proofs.Common.{◌≡◌, ◌⊎◌, refl, ap, ◌∙◌, inl, inr, ℕ, Bool, true, false, List, ◌∷◌, codes}
use Rattle.table_reader.specs.Reading as R
use Rattle.source_grammar.specs.declared.class.Class.{Class}
use Rattle.source_grammar.specs.declared.class.Class.TheVariants as C
use Rattle.source_grammar.specs.declared.lexeme.Content.{Content}
use Rattle.source_grammar.specs.declared.lexeme.Content.TheVariants as says
use Rattle.source_grammar.specs.declared.lexeme.Lexeme.{Lexeme}
use Rattle.source_grammar.specs.declared.terminal.Terminal.TheVariants as T
use Rattle.source_grammar.specs.declared.part.Part.TheVariants as N
use Rattle.source_grammar.specs.declared.part.Listed.TheVariants as Of
use Rattle.source_grammar.specs.Lexemes.{has_class}
use Rattle.source_grammar.specs.Spelled.{class_named}
use Rattle.aen_base.specs.declared.span.Span.{Span}
use Rattle.rust_ast.specs.SourceTypes as t
use Rattle.rust_ast.specs.SourcePatterns as p
use Rattle.rust_ast.specs.Patterns as suffixes
use Rattle.source_ways.specs.declared.constructors.Given.{Given}
use Rattle.source_ways.specs.Says.{ident, name_in, number_in, is_class}
use Rattle.source_ways.specs.PathNodes.{built_in}
use Rattle.source_ways.specs.Patterns.{with_parts}
use Rattle.rust_printer.specs.Tok.{Tok, mark, named}
use Rattle.rust_printer.specs.TypeTokens.{path_tokens}
use Rattle.rust_printer.specs.PatternTokens.{pattern_tokens, field_pattern_tokens, patterns_tokens, field_patterns_tokens}
use Rattle.rust_printer.specs.Bare.{bare_path, bare_writtens, bare_pat, bare_fieldpat, bare_pats, bare_fieldpats, nowhere}
use Rattle.rust_printer.specs.Laid.{Laid}
use Rattle.rust_printer.proofs.Printable.{IsName, IsPath, IsNoBuiltIn, IsPattern, IsFieldPattern, ArePatterns, AreFieldPatterns}
use Rattle.rust_printer.proofs.ReadCommon.{Read, read_by, Off, off, tok}
use Rattle.rust_printer.proofs.ReadTypes.{at_nowhere, in_angles_read}
use Rattle.rust_printer.proofs.Starts.{PatternStart, plain_pattern, mem_pattern, std_pattern, pattern_start, mem_or_not}

abbrev pub Pattern : p.Pat → List Tok → List Lexeme → Type 0
Pattern pat more ls = Read N.Pattern (λ v. bare_pat v ≡ pat) more ls

-- what a path makes with its parts
abbrev pub IsGiven : (t.Path → p.Pat) → Given → Type 0
IsGiven target v = (whole : Span) (path : t.Path) → bare_pat (with_parts whole path v) ≡ target (bare_path path)

abbrev pub Parts : (t.Path → p.Pat) → List Tok → List Lexeme → Type 0
Parts target more ls = Read N.GivenParts (IsGiven target) more ls

-- a name alone
lone_read : (name : List ℕ) → PatternStart (class_named name C.Other) → (more : List Tok) (ls : List Lexeme) → (o : Off (named name) more ls) → Pattern (p.lone (at_nowhere name)) more ls
lone_read name (plain_pattern h) more ls o = read_by _ (inr (inr (inr (inr (inr (inr (inl refl))))))) _ o.rest (tok o T.PatternName h refl (R.part (R.by _ (inl refl) _ (R.nothing)) R.nothing)) (λ i. p.lone (at_nowhere (name_in (o.content i)))) o.left
lone_read name (mem_pattern h) more ls o = read_by _ (inr (inr (inr (inr (inr (inr (inr (inl refl)))))))) _ o.rest (tok o T.Mem (ap (has_class T.Mem) h) refl (R.part (R.by _ (inl refl) _ (R.nothing)) R.nothing)) (λ i. p.lone (at_nowhere (name_in (o.content i)))) o.left
lone_read name (std_pattern h) more ls o = read_by _ (inr (inr (inr (inr (inr (inr (inr (inr (inl refl))))))))) _ o.rest (tok o T.Std (ap (has_class T.Std) h) refl (R.part (R.by _ (inl refl) _ (R.nothing)) R.nothing)) (λ i. p.lone (at_nowhere (name_in (o.content i)))) o.left

-- a name with parts
one_read : (name : List ℕ) → PatternStart (class_named name C.Other) → (target : t.Path → p.Pat) (ts more : List Tok) (ls : List Lexeme) → (o : Off (named name) ts ls) → Parts target more o.rest →
    Pattern (target (t.one (at_nowhere name))) more ls
one_read name (plain_pattern h) target ts more ls o x = read_by _ (inr (inr (inr (inr (inr (inr (inl refl))))))) _ x.rest (tok o T.PatternName h refl (R.part (R.by _ (inr (inl refl)) _ (R.part x.reads R.nothing)) R.nothing)) (x.is _ (t.one (ident o.lexeme)) ∙ ap (λ c. target (t.one (at_nowhere (name_in c)))) o.content) x.left
one_read name (mem_pattern h) target ts more ls o x = read_by _ (inr (inr (inr (inr (inr (inr (inr (inl refl)))))))) _ x.rest (tok o T.Mem (ap (has_class T.Mem) h) refl (R.part (R.by _ (inr (inl refl)) _ (R.part x.reads R.nothing)) R.nothing)) (x.is _ (t.one (ident o.lexeme)) ∙ ap (λ c. target (t.one (at_nowhere (name_in c)))) o.content) x.left
one_read name (std_pattern h) target ts more ls o x = read_by _ (inr (inr (inr (inr (inr (inr (inr (inr (inl refl))))))))) _ x.rest (tok o T.Std (ap (has_class T.Std) h) refl (R.part (R.by _ (inr (inl refl)) _ (R.part x.reads R.nothing)) R.nothing)) (x.is _ (t.one (ident o.lexeme)) ∙ ap (λ c. target (t.one (at_nowhere (name_in c)))) o.content) x.left

-- two names
two_read : (name : List ℕ) → PatternStart (class_named name C.Other) → (next : List ℕ) → IsName next → IsNoBuiltIn name next → (target : t.Path → p.Pat) (ts us vs more : List Tok) (ls : List Lexeme) →
    (o : Off (named name) ts ls) (a : Off (mark C.Colons) us o.rest) (b : Off (named next) vs a.rest) → Parts target more b.rest →
    Pattern (target (t.two (at_nowhere name) t.no_turbo (at_nowhere next))) more ls
two_read name (plain_pattern h) next ok free target ts us vs more ls o a b x = read_by _ (inr (inr (inr (inr (inr (inr (inl refl))))))) _ x.rest (tok o T.PatternName h refl (R.part (R.by _ (inr (inr (inl refl))) _ (tok a T.Colons refl refl (R.part (R.by _ (inr (inl refl)) _ (tok b T.Identifier ok refl (R.part (R.by _ (inr (inl refl)) _ (R.part x.reads R.nothing)) R.nothing))) R.nothing))) R.nothing)) (x.is _ (t.two (ident o.lexeme) t.no_turbo (ident b.lexeme)) ∙ (λ i. target (t.two (at_nowhere (name_in (o.content i))) t.no_turbo (at_nowhere (name_in (b.content i)))))) x.left
two_read name (mem_pattern h) next ok free target ts us vs more ls o a b x = read_by _ (inr (inr (inr (inr (inr (inr (inr (inl refl)))))))) _ x.rest (tok o T.Mem (ap (has_class T.Mem) h) refl (R.part (R.by _ (inr (inr (inl refl))) _ (tok a T.Colons refl refl (R.part (R.by _ (inr (inr (inl refl))) _ (tok b T.NotSwap (free h) refl (R.part (R.by _ (inr (inl refl)) _ (R.part x.reads R.nothing)) R.nothing))) R.nothing))) R.nothing)) (x.is _ (t.two (ident o.lexeme) t.no_turbo (ident b.lexeme)) ∙ (λ i. target (t.two (at_nowhere (name_in (o.content i))) t.no_turbo (at_nowhere (name_in (b.content i)))))) x.left
two_read name (std_pattern h) next ok free target ts us vs more ls o a b x = by_next (mem_or_not (class_named next C.Other) ok) where
  by_next : (has_class T.NotMem (class_named next C.Other) ≡ true) ⊎ (class_named next C.Other ≡ C.Mem) → Pattern (target (t.two (at_nowhere name) t.no_turbo (at_nowhere next))) more ls
  by_next (inl n) = read_by _ (inr (inr (inr (inr (inr (inr (inr (inr (inl refl))))))))) _ x.rest (tok o T.Std (ap (has_class T.Std) h) refl (R.part (R.by _ (inr (inr (inl refl))) _ (tok a T.Colons refl refl (R.part (R.by _ (inr (inr (inl refl))) _ (tok b T.NotMem n refl (R.part (R.by _ (inr (inl refl)) _ (R.part x.reads R.nothing)) R.nothing))) R.nothing))) R.nothing)) (x.is _ (t.two (ident o.lexeme) t.no_turbo (ident b.lexeme)) ∙ (λ i. target (t.two (at_nowhere (name_in (o.content i))) t.no_turbo (at_nowhere (name_in (b.content i)))))) x.left
  by_next (inr n) = read_by _ (inr (inr (inr (inr (inr (inr (inr (inr (inl refl))))))))) _ x.rest (tok o T.Std (ap (has_class T.Std) h) refl (R.part (R.by _ (inr (inr (inl refl))) _ (tok a T.Colons refl refl (R.part (R.by _ (inr (inl refl)) _ (tok b T.Mem (ap (has_class T.Mem) n) refl (R.part (R.by _ (inr (inl refl)) _ (R.part x.reads R.nothing)) R.nothing))) R.nothing))) R.nothing)) (x.is _ (t.two (ident o.lexeme) t.no_turbo (ident b.lexeme)) ∙ (λ i. target (t.two (at_nowhere (name_in (o.content i))) t.no_turbo (at_nowhere (name_in (b.content i)))))) x.left

-- two names with types between
typed_read : (name : List ℕ) → PatternStart (class_named name C.Other) → (next : List ℕ) → IsName next → (target : t.Path → p.Pat) (tys : t.Writtens) (ts us vs ws xs ys more : List Tok) (ls : List Lexeme) →
    (o : Off (named name) ts ls) (a : Off (mark C.Colons) us o.rest) (b : Off (mark C.Less) vs a.rest)
    (y : Read (N.List Of.TypesInAngles) (λ v. bare_writtens (t.writtens v) ≡ bare_writtens tys) ws b.rest)
    (c : Off (mark C.Colons) xs y.rest) (d : Off (named next) ys c.rest) → Parts target more d.rest →
    Pattern (target (t.two (at_nowhere name) (t.turbo (bare_writtens tys)) (at_nowhere next))) more ls
typed_read name (plain_pattern h) next ok target tys ts us vs ws xs ys more ls o a b y c d x = read_by _ (inr (inr (inr (inr (inr (inr (inl refl))))))) _ x.rest (tok o T.PatternName h refl (R.part (R.by _ (inr (inr (inl refl))) _ (tok a T.Colons refl refl (R.part (R.by _ (inl refl) _ (tok b T.Less refl refl (R.part y.reads (tok c T.Colons refl refl (tok d T.Identifier ok refl (R.part (R.by _ (inr (inl refl)) _ (R.part x.reads R.nothing)) R.nothing)))))) R.nothing))) R.nothing)) (x.is _ (t.two (ident o.lexeme) (t.turbo (t.writtens y.value.value)) (ident d.lexeme)) ∙ (λ i. target (t.two (at_nowhere (name_in (o.content i))) (t.turbo (y.is i)) (at_nowhere (name_in (d.content i)))))) x.left
typed_read name (mem_pattern h) next ok target tys ts us vs ws xs ys more ls o a b y c d x = read_by _ (inr (inr (inr (inr (inr (inr (inr (inl refl)))))))) _ x.rest (tok o T.Mem (ap (has_class T.Mem) h) refl (R.part (R.by _ (inr (inr (inl refl))) _ (tok a T.Colons refl refl (R.part (R.by _ (inl refl) _ (tok b T.Less refl refl (R.part y.reads (tok c T.Colons refl refl (tok d T.Identifier ok refl (R.part (R.by _ (inr (inl refl)) _ (R.part x.reads R.nothing)) R.nothing)))))) R.nothing))) R.nothing)) (x.is _ (t.two (ident o.lexeme) (t.turbo (t.writtens y.value.value)) (ident d.lexeme)) ∙ (λ i. target (t.two (at_nowhere (name_in (o.content i))) (t.turbo (y.is i)) (at_nowhere (name_in (d.content i)))))) x.left
typed_read name (std_pattern h) next ok target tys ts us vs ws xs ys more ls o a b y c d x = read_by _ (inr (inr (inr (inr (inr (inr (inr (inr (inl refl))))))))) _ x.rest (tok o T.Std (ap (has_class T.Std) h) refl (R.part (R.by _ (inr (inr (inl refl))) _ (tok a T.Colons refl refl (R.part (R.by _ (inl refl) _ (tok b T.Less refl refl (R.part y.reads (tok c T.Colons refl refl (tok d T.Identifier ok refl (R.part (R.by _ (inr (inl refl)) _ (R.part x.reads R.nothing)) R.nothing)))))) R.nothing))) R.nothing)) (x.is _ (t.two (ident o.lexeme) (t.turbo (t.writtens y.value.value)) (ident d.lexeme)) ∙ (λ i. target (t.two (at_nowhere (name_in (o.content i))) (t.turbo (y.is i)) (at_nowhere (name_in (d.content i)))))) x.left

replace_is : (v : Given) (target : t.Path → p.Pat) (whole path mem : Span) (class : Class) (after_std : Bool) → class ≡ class_named (codes "replace") C.Other → IsGiven target v →
    bare_pat (with_parts whole (built_in class path mem after_std) v) ≡ target (t.mem_replace nowhere nowhere after_std)
replace_is v target whole path mem class after_std e is = is whole (built_in class path mem after_std) ∙ ap (λ c. target (bare_path (built_in c path mem after_std))) e

swap_is : (v : Given) (target : t.Path → p.Pat) (whole path mem : Span) (class : Class) (after_std : Bool) → class ≡ class_named (codes "swap") C.Other → IsGiven target v →
    bare_pat (with_parts whole (built_in class path mem after_std) v) ≡ target (t.mem_swap nowhere nowhere after_std)
swap_is v target whole path mem class after_std e is = is whole (built_in class path mem after_std) ∙ ap (λ c. target (bare_path (built_in c path mem after_std))) e

-- a path with parts
with_path : (path : t.Path) → IsPath path → (target : t.Path → p.Pat) (at : ℕ) (ts more : List Tok) (ls : List Lexeme) → Laid at (path_tokens path ts) ls →
    ((from : ℕ) (us : List Lexeme) → Laid from ts us → Parts target more us) → Pattern (target (bare_path path)) more ls
with_path (t.one name) ok target at ts more ls laid rest =
    let o = off laid in one_read name.name (pattern_start (class_named name.name C.Other) ok) target ts more ls o (rest o.at o.rest o.left)
with_path (t.two first t.no_turbo next) ok target at ts more ls laid rest =
    let o = off laid in
    let a = off o.left in
    let b = off a.left in
    two_read first.name (pattern_start (class_named first.name C.Other) ok.0) next.name ok.1.1.0 (ok.1.1.1 refl) target _ _ _ more ls o a b (rest b.at b.rest b.left)
with_path (t.two first (t.turbo tys) next) ok target at ts more ls laid rest =
    let o = off laid in
    let a = off o.left in
    let b = off a.left in
    let y = in_angles_read tys ok.1.0 b.at _ b.rest b.left in
    let c = off y.left in
    let d = off c.left in
    typed_read first.name (pattern_start (class_named first.name C.Other) ok.0) next.name ok.1.1.0 target tys _ _ _ _ _ _ more ls o a b y c d (rest d.at d.rest d.left)
with_path (t.box_new span) ok target at ts more ls laid rest =
    let a = off laid in
    let b = off a.left in
    let c = off b.left in
    let x = rest c.at c.rest c.left in
    read_by _ (inr (inr (inr (inr (inr (inr (inr (inr (inr (inl refl)))))))))) _ x.rest (tok a T.Box refl refl (tok b T.Colons refl refl (tok c T.New refl refl (R.part (R.by _ (inr (inl refl)) _ (R.part x.reads R.nothing)) R.nothing)))) (x.is _ _) x.left
with_path (t.mem_replace span mem false) ok target at ts more ls laid rest =
    let a = off laid in
    let b = off a.left in
    let c = off b.left in
    let x = rest c.at c.rest c.left in
    read_by _ (inr (inr (inr (inr (inr (inr (inr (inl refl)))))))) _ x.rest (tok a T.Mem refl refl (R.part (R.by _ (inr (inr (inl refl))) _ (tok b T.Colons refl refl (R.part (R.by _ (inr (inl refl)) _ (tok c T.SwapName refl refl (R.part (R.by _ (inr (inl refl)) _ (R.part x.reads R.nothing)) R.nothing))) R.nothing))) R.nothing)) (replace_is _ target _ _ _ _ false c.class x.is) x.left
with_path (t.mem_replace span mem true) ok target at ts more ls laid rest =
    let a = off laid in
    let b = off a.left in
    let c = off b.left in
    let d = off c.left in
    let e = off d.left in
    let x = rest e.at e.rest e.left in
    read_by _ (inr (inr (inr (inr (inr (inr (inr (inr (inl refl))))))))) _ x.rest (tok a T.Std refl refl (R.part (R.by _ (inr (inr (inl refl))) _ (tok b T.Colons refl refl (R.part (R.by _ (inr (inl refl)) _ (tok c T.Mem refl refl (R.part (R.by _ (inr (inr (inl refl))) _ (tok d T.Colons refl refl (tok e T.SwapName refl refl (R.part (R.by _ (inr (inl refl)) _ (R.part x.reads R.nothing)) R.nothing)))) R.nothing))) R.nothing))) R.nothing)) (replace_is _ target _ _ _ _ true e.class x.is) x.left
with_path (t.mem_swap span mem false) ok target at ts more ls laid rest =
    let a = off laid in
    let b = off a.left in
    let c = off b.left in
    let x = rest c.at c.rest c.left in
    read_by _ (inr (inr (inr (inr (inr (inr (inr (inl refl)))))))) _ x.rest (tok a T.Mem refl refl (R.part (R.by _ (inr (inr (inl refl))) _ (tok b T.Colons refl refl (R.part (R.by _ (inr (inl refl)) _ (tok c T.SwapName refl refl (R.part (R.by _ (inr (inl refl)) _ (R.part x.reads R.nothing)) R.nothing))) R.nothing))) R.nothing)) (swap_is _ target _ _ _ _ false c.class x.is) x.left
with_path (t.mem_swap span mem true) ok target at ts more ls laid rest =
    let a = off laid in
    let b = off a.left in
    let c = off b.left in
    let d = off c.left in
    let e = off d.left in
    let x = rest e.at e.rest e.left in
    read_by _ (inr (inr (inr (inr (inr (inr (inr (inr (inl refl))))))))) _ x.rest (tok a T.Std refl refl (R.part (R.by _ (inr (inr (inl refl))) _ (tok b T.Colons refl refl (R.part (R.by _ (inr (inl refl)) _ (tok c T.Mem refl refl (R.part (R.by _ (inr (inr (inl refl))) _ (tok d T.Colons refl refl (tok e T.SwapName refl refl (R.part (R.by _ (inr (inl refl)) _ (R.part x.reads R.nothing)) R.nothing)))) R.nothing))) R.nothing))) R.nothing)) (swap_is _ target _ _ _ _ true e.class x.is) x.left

-- an integer, by what its lexeme says
number_is : (negative : Bool) (size : ℕ) (suffix : suffixes.Suffix) (content : Content) → content ≡ says.Number size (suffixes.suffix_option suffix) →
    p.number nowhere negative (number_in content).0 (suffixes.suffix (number_in content).1) ≡ p.number nowhere negative size suffix
number_is negative size suffixes.no_suffix content e = ap (λ c. p.number nowhere negative (number_in c).0 (suffixes.suffix (number_in c).1)) e
number_is negative size (suffixes.some_suffix ty) content e = ap (λ c. p.number nowhere negative (number_in c).0 (suffixes.suffix (number_in c).1)) e

mutual
  pub pattern_read : (pat : p.Pat) → IsPattern pat → (at : ℕ) (more : List Tok) (ls : List Lexeme) → Laid at (pattern_tokens pat more) ls → Pattern (bare_pat pat) more ls
  pattern_read (p.wild span) ok at more ls laid = let o = off laid in read_by _ (inl refl) _ o.rest (tok o T.Wild refl refl R.nothing) refl o.left
  pattern_read (p.lone name) ok at more ls laid = lone_read name.name (pattern_start (class_named name.name C.Other) ok) more ls (off laid)
  pattern_read (p.mut_bind span name) ok at more ls laid =
      let a = off laid in
      let b = off a.left in
      read_by _ (inr (inl refl)) _ b.rest (tok a T.Mut refl refl (tok b T.Identifier ok refl R.nothing)) (λ i. p.mut_bind nowhere (at_nowhere (name_in (b.content i)))) b.left
  pattern_read (p.number span true size suffix) ok at more ls laid =
      let a = off laid in
      let b = off a.left in
      read_by _ (inr (inr (inl refl))) _ b.rest (tok a T.Minus refl refl (tok b T.Integer refl refl R.nothing)) (number_is true size suffix b.lexeme.content b.content) b.left
  pattern_read (p.number span false size suffix) ok at more ls laid =
      let o = off laid in
      read_by _ (inr (inr (inr (inl refl)))) _ o.rest (tok o T.Integer refl refl R.nothing) (number_is false size suffix o.lexeme.content o.content) o.left
  pattern_read (p.truth span true) ok at more ls laid =
      let o = off laid in read_by _ (inr (inr (inr (inr (inl refl))))) _ o.rest (tok o T.BoolLiteral refl refl R.nothing) (ap (λ c. p.truth nowhere (is_class c C.True)) o.class) o.left
  pattern_read (p.truth span false) ok at more ls laid =
      let o = off laid in read_by _ (inr (inr (inr (inr (inl refl))))) _ o.rest (tok o T.BoolLiteral refl refl R.nothing) (ap (λ c. p.truth nowhere (is_class c C.True)) o.class) o.left
  pattern_read (p.tuple span p.no_pats) ok at more ls laid =
      let a = off laid in
      let b = off a.left in
      read_by _ (inr (inr (inr (inr (inr (inl refl)))))) _ b.rest (tok a T.OpenBracket refl refl (R.part (R.by _ (inl refl) _ (tok b T.CloseBracket refl refl R.nothing)) R.nothing)) refl b.left
  pattern_read (p.tuple span (p.more_pats one p.no_pats)) ok at more ls laid = absurd ok.0
  pattern_read (p.tuple span (p.more_pats one (p.more_pats two rest))) ok at more ls laid =
      let a = off laid in
      let x = pattern_read one ok.1.0 a.at _ a.rest a.left in
      let b = off x.left in
      let y = pattern_read two ok.1.1.0 b.at _ b.rest b.left in
      let c = off y.left in
      let z = patterns_read rest ok.1.1.1 c.at more c.rest c.left in
      read_by _ (inr (inr (inr (inr (inr (inl refl)))))) _ z.rest (tok a T.OpenBracket refl refl (R.part (R.by _ (inr (inl refl)) _ (R.part x.reads (R.part (R.by _ (inr (inl refl)) _
      (tok b T.Comma refl refl (R.part y.reads (R.part (R.by _ (inr (inl refl)) _ (tok c T.Comma refl refl (R.part z.reads R.nothing))) R.nothing)))) R.nothing))) R.nothing))
      (λ i. p.tuple nowhere (p.more_pats (x.is i) (p.more_pats (y.is i) (z.is i)))) z.left
  pattern_read (p.construct span path parts) ok at more ls laid =
      with_path path ok.0 (λ q. p.construct nowhere q (bare_pats parts)) at _ more ls laid
      (λ from us l.
      let a = off l in
      let x = patterns_read parts ok.1 a.at more a.rest a.left in
      read_by _ (inl refl) _ x.rest (tok a T.OpenBracket refl refl (R.part x.reads R.nothing)) (λ whole q i. p.construct nowhere (bare_path q) (x.is i)) x.left)
  pattern_read (p.literal span path parts) ok at more ls laid =
      with_path path ok.0 (λ q. p.literal nowhere q (bare_fieldpats parts)) at _ more ls laid
      (λ from us l.
      let a = off l in
      let x = field_patterns_read parts ok.1 a.at more a.rest a.left in
      read_by _ (inr (inl refl)) _ x.rest (tok a T.OpenBrace refl refl (R.part x.reads R.nothing)) (λ whole q i. p.literal nowhere (bare_path q) (x.is i)) x.left)

  pub field_pattern_read : (pat : p.FieldPat) → IsFieldPattern pat → (at : ℕ) (more : List Tok) (ls : List Lexeme) → Laid at (field_pattern_tokens pat more) ls →
      Read N.FieldPattern (λ v. bare_fieldpat v ≡ bare_fieldpat pat) more ls
  field_pattern_read (p.short name) ok at more ls laid =
      let o = off laid in read_by _ (inl refl) _ o.rest (tok o T.Identifier ok refl (R.part (R.by _ (inl refl) _ (R.nothing)) R.nothing)) (λ i. p.short (at_nowhere (name_in (o.content i)))) o.left
  field_pattern_read (p.given span name pat) ok at more ls laid =
      let o = off laid in
      let a = off o.left in
      let x = pattern_read pat ok.1 a.at more a.rest a.left in
      read_by _ (inl refl) _ x.rest (tok o T.Identifier ok.0 refl (R.part (R.by _ (inr (inl refl)) _ (tok a T.Colon refl refl (R.part x.reads R.nothing))) R.nothing))
      (λ i. p.given nowhere (name_in (o.content i)) (x.is i)) x.left

  pub patterns_read : (pats : p.Pats) → ArePatterns pats → (at : ℕ) (more : List Tok) (ls : List Lexeme) → Laid at (patterns_tokens pats (mark C.CloseBracket ∷ more)) ls →
      Read (N.List Of.Patterns) (λ v. bare_pats (p.pats v) ≡ bare_pats pats) more ls
  patterns_read p.no_pats ok at more ls laid = let o = off laid in read_by _ (inl refl) _ o.rest (tok o T.CloseBracket refl refl R.nothing) refl o.left
  patterns_read (p.more_pats one rest) ok at more ls laid =
      let x = pattern_read one ok.0 at _ ls laid in
      let b = off x.left in
      let z = patterns_read rest ok.1 b.at more b.rest b.left in
      read_by _ (inr (inl refl)) _ z.rest (R.part x.reads (R.part (R.by _ (inr (inl refl)) _ (tok b T.Comma refl refl (R.part z.reads R.nothing))) R.nothing))
      (λ i. p.more_pats (x.is i) (z.is i)) z.left

  pub field_patterns_read : (pats : p.FieldPats) → AreFieldPatterns pats → (at : ℕ) (more : List Tok) (ls : List Lexeme) → Laid at (field_patterns_tokens pats (mark C.CloseBrace ∷ more)) ls →
      Read (N.List Of.FieldPatterns) (λ v. bare_fieldpats (p.fieldpats v) ≡ bare_fieldpats pats) more ls
  field_patterns_read p.no_fieldpats ok at more ls laid = let o = off laid in read_by _ (inl refl) _ o.rest (tok o T.CloseBrace refl refl R.nothing) refl o.left
  field_patterns_read (p.more_fieldpats one rest) ok at more ls laid =
      let x = field_pattern_read one ok.0 at _ ls laid in
      let b = off x.left in
      let z = field_patterns_read rest ok.1 b.at more b.rest b.left in
      read_by _ (inr (inl refl)) _ z.rest (R.part x.reads (R.part (R.by _ (inr (inl refl)) _ (tok b T.Comma refl refl (R.part z.reads R.nothing))) R.nothing))
      (λ i. p.more_fieldpats (x.is i) (z.is i)) z.left
