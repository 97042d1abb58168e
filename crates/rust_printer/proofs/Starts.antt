-- The classes of identifiers, by how a path that begins with one is read.
use Rattle.std.proofs.Common.{◌≡◌, ◌⊎◌, ap, inl, inr, true}
use Rattle.table_reader.specs.Derivations.{IsOneOf}
use Rattle.source_grammar.specs.declared.class.Class.{Class}
use Rattle.source_grammar.specs.declared.class.Class.TheVariants as C
use Rattle.source_grammar.specs.declared.terminal.Terminal.TheVariants as T
use Rattle.source_grammar.specs.Classes.{classes}
use Rattle.source_grammar.specs.Lexemes.{has_class}
use Rattle.rust_printer.proofs.Classes.{one_of}

-- in an expression
pub data Start (c : Class) : Type 0 where
  plain_start : has_class T.PathName c ≡ true → Start c
  mem_start : c ≡ C.Mem → Start c
  std_start : c ≡ C.Std → Start c
  panic_start : has_class T.PanicName c ≡ true → Start c
  assert_start : c ≡ C.Assert → Start c

-- in a pattern
pub data PatternStart (c : Class) : Type 0 where
  plain_pattern : has_class T.PatternName c ≡ true → PatternStart c
  mem_pattern : c ≡ C.Mem → PatternStart c
  std_pattern : c ≡ C.Std → PatternStart c

pub start : (c : Class) → has_class T.Identifier c ≡ true → Start c
start c h = by_class (one_of T.Identifier c h) where
  by_class : IsOneOf c (classes T.Identifier) → Start c
  by_class (inl e) = plain_start (ap (has_class T.PathName) e)
  by_class (inr (inl e)) = plain_start (ap (has_class T.PathName) e)
  by_class (inr (inr (inl e))) = plain_start (ap (has_class T.PathName) e)
  by_class (inr (inr (inr (inl e)))) = std_start e
  by_class (inr (inr (inr (inr (inl e))))) = mem_start e
  by_class (inr (inr (inr (inr (inr (inl e)))))) = plain_start (ap (has_class T.PathName) e)
  by_class (inr (inr (inr (inr (inr (inr (inl e))))))) = plain_start (ap (has_class T.PathName) e)
  by_class (inr (inr (inr (inr (inr (inr (inr (inl e)))))))) = plain_start (ap (has_class T.PathName) e)
  by_class (inr (inr (inr (inr (inr (inr (inr (inr (inl e))))))))) = panic_start (ap (has_class T.PanicName) e)
  by_class (inr (inr (inr (inr (inr (inr (inr (inr (inr (inl e)))))))))) = panic_start (ap (has_class T.PanicName) e)
  by_class (inr (inr (inr (inr (inr (inr (inr (inr (inr (inr (inl e))))))))))) = assert_start e
  by_class (inr (inr (inr (inr (inr (inr (inr (inr (inr (inr (inr h))))))))))) = absurd h

pub pattern_start : (c : Class) → has_class T.Identifier c ≡ true → PatternStart c
pattern_start c h = by_class (one_of T.Identifier c h) where
  by_class : IsOneOf c (classes T.Identifier) → PatternStart c
  by_class (inl e) = plain_pattern (ap (has_class T.PatternName) e)
  by_class (inr (inl e)) = plain_pattern (ap (has_class T.PatternName) e)
  by_class (inr (inr (inl e))) = plain_pattern (ap (has_class T.PatternName) e)
  by_class (inr (inr (inr (inl e)))) = std_pattern e
  by_class (inr (inr (inr (inr (inl e))))) = mem_pattern e
  by_class (inr (inr (inr (inr (inr (inl e)))))) = plain_pattern (ap (has_class T.PatternName) e)
  by_class (inr (inr (inr (inr (inr (inr (inl e))))))) = plain_pattern (ap (has_class T.PatternName) e)
  by_class (inr (inr (inr (inr (inr (inr (inr (inl e)))))))) = plain_pattern (ap (has_class T.PatternName) e)
  by_class (inr (inr (inr (inr (inr (inr (inr (inr (inl e))))))))) = plain_pattern (ap (has_class T.PatternName) e)
  by_class (inr (inr (inr (inr (inr (inr (inr (inr (inr (inl e)))))))))) = plain_pattern (ap (has_class T.PatternName) e)
  by_class (inr (inr (inr (inr (inr (inr (inr (inr (inr (inr (inl e))))))))))) = plain_pattern (ap (has_class T.PatternName) e)
  by_class (inr (inr (inr (inr (inr (inr (inr (inr (inr (inr (inr h))))))))))) = absurd h

-- `mem` or another
pub mem_or_not : (c : Class) → has_class T.Identifier c ≡ true → (has_class T.NotMem c ≡ true) ⊎ (c ≡ C.Mem)
mem_or_not c h = by_class (one_of T.Identifier c h) where
  by_class : IsOneOf c (classes T.Identifier) → (has_class T.NotMem c ≡ true) ⊎ (c ≡ C.Mem)
  by_class (inl e) = inl (ap (has_class T.NotMem) e)
  by_class (inr (inl e)) = inl (ap (has_class T.NotMem) e)
  by_class (inr (inr (inl e))) = inl (ap (has_class T.NotMem) e)
  by_class (inr (inr (inr (inl e)))) = inl (ap (has_class T.NotMem) e)
  by_class (inr (inr (inr (inr (inl e))))) = inr e
  by_class (inr (inr (inr (inr (inr (inl e)))))) = inl (ap (has_class T.NotMem) e)
  by_class (inr (inr (inr (inr (inr (inr (inl e))))))) = inl (ap (has_class T.NotMem) e)
  by_class (inr (inr (inr (inr (inr (inr (inr (inl e)))))))) = inl (ap (has_class T.NotMem) e)
  by_class (inr (inr (inr (inr (inr (inr (inr (inr (inl e))))))))) = inl (ap (has_class T.NotMem) e)
  by_class (inr (inr (inr (inr (inr (inr (inr (inr (inr (inl e)))))))))) = inl (ap (has_class T.NotMem) e)
  by_class (inr (inr (inr (inr (inr (inr (inr (inr (inr (inr (inl e))))))))))) = inl (ap (has_class T.NotMem) e)
  by_class (inr (inr (inr (inr (inr (inr (inr (inr (inr (inr (inr h))))))))))) = absurd h
