-- The tokens of patterns are lexed as themselves.
use Rattle.std.proofs.Common.{refl, false, List}
use Rattle.rust_ast.specs.SourcePatterns as p
use Rattle.source_grammar.specs.declared.class.Class.TheVariants as C
use Rattle.rust_printer.specs.Tok.{Tok}
use Rattle.rust_printer.specs.PatternTokens.{pattern_tokens, field_pattern_tokens, patterns_tokens, field_patterns_tokens}
use Rattle.print_lexed.proofs.Sequences.{AreLexed}
use Rattle.print_lexed.proofs.LexedTypes.{then_mark, then_name, truth_lexed, size_lexed, path_lexed}
use Rattle.print_lexed.proofs.Spellable.{IsPattern, IsFieldPattern, ArePatterns, AreFieldPatterns}

mutual
  pub pattern_lexed : (x : p.Pat) → IsPattern x → {more : List Tok} → AreLexed false more → AreLexed false (pattern_tokens x more)
  pattern_lexed (p.wild span) k m = then_mark C.Wild refl refl m
  pattern_lexed (p.lone name) k m = then_name name.name k m
  pattern_lexed (p.mut_bind span name) k m = then_mark C.Mut refl refl (then_name name.name k m)
  pattern_lexed (p.number span negative size suffix) k m = size_lexed negative size suffix k m
  pattern_lexed (p.truth span value) k m = truth_lexed value m
  pattern_lexed (p.tuple span parts) k m = then_mark C.OpenBracket refl refl (patterns_lexed parts k (then_mark C.CloseBracket refl refl m))
  pattern_lexed (p.construct span path parts) k m = path_lexed path k.0 (then_mark C.OpenBracket refl refl (patterns_lexed parts k.1 (then_mark C.CloseBracket refl refl m)))
  pattern_lexed (p.literal span path parts) k m = path_lexed path k.0 (then_mark C.OpenBrace refl refl (field_patterns_lexed parts k.1 (then_mark C.CloseBrace refl refl m)))

  field_pattern_lexed : (x : p.FieldPat) → IsFieldPattern x → {more : List Tok} → AreLexed false more → AreLexed false (field_pattern_tokens x more)
  field_pattern_lexed (p.short name) k m = then_name name.name k m
  field_pattern_lexed (p.given span name pat) k m = then_name name k.0 (then_mark C.Colon refl refl (pattern_lexed pat k.1 m))

  patterns_lexed : (x : p.Pats) → ArePatterns x → {more : List Tok} → AreLexed false more → AreLexed false (patterns_tokens x more)
  patterns_lexed p.no_pats k m = m
  patterns_lexed (p.more_pats pat rest) k m = pattern_lexed pat k.0 (then_mark C.Comma refl refl (patterns_lexed rest k.1 m))

  field_patterns_lexed : (x : p.FieldPats) → AreFieldPatterns x → {more : List Tok} → AreLexed false more → AreLexed false (field_patterns_tokens x more)
  field_patterns_lexed p.no_fieldpats k m = m
  field_patterns_lexed (p.more_fieldpats pat rest) k m = field_pattern_lexed pat k.0 (then_mark C.Comma refl refl (field_patterns_lexed rest k.1 m))
