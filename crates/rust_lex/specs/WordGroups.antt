-- The words in groups that the code goes through.
use Rattle.std.specs.Prelude.{ℕ, Bool, List, bytes_eq, map, take, drop}
use Rattle.std.specs.List.{list_any}
use Rattle.rust_lex.specs.Words.{keywords, int_types, int_word, excluded_words}

unfoldable pub is_keyword : List ℕ → Bool
is_keyword w = list_any (bytes_eq w) keywords

unfoldable pub is_int_word : List ℕ → Bool
is_int_word w = list_any (bytes_eq w) (map int_word int_types)

-- the excluded words in three parts of their list
unfoldable pub is_excluded_to_gen : List ℕ → Bool
is_excluded_to_gen w = list_any (bytes_eq w) (take 16 excluded_words)

unfoldable pub is_excluded_to_super : List ℕ → Bool
is_excluded_to_super w = list_any (bytes_eq w) (take 14 (drop 16 excluded_words))

unfoldable pub is_excluded_to_yield : List ℕ → Bool
is_excluded_to_yield w = list_any (bytes_eq w) (drop 14 (drop 16 excluded_words))
