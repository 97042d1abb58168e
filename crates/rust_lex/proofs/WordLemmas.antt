-- The tests on words, from their groups.
use Rattle.std.proofs.Common.{◌≡◌, ℕ, List, take, drop, map, ◌||◌, ap, ◌∙◌}
use Rattle.std.specs.Str.{bytes_eq}
use Rattle.std.proofs.lemmas.List.Folds.{list_any-append}
use Rattle.rust_lex.specs.Words.{keywords, int_types, int_word, excluded_words, is_word, is_excluded}
use Rattle.rust_lex.specs.WordGroups.{is_keyword, is_int_word, is_excluded_to_gen, is_excluded_to_super, is_excluded_to_yield}

pub word_parts : (w : List ℕ) → is_word w ≡ (is_keyword w || is_int_word w)
unfolding is_word is_keyword is_int_word
word_parts w = list_any-append (bytes_eq w) keywords (map int_word int_types)

pub excluded_parts : (w : List ℕ) → is_excluded w ≡ (is_excluded_to_gen w || (is_excluded_to_super w || is_excluded_to_yield w))
unfolding is_excluded is_excluded_to_gen is_excluded_to_super is_excluded_to_yield
excluded_parts w =
    list_any-append (bytes_eq w) (take 16 excluded_words) (drop 16 excluded_words)
    ∙ ap (λ b. is_excluded_to_gen w || b) (list_any-append (bytes_eq w) (take 14 (drop 16 excluded_words)) (drop 14 (drop 16 excluded_words)))
