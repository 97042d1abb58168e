-- Counts along the items and functions of a program.
use Rattle.std.proofs.Common.{◌≡◌, ℕ, ◌+◌, ◌<◌, get_or, Bool, true, false, List, [], ◌∷◌, length, drop, refl, sym, ap, ◌∙◌, arith}
use Rattle.std.specs.Prelude.{◌||◌, nat_lt}
use Rattle.rust_ast.specs.declared.program.Item.{Item}
use Rattle.rust_ast.specs.declared.program.Item.TheVariants.{Function, Struct, Enum, UseMem}
use Rattle.rust_ast.specs.declared.resolution.Function as resolved
use Rattle.name_tables.specs.ListLemmas.{drop_at}
use Rattle.rust_names.specs.Resolution.{count_functions, has_many}

one_more : (x : Item) (xs : List Item) → count_functions (x ∷ xs) ≡ count_functions (x ∷ []) + count_functions xs
one_more (Function f) xs = omega arith
one_more (Struct s) xs = omega arith
one_more (Enum e) xs = omega arith
one_more UseMem xs = omega arith

pub counted : (xs : List Item) (i : ℕ) (x : Item) (count more whole : ℕ) → i < length xs → x ≡ get_or xs i x → more ≡ count_functions (x ∷ []) →
    count + count_functions (drop i xs) ≡ whole → count + more + count_functions (drop (i + 1) xs) ≡ whole
counted xs i x count more whole l h e inv =
    let a : count_functions (drop i xs) ≡ count_functions (x ∷ []) + count_functions (drop (i + 1) xs) = ap count_functions (drop_at xs i x l h) ∙ one_more x (drop (i + 1) xs) in
    omega (arith, a, e, inv)

or_more : (a b c : Bool) → ((a || b) || c) ≡ (a || (b || c))
or_more true b c = refl
or_more false b c = refl

pub many_more : (xs : List resolved.Function) (i : ℕ) (x : resolved.Function) (many more whole : Bool) → i < length xs → x ≡ get_or xs i x → more ≡ (many || nat_lt 1000 (length x.variables)) →
    (many || has_many (drop i xs)) ≡ whole → (more || has_many (drop (i + 1) xs)) ≡ whole
many_more xs i x many more whole l h e inv =
    ap (λ b. b || has_many (drop (i + 1) xs)) e ∙ or_more many (nat_lt 1000 (length x.variables)) (has_many (drop (i + 1) xs))
    ∙ ap (λ ys. many || has_many ys) (sym (drop_at xs i x l h)) ∙ inv
