-- The words of the language, and the words of Rust that it leaves out (LANGUAGE.md, "Tokens").
use Rattle.std.specs.Prelude.{ℕ, Bool, List, [], ◌∷◌, ◌++◌, Option, Some, None, if◌then◌else◌, bytes_eq, codes, map}
use Rattle.std.specs.List.{list_any}
use Rattle.aen_base.specs.declared.int_ty.IntTy.{IntTy}
use Rattle.aen_base.specs.declared.int_ty.IntTy.TheVariants.{U8, U16, U32, U64, U128, Usize, I8, I16, I32, I64, I128, Isize}

-- the words that are no types
abbrev pub keywords : List (List ℕ)
keywords =
    codes "as" ∷ codes "break" ∷ codes "continue" ∷ codes "else" ∷ codes "enum" ∷ codes "false" ∷ codes "fn" ∷ codes "if"
    ∷ codes "let" ∷ codes "loop" ∷ codes "match" ∷ codes "mut" ∷ codes "pub" ∷ codes "return" ∷ codes "struct" ∷ codes "true"
    ∷ codes "use" ∷ codes "while" ∷ codes "bool" ∷ codes "Box" ∷ []

-- the integer types and their names
abbrev pub int_types : List IntTy
int_types = U8 ∷ U16 ∷ U32 ∷ U64 ∷ U128 ∷ Usize ∷ I8 ∷ I16 ∷ I32 ∷ I64 ∷ I128 ∷ Isize ∷ []

abbrev pub int_word : IntTy → List ℕ
int_word U8 = codes "u8"
int_word U16 = codes "u16"
int_word U32 = codes "u32"
int_word U64 = codes "u64"
int_word U128 = codes "u128"
int_word Usize = codes "usize"
int_word I8 = codes "i8"
int_word I16 = codes "i16"
int_word I32 = codes "i32"
int_word I64 = codes "i64"
int_word I128 = codes "i128"
int_word Isize = codes "isize"

-- the integer type of this name
abbrev pub int_among : List ℕ → List IntTy → Option IntTy
int_among w [] = None
int_among w (t ∷ ts) = if bytes_eq w (int_word t) then Some t else int_among w ts

abbrev pub int_named : List ℕ → Option IntTy
int_named w = int_among w int_types

-- all words of the language
abbrev pub words : List (List ℕ)
words = keywords ++ map int_word int_types

-- the words of Rust that the language leaves out
abbrev pub excluded_words : List (List ℕ)
excluded_words =
    codes "abstract" ∷ codes "async" ∷ codes "await" ∷ codes "become" ∷ codes "box" ∷ codes "char" ∷ codes "const" ∷ codes "crate"
    ∷ codes "do" ∷ codes "dyn" ∷ codes "extern" ∷ codes "f32" ∷ codes "f64" ∷ codes "final" ∷ codes "for" ∷ codes "gen"
    ∷ codes "impl" ∷ codes "in" ∷ codes "macro" ∷ codes "macro_rules" ∷ codes "mod" ∷ codes "move" ∷ codes "override" ∷ codes "priv"
    ∷ codes "ref" ∷ codes "self" ∷ codes "Self" ∷ codes "static" ∷ codes "str" ∷ codes "super" ∷ codes "trait" ∷ codes "try"
    ∷ codes "type" ∷ codes "typeof" ∷ codes "unsafe" ∷ codes "unsized" ∷ codes "virtual" ∷ codes "where" ∷ codes "yield" ∷ codes "Vec" ∷ []

unfoldable pub is_word : List ℕ → Bool
is_word w = list_any (bytes_eq w) words

unfoldable pub is_excluded : List ℕ → Bool
is_excluded w = list_any (bytes_eq w) excluded_words
