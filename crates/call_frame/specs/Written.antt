-- Values as they are written: in words that are given, and in what is printed (LANGUAGE.md, "A call").
use Rattle.std.specs.Prelude.{ℕ, ◌^◌, List, [], Option, pos}
use Rattle.std.specs.Option.{option_map}
use Rattle.std.specs.Fmt.{signed_decimal}
use Rattle.aen_base.specs.declared.int_ty.IntTy.TheVariants.{U32}
use Rattle.aen_base.specs.Arithmetic.{number as number_of}
use Rattle.aen_base.specs.Decimals.{decimal_below}
use Rattle.pure_ast.specs.Values as v
use Rattle.pure_ast.specs.Values.{PValue}

-- the value of type u32 that a word writes: it is decimal digits that write a number below 2^32, and may begin with zeros
abbrev pub word_value : List ℕ → Option PValue
word_value w = option_map (λ n. v.number (number_of U32 (pos n))) (decimal_below (2 ^ 32) w)

-- what is printed for a number: its decimal digits, after `-` where it is below 0
abbrev pub written : PValue → List ℕ
written (v.number n) = signed_decimal n.value
written _ = []
