-- The number that digits write.
use Rattle.std.proofs.Common.{◌≡◌, refl, ap, sym, ◌∙◌, ℕ, suc, ◌+◌, ◌*◌, ◌≤◌, ◌<◌, Bool, true, false, List, [], ◌∷◌, length, get_or, drop, drop-cons, mul-le-mul_left, mul-one, arith}
use Rattle.std.specs.Prelude.{◌==◌, if◌then◌else◌}
use Rattle.std.specs.Char.{digit_value}
use Rattle.rust_lex.specs.Numbers.{value_in, radix}
use Rattle.rust_lex.specs.declared.token.Base.{Base}
use Rattle.rust_lex.specs.declared.token.Base.TheVariants.{Binary, Octal, Decimal, Hexadecimal}
use Rattle.rust_lex.specs.Scan.{with_digit}

value_by : (b : Bool) (r n m : ℕ) (cs : List ℕ) → (if b then value_in r n cs else value_in r m cs) ≡ value_in r (if b then n else m) cs
value_by true r n m cs = refl
value_by false r n m cs = refl

-- one digit more
pub value_step : (r n c : ℕ) (cs : List ℕ) → value_in r (with_digit r n c) cs ≡ value_in r n (c ∷ cs)
value_step r n c cs = sym (value_by (c == 95) r n (n * r + digit_value c) cs)

grows_by : (b : Bool) (r n m : ℕ) → n ≤ m → n ≤ (if b then n else m)
grows_by true r n m h = omega arith
grows_by false r n m h = h

digit_grows : (r n c : ℕ) → 1 ≤ r → n ≤ with_digit r n c
digit_grows r n c h = grows_by (c == 95) r n (n * r + digit_value c) (let k = mul-le-mul_left n h in let o = mul-one n in omega arith)

-- digits make a number no smaller
pub value_grows : (r n : ℕ) (cs : List ℕ) → 1 ≤ r → n ≤ value_in r n cs
value_grows r n [] h = omega arith
value_grows r n (c ∷ cs) h =
    let a = digit_grows r n c h in
    let b = value_grows r (with_digit r n c) cs h in
    let e = value_step r n c cs in
    omega arith

pub radix_some : (b : Base) → 1 ≤ radix b
radix_some Binary = omega arith
radix_some Octal = omega arith
radix_some Decimal = omega arith
radix_some Hexadecimal = omega arith

-- a number that is past a limit stays there
pub past_limit : (k r n at : ℕ) (ds : List ℕ) (total : ℕ) → 1 ≤ r → at < length ds → k ≤ with_digit r n (get_or ds at 0) → value_in r n (drop at ds) ≡ total → k ≤ total
past_limit k r n at ds total h l p e =
    let a = value_grows r (with_digit r n (get_or ds at 0)) (drop (suc at) ds) h in
    let b = value_step r n (get_or ds at 0) (drop (suc at) ds) ∙ ap (value_in r n) (sym (drop-cons ds at 0 l)) ∙ e in
    omega arith
