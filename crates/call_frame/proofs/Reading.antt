-- Words read one by one.
use Rattle.std.proofs.Common.{◌≡◌, ℕ, zero, suc, ◌+◌, ◌^◌, ◌<◌, List, [], ◌∷◌, ◌++◌, length, map, take, get_or, refl, ap, sym, subst, ◌∙◌, arith}
use Rattle.std.specs.Prelude.{slice_get, Option, Some, None, Result, Ok, Err, IfOk}
use Rattle.call_frame.specs.declared.words.ArgFault.{ArgFault}
use Rattle.call_frame.specs.Arguments.{IsReading}
use Rattle.std.specs.Option.{option_map}
use Rattle.std.proofs.lemmas.Option.{same_Some}
use Rattle.std.proofs.lemmas.List.{length-map}
use Rattle.pure_ast.specs.Values as v
use Rattle.pure_ast.specs.Values.{PValue}
use Rattle.aen_base.specs.declared.int_ty.IntTy.TheVariants.{U32}
use Rattle.aen_base.specs.Numbers.{Number}
use Rattle.aen_base.specs.Arithmetic.{number as number_of}
use Rattle.std.specs.Prelude.{pos}
use Rattle.sums_ast.specs.declared.function.Function.{Function}
use Rattle.source_meaning.specs.Calling.{IsU32Value, AreU32Values, AreArguments}
use Rattle.aen_base.specs.Decimals.{decimal_below}
use Rattle.call_frame.specs.Written.{word_value, written}
use Rattle.call_frame.proofs.Digits.{word_small, printed}

module _ {X : Type 0} where
  pub take_next : (xs : List X) (i : ℕ) (x : X) → slice_get xs i ≡ Some x → take (i + 1) xs ≡ take i xs ++ x ∷ []
  take_next [] i x h = absurd (cc)
  take_next (y ∷ xs) zero x h = ap (λ (z : X). z ∷ []) (same_Some y x h)
  take_next (y ∷ xs) (suc i) x h = let e : suc i + 1 ≡ suc (i + 1) = omega arith in ap (λ (k : ℕ). take k (y ∷ xs)) e ∙ ap (λ (l : List X). y ∷ l) (take_next xs i x h)

  pub item_at : (f : X → List ℕ) (xs : List X) (i : ℕ) (x : X) → i < length xs → x ≡ get_or xs i x → slice_get (map f xs) i ≡ Some (f x)
  item_at f [] i x h e = absurd (omega arith)
  item_at f (y ∷ xs) zero x h e = ap (λ (z : X). Some (f z)) (sym e)
  item_at f (y ∷ xs) (suc i) x h e = item_at f xs i x (omega arith) e

map_next : {X Y : Type 0} (f : X → Y) (xs : List X) (x : X) → map f (xs ++ x ∷ []) ≡ map f xs ++ f x ∷ []
map_next f [] x = refl
map_next f (y ∷ xs) x = ap (λ l. f y ∷ l) (map_next f xs x)

-- one word more
pub reading_next : (words : List (List ℕ)) (i : ℕ) (values : List PValue) (word : List ℕ) (value : PValue) → slice_get words i ≡ Some word →
    map word_value (take i words) ≡ map Some values → word_value word ≡ Some value → map word_value (take (i + 1) words) ≡ map Some (values ++ value ∷ [])
reading_next words i values word value found here is =
    ap (map word_value) (take_next words i word found)
    ∙ map_next word_value (take i words) word
    ∙ (λ j. here j ++ is j ∷ [])
    ∙ sym (map_next Some values value)

u32_by : (o : Option ℕ) (value : PValue) → ((m : ℕ) → o ≡ Some m → m < 2 ^ 32) → option_map (λ n. v.number (number_of U32 (pos n))) o ≡ Some value → IsU32Value value
u32_by None value small h = absurd (cc)
u32_by (Some n) value small h =
    subst IsU32Value (same_Some (v.number (number_of U32 (pos n))) value h) (record { mag = n; small = small n refl; same = refl })

abbrev after_first : List (Option PValue) → List (Option PValue)
after_first [] = []
after_first (x ∷ xs) = xs

all_u32 : (words : List (List ℕ)) (values : List PValue) → map word_value words ≡ map Some values → AreU32Values values
all_u32 words [] h = tt
all_u32 [] (value ∷ values) h = absurd (cc)
all_u32 (word ∷ words) (value ∷ values) h =
    (u32_by (decimal_below (2 ^ 32) word) value (word_small word) (ap (λ (l : List (Option PValue)). get_or l 0 None) h), all_u32 words values (ap after_first h))

-- values that words write are arguments
pub fitting : (f : Function) (words : List (List ℕ)) (values : List PValue) → length words ≡ f.parameters → map word_value words ≡ map Some values → AreArguments f values
fitting f words values count h =
    let a = length-map words word_value in
    let b = length-map values Some in
    let c = ap length h in
    record { count = omega arith; typed = all_u32 words values h }

pub fits_of : (f : Function) (words : List (List ℕ)) (r : Result (List PValue) ArgFault) → IsReading f.parameters words r → IfOk r (λ values. AreArguments f values)
fits_of f words (Ok values) (count, h) = fitting f words values count h
fits_of f words (Err e) h = tt

-- what is printed for a value is read as this value
pub value_back : (a : PValue) (t : List ℕ) → IsU32Value a → t ≡ written a → word_value t ≡ Some a
value_back (v.number n) t u e =
    let back : t ≡ written (v.number (number_of U32 (pos u.mag))) → word_value t ≡ Some (v.number (number_of U32 (pos u.mag))) =
    λ h. ap word_value h ∙ ap (option_map (λ k. v.number (number_of U32 (pos k)))) (printed u.mag u.small) in
    subst (λ (x : Number). t ≡ written (v.number x) → word_value t ≡ Some (v.number x)) (sym u.same) back e
value_back (v.truth b) t u e = absurd u
value_back (v.tuple parts) t u e = absurd u
value_back (v.built d parts) t u e = absurd u
