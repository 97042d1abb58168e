-- What is reached is the type itself where it matches, else what is reached in its box.
use Rattle.std.proofs.Common.{◌≡◌, refl, ap, sym, ◌∙◌}
use Rattle.std.specs.Prelude.{Bool, true, false, if◌then◌else◌, Option, Some, None}
use Rattle.core_ty.specs.Types as t
use Rattle.type_calls.specs.Reaching.{reached_inside}
use Rattle.type_rules.specs.Lists.{or_else}
use Rattle.type_rules.specs.Matching.{Finds, Reached, matched, reached, reached_at}

reached_is : (bare : Bool) (q : t.Ty) (f : Finds) (x : t.Ty) → reached bare q f x ≡ reached_at x (matched q x f) (reached_inside bare q f x)
reached_is bare q f (t.int i) = refl
reached_is bare q f t.bool = refl
reached_is bare q f t.unit = refl
reached_is bare q f (t.tuple xs) = refl
reached_is bare q f (t.named d xs) = refl
reached_is bare q f (t.param k) = refl
reached_is bare q f (t.boxed x) = refl
reached_is bare q f (t.ref r m x) = refl

else_so : (b : Bool) (r : Reached) (o : Option Reached) → or_else (if b then Some r else None) o ≡ (if b then Some r else o)
else_so true r o = refl
else_so false r o = refl

pub reached_by : (bare : Bool) (q : t.Ty) (f : Finds) (x : t.Ty) (here o : Option Reached) →
    here ≡ reached_at x (matched q x f) None → o ≡ or_else here (reached_inside bare q f x) → o ≡ reached bare q f x
reached_by bare q f x here o h e =
    e ∙ ap (λ z. or_else z (reached_inside bare q f x)) h
    ∙ else_so (matched q x f).0 (record { content = x; finds = (matched q x f).1 }) (reached_inside bare q f x)
    ∙ sym (reached_is bare q f x)
