-- What is told step by step is what the definitions give: the tree where no rule is broken, else the first place where one is.
use Rattle.std.proofs.Common.{◌≡◌, List, [], ◌∷◌, ◌++◌, Some, None, refl, ap, sym, ◌∙◌, subst}
use Rattle.std.specs.Prelude.{Option, Result, Ok, Err}
use Rattle.std.specs.Option.{option_map}
use Rattle.aen_base.specs.declared.span.Span.{Span}
use Rattle.raw_meaning.specs.Trees.{both}
use Rattle.text_names.specs.Settled.{first, Settles, Keeps}
use Rattle.text_trees.specs.declared.fault.SettleFault.{SettleFault}
use Rattle.text_trees.specs.declared.fault.SettleFault.TheVariants.{Broken, Memory}
use Rattle.text_trees.specs.Told.{and_then, on_ok, Gives, Settled}

-- ---- the first of some places

pub first_stays : (f g : List Span) (place : Span) → first f ≡ Some place → first (f ++ g) ≡ Some place
first_stays [] g place h = absurd cc
first_stays (p ∷ f) g place h = h

pub some_is : {A : Type 0} (x y : A) → Some x ≡ Some y → x ≡ y
some_is x y h = cc

-- ---- two parts, one after the other

-- where the first breaks no rule, all hangs on the second
after_ok : {A : Type 0} (f g : List Span) (o : Option A) (r : Result A Span) → f ≡ [] → Settles g o r → Settles (f ++ g) o r
after_ok f g o r e h = subst (λ (fs : List Span). Settles (fs ++ g) o r) (sym e) h

-- a part whose value the tree has, before another that hangs on it
pub settles_then : {A B : Type 0} (f g : List Span) (o : Option A) (whole : Option A → Option B) (r : Result A Span) (rest : A → Result B Span) →
    Settles f o r → ((x : A) → Settles g (whole (Some x)) (rest x)) → Settles (f ++ g) (whole o) (and_then r rest)
settles_then f g o whole (Ok x) rest h k =
    subst (λ (o : Option _). Settles (f ++ g) (whole o) (rest x)) (sym h.1) (after_ok f g (whole (Some x)) (rest x) h.0 (k x))
settles_then f g o whole (Err place) rest h k = first_stays f g place h

-- the same where the rest knows that the tree has the value
pub settles_when : {A B : Type 0} (f g : List Span) (o : Option A) (whole : Option A → Option B) (r : Result A Span) (rest : A → Result B Span) →
    Settles f o r → ((x : A) → o ≡ Some x → Settles g (whole (Some x)) (rest x)) → Settles (f ++ g) (whole o) (and_then r rest)
settles_when f g o whole (Ok x) rest h k =
    subst (λ (o : Option _). Settles (f ++ g) (whole o) (rest x)) (sym h.1) (after_ok f g (whole (Some x)) (rest x) h.0 (k x h.1))
settles_when f g o whole (Err place) rest h k = first_stays f g place h

-- a part without a value, before another
pub keeps_then : {B : Type 0} (f g : List Span) (o : Option B) (r : Result Unit Span) (rest : Unit → Result B Span) →
    Keeps f r → Settles g o (rest tt) → Settles (f ++ g) o (and_then r rest)
keeps_then f g o (Ok tt) rest h k = after_ok f g o (rest tt) h k
keeps_then f g o (Err place) rest h k = first_stays f g place h

-- the value in another form
pub settles_map : {A B : Type 0} (f : List Span) (o : Option A) (g : A → B) (r : Result A Span) → Settles f o r → Settles f (option_map g o) (on_ok g r)
settles_map f o g (Ok x) h = (h.0, ap (option_map g) h.1)
settles_map f o g (Err place) h = h

-- what is told in another form than the tree's
pub settles_form : {A B X : Type 0} (f : List Span) (o : Option A) (form : X → A) (g : A → B) (k : X → B) (r : Result X Span) →
    Settles f o (on_ok form r) → ((x : X) → k x ≡ g (form x)) → Settles f (option_map g o) (on_ok k r)
settles_form f o form g k (Ok x) h e = (h.0, ap (option_map g) h.1 ∙ ap Some (sym (e x)))
settles_form f o form g k (Err place) h e = h

-- both values, put together
both_is : {A B D : Type 0} (g : A → B → D) (x : A) (o : Option B) → both g (Some x) o ≡ option_map (g x) o
both_is g x None = refl
both_is g x (Some y) = refl

pub settles_some : {A B X D : Type 0} (f : List Span) (g : A → B → D) (x : A) (o : Option B) (form : X → B) (k : X → D) (r : Result X Span) →
    Settles f o (on_ok form r) → ((y : X) → k y ≡ g x (form y)) → Settles f (both g (Some x) o) (on_ok k r)
settles_some f g x o form k r h e = subst (λ (o : Option _). Settles f o (on_ok k r)) (sym (both_is g x o)) (settles_form f o form (g x) k r h e)

pub settles_both : {A B X D : Type 0} (f1 f2 : List Span) (g : A → B → D) (o1 : Option A) (o2 : Option B) (r1 : Result A Span) (form : X → B) (r2 : Result X Span) (k : A → X → D) →
    Settles f1 o1 r1 → Settles f2 o2 (on_ok form r2) → ((x : A) (y : X) → k x y ≡ g x (form y)) →
    Settles (f1 ++ f2) (both g o1 o2) (and_then r1 (λ x. on_ok (k x) r2))
settles_both f1 f2 g o1 o2 r1 form r2 k h1 h2 e =
    settles_then f1 f2 o1 (λ o. both g o o2) r1 (λ x. on_ok (k x) r2) h1 (λ x. settles_some f2 g x o2 form (k x) r2 h2 (e x))

-- the same answer in its own form
pub as_is : {A : Type 0} (f : List Span) (o : Option A) (r : Result A Span) → Settles f o r → Settles f o (on_ok (λ x. x) r)
as_is f o (Ok x) h = h
as_is f o (Err place) h = h

pub settles_two : {A B D : Type 0} (f1 f2 : List Span) (g : A → B → D) (o1 : Option A) (o2 : Option B) (r1 : Result A Span) (r2 : Result B Span) →
    Settles f1 o1 r1 → Settles f2 o2 r2 → Settles (f1 ++ f2) (both g o1 o2) (and_then r1 (λ x. on_ok (g x) r2))
settles_two f1 f2 g o1 o2 r1 r2 h1 h2 = settles_both f1 f2 g o1 o2 r1 (λ x. x) r2 g h1 (as_is f2 o2 r2 h2) (λ x y. refl)

-- a form of what is told, made of parts
pub on_then : {A X B : Type 0} (out : X → B) (r1 : Result A Span) (rest : A → Result X Span) → on_ok out (and_then r1 rest) ≡ and_then r1 (λ x. on_ok out (rest x))
on_then out (Ok x) rest = refl
on_then out (Err place) rest = refl

-- a form of what is told part by part
pub re_form : {A B X Y : Type 0} (f : List Span) (o : Option B) (out : X → B) (r1 : Result A Span) (k : A → Y → X) (r2 : Result Y Span) →
    Settles f o (and_then r1 (λ x. on_ok (λ y. out (k x y)) r2)) → Settles f o (on_ok out (and_then r1 (λ x. on_ok (k x) r2)))
re_form f o out (Err place) k r2 h = h
re_form f o out (Ok x) k (Ok y) h = h
re_form f o out (Ok x) k (Err place) h = h

-- ---- the answer of a function

pub settled : {A : Type 0} (f : List Span) (o : Option A) (r : Result A Span) (x : Result A SettleFault) → Settles f o r → Gives r x → Settled f o x
settled f o r (Ok y) h g = subst (λ (z : Result _ Span). Settles f o z) g h
settled f o r (Err (Broken place)) h g = subst (λ (z : Result _ Span). Settles f o z) g h
settled f o r (Err Memory) h g = tt
