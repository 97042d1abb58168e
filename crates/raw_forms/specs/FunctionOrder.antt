-- Functions are numbered in the order of the first definitions that bear their names, and their names differ.
use Rattle.std.proofs.Common.{◌≡◌, refl, ap, sym, subst, ◌∙◌, ℕ, suc, ◌<◌, Bool, true, false, List, [], ◌∷◌, ◌++◌, length, length-append, map, Option, Some, None, ◌⊎◌, inl, inr, arith}
use Rattle.std.specs.Prelude.{if◌then◌else◌, is_some, bytes_eq, codes}
use Rattle.std.specs.Cmp.Lexicographic.{bytes_decides}
use Rattle.std.specs.Option.{option_map}
use Rattle.pure_ast.specs.declared.def.Def.{Def}
use Rattle.pure_ast.specs.declared.def.DefKind.{DefKind}
use Rattle.pure_ast.specs.declared.def.DefKind.TheVariants as K
use Rattle.text_meaning.specs.Lists.{Each, Differ}
use Rattle.text_meaning.specs.Names.{IsName}
use Rattle.text_meaning.specs.WellFormed.{function_of, AreInOrder}
use Rattle.text_meaning.specs.WellFormedTypes.{AreNames}
use Rattle.raw_ast.specs.declared.declarations.Definition.{Definition}
use Rattle.raw_meaning.specs.declared.outline.DefinitionHead.{DefinitionHead}
use Rattle.raw_meaning.specs.Heads.{head_of_definition}
use Rattle.raw_meaning.specs.LookupLemmas.{placed}
use Rattle.raw_meaning.specs.Named.{IsNamedDefinition}
use Rattle.raw_meaning.specs.OptionLemmas.{some_so}
use Rattle.raw_meaning.specs.Outlines.{place_of, is_in, with_function, functions_after, part_number, kind_by, with_head, definition_heads}
use Rattle.raw_forms.specs.Definitions.{HasKind}
use Rattle.raw_forms.specs.Differences.{not_in}
use Rattle.raw_forms.specs.Lists.{each_join, differ_last, within}

-- ---- the place of a function

kept_by : (b : Bool) (o p : Option ℕ) (k : ℕ) → ((j : ℕ) → o ≡ Some j → p ≡ Some j) → (if b then Some 0 else option_map (λ j. suc j) o) ≡ Some k → (if b then Some 0 else option_map (λ j. suc j) p) ≡ Some k
kept_by true o p k f h = h
kept_by false None p k f h = absurd cc
kept_by false (Some j) p k f h = ap (option_map (λ j. suc j)) (f j refl) ∙ h

place_kept : (fs : List (List ℕ)) (f a : List ℕ) (k : ℕ) → place_of fs a ≡ Some k → place_of (fs ++ f ∷ []) a ≡ Some k
place_kept [] f a k h = absurd cc
place_kept (n ∷ fs) f a k h = kept_by (bytes_eq n a) (place_of fs a) (place_of (fs ++ f ∷ []) a) k (λ j e. place_kept fs f a j e) h

new_by : (b : Bool) (o p : Option ℕ) (n : ℕ) → (o ≡ None → p ≡ Some n) → (if b then Some 0 else option_map (λ j. suc j) o) ≡ None → (if b then Some 0 else option_map (λ j. suc j) p) ≡ Some (suc n)
new_by true o p n r h = absurd cc
new_by false None p n r h = ap (option_map (λ j. suc j)) (r refl)
new_by false (Some j) p n r h = absurd cc

place_new : (fs : List (List ℕ)) (a : List ℕ) → place_of fs a ≡ None → place_of (fs ++ a ∷ []) a ≡ Some (length fs)
place_new [] a h = ap (λ b. if b then Some 0 else None) ((bytes_decides a a).1 refl)
place_new (n ∷ ns) a h = new_by (bytes_eq n a) (place_of ns a) (place_of (ns ++ a ∷ []) a) (length ns) (place_new ns a) h

-- a function among others: it is known, or comes last
record HasFunction (fs gs : List (List ℕ)) (a : List ℕ) : Type 0 where
  pub at : ℕ
  pub place : place_of gs a ≡ Some at
  pub order : ((at < length fs) × (gs ≡ fs)) ⊎ ((at ≡ length fs) × (gs ≡ fs ++ a ∷ []))
  pub differ : Differ fs → Differ gs

has_by : (fs : List (List ℕ)) (a : List ℕ) (o : Option ℕ) → place_of fs a ≡ o → HasFunction fs (with_function fs a) a
has_by fs a (Some k) e =
    let w : with_function fs a ≡ fs = ap (λ o. if is_some o then fs else fs ++ a ∷ []) e in
    record {
      at = k;
      place = subst (λ x. place_of x a ≡ Some k) (sym w) e;
      order = inl (within fs k a (placed fs a k e), w);
      differ = λ d. subst Differ (sym w) d;
    }
has_by fs a None e =
    let w : with_function fs a ≡ fs ++ a ∷ [] = ap (λ o. if is_some o then fs else fs ++ a ∷ []) e in
    record {
      at = length fs;
      place = subst (λ x. place_of x a ≡ Some (length fs)) (sym w) (place_new fs a e);
      order = inr (refl, w);
      differ = λ d. subst Differ (sym w) (differ_last fs a d (not_in a fs (ap (λ o. is_some o) e)));
    }

has_function : (fs : List (List ℕ)) (a : List ℕ) → HasFunction fs (with_function fs a) a
has_function fs a = has_by fs a (place_of fs a) refl

-- a place stays, whatever comes after
stays_by : (b : Bool) (fs : List (List ℕ)) (f a : List ℕ) (k : ℕ) → place_of fs a ≡ Some k → place_of (if b then fs else fs ++ f ∷ []) a ≡ Some k
stays_by true fs f a k h = h
stays_by false fs f a k h = place_kept fs f a k h

stays : (fs : List (List ℕ)) (ds : List Definition) (a : List ℕ) (k : ℕ) → place_of fs a ≡ Some k → place_of (functions_after fs ds) a ≡ Some k
stays fs [] a k h = h
stays fs (d ∷ ds) a k h = let f = d.name.function.text in stays (with_function fs f) ds a k (stays_by (is_in f fs) fs f a k h)

-- each definition's function is among the functions
pub functions_known : (fs all : List (List ℕ)) (ds : List Definition) → functions_after fs ds ≡ all → Each (λ (d : Definition). is_in d.name.function.text all ≡ true) ds
functions_known fs all [] e = tt
functions_known fs all (d ∷ ds) e =
    let f = d.name.function.text in
    let p = has_function fs f in
    let at = stays (with_function fs f) ds f p.at p.place in
    (subst (λ all. is_in f all ≡ true) e (ap (λ o. is_some o) at), functions_known (with_function fs f) all ds e)

-- ---- names of functions

named_by : (b : Bool) (fs : List (List ℕ)) (f : List ℕ) → Each IsName fs → IsName f → Each IsName (if b then fs else fs ++ f ∷ [])
named_by true fs f h n = h
named_by false fs f h n = each_join IsName fs (f ∷ []) h (n, tt)

pub functions_named : (fs : List (List ℕ)) (ds : List Definition) → AreNames fs → Each IsNamedDefinition ds → AreNames (functions_after fs ds)
functions_named fs [] h n = h
functions_named fs (d ∷ ds) h n =
    let f = d.name.function.text in
    functions_named (with_function fs f) ds (named_by (is_in f fs) fs f h.0 n.0.function, (has_function fs f).differ h.1) n.1

-- ---- the order

abbrev pub AreHeadsInOrder : ℕ → List DefinitionHead → ℕ → Type 0
AreHeadsInOrder k [] count = k ≡ count
AreHeadsInOrder k (x ∷ rest) count =
    ((function_of x.kind < k) × AreHeadsInOrder k rest count) ⊎ ((function_of x.kind ≡ k) × AreHeadsInOrder (suc k) rest count)

pub order_of_heads : (k : ℕ) (xs : List Def) (count : ℕ) → AreHeadsInOrder k (map head_of_definition xs) count → AreInOrder k xs count
order_of_heads k [] count h = h
order_of_heads k (x ∷ xs) count (inl h) = inl (h.0, order_of_heads k xs count h.1)
order_of_heads k (x ∷ xs) count (inr h) = inr (h.0, order_of_heads (suc k) xs count h.1)

-- a definition is of its function
function_by : (j : ℕ) (t b : Option (Option ℕ)) (kind : DefKind) → kind_by (Some j) t b ≡ Some kind → j ≡ function_of kind
function_by j None b kind h = absurd cc
function_by j (Some None) None kind h = absurd cc
function_by j (Some (Some k)) None kind h = absurd cc
function_by j (Some None) (Some None) kind h = some_so (λ x. j ≡ function_of x) (K.Forward (record { 0 = j })) kind h refl
function_by j (Some None) (Some (Some r)) kind h = some_so (λ x. j ≡ function_of x) (K.Back (record { 0 = j }) (record { 0 = r })) kind h refl
function_by j (Some (Some k)) (Some None) kind h = some_so (λ x. j ≡ function_of x) (K.Loop (record { 0 = j }) (record { 0 = k })) kind h refl
function_by j (Some (Some k)) (Some (Some c)) kind h = some_so (λ x. j ≡ function_of x) (K.LoopBack (record { 0 = j }) (record { 0 = k }) c) kind h refl

order_by : (fs gs : List (List ℕ)) (f : List ℕ) (at : ℕ) (x : DefinitionHead) (heads : List DefinitionHead) (count : ℕ) → at ≡ function_of x.kind →
    ((at < length fs) × (gs ≡ fs)) ⊎ ((at ≡ length fs) × (gs ≡ fs ++ f ∷ [])) → AreHeadsInOrder (length gs) heads count → AreHeadsInOrder (length fs) (x ∷ heads) count
order_by fs gs f at x heads count e (inl q) rest =
    inl (subst (λ n. n < length fs) e q.0, subst (λ gs. AreHeadsInOrder (length gs) heads count) q.1 rest)
order_by fs gs f at x heads count e (inr q) rest =
    let long : length gs ≡ suc (length fs) = let k = ap length q.1 in let m = length-append fs (f ∷ []) in omega arith in
    inr (sym e ∙ q.0, subst (λ n. AreHeadsInOrder n heads count) long rest)

pub heads_in_order : (all fs : List (List ℕ)) (ds : List Definition) → functions_after fs ds ≡ all → Each (HasKind all) ds → AreHeadsInOrder (length fs) (definition_heads all ds) (length all)
heads_in_order all fs [] e h = ap length e
heads_in_order all fs (d ∷ ds) e h =
    let f = d.name.function.text in
    let gs = with_function fs f in
    let p = has_function fs f in
    let kind = h.0.0 in
    let turn = part_number (codes "loop") d.name.turn in
    let back = part_number (codes "back") d.name.back in
    let place : place_of all f ≡ Some p.at = subst (λ all. place_of all f ≡ Some p.at) e (stays gs ds f p.at p.place) in
    let given : kind_by (Some p.at) turn back ≡ Some kind = sym (ap (λ o. kind_by o turn back) place) ∙ h.0.1 in
    let rest = heads_in_order all gs ds e h.1 in
    subst (λ o. AreHeadsInOrder (length fs) (with_head o (length d.parameters) (definition_heads all ds)) (length all)) (sym h.0.1)
    (order_by fs gs f p.at (record { kind = kind; parameters = length d.parameters }) (definition_heads all ds) (length all) (function_by p.at turn back kind given) p.order rest)
