-- Names that stand twice: what a walk along names has found so far.
use Rattle.std.proofs.Common.{◌≡◌, ℕ, ◌+◌, ◌<◌, ◌≤◌, get_or, Bool, true, false, ◌&&◌, if◌then◌else◌, List, [], ◌∷◌, ◌++◌, length, map, take, drop, Option, Some, None, refl, sym, ap, ◌∙◌}
use Rattle.std.specs.Prelude.{bytes_eq}
use Rattle.std.proofs.lemmas.List.{map-append}
use Rattle.aen_base.specs.declared.span.Span.{Span}
use Rattle.rust_ast.specs.declared.ident.Ident.{Ident}
use Rattle.name_tables.specs.declared.tables.ValueNames.{ValueNames}
use Rattle.name_tables.specs.Finding.{or_else}
use Rattle.name_tables.specs.ListLemmas.{taken, drop_at, drop_all}
use Rattle.rust_ast.specs.declared.program.Item.{Item}
use Rattle.rust_ast.specs.declared.program.Item.TheVariants as forms
use Rattle.rust_ast.specs.declared.program.Function as functions
use Rattle.rust_ast.specs.declared.program.Enum as enums
use Rattle.rust_ast.specs.declared.program.Struct as structs
use Rattle.rust_ast.specs.declared.program.Variant as variants
use Rattle.name_clashes.specs.declared.entry.Entry.{Entry}
use Rattle.name_clashes.specs.declared.entry.Kind.{Kind}
use Rattle.name_clashes.specs.declared.entry.Kind.TheVariants as kind
use Rattle.name_clashes.specs.FirstPlaces.{AreFirst}
use Rattle.name_clashes.specs.Twice.{Pair, with_second, must_differ, first_like, first_named, repeated, repeated_parameter, twice_own, entry, param_idents, field_names, struct_kind, variant_idents, twice_in_block, twice_in_item, twice_in_items, with_entries}

pub or_none : {A : Type 0} (o : Option A) → or_else o None ≡ o
or_none None = refl
or_none (Some x) = refl

pub or_both : {A : Type 0} (o p q : Option A) → or_else o (or_else p q) ≡ or_else (or_else o p) q
or_both None p q = refl
or_both (Some x) p q = refl

or_if : {A : Type 0} (b : Bool) (s : A) (o p q : Option A) → o ≡ or_else p q → (if b then Some s else o) ≡ or_else (if b then Some s else p) q
or_if true s o p q h = refl
or_if false s o p q h = h

pub map_same : (xs : List Ident) → map (λ (i : Ident). i) xs ≡ xs
map_same [] = refl
map_same (x ∷ xs) = ap (λ ys. x ∷ ys) (map_same xs)

beside : (before xs : List Ident) → repeated_parameter [] before xs ≡ repeated before xs
beside before [] = refl
beside before (x ∷ xs) = ap (or_else (with_second x.span (first_named x.name before))) (beside (before ++ x ∷ []) xs)

-- without names of a program
pub beside_nothing : (xs : List Ident) → repeated_parameter [] [] xs ≡ repeated [] xs
beside_nothing xs = beside [] xs

pub own_alone : (seen : List Entry) (k : Kind) (i : Ident) → twice_own seen (entry k i ∷ []) ≡ with_second i.span (first_like k i.name seen)
own_alone seen k i = or_none (with_second i.span (first_like k i.name seen))

-- ---- tables of first places

named_more : (w : List ℕ) (xs : List Ident) (x : Ident) → first_named w (xs ++ x ∷ []) ≡ or_else (first_named w xs) (if bytes_eq x.name w then Some x.span else None)
named_more w [] x = refl
named_more w (y ∷ xs) x =
    or_if (bytes_eq y.name w) y.span (first_named w (xs ++ x ∷ [])) (first_named w xs) (if bytes_eq x.name w then Some x.span else None) (named_more w xs x)

like_more : (k : Kind) (w : List ℕ) (es : List Entry) (e : Entry) → first_like k w (es ++ e ∷ []) ≡ or_else (first_like k w es) (if bytes_eq e.name w && must_differ k e.kind then Some e.span else None)
like_more k w [] e = refl
like_more k w (y ∷ es) e =
    or_if (bytes_eq y.name w && must_differ k y.kind) y.span (first_like k w (es ++ e ∷ [])) (first_like k w es) (if bytes_eq e.name w && must_differ k e.kind then Some e.span else None) (like_more k w es e)

both_of : (m n : Bool) (s : Span) (o : Option Span) → (if m then or_else o (if n then Some s else None) else o) ≡ or_else o (if n && m then Some s else None)
both_of true true s o = refl
both_of true false s o = refl
both_of false true s o = sym (or_none o)
both_of false false s o = sym (or_none o)

-- one more name of a program
pub noted : (k kind : Kind) (i : Ident) (es ys : List Entry) (counts : Bool) (old new : List ℕ → Option Span) → counts ≡ must_differ k kind → ys ≡ es ++ entry kind i ∷ [] →
    ((w : List ℕ) → new w ≡ (if counts then or_else (old w) (if bytes_eq i.name w then Some i.span else None) else old w)) → AreFirst k old es → AreFirst k new ys
noted k kind i es ys counts old new m q step before w =
    step w ∙ (λ t. if m t then or_else (before w t) (if bytes_eq i.name w then Some i.span else None) else before w t)
    ∙ both_of (must_differ k kind) (bytes_eq i.name w) i.span (first_like k w es) ∙ sym (like_more k w es (entry kind i)) ∙ ap (first_like k w) (sym q)

-- ---- a walk along names that must differ

module _ {A : Type 0} (f : A → Ident) where
  abbrev pub Firsts : List A → (List ℕ → Option Span) → Type 0
  Firsts xs table = (w : List ℕ) → table w ≡ first_named w (map f xs)

  split : (xs : List A) (i : ℕ) (x : A) → i < length xs → x ≡ get_or xs i x → map f (take (i + 1) xs) ≡ map f (take i xs) ++ f x ∷ []
  split xs i x l h = ap (map f) (taken xs i x x l h) ∙ map-append f (take i xs) (x ∷ [])

  pub next_first : (xs : List A) (i : ℕ) (x : A) (name : List ℕ) (place : Span) (old new : List ℕ → Option Span) → i < length xs → x ≡ get_or xs i x → name ≡ (f x).name → place ≡ (f x).span →
      ((w : List ℕ) → new w ≡ or_else (old w) (if bytes_eq name w then Some place else None)) → Firsts (take i xs) old → Firsts (take (i + 1) xs) new
  next_first xs i x name place old new l h e q step before w =
      step w ∙ (λ t. or_else (before w t) (if bytes_eq (e t) w then Some (q t) else None)) ∙ sym (named_more w (map f (take i xs)) (f x)) ∙ ap (first_named w) (sym (split xs i x l h))

  pub turn : (seen : List Entry) (xs : List A) (i : ℕ) (x : A) (found new places whole : Pair) (name : List ℕ) (place : Span) (early : Option Span) (table : List ℕ → Option Span) →
      i < length xs → x ≡ get_or xs i x → name ≡ (f x).name → place ≡ (f x).span → early ≡ or_else (first_like kind.Parameter name seen) (table name) → places ≡ with_second place early → new ≡ or_else found places → Firsts (take i xs) table →
      or_else found (repeated_parameter seen (map f (take i xs)) (map f (drop i xs))) ≡ whole →
      or_else new (repeated_parameter seen (map f (take (i + 1) xs)) (map f (drop (i + 1) xs))) ≡ whole
  turn seen xs i x found new places whole name place early table l h e q r p n before inv =
      let this : Pair = with_second (f x).span (or_else (first_like kind.Parameter (f x).name seen) (first_named (f x).name (map f (take i xs)))) in
      let rest : Pair = repeated_parameter seen (map f (take (i + 1) xs)) (map f (drop (i + 1) xs)) in
      let same : places ≡ this =
      p ∙ (λ t. with_second (q t) (r t)) ∙ (λ t. with_second (f x).span (or_else (first_like kind.Parameter (e t) seen) (table (e t))))
      ∙ ap (λ o. with_second (f x).span (or_else (first_like kind.Parameter (f x).name seen) o)) (before (f x).name) in
      ap (λ o. or_else o rest) (n ∙ ap (or_else found) same) ∙ sym (or_both found this rest)
      ∙ ap (λ b. or_else found (or_else this (repeated_parameter seen b (map f (drop (i + 1) xs))))) (split xs i x l h)
      ∙ ap (λ ys. or_else found (repeated_parameter seen (map f (take i xs)) (map f ys))) (sym (drop_at xs i x l h)) ∙ inv

  pub turns_end : (seen : List Entry) (xs : List A) (i : ℕ) (found whole : Pair) (before : List Ident) → length xs ≤ i → or_else found (repeated_parameter seen before (map f (drop i xs))) ≡ whole → found ≡ whole
  turns_end seen xs i found whole before l inv = sym (or_none found) ∙ ap (λ ys. or_else found (repeated_parameter seen before (map f ys))) (sym (drop_all xs i l)) ∙ inv

-- ---- the first that a walk along parts finds

module _ {A : Type 0} (one : A → Pair) (all : List A → Pair) (more : (x : A) (xs : List A) → all (x ∷ xs) ≡ or_else (one x) (all xs)) (ends : all [] ≡ None) where
  pub found_turn : (xs : List A) (i : ℕ) (x : A) (found next new whole : Pair) → i < length xs → x ≡ get_or xs i x → next ≡ one x → new ≡ or_else found next →
      or_else found (all (drop i xs)) ≡ whole → or_else new (all (drop (i + 1) xs)) ≡ whole
  found_turn xs i x found next new whole l h e q inv =
      ap (λ o. or_else o (all (drop (i + 1) xs))) (q ∙ ap (or_else found) e) ∙ sym (or_both found (one x) (all (drop (i + 1) xs)))
      ∙ ap (or_else found) (sym (ap all (drop_at xs i x l h) ∙ more x (drop (i + 1) xs))) ∙ inv

  pub found_all : (xs : List A) (i : ℕ) (found whole : Pair) → length xs ≤ i → or_else found (all (drop i xs)) ≡ whole → found ≡ whole
  found_all xs i found whole l inv = sym (or_none found) ∙ ap (or_else found) (sym (ap all (drop_all xs i l) ∙ ends)) ∙ inv

-- ---- a walk along items

pub items_turn : (vs : List ValueNames) (items : List Item) (i : ℕ) (x : Item) (seen next : List Entry) (found places new whole : Pair) → i < length items → x ≡ get_or items i x →
    places ≡ twice_in_item vs seen x → next ≡ with_entries seen x → new ≡ or_else found places → or_else found (twice_in_items vs seen (drop i items)) ≡ whole →
    or_else new (twice_in_items vs next (drop (i + 1) items)) ≡ whole
items_turn vs items i x seen next found places new whole l h p q n inv =
    ap (λ o. or_else o (twice_in_items vs next (drop (i + 1) items))) (n ∙ ap (or_else found) p)
    ∙ ap (λ s. or_else (or_else found (twice_in_item vs seen x)) (twice_in_items vs s (drop (i + 1) items))) q
    ∙ sym (or_both found (twice_in_item vs seen x) (twice_in_items vs (with_entries seen x) (drop (i + 1) items)))
    ∙ ap (λ ys. or_else found (twice_in_items vs seen ys)) (sym (drop_at items i x l h)) ∙ inv

pub items_end : (vs : List ValueNames) (items : List Item) (i : ℕ) (seen : List Entry) (found whole : Pair) → length items ≤ i → or_else found (twice_in_items vs seen (drop i items)) ≡ whole → found ≡ whole
items_end vs items i seen found whole l inv = sym (or_none found) ∙ ap (λ ys. or_else found (twice_in_items vs seen ys)) (sym (drop_all items i l)) ∙ inv

pub function_twice : (vs : List ValueNames) (seen : List Entry) (f : functions.Function) (ps ls : List Ident) (own params lifetimes inside rest later places : Pair) → ps ≡ f.type_params → ls ≡ f.lifetimes →
    own ≡ twice_own seen (entry kind.Value f.name ∷ []) → params ≡ repeated_parameter (seen ++ entry kind.Value f.name ∷ []) [] ps → lifetimes ≡ repeated [] ls →
    inside ≡ or_else (repeated [] (param_idents f.params)) (twice_in_block vs f.body) → rest ≡ or_else params inside → later ≡ or_else lifetimes rest → places ≡ or_else own later →
    places ≡ twice_in_item vs seen (forms.Function f)
unfolding twice_in_item
function_twice vs seen f ps ls own params lifetimes inside rest later places p l a b c d e g h =
    h ∙ ap (or_else own) (g ∙ ap (or_else lifetimes) e)
    ∙ (λ i. or_else (a i) (or_else (c i) (or_else (b i) (d i))))
    ∙ (λ i. or_else (twice_own seen (entry kind.Value f.name ∷ [])) (or_else (repeated [] (l i)) (or_else (repeated_parameter (seen ++ entry kind.Value f.name ∷ []) [] (p i))
    (or_else (repeated [] (param_idents f.params)) (twice_in_block vs f.body)))))

pub enum_twice : (vs : List ValueNames) (seen : List Entry) (x : enums.Enum) (ps : List Ident) (vars : List variants.Variant) (own params inside rest places : Pair) → ps ≡ x.params → vars ≡ x.variants →
    own ≡ twice_own seen (entry kind.Type x.name ∷ []) → params ≡ repeated_parameter (seen ++ entry kind.Type x.name ∷ []) [] ps → inside ≡ repeated [] (variant_idents vars) →
    rest ≡ or_else params inside → places ≡ or_else own rest → places ≡ twice_in_item vs seen (forms.Enum x)
unfolding twice_in_item
enum_twice vs seen x ps vars own params inside rest places p l a b d e h =
    h ∙ ap (or_else own) e
    ∙ (λ i. or_else (a i) (or_else (b i) (d i)))
    ∙ (λ i. or_else (twice_own seen (entry kind.Type x.name ∷ [])) (or_else (repeated_parameter (seen ++ entry kind.Type x.name ∷ []) [] (p i)) (repeated [] (variant_idents (l i)))))

pub struct_twice : (vs : List ValueNames) (seen : List Entry) (x : structs.Struct) (k : Kind) (ps : List Ident) (own params inside rest places : Pair) → k ≡ struct_kind x.fields → ps ≡ x.params →
    own ≡ twice_own seen (entry k x.name ∷ []) → params ≡ repeated_parameter (seen ++ entry k x.name ∷ []) [] ps → inside ≡ repeated [] (field_names x.fields) →
    rest ≡ or_else params inside → places ≡ or_else own rest → places ≡ twice_in_item vs seen (forms.Struct x)
unfolding twice_in_item
struct_twice vs seen x k ps own params inside rest places q p a b d e h =
    h ∙ ap (or_else own) e
    ∙ (λ i. or_else (a i) (or_else (b i) (d i)))
    ∙ (λ i. or_else (twice_own seen (entry (q i) x.name ∷ [])) (or_else (repeated_parameter (seen ++ entry (q i) x.name ∷ []) [] (p i)) (repeated [] (field_names x.fields))))
