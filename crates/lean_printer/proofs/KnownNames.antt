-- The names that well-formed definitions cite are names, so they are read back.
use Rattle.std.proofs.Common.{◌≡◌, refl, sym, subst, ℕ, zero, suc, ◌<◌, ◌≤◌, Bool, true, false, inl, inr, Option, Some, None, List, [], ◌∷◌, ◌++◌, length, arith}
use Rattle.std.specs.Prelude.{codes, map, slice_get}
use Rattle.std.specs.Option.{option_map, option_and_then}
use Rattle.pure_ast.specs.declared.ctor.CtorId.{CtorId}
use Rattle.pure_ast.specs.declared.ctor.CtorId.TheVariants.{Of, Brk, Ret}
use Rattle.pure_ast.specs.declared.def.Def.{Def}
use Rattle.pure_ast.specs.declared.def.Defs.{Defs}
use Rattle.pure_ast.specs.declared.def.PType.{PType}
use Rattle.text_meaning.specs.declared.mark.Mark.TheVariants.{Dot}
use Rattle.text_meaning.specs.Lists.{Each}
use Rattle.text_meaning.specs.Lookups.{Variant, function_name, parts_of, or_empty}
use Rattle.text_meaning.specs.Names.{IsName}
use Rattle.text_meaning.specs.ShownNames.{name_text, ctor_text, def_name_text}
use Rattle.text_meaning.specs.SpelledNames.{ctor_tokens, def_name_tokens}
use Rattle.text_meaning.specs.Tokens.{id, mark}
use Rattle.text_meaning.specs.WellFormed.{IsWellFormed, AreInOrder, function_of}
use Rattle.text_meaning.specs.WellFormedTypes.{IsDeclaration, AreVariants}
use Rattle.lean_printer.proofs.Lays.{Lays, seq, free, apart}
use Rattle.lean_printer.proofs.LaysNames.{dot, dotted_lays, kind_lays}
use Rattle.lean_printer.proofs.LaysTypes.{Known}
use Rattle.lean_printer.proofs.LaysWords.{NameLays, name_lays, plain_lays, word_lays}

-- facts on each item
pub each_at : {A : Type 0} (P : A → Type 0) (xs : List A) → Each P xs → (k : ℕ) (x : A) → slice_get xs k ≡ Some x → P x
each_at P [] e k x h = absurd cc
each_at P (y ∷ ys) e zero x h = let same : y ≡ x = cc in subst P same e.0
each_at P (y ∷ ys) e (suc k) x h = each_at P ys e.1 k x h

pub each_map : {A B : Type 0} (f : A → B) (P : B → Type 0) (xs : List A) → Each P (map f xs) → Each (λ x. P (f x)) xs
each_map f P [] e = tt
each_map f P (x ∷ xs) e = (e.0, each_map f P xs e.1)

pub each_both : {A : Type 0} (P Q : A → Type 0) (xs : List A) → Each P xs → Each Q xs → Each (λ x. P x × Q x) xs
each_both P Q [] e g = tt
each_both P Q (x ∷ xs) e g = ((e.0, g.0), each_both P Q xs e.1 g.1)

pub name_at : (names : List (List ℕ)) (k : ℕ) → k < length names → Each IsName names → NameLays (or_empty (slice_get names k))
name_at [] k h e = absurd (omega (arith, h))
name_at (n ∷ names) zero h e = name_lays n e.0
name_at (n ∷ names) (suc k) h e = name_at names k (omega (arith, h)) e.1

-- each definition is of a function with a name
pub order_each : (ds : List Def) (k count : ℕ) → AreInOrder k ds count → Each (λ d. function_of d.kind < count) ds × (k ≤ count)
order_each [] k count h = (tt, omega (arith, h))
order_each (d ∷ ds) k count (inl h) = let r = order_each ds k count h.1 in ((omega (arith, h.0, r.1), r.0), r.1)
order_each (d ∷ ds) k count (inr h) = let r = order_each ds (suc k) count h.1 in ((omega (arith, h.0, r.1), r.0), omega (arith, r.1))

variant_named : (is_struct : Bool) (vs : List Variant) → AreVariants is_struct vs → (k : ℕ) (v : Variant) → slice_get vs k ≡ Some v → NameLays v.0
variant_named true [] h k v e = absurd h
variant_named true (w ∷ []) h zero v e =
    let same : w ≡ v = cc in
    subst (λ (x : Variant). NameLays x.0) same (subst NameLays (sym h.0) (plain_lays (codes "mk") refl))
variant_named true (w ∷ []) h (suc k) v e = absurd cc
variant_named true (w ∷ x ∷ vs) h k v e = absurd h
variant_named false vs h k v e = name_lays v.0 (each_at (λ x. IsName x.0) vs (each_map (λ x. x.0) IsName vs h.0.0) k v e)

module _ (defs : Defs) (wf : IsWellFormed defs) where
  pub types_are_named : Each (λ d. IsName d.name) defs.types
  types_are_named = each_map (λ d. d.name) IsName defs.types wf.types_named.0

  pub functions_named : Each (λ d. NameLays (function_name defs (function_of d.kind))) defs.defs
  functions_named = by defs.defs (order_each defs.defs 0 (length defs.names) wf.order).0
    where
      by : (ds : List Def) → Each (λ d. function_of d.kind < length defs.names) ds → Each (λ d. NameLays (function_name defs (function_of d.kind))) ds
      by [] e = tt
      by (d ∷ ds) e = (name_at defs.names (function_of d.kind) e.0 wf.functions_named.0, by ds e.1)

  type_by : (t count : ℕ) (o : Option PType) → slice_get defs.types t ≡ o → option_map (λ d. length d.params) o ≡ Some count →
      NameLays (or_empty (option_map (λ d. d.name) o))
  type_by t count None e h = absurd cc
  type_by t count (Some d) e h = name_lays d.name (each_at (λ x. IsName x.name) defs.types types_are_named t d e)

  abbrev made : (o : Option PType) (w : Option Variant) → Type 0
  made o w = Lays apart free
      (name_text (or_empty (option_map (λ d. d.name) o)) ++ (codes "." ++ name_text (or_empty (option_map (λ v. v.0) w))))
      (id (or_empty (option_map (λ d. d.name) o)) ∷ mark Dot ∷ id (or_empty (option_map (λ v. v.0) w)) ∷ [])

  variant_by : (t k count : ℕ) (d : PType) (w : Option Variant) → slice_get defs.types t ≡ Some d → slice_get d.variants k ≡ w →
      option_map (λ v. length v.1) w ≡ Some count → made (Some d) w
  variant_by t k count d None e g h = absurd cc
  variant_by t k count d (Some v) e g h =
      let declared = each_at (IsDeclaration defs) defs.types wf.types t d e in
      seq (name_lays d.name (each_at (λ x. IsName x.name) defs.types types_are_named t d e))
      (seq dot (variant_named d.is_struct d.variants declared.variants k v g))

  ctor_by : (t k count : ℕ) (o : Option PType) → slice_get defs.types t ≡ o →
      option_map (λ v. length v.1) (option_and_then (λ d. slice_get d.variants k) o) ≡ Some count →
      made o (option_and_then (λ d. slice_get d.variants k) o)
  ctor_by t k count None e h = absurd cc
  ctor_by t k count (Some d) e h = variant_by t k count d (slice_get d.variants k) e refl h

  ctor : (c : CtorId) (count : ℕ) → parts_of defs c ≡ Some count → Lays apart free (ctor_text defs c) (ctor_tokens defs c)
  ctor (Of t k) count h = ctor_by t.0 k count (slice_get defs.types t.0) refl h
  ctor Brk count h = dotted_lays (word_lays (codes "Exit") (λ r. refl)) (word_lays (codes "brk") (λ r. refl))
  ctor Ret count h = dotted_lays (word_lays (codes "Exit") (λ r. refl)) (word_lays (codes "ret") (λ r. refl))

  callee_by : (k count : ℕ) (o : Option Def) → slice_get defs.defs k ≡ o → option_map (λ d. length d.params) o ≡ Some count →
      Lays apart free (def_name_text defs o) (def_name_tokens defs o)
  callee_by k count None e h = absurd cc
  callee_by k count (Some d) e h =
      kind_lays defs d.kind (each_at (λ x. NameLays (function_name defs (function_of x.kind))) defs.defs functions_named k d e)

  pub known : Known defs
  known = record {
    type_known = λ t count h. type_by t count (slice_get defs.types t) refl h;
    ctor_known = ctor;
    callee_known = λ k count h. callee_by k count (slice_get defs.defs k) refl h;
  }
