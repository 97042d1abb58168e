-- Constructors are read as they are spelled.
use Rattle.std.proofs.Common.{◌≡◌, refl, ap, sym, ◌∙◌, ℕ, Bool, [], ◌∷◌, length, Option, Some, None}
use Rattle.std.specs.Prelude.{◌==◌, if◌then◌else◌, codes, is_some, slice_get}
use Rattle.std.specs.Option.{option_map, option_and_then}
use Rattle.aen_base.specs.declared.ids.TypeId.{TypeId}
use Rattle.aen_base.specs.declared.span.Span.{Span}
use Rattle.pure_ast.specs.declared.ctor.CtorId.{CtorId}
use Rattle.pure_ast.specs.declared.ctor.CtorId.TheVariants.{Of, Brk, Ret}
use Rattle.pure_ast.specs.declared.def.Defs.{Defs}
use Rattle.pure_ast.specs.declared.def.PType.{PType}
use Rattle.text_meaning.specs.declared.mark.Mark.TheVariants as M
use Rattle.text_meaning.specs.Lookups.{Variant, parts_of, type_name, variant_name}
use Rattle.text_meaning.specs.SpelledNames.{ctor_tokens}
use Rattle.text_meaning.specs.Tokens.{word, id, mark}
use Rattle.text_table.specs.declared.part.Part.TheVariants as N
use Rattle.text_table.specs.declared.terminal.Terminal.TheVariants as T
use Rattle.raw_ast.specs.declared.names.Constructor.{Constructor}
use Rattle.raw_ast.specs.declared.names.Constructor.TheVariants as C
use Rattle.raw_ast.specs.declared.spelling.Spelling.{Spelling}
use Rattle.raw_ways.specs.Ways.{spelled as spelling_of}
use Rattle.raw_meaning.specs.declared.outline.Outline.{Outline}
use Rattle.raw_meaning.specs.Lookups.{type_of, constructor_of}
use Rattle.raw_meaning.specs.Rules as rule
use Rattle.raw_meaning.specs.Rules.{unless, unless_parts}
use Rattle.raw_meaning.specs.Trees.{constructor_id, with_parts}
use Rattle.raw_completeness.specs.Finding.{Finds}
use Rattle.raw_completeness.specs.Leaves.{Says, names}
use Rattle.raw_completeness.specs.Lists.{same_number}
use Rattle.raw_completeness.specs.Rows.{Reading, done, fixed, leaf, last, produce}

-- a constructor as it is spelled stands for this one, where this one has so many parts
abbrev pub IsConstructorOf : Defs → Outline → CtorId → Constructor → Type 0
IsConstructorOf d h c v = (n : ℕ) → parts_of d c ≡ Some n → (constructor_id h v n ≡ Some c) × (rule.constructor h v n ≡ [])

declared_by : (o : Option PType) (k n : ℕ) → option_map (λ (v : Variant). length v.1) (option_and_then (λ (p : PType). slice_get p.variants k) o) ≡ Some n →
    (m : ℕ) × (option_map (λ (p : PType). length p.params) o ≡ Some m)
declared_by None k n h = absurd cc
declared_by (Some p) k n h = (length p.params, refl)

exit_of : (c : CtorId) (n : ℕ) (span : Span) → 1 ≡ n → (with_parts (Some (c, 1)) n ≡ Some c) × (unless (n == 1) span ≡ [])
exit_of c n span e = (ap (λ (m : ℕ). with_parts (Some (c, 1)) m) (sym e), ap (λ (m : ℕ). unless (m == 1) span) (sym e))

module _ (d : Defs) (h : Outline) (finds : Finds d h) where
  variant_of : (t : TypeId) (k : ℕ) (a b : Spelling) → a.text ≡ type_name d t.0 → b.text ≡ variant_name d t.0 k → IsConstructorOf d h (Of t k) (C.Of a b)
  variant_of t k a b e f n w =
      let m = declared_by (slice_get d.types t.0) k n w in
      let named : type_of h a.text ≡ Some (t.0, m.0) = ap (type_of h) e ∙ finds.types t.0 m.0 m.1 in
      let found : constructor_of h a.text b.text ≡ Some (Of t k, n) = (λ i. constructor_of h (e i) (f i)) ∙ finds.constructors t k n w in (
        ap (λ (o : Option (CtorId × ℕ)). with_parts o n) found ∙ ap (λ (b : Bool). if b then Some (Of t k) else None) (same_number n),
        (λ i. if is_some (named i) then unless_parts (found i) n b.span else a.span ∷ []) ∙ ap (λ (x : Bool). unless x b.span) (same_number n),
      )

  pub constructor_read : (c : CtorId) → Reading N.Constructor (ctor_tokens d c) (IsConstructorOf d h c)
  constructor_read (Of t k) =
      produce N.Constructor 0 (leaf T.Name (id (type_name d t.0)) (Says (type_name d t.0)) (fixed T.Dot (mark M.Dot) (leaf T.Name (id (variant_name d t.0 k)) (Says (variant_name d t.0 k)) done)))
      (IsConstructorOf d h (Of t k)) refl (names (type_name d t.0), (names (variant_name d t.0 k), tt))
      (λ ls us vs r g. (vs, (r, variant_of t k (spelling_of vs.0) (spelling_of vs.1.1.0) g.0 g.1.0)))
  constructor_read Brk =
      let end = produce N.ExitVariant 0 (fixed T.Brk (word (codes "brk")) done) (IsConstructorOf d h Brk) refl tt
      (λ ls us vs r g. (vs, (r, λ n w. let e : 1 ≡ n = cc in exit_of Brk n vs.0.span e))) in
      produce N.Constructor 1 (fixed T.Exit (word (codes "Exit")) (fixed T.Dot (mark M.Dot) (last N.ExitVariant (word (codes "brk") ∷ []) (IsConstructorOf d h Brk))))
      (IsConstructorOf d h Brk) refl end (λ ls us vs r g. (vs, (r, g)))
  constructor_read Ret =
      let end = produce N.ExitVariant 1 (fixed T.Ret (word (codes "ret")) done) (IsConstructorOf d h Ret) refl tt
      (λ ls us vs r g. (vs, (r, λ n w. let e : 1 ≡ n = cc in exit_of Ret n vs.0.span e))) in
      produce N.Constructor 1 (fixed T.Exit (word (codes "Exit")) (fixed T.Dot (mark M.Dot) (last N.ExitVariant (word (codes "ret") ∷ []) (IsConstructorOf d h Ret))))
      (IsConstructorOf d h Ret) refl end (λ ls us vs r g. (vs, (r, g)))
