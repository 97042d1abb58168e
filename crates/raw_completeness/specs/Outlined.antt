-- What is read of the text that definitions are spelled as declares what they declare.
use Rattle.std.proofs.Common.{◌≡◌, refl, ap, sym, subst, ◌∙◌, ℕ, suc, ◌<◌, Bool, List, [], ◌∷◌, ◌++◌, append_assoc, append-nil, length, length-append, map, Option, Some, inl, inr, arith}
use Rattle.std.specs.Prelude.{if◌then◌else◌, is_some, slice_get}
use Rattle.pure_ast.specs.declared.def.Def.{Def}
use Rattle.pure_ast.specs.declared.def.Defs.{Defs}
use Rattle.text_meaning.specs.Lists.{Differ}
use Rattle.text_meaning.specs.Lookups.{function_name, or_empty}
use Rattle.text_meaning.specs.WellFormed.{function_of, AreInOrder, IsWellFormed}
use Rattle.raw_ast.specs.declared.declarations.Declaration.{Declaration}
use Rattle.raw_ast.specs.declared.declarations.Definition.{Definition}
use Rattle.raw_meaning.specs.Heads.{head_of_type, head_of_definition, declared_by}
use Rattle.raw_meaning.specs.Outlines.{place_of, type_head, with_function, functions_after, with_head, definition_heads, outline_of}
use Rattle.raw_completeness.specs.Declarations.{IsDeclarationOf}
use Rattle.raw_completeness.specs.Definitions.{IsDefinitionOf}
use Rattle.raw_completeness.specs.Finding.{least}
use Rattle.raw_completeness.specs.Lists.{there, place_of_item, not_in}
use Rattle.raw_completeness.specs.Relating.{All, all_map, differ_before, differ_front, at_front, at_middle}

module _ (d : Defs) where
  abbrev AreRead : List Def → List Definition → Type 0
  AreRead es rs = All (IsDefinitionOf d (declared_by d)) es rs

  -- functions that are known already, and a new one
  known : (fs rest : List (List ℕ)) (f : ℕ) (a : List ℕ) → d.names ≡ fs ++ rest → Differ d.names → f < length fs → a ≡ function_name d f → with_function fs a ≡ fs
  known fs rest f a e g l n =
      let x = there fs f l in
      let at : slice_get d.names f ≡ Some x.0 = ap (λ (ns : List (List ℕ)). slice_get ns f) e ∙ at_front fs rest f x.0 x.1 in
      let same : a ≡ x.0 = n ∙ ap or_empty at in
      let place : place_of fs a ≡ Some f = ap (place_of fs) same ∙ place_of_item fs x.0 f (differ_front fs rest (subst Differ e g)) x.1 in
      ap (λ (o : Option ℕ). if is_some o then fs else fs ++ a ∷ []) place

  new : (fs rest : List (List ℕ)) (b a : List ℕ) → d.names ≡ fs ++ b ∷ rest → Differ d.names → a ≡ function_name d (length fs) → with_function fs a ≡ fs ++ b ∷ []
  new fs rest b a e g n =
      let at : slice_get d.names (length fs) ≡ Some b = ap (λ (ns : List (List ℕ)). slice_get ns (length fs)) e ∙ at_middle fs b rest in
      let same : a ≡ b = n ∙ ap or_empty at in
      (λ i. with_function fs (same i)) ∙ ap (λ (x : Bool). if x then fs else fs ++ b ∷ []) (not_in fs b (differ_before fs b rest (subst Differ e g)))

  functions_same : (fs rest : List (List ℕ)) (k : ℕ) (es : List Def) (rs : List Definition) → d.names ≡ fs ++ rest → k ≡ length fs → Differ d.names → AreInOrder k es (length d.names) → AreRead es rs →
      functions_after fs rs ≡ d.names
  functions_same fs [] k [] [] e l g o q = sym (append-nil fs) ∙ sym e
  functions_same fs (b ∷ rest) k [] [] e l g o q = let m = ap length e in let n = length-append fs (b ∷ rest) in absurd (omega (arith, o))
  functions_same fs rest k [] (r ∷ rs) e l g o q = absurd q
  functions_same fs rest k (x ∷ es) [] e l g o q = absurd q
  functions_same fs rest k (x ∷ es) (r ∷ rs) e l g (inl o) q =
      let m = o.0 in
      let w = known fs rest (function_of x.kind) r.name.function.text e g (omega arith) q.0.name.function in
      ap (λ (gs : List (List ℕ)). functions_after gs rs) w ∙ functions_same fs rest k es rs e l g o.1 q.1
  functions_same fs [] k (x ∷ es) (r ∷ rs) e l g (inr o) q =
      let m = least (suc k) es (length d.names) o.1 in
      let n : length d.names ≡ length fs = ap length e ∙ ap length (append-nil fs) in
      absurd (omega arith)
  functions_same fs (b ∷ rest) k (x ∷ es) (r ∷ rs) e l g (inr o) q =
      let named : r.name.function.text ≡ function_name d (length fs) = q.0.name.function ∙ ap (function_name d) (o.0 ∙ l) in
      let long : suc k ≡ length (fs ++ b ∷ []) = let n = length-append fs (b ∷ []) in omega arith in
      ap (λ (gs : List (List ℕ)). functions_after gs rs) (new fs rest b r.name.function.text e g named)
      ∙ functions_same (fs ++ b ∷ []) rest (suc k) es rs (e ∙ sym (append_assoc fs (b ∷ []) rest)) long g o.1 q.1

  heads_same : (es : List Def) (rs : List Definition) → AreRead es rs → definition_heads d.names rs ≡ map head_of_definition es
  heads_same [] [] q = refl
  heads_same [] (r ∷ rs) q = absurd q
  heads_same (e ∷ es) [] q = absurd q
  heads_same (e ∷ es) (r ∷ rs) q = λ i. with_head (q.0.kind i) (q.0.count i) (heads_same es rs q.1 i)

  pub outline_same : (ts : List Declaration) (rs : List Definition) → IsWellFormed d → All (IsDeclarationOf d (declared_by d)) d.types ts → AreRead d.defs rs →
      outline_of (record { types = ts; definitions = rs }) ≡ declared_by d
  outline_same ts rs w p q =
      let functions : functions_after [] rs ≡ d.names = functions_same [] d.names 0 d.defs rs refl refl w.functions_named.1 w.order q in
      (λ i. record {
        types = all_map (IsDeclarationOf d (declared_by d)) type_head head_of_type (λ t r g. g.head) d.types ts p i;
        functions = functions i;
        definitions = definition_heads (functions i) rs;
      }) ∙ (λ i. record { types = map head_of_type d.types; functions = d.names; definitions = heads_same d.defs rs q i })
