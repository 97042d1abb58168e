-- Definitions are found by their keys as by their kinds.
use Rattle.std.proofs.Common.{◌≡◌, ℕ, suc, ◌==◌, ◌&&◌, Bool, true, false, if◌then◌else◌, List, [], ◌∷◌, map, Option, Some, None, refl, ap, ◌∙◌}
use Rattle.std.specs.Prelude.{◌||◌, is_some}
use Rattle.std.specs.Option.{option_map}
use Rattle.pure_ast.specs.declared.def.DefKind.{DefKind}
use Rattle.pure_ast.specs.declared.def.DefKind.TheVariants as K
use Rattle.raw_meaning.specs.Rules.{is_among}
use Rattle.text_names.specs.Kinds.{key_of, head_of_key}
use Rattle.raw_meaning.specs.Lookups.{same_kind, head_of_kind}
use Rattle.text_names.specs.Places.{place_by}
use Rattle.text_names.specs.contracts.kind_key.KindKeyPartialEq.TheImpl as e
use Rattle.raw_meaning.specs.declared.outline.DefinitionHead.{DefinitionHead}

with_true : (b : Bool) → b ≡ (b && true)
with_true true = refl
with_true false = refl

with_false : (b : Bool) → false ≡ (b && false)
with_false true = refl
with_false false = refl

pub same_key : (a b : DefKind) → same_kind a b ≡ e.eq-value.it (key_of a) (key_of b)
same_key (K.Forward f) (K.Forward g) = with_true (f.0 == g.0)
same_key (K.Back f r) (K.Back g s) = refl
same_key (K.Loop f k) (K.Loop g l) = ap (λ b. (f.0 == g.0) && b) (with_true (k.0 == l.0))
same_key (K.LoopBack f k c) (K.LoopBack g l m) = refl
same_key (K.Forward f) (K.Back g s) = with_false (f.0 == g.0)
same_key (K.Forward f) (K.Loop g s) = with_false (f.0 == g.0)
same_key (K.Forward f) (K.LoopBack g s c) = with_false (f.0 == g.0)
same_key (K.Back f r) (K.Forward g) = with_false (f.0 == g.0)
same_key (K.Back f r) (K.Loop g s) = with_false (f.0 == g.0)
same_key (K.Back f r) (K.LoopBack g s c) = with_false (f.0 == g.0)
same_key (K.Loop f r) (K.Forward g) = with_false (f.0 == g.0)
same_key (K.Loop f r) (K.Back g s) = with_false (f.0 == g.0)
same_key (K.Loop f r) (K.LoopBack g s c) = with_false (f.0 == g.0) ∙ ap (λ b. (f.0 == g.0) && b) (with_false (r.0 == s.0))
same_key (K.LoopBack f r c) (K.Forward g) = with_false (f.0 == g.0)
same_key (K.LoopBack f r c) (K.Back g s) = with_false (f.0 == g.0)
same_key (K.LoopBack f r c) (K.Loop g s) = with_false (f.0 == g.0) ∙ ap (λ b. (f.0 == g.0) && b) (with_false (r.0 == s.0))

pub head_by_key : (xs : List DefinitionHead) (a : DefKind) → head_of_kind xs a ≡ head_of_key e.eq-value.it xs (key_of a)
head_by_key [] a = refl
head_by_key (x ∷ xs) a = λ i. if same_key x.kind a i then Some (0, x.parameters) else option_map (λ (p : ℕ × ℕ). (suc p.0, p.1)) (head_by_key xs a i)

among_by : (b c : Bool) (o : Option ℕ) → c ≡ is_some o → (b || c) ≡ is_some (if b then Some 0 else option_map (λ n. suc n) o)
among_by true c o h = refl
among_by false c None h = h
among_by false c (Some k) h = h

-- a kind is among those whose keys have a place for its key
pub among_by_key : (ks : List DefKind) (a : DefKind) → is_among ks a ≡ is_some (place_by e.eq-value.it (map key_of ks) (key_of a))
among_by_key [] a = refl
among_by_key (k ∷ ks) a =
    ap (λ b. b || is_among ks a) (same_key k a)
    ∙ among_by (e.eq-value.it (key_of k) (key_of a)) (is_among ks a) (place_by e.eq-value.it (map key_of ks) (key_of a)) (among_by_key ks a)
