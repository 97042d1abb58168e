-- Names that are looked up are spelled as what they stand for.
use Rattle.std.specs.Prelude.{◌≡◌, refl, ℕ, suc, Bool, true, false, ◌==◌, ◌&&◌, if◌then◌else◌, List, [], ◌∷◌, ◌++◌, length, map, Option, Some, None, codes, slice_get}
use Rattle.std.specs.Fmt.{decimal}
use Rattle.std.specs.Option.{option_map, option_and_then}
use Rattle.std.proofs.Common.{ap, sym, ◌∙◌, subst}
use Rattle.std.proofs.lemmas.Bool.{eqb-true}
use Rattle.pure_ast.specs.declared.ctor.CtorId.{CtorId}
use Rattle.pure_ast.specs.declared.ctor.CtorId.TheVariants.{Of, Brk, Ret}
use Rattle.pure_ast.specs.declared.def.Def.{Def}
use Rattle.pure_ast.specs.declared.def.DefKind.{DefKind}
use Rattle.pure_ast.specs.declared.def.DefKind.TheVariants as D
use Rattle.pure_ast.specs.declared.def.Defs.{Defs}
use Rattle.pure_ast.specs.declared.def.PType.{PType}
use Rattle.text_meaning.specs.Lookups.{Variant as NamedFields, or_empty, type_name, variant, variant_name, function_name}
use Rattle.text_meaning.specs.SpelledNames.{ctor_tokens, kind_tokens, def_name_tokens, callee_tokens}
use Rattle.text_meaning.specs.Tokens.{word, id}
use Rattle.text_syntax.specs.Among.{and_left, and_right}
use Rattle.raw_ast.specs.declared.names.Constructor.{Constructor}
use Rattle.raw_ast.specs.declared.names.Constructor.TheVariants as C
use Rattle.raw_ast.specs.declared.names.DefinitionName.{DefinitionName}
use Rattle.raw_ast.specs.declared.spelling.Spelling.{Spelling}
use Rattle.raw_meaning.specs.declared.outline.Outline.{Outline}
use Rattle.raw_meaning.specs.declared.outline.TypeHead.{TypeHead}
use Rattle.raw_meaning.specs.declared.outline.VariantHead.{VariantHead}
use Rattle.raw_meaning.specs.Heads.{declared_by, head_of_type, head_of_variant, head_of_definition}
use Rattle.raw_meaning.specs.LookupLemmas.{found, placed}
use Rattle.raw_meaning.specs.Lookups.{find, type_of, variant_of, constructor_of, same_kind, head_of_kind, definition_of}
use Rattle.raw_meaning.specs.Numbers.{numbered}
use Rattle.raw_meaning.specs.OptionLemmas.{some_so, mapped_made, followed_made, parts_by, parts_made}
use Rattle.raw_meaning.specs.Outlines.{place_of, part_number, kind_by, kind_of}
use Rattle.raw_meaning.specs.Trees.{constructor_id}
use Rattle.raw_meaning.specs.Wants.{Wants, constructor_wants, name_wants}
use Rattle.raw_soundness.specs.NumbersSpelled.{numbered_spelled}
use Rattle.raw_soundness.specs.Spells.{Spells, over, next}

-- ---- types

type_in : (d : Defs) (a : List ℕ) (p : ℕ × ℕ) → type_of (declared_by d) a ≡ Some p → type_name d p.0 ≡ a
type_in d a p h =
    let m = mapped_made (λ (q : ℕ × TypeHead). (q.0, q.1.parameters)) (find (λ (t : TypeHead). t.name) (map head_of_type d.types) a) p h in
    let r = found (λ (t : TypeHead). t.name) head_of_type d.types a m.0 m.1 in
    subst (λ (p : ℕ × ℕ). type_name d p.0 ≡ a) m.2
    (ap (λ (o : Option PType). or_empty (option_map (λ (t : PType). t.name) o)) r.at ∙ ap (λ (t : TypeHead). t.name) r.is ∙ r.named)

pub type_named : (h : Outline) (d : Defs) (a : List ℕ) (p : ℕ × ℕ) → declared_by d ≡ h → type_of h a ≡ Some p → type_name d p.0 ≡ a
type_named h d a p same e = type_in d a p (subst (λ h. type_of h a ≡ Some p) (sym same) e)

-- ---- constructors

-- a constructor has these names
abbrev pub AreNamesOf : Defs → List ℕ → List ℕ → CtorId → Type 0
AreNamesOf d a b (Of t k) = (type_name d t.0 ≡ a) × (variant_name d t.0 k ≡ b)
AreNamesOf d a b k = ⊥

variant_in : (d : Defs) (t : ℕ) (x : PType) (heads : List VariantHead) (a b : List ℕ) (p : CtorId × ℕ) → type_name d t ≡ a → slice_get d.types t ≡ Some x → map head_of_variant x.variants ≡ heads →
    variant_of t heads b ≡ Some p → AreNamesOf d a b p.0
variant_in d t x heads a b p n at is h =
    let g = subst (λ heads. variant_of t heads b ≡ Some p) (sym is) h in
    let m = mapped_made (λ (q : ℕ × VariantHead). (Of (record { 0 = t }) q.0, q.1.fields)) (find (λ (v : VariantHead). v.name) (map head_of_variant x.variants) b) p g in
    let r = found (λ (v : VariantHead). v.name) head_of_variant x.variants b m.0 m.1 in
    let there : variant d t m.0.0 ≡ Some r.item = ap (option_and_then (λ (t : PType). slice_get t.variants m.0.0)) at ∙ r.at in
    subst (λ (p : CtorId × ℕ). AreNamesOf d a b p.0) m.2
    (n, ap (λ (o : Option NamedFields). or_empty (option_map (λ (v : NamedFields). v.0) o)) there ∙ ap (λ (v : VariantHead). v.name) r.is ∙ r.named)

constructor_in : (d : Defs) (a b : List ℕ) (p : CtorId × ℕ) → constructor_of (declared_by d) a b ≡ Some p → AreNamesOf d a b p.0
constructor_in d a b p h =
    let m = followed_made (λ (q : ℕ × TypeHead). variant_of q.0 q.1.variants b) (find (λ (t : TypeHead). t.name) (map head_of_type d.types) a) p h in
    let r = found (λ (t : TypeHead). t.name) head_of_type d.types a m.0 m.1 in
    variant_in d m.0.0 r.item m.0.1.variants a b p
    (ap (λ (o : Option PType). or_empty (option_map (λ (t : PType). t.name) o)) r.at ∙ ap (λ (t : TypeHead). t.name) r.is ∙ r.named)
    r.at (ap (λ (t : TypeHead). t.variants) r.is) m.2

of_names : (d : Defs) (ty name : Spelling) (k : CtorId) (rest : Wants) → AreNamesOf d ty.text name.text k → Spells (constructor_wants (C.Of ty name) rest) rest (ctor_tokens d k)
of_names d ty name (Of t k) rest h = next (ap id h.0) (next refl (next (ap id h.1) over))
of_names d ty name Brk rest h = absurd h
of_names d ty name Ret rest h = absurd h

pub constructor_spelled : (h : Outline) (d : Defs) (k : Constructor) (count : ℕ) (x : CtorId) (rest : Wants) → declared_by d ≡ h → constructor_id h k count ≡ Some x →
    Spells (constructor_wants k rest) rest (ctor_tokens d x)
constructor_spelled h d (C.Of ty name) count x rest same e =
    let m = parts_made (constructor_of h ty.text name.text) count x e in
    of_names d ty name x rest
    (subst (AreNamesOf d ty.text name.text) m.2 (constructor_in d ty.text name.text m.0 (subst (λ h. constructor_of h ty.text name.text ≡ Some m.0) (sym same) m.1)))
constructor_spelled h d (C.Brk span) count x rest same e =
    subst (λ (x : CtorId). Spells (constructor_wants (C.Brk span) rest) rest (ctor_tokens d x)) (parts_by (1 == count) Brk x e) (next refl (next refl (next refl over)))
constructor_spelled h d (C.Ret span) count x rest same e =
    subst (λ (x : CtorId). Spells (constructor_wants (C.Ret span) rest) rest (ctor_tokens d x)) (parts_by (1 == count) Ret x e) (next refl (next refl (next refl over)))

-- ---- definitions

-- the numbers in a definition's name
part_by : (prefix : List ℕ) (s : Spelling) (n : ℕ) → numbered prefix s.text ≡ Some n → word (prefix ++ decimal n) ≡ word s.text
part_by prefix s n h = ap word (sym (numbered_spelled prefix s.text n h))

module _ (d : Defs) (function : Spelling) (f : ℕ) (named : function_name d f ≡ function.text) where
  -- the definition's name with these numbers is spelled as the kind
  abbrev IsKindSpelled : Option Spelling → Option Spelling → DefKind → Wants → Type 0
  IsKindSpelled turn back kind rest = Spells (name_wants (record { function = function; turn = turn; back = back }) rest) rest (kind_tokens d kind)

  forward : (kind : DefKind) (rest : Wants) → kind_by (Some f) (Some None) (Some None) ≡ Some kind → IsKindSpelled None None kind rest
  forward kind rest e = some_so (λ (x : DefKind). IsKindSpelled None None x rest) (D.Forward (record { 0 = f })) kind e (next refl (next refl (next (ap id named) over)))

  backward : (s : Spelling) (o : Option ℕ) (kind : DefKind) (rest : Wants) → numbered (codes "back") s.text ≡ o → kind_by (Some f) (Some None) (option_map (λ k. Some k) o) ≡ Some kind →
      IsKindSpelled None (Some s) kind rest
  backward s None kind rest q e = absurd cc
  backward s (Some r) kind rest q e =
      some_so (λ (x : DefKind). IsKindSpelled None (Some s) x rest) (D.Back (record { 0 = f }) (record { 0 = r })) kind e
      (next refl (next refl (next (ap id named) (next refl (next (part_by (codes "back") s r q) over)))))

  turned : (s : Spelling) (o : Option ℕ) (kind : DefKind) (rest : Wants) → numbered (codes "loop") s.text ≡ o → kind_by (Some f) (option_map (λ k. Some k) o) (Some None) ≡ Some kind →
      IsKindSpelled (Some s) None kind rest
  turned s None kind rest q e = absurd cc
  turned s (Some r) kind rest q e =
      some_so (λ (x : DefKind). IsKindSpelled (Some s) None x rest) (D.Loop (record { 0 = f }) (record { 0 = r })) kind e
      (next refl (next refl (next (ap id named) (next refl (next (part_by (codes "loop") s r q) over)))))

  turned_backward : (s t : Spelling) (o u : Option ℕ) (kind : DefKind) (rest : Wants) → numbered (codes "loop") s.text ≡ o → numbered (codes "back") t.text ≡ u →
      kind_by (Some f) (option_map (λ k. Some k) o) (option_map (λ k. Some k) u) ≡ Some kind → IsKindSpelled (Some s) (Some t) kind rest
  turned_backward s t None None kind rest q g e = absurd cc
  turned_backward s t None (Some c) kind rest q g e = absurd cc
  turned_backward s t (Some r) None kind rest q g e = absurd cc
  turned_backward s t (Some r) (Some c) kind rest q g e =
      some_so (λ (x : DefKind). IsKindSpelled (Some s) (Some t) x rest) (D.LoopBack (record { 0 = f }) (record { 0 = r }) c) kind e
      (next refl (next refl (next (ap id named) (next refl (next (part_by (codes "loop") s r q) (next refl (next (part_by (codes "back") t c g) over)))))))

  kind_here : (turn back : Option Spelling) (kind : DefKind) (rest : Wants) → kind_by (Some f) (part_number (codes "loop") turn) (part_number (codes "back") back) ≡ Some kind →
      IsKindSpelled turn back kind rest
  kind_here None None kind rest e = forward kind rest e
  kind_here None (Some s) kind rest e = backward s (numbered (codes "back") s.text) kind rest refl e
  kind_here (Some s) None kind rest e = turned s (numbered (codes "loop") s.text) kind rest refl e
  kind_here (Some s) (Some t) kind rest e = turned_backward s t (numbered (codes "loop") s.text) (numbered (codes "back") t.text) kind rest refl refl e

kind_there : (d : Defs) (n : DefinitionName) (o : Option ℕ) (kind : DefKind) (rest : Wants) → place_of d.names n.function.text ≡ o →
    kind_by o (part_number (codes "loop") n.turn) (part_number (codes "back") n.back) ≡ Some kind → Spells (name_wants n rest) rest (kind_tokens d kind)
kind_there d n None kind rest p e = absurd cc
kind_there d n (Some f) kind rest p e = kind_here d n.function f (ap or_empty (placed d.names n.function.text f p)) n.turn n.back kind rest e

-- a definition's name
pub name_spelled : (d : Defs) (n : DefinitionName) (kind : DefKind) (rest : Wants) → kind_of d.names n ≡ Some kind → Spells (name_wants n rest) rest (kind_tokens d kind)
name_spelled d n kind rest e = kind_there d n (place_of d.names n.function.text) kind rest refl e

kind_same : (a b : DefKind) → same_kind a b ≡ true → a ≡ b
kind_same (D.Forward f) (D.Forward g) h = (λ i. D.Forward (record { 0 = eqb-true f.0 g.0 h i }))
kind_same (D.Back f r) (D.Back g s) h = (λ i. D.Back (record { 0 = eqb-true f.0 g.0 (and_left _ _ h) i }) (record { 0 = eqb-true r.0 s.0 (and_right (f.0 == g.0) _ h) i }))
kind_same (D.Loop f k) (D.Loop g l) h = (λ i. D.Loop (record { 0 = eqb-true f.0 g.0 (and_left _ _ h) i }) (record { 0 = eqb-true k.0 l.0 (and_right (f.0 == g.0) _ h) i }))
kind_same (D.LoopBack f k c) (D.LoopBack g l m) h =
    let r = and_right (f.0 == g.0) ((k.0 == l.0) && (c == m)) h in
    (λ i. D.LoopBack (record { 0 = eqb-true f.0 g.0 (and_left _ _ h) i }) (record { 0 = eqb-true k.0 l.0 (and_left _ _ r) i }) (eqb-true c m (and_right (k.0 == l.0) _ r) i))
kind_same (D.Forward f) (D.Back g s) h = absurd cc
kind_same (D.Forward f) (D.Loop g s) h = absurd cc
kind_same (D.Forward f) (D.LoopBack g s c) h = absurd cc
kind_same (D.Back f r) (D.Forward g) h = absurd cc
kind_same (D.Back f r) (D.Loop g s) h = absurd cc
kind_same (D.Back f r) (D.LoopBack g s c) h = absurd cc
kind_same (D.Loop f r) (D.Forward g) h = absurd cc
kind_same (D.Loop f r) (D.Back g s) h = absurd cc
kind_same (D.Loop f r) (D.LoopBack g s c) h = absurd cc
kind_same (D.LoopBack f r c) (D.Forward g) h = absurd cc
kind_same (D.LoopBack f r c) (D.Back g s) h = absurd cc
kind_same (D.LoopBack f r c) (D.Loop g s) h = absurd cc

-- the definition of this kind in this place
abbrev IsKindAt : Defs → List Def → DefKind → ℕ × ℕ → Type 0
IsKindAt d xs kind p = def_name_tokens d (slice_get xs p.0) ≡ kind_tokens d kind

kind_found : (b : Bool) (o : Option (ℕ × ℕ)) (d : Defs) (x : Def) (xs : List Def) (kind : DefKind) (p : ℕ × ℕ) → (b ≡ true → x.kind ≡ kind) → ((q : ℕ × ℕ) → o ≡ Some q → IsKindAt d xs kind q) →
    (if b then Some (0, length x.params) else option_map (λ (q : ℕ × ℕ). (suc q.0, q.1)) o) ≡ Some p → IsKindAt d (x ∷ xs) kind p
kind_found true o d x xs kind p f g h = some_so (IsKindAt d (x ∷ xs) kind) (0, length x.params) p h (ap (kind_tokens d) (f refl))
kind_found false o d x xs kind p f g h =
    let m = mapped_made (λ (q : ℕ × ℕ). (suc q.0, q.1)) o p h in subst (IsKindAt d (x ∷ xs) kind) m.2 (g m.0 m.1)

kind_at : (d : Defs) (xs : List Def) (kind : DefKind) (p : ℕ × ℕ) → head_of_kind (map head_of_definition xs) kind ≡ Some p → IsKindAt d xs kind p
kind_at d [] kind p h = absurd cc
kind_at d (x ∷ xs) kind p h =
    kind_found (same_kind x.kind kind) (head_of_kind (map head_of_definition xs) kind) d x xs kind p (kind_same x.kind kind) (kind_at d xs kind) h

callee_in : (d : Defs) (n : DefinitionName) (p : ℕ × ℕ) (rest : Wants) → definition_of (declared_by d) n ≡ Some p → Spells (name_wants n rest) rest (callee_tokens d p.0)
callee_in d n p rest h =
    let m = followed_made (head_of_kind (map head_of_definition d.defs)) (kind_of d.names n) p h in
    subst (Spells (name_wants n rest) rest) (sym (kind_at d d.defs m.0 p m.2)) (name_spelled d n m.0 rest m.1)

-- a definition that is called
pub callee_spelled : (h : Outline) (d : Defs) (n : DefinitionName) (p : ℕ × ℕ) (rest : Wants) → declared_by d ≡ h → definition_of h n ≡ Some p → Spells (name_wants n rest) rest (callee_tokens d p.0)
callee_spelled h d n p rest same e = callee_in d n p rest (subst (λ h. definition_of h n ≡ Some p) (sym same) e)
