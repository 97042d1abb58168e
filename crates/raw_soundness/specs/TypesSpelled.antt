-- Types as they are spelled are spelled as the types that they stand for.
use Rattle.std.specs.Prelude.{◌≡◌, refl, ℕ, suc, List, length, Option, Some, None}
use Rattle.std.proofs.Common.{ap, ◌∙◌, subst}
use Rattle.pure_ast.specs.declared.def.Defs.{Defs}
use Rattle.pure_ast.specs.Types as ty
use Rattle.pure_ast.specs.Types.{PTy, PTys}
use Rattle.text_meaning.specs.declared.mark.Mark.TheVariants.{Close}
use Rattle.text_meaning.specs.Lookups.{or_empty, type_name}
use Rattle.text_meaning.specs.SpelledTypes.{type_tokens, types_tokens, times_tokens}
use Rattle.text_meaning.specs.Tokens.{id}
use Rattle.raw_ast.specs.declared.spelling.Spelling.{Spelling}
use Rattle.raw_ast.specs.Types as r
use Rattle.raw_ast.specs.Types.{RawType, RawTypes, rawtypes_list}
use Rattle.raw_meaning.specs.declared.outline.Outline.{Outline}
use Rattle.raw_meaning.specs.Heads.{declared_by}
use Rattle.raw_meaning.specs.LookupLemmas.{placed}
use Rattle.raw_meaning.specs.Lookups.{type_of}
use Rattle.raw_meaning.specs.OptionLemmas.{some_so, mapped_made, both_made, parts_made}
use Rattle.raw_meaning.specs.Outlines.{place_of}
use Rattle.raw_meaning.specs.Trees.{both, with_parts, named_by, type_tree, type_trees}
use Rattle.raw_meaning.specs.Wants.{Wants, marks, type_wants, types_wants, times_wants}
use Rattle.raw_soundness.specs.NamesSpelled.{type_named}
use Rattle.raw_soundness.specs.Spells.{Spells, over, next, seq}

module _ (h : Outline) (d : Defs) (same : declared_by d ≡ h) (ps : List (List ℕ)) where
  -- the token of a type's name
  named_here : (s : Spelling) (n : ℕ) (k : ℕ) → with_parts (type_of h s.text) n ≡ Some k → type_name d k ≡ s.text
  named_here s n k e =
      let m = parts_made (type_of h s.text) n k e in
      subst (λ k. type_name d k ≡ s.text) m.2 (type_named h d s.text m.0 same m.1)

  alone : (s : Spelling) (o : Option ℕ) (t : PTy) (rest : Wants) → place_of ps s.text ≡ o → named_by o (type_of h s.text) 0 (Some ty.no_ptys) ≡ Some t →
      Spells (type_wants (r.named s r.no_rawtypes) rest) rest (type_tokens d ps t)
  alone s (Some k) t rest p e =
      some_so (λ t. Spells (type_wants (r.named s r.no_rawtypes) rest) rest (type_tokens d ps t)) (ty.parameter k) t e (next (ap id (ap or_empty (placed ps s.text k p))) over)
  alone s None t rest p e =
      let m = both_made (λ k ts. ty.named k ts) (with_parts (type_of h s.text) 0) (Some ty.no_ptys) t e in
      subst (λ t. Spells (type_wants (r.named s r.no_rawtypes) rest) rest (type_tokens d ps t)) m.is
      (some_so (λ ts. Spells (type_wants (r.named s r.no_rawtypes) rest) rest (type_tokens d ps (ty.named m.first ts))) ty.no_ptys m.second m.is_second
      (next (ap id (named_here s 0 m.first m.is_first)) over))

  -- a type with arguments
  record Applied (s : Spelling) (x : RawType) (xs : RawTypes) (t : PTy) : Type 0 where
    pub place : ℕ
    pub named : type_name d place ≡ s.text
    pub first : PTy
    pub more : PTys
    pub is_first : type_tree h ps x ≡ Some first
    pub is_more : type_trees h ps xs ≡ Some more
    pub is : ty.named place (ty.more_ptys first more) ≡ t

  applied : (s : Spelling) (x : RawType) (xs : RawTypes) (o : Option ℕ) (t : PTy) →
      named_by o (type_of h s.text) (suc (length (rawtypes_list xs))) (both (λ y ys. ty.more_ptys y ys) (type_tree h ps x) (type_trees h ps xs)) ≡ Some t → Applied s x xs t
  applied s x xs (Some k) t e = absurd cc
  applied s x xs None t e =
      let n = suc (length (rawtypes_list xs)) in
      let m = both_made (λ k ts. ty.named k ts) (with_parts (type_of h s.text) n) (both (λ y ys. ty.more_ptys y ys) (type_tree h ps x) (type_trees h ps xs)) t e in
      let q = both_made (λ y ys. ty.more_ptys y ys) (type_tree h ps x) (type_trees h ps xs) m.second m.is_second in
      record {
        place = m.first;
        named = named_here s n m.first m.is_first;
        first = q.first;
        more = q.second;
        is_first = q.is_first;
        is_more = q.is_second;
        is = ap (λ ts. ty.named m.first ts) q.is ∙ m.is;
      }

  mutual
    pub type_spelled : (x : RawType) (t : PTy) (rest : Wants) → type_tree h ps x ≡ Some t → Spells (type_wants x rest) rest (type_tokens d ps t)
    type_spelled (r.integer i) t rest e = some_so (λ t. Spells (type_wants (r.integer i) rest) rest (type_tokens d ps t)) (ty.integer i) t e (next refl over)
    type_spelled r.boolean t rest e = some_so (λ t. Spells (type_wants r.boolean rest) rest (type_tokens d ps t)) ty.boolean t e (next refl over)
    type_spelled r.unit t rest e = some_so (λ t. Spells (type_wants r.unit rest) rest (type_tokens d ps t)) ty.unit t e (next refl over)
    type_spelled (r.product r.no_rawtypes) t rest e =
        some_so (λ t. Spells (type_wants (r.product r.no_rawtypes) rest) rest (type_tokens d ps t)) (ty.product ty.no_ptys) t e (next refl (next refl over))
    type_spelled (r.product (r.more_rawtypes x xs)) t rest e =
        let m = mapped_made (λ ts. ty.product ts) (type_trees h ps (r.more_rawtypes x xs)) t e in
        let q = both_made (λ y ys. ty.more_ptys y ys) (type_tree h ps x) (type_trees h ps xs) m.0 m.1 in
        let last = marks Close rest in
        subst (λ t. Spells (type_wants (r.product (r.more_rawtypes x xs)) rest) rest (type_tokens d ps t)) (ap (λ ts. ty.product ts) q.is ∙ m.2)
        (next refl (seq (type_spelled x q.first (times_wants xs last) q.is_first) (seq (times_spelled xs q.second last q.is_second) (next refl over))))
    type_spelled (r.named s r.no_rawtypes) t rest e = alone s (place_of ps s.text) t rest refl e
    type_spelled (r.named s (r.more_rawtypes x xs)) t rest e =
        let m = applied s x xs (place_of ps s.text) t e in
        let last = marks Close rest in
        subst (λ t. Spells (type_wants (r.named s (r.more_rawtypes x xs)) rest) rest (type_tokens d ps t)) m.is
        (next refl (next (ap id m.named) (seq (type_spelled x m.first (types_wants xs last) m.is_first) (seq (types_spelled xs m.more last m.is_more) (next refl over)))))
    type_spelled (r.exit x y) t rest e =
        let m = both_made (λ x y. ty.exit x y) (type_tree h ps x) (type_tree h ps y) t e in
        let last = marks Close rest in
        subst (λ t. Spells (type_wants (r.exit x y) rest) rest (type_tokens d ps t)) m.is
        (next refl (next refl (seq (type_spelled x m.first (type_wants y last) m.is_first) (seq (type_spelled y m.second last m.is_second) (next refl over)))))

    pub types_spelled : (xs : RawTypes) (ts : PTys) (rest : Wants) → type_trees h ps xs ≡ Some ts → Spells (types_wants xs rest) rest (types_tokens d ps ts)
    types_spelled r.no_rawtypes ts rest e = some_so (λ ts. Spells rest rest (types_tokens d ps ts)) ty.no_ptys ts e over
    types_spelled (r.more_rawtypes x xs) ts rest e =
        let m = both_made (λ y ys. ty.more_ptys y ys) (type_tree h ps x) (type_trees h ps xs) ts e in
        subst (λ ts. Spells (types_wants (r.more_rawtypes x xs) rest) rest (types_tokens d ps ts)) m.is
        (seq (type_spelled x m.first (types_wants xs rest) m.is_first) (types_spelled xs m.second rest m.is_second))

    pub times_spelled : (xs : RawTypes) (ts : PTys) (rest : Wants) → type_trees h ps xs ≡ Some ts → Spells (times_wants xs rest) rest (times_tokens d ps ts)
    times_spelled r.no_rawtypes ts rest e = some_so (λ ts. Spells rest rest (times_tokens d ps ts)) ty.no_ptys ts e over
    times_spelled (r.more_rawtypes x xs) ts rest e =
        let m = both_made (λ y ys. ty.more_ptys y ys) (type_tree h ps x) (type_trees h ps xs) ts e in
        subst (λ ts. Spells (times_wants (r.more_rawtypes x xs) rest) rest (times_tokens d ps ts)) m.is
        (next refl (seq (type_spelled x m.first (times_wants xs rest) m.is_first) (times_spelled xs m.second rest m.is_second)))
