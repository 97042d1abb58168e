-- Computations are read as they are spelled.
use Rattle.std.proofs.Common.{◌≡◌, refl, ap, sym, ◌∙◌, ℕ, Bool, List, [], ◌∷◌, ◌++◌, length, Option, Some, None}
use Rattle.std.specs.Prelude.{◌==◌, if◌then◌else◌, codes, is_some, slice_get}
use Rattle.std.specs.Option.{option_map, option_and_then}
use Rattle.pure_ast.specs.declared.comp.Comp.{Comp}
use Rattle.pure_ast.specs.declared.comp.Comp.TheVariants as C
use Rattle.pure_ast.specs.declared.comp.Primitive.{Primitive}
use Rattle.pure_ast.specs.declared.def.Def.{Def}
use Rattle.pure_ast.specs.declared.def.Defs.{Defs}
use Rattle.pure_ast.specs.Terms.{Term, terms, terms_list, terms_back}
use Rattle.text_meaning.specs.Ranges.{arity}
use Rattle.text_meaning.specs.SpelledNames.{kind_tokens, def_name_tokens, prim_tokens}
use Rattle.text_meaning.specs.SpelledTerms.{term_tokens, terms_tokens, comp_tokens}
use Rattle.text_meaning.specs.Tokens.{word}
use Rattle.text_meaning.specs.WellFormed.{function_of}
use Rattle.text_meaning.specs.WellFormedTerms.{IsComp, AreTerms}
use Rattle.text_table.specs.declared.part.Part.TheVariants as N
use Rattle.text_table.specs.declared.terminal.Terminal.TheVariants as T
use Rattle.raw_ast.specs.declared.computation.Computation.{Computation}
use Rattle.raw_ast.specs.declared.computation.Computation.TheVariants as K
use Rattle.raw_ast.specs.declared.computation.Operation.{Operation}
use Rattle.raw_ast.specs.declared.names.DefinitionName.{DefinitionName}
use Rattle.raw_ast.specs.Atoms.{RawAtom, rawatoms_back}
use Rattle.raw_meaning.specs.declared.outline.Outline.{Outline}
use Rattle.raw_meaning.specs.Faults.{computation_faults}
use Rattle.raw_meaning.specs.Lookups.{definition_of, head_of_kind}
use Rattle.raw_meaning.specs.Outlines.{place_of}
use Rattle.raw_meaning.specs.Rules.{unless, unless_declared, last_place}
use Rattle.raw_meaning.specs.Trees.{computation_tree, atoms_listed, with_parts, both}
use Rattle.raw_completeness.specs.Atoms.{IsTermOf, AreTermsOf, atom_read, atoms_read}
use Rattle.raw_completeness.specs.Finding.{Finds}
use Rattle.raw_completeness.specs.Lists.{same_number}
use Rattle.raw_completeness.specs.Names.{IsNameOf, kind_found, numbers_keep, name_read}
use Rattle.raw_completeness.specs.Primitives.{IsOperationOf, primitive_read}
use Rattle.raw_completeness.specs.Rows.{Reading, done, fixed, node, last, produce}

module _ (d : Defs) (h : Outline) where
  -- a computation as it is spelled stands for this one, and breaks no rule
  abbrev pub IsCompOf : Comp → Computation → Type 0
  IsCompOf c v = (computation_tree h v ≡ Some c) × (computation_faults h v ≡ [])

  listed : (parts : List Term) (vs : List RawAtom) → AreTermsOf d h (terms parts) vs → (atoms_listed h vs ≡ Some parts) × (length vs ≡ length parts)
  listed parts vs q = (
    ap (option_map terms_list) q.0 ∙ ap (λ (ts : List Term). Some ts) (terms_back parts),
    ap (λ (xs : List RawAtom). length xs) (sym (rawatoms_back vs)) ∙ q.1.1 ∙ ap (λ (xs : List Term). length xs) (terms_back parts),
  )

  -- so many parts of what has so many
  counted : {A : Type 0} (x : A) (n : ℕ) → with_parts (Some (x, n)) n ≡ Some x
  counted x n = ap (λ (b : Bool). if b then Some x else None) (same_number n)

  module _ (finds : Finds d h) where
    call_of : (i : ℕ) (e : Def) (parts : List Term) (n : DefinitionName) (vs : List RawAtom) → slice_get d.defs i ≡ Some e → length e.params ≡ length parts → IsNameOf d e.kind n →
        AreTermsOf d h (terms parts) vs → IsCompOf (C.Call (record { 0 = i }) parts) (K.Call n vs)
    call_of i e parts n vs at w p q =
        let f = function_of e.kind in
        let l = listed parts vs q in
        let place = finds.functions f (finds.named i e at).0 in
        let there : place_of h.functions n.function.text ≡ Some f = ap (place_of h.functions) p.function ∙ place in
        let found : definition_of h n ≡ Some (i, length parts) =
        ap (option_and_then (head_of_kind h.definitions)) (kind_found d e.kind n h.functions p place) ∙ finds.definitions i e at ∙ ap (λ (m : ℕ). Some (i, m)) w in (
          (λ j. both (λ k ys. C.Call (record { 0 = k }) ys) (with_parts (found j) (l.1 j)) (l.0 j))
              ∙ ap (λ (o : Option ℕ). both (λ k ys. C.Call (record { 0 = k }) ys) o (Some parts)) (counted i (length parts)),
          (λ j. (if is_some (there j) then unless_declared (numbers_keep d e.kind n p j) (found j) (l.1 j) (last_place n) else n.function.span ∷ []) ++ q.1.0 j)
              ∙ ap (λ (b : Bool). unless b (last_place n) ++ []) (same_number (length parts)),
        )

    primitive_of : (p : Primitive) (parts : List Term) (o : Operation) (vs : List RawAtom) → arity p ≡ length parts → IsOperationOf p o → AreTermsOf d h (terms parts) vs →
        IsCompOf (C.Prim p parts) (K.Primitive o vs)
    primitive_of p parts o vs w e q =
        let l = listed parts vs q in (
          (λ j. both (λ k ys. C.Prim k ys) (with_parts (Some (e j, arity (e j))) (l.1 j)) (l.0 j))
              ∙ ap (λ (n : ℕ). both (λ k ys. C.Prim k ys) (with_parts (Some (p, n)) (length parts)) (Some parts)) w
              ∙ ap (λ (o : Option Primitive). both (λ k ys. C.Prim k ys) o (Some parts)) (counted p (length parts)),
          (λ j. unless (arity (e j) == l.1 j) o.span ++ q.1.0 j) ∙ ap (λ (n : ℕ). unless (n == length parts) o.span ++ []) w
              ∙ ap (λ (b : Bool). unless b o.span ++ []) (same_number (length parts)),
        )

    call_read : (i : ℕ) (parts : List Term) (o : Option Def) → slice_get d.defs i ≡ o → option_map (λ (e : Def). length e.params) o ≡ Some (length parts) → AreTerms d (terms parts) →
        Reading N.Computation (def_name_tokens d o ++ word (codes "n") ∷ terms_tokens d (terms parts)) (IsCompOf (C.Call (record { 0 = i }) parts))
    call_read i parts None at w v = absurd cc
    call_read i parts (Some e) at w v =
        let l : length e.params ≡ length parts = cc in
        produce N.Computation 2 (node N.DefinitionName (kind_tokens d e.kind) (IsNameOf d e.kind) (fixed T.Fuel (word (codes "n"))
        (last N.Atoms (terms_tokens d (terms parts)) (AreTermsOf d h (terms parts))))) (IsCompOf (C.Call (record { 0 = i }) parts)) refl
        (name_read d e.kind (finds.named i e at).1, atoms_read d h finds (terms parts) v)
        (λ ls us vs r g. (vs, (r, call_of i e parts vs.0 vs.1.1.0 at l g.0 g.1)))

    pub comp_read : (c : Comp) → IsComp d c → Reading N.Computation (comp_tokens d c) (IsCompOf c)
    comp_read (C.Ok t) w =
        produce N.Computation 0 (fixed T.Ok (word (codes "ok")) (last N.Atom (term_tokens d t) (IsTermOf d h t))) (IsCompOf (C.Ok t)) refl (atom_read d h finds t w)
        (λ ls us vs r g. (vs, (r, (ap (option_map (λ (x : Term). C.Ok x)) g.0, g.1))))
    comp_read C.Fail w = produce N.Computation 1 (fixed T.Fail (word (codes "fail")) done) (IsCompOf C.Fail) refl tt (λ ls us vs r g. (vs, (r, (refl, refl))))
    comp_read (C.Call i parts) w = call_read i.0 parts (slice_get d.defs i.0) refl w.0 w.1
    comp_read (C.Prim p parts) w =
        produce N.Computation 3 (node N.Primitive (prim_tokens p) (IsOperationOf p) (last N.Atoms (terms_tokens d (terms parts)) (AreTermsOf d h (terms parts)))) (IsCompOf (C.Prim p parts)) refl
        (primitive_read p w.0, atoms_read d h finds (terms parts) w.2) (λ ls us vs r g. (vs, (r, primitive_of p parts vs.0 vs.1.0 w.1 g.0 g.1)))
