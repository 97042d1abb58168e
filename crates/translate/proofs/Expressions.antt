-- An expression on the machine and the computations that it adds to the text come to the same.
use Rattle.std.proofs.Common.{◌≡◌, ℕ, suc, ◌+◌, Bool, true, false, List, [], ◌∷◌, ◌++◌, length, map, refl, ap, sym, subst, subst₂, ◌∙◌, arith, append_assoc, append-nil}
use Rattle.std.specs.Prelude.{slice_get, Option, Some, ℤ, ◌+ℤ◌, pos, Ok, Err, if◌then◌else◌}
use Rattle.std.specs.Option.{option_map, option_and_then}
use Rattle.aen_base.specs.declared.span.Span.{Span}
use Rattle.aen_base.specs.declared.int_ty.IntTy.TheVariants.{U32}
use Rattle.aen_base.specs.declared.operators.BinOp.{BinOp}
use Rattle.aen_base.specs.declared.operators.BinOp.TheVariants.{Add}
use Rattle.aen_base.specs.declared.operators.PanicKind.{PanicKind}
use Rattle.aen_base.specs.declared.operators.PanicKind.TheVariants.{Overflow}
use Rattle.aen_base.specs.Numbers.{in_range}
use Rattle.pure_ast.specs.Terms as t
use Rattle.pure_ast.specs.declared.comp.Comp.{Comp}
use Rattle.pure_ast.specs.declared.comp.Comp.TheVariants as C
use Rattle.pure_ast.specs.declared.comp.Primitive.TheVariants as P
use Rattle.sums_ast.specs.Tree.{Expr, number, variable, binary, call, Exprs, no_exprs, more_exprs, exprs_list}
use Rattle.sums_ast.specs.declared.function.Function.{Function}
use Rattle.source_meaning.specs.Memory.{MTree, num, Cell, Memory}
use Rattle.source_meaning.specs.Machine as m
use Rattle.source_meaning.specs.Machine.{Ran, gives, panics, more, stuck, Call, run, run_all, found, operate, operated}
use Rattle.source_meaning.specs.Typing.{IsTypedExpr, AreTypedExprs}
use Rattle.source_meaning.specs.PlaceLemmas.{get_right}
use Rattle.source_meaning.specs.FrameLemmas.{frame, whole_memory, frame_more}
use Rattle.text_meaning.specs.declared.Answer.{Answer}
use Rattle.text_meaning.specs.declared.Answer.TheVariants as A
use Rattle.text_meaning.specs.Terms.{term_values}
use Rattle.text_meaning.specs.Primitives.{primitive, answered}
use Rattle.text_meaning.specs.Evaluate.{Calls, comp_answer, or_stuck}
use Rattle.translate.specs.declared.atom.Atom.{Atom}
use Rattle.translate.specs.Emit.{term_of, known, Emitted, computed, operation, emit, emit_all}
use Rattle.translate.proofs.Places.{get_last}
use Rattle.translate.proofs.Environments.{whole, tree, value, env, AtomIs, term_is, atom_more}
use Rattle.translate.proofs.Chains.{Reached, Ends, reached_none, reached_join, reached_one, ends_one, ends_first, ends_then, next_variable}
use Rattle.translate.proofs.Frames.{Fits, variable_read, fits_more}

-- a call on the machine, in this memory, and a call of the text come to the same
abbrev pub CallAgrees : Memory → Ran → Answer → Type 0
CallAgrees m0 (gives t m1) a = (z : ℤ) × (cells : Memory) × (t ≡ tree z) × (m1 ≡ m0 ++ cells) × (a ≡ A.Ok (value z))
CallAgrees m0 (panics kind) a = a ≡ A.Fail kind
CallAgrees m0 more a = a ≡ A.OutOfFuel
CallAgrees m0 (stuck s) a = ⊥

-- all calls of these functions with their number of arguments do
pub record Same (functions : List Function) (c : Call) (d : Calls) : Type 0 where
  pub each : (s : Span) (k : ℕ) (f : Function) (zs : List ℤ) (m0 : Memory) → slice_get functions k ≡ Some f → length zs ≡ f.parameters →
      CallAgrees m0 (c s k (map tree zs) m0) (d k (map value zs))

module _ (functions : List Function) (c : Call) (d : Calls) (same : Same functions c d) (old : Memory) (variables : List (List ℕ)) where
  -- the machine came to a number, and the text to the same
  pub record Gave (cells : List Cell) (vs : List ℤ) (e : Emitted) (t : MTree) (m1 : Memory) : Type 0 where
    pub z : ℤ
    pub ws : List ℤ
    pub above : Memory
    pub tree : t ≡ tree z
    pub memory : m1 ≡ whole_memory old variables cells above
    pub reached : Reached d vs e.comps ws
    pub atom : AtomIs (vs ++ ws) e.atom z

  abbrev pub Follows : List Cell → List ℤ → Emitted → Ran → Type 0
  Follows cells vs e (gives t m1) = Gave cells vs e t m1
  Follows cells vs e (panics kind) = Ends d vs e.comps (A.Fail kind)
  Follows cells vs e more = Ends d vs e.comps A.OutOfFuel
  Follows cells vs e (stuck s) = ⊥

  -- what comes after a part that follows
  pub then_follows : (cells : List Cell) (vs us : List ℤ) (part e : Emitted) (r : Ran) (f : MTree → Memory → Ran) →
      ((a : Answer) → Ends d us part.comps a → Ends d vs e.comps a) →
      ((z : ℤ) (ws : List ℤ) (above : Memory) → Reached d us part.comps ws → AtomIs (us ++ ws) part.atom z →
      Follows cells vs e (f (tree z) (whole_memory old variables cells above))) →
      Follows cells us part r → Follows cells vs e (m.then_do r f)
  then_follows cells vs us part e (gives t m1) f ends goes g =
      subst₂ (λ (u : MTree) (n : Memory). Follows cells vs e (f u n)) (sym g.tree) (sym g.memory) (goes g.z g.ws g.above g.reached g.atom)
  then_follows cells vs us part e (panics kind) f ends goes g = ends (A.Fail kind) g
  then_follows cells vs us part e more f ends goes g = ends A.OutOfFuel g
  then_follows cells vs us part e (stuck s) f ends goes g = absurd g

  last_is : (n : ℕ) (vs ws : List ℤ) (comps : List Comp) (z : ℤ) → n ≡ length vs → length ws ≡ length comps →
      slice_get (vs ++ (ws ++ z ∷ [])) (n + length comps) ≡ Some z
  last_is n vs ws comps z e h =
      let same_place : n + length comps ≡ length vs + length ws = omega arith in
      ap (slice_get (vs ++ (ws ++ z ∷ []))) same_place ∙ get_right vs (ws ++ z ∷ []) (length ws) ∙ get_last ws z (length ws) refl

  -- the last computation gives a value
  computed_gave : (cells : List Cell) (n : ℕ) (vs ws : List ℤ) (comps : List Comp) (last : Comp) (z : ℤ) (above : Memory) → n ≡ length vs →
      Reached d vs comps ws → comp_answer d (env (vs ++ ws)) last ≡ A.Ok (value z) →
      Gave cells vs (computed n comps last) (tree z) (whole_memory old variables cells above)
  computed_gave cells n vs ws comps last z above e r h = record {
    z = z;
    ws = ws ++ z ∷ [];
    above = above;
    tree = refl;
    memory = refl;
    reached = reached_join d vs ws (z ∷ []) comps (last ∷ []) r (reached_one d (vs ++ ws) last z h);
    atom = last_is n vs ws comps z e r.count;
  }

  -- or it ends everything
  computed_fails : (vs ws : List ℤ) (comps : List Comp) (last : Comp) (kind : PanicKind) → Reached d vs comps ws →
      comp_answer d (env (vs ++ ws)) last ≡ A.Fail kind → Ends d vs (comps ++ last ∷ []) (A.Fail kind)
  computed_fails vs ws comps last kind r h =
      ends_then d vs ws comps (last ∷ []) (A.Fail kind) r (ends_one d (vs ++ ws) last (A.Fail kind) h (λ f. refl))

  computed_ends : (vs ws : List ℤ) (comps : List Comp) (last : Comp) → Reached d vs comps ws →
      comp_answer d (env (vs ++ ws)) last ≡ A.OutOfFuel → Ends d vs (comps ++ last ∷ []) A.OutOfFuel
  computed_ends vs ws comps last r h =
      ends_then d vs ws comps (last ∷ []) A.OutOfFuel r (ends_one d (vs ++ ws) last A.OutOfFuel h (λ f. refl))

  -- a sum that is in range or not
  sum_by : (cells : List Cell) (n : ℕ) (vs ws : List ℤ) (comps : List Comp) (last : Comp) (z : ℤ) (above : Memory) (in_ : Bool) → n ≡ length vs →
      Reached d vs comps ws → comp_answer d (env (vs ++ ws)) last ≡ answered (if in_ then Ok (whole z) else Err Overflow) →
      Follows cells vs (computed n comps last) (operated (whole_memory old variables cells above) (if in_ then Ok (whole z) else Err Overflow))
  sum_by cells n vs ws comps last z above true e r h = computed_gave cells n vs ws comps last z above e r h
  sum_by cells n vs ws comps last z above false e r h = computed_fails vs ws comps last Overflow r h

  two_values : (us : List ℤ) (a b : Atom) (x y : ℤ) → AtomIs us a x → AtomIs us b y →
      term_values (env us) (t.terms (term_of a ∷ term_of b ∷ [])) ≡ Some (value x ∷ value y ∷ [])
  two_values us a b x y ha hb =
      ap (option_and_then (λ u. option_map (λ l. u ∷ l) (term_values (env us) (t.terms (term_of b ∷ []))))) (term_is us a x ha)
      ∙ ap (λ o. option_map (λ l. value x ∷ l) (option_and_then (λ u. option_map (λ l. u ∷ l) (term_values (env us) (t.terms []))) o)) (term_is us b y hb)

  -- the operator after both sides
  sum_follows : (cells : List Cell) (n : ℕ) (vs ws us : List ℤ) (left right : Emitted) (s : Span) (x y : ℤ) (above : Memory) → n ≡ length vs →
      Reached d vs left.comps ws → AtomIs (vs ++ ws) left.atom x → Reached d (vs ++ ws) right.comps us → AtomIs ((vs ++ ws) ++ us) right.atom y →
      Follows cells vs (computed n (left.comps ++ right.comps) (operation Add left.atom right.atom)) (operate s Add (tree x) (tree y) (whole_memory old variables cells above))
  sum_follows cells n vs ws us left right s x y above e rl al rr ar =
      let both = append_assoc vs ws us in
      let al2 : AtomIs (vs ++ (ws ++ us)) left.atom x = subst (λ l. AtomIs l left.atom x) both (atom_more (vs ++ ws) us left.atom x al) in
      let ar2 : AtomIs (vs ++ (ws ++ us)) right.atom y = subst (λ l. AtomIs l right.atom y) both ar in
      sum_by cells n vs (ws ++ us) (left.comps ++ right.comps) (operation Add left.atom right.atom) (x +ℤ y) above (in_range U32 (x +ℤ y)) e
      (reached_join d vs ws us left.comps right.comps rl rr)
      (ap (λ o. or_stuck o (primitive (P.Arith U32 Add))) (two_values (vs ++ (ws ++ us)) left.atom right.atom x y al2 ar2))

  -- a call after its arguments
  call_by : (cells : List Cell) (n : ℕ) (vs ws : List ℤ) (comps : List Comp) (last : Comp) (above : Memory) (r : Ran) (a : Answer) → n ≡ length vs →
      Reached d vs comps ws → comp_answer d (env (vs ++ ws)) last ≡ a → CallAgrees (whole_memory old variables cells above) r a →
      Follows cells vs (computed n comps last) r
  call_by cells n vs ws comps last above (gives tr m1) a e r h (z, more_, th, mh, ah) =
      subst₂ (λ (u : MTree) (k : Memory). Gave cells vs (computed n comps last) u k)
      (sym th)
      (sym (mh ∙ frame_more old variables cells above more_))
      (computed_gave cells n vs ws comps last z (above ++ more_) e r (h ∙ ah))
  call_by cells n vs ws comps last above (panics kind) a e r h g = computed_fails vs ws comps last kind r (h ∙ g)
  call_by cells n vs ws comps last above more a e r h g = computed_ends vs ws comps last r (h ∙ g)
  call_by cells n vs ws comps last above (stuck s) a e r h g = absurd g

  -- one more argument
  one_value : (us : List ℤ) (a : Atom) (z : ℤ) (parts : List t.Term) (zs : List ℤ) → AtomIs us a z →
      term_values (env us) (t.terms parts) ≡ Some (map value zs) → term_values (env us) (t.terms (term_of a ∷ parts)) ≡ Some (map value (z ∷ zs))
  one_value us a z parts zs ha h =
      ap (option_and_then (λ u. option_map (λ l. u ∷ l) (term_values (env us) (t.terms parts)))) (term_is us a z ha)
      ∙ ap (option_map (λ l. value z ∷ l)) h

  module _ (earlier : List Function) (known_ : (k : ℕ) (g : Function) → slice_get earlier k ≡ Some g → slice_get functions k ≡ Some g) where
    mutual
      pub follows : (e : Expr) (cells : List Cell) (n : ℕ) (atoms : List Atom) (vs : List ℤ) (above : Memory) → n ≡ length vs → Fits variables cells atoms vs →
          IsTypedExpr earlier (length atoms) e →
          Follows cells vs (emit n atoms e) (run c (frame old variables) e (whole_memory old variables cells above))
      follows (number s k) cells n atoms vs above e fits typed = record {
        z = pos typed.mag;
        ws = [];
        above = above;
        tree = ap num typed.same;
        memory = refl;
        reached = reached_none d vs;
        atom = typed.same;
      }
      follows (variable s k) cells n atoms vs above e fits typed =
          let h = fits.each k typed in
          subst (λ (o : Option MTree). Follows cells vs (emit n atoms (variable s k)) (found s (whole_memory old variables cells above) o))
          (sym (variable_read old variables cells above atoms vs k fits h))
          (record {
            z = h.z;
            ws = [];
            above = above;
            tree = refl;
            memory = refl;
            reached = reached_none d vs;
            atom = subst (λ (o : Option Atom). AtomIs (vs ++ []) (known o) h.z) (sym h.is) (atom_more vs [] h.atom h.z h.means);
          })
      follows (binary s op a b) cells n atoms vs above e fits (is_add, ta, tb) =
          subst (λ (o : BinOp). Follows cells vs (emit n atoms (binary s o a b)) (run c (frame old variables) (binary s o a b) (whole_memory old variables cells above)))
          (sym is_add)
          (then_follows cells vs vs (emit n atoms a) (emit n atoms (binary s Add a b))
          (run c (frame old variables) a (whole_memory old variables cells above)) _
          (λ x h. ends_first d vs _ _ x (ends_first d vs _ _ x h))
          (λ x ws above1 ra aa.
          let e1 : n + length (emit n atoms a).comps ≡ length (vs ++ ws) = ap (λ k. k + length (emit n atoms a).comps) e ∙ sym (next_variable d vs ws (emit n atoms a).comps ra.count) in
          then_follows cells vs (vs ++ ws) (emit (n + length (emit n atoms a).comps) atoms b) (emit n atoms (binary s Add a b))
          (run c (frame old variables) b (whole_memory old variables cells above1)) _
          (λ x h. ends_first d vs _ _ x (ends_then d vs ws _ _ x ra h))
          (λ y us above2 rb ab. sum_follows cells n vs ws us (emit n atoms a) (emit (n + length (emit n atoms a).comps) atoms b) s x y above2 e ra aa rb ab)
          (follows b cells (n + length (emit n atoms a).comps) atoms (vs ++ ws) above1 e1 (fits_more variables cells atoms vs ws fits) tb))
          (follows a cells n atoms vs above e fits ta))
      follows (call s f args) cells n atoms vs above e fits (callee, typed) =
          all_follow args cells n atoms vs above e fits typed vs (emit n atoms (call s f args)) [] (c s f)
          (λ x h. ends_first d vs _ _ x h)
          (λ zs ws above1 count r values.
          call_by cells n vs ws (emit_all n atoms args).comps (C.Call (record { 0 = f }) (emit_all n atoms args).parts) above1 (c s f (map tree zs) (whole_memory old variables cells above1)) (d f (map value zs)) e r
          (ap (λ o. or_stuck o (d f)) values)
          (same.each s f callee.callee zs (whole_memory old variables cells above1) (known_ f callee.callee callee.found) (count ∙ sym callee.arity)))

      pub all_follow : (es : Exprs) (cells : List Cell) (n : ℕ) (atoms : List Atom) (vs : List ℤ) (above : Memory) → n ≡ length vs → Fits variables cells atoms vs →
          AreTypedExprs earlier (length atoms) es →
          (from : List ℤ) (e : Emitted) (trees : List MTree) (f : List MTree → Memory → Ran) →
          ((a : Answer) → Ends d vs (emit_all n atoms es).comps a → Ends d from e.comps a) →
          ((zs ws : List ℤ) (above1 : Memory) → length zs ≡ length (exprs_list es) → Reached d vs (emit_all n atoms es).comps ws →
          term_values (env (vs ++ ws)) (t.terms (emit_all n atoms es).parts) ≡ Some (map value zs) →
          Follows cells from e (f (trees ++ map tree zs) (whole_memory old variables cells above1))) →
          Follows cells from e (run_all c (frame old variables) es trees (whole_memory old variables cells above) f)
      all_follow no_exprs cells n atoms vs above en fits typed from e trees f ends goes =
          subst (λ (l : List MTree). Follows cells from e (f l (whole_memory old variables cells above))) (append-nil trees)
          (goes [] [] above refl (reached_none d vs) refl)
      all_follow (more_exprs x es) cells n atoms vs above en fits (tx, ts) from e trees f ends goes =
          then_follows cells from vs (emit n atoms x) e (run c (frame old variables) x (whole_memory old variables cells above)) _
          (λ a h. ends a (ends_first d vs _ _ a h))
          (λ z ws above1 r az.
          let e1 : n + length (emit n atoms x).comps ≡ length (vs ++ ws) = ap (λ k. k + length (emit n atoms x).comps) en ∙ sym (next_variable d vs ws (emit n atoms x).comps r.count) in
          let rest = emit_all (n + length (emit n atoms x).comps) atoms es in
          all_follow es cells (n + length (emit n atoms x).comps) atoms (vs ++ ws) above1 e1 (fits_more variables cells atoms vs ws fits) ts
          from e (trees ++ tree z ∷ []) f
          (λ a h. ends a (ends_then d vs ws _ _ a r h))
          (λ zs us above2 count r2 values.
          subst (λ (l : List MTree). Follows cells from e (f l (whole_memory old variables cells above2)))
          (sym (append_assoc trees (tree z ∷ []) (map tree zs)))
          (goes (z ∷ zs) (ws ++ us) above2 (ap suc count) (reached_join d vs ws us (emit n atoms x).comps rest.comps r r2)
          (subst (λ (l : List ℤ). term_values (env l) (t.terms (term_of (emit n atoms x).atom ∷ rest.parts)) ≡ Some (map value (z ∷ zs)))
          (append_assoc vs ws us)
          (one_value ((vs ++ ws) ++ us) (emit n atoms x).atom z rest.parts zs (atom_more (vs ++ ws) us (emit n atoms x).atom z az) values)))))
          (follows x cells n atoms vs above en fits tx)
