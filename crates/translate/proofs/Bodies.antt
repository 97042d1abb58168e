-- A function's body on the machine and its code come to the same, where calls do.
use Rattle.std.proofs.Common.{◌≡◌, ℕ, ◌+◌, ◌<◌, ◌≤◌, List, [], ◌∷◌, ◌++◌, length, map, ap, sym, subst, subst₂, ◌∙◌, arith, append_assoc, append-nil, length-append, eq-eqb, Bool, get_or, slice_set}
use Rattle.std.proofs.lemmas.List.{length-map}
use Rattle.std.proofs.lemmas.List.FromFn.{length-map-range_with_len, get_or-map-range_with_len}
use Rattle.std.proofs.lemmas.Option.{slice_get-get_or, slice_get-map}
use Rattle.std.specs.Prelude.{slice_get, Option, Some, ℤ, pos, if◌then◌else◌}
use Rattle.std.specs.Option.{option_map, option_and_then}
use Rattle.aen_base.specs.declared.span.Span.{Span}
use Rattle.pure_ast.specs.Code.{last}
use Rattle.pure_ast.specs.declared.comp.Comp.TheVariants as C
use Rattle.sums_ast.specs.Tree.{bind, Stmts, no_stmts, more_stmts, Block, block, MaybeExpr, no_maybeexpr, some_maybeexpr}
use Rattle.sums_ast.specs.declared.function.Function.{Function}
use Rattle.source_meaning.specs.Memory.{MTree, Cell, Memory, holds, write_cell, drop_frame}
use Rattle.source_meaning.specs.Machine as m
use Rattle.source_meaning.specs.Machine.{Ran, gives, panics, more, stuck, Call, run, run_body, run_block, wrote, left, frame_from, made_cells, entered}
use Rattle.source_meaning.specs.Typing.{IsTypedExpr, IsTypedBody, IsTypedBlock, IsTypedFunction}
use Rattle.source_meaning.specs.FrameLemmas.{frame, whole_memory, made_size, made_held, made_empty, frame_dropped}
use Rattle.source_meaning.specs.TypingLemmas.{typed_within}
use Rattle.text_meaning.specs.declared.Answer.TheVariants as A
use Rattle.text_meaning.specs.Environment.{arguments}
use Rattle.text_meaning.specs.Evaluate.{Calls, code_answer, or_stuck}
use Rattle.translate.specs.declared.atom.Atom.{Atom}
use Rattle.translate.specs.declared.atom.Atom.TheVariants as At
use Rattle.translate.specs.Emit.{term_of, Emitted, followed, emit, emit_body, emit_block, chain, finished, parameter_atoms, emitted}
use Rattle.translate.proofs.Environments.{tree, value, env, AtomIs, term_is}
use Rattle.translate.proofs.Chains.{Reached, Ends, reached_join, ends_first, ends_then, next_variable}
use Rattle.translate.proofs.Frames.{Fits, variable_write, fits_more, fits_let}
use Rattle.translate.proofs.Expressions.{CallAgrees, Same, Follows, follows}

module _ (functions : List Function) (c : Call) (d : Calls) (same : Same functions c d) (old : Memory) (variables : List (List ℕ))
    (earlier : List Function) (known_ : (k : ℕ) (g : Function) → slice_get earlier k ≡ Some g → slice_get functions k ≡ Some g) where
  -- the body came to a number, and the code to the same
  pub record BodyGave (vs : List ℤ) (e : Emitted) (t : MTree) (m1 : Memory) : Type 0 where
    pub z : ℤ
    pub ws : List ℤ
    pub above : Memory
    pub tree : t ≡ tree z
    pub memory : m1 ≡ old ++ above
    pub reached : Reached d vs e.comps ws
    pub atom : AtomIs (vs ++ ws) e.atom z

  abbrev pub BodyFollows : List ℤ → Emitted → Ran → Type 0
  BodyFollows vs e (gives t m1) = BodyGave vs e t m1
  BodyFollows vs e (panics kind) = Ends d vs e.comps (A.Fail kind)
  BodyFollows vs e more = Ends d vs e.comps A.OutOfFuel
  BodyFollows vs e (stuck s) = ⊥

  from_expression : (cells : List Cell) (vs : List ℤ) (e : Emitted) (r : Ran) → Follows functions c d same old variables cells vs e r → BodyFollows vs e r
  from_expression cells vs e (gives t m1) g = record {
    z = g.z;
    ws = g.ws;
    above = cells ++ g.above;
    tree = g.tree;
    memory = g.memory;
    reached = g.reached;
    atom = g.atom;
  }
  from_expression cells vs e (panics kind) g = g
  from_expression cells vs e more g = g
  from_expression cells vs e (stuck s) g = absurd g

  -- after the value of a `let`
  after_value : (vs ws : List ℤ) (first after : Emitted) (r : Ran) → Reached d vs first.comps ws → BodyFollows (vs ++ ws) after r → BodyFollows vs (followed first.comps after) r
  after_value vs ws first after (gives t m1) reach g = record {
    z = g.z;
    ws = ws ++ g.ws;
    above = g.above;
    tree = g.tree;
    memory = g.memory;
    reached = reached_join d vs ws g.ws first.comps after.comps reach g.reached;
    atom = subst (λ (l : List ℤ). AtomIs l after.atom g.z) (append_assoc vs ws g.ws) g.atom;
  }
  after_value vs ws first after (panics kind) reach g = ends_then d vs ws first.comps after.comps (A.Fail kind) reach g
  after_value vs ws first after more reach g = ends_then d vs ws first.comps after.comps A.OutOfFuel reach g
  after_value vs ws first after (stuck s) reach g = absurd g

  let_follows : (cells : List Cell) (vs : List ℤ) (first after : Emitted) (r : Ran) (f g : MTree → Memory → Ran) →
      ((z : ℤ) (ws : List ℤ) (above : Memory) → Reached d vs first.comps ws → AtomIs (vs ++ ws) first.atom z →
      BodyFollows (vs ++ ws) after (m.then_do (f (tree z) (whole_memory old variables cells above)) g)) →
      Follows functions c d same old variables cells vs first r → BodyFollows vs (followed first.comps after) (m.then_do (m.then_do r f) g)
  let_follows cells vs first after (gives t m1) f g goes h =
      after_value vs h.ws first after (m.then_do (f t m1) g) h.reached
      (subst₂ (λ (u : MTree) (n : Memory). BodyFollows (vs ++ h.ws) after (m.then_do (f u n) g)) (sym h.tree) (sym h.memory)
      (goes h.z h.ws h.above h.reached h.atom))
  let_follows cells vs first after (panics kind) f g goes h = ends_first d vs first.comps after.comps (A.Fail kind) h
  let_follows cells vs first after more f g goes h = ends_first d vs first.comps after.comps A.OutOfFuel h
  let_follows cells vs first after (stuck s) f g goes h = absurd h

  pub body_follows : (stmts : Stmts) (final : MaybeExpr) (cells : List Cell) (n : ℕ) (atoms : List Atom) (vs : List ℤ) (above : Memory) → n ≡ length vs →
      Fits variables cells atoms vs → IsTypedBody earlier (length variables) (length atoms) stmts final →
      BodyFollows vs (emit_body n atoms stmts final) (run_body c (frame old variables) stmts final (whole_memory old variables cells above))
  body_follows no_stmts no_maybeexpr cells n atoms vs above e fits typed = absurd typed
  body_follows no_stmts (some_maybeexpr x) cells n atoms vs above e fits (all, typed) =
      from_expression cells vs (emit n atoms x) (run c (frame old variables) x (whole_memory old variables cells above))
      (follows functions c d same old variables earlier known_ x cells n atoms vs above e fits (subst (λ (k : ℕ). IsTypedExpr earlier k x) (sym all) typed))
  body_follows (more_stmts (bind s k x) rest) final cells n atoms vs above e fits (is, typed, after) =
      let first = emit n atoms x in
      let next = n + length first.comps in
      let within = typed_within earlier (length variables) (length atoms + 1) rest final after in
      let below : length atoms < length variables = omega arith in
      let_follows cells vs first (emit_body next (atoms ++ first.atom ∷ []) rest final)
      (run c (frame old variables) x (whole_memory old variables cells above)) _ _
      (λ z ws above1 r a.
      let e1 : next ≡ length (vs ++ ws) = ap (λ i. i + length first.comps) e ∙ sym (next_variable d vs ws first.comps r.count) in
      let len = length-append atoms (first.atom ∷ []) in
      let count : length atoms + 1 ≡ length (atoms ++ first.atom ∷ []) = omega arith in
      subst (λ (j : ℕ). BodyFollows (vs ++ ws) (emit_body next (atoms ++ first.atom ∷ []) rest final)
      (m.then_do (wrote s (option_and_then (λ i. write_cell (whole_memory old variables cells above1) i (tree z)) (slice_get (frame old variables) j)))
      (λ _ m1. run_body c (frame old variables) rest final m1)))
      (sym is)
      (subst (λ (o : Option Memory). BodyFollows (vs ++ ws) (emit_body next (atoms ++ first.atom ∷ []) rest final)
      (m.then_do (wrote s o) (λ _ m1. run_body c (frame old variables) rest final m1)))
      (sym (variable_write old variables cells above1 atoms (vs ++ ws) (tree z) (fits_more variables cells atoms vs ws fits) below))
      (body_follows rest final (slice_set cells (length atoms) (holds (tree z))) next (atoms ++ first.atom ∷ []) (vs ++ ws) above1 e1
      (fits_let variables cells atoms (vs ++ ws) first.atom z (fits_more variables cells atoms vs ws fits) below a)
      (subst (λ (j : ℕ). IsTypedBody earlier (length variables) j rest final) count after))))
      (follows functions c d same old variables earlier known_ x cells n atoms vs above e fits typed)

  pub block_follows : (b : Block) (cells : List Cell) (n : ℕ) (atoms : List Atom) (vs : List ℤ) (above : Memory) → n ≡ length vs →
      Fits variables cells atoms vs → IsTypedBlock earlier (length variables) (length atoms) b →
      BodyFollows vs (emit_block n atoms b) (run_block c (frame old variables) b (whole_memory old variables cells above))
  block_follows (block s stmts final) cells n atoms vs above e fits typed = body_follows stmts final cells n atoms vs above e fits typed

  -- the frame goes, and the code ends with the value
  pub left_agrees : (vs : List ℤ) (e : Emitted) (r : Ran) (n : ℕ) → n ≡ length vs → BodyFollows vs e r →
      CallAgrees old (left (frame old variables) r) (code_answer d (env vs) (finished n e))
  left_agrees vs e (gives t m1) n is g = (
    g.z,
    drop_frame (frame_from 0 variables) g.above,
    g.tree,
    ap (drop_frame (frame old variables)) g.memory ∙ frame_dropped old variables g.above,
    ap (λ k. code_answer d (env vs) (chain k e.comps (last (C.Ok (term_of e.atom))))) is
        ∙ g.reached.runs (last (C.Ok (term_of e.atom)))
        ∙ ap (λ o. or_stuck o A.Ok) (term_is (vs ++ g.ws) e.atom g.z g.atom),
  )
  left_agrees vs e (panics kind) n is g = ap (λ k. code_answer d (env vs) (chain k e.comps (last (C.Ok (term_of e.atom))))) is ∙ g.answer _
  left_agrees vs e more n is g = ap (λ k. code_answer d (env vs) (chain k e.comps (last (C.Ok (term_of e.atom))))) is ∙ g.answer _
  left_agrees vs e (stuck s) n is g = absurd g

-- where a function begins, its parameters are its first variables on both sides
parameter_atom : (count k : ℕ) → k < count → slice_get (parameter_atoms count) k ≡ Some (At.Variable k)
parameter_atom count k h =
    let len = length-map-range_with_len At.Variable 0 count in
    slice_get-get_or (parameter_atoms count) k (At.Variable 0) (omega arith)
    ∙ ap Some (get_or-map-range_with_len At.Variable 0 count k k (At.Variable 0) h (omega arith))

pub fits_start : (variables : List (List ℕ)) (count : ℕ) (zs : List ℤ) → length zs ≡ count → count ≤ length variables →
    Fits variables (made_cells variables (map tree zs)) (parameter_atoms count) zs
fits_start variables count zs e le =
    let len = length-map-range_with_len At.Variable 0 count in
    let trees = length-map zs tree in
    record {
      size = made_size variables (map tree zs);
      each = λ k h. let below : k < count = omega arith in
          let z = get_or zs k (pos 0) in
          let is : slice_get zs k ≡ Some z = slice_get-get_or zs k (pos 0) (omega arith) in
          record {
            z = z;
            atom = At.Variable k;
            cell = made_held variables (map tree zs) k (tree z) (omega arith) (slice_get-map tree zs k ∙ ap (option_map tree) is);
            is = parameter_atom count k below;
            means = is;
          };
      fresh = λ k low high. made_empty variables (map tree zs) k (omega arith) high;
    }

pub function_agrees : (functions : List Function) (c : Call) (d : Calls) → Same functions c d → (earlier : List Function) →
    ((k : ℕ) (g : Function) → slice_get earlier k ≡ Some g → slice_get functions k ≡ Some g) →
    (f : Function) → IsTypedFunction earlier f → (s : Span) (zs : List ℤ) (old : Memory) → length zs ≡ f.parameters →
    CallAgrees old (entered c s (Some f) (map tree zs) old) (code_answer d (arguments (map value zs)) (finished f.parameters (emitted f)))
function_agrees functions c d same earlier known_ f typed s zs old count =
    let len = length-map-range_with_len At.Variable 0 f.parameters in
    let args : length (map tree zs) ≡ f.parameters = length-map zs tree ∙ count in
    let r = run_block c (frame old f.variables) f.body (old ++ made_cells f.variables (map tree zs)) in
    let cells = made_cells f.variables (map tree zs) in
    subst (λ (b : Bool). CallAgrees old (if b then left (frame old f.variables) r else stuck s) (code_answer d (env zs) (finished f.parameters (emitted f))))
    (sym (eq-eqb (length (map tree zs)) f.parameters args))
    (left_agrees functions c d same old f.variables earlier known_ zs (emitted f) r f.parameters (sym count)
    (subst (λ (l : Memory). BodyFollows functions c d same old f.variables earlier known_ zs (emitted f) (run_block c (frame old f.variables) f.body (old ++ l)))
    (append-nil cells)
    (block_follows functions c d same old f.variables earlier known_ f.body cells f.parameters (parameter_atoms f.parameters) zs [] (sym count)
    (fits_start f.variables f.parameters zs count typed.within)
    (subst (λ (k : ℕ). IsTypedBlock earlier (length f.variables) k f.body) (sym len) typed.body))))
