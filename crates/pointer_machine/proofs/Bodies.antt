-- A function's body and a call on the machine come to what they mean without memory.
use Rattle.std.proofs.Common.{◌≡◌, ℕ, ◌+◌, Bool, true, List, [], ◌∷◌, ◌++◌, length, map, refl, ap, sym, subst, ◌∙◌, arith, append-nil, length-append}
use Rattle.std.specs.Prelude.{slice_get, Option, Some, option_and_then, ◌==◌, if◌then◌else◌}
use Rattle.std.proofs.lemmas.List.{length-map}
use Rattle.std.proofs.lemmas.Bool.{eq-eqb}
use Rattle.aen_base.specs.declared.span.Span.{Span}
use Rattle.aen_base.specs.Numbers.{Number}
use Rattle.sums_ast.specs.Tree.{bind, Stmts, no_stmts, more_stmts, Block, block, MaybeExpr, no_maybeexpr, some_maybeexpr}
use Rattle.sums_ast.specs.declared.function.Function.{Function}
use Rattle.source_meaning.specs.Memory.{MTree, num, Memory, write_cell, drop_frame}
use Rattle.source_meaning.specs.Machine as m
use Rattle.source_meaning.specs.Machine.{Ran, gives, panics, more, stuck, then_do, run, run_body, run_block, wrote, left, entered, frame_from, made_cells}
use Rattle.source_meaning.specs.Typing.{IsTypedExpr, IsTypedBody, IsTypedBlock, IsTypedFunction}
use Rattle.source_meaning.specs.FrameLemmas.{frame, frame_dropped}
use Rattle.source_meaning.specs.TypingLemmas.{typed_within}
use Rattle.pointer_machine.specs.Values as v
use Rattle.pointer_machine.specs.Values.{Valued, value, body_value, block_value, and_then}
use Rattle.pointer_machine.proofs.Frames.{whole_memory, variable_write, cells}
use Rattle.pointer_machine.proofs.Ends.{Ends, ends_then, ends_as, AreU32, u32_push}
use Rattle.pointer_machine.proofs.Expressions.{SameCalls, ends}

then_then : (r : Ran) (f g : MTree → Memory → Ran) → then_do (then_do r f) g ≡ then_do r (λ t m1. then_do (f t m1) g)
then_then (gives t m1) f g = refl
then_then (panics k) f g = refl
then_then more f g = refl
then_then (stuck s) f g = refl

module _ (functions : List Function) (c : m.Call) (d : v.Call) (same : SameCalls functions c d)
    (earlier : List Function) (known_ : (j : ℕ) (g : Function) → slice_get earlier j ≡ Some g → slice_get functions j ≡ Some g)
    (old : Memory) (variables : List (List ℕ)) where
  abbrev after : Memory → Memory
  after new = old ++ new

  body_ends : (s : Span) (stmts : Stmts) (last : MaybeExpr) (vars : List Number) (above : Memory) → AreU32 vars →
      IsTypedBody earlier (length variables) (length vars) stmts last →
      Ends after (run_body c (frame old variables) stmts last (whole_memory old variables vars above)) (body_value d s vars stmts last)
  body_ends s no_stmts no_maybeexpr vars above us t = absurd t
  body_ends s no_stmts (some_maybeexpr e) vars above us (full, t) =
      ends_as (whole_memory old variables vars) after (run c (frame old variables) e (whole_memory old variables vars above)) (value d vars e)
      (λ new. (cells variables vars ++ new, refl))
      (ends functions c d same earlier known_ old variables vars us (omega arith) e above
      (subst (λ (k : ℕ). IsTypedExpr earlier k e) (sym full) t))
  body_ends s (more_stmts (bind p k e) rest) last vars above us (is, t, ts) =
      let below = typed_within earlier (length variables) (length vars + 1) rest last ts in
      let start = whole_memory old variables vars in
      let write = λ (t1 : MTree) (m1 : Memory). wrote p (option_and_then (λ a. write_cell m1 a t1) (slice_get (frame old variables) k)) in
      let go = λ (t1 : MTree) (m1 : Memory). run_body c (frame old variables) rest last m1 in
      let next = λ (n : Number). body_value d s (vars ++ n ∷ []) rest last in
      subst (λ (r : Ran). Ends after r (and_then (value d vars e) next))
      (sym (then_then (run c (frame old variables) e (start above)) write go))
      (ends_then start after (run c (frame old variables) e (start above)) (value d vars e) (λ t1 m1. then_do (write t1 m1) go) next
      (ends functions c d same earlier known_ old variables vars us (omega arith) e above t)
      (λ n above1 u.
      let written =
      ap (λ (j : ℕ). option_and_then (λ a. write_cell (start above1) a (num n)) (slice_get (frame old variables) j)) is
      ∙ variable_write old variables vars above1 n (omega arith) in
      let len : length (vars ++ n ∷ []) ≡ length vars + 1 = length-append vars (n ∷ []) in
      subst (λ (o : Option Memory). Ends after (then_do (wrote p o) go) (next n)) (sym written)
      (body_ends s rest last (vars ++ n ∷ []) above1 (u32_push vars n us u)
      (subst (λ (j : ℕ). IsTypedBody earlier (length variables) j rest last) (sym len) ts))))

  left_ends : (r : Ran) (w : Valued) → Ends after r w → Ends after (left (frame old variables) r) w
  left_ends (gives t m1) w (n, (new, (te, me, ve, u))) = (
    n,
    (
      drop_frame (frame_from 0 variables) new,
      (te, ap (drop_frame (frame old variables)) me ∙ frame_dropped old variables new, ve, u),
    ),
  )
  left_ends (panics k) w e = e
  left_ends more w e = e
  left_ends (stuck p) w e = absurd e

  block_ends : (b : Block) (vars : List Number) → AreU32 vars → IsTypedBlock earlier (length variables) (length vars) b →
      Ends after (run_block c (frame old variables) b (whole_memory old variables vars [])) (block_value d vars b)
  block_ends (block p stmts last) vars us t = body_ends p stmts last vars [] us t

-- a call of a typed function
pub function_ends : (functions : List Function) (c : m.Call) (d : v.Call) → SameCalls functions c d →
    (earlier : List Function) → ((j : ℕ) (g : Function) → slice_get earlier j ≡ Some g → slice_get functions j ≡ Some g) →
    (f : Function) → IsTypedFunction earlier f → (s : Span) (ns : List Number) (m0 : Memory) → AreU32 ns → length ns ≡ f.parameters →
    Ends (λ new. m0 ++ new) (entered c s (Some f) (map num ns) m0) (v.entered d s (Some f) ns)
function_ends functions c d same earlier known_ f typed s ns m0 us count =
    let test : (length (map num ns) == f.parameters) ≡ true = eq-eqb (length (map num ns)) f.parameters (length-map ns num ∙ count) in
    subst (λ (b : Bool). Ends (λ new. m0 ++ new)
    (if b then left (frame m0 f.variables) (run_block c (frame m0 f.variables) f.body (m0 ++ made_cells f.variables (map num ns))) else stuck s)
    (block_value d ns f.body)) (sym test)
    (left_ends functions c d same earlier known_ m0 f.variables (run_block c (frame m0 f.variables) f.body (m0 ++ cells f.variables ns)) (block_value d ns f.body)
    (subst (λ (l : Memory). Ends (λ new. m0 ++ new) (run_block c (frame m0 f.variables) f.body (m0 ++ l)) (block_value d ns f.body))
    (append-nil (cells f.variables ns))
    (block_ends functions c d same earlier known_ m0 f.variables f.body ns us
    (subst (λ (k : ℕ). IsTypedBlock earlier (length f.variables) k f.body) (sym count) typed.body))))
