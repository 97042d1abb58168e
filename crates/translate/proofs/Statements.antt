-- The statements of a body one by one.
use Rattle.std.proofs.Common.{◌≡◌, ℕ, zero, suc, ◌+◌, ◌<◌, ◌^◌, List, [], ◌∷◌, ◌++◌, length, map, drop, replicate, refl, ap, sym, subst, ◌∙◌, arith, append_assoc, append-nil, length-append}
use Rattle.std.specs.List.{range_with_len}
use Rattle.std.proofs.lemmas.List.FromFn.{map-range_with_len_more}
use Rattle.pure_ast.specs.declared.comp.Comp.{Comp}
use Rattle.sums_ast.specs.Tree.{Stmt, bind, stmts, no_stmts, MaybeExpr}
use Rattle.translate.specs.declared.atom.Atom.{Atom}
use Rattle.translate.specs.declared.emitter.Emitter.{Emitter}
use Rattle.translate.specs.Emit.{Emitted, bound, followed, emit, emit_body, emit_block, emitted, parameter_atoms}
use Rattle.sums_ast.specs.declared.function.Function.{Function}
use Rattle.translate.specs.Adds.{Adds, IsNumbered}

-- a body of which the statements before place i are emitted
pub record AlongBody (old new : Emitter) (start : List Atom) (all : List Stmt) (final : MaybeExpr) (i : ℕ) (atoms : List Atom) : Type 0 where
  pub done : List Comp
  pub comps : new.comps ≡ old.comps ++ done
  pub next : new.next ≡ old.next + length done
  pub whole : followed done (emit_body new.next atoms (stmts (drop i all)) final) ≡ emit_body old.next start (stmts all) final

pub along_body_start : (old : Emitter) (start : List Atom) (all : List Stmt) (final : MaybeExpr) → AlongBody old old start all final 0 start
along_body_start old start all final = record {
  done = [];
  comps = sym (append-nil old.comps);
  next = omega arith;
  whole = refl;
}

pub along_body_next : (old mid new : Emitter) (start : List Atom) (all : List Stmt) (final : MaybeExpr) (i : ℕ) (atoms after : List Atom)
    (statement : Stmt) (a : Atom) → drop i all ≡ statement ∷ drop (i + 1) all → after ≡ atoms ++ a ∷ [] →
    AlongBody old mid start all final i atoms → Adds mid new (emit mid.next atoms (bound statement)) a → AlongBody old new start all final (i + 1) after
along_body_next old mid new start all final i atoms after (bind s k x) a e pushed h step =
    let first = emit mid.next atoms x in
    let len = length-append h.done first.comps in
    let one = h.next in
    let two = step.next in
    let body = λ (n : ℕ) (l : List Atom). emit_body n l (stmts (drop (i + 1) all)) final in
    record {
      done = h.done ++ first.comps;
      comps = step.comps ∙ ap (λ l. l ++ first.comps) h.comps ∙ append_assoc old.comps h.done first.comps;
      next = omega arith;
      whole =
          ap (λ (l : List Atom). followed (h.done ++ first.comps) (body new.next l)) (pushed ∙ ap (λ (b : Atom). atoms ++ b ∷ []) step.atom)
          ∙ ap (λ (n : ℕ). followed (h.done ++ first.comps) (body n (atoms ++ first.atom ∷ []))) step.next
          ∙ (λ j. record {
            comps = append_assoc h.done first.comps (body (mid.next + length first.comps) (atoms ++ first.atom ∷ [])).comps j;
            atom = (body (mid.next + length first.comps) (atoms ++ first.atom ∷ [])).atom;
          })
          ∙ ap (λ (l : List Stmt). followed h.done (emit_body mid.next atoms (stmts l) final)) (sym e)
          ∙ h.whole;
    }

pub along_body_end : (old mid new : Emitter) (start : List Atom) (all : List Stmt) (final : MaybeExpr) (i : ℕ) (atoms : List Atom) (a : Atom) →
    drop i all ≡ [] → AlongBody old mid start all final i atoms → Adds mid new (emit_body mid.next atoms no_stmts final) a →
    Adds old new (emit_body old.next start (stmts all) final) a
along_body_end old mid new start all final i atoms a e h step =
    let last = emit_body mid.next atoms no_stmts final in
    let len = length-append h.done last.comps in
    let one = h.next in
    let two = step.next in
    subst (λ (f : Emitted). Adds old new f a)
    (ap (λ (l : List Stmt). followed h.done (emit_body mid.next atoms (stmts l) final)) (sym e) ∙ h.whole)
    (record {
      comps = step.comps ∙ ap (λ l. l ++ last.comps) h.comps ∙ append_assoc old.comps h.done last.comps;
      next = omega arith;
      atom = step.atom;
    })

-- one thing more of a number of equal things, and of things made from numbers in order
pub replicate_more : {X : Type 0} (n : ℕ) (x : X) → replicate (n + 1) x ≡ replicate n x ++ x ∷ []
replicate_more zero x = refl
replicate_more (suc n) x =
    let e : suc n + 1 ≡ suc (n + 1) = omega arith in
    ap (λ k. replicate k x) e ∙ ap (λ l. x ∷ l) (replicate_more n x)

pub numbered_more : {X : Type 0} (f : ℕ → X) (n : ℕ) → map f (range_with_len 0 (n + 1)) ≡ map f (range_with_len 0 n) ++ f n ∷ []
numbered_more f n = map-range_with_len_more f 0 n n (omega arith)

pub numbered_by : (f : Function) (n m : ℕ) (atoms : List Atom) → n ≡ f.parameters → atoms ≡ parameter_atoms f.parameters →
    m ≡ n + length (emit_block n atoms f.body).comps → m < 2 ^ 32 → IsNumbered f
numbered_by f n m atoms en ea em small =
    let same : length (emit_block n atoms f.body).comps ≡ length (emitted f).comps = (λ i. length (emit_block (en i) (ea i) f.body).comps) in
    omega arith
