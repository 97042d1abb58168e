-- What steps add, one after the other.
use Rattle.std.proofs.Common.{◌≡◌, ℕ, ◌+◌, ◌-◌, ◌<◌, drop, List, [], ◌∷◌, ◌++◌, length, refl, ap, sym, subst, ◌∙◌, arith, append_assoc, append-nil, length-append}
use Rattle.aen_base.specs.declared.operators.BinOp.{BinOp}
use Rattle.pure_ast.specs.Code.{Code, bind}
use Rattle.pure_ast.specs.Terms.{Term}
use Rattle.pure_ast.specs.declared.comp.Comp.{Comp}
use Rattle.sums_ast.specs.Tree.{Expr, exprs, nodes_expr}
use Rattle.translate.specs.declared.spine.Right.{Right}
use Rattle.source_meaning.specs.SpineLemmas.{rights_push, below_last}
use Rattle.translate.specs.Spine.{rights_emitted, with_side, right_side, AreBelow}
use Rattle.translate.specs.declared.atom.Atom.{Atom}
use Rattle.translate.specs.declared.atom.Atom.TheVariants as A
use Rattle.translate.specs.declared.emitter.Emitter.{Emitter}
use Rattle.translate.specs.Emit.{Emitted, EmittedAll, term_of, chain, operation, operated, right_emitted, followed, with_right, emit, emit_all, then_all}
use Rattle.translate.specs.Adds.{Adds, AddsAll}
use Rattle.translate.proofs.Chains.{chain_join}

-- the last computation stands last in the chain
pub chain_pop : (first n : ℕ) (comps before : List Comp) (comp : Comp) (rest : Code) → comps ≡ before ++ comp ∷ [] → n ≡ first + length before →
    chain first before (bind n comp rest) ≡ chain first comps rest
chain_pop first n comps before comp rest e h =
    ap (λ k. chain first before (bind k comp rest)) h ∙ sym (chain_join first before (comp ∷ []) rest) ∙ ap (λ l. chain first l rest) (sym e)

pub popped_next : (first n : ℕ) (comps before : List Comp) (comp : Comp) → comps ≡ before ++ comp ∷ [] → n ≡ first + length comps → n - 1 ≡ first + length before
popped_next first n comps before comp e h =
    let len = length-append before (comp ∷ []) in
    let same = ap length e in
    omega arith

-- one step after the other
pub adds_then : (old mid new : Emitter) (e f : Emitted) (a b : Atom) → Adds old mid e a → Adds mid new f b → Adds old new (followed e.comps f) b
adds_then old mid new e f a b p q =
    let len = length-append e.comps f.comps in
    let first = p.next in
    let second = q.next in
    record {
      comps = q.comps ∙ ap (λ l. l ++ f.comps) p.comps ∙ append_assoc old.comps e.comps f.comps;
      next = omega arith;
      atom = q.atom;
    }

right_joined : (n m : ℕ) (op : BinOp) (left right : Emitted) (a : Atom) → m ≡ n + length left.comps → a ≡ left.atom →
    followed left.comps (right_emitted m a op right) ≡ operated n op left right
right_joined n m op left right a h same =
    let len = length-append left.comps right.comps in
    let e : m + length right.comps ≡ n + length (left.comps ++ right.comps) = omega arith in
    ap (λ (x : Atom). followed left.comps (right_emitted m x op right)) same
    ∙ (λ i. record { comps = sym (append_assoc left.comps right.comps (operation op left.atom right.atom ∷ [])) i; atom = A.Variable (e i) })

-- an expression of which all but these operators is emitted
pub record Along (old new : Emitter) (atoms : List Atom) (expr : Expr) (rights : List Right) (atom : Atom) : Type 0 where
  pub done : Emitted
  pub adds : Adds old new done atom
  pub whole : rights_emitted old.next atoms done rights ≡ emit old.next atoms expr
  pub below : AreBelow right_side (nodes_expr expr) rights

pub along_last : (old new : Emitter) (atoms : List Atom) (expr : Expr) (rights before : List Right) (r : Right) (atom : Atom) →
    rights ≡ before ++ r ∷ [] → Along old new atoms expr rights atom → nodes_expr r.side.now < nodes_expr expr
along_last old new atoms expr rights before r atom e h = (below_last right_side (nodes_expr expr) rights before r e h.below).1

pub along_next : (old mid new : Emitter) (atoms : List Atom) (expr : Expr) (rights before : List Right) (r : Right) (atom next : Atom) →
    rights ≡ before ++ r ∷ [] → Along old mid atoms expr rights atom →
    Adds mid new (right_emitted mid.next atom r.op (emit mid.next atoms r.side.now)) next → Along old new atoms expr before next
along_next old mid new atoms expr rights before r atom next e h step =
    let right = λ (m : ℕ). emit m atoms r.side.now in
    record {
      done = with_right old.next r.op h.done right;
      adds = subst (λ (f : Emitted). Adds old new f next)
          (right_joined old.next mid.next r.op h.done (right mid.next) atom h.adds.next h.adds.atom
          ∙ ap (λ m. operated old.next r.op h.done (right m)) h.adds.next)
          (adds_then old mid new h.done (right_emitted mid.next atom r.op (right mid.next)) atom next h.adds step);
      whole = sym (rights_push (with_side old.next atoms) h.done before r) ∙ ap (rights_emitted old.next atoms h.done) (sym e) ∙ h.whole;
      below = (below_last right_side (nodes_expr expr) rights before r e h.below).0;
    }

-- arguments of which those before place i are emitted
abbrev pub joined_all : EmittedAll → EmittedAll → EmittedAll
joined_all done rest = record { comps = done.comps ++ rest.comps; parts = done.parts ++ rest.parts }

pub record AlongAll (old new : Emitter) (atoms : List Atom) (items : List Expr) (i : ℕ) (terms : List Term) : Type 0 where
  pub done : EmittedAll
  pub adds : AddsAll old new done terms
  pub whole : joined_all done (emit_all (old.next + length done.comps) atoms (exprs (drop i items))) ≡ emit_all old.next atoms (exprs items)

pub along_all_start : (old : Emitter) (atoms : List Atom) (items : List Expr) → AlongAll old old atoms items 0 []
along_all_start old atoms items =
    let e : old.next + 0 ≡ old.next = omega arith in
    record {
      done = record { comps = []; parts = [] };
      adds = record { comps = sym (append-nil old.comps); next = sym e; parts = refl };
      whole = ap (λ n. emit_all n atoms (exprs items)) e;
    }

all_joined : (n m : ℕ) (done : EmittedAll) (first : Emitted) (rest : ℕ → EmittedAll) (a : Atom) → m ≡ n + length done.comps → a ≡ first.atom →
    joined_all (record { comps = done.comps ++ first.comps; parts = done.parts ++ term_of a ∷ [] }) (rest (n + length (done.comps ++ first.comps)))
    ≡ joined_all done (then_all first (rest (m + length first.comps)))
all_joined n m done first rest a h same =
    let len = length-append done.comps first.comps in
    let e : n + length (done.comps ++ first.comps) ≡ m + length first.comps = omega arith in
    (λ i. joined_all (record { comps = done.comps ++ first.comps; parts = done.parts ++ term_of (same i) ∷ [] }) (rest (e i)))
    ∙ (λ i. record {
      comps = append_assoc done.comps first.comps (rest (m + length first.comps)).comps i;
      parts = append_assoc done.parts (term_of first.atom ∷ []) (rest (m + length first.comps)).parts i;
    })

pub along_all_next : (old mid new : Emitter) (atoms : List Atom) (items : List Expr) (i : ℕ) (terms after : List Term) (x : Expr) (a : Atom) →
    drop i items ≡ x ∷ drop (i + 1) items → after ≡ terms ++ term_of a ∷ [] → AlongAll old mid atoms items i terms →
    Adds mid new (emit mid.next atoms x) a → AlongAll old new atoms items (i + 1) after
along_all_next old mid new atoms items i terms after x a e pushed h step =
    let first = emit mid.next atoms x in
    let len = length-append h.done.comps first.comps in
    let one = h.adds.next in
    let two = step.next in
    let start : old.next + length h.done.comps ≡ mid.next = sym one in
    record {
      done = record { comps = h.done.comps ++ first.comps; parts = h.done.parts ++ term_of a ∷ [] };
      adds = record {
        comps = step.comps ∙ ap (λ l. l ++ first.comps) h.adds.comps ∙ append_assoc old.comps h.done.comps first.comps;
        next = omega arith;
        parts = pushed ∙ ap (λ l. l ++ term_of a ∷ []) h.adds.parts;
      };
      whole =
          all_joined old.next mid.next h.done first (λ m. emit_all m atoms (exprs (drop (i + 1) items))) a one step.atom
          ∙ ap (λ (l : List Expr). joined_all h.done (emit_all mid.next atoms (exprs l))) (sym e)
          ∙ ap (λ m. joined_all h.done (emit_all m atoms (exprs (drop i items)))) one
          ∙ h.whole;
    }
