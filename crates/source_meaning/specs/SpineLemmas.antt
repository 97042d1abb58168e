-- One operator more along the left sides, and one less.
use Rattle.std.proofs.Common.{◌≡◌, ℕ, ◌<◌, ◌≤◌, List, [], ◌∷◌, ◌++◌, refl, ap, sym, subst, ◌∙◌, arith}
use Rattle.aen_base.specs.declared.span.Span.{Span}
use Rattle.aen_base.specs.declared.operators.BinOp.{BinOp}
use Rattle.sums_ast.specs.Tree.{Expr, binary, nodes_expr}
use Rattle.source_meaning.specs.Spine.{after_rights, AreBelow}

pub rights_push : {R V : Type 0} (add : R → V → V) (left : V) (rights : List R) (r : R) →
    after_rights add left (rights ++ r ∷ []) ≡ after_rights add (add r left) rights
rights_push add left [] r = refl
rights_push add left (x ∷ rights) r = ap (add x) (rights_push add left rights r)

module _ {R : Type 0} (side : R → Expr) where
  below_push : (n : ℕ) (rights : List R) (r : R) → AreBelow side n rights → nodes_expr (side r) < n → AreBelow side n (rights ++ r ∷ [])
  below_push n [] r h lt = (lt, tt)
  below_push n (x ∷ rights) r (hx, h) lt = (hx, below_push n rights r h lt)

  below_pop : (n : ℕ) (rights : List R) (r : R) → AreBelow side n (rights ++ r ∷ []) → AreBelow side n rights × (nodes_expr (side r) < n)
  below_pop n [] r (lt, h) = (tt, lt)
  below_pop n (x ∷ rights) r (lt, h) = let (below, last) = below_pop n rights r h in ((lt, below), last)

  -- the operator that is popped and those before it
  pub below_last : (n : ℕ) (rights before : List R) (r : R) → rights ≡ before ++ r ∷ [] → AreBelow side n rights → AreBelow side n before × (nodes_expr (side r) < n)
  below_last n rights before r e h = below_pop n before r (subst (AreBelow side n) e h)

-- the left side of the left side is next, and its operator with its right side is one more
module _ {R : Type 0} (whole left a b : Expr) (s : Span) (op : BinOp) (rights after : List R) (r : R)
    (is : left ≡ binary s op a b) (pushed : after ≡ rights ++ r ∷ []) where
  pub next_whole : {V : Type 0} (add : R → V → V) (meaning : Expr → V) → add r (meaning a) ≡ meaning (binary s op a b) →
      after_rights add (meaning left) rights ≡ meaning whole → after_rights add (meaning a) after ≡ meaning whole
  next_whole add meaning one h =
      ap (λ (l : List R). after_rights add (meaning a) l) pushed
      ∙ rights_push add (meaning a) rights r
      ∙ ap (λ v. after_rights add v rights) (one ∙ ap meaning (sym is))
      ∙ h

  pub next_below : (side : R → Expr) → side r ≡ b → nodes_expr left ≤ nodes_expr whole →
      AreBelow side (nodes_expr whole) rights → AreBelow side (nodes_expr whole) after
  next_below side is_side le h =
      let size = ap nodes_expr is in
      let smaller = ap nodes_expr is_side in
      subst (AreBelow side (nodes_expr whole)) (sym pushed) (below_push side (nodes_expr whole) rights r h (omega arith))

  pub next_left : nodes_expr left ≤ nodes_expr whole → nodes_expr a ≤ nodes_expr whole
  next_left le = let size = ap nodes_expr is in omega arith
