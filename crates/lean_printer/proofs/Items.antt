-- A part of a list is smaller than the list.
use Rattle.std.proofs.Common.{◌≡◌, ap, ℕ, zero, suc, ◌<◌, List, [], ◌∷◌, length, get_or, arith}
use Rattle.pure_ast.specs.declared.pat.Pat.{Pat}
use Rattle.pure_ast.specs.Code as c
use Rattle.pure_ast.specs.Terms as t
use Rattle.pure_ast.specs.Types as ty

pub terms_item : (xs : List t.Term) (i : ℕ) (x : t.Term) → i < length xs → x ≡ get_or xs i x → t.nodes_term x < t.nodes_terms (t.terms xs)
terms_item [] i x h e = absurd (omega (arith, h))
terms_item (y ∷ ys) zero x h e = let same : t.nodes_term x ≡ t.nodes_term y = ap t.nodes_term e in omega (arith, same)
terms_item (y ∷ ys) (suc i) x h e = let less = terms_item ys i x (omega (arith, h)) e in omega (arith, less)

pub types_item : (xs : List ty.PTy) (i : ℕ) (x : ty.PTy) → i < length xs → x ≡ get_or xs i x → ty.nodes_pty x < ty.nodes_ptys (ty.ptys xs)
types_item [] i x h e = absurd (omega (arith, h))
types_item (y ∷ ys) zero x h e = let same : ty.nodes_pty x ≡ ty.nodes_pty y = ap ty.nodes_pty e in omega (arith, same)
types_item (y ∷ ys) (suc i) x h e = let less = types_item ys i x (omega (arith, h)) e in omega (arith, less)

pub arms_item : (xs : List (Pat × c.Code)) (i : ℕ) (x : Pat × c.Code) → i < length xs → x ≡ get_or xs i x → c.nodes_code x.1 < c.nodes_arms (c.arms xs)
arms_item [] i x h e = absurd (omega (arith, h))
arms_item (y ∷ ys) zero x h e = let same : c.nodes_code x.1 ≡ c.nodes_code y.1 = ap (λ (p : Pat × c.Code). c.nodes_code p.1) e in omega (arith, same)
arms_item (y ∷ ys) (suc i) x h e = let less = arms_item ys i x (omega (arith, h)) e in omega (arith, less)
