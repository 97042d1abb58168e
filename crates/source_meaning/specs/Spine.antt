-- An expression along its left sides: what stands first, and its operators with their right sides,
-- the outermost first. A right side may come with more (as its span), and the parts may mean anything.
use Rattle.std.specs.Prelude.{ℕ, ◌<◌, List, [], ◌∷◌}
use Rattle.sums_ast.specs.Tree.{Expr, nodes_expr}

-- the operators after what the left side means, the last of them first
abbrev pub after_rights : {R V : Type 0} → (R → V → V) → V → List R → V
after_rights add left [] = left
after_rights add left (r ∷ rest) = add r (after_rights add left rest)

-- the right sides are smaller than this number
abbrev pub AreBelow : {R : Type 0} → (R → Expr) → ℕ → List R → Type 0
AreBelow side n [] = Unit {0}
AreBelow side n (r ∷ rest) = (nodes_expr (side r) < n) × AreBelow side n rest
