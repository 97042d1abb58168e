-- What the lists that are being copied come to.
use Rattle.std.specs.Prelude.{ℕ, ◌+◌, Option, Some, None, List, [], ◌∷◌, ◌++◌}
use Rattle.pure_ast.specs.Values.{PValue, tuple, built, pvalues, nodes_pvalues}
use Rattle.pure_eval.specs.declared.copies.Copying.{Copying}
use Rattle.pure_eval.specs.declared.copies.Owner.{Owner}
use Rattle.pure_eval.specs.declared.copies.Owner.TheVariants as O
use Rattle.pure_eval.specs.declared.copies.Parts.{Parts}
use Rattle.pure_eval.specs.declared.copies.Waiting.{Waiting}

-- a value with its parts
abbrev pub owned : Owner → List PValue → PValue
owned O.Tuple parts = tuple (pvalues parts)
owned (O.Ctor ctor) parts = built ctor (pvalues parts)

-- a list once the values that are left are copied
abbrev pub finished : Copying → List PValue
finished list = list.copied ++ list.left.now

-- the outermost list, where the innermost one comes to `parts`; the newest that waits is the last
abbrev pub rebuilt : List Waiting → List PValue → List PValue
rebuilt [] parts = parts
rebuilt (w ∷ newer) parts = w.list.copied ++ owned w.owner (rebuilt newer parts) ∷ w.list.left.now

-- how many turns a list takes at most
abbrev pub list_cost : Copying → ℕ
list_cost list = nodes_pvalues (pvalues list.left.now)

abbrev pub stack_cost : List Waiting → ℕ
stack_cost [] = 0
stack_cost (w ∷ newer) = list_cost w.list + stack_cost newer

-- a list whose copies go up to a value with parts, once all of it is copied
abbrev pub with_found : List PValue → Option Parts → List PValue
with_found copied None = copied
with_found copied (Some p) = copied ++ owned p.owner p.parts.now ∷ p.left.now

-- how many turns are left at that value, and one more
abbrev pub found_cost : Option Parts → ℕ
found_cost None = 1
found_cost (Some p) = nodes_pvalues (pvalues p.parts.now) + nodes_pvalues (pvalues p.left.now) + 1
