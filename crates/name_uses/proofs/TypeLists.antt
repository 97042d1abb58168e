-- Types in a list have fewer nodes than the list; to resolve a list is to resolve each of its types.
use Rattle.std.proofs.Common.{◌≡◌, ℕ, zero, suc, ◌<◌, List, [], ◌∷◌, length, get_or, refl, arith}
use Rattle.rust_ast.specs.SourceTypes as s
use Rattle.rust_ast.specs.Written as w
use Rattle.name_tables.specs.declared.tables.Tables.{Tables}
use Rattle.name_tables.specs.declared.tables.Generics.{Generics}
use Rattle.name_uses.specs.TypeUses.{read_type, read_types}
use Rattle.name_uses.specs.Walks.{on_ok, each}
use Rattle.name_uses.proofs.Walking.{each_form}

pub type_item : (xs : List s.Written) (i : ℕ) (x : s.Written) → i < length xs → x ≡ get_or xs i x → s.nodes_written x < s.nodes_writtens (s.writtens xs)
type_item [] i x h e = absurd (omega arith)
type_item (y ∷ ys) zero x h e = rw e (omega arith)
type_item (y ∷ ys) (suc i) x h e = omega (arith, type_item ys i x (omega arith) e)

pub each_type : (t : Tables) (g : Generics) (xs : List s.Written) → read_types t g (s.writtens xs) ≡ on_ok w.writtens (each (read_type t g) xs)
each_type t g [] = refl
each_type t g (x ∷ xs) = each_form w.more_writtens w.writtens (λ y ys. refl) (read_type t g x) (read_types t g (s.writtens xs)) (each (read_type t g) xs) (each_type t g xs)
