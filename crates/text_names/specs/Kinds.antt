-- The kinds of definitions as the keys of a table.
use Rattle.std.specs.Prelude.{ℕ, suc, Bool, if◌then◌else◌, List, [], ◌∷◌, Option, Some, None}
use Rattle.std.specs.Option.{option_map}
use Rattle.pure_ast.specs.declared.def.DefKind.{DefKind}
use Rattle.pure_ast.specs.declared.def.DefKind.TheVariants as K
use Rattle.raw_meaning.specs.declared.outline.DefinitionHead.{DefinitionHead}
use Rattle.text_names.specs.declared.kind_key.KindKey.{KindKey}

abbrev pub key : ℕ → Option ℕ → Option ℕ → KindKey
key f t b = record { function = f; turn = t; back = b }

abbrev pub key_of : DefKind → KindKey
key_of (K.Forward f) = key f.0 None None
key_of (K.Back f r) = key f.0 None (Some r.0)
key_of (K.Loop f k) = key f.0 (Some k.0) None
key_of (K.LoopBack f k c) = key f.0 (Some k.0) (Some c)

abbrev pub head_key : DefinitionHead → KindKey
head_key x = key_of x.kind

-- the first definition of a kind by its key, with its number of parameters
abbrev pub head_of_key : (KindKey → KindKey → Bool) → List DefinitionHead → KindKey → Option (ℕ × ℕ)
head_of_key eq [] k = None
head_of_key eq (x ∷ xs) k = if eq (head_key x) k then Some (0, x.parameters) else option_map (λ p. (suc p.0, p.1)) (head_of_key eq xs k)
