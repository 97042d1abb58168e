-- What names stand for in a text that declares this (TEXT.md, "Names").
use Rattle.std.specs.Prelude.{ℕ, suc, Bool, false, ◌==◌, ◌&&◌, if◌then◌else◌, List, [], ◌∷◌, Option, Some, None, bytes_eq}
use Rattle.std.specs.Option.{option_map, option_and_then}
use Rattle.pure_ast.specs.declared.ctor.CtorId.{CtorId}
use Rattle.pure_ast.specs.declared.ctor.CtorId.TheVariants.{Of}
use Rattle.pure_ast.specs.declared.def.DefKind.{DefKind}
use Rattle.pure_ast.specs.declared.def.DefKind.TheVariants as K
use Rattle.raw_ast.specs.declared.names.DefinitionName.{DefinitionName}
use Rattle.raw_meaning.specs.declared.outline.DefinitionHead.{DefinitionHead}
use Rattle.raw_meaning.specs.declared.outline.Outline.{Outline}
use Rattle.raw_meaning.specs.declared.outline.TypeHead.{TypeHead}
use Rattle.raw_meaning.specs.declared.outline.VariantHead.{VariantHead}
use Rattle.raw_meaning.specs.Outlines.{kind_of}

-- the first item of this name, with its place
abbrev pub find : {A : Type 0} → (A → List ℕ) → List A → List ℕ → Option (ℕ × A)
find f [] a = None
find f (x ∷ xs) a = if bytes_eq (f x) a then Some (0, x) else option_map (λ p. (suc p.0, p.1)) (find f xs a)

-- a type, with its number of type parameters
abbrev pub type_of : Outline → List ℕ → Option (ℕ × ℕ)
type_of h a = option_map (λ p. (p.0, p.1.parameters)) (find (λ (t : TypeHead). t.name) h.types a)

-- a constructor by the names of its type and variant, with its number of fields
abbrev pub variant_of : ℕ → List VariantHead → List ℕ → Option (CtorId × ℕ)
variant_of t variants b = option_map (λ q. (Of (record { 0 = t }) q.0, q.1.fields)) (find (λ (v : VariantHead). v.name) variants b)

abbrev pub constructor_of : Outline → List ℕ → List ℕ → Option (CtorId × ℕ)
constructor_of h a b = option_and_then (λ p. variant_of p.0 p.1.variants b) (find (λ (t : TypeHead). t.name) h.types a)

abbrev pub same_kind : DefKind → DefKind → Bool
same_kind (K.Forward f) (K.Forward g) = f.0 == g.0
same_kind (K.Back f r) (K.Back g s) = (f.0 == g.0) && (r.0 == s.0)
same_kind (K.Loop f k) (K.Loop g l) = (f.0 == g.0) && (k.0 == l.0)
same_kind (K.LoopBack f k c) (K.LoopBack g l m) = (f.0 == g.0) && ((k.0 == l.0) && (c == m))
same_kind _ _ = false

-- the first definition of this kind, with its number of parameters
abbrev pub head_of_kind : List DefinitionHead → DefKind → Option (ℕ × ℕ)
head_of_kind [] kd = None
head_of_kind (x ∷ xs) kd = if same_kind x.kind kd then Some (0, x.parameters) else option_map (λ p. (suc p.0, p.1)) (head_of_kind xs kd)

-- a definition by its name
abbrev pub definition_of : Outline → DefinitionName → Option (ℕ × ℕ)
definition_of h n = option_and_then (head_of_kind h.definitions) (kind_of h.functions n)
