-- A turn over declarations and definitions: one more is told, and declared for those after it.
use Rattle.std.proofs.Common.{◌≡◌, ℕ, ◌+◌, ◌<◌, List, [], ◌∷◌, ◌++◌, length, get_or, drop, refl, ap, sym, ◌∙◌, append_assoc, add-one, drop-cons, suc}
use Rattle.std.specs.List.{list_all}
use Rattle.std.specs.Prelude.{true, Result, Ok, Err}
use Rattle.aen_base.specs.declared.span.Span.{Span}
use Rattle.pure_ast.specs.declared.def.Def.{Def}
use Rattle.pure_ast.specs.declared.def.DefKind.{DefKind}
use Rattle.pure_ast.specs.declared.def.PType.{PType}
use Rattle.raw_ast.specs.declared.declarations.Declaration.{Declaration}
use Rattle.raw_ast.specs.declared.declarations.Definition.{Definition}
use Rattle.raw_ast.specs.declared.declarations.RawText.{RawText}
use Rattle.raw_meaning.specs.declared.outline.Outline.{Outline}
use Rattle.raw_meaning.specs.Faults.{texts}
use Rattle.raw_meaning.specs.Outlines.{outline_of, is_in}
use Rattle.text_names.specs.Bearing.{all_bear}
use Rattle.text_trees.specs.Declarations.{body_told, declarations_told}
use Rattle.text_trees.specs.Definitions.{definition_told, definitions_told}
use Rattle.text_trees.specs.Nodes.{new_type}
use Rattle.text_trees.specs.Told.{and_then, on_ok, behind}

drop_at : {A : Type 0} (xs : List A) (i : ℕ) (x : A) → i < length xs → x ≡ get_or xs i x → drop i xs ≡ x ∷ drop (i + 1) xs
drop_at xs i x h q = rw (add-one, drop-cons xs i x h) (ap (λ y. y ∷ drop (suc i) xs) (sym q))

behind_more : {B : Type 0} (done : List B) (y : B) (o : Result (List B) Span) → behind done (on_ok (λ ys. y ∷ ys) o) ≡ behind (done ++ y ∷ []) o
behind_more done y (Ok ys) = ap Ok (sym (append_assoc done (y ∷ []) ys))
behind_more done y (Err place) = refl

one_more : (h : Outline) (types next parameters after : List (List ℕ)) (d : Declaration) (rest : List Declaration) (y : PType) (done : List PType) →
    new_type types parameters d.name ≡ Ok tt → next ≡ types ++ d.name.text ∷ [] → body_told h next d ≡ Ok y → after ≡ parameters ++ texts d.parameters →
    behind done (declarations_told h types parameters (d ∷ rest)) ≡ behind (done ++ y ∷ []) (declarations_told h next after rest)
one_more h types next parameters after d rest y done a b e f =
    let told : body_told h (types ++ d.name.text ∷ []) d ≡ Ok y = ap (λ (ts : List (List ℕ)). body_told h ts d) (sym b) ∙ e in
    let last = λ (o : Result PType Span). behind done (and_then o (λ y. on_ok (λ ys. y ∷ ys) (declarations_told h (types ++ d.name.text ∷ []) (parameters ++ texts d.parameters) rest))) in
    ap (λ o. last (and_then o (λ u. body_told h (types ++ d.name.text ∷ []) d))) a ∙ ap last told
    ∙ ap (λ (ts : List (List ℕ)). behind done (on_ok (λ ys. y ∷ ys) (declarations_told h ts (parameters ++ texts d.parameters) rest))) (sym b)
    ∙ ap (λ (ps : List (List ℕ)). behind done (on_ok (λ ys. y ∷ ys) (declarations_told h next ps rest))) (sym f)
    ∙ behind_more done y (declarations_told h next after rest)

pub declared_turn : (h : Outline) (types next parameters after : List (List ℕ)) (raw : List Declaration) (i : ℕ) (d : Declaration) (y : PType) (done more : List PType) (whole : Result (List PType) Span) →
    i < length raw → d ≡ get_or raw i d →
    new_type types parameters d.name ≡ Ok tt → next ≡ types ++ d.name.text ∷ [] → body_told h next d ≡ Ok y → after ≡ parameters ++ texts d.parameters → more ≡ done ++ y ∷ [] →
    whole ≡ behind done (declarations_told h types parameters (drop i raw)) → whole ≡ behind more (declarations_told h next after (drop (i + 1) raw))
declared_turn h types next parameters after raw i d y done more whole l q a b e f m w =
    w ∙ ap (λ (ds : List Declaration). behind done (declarations_told h types parameters ds)) (drop_at raw i d l q)
    ∙ one_more h types next parameters after d (drop (i + 1) raw) y done a b e f
    ∙ ap (λ (ys : List PType). behind ys (declarations_told h next after (drop (i + 1) raw))) (sym m)

pub declared_fault : (h : Outline) (types next parameters : List (List ℕ)) (raw : List Declaration) (i : ℕ) (d : Declaration) (done : List PType) (whole : Result (List PType) Span) (place : Span) →
    i < length raw → d ≡ get_or raw i d → new_type types parameters d.name ≡ Ok tt → next ≡ types ++ d.name.text ∷ [] →
    whole ≡ behind done (declarations_told h types parameters (drop i raw)) → body_told h next d ≡ Err place → whole ≡ Err place
declared_fault h types next parameters raw i d done whole place l q a b w e =
    let told : body_told h (types ++ d.name.text ∷ []) d ≡ Err place = ap (λ (ts : List (List ℕ)). body_told h ts d) (sym b) ∙ e in
    let rest = declarations_told h (types ++ d.name.text ∷ []) (parameters ++ texts d.parameters) (drop (i + 1) raw) in
    let last = λ (o : Result PType Span). behind done (and_then o (λ y. on_ok (λ ys. y ∷ ys) rest)) in
    w ∙ ap (λ (ds : List Declaration). behind done (declarations_told h types parameters ds)) (drop_at raw i d l q)
    ∙ ap (λ o. last (and_then o (λ u. body_told h (types ++ d.name.text ∷ []) d))) a ∙ ap last told

pub defined_turn : (h : Outline) (types : List (List ℕ)) (kinds next : List DefKind) (raw : List Definition) (i : ℕ) (d : Definition) (y : Def) (done more : List Def) (whole : Result (List Def) Span) →
    i < length raw → d ≡ get_or raw i d → definition_told h types kinds d ≡ Ok y → next ≡ kinds ++ y.kind ∷ [] → more ≡ done ++ y ∷ [] →
    whole ≡ behind done (definitions_told h types kinds (drop i raw)) → whole ≡ behind more (definitions_told h types next (drop (i + 1) raw))
defined_turn h types kinds next raw i d y done more whole l q a b m w =
    let rest = drop (i + 1) raw in
    w ∙ ap (λ (ds : List Definition). behind done (definitions_told h types kinds ds)) (drop_at raw i d l q)
    ∙ ap (λ (o : Result Def Span). behind done (and_then o (λ y. on_ok (λ ys. y ∷ ys) (definitions_told h types (kinds ++ y.kind ∷ []) rest)))) a
    ∙ ap (λ (ks : List DefKind). behind done (on_ok (λ ys. y ∷ ys) (definitions_told h types ks rest))) (sym b)
    ∙ behind_more done y (definitions_told h types next rest)
    ∙ ap (λ (ys : List Def). behind ys (definitions_told h types next rest)) (sym m)

-- the functions of a text's definitions are among those it declares
pub all_declared : (text : RawText) (h made : Outline) → h ≡ made → made ≡ outline_of text →
    list_all (λ (d : Definition). is_in d.name.function.text h.functions) text.definitions ≡ true
all_declared text h made a b =
    ap (λ (h : Outline). list_all (λ (d : Definition). is_in d.name.function.text h.functions) text.definitions) (a ∙ b)
    ∙ all_bear [] text.definitions
