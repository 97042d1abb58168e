-- Names of definitions are read as they are spelled.
use Rattle.std.proofs.Common.{◌≡◌, refl, ap, ◌∙◌, ℕ, List, [], ◌∷◌, ◌++◌, Option, Some, None}
use Rattle.std.specs.Prelude.{codes, is_some}
use Rattle.std.specs.Option.{option_map}
use Rattle.std.specs.Fmt.{decimal}
use Rattle.pure_ast.specs.declared.def.DefKind.{DefKind}
use Rattle.pure_ast.specs.declared.def.DefKind.TheVariants as K
use Rattle.pure_ast.specs.declared.def.Defs.{Defs}
use Rattle.text_meaning.specs.declared.mark.Mark.TheVariants as M
use Rattle.text_meaning.specs.Lookups.{function_name}
use Rattle.text_meaning.specs.Ranges.{IsSmall}
use Rattle.text_meaning.specs.SpelledNames.{kind_tokens}
use Rattle.text_meaning.specs.Tokens.{Token, word, id, mark, loop_text, back_text}
use Rattle.text_meaning.specs.WellFormed.{function_of, IsKind}
use Rattle.text_table.specs.declared.part.Part.TheVariants as N
use Rattle.text_table.specs.declared.terminal.Terminal.TheVariants as T
use Rattle.raw_ast.specs.declared.names.DefinitionName.{DefinitionName}
use Rattle.raw_ast.specs.declared.spelling.Spelling.{Spelling}
use Rattle.raw_values.specs.declared.rests.NameEnd.{NameEnd}
use Rattle.raw_ways.specs.Ways.{spelled as spelling_of}
use Rattle.raw_meaning.specs.Numbers.{numbered}
use Rattle.raw_meaning.specs.Outlines.{place_of, part_number, kind_by, kind_of}
use Rattle.raw_meaning.specs.Rules.{unless, name_number, name_numbers}
use Rattle.raw_completeness.specs.Leaves.{Says, names, loops, backs}
use Rattle.raw_completeness.specs.Numerals.{numbered_read}
use Rattle.raw_completeness.specs.Rows.{Reading, done, fixed, leaf, last, produce}

-- the numbers in the name of a definition of this kind
abbrev turn_of : DefKind → Option ℕ
turn_of (K.Forward f) = None
turn_of (K.Back f r) = None
turn_of (K.Loop f k) = Some k.0
turn_of (K.LoopBack f k c) = Some k.0

abbrev back_of : DefKind → Option ℕ
back_of (K.Forward f) = None
back_of (K.Back f r) = Some r.0
back_of (K.Loop f k) = None
back_of (K.LoopBack f k c) = Some c

of_parts : (k : DefKind) → kind_by (Some (function_of k)) (Some (turn_of k)) (Some (back_of k)) ≡ Some k
of_parts (K.Forward f) = refl
of_parts (K.Back f r) = refl
of_parts (K.Loop f k) = refl
of_parts (K.LoopBack f k c) = refl

-- a part of a name as it is spelled has this number, and breaks no rule
abbrev IsPartOf : List ℕ → Option ℕ → Option Spelling → Type 0
IsPartOf prefix k s = (part_number prefix s ≡ Some k) × (name_number prefix s ≡ [])

part_of : (prefix : List ℕ) (k : ℕ) (s : Spelling) → IsSmall k → s.text ≡ prefix ++ decimal k → IsPartOf prefix (Some k) (Some s)
part_of prefix k s small e =
    let found : numbered prefix s.text ≡ Some k = ap (numbered prefix) e ∙ numbered_read prefix k small in
    (ap (option_map (λ (k : ℕ). Some k)) found, ap (λ (o : Option ℕ). unless (is_some o) s.span) found)

abbrev IsEndOf : Option ℕ → Option ℕ → NameEnd → Type 0
IsEndOf t b e = IsPartOf (codes "loop") t e.turn × IsPartOf (codes "back") b e.back

-- a definition's name as it is spelled is that of this kind
pub record IsNameOf (d : Defs) (k : DefKind) (n : DefinitionName) : Type 0 where
  pub function : n.function.text ≡ function_name d (function_of k)
  pub turn : IsPartOf (codes "loop") (turn_of k) n.turn
  pub back : IsPartOf (codes "back") (back_of k) n.back

pub kind_found : (d : Defs) (k : DefKind) (n : DefinitionName) (fs : List (List ℕ)) → IsNameOf d k n → place_of fs (function_name d (function_of k)) ≡ Some (function_of k) →
    kind_of fs n ≡ Some k
kind_found d k n fs w e = (λ i. kind_by ((ap (place_of fs) w.function ∙ e) i) (w.turn.0 i) (w.back.0 i)) ∙ of_parts k

pub numbers_keep : (d : Defs) (k : DefKind) (n : DefinitionName) → IsNameOf d k n → name_numbers n ≡ []
numbers_keep d k n w = λ i. w.turn.1 i ++ w.back.1 i

-- ---- ends

abbrev back_tokens : Option ℕ → List Token
back_tokens None = []
back_tokens (Some c) = mark M.Dot ∷ word (back_text c) ∷ []

abbrev IsSmallIf : Option ℕ → Type 0
IsSmallIf None = Unit {0}
IsSmallIf (Some k) = IsSmall k

back_read : (b : Option ℕ) → IsSmallIf b → Reading N.BackEnd (back_tokens b) (IsPartOf (codes "back") b)
back_read None w = produce N.BackEnd 0 done (IsPartOf (codes "back") None) refl tt (λ ls us vs r g. (vs, (r, (refl, refl))))
back_read (Some c) w =
    produce N.BackEnd 1 (fixed T.Dot (mark M.Dot) (leaf T.Back (word (back_text c)) (Says (back_text c)) done)) (IsPartOf (codes "back") (Some c)) refl (backs c w, tt)
    (λ ls us vs r g. (vs, (r, part_of (codes "back") c (spelling_of vs.1.0) w g.0)))

abbrev end_tokens : Option ℕ → Option ℕ → List Token
end_tokens None b = back_tokens b
end_tokens (Some k) b = mark M.Dot ∷ word (loop_text k) ∷ back_tokens b

end_read : (t b : Option ℕ) → IsSmallIf t → IsSmallIf b → Reading N.NameEnd (end_tokens t b) (IsEndOf t b)
end_read None None v w = produce N.NameEnd 0 done (IsEndOf None None) refl tt (λ ls us vs r g. (vs, (r, ((refl, refl), (refl, refl)))))
end_read None (Some c) v w =
    let part = produce N.NamePart 1 (leaf T.Back (word (back_text c)) (Says (back_text c)) done) (IsEndOf None (Some c)) refl (backs c w, tt)
    (λ ls us vs r g. (vs, (r, ((refl, refl), part_of (codes "back") c (spelling_of vs.0) w g.0)))) in
    produce N.NameEnd 1 (fixed T.Dot (mark M.Dot) (last N.NamePart (word (back_text c) ∷ []) (IsEndOf None (Some c)))) (IsEndOf None (Some c)) refl part (λ ls us vs r g. (vs, (r, g)))
end_read (Some k) b v w =
    let part = produce N.NamePart 0 (leaf T.LoopNumber (word (loop_text k)) (Says (loop_text k)) (last N.BackEnd (back_tokens b) (IsPartOf (codes "back") b))) (IsEndOf (Some k) b) refl
    (loops k v, back_read b w) (λ ls us vs r g. (vs, (r, (part_of (codes "loop") k (spelling_of vs.0) v g.0, g.1)))) in
    produce N.NameEnd 1 (fixed T.Dot (mark M.Dot) (last N.NamePart (word (loop_text k) ∷ back_tokens b) (IsEndOf (Some k) b))) (IsEndOf (Some k) b) refl part (λ ls us vs r g. (vs, (r, g)))

-- ---- names

whole_read : (d : Defs) (k : DefKind) → IsSmallIf (turn_of k) → IsSmallIf (back_of k) →
    Reading N.DefinitionName (word (codes "fn") ∷ mark M.Dot ∷ id (function_name d (function_of k)) ∷ end_tokens (turn_of k) (back_of k)) (IsNameOf d k)
whole_read d k v w =
    let n = function_name d (function_of k) in
    produce N.DefinitionName 0 (fixed T.Fn (word (codes "fn")) (fixed T.Dot (mark M.Dot) (leaf T.Name (id n) (Says n)
    (last N.NameEnd (end_tokens (turn_of k) (back_of k)) (IsEndOf (turn_of k) (back_of k)))))) (IsNameOf d k) refl (names n, end_read (turn_of k) (back_of k) v w)
    (λ ls us vs r g. (vs, (r, record { function = g.0; turn = g.1.0; back = g.1.1 })))

pub name_read : (d : Defs) (k : DefKind) → IsKind k → Reading N.DefinitionName (kind_tokens d k) (IsNameOf d k)
name_read d (K.Forward f) w = whole_read d (K.Forward f) tt tt
name_read d (K.Back f r) w = whole_read d (K.Back f r) tt w
name_read d (K.Loop f k) w = whole_read d (K.Loop f k) w tt
name_read d (K.LoopBack f k c) w = whole_read d (K.LoopBack f k c) w.0 w.1
