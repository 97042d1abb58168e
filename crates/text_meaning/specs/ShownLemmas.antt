-- The lemma templates: the header, and for each definition an empty line and a line
-- (TEXT.md, "Lemma templates").
use Rattle.std.specs.Prelude.{ℕ, zero, suc, List, [], ◌++◌, codes, length}
use Rattle.std.specs.List.{flat_map}
use Rattle.pure_ast.specs.declared.def.Def.{Def}
use Rattle.pure_ast.specs.declared.def.Defs.{Defs}
use Rattle.text_meaning.specs.Shown.{binders_text, header}
use Rattle.text_meaning.specs.ShownNames.{kind_text}
use Rattle.text_meaning.specs.ShownTypes.{type_text}
use Rattle.text_meaning.specs.Tokens.{var_text}

-- ` v0 v1 ..`: so many variables, numbered from k
abbrev pub variables_from : ℕ → ℕ → List ℕ
variables_from k zero = []
variables_from k (suc count) = codes " " ++ (var_text k ++ variables_from (suc k) count)

-- `theorem fn.f.spec` and the parameters of the definition
abbrev pub lemma_head : Defs → Def → List ℕ
lemma_head defs d = codes "\ntheorem " ++ (kind_text defs d.kind ++ (codes ".spec" ++ binders_text defs d))

-- ` (v1 : U32)`: the result is the variable after the parameters
abbrev pub lemma_result : Defs → Def → List ℕ
lemma_result defs d = codes " (" ++ (var_text (length d.params) ++ (codes " : " ++ (type_text defs d.type_params d.result ++ codes ")")))

-- ` (h : fn.f n v0 = ok v1)`
abbrev pub lemma_hypothesis : Defs → Def → List ℕ
lemma_hypothesis defs d = codes " (h : " ++ (kind_text defs d.kind ++ (codes " n" ++ (variables_from 0 (length d.params)
    ++ (codes " = ok " ++ (var_text (length d.params) ++ codes ")")))))

abbrev pub lemma_text : Defs → Def → List ℕ
lemma_text defs d = lemma_head defs d ++ (lemma_result defs d ++ (lemma_hypothesis defs d ++ codes " : True := sorry\n"))

abbrev pub shown_lemmas : Defs → List ℕ
shown_lemmas defs = header ++ flat_map (lemma_text defs) defs.defs
