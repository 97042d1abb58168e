-- The lines of a bind of a match, and then the rest of the code.
use Rattle.std.proofs.Common.{◌≡◌, refl, ap, sym, ◌∙◌, ℕ, List, ◌++◌, append_assoc}
use Rattle.std.specs.Prelude.{codes}
use Rattle.pure_ast.specs.declared.def.Defs.{Defs}
use Rattle.pure_ast.specs.declared.pat.Pat.{Pat}
use Rattle.pure_ast.specs.Code.{Code, bind_select, arms}
use Rattle.pure_ast.specs.Terms.{Term}
use Rattle.text_meaning.specs.ShownCode.{code_text, arms_text, let_text, from, new_line}
use Rattle.text_meaning.specs.ShownTerms.{term_text}

abbrev lines : Defs → ℕ → ℕ → Term → List (Pat × Code) → List ℕ
lines defs k v t all = new_line k ++ (let_text v ++ (from ++ (codes "(match " ++ (term_text defs t ++ (codes " with" ++ (arms_text defs k (arms all) ++ codes ");"))))))

eight : (o a b c d e f g h r : List ℕ) → (o ++ (a ++ (b ++ (c ++ (d ++ (e ++ (f ++ (g ++ h)))))))) ++ r ≡ o ++ (a ++ (b ++ (c ++ (d ++ (e ++ (f ++ (g ++ (h ++ r))))))))
eight o a b c d e f g h r = simp append_assoc refl

pub chain_step : (defs : Defs) (k v : ℕ) (t : Term) (out new old : List ℕ) (all slice : List (Pat × Code)) (rest got left code : Code) →
    slice ≡ all → got ≡ rest → new ≡ out ++ lines defs k v t slice → left ≡ bind_select v t (arms all) rest →
    out ++ code_text defs k left ≡ old ++ code_text defs k code → new ++ code_text defs k got ≡ old ++ code_text defs k code
chain_step defs k v t out new old all slice rest got left code a b h l inv =
    ap (λ n. n ++ code_text defs k got) (h ∙ ap (λ x. out ++ lines defs k v t x) a)
    ∙ ap (λ g. (out ++ lines defs k v t all) ++ code_text defs k g) b
    ∙ eight out (new_line k) (let_text v) from (codes "(match ") (term_text defs t) (codes " with") (arms_text defs k (arms all)) (codes ");") (code_text defs k rest)
    ∙ ap (λ x. out ++ code_text defs k x) (sym l) ∙ inv
