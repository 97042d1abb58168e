-- What computations in order do: each gives the next variable its value, or one ends them all.
use Rattle.std.proofs.Common.{◌≡◌, ℕ, suc, ◌+◌, List, [], ◌∷◌, ◌++◌, length, refl, ap, sym, ◌∙◌, arith, append_assoc, append-nil, length-append}
use Rattle.std.specs.Prelude.{ℤ}
use Rattle.pure_ast.specs.Code.{Code, bind}
use Rattle.pure_ast.specs.declared.comp.Comp.{Comp}
use Rattle.text_meaning.specs.declared.Answer.{Answer}
use Rattle.text_meaning.specs.declared.Answer.TheVariants as A
use Rattle.text_meaning.specs.Environment.{with_value}
use Rattle.text_meaning.specs.Evaluate as p
use Rattle.text_meaning.specs.Evaluate.{Calls, code_answer, comp_answer}
use Rattle.translate.specs.Emit.{chain}
use Rattle.translate.proofs.Environments.{env, value, env_more}

pub chain_join : (n : ℕ) (first then_ : List Comp) (rest : Code) → chain n (first ++ then_) rest ≡ chain n first (chain (n + length first) then_ rest)
chain_join n [] then_ rest = let e : n ≡ n + 0 = omega arith in ap (λ k. chain k then_ rest) e
chain_join n (c ∷ first) then_ rest =
    let e : n + 1 + length first ≡ n + suc (length first) = omega arith in
    ap (bind n c) (chain_join (n + 1) first then_ rest ∙ ap (λ k. chain (n + 1) first (chain k then_ rest)) e)

module _ (calls : Calls) where
  -- where the variables have the values vs, these computations add the values ws
  pub record Reached (vs : List ℤ) (comps : List Comp) (ws : List ℤ) : Type 0 where
    pub count : length ws ≡ length comps
    pub runs : (rest : Code) → code_answer calls (env vs) (chain (length vs) comps rest) ≡ code_answer calls (env (vs ++ ws)) rest

  -- there they end everything with this answer
  pub record Ends (vs : List ℤ) (comps : List Comp) (a : Answer) : Type 0 where
    pub answer : (rest : Code) → code_answer calls (env vs) (chain (length vs) comps rest) ≡ a

  pub reached_none : (vs : List ℤ) → Reached vs [] []
  reached_none vs = record { count = refl; runs = λ rest. ap (λ l. code_answer calls (env l) rest) (sym (append-nil vs)) }

  pub next_variable : (vs ws : List ℤ) (comps : List Comp) → length ws ≡ length comps → length (vs ++ ws) ≡ length vs + length comps
  next_variable vs ws comps h = let e = length-append vs ws in omega arith

  joined_at : (vs ws : List ℤ) (first then_ : List Comp) → Reached vs first ws → (rest : Code) →
      code_answer calls (env vs) (chain (length vs) (first ++ then_) rest) ≡ code_answer calls (env (vs ++ ws)) (chain (length (vs ++ ws)) then_ rest)
  joined_at vs ws first then_ r rest =
      ap (code_answer calls (env vs)) (chain_join (length vs) first then_ rest)
      ∙ r.runs (chain (length vs + length first) then_ rest)
      ∙ ap (λ k. code_answer calls (env (vs ++ ws)) (chain k then_ rest)) (sym (next_variable vs ws first r.count))

  pub reached_join : (vs ws us : List ℤ) (first then_ : List Comp) → Reached vs first ws → Reached (vs ++ ws) then_ us → Reached vs (first ++ then_) (ws ++ us)
  reached_join vs ws us first then_ r s =
      let e = length-append ws us in
      let f = length-append first then_ in
      let h = r.count in
      let k = s.count in
      record {
        count = omega arith;
        runs = λ rest. joined_at vs ws first then_ r rest ∙ s.runs rest ∙ ap (λ l. code_answer calls (env l) rest) (append_assoc vs ws us);
      }

  pub reached_one : (vs : List ℤ) (comp : Comp) (z : ℤ) → comp_answer calls (env vs) comp ≡ A.Ok (value z) → Reached vs (comp ∷ []) (z ∷ [])
  reached_one vs comp z h = record {
    count = refl;
    runs = λ rest. ap (λ a. p.then_do a (λ x. code_answer calls (with_value (env vs) (length vs) x) rest)) h
        ∙ ap (λ e. code_answer calls e rest) (env_more vs z);
  }

  pub ends_one : (vs : List ℤ) (comp : Comp) (a : Answer) → comp_answer calls (env vs) comp ≡ a → ((f : _) → p.then_do a f ≡ a) → Ends vs (comp ∷ []) a
  ends_one vs comp a h stays = record {
    answer = λ rest. ap (λ x. p.then_do x (λ y. code_answer calls (with_value (env vs) (length vs) y) rest)) h ∙ stays _;
  }

  pub ends_first : (vs : List ℤ) (first then_ : List Comp) (a : Answer) → Ends vs first a → Ends vs (first ++ then_) a
  ends_first vs first then_ a e = record {
    answer = λ rest. ap (code_answer calls (env vs)) (chain_join (length vs) first then_ rest) ∙ e.answer (chain (length vs + length first) then_ rest);
  }

  pub ends_then : (vs ws : List ℤ) (first then_ : List Comp) (a : Answer) → Reached vs first ws → Ends (vs ++ ws) then_ a → Ends vs (first ++ then_) a
  ends_then vs ws first then_ a r e = record { answer = λ rest. joined_at vs ws first then_ r rest ∙ e.answer rest }
