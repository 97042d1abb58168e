-- Turns over a stack of parts that wait: a part is put on it and begun, or the newest takes its value. What all comes to
-- stays, and less is left to do.
use Rattle.std.proofs.Common.{◌≡◌, ℕ, ◌+◌, ◌<◌, List, [], ◌∷◌, ◌++◌, ap, sym, ◌∙◌, subst, arith}
use Rattle.std.specs.Prelude.{Result, Ok, Err, IsErrAnd}
use Rattle.aen_base.specs.declared.span.Span.{Span}
use Rattle.text_trees.specs.declared.fault.SettleFault.{SettleFault}
use Rattle.text_trees.specs.declared.fault.SettleFault.TheVariants.{Broken, Memory}
use Rattle.text_trees.specs.Told.{and_then, unwind, weigh, Gives, Leads}
use Rattle.text_trees.proofs.Unwinding.{unwind_last, unwind_fault, weigh_last}

-- a fault of a part that is one of the whole
passed_on : {A B S : Type 0} (f : S → Result A Span) (o : Result A Span) (whole : Result B Span) (e : SettleFault) →
    Leads o f (Err e) → ((place : Span) → o ≡ Err place → whole ≡ Err place) → Gives whole (Err e)
passed_on f o whole (Broken place) h k = k place h
passed_on f o whole Memory h k = tt

pub passes : {A B S : Type 0} (f : S → Result A Span) (o : Result A Span) (whole : Result B Span) (x : Result B SettleFault) (e : SettleFault) →
    Leads o f (Err e) → IsErrAnd x (λ y. y ≡ e) → ((place : Span) → o ≡ Err place → whole ≡ Err place) → Gives whole x
passes f o whole (Ok y) e h same k = absurd same
passes f o whole (Err y) e h same k = subst (λ z. Gives whole (Err z)) (sym same) (passed_on f o whole e h k)

given_on : {A B : Type 0} (o : Result A Span) (whole : Result B Span) (e : SettleFault) → Gives o (Err e) → ((place : Span) → o ≡ Err place → whole ≡ Err place) → Gives whole (Err e)
given_on o whole (Broken place) h k = k place h
given_on o whole Memory h k = tt

pub gives_on : {A B : Type 0} (o : Result A Span) (whole : Result B Span) (x : Result B SettleFault) (e : SettleFault) →
    Gives o (Err e) → IsErrAnd x (λ y. y ≡ e) → ((place : Span) → o ≡ Err place → whole ≡ Err place) → Gives whole x
gives_on o whole (Ok y) e h same k = absurd same
gives_on o whole (Err y) e h same k = subst (λ z. Gives whole (Err z)) (sym same) (given_on o whole e h k)

module _ {F A : Type 0} (gives : F → A → Result A Span) where
  pub opened : (old new : List F) (f : F) (part now next whole : Result A Span) →
      new ≡ old ++ f ∷ [] → now ≡ and_then part (gives f) → part ≡ next → unwind gives old now ≡ whole → unwind gives new next ≡ whole
  opened old new f part now next whole a b d e =
      ap (λ (fs : List F). unwind gives fs next) a ∙ ap (unwind gives (old ++ f ∷ [])) (sym d)
      ∙ unwind_last gives old f part ∙ ap (unwind gives old) (sym b) ∙ e

  pub opened_fault : (old : List F) (f : F) (part now whole : Result A Span) (place : Span) →
      now ≡ and_then part (gives f) → unwind gives old now ≡ whole → part ≡ Err place → whole ≡ Err place
  opened_fault old f part now whole place b e d =
      sym e ∙ ap (unwind gives old) (b ∙ ap (λ z. and_then z (gives f)) d) ∙ unwind_fault gives old place

  pub closed : (old rest : List F) (f : F) (x : A) (now next whole : Result A Span) →
      old ≡ rest ++ f ∷ [] → now ≡ Ok x → gives f x ≡ next → unwind gives old now ≡ whole → unwind gives rest next ≡ whole
  closed old rest f x now next whole a b d e =
      ap (unwind gives rest) (sym (ap (λ z. and_then z (gives f)) b ∙ d)) ∙ sym (unwind_last gives rest f now)
      ∙ ap (λ (fs : List F). unwind gives fs now) (sym a) ∙ e

  pub closed_fault : (old rest : List F) (f : F) (x : A) (now whole : Result A Span) (place : Span) →
      old ≡ rest ++ f ∷ [] → now ≡ Ok x → unwind gives old now ≡ whole → gives f x ≡ Err place → whole ≡ Err place
  closed_fault old rest f x now whole place a b e d =
      sym e ∙ ap (λ (fs : List F). unwind gives fs now) a ∙ unwind_last gives rest f now
      ∙ ap (unwind gives rest) (ap (λ z. and_then z (gives f)) b ∙ d) ∙ unwind_fault gives rest place

module _ {F : Type 0} (weight : F → ℕ) where
  pub opened_cost : (old new : List F) (f : F) (part now next : ℕ) →
      new ≡ old ++ f ∷ [] → now ≡ weight f + part → next < part → weigh weight new + next < weigh weight old + now
  opened_cost old new f part now next a b d =
      let h = ap (weigh weight) a ∙ weigh_last weight old f in
      omega (arith, h, b, d)

  pub closed_cost : (old rest : List F) (f : F) (now next : ℕ) →
      old ≡ rest ++ f ∷ [] → next < weight f → weigh weight rest + next < weigh weight old + now
  closed_cost old rest f now next a d =
      let h = ap (weigh weight) a ∙ weigh_last weight rest f in
      omega (arith, h, d)
