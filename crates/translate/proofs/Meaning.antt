-- The translation lists the program's functions, and means the program.
use Rattle.std.proofs.Common.{◌≡◌, ℕ, zero, suc, ◌+◌, List, [], ◌∷◌, length, map, refl, ap, sym, subst, subst₂, ◌∙◌, arith}
use Rattle.std.proofs.lemmas.Option.{same_Some}
use Rattle.std.proofs.lemmas.List.{length-map}
use Rattle.std.specs.Prelude.{slice_get, Option, Some, ℤ, pos}
use Rattle.std.specs.Option.{option_map}
use Rattle.pure_ast.specs.Values as v
use Rattle.pure_ast.specs.Values.{PValue}
use Rattle.pure_ast.specs.declared.def.DefKind.{DefKind}
use Rattle.pure_ast.specs.declared.def.DefKind.TheVariants as K
use Rattle.pure_ast.specs.declared.def.Def.{Def}
use Rattle.sums_ast.specs.declared.function.Function.{Function}
use Rattle.sums_ast.specs.declared.function.Program.{Program}
use Rattle.source_meaning.specs.Memory.{MTree}
use Rattle.source_meaning.specs.Machine as m
use Rattle.source_meaning.specs.Machine.{Ran, gives, panics, more, stuck, call_at}
use Rattle.source_meaning.specs.Typing.{IsTyped}
use Rattle.source_meaning.specs.TypingLemmas.{typed_at}
use Rattle.source_meaning.specs.CallLemmas.{call_empty, call_more}
use Rattle.source_meaning.specs.Calling.{trees_of, outcome_of, begun, call_outcome, IsU32Value, AreU32Values}
use Rattle.text_meaning.specs.declared.Answer.{Answer}
use Rattle.text_meaning.specs.Evaluate as p
use Rattle.text_meaning.specs.Evaluate.{Calls, evaluate, evaluate_empty, evaluate_more, without_fuel}
use Rattle.translate.specs.Lists.{AreForward, Lists}
use Rattle.translate.specs.Means.{Agrees, Means}
use Rattle.translate.specs.Emit.{definition, definitions, translation}
use Rattle.translate.proofs.Environments.{tree, value}
use Rattle.translate.proofs.Expressions.{CallAgrees, Same}
use Rattle.translate.proofs.Bodies.{function_agrees}

-- the definition of a function has the function's number
pub definitions_get : (k : ℕ) (fs : List Function) (i : ℕ) (f : Function) (j : ℕ) → j ≡ k + i → slice_get fs i ≡ Some f → slice_get (definitions k fs) i ≡ Some (definition j f)
definitions_get k [] i f j e h = cc
definitions_get k (g ∷ fs) zero f j e h =
    let same : k ≡ j = omega arith in
    ap (λ i. Some (definition i g)) same ∙ ap (λ g. Some (definition j g)) (same_Some g f h)
definitions_get k (g ∷ fs) (suc i) f j e h = definitions_get (k + 1) fs i f j (omega arith) h

definitions_got : (k : ℕ) (fs : List Function) (i : ℕ) (d : Def) (j : ℕ) → j ≡ k + i → slice_get (definitions k fs) i ≡ Some d →
    (f : Function) × (slice_get fs i ≡ Some f) × (d ≡ definition j f)
definitions_got k [] i d j e h = absurd (cc)
definitions_got k (g ∷ fs) zero d j e h =
    let same : k ≡ j = omega arith in
    (g, refl, sym (same_Some (definition k g) d h) ∙ ap (λ i. definition i g) same)
definitions_got k (g ∷ fs) (suc i) d j e h = definitions_got (k + 1) fs i d j (omega arith) h

-- calls at every bound
pub all_same : (p0 : Program) → IsTyped p0 → (n : ℕ) → Same p0.functions (call_at p0 n) (λ e parts. evaluate (translation p0) e parts n)
all_same p0 typed zero = record {
  each = λ s k f zs m0 is count.
      subst₂ (λ (r : Ran) (a : Answer). CallAgrees m0 r a)
      (sym (call_empty p0 s k (map tree zs) m0))
      (sym (evaluate_empty (translation p0) k (map value zs) ∙ ap without_fuel (definitions_get 0 p0.functions k f k (omega arith) is)))
      refl;
}
all_same p0 typed (suc n) = record {
  each = λ s k f zs m0 is count.
      let (before, typed_f, known_) = typed_at [] p0.functions k f typed is in
      let calls : Calls = λ e parts. evaluate (translation p0) e parts n in
      subst₂ (λ (r : Ran) (a : Answer). CallAgrees m0 r a)
      (sym (call_more p0 n s k (map tree zs) m0 ∙ ap (λ o. m.entered (call_at p0 n) s o (map tree zs) m0) is))
      (sym (evaluate_more (translation p0) k (map value zs) n
      ∙ ap (λ o. p.entered calls o (map value zs)) (definitions_get 0 p0.functions k f k (omega arith) is)))
      (function_agrees p0.functions (call_at p0 n) calls (all_same p0 typed n) before known_ f typed_f s zs m0 count);
}

-- typed arguments are numbers
argument : (a : PValue) → IsU32Value a → (z : ℤ) × (a ≡ value z)
argument (v.number n) h = (pos h.mag, ap v.number h.same)
argument (v.truth b) h = absurd h
argument (v.tuple parts) h = absurd h
argument (v.built d parts) h = absurd h

arguments_are : (args : List PValue) → AreU32Values args → (zs : List ℤ) × (args ≡ map value zs)
arguments_are [] h = ([], refl)
arguments_are (a ∷ args) (ha, h) =
    let (z, e) = argument a ha in
    let (zs, es) = arguments_are args h in
    (z ∷ zs, λ i. e i ∷ es i)

argument_trees : (zs : List ℤ) → trees_of (map value zs) ≡ Some (map tree zs)
argument_trees [] = refl
argument_trees (z ∷ zs) = ap (λ o. option_map (λ ts. tree z ∷ ts) o) (argument_trees zs)

ended : (r : Ran) (a : Answer) → CallAgrees [] r a → Agrees (outcome_of r) a
ended (gives t m1) a (z, cells, is, memory, ok) =
    subst (λ (u : MTree). Agrees (outcome_of (gives u m1)) a) (sym is) ok
ended (panics kind) a h = h
ended more a h = h
ended (stuck s) a h = absurd h

abbrev number_of_kind : DefKind → ℕ
number_of_kind (K.Forward f) = f.0
number_of_kind (K.Back f r) = 0
number_of_kind (K.Loop f l) = 0
number_of_kind (K.LoopBack f l r) = 0

pub means : (p0 : Program) → IsTyped p0 → Means p0 (translation p0)
means p0 typed k f i d args n is_f is_d kind arguments =
    let (g, is_g, same_d) = definitions_got 0 p0.functions i d i (omega arith) is_d in
    let same_k : i ≡ k = sym (ap (λ (x : Def). number_of_kind x.kind) same_d) ∙ ap number_of_kind kind in
    let (zs, same_args) = arguments_are args arguments.typed in
    let count : length zs ≡ f.parameters = sym (length-map zs value) ∙ sym (ap length same_args) ∙ arguments.count in
    subst₂ (λ (l : List PValue) (j : ℕ). Agrees (call_outcome p0 k f l n) (evaluate (translation p0) j l n)) (sym same_args) (sym same_k)
    (subst (λ (o : Option (List MTree)). Agrees (begun p0 n k f o) (evaluate (translation p0) k (map value zs) n)) (sym (argument_trees zs))
    (ended (call_at p0 n f.span k (map tree zs) []) (evaluate (translation p0) k (map value zs) n)
    ((all_same p0 typed n).each f.span k f zs [] is_f count)))

forward : (k : ℕ) (fs : List Function) → AreForward k fs (definitions k fs)
forward k [] = tt
forward k (f ∷ fs) = (record { kind = refl; type_params = refl; params = refl; result = refl }, forward (k + 1) fs)

pub lists : (p0 : Program) → Lists p0 (translation p0)
lists p0 = record { types = refl; names = refl; forward = forward 0 p0.functions }
