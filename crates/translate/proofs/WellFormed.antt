-- The translation of a typed program is well-formed where its variables are numbered by u32.
use Rattle.std.proofs.Common.{◌≡◌, ℕ, zero, suc, ◌+◌, ◌<◌, ◌≤◌, ◌^◌, true, List, [], ◌∷◌, ◌++◌, length, map, replicate, get_or, refl, ap, sym, subst, ◌∙◌, arith, append_assoc, length-append, lt-ltb}
use Rattle.std.proofs.lemmas.List.{length-replicate, length-map}
use Rattle.std.proofs.lemmas.List.FromFn.{length-map-range_with_len}
use Rattle.std.proofs.lemmas.Option.{same_Some, slice_get-get_or}
use Rattle.std.specs.Prelude.{slice_get, Option, Some, pos}
use Rattle.std.specs.Option.{option_map}
use Rattle.std.specs.List.{range_with_len}
use Rattle.aen_base.specs.declared.int_ty.IntTy.TheVariants.{U32}
use Rattle.aen_base.specs.Numbers.{Number, in_range, limit}
use Rattle.pure_ast.specs.Terms as t
use Rattle.pure_ast.specs.Code as c
use Rattle.pure_ast.specs.declared.comp.Comp.{Comp}
use Rattle.pure_ast.specs.declared.comp.Comp.TheVariants as C
use Rattle.pure_ast.specs.declared.def.Def.{Def}
use Rattle.pure_ast.specs.declared.def.Defs.{Defs}
use Rattle.sums_ast.specs.Tree.{Expr, number, variable, binary, call, Exprs, no_exprs, more_exprs, exprs_list, bind, Stmts, no_stmts, more_stmts, Block, block, MaybeExpr, no_maybeexpr, some_maybeexpr}
use Rattle.sums_ast.specs.declared.function.Function.{Function}
use Rattle.sums_ast.specs.declared.function.Program.{Program}
use Rattle.source_meaning.specs.Typing.{IsU32, IsTypedExpr, AreTypedExprs, IsTypedBody, IsTypedBlock, IsTypedFunction, AreTyped, IsTyped}
use Rattle.text_meaning.specs.Lists.{Each}
use Rattle.text_meaning.specs.Ranges.{IsSmall, IsInRange}
use Rattle.text_meaning.specs.WellFormedTypes.{IsType, AreNames}
use Rattle.text_meaning.specs.WellFormedTerms.{IsTerm, AreTerms, IsComp, parameters_count}
use Rattle.text_meaning.specs.WellFormedCode.{IsCode}
use Rattle.text_meaning.specs.WellFormed.{IsWellFormed, IsDefinition}
use Rattle.translate.specs.declared.atom.Atom.{Atom}
use Rattle.translate.specs.declared.atom.Atom.TheVariants as A
use Rattle.translate.specs.Lists.{u32_type}
use Rattle.translate.specs.Emit.{term_of, known, Emitted, EmittedAll, operation, emit, emit_all, emit_body, emit_block, chain, emitted, parameter_atoms, definition, definitions, translation}
use Rattle.translate.specs.Adds.{IsNumbered, AreNumbered}
use Rattle.translate.proofs.Items.{each_push}
use Rattle.source_meaning.specs.PlaceLemmas.{get_left_some}
use Rattle.translate.proofs.Meaning.{definitions_get}
use Rattle.translate.proofs.DefinitionKinds.{kinds_differ, in_order}

-- an atom whose variable has a number, or whose number is in range
abbrev IsAtom : Atom → Type 0
IsAtom (A.Variable k) = IsSmall k
IsAtom (A.Number n) = IsInRange n

each_join : {X : Type 0} (P : X → Type 0) (xs ys : List X) → Each P xs → Each P ys → Each P (xs ++ ys)
each_join P [] ys h k = k
each_join P (x ∷ xs) ys (hx, h) k = (hx, each_join P xs ys h k)

pub each_get : {X : Type 0} (P : X → Type 0) (xs : List X) (k : ℕ) (x : X) → Each P xs → slice_get xs k ≡ Some x → P x
each_get P [] k x h e = absurd (cc)
each_get P (y ∷ xs) zero x (hy, h) e = subst P (same_Some y x e) hy
each_get P (y ∷ xs) (suc k) x (hy, h) e = each_get P xs k x h e

u32_range : (mag : ℕ) → mag < 2 ^ 32 → in_range U32 (pos mag) ≡ true
unfolding limit
u32_range mag h = lt-ltb mag (2 ^ 32) h

number_range : (n : Number) → IsU32 n → IsInRange n
number_range n h = subst IsInRange (sym h.same) (u32_range h.mag h.small)

module _ (defs : Defs) where
  term_is : (a : Atom) → IsAtom a → IsTerm defs (term_of a)
  term_is (A.Variable k) h = h
  term_is (A.Number n) h = h

  -- computations that are numbered from n on
  chain_is : (n : ℕ) (comps : List Comp) (rest : c.Code) → n + length comps ≤ 2 ^ 32 → Each (IsComp defs) comps → IsCode defs rest → IsCode defs (chain n comps rest)
  chain_is n [] rest le h k = k
  chain_is n (x ∷ comps) rest le (hx, h) k = (omega arith, hx, chain_is (n + 1) comps rest (omega arith) h k)

  record IsEmitted (e : Emitted) : Type 0 where
    comps : Each (IsComp defs) e.comps
    atom : IsAtom e.atom

  record AreEmitted (count : ℕ) (e : EmittedAll) : Type 0 where
    comps : Each (IsComp defs) e.comps
    parts : AreTerms defs (t.terms e.parts)
    size : length e.parts ≡ count

  module _ (earlier : List Function) (called_ : (f : ℕ) (g : Function) → slice_get earlier f ≡ Some g → parameters_count defs f ≡ Some g.parameters) where
    mutual
      expression_is : (e : Expr) (n : ℕ) (atoms : List Atom) → Each IsAtom atoms → IsTypedExpr earlier (length atoms) e →
          n + length (emit n atoms e).comps < 2 ^ 32 → IsEmitted (emit n atoms e)
      expression_is (number s k) n atoms h typed small = record { comps = tt; atom = number_range k typed }
      expression_is (variable s k) n atoms h typed small =
          let is = slice_get-get_or atoms k (A.Variable 0) typed in
          record {
            comps = tt;
            atom = subst (λ (o : Option Atom). IsAtom (known o)) (sym is) (each_get IsAtom atoms k (get_or atoms k (A.Variable 0)) h is);
          }
      expression_is (binary s op a b) n atoms h (is_add, ta, tb) small =
          let left = emit n atoms a in
          let m = n + length left.comps in
          let right = emit m atoms b in
          let l1 = length-append (left.comps ++ right.comps) (operation op left.atom right.atom ∷ []) in
          let l2 = length-append left.comps right.comps in
          let first = expression_is a n atoms h ta (omega arith) in
          let second = expression_is b m atoms h tb (omega arith) in
          record {
            comps = each_push (IsComp defs) (left.comps ++ right.comps) (operation op left.atom right.atom)
                (each_join (IsComp defs) left.comps right.comps first.comps second.comps)
                (tt, refl, (term_is left.atom first.atom, (term_is right.atom second.atom, tt)));
            atom = omega arith;
          }
      expression_is (call s f args) n atoms h (callee, typed) small =
          let all = emit_all n atoms args in
          let last = C.Call (record { 0 = f }) all.parts in
          let l1 = length-append all.comps (last ∷ []) in
          let rest = arguments_are args n atoms h typed (omega arith) in
          record {
            comps = each_push (IsComp defs) all.comps last rest.comps
                (called_ f callee.callee callee.found ∙ ap Some (callee.arity ∙ sym rest.size), rest.parts);
            atom = omega arith;
          }

      arguments_are : (es : Exprs) (n : ℕ) (atoms : List Atom) → Each IsAtom atoms → AreTypedExprs earlier (length atoms) es →
          n + length (emit_all n atoms es).comps < 2 ^ 32 → AreEmitted (length (exprs_list es)) (emit_all n atoms es)
      arguments_are no_exprs n atoms h typed small = record { comps = tt; parts = tt; size = refl }
      arguments_are (more_exprs e es) n atoms h (te, ts) small =
          let first = emit n atoms e in
          let m = n + length first.comps in
          let rest = emit_all m atoms es in
          let l1 = length-append first.comps rest.comps in
          let one = expression_is e n atoms h te (omega arith) in
          let more = arguments_are es m atoms h ts (omega arith) in
          record {
            comps = each_join (IsComp defs) first.comps rest.comps one.comps more.comps;
            parts = (term_is first.atom one.atom, more.parts);
            size = ap suc more.size;
          }

    body_is : (stmts : Stmts) (final : MaybeExpr) (n : ℕ) (atoms : List Atom) (total : ℕ) → Each IsAtom atoms → IsTypedBody earlier total (length atoms) stmts final →
        n + length (emit_body n atoms stmts final).comps < 2 ^ 32 → IsEmitted (emit_body n atoms stmts final)
    body_is no_stmts no_maybeexpr n atoms total h typed small = absurd typed
    body_is no_stmts (some_maybeexpr e) n atoms total h (all, typed) small =
        expression_is e n atoms h (subst (λ (k : ℕ). IsTypedExpr earlier k e) (sym all) typed) small
    body_is (more_stmts (bind s k e) rest) final n atoms total h (is, typed, after) small =
        let first = emit n atoms e in
        let m = n + length first.comps in
        let more = emit_body m (atoms ++ first.atom ∷ []) rest final in
        let l1 = length-append first.comps more.comps in
        let len = length-append atoms (first.atom ∷ []) in
        let count : length atoms + 1 ≡ length (atoms ++ first.atom ∷ []) = omega arith in
        let one = expression_is e n atoms h typed (omega arith) in
        let then_ = body_is rest final m (atoms ++ first.atom ∷ []) total (each_push IsAtom atoms first.atom h one.atom)
        (subst (λ (j : ℕ). IsTypedBody earlier total j rest final) count after) (omega arith) in
        record { comps = each_join (IsComp defs) first.comps more.comps one.comps then_.comps; atom = then_.atom }

    block_is : (b : Block) (n : ℕ) (atoms : List Atom) (total : ℕ) → Each IsAtom atoms → IsTypedBlock earlier total (length atoms) b →
        n + length (emit_block n atoms b).comps < 2 ^ 32 → IsEmitted (emit_block n atoms b)
    block_is (block s stmts final) n atoms total h typed small = body_is stmts final n atoms total h typed small

range_small : (from n : ℕ) → from + n ≤ 2 ^ 32 → Each IsAtom (map A.Variable (range_with_len from n))
range_small from zero h = tt
range_small from (suc n) h = (omega arith, range_small (from + 1) n (omega arith))

replicate_types : (defs : Defs) (n : ℕ) → Each (IsType defs 0) (replicate n u32_type)
replicate_types defs zero = tt
replicate_types defs (suc n) = (tt, replicate_types defs n)

definition_is : (defs : Defs) (earlier : List Function) → ((j : ℕ) (g : Function) → slice_get earlier j ≡ Some g → parameters_count defs j ≡ Some g.parameters) →
    (k : ℕ) (f : Function) → IsTypedFunction earlier f → IsNumbered f → IsDefinition defs (definition k f)
definition_is defs earlier called_ k f typed small =
    let len = length-map-range_with_len A.Variable 0 f.parameters in
    let count = length-replicate f.parameters u32_type in
    let body = block_is defs earlier called_ f.body f.parameters (parameter_atoms f.parameters) (length f.variables)
    (range_small 0 f.parameters (omega arith))
    (subst (λ (j : ℕ). IsTypedBlock earlier (length f.variables) j f.body) (sym len) typed.body) small in
    record {
      kind = tt;
      type_params = ((tt, tt), tt);
      count = omega arith;
      params = replicate_types defs f.parameters;
      result = tt;
      code = chain_is defs f.parameters (emitted f).comps (c.last (C.Ok (term_of (emitted f).atom))) (omega arith) body.comps
          (term_is defs (emitted f).atom body.atom);
    }

definitions_are : (defs : Defs) (earlier fs : List Function) →
    ((j : ℕ) (g : Function) → slice_get (earlier ++ fs) j ≡ Some g → parameters_count defs j ≡ Some g.parameters) →
    (k : ℕ) → AreTyped earlier fs → AreNumbered fs → Each (IsDefinition defs) (definitions k fs)
definitions_are defs earlier [] called_ k typed small = tt
definitions_are defs earlier (f ∷ fs) called_ k (typed, rest) (sf, small) = (
  definition_is defs earlier (λ j g e. called_ j g (get_left_some earlier (f ∷ fs) j g e)) k f typed sf,
  definitions_are defs (earlier ++ f ∷ []) fs
      (λ j g e. called_ j g (ap (λ l. slice_get l j) (sym (append_assoc earlier (f ∷ []) fs)) ∙ e)) (k + 1) rest small,
)

pub well_formed : (p : Program) → IsTyped p → AreNames (map (λ (f : Function). f.name) p.functions) → AreNumbered p.functions → IsWellFormed (translation p)
well_formed p typed names small = record {
  types_named = (tt, tt);
  types = tt;
  functions_named = names;
  order = in_order 0 p.functions (length (map (λ (f : Function). f.name) p.functions))
      (let len = length-map p.functions (λ (f : Function). f.name) in omega arith);
  kinds = kinds_differ 0 p.functions;
  definitions = definitions_are (translation p) [] p.functions
      (λ j g e. ap (λ o. option_map (λ (d : Def). length d.params) o) (definitions_get 0 p.functions j g j (omega arith) e)
      ∙ ap Some (length-replicate g.parameters u32_type))
      0 typed small;
}
