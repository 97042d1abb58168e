use Rattle.std.proofs.Common.{◌≡◌, List, [], ◌∷◌, ◌++◌, ap, sym, subst, ◌∙◌}
use Rattle.std.specs.Str.{bytes_eq}
use Rattle.indexmap.specs.IndexMap.{get}
use Rattle.name_uses.specs.Hiding.{pair, pairs, Hide}
use Rattle.name_uses.specs.Scopes.{variable_of}
use Rattle.name_uses.specs.declared.scope.InScope.{InScope}
use Rattle.name_uses.proofs.ScopeTables.{table_more, hide_more, pairs_more}
use Rattle.name_uses.proofs.scope.Scope.with.Goals as goal

pub invariant_of-result : goal.invariant_of-result
invariant_of-result c =
    let names : List InScope = c.self.inside.names in
    let last : InScope = record { name = c.in_ok-own.own; variable = c.args.variable; hides = c.find-hides.result } in
    let behind : c.push.new.self ≡ names ++ last ∷ [] = c.in_ok-push.ensures.ok in
    let more : pairs c.push.new.self ≡ pairs names ++ pair last ∷ [] = ap pairs behind ∙ pairs_more names last in
    let key : c.in_ok-key.key ≡ c.in_ok-own.own = c.in_ok-key.ensures ∙ sym c.in_ok-own.ensures in
    let hides : c.find-hides.result ≡ variable_of (pairs names) c.in_ok-own.own =
    c.find-hides.ensures ∙ ap (λ ns. variable_of ns c.args.name.now) (sym c.self.view_is) ∙ ap (variable_of (pairs names)) (sym c.in_ok-own.ensures) in (
      λ w. table_more (get bytes_eq c.self.inside.table) (get bytes_eq c.insert.new.self) (pairs names) c.in_ok-own.own c.in_ok-key.key c.args.variable key c.in_ok-insert.ensures.updates.0 c.self.invariant.0 w
          ∙ ap (λ ns. variable_of ns w) (sym more),
      subst (Hide []) (sym behind) (hide_more [] names last c.self.invariant.1 hides),
    )

pub returns : goal.returns
returns c =
    let names : List InScope = c.self.inside.names in
    let last : InScope = record { name = c.in_ok-own.own; variable = c.args.variable; hides = c.find-hides.result } in
    ap pairs c.in_ok-push.ensures.ok ∙ pairs_more names last ∙ ap (λ ns. ns ++ (c.in_ok-own.own, c.args.variable) ∷ []) c.self.view_is ∙ ap (λ n. c.args.self ++ (n, c.args.variable) ∷ []) c.in_ok-own.ensures
