use Rattle.std.proofs.Common.{◌≡◌, ◌-◌, List, [], ◌∷◌, ◌++◌, length, take, ap, sym, subst, ◌∙◌}
use Rattle.std.specs.Str.{bytes_eq}
use Rattle.std.proofs.lemmas.Slice.Eq.{bytes_eq-Decides}
use Rattle.indexmap.specs.IndexMap.{get}
use Rattle.name_uses.specs.Hiding.{pair, pairs, Hide}
use Rattle.name_uses.specs.Scopes.{variable_of}
use Rattle.name_uses.specs.declared.scope.InScope.{InScope}
use Rattle.name_uses.proofs.ScopeTables.{table_less, hide_less, pairs_more, without_last}
use Rattle.name_uses.proofs.scope.Scope.without_last.Goals as goal

pub invariant_of-result-in-Some : goal.invariant_of-result-in-Some
invariant_of-result-in-Some c =
    let names : List InScope = c.pop.new.self in
    let last : InScope = c.in-Some.last in
    let were : c.self.inside.names ≡ names ++ last ∷ [] = c.in-Some.ensures in
    let hide = hide_less [] names last (subst (Hide []) were c.self.invariant.1) in (
      table_less (get bytes_eq c.self.inside.table) (get bytes_eq c.insert.new.self) (pairs names) last.name last.variable last.hides (λ a b h. (bytes_eq-Decides a b).0 h)
          c.in_ok-insert-in-Some.ensures.updates.0 (λ w. c.self.invariant.0 w ∙ ap (λ xs. variable_of (pairs xs) w) were ∙ ap (λ ns. variable_of ns w) (pairs_more names last)) hide.1,
      hide.0,
    )

pub returns-in_ok-insert-in-Some : goal.returns-in_ok-insert-in-Some
returns-in_ok-insert-in-Some c =
    let names : List InScope = c.pop.new.self in
    let last : InScope = c.in-Some.last in
    let were : c.args.self ≡ pairs names ++ pair last ∷ [] = sym c.self.view_is ∙ ap pairs c.in-Some.ensures ∙ pairs_more names last in
    sym (ap (λ ns. take (length ns - 1) ns) were ∙ without_last (pairs names) (pair last))

pub invariant_of-result : goal.invariant_of-result
invariant_of-result c =
    let e : c.self.inside.names ≡ c.pop.new.self = c.in-None.ensures.0 ∙ sym c.in-None.ensures.1 in
    (λ w. c.self.invariant.0 w ∙ ap (λ xs. variable_of (pairs xs) w) e, subst (Hide []) e c.self.invariant.1)

pub returns-in-None : goal.returns-in-None
returns-in-None c =
    ap pairs c.in-None.ensures.1 ∙ sym (ap (λ ns. take (length ns - 1) ns) (sym c.self.view_is ∙ ap pairs c.in-None.ensures.0))
