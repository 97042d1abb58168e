use Rattle.std.proofs.Common.{◌≡◌, ◌∙◌, sym, ap, subst, arith, drop, Some, None, IsUtf8}
use Rattle.rust_lex.specs.Scan.{identifier_length}
use Rattle.rust_lex.proofs.IdentifierLemmas.{end_found, end_none}
use Rattle.rust_lex.proofs.identifiers.ident_end.Goals as goal

pub overflow_add-result : goal.overflow_add-result
overflow_add-result c =
    let e : identifier_length (drop c.args.at c.args.text.now) ≡ Some c.in-Some.count = sym (c.identifier_length.ensures ∙ ap identifier_length c.skip.ensures) ∙ c.in-Some.is in
    let r = end_found c.args.text.now c.args.at c.in-Some.count c.requires.0 (subst IsUtf8 c.skip.ensures c.skip.utf8) e in
    let w = r.within in
    omega arith

pub returns-in-Some : goal.returns-in-Some
returns-in-Some c =
    let e : identifier_length (drop c.args.at c.args.text.now) ≡ Some c.in-Some.count = sym (c.identifier_length.ensures ∙ ap identifier_length c.skip.ensures) ∙ c.in-Some.is in
    end_found c.args.text.now c.args.at c.in-Some.count c.requires.0 (subst IsUtf8 c.skip.ensures c.skip.utf8) e

pub returns-in-None : goal.returns-in-None
returns-in-None c m a k =
    let e : identifier_length (drop c.args.at c.args.text.now) ≡ None = sym (c.identifier_length.ensures ∙ ap identifier_length c.skip.ensures) ∙ c.in-None.is in
    end_none c.args.text.now c.args.at e m a k
