-- The pieces of a definition, one after another.
use Rattle.std.proofs.Common.{string_bytes}
use Rattle.std.specs.Prelude.{codes}
use Rattle.text_meaning.specs.Shown.{binders_text}
use Rattle.text_meaning.specs.ShownCode.{code_text}
use Rattle.text_meaning.specs.ShownNames.{kind_text}
use Rattle.text_meaning.specs.ShownTypes.{type_text}
use Rattle.lean_printer.proofs.Joins.{head_and_rest}
use Rattle.lean_printer.proofs.definitions.put_definition.Goals as goal

pub returns : goal.returns
returns c =
    let defs = c.args.defs.now in
    let def = c.args.def.now in
    head_and_rest (string_bytes c.args.out.now) (codes "\ndef ") (kind_text defs def.kind) (binders_text defs def) (codes " : Result ")
    (type_text defs def.type_params def.result) (codes " :=\n  match n with\n  | 0 => outOfFuel\n  | n + 1 => do") (code_text defs 4 def.code) (codes "\n")
    _ _ _ _ c.in_ok-put_signature.ensures c.in_ok-put.ensures c.in_ok-put_code.ensures c.in_ok-put-2.ensures
