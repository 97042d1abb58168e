-- What is printed so far and what is left are the whole.
use Rattle.std.proofs.Common.{◌≡◌, ◌++◌, drop, string_bytes}
use Rattle.std.specs.List.{flat_map}
use Rattle.text_meaning.specs.Shown.{declaration_text}
use Rattle.lean_printer.proofs.declarations.put_declarations.Given as goal

abbrev pub invariant-loop-decl : goal.invariant-loop-decl
invariant-loop-decl l = string_bytes l.out ++ flat_map (declaration_text l.defs) (drop l.decl-index l.decls) ≡ string_bytes l.fn.out ++ flat_map (declaration_text l.defs) l.decls
