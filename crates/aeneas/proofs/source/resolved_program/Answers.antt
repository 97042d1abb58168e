-- The names of the functions are names, and differ.
use Rattle.std.proofs.Common.{sym, subst}
use Rattle.text_meaning.specs.Lists.{Differ}
use Rattle.aeneas.proofs.Sources.{few_same, differ_same}
use Rattle.rust_names.specs.Naming.{function_names}
use Rattle.aeneas.proofs.source.resolved_program.Goals as goal

pub sums_of-requires : goal.sums_of-requires
sums_of-requires c = record { few = few_same c.args.resolved.now.functions c.requires.few }

pub returns-in-Ok : goal.returns-in-Ok
returns-in-Ok c =
    let h = c.in-Ok.ensures in
    record {
      sums = h.value;
      typed = h.typed;
      names = (h.named, subst Differ (sym h.names) (differ_same (function_names c.args.resolved.now.functions) c.requires.differ));
    }
