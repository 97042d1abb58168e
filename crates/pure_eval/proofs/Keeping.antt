-- Well-formed definitions give atoms on atoms.
use Rattle.std.proofs.Common.{◌≡◌, ℕ, zero, suc, List, Option, Some, None, refl, subst}
use Rattle.std.specs.Prelude.{slice_get}
use Rattle.pure_ast.specs.declared.def.Def.{Def}
use Rattle.pure_ast.specs.declared.def.Defs.{Defs}
use Rattle.pure_ast.specs.Values.{PValue}
use Rattle.text_meaning.specs.declared.Answer.TheVariants as A
use Rattle.text_meaning.specs.Atoms.{IsAtom}
use Rattle.text_meaning.specs.Environment.{arguments}
use Rattle.text_meaning.specs.Evaluate.{Calls, entered, without_fuel, evaluate, evaluate_empty, evaluate_more}
use Rattle.text_meaning.specs.Lists.{Each}
use Rattle.text_meaning.specs.WellFormed.{IsWellFormed, IsDefinition}
use Rattle.pure_eval.proofs.Kept.{GivesAtom, each_at, numbered_atoms}
use Rattle.pure_eval.proofs.KeptCode.{KeepAtoms, code_atom}

empty_atom : (d : Defs) (o : Option Def) → GivesAtom d (without_fuel o)
empty_atom d None = tt
empty_atom d (Some e) = tt

entered_atom : (d : Defs) (calls : Calls) (k : ℕ) (o : Option Def) (values : List PValue) → IsWellFormed d → KeepAtoms d calls → slice_get d.defs k ≡ o →
    Each (IsAtom d) values → GivesAtom d (entered calls o values)
entered_atom d calls k None values w keep e h = tt
entered_atom d calls k (Some x) values w keep e h =
    let fine = each_at (IsDefinition d) d.defs k x w.definitions e in
    code_atom d calls keep x.code (arguments values) (numbered_atoms d 0 values h) fine.code

-- calls with any fuel
evaluate_atom : (d : Defs) → IsWellFormed d → (n : ℕ) → KeepAtoms d (λ k values. evaluate d k values n)
evaluate_atom d w zero k values h = rw (evaluate_empty d k values) (empty_atom d (slice_get d.defs k))
evaluate_atom d w (suc n) k values h =
    rw (evaluate_more d k values n)
    (entered_atom d (λ e parts. evaluate d e parts n) k (slice_get d.defs k) values w (evaluate_atom d w n) refl h)

-- a value that well-formed definitions give on atoms is an atom
pub kept : (d : Defs) → IsWellFormed d → (n k : ℕ) (values : List PValue) → Each (IsAtom d) values →
    (a : PValue) → evaluate d k values n ≡ A.Ok a → IsAtom d a
kept d w n k values h a e = subst (GivesAtom d) e (evaluate_atom d w n k values h)
