-- What typing gives suits what it meets, as laws.
use Rattle.std.specs.Prelude.{◌≡◌, Ok, Option, Some, List}
use Rattle.core_ty.specs.declared.decl.TypeDecl.{TypeDecl}
use Rattle.type_cover.specs.Suits.{PatternsSuit, Suits}
use Rattle.type_rules.specs.Binding.{Met}
use Rattle.type_rules.specs.Bodies.{read_arms}
use Rattle.type_rules.specs.Branches.{Arms, patterns_of, scrutinee_type}
use Rattle.type_rules.specs.Forms.{Expected}
use Rattle.type_rules.specs.Patterns.{pattern}
use Rattle.type_rules.specs.declared.state.Scope.{Scope}
use Rattle.type_rules.specs.declared.state.State.{State}
use Rattle.rust_ast.specs.Patterns as p
use Rattle.rust_ast.specs.Resolved as e
use Rattle.rust_ast.specs.Spelled as s
use Rattle.rust_ast.specs.SpelledPatterns as q
use Rattle.core_ty.specs.Types as t

abbrev pub PatternSuits : Type 0
PatternSuits = (ds : List TypeDecl) (y : p.Pat) (m : Met) (ts : List t.Ty) (b : q.Pat) (ts2 : List t.Ty) (x : t.Ty) → m.part ≡ Some x → pattern ds y m ts ≡ Ok (b, ts2) → Suits ds b (Some x)

abbrev pub ArmsSuit : Type 0
ArmsSuit = (c : Scope) (arms : e.Arms) (k : s.Scrutinee) (x : Expected) (found : Option t.Ty) (st : State) (r : Arms) →
    read_arms c arms k x found st ≡ Ok r → PatternsSuit c.decls (patterns_of r.arms) (scrutinee_type k)
