-- What typing gives for the patterns of a match, or of a `let`, suits the type of what it looks at.
use Rattle.std.proofs.Common.{◌≡◌, List, [], ◌∷◌, refl, subst}
use Rattle.std.specs.Prelude.{Ok, Option, Some}
use Rattle.core_ty.specs.declared.decl.TypeDecl.{TypeDecl}
use Rattle.type_cover.specs.Suits.{PatternsSuit}
use Rattle.type_rules.specs.Binding.{Met}
use Rattle.type_rules.specs.Bodies.{part, read, read_arms}
use Rattle.type_rules.specs.Branches.{Arms, joined, meeting, patterns_of, scrutinee_type}
use Rattle.type_rules.specs.Expecting.{for_arm}
use Rattle.type_rules.specs.Forms.{Expected}
use Rattle.type_rules.specs.Operands.{value_of}
use Rattle.type_rules.specs.Patterns.{pattern}
use Rattle.type_rules.specs.States.{with_types}
use Rattle.type_rules.specs.declared.state.Scope.{Scope}
use Rattle.type_rules.specs.declared.state.State.{State}
use Rattle.type_suits.specs.Steps.{ok_is, passed}
use Rattle.type_suits.specs.Suiting.{pattern_suits}
use Rattle.rust_ast.specs.Patterns as p
use Rattle.rust_ast.specs.Resolved as e
use Rattle.rust_ast.specs.Spelled as s
use Rattle.rust_ast.specs.SpelledPatterns as q
use Rattle.core_ty.specs.Types as t

-- one pattern that meets this type
pub one_suits : (ds : List TypeDecl) (y : p.Pat) (m : Met) (ts : List t.Ty) (b : q.Pat) (ts2 : List t.Ty) (x : t.Ty) → pattern ds y m ts ≡ Ok (b, ts2) → m.part ≡ Some x → PatternsSuit ds (b ∷ []) x
one_suits ds y m ts b ts2 x h part = (pattern_suits ds y ts m x (b, ts2) part h, tt)

pub arms_suit : (c : Scope) (arms : e.Arms) (k : s.Scrutinee) (x : Expected) (found : Option t.Ty) (st : State) (r : Arms) →
    read_arms c arms k x found st ≡ Ok r → PatternsSuit c.decls (patterns_of r.arms) (scrutinee_type k)
arms_suit c e.no_arms k x found st r h = subst (λ z. PatternsSuit c.decls (patterns_of z.arms) (scrutinee_type k)) (ok_is h) tt
arms_suit c (e.more_arms y a rest) k x found st r h =
    let w = passed (pattern c.decls y (meeting k) st.types) _ r h in
    let v = passed (value_of (part a (read c a)) (for_arm x found) (with_types st w.0.1)) _ r w.1.1 in
    let l = passed (read_arms c rest k x (joined found v.0.0) v.0.1) _ r v.1.1 in
    subst (λ z. PatternsSuit c.decls (patterns_of z.arms) (scrutinee_type k)) (ok_is l.1.1)
    (pattern_suits c.decls y st.types (meeting k) (scrutinee_type k) w.0 refl w.1.0, arms_suit c rest k x (joined found v.0.0) v.0.1 l.0 l.1.0)
