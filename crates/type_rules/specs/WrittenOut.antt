-- What is written out where a value is taken: copies and moves, reborrows, dereferences of boxes
-- (LANGUAGE.md, "Written out").
use Rattle.std.specs.Prelude.{Bool, true, false, Result, Ok, Err, not, ◌&&◌, if◌then◌else◌}
use Rattle.aen_base.specs.declared.span.Span.{Span}
use Rattle.type_rules.specs.Expecting.{is_mismatch}
use Rattle.type_rules.specs.Faults.{Fault, and_then, at, refuse}
use Rattle.type_rules.specs.Forms.{Expected, want, Raw, stands, held}
use Rattle.type_rules.specs.Places.{Answer, is_endless, raw_type, used}
use Rattle.type_rules.specs.TypeFacts.{no_region, same}
use Rattle.type_rules.specs.declared.fault.KindOfFault.TheVariants.{Mismatch}
use Rattle.type_rules.specs.declared.state.State.{State}
use Rattle.rust_ast.specs.Spelled as s
use Rattle.core_ty.specs.Types as t

-- where the wanted type stands in a place of a type: through as few boxes as go
abbrev pub unboxed : t.Ty → t.Ty → s.Place → s.Place
unboxed (t.boxed i) q place = if same (t.boxed i) q then place else unboxed i q (s.unbox place)
unboxed x q place = place

-- where the content of a reference value stands: of `&p` and `&mut p` at p
abbrev pub content_of : Bool → s.Val → s.Place
content_of true (s.value x never p (s.borrow true q)) = q
content_of false (s.value x never p (s.borrow false q)) = q
content_of m v = s.through_value v

abbrev pub same_kind : Bool → Bool → Bool
same_kind true m = m
same_kind false m = not m

-- the reborrow `&**e` or `&mut **e` of a type q in a reference's content b: not written where a
-- value is of the kind already, nor for a place of type `&q` where & is wanted
abbrev pub reborrow : Span → Bool → t.Ty → Bool → t.Ty → Raw → s.Val
reborrow p m q m2 b (stands place x w) =
    if same b q && (not m && not m2)
    then s.value x false p (s.use_of place true)
    else s.value (t.ref no_region m q) false p (s.borrow m (unboxed b q (s.through place)))
reborrow p m q m2 b (held v) =
    if same b q && same_kind m m2
    then v
    else s.value (t.ref no_region m q) false p (s.borrow m (unboxed b q (content_of m v)))

-- what is written where & or &mut to q is wanted and this stands, of a reference type
abbrev pub reborrowed : Span → Bool → t.Ty → Raw → t.Ty → Result s.Val Fault
reborrowed p m q r (t.ref a m2 b) = Ok (reborrow p m q m2 b r)
reborrowed p m q r x = Err (at p Mismatch)

-- a value of it, where a type is expected that fits
abbrev pub written_out : Expected → Span → Raw → Result s.Val Fault
written_out (want (t.ref a m q)) p r = reborrowed p m q r (raw_type r)
written_out x p r = used p r

-- a value of it, compared with what is expected; what has every type isn't compared
abbrev pub as_value : Expected → Span → Raw → Result s.Val Fault
as_value x p r =
    if is_endless r then used p r
    else refuse (is_mismatch x (raw_type r)) p Mismatch (written_out x p r)

-- the same for the answer of an expression
abbrev pub finished : Expected → Span → Answer → Result (s.Val × State) Fault
finished x p answer = and_then answer (λ r. and_then (as_value x p r.0) (λ v. Ok (v, r.1)))
