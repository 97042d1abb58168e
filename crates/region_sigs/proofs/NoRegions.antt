-- Where lifetimes mean nothing no region lacks.
use Rattle.std.proofs.Common.{◌≡◌, ℕ, List, [], ◌∷◌, ap}
use Rattle.std.specs.Prelude.{Bool, true, false, not, ◌==◌, length, slice_get, unwrap_or, Result, Ok, Err, Option, Some, None}
use Rattle.aen_base.specs.declared.span.Span.{Span}
use Rattle.core_ty.specs.declared.decl.TypeDecl.{TypeDecl}
use Rattle.region_sigs.specs.Gives.{Gives, NeverNoRegion}
use Rattle.region_sigs.specs.declared.fault.RegionFault.{RegionFault}
use Rattle.region_sigs.specs.declared.fault.RegionFault.TheVariants as code
use Rattle.core_ty.specs.Types as t
use Rattle.rust_ast.specs.Written as w
use Rattle.rust_ast.specs.declared.resolution.Declared.{Declared}
use Rattle.type_rules.specs.Declarations.{fields_written, variants_written, declarations}
use Rattle.type_rules.specs.Faults.{Fault, at, too_large, and_then, refuse, limited}
use Rattle.type_rules.specs.TypeFacts.{is_large}
use Rattle.type_rules.specs.WrittenTypes.{plain, as_type, to_region, written, written_all}
use Rattle.type_rules.specs.declared.fault.KindOfFault.{KindOfFault}
use Rattle.type_rules.specs.declared.fault.KindOfFault.TheVariants.{NestedBorrow, NoRegion, Arity}

abbrev fault_in : {A : Type 0} → Result A Fault → Option Fault
fault_in (Ok a) = None
fault_in (Err x) = Some x

abbrev Other : Option Fault → Type 0
Other o = (s : Span) → o ≡ Some (at s NoRegion) → ⊥

nothing : Other None
nothing s e = absurd cc

large : Other (Some too_large)
large s e = absurd cc

nested : (p : Span) → Other (Some (at p NestedBorrow))
nested p s e = absurd cc

wrong_number : (p : Span) → Other (Some (at p Arity))
wrong_number p s e = absurd cc

after : {A B : Type 0} (o : Result A Fault) (f : A → Result B Fault) → Other (fault_in o) → ((a : A) → Other (fault_in (f a))) → Other (fault_in (and_then o f))
after (Ok a) f h k = k a
after (Err x) f h k = h

refused : {A : Type 0} (b : Bool) (p : Span) (kind : KindOfFault) (r : Result A Fault) → Other (Some (at p kind)) → Other (fault_in r) → Other (fault_in (refuse b p kind r))
refused true p kind r h k = h
refused false p kind r h k = k

within : {A : Type 0} (b : Bool) (a : A) → Other (fault_in (limited b (Ok a)))
within true a = large
within false a = nothing

counted : (x : t.Ty) (next : ℕ) → Other (fault_in (as_type x next))
counted x next = within (is_large x) (x, next)

mutual
  in_type : (ns : List ℕ) (inside : Bool) (x : w.Written) (next : ℕ) → Other (fault_in (written ns plain inside x next))
  in_type ns inside (w.int s i) next = counted (t.int i) next
  in_type ns inside (w.bool s) next = counted t.bool next
  in_type ns inside (w.unit s) next = counted t.unit next
  in_type ns inside (w.tuple s xs) next = after (written_all ns plain inside xs next) _ (in_types ns inside xs next) (λ r. counted (t.tuple r.0) r.1)
  in_type ns inside (w.boxed s x) next = after (written ns plain true x next) _ (in_type ns true x next) (λ r. counted (t.boxed r.0) r.1)
  in_type ns inside (w.ref s l m x) next = after (written ns plain true x next) _ (in_type ns true x next) (λ r. refused inside s NestedBorrow (as_type (t.ref (to_region (Some 0)) m r.0) r.1) (nested s) (counted (t.ref (to_region (Some 0)) m r.0) r.1))
  in_type ns inside (w.named s d xs) next = after (written_all ns plain true xs next) _ (in_types ns true xs next) (λ r. refused (not (length (t.tys_list r.0) == unwrap_or (slice_get ns d.0) 0)) s Arity (as_type (t.named d r.0) r.1) (wrong_number s) (counted (t.named d r.0) r.1))
  in_type ns inside (w.param s k xs) next = after (written_all ns plain true xs next) _ (in_types ns true xs next) (λ r. refused (not (length (t.tys_list r.0) == 0)) s Arity (as_type (t.param k) r.1) (wrong_number s) (counted (t.param k) r.1))

  in_types : (ns : List ℕ) (inside : Bool) (xs : w.Writtens) (next : ℕ) → Other (fault_in (written_all ns plain inside xs next))
  in_types ns inside w.no_writtens next = nothing
  in_types ns inside (w.more_writtens x xs) next = after (written ns plain inside x next) _ (in_type ns inside x next) (λ r. after (written_all ns plain inside xs r.1) _ (in_types ns inside xs r.1) (λ q. nothing))

in_fields : (ns : List ℕ) (fs : List (List ℕ × w.Written)) → Other (fault_in (fields_written ns fs))
in_fields ns [] = nothing
in_fields ns (f ∷ fs) = after (written ns plain true f.1 0) _ (in_type ns true f.1 0) (λ r. after (fields_written ns fs) _ (in_fields ns fs) (λ q. nothing))

in_variants : (ns : List ℕ) (vs : List (List ℕ × List (List ℕ × w.Written))) → Other (fault_in (variants_written ns vs))
in_variants ns [] = nothing
in_variants ns (v ∷ vs) = after (fields_written ns v.1) _ (in_fields ns v.1) (λ fs. after (variants_written ns vs) _ (in_variants ns vs) (λ q. nothing))

in_declarations : (ns : List ℕ) (ds : List Declared) → Other (fault_in (declarations ns ds))
in_declarations ns [] = nothing
in_declarations ns (d ∷ ds) = after (variants_written ns d.variants) _ (in_variants ns d.variants) (λ vs. after (declarations ns ds) _ (in_declarations ns ds) (λ q. nothing))

pub never : (ns : List ℕ) (ds : List Declared) (o : Result (List TypeDecl) RegionFault) → Gives (declarations ns ds) o → NeverNoRegion o
never ns ds (Ok x) h = tt
never ns ds (Err (code.NoRegion p)) h = in_declarations ns ds p (ap fault_in h)
never ns ds (Err (code.NestedBorrow p)) h = tt
never ns ds (Err (code.Arity p)) h = tt
never ns ds (Err (code.Limit w n)) h = tt
never ns ds (Err code.Memory) h = tt
