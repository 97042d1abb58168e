-- The lists of types, parameters, fields, variants and declarations, item by item.
use Rattle.std.proofs.Common.{◌≡◌, ℕ, zero, suc, ◌<◌, List, [], ◌∷◌, length, get_or, refl, ap, ◌∙◌, arith}
use Rattle.std.specs.Prelude.{Bool, false, true, Result, Ok, Err, Option, Some, None, map, slice_get, unwrap_or}
use Rattle.core_ty.specs.Types as t
use Rattle.core_ty.specs.declared.decl.TypeDecl.{TypeDecl}
use Rattle.core_ty.specs.declared.decl.Variant.{Variant}
use Rattle.region_sigs.specs.Gives.{Gives, GivesAs}
use Rattle.region_sigs.specs.Walks.{each_onto, walk_onto, on_ok, in_tys, field_written, variant_written, declaration}
use Rattle.region_sigs.specs.declared.fault.RegionFault.{RegionFault}
use Rattle.region_sigs.proofs.Failing.{passes}
use Rattle.region_sigs.proofs.Walking.{together, each_gives, walk_gives}
use Rattle.rust_ast.specs.Written as w
use Rattle.rust_ast.specs.declared.resolution.Declared.{Declared}
use Rattle.type_rules.specs.Declarations.{parameter_numbers, fields_written, variants_written, declarations}
use Rattle.type_rules.specs.Faults.{Fault, and_then}
use Rattle.type_rules.specs.Signatures.{parameters_written}
use Rattle.type_rules.specs.TypesInBodies.{numbers}
use Rattle.type_rules.specs.WrittenTypes.{Standing, plain, input, Typing, written, written_all}

-- ---- types in a list have fewer nodes than the list

pub type_item : (xs : List t.Ty) (i : ℕ) (x : t.Ty) → i < length xs → x ≡ get_or xs i x → t.nodes_ty x < t.nodes_tys (t.tys xs)
type_item [] i x h e = absurd (omega arith)
type_item (y ∷ ys) zero x h e = rw e (omega arith)
type_item (y ∷ ys) (suc i) x h e = omega (arith, type_item ys i x (omega arith) e)

pub written_item : (xs : List w.Written) (i : ℕ) (x : w.Written) → i < length xs → x ≡ get_or xs i x → w.nodes_written x < w.nodes_writtens (w.writtens xs)
written_item [] i x h e = absurd (omega arith)
written_item (y ∷ ys) zero x h e = rw e (omega arith)
written_item (y ∷ ys) (suc i) x h e = omega (arith, written_item ys i x (omega arith) e)

-- ---- how many parameters a declared type has

-- a number of each item of a list, where the item is or isn't
module _ {A : Type 0} (size : A → ℕ) where
  none_of : (xs : List A) (k : ℕ) → slice_get xs k ≡ None → unwrap_or (slice_get (map size xs) k) 0 ≡ 0
  none_of [] zero h = refl
  none_of [] (suc k) h = refl
  none_of (x ∷ xs) zero h = absurd cc
  none_of (x ∷ xs) (suc k) h = none_of xs k h

  one_of : (xs : List A) (k : ℕ) (x : A) → slice_get xs k ≡ Some x → unwrap_or (slice_get (map size xs) k) 0 ≡ size x
  one_of [] zero x h = absurd cc
  one_of [] (suc k) x h = absurd cc
  one_of (y ∷ xs) zero x h = ap (λ (o : Option A). size (unwrap_or o y)) h
  one_of (y ∷ xs) (suc k) x h = one_of xs k x h

pub none_there : (ds : List Declared) (k : ℕ) → slice_get ds k ≡ None → unwrap_or (slice_get (parameter_numbers ds) k) 0 ≡ 0
none_there ds k h = none_of (λ (d : Declared). length d.params) ds k h

pub one_there : (ds : List Declared) (k : ℕ) (d : Declared) → slice_get ds k ≡ Some d → unwrap_or (slice_get (parameter_numbers ds) k) 0 ≡ length d.params
one_there ds k d h = one_of (λ (x : Declared). length x.params) ds k d h

pub no_type : (ds : List TypeDecl) (k : ℕ) → slice_get ds k ≡ None → unwrap_or (slice_get (numbers ds) k) 0 ≡ 0
no_type ds k h = none_of (λ (d : TypeDecl). length d.params) ds k h

pub one_type : (ds : List TypeDecl) (k : ℕ) (d : TypeDecl) → slice_get ds k ≡ Some d → unwrap_or (slice_get (numbers ds) k) 0 ≡ length d.params
one_type ds k d h = one_of (λ (x : TypeDecl). length x.params) ds k d h

-- ---- types

pub types_onto : (ns : List ℕ) (p : Standing) (inside : Bool) (xs : List w.Written) (next : ℕ) → written_all ns p inside (w.writtens xs) next ≡ on_ok in_tys (walk_onto (written ns p inside) [] xs next)
types_onto ns p inside xs next = walk_gives (written ns p inside) t.more_tys t.tys (λ ys st. written_all ns p inside (w.writtens ys) st) (λ st. refl) (λ y ys st. refl) (λ y ys. refl) xs next

-- ---- parameters

abbrev in_list : t.Tys × ℕ → List t.Ty × ℕ
in_list r = (t.tys_list r.0, r.1)

behind_one : (x : t.Ty) (o : Result (t.Tys × ℕ) Fault) → and_then (on_ok in_list o) (λ q. Ok (x ∷ q.0, q.1)) ≡ on_ok in_list (and_then o (λ q. Ok (t.more_tys x q.0, q.1)))
behind_one x (Ok q) = refl
behind_one x (Err y) = refl

after_one : (ns : List ℕ) (xs : List w.Written) (o : Typing) → ((k : ℕ) → parameters_written ns xs k ≡ on_ok in_list (written_all ns input false (w.writtens xs) k)) →
    and_then o (λ r. and_then (parameters_written ns xs r.1) (λ q. Ok (r.0 ∷ q.0, q.1)))
    ≡ on_ok in_list (and_then o (λ r. and_then (written_all ns input false (w.writtens xs) r.1) (λ q. Ok (t.more_tys r.0 q.0, q.1))))
after_one ns xs (Err x) h = refl
after_one ns xs (Ok r) h = ap (λ z. and_then z (λ q. Ok (r.0 ∷ q.0, q.1))) (h r.1) ∙ behind_one r.0 (written_all ns input false (w.writtens xs) r.1)

listed : (ns : List ℕ) (xs : List w.Written) (k : ℕ) → parameters_written ns xs k ≡ on_ok in_list (written_all ns input false (w.writtens xs) k)
listed ns [] k = refl
listed ns (x ∷ xs) k = after_one ns xs (written ns input false x k) (λ n. listed ns xs n)

pub parameters_give : (ns : List ℕ) (xs : List w.Written) (k : ℕ) (o : Result (List t.Ty × ℕ) RegionFault) → GivesAs in_tys (written_all ns input false (w.writtens xs) k) o → Gives (parameters_written ns xs k) o
parameters_give ns xs k (Ok r) h = listed ns xs k ∙ ap (on_ok in_list) h ∙ ap (λ l. Ok (l, r.1)) (t.tys_back r.0)
parameters_give ns xs k (Err e) h = passes (written_all ns input false (w.writtens xs) k) (parameters_written ns xs k) e h (λ x q. listed ns xs k ∙ ap (on_ok in_list) q)

-- ---- declared types

pub fields_onto : (ns : List ℕ) (fs : List (List ℕ × w.Written)) → each_onto (field_written ns) [] fs ≡ fields_written ns fs
fields_onto ns fs = each_gives (field_written ns) (fields_written ns) refl (λ x xs. together (written ns plain true x.1 0) (λ r. (x.0, r.0)) (λ y. and_then (fields_written ns xs) (λ q. Ok (y ∷ q)))) fs

pub variants_onto : (ns : List ℕ) (vs : List (List ℕ × List (List ℕ × w.Written))) → each_onto (variant_written ns) [] vs ≡ variants_written ns vs
variants_onto ns vs = each_gives (variant_written ns) (variants_written ns) refl (λ x xs. together (fields_written ns x.1) (as_variant x.0) (λ y. and_then (variants_written ns xs) (λ q. Ok (y ∷ q)))) vs where
  as_variant : List ℕ → List (List ℕ × t.Ty) → Variant
  as_variant n fs = record { name = n; fields = fs }

pub declarations_onto : (ns : List ℕ) (ds : List Declared) → each_onto (declaration ns) [] ds ≡ declarations ns ds
declarations_onto ns ds = each_gives (declaration ns) (declarations ns) refl (λ x xs. together (variants_written ns x.variants) (as_decl x) (λ y. and_then (declarations ns xs) (λ q. Ok (y ∷ q)))) ds where
  as_decl : Declared → List Variant → TypeDecl
  as_decl d vs = record { name = d.name; span = d.span; params = d.params; is_struct = d.is_struct; variants = vs }
