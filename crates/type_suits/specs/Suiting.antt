-- What typing gives for a pattern suits the type that it meets.
use Rattle.std.proofs.Common.{◌≡◌, ℕ, suc, ◌+◌, ◌<◌, List, [], ◌∷◌, length, refl, ap, sym, ◌∙◌, subst, arith}
use Rattle.std.proofs.lemmas.Bool.{and_from, and_parts, eq-eqb, eqb-true, ne_eqb, or_parts}
use Rattle.std.specs.List.{list_any}
use Rattle.std.specs.Prelude.{Bool, true, false, not, ◌==◌, ◌&&◌, ◌||◌, if◌then◌else◌, Result, Ok, Option, Some, None, nat_lt, option_map, slice_get}
use Rattle.aen_base.specs.declared.ids.TypeId.{TypeId}
use Rattle.aen_base.specs.declared.span.Span.{Span}
use Rattle.core_ty.specs.Substitution.{substitute}
use Rattle.core_ty.specs.declared.decl.TypeDecl.{TypeDecl}
use Rattle.type_cover.specs.Suits.{AllSuit, FieldsSuit, Suits}
use Rattle.type_rules.specs.Binding.{Bound, Met, inside, looked}
use Rattle.type_rules.specs.Constructors.{constructor_arguments, field_number, field_type, is_no_field, is_no_tuple, is_not_bool, is_other_declared, is_wrong_list, met_arguments, put_in_fields, tuple_types}
use Rattle.type_rules.specs.Faults.{Fault, and_then, refuse}
use Rattle.type_rules.specs.Fields.{Part, field_named, fields_of, parameters_of}
use Rattle.type_rules.specs.FitsCalls.{are_distinct}
use Rattle.type_rules.specs.FitsPatterns.{IsDeclared, IsTuple, arguments_of, field_numbers, pat_count}
use Rattle.type_rules.specs.Lists.{or_else}
use Rattle.type_rules.specs.Literals.{literal}
use Rattle.type_rules.specs.Patterns.{field_patterns, fieldpats_length, numbered_pats, pattern, patterns, source_length}
use Rattle.type_rules.specs.TypesInBodies.{arguments_lists}
use Rattle.type_rules.specs.TypeFacts.{same_all}
use Rattle.type_rules.specs.declared.fault.KindOfFault.TheVariants.{Mismatch, Arity, Field}
use Rattle.type_suits.specs.SameSuits.{fields_same}
use Rattle.type_suits.specs.Steps.{bound_named, met_by, not_false, ok_is, passed, placed, put_length, unrefused}
use Rattle.rust_ast.specs.Patterns as p
use Rattle.rust_ast.specs.SpelledPatterns as q
use Rattle.core_ty.specs.Types as t

-- what is given suits the type that is met
abbrev pub Good : List TypeDecl → (Met → Bound) → Type 0
Good ds f = (m : Met) (x : t.Ty) (r : q.Pat × List t.Ty) → m.part ≡ Some x → f m ≡ Ok r → Suits ds r.0 (Some x)

looked_suits : (ds : List TypeDecl) (f : Met → Bound) → Good ds f → (m : Met) (x : t.Ty) (r : q.Pat × List t.Ty) → m.part ≡ Some x → looked f m (Some x) ≡ Ok r → Suits ds r.0 (Some x)
looked_suits ds f good m (t.int i) r e h = good m (t.int i) r e h
looked_suits ds f good m t.bool r e h = good m t.bool r e h
looked_suits ds f good m t.unit r e h = good m t.unit r e h
looked_suits ds f good m (t.tuple xs) r e h = good m (t.tuple xs) r e h
looked_suits ds f good m (t.named d xs) r e h = good m (t.named d xs) r e h
looked_suits ds f good m (t.param k) r e h = good m (t.param k) r e h
looked_suits ds f good m (t.boxed x) r e h = good m (t.boxed x) r e h
looked_suits ds f good m (t.ref a k x) r e h =
    let m2 : Met = record { part = Some x; kind = Some k; behind = true } in
    let w = passed (f m2) (λ b. Ok (q.through k b.0, b.1)) r h in
    subst (λ z. Suits ds z (Some (t.ref a k x))) (ap (λ z. z.0) (ok_is w.1.1)) (good m2 x w.0 refl w.1.0)

looks : (ds : List TypeDecl) (f : Met → Bound) → Good ds f → Good ds (λ m. looked f m m.part)
looks ds f good m x r e h = looked_suits ds f good m x r e (subst (λ o. looked f m o ≡ Ok r) e h)

number_good : (ds : List TypeDecl) (s : Span) (negative : Bool) (n : ℕ) (suf : p.Suffix) (ts : List t.Ty) → Good ds (λ m. and_then (literal s negative n suf m.part) (λ z. Ok (q.number z, ts)))
number_good ds s negative n suf ts m x r e h =
    let w = passed (literal s negative n suf m.part) (λ z. Ok (q.number z, ts)) r h in
    subst (λ z. Suits ds z (Some x)) (ap (λ z. z.0) (ok_is w.1.1)) tt

truth_good : (ds : List TypeDecl) (s : Span) (b : Bool) (ts : List t.Ty) → Good ds (λ m. refuse (is_not_bool m.part) s Mismatch (Ok (q.truth b, ts)))
truth_good ds s b ts m x r e h =
    let u = unrefused (is_not_bool m.part) s Mismatch (Ok (q.truth b, ts)) r h in
    subst (λ z. Suits ds z (Some x)) (ap (λ z. z.0) (ok_is u.1)) tt

-- ---- tuples

-- parts suit the types that they meet, of which there are as many
abbrev PartsGood : List TypeDecl → p.Pats → Type 0
PartsGood ds xs = (zs : List t.Ty) (m : Met) (ts : List t.Ty) (r : q.Pats × List t.Ty) → source_length xs ≡ length zs → patterns ds xs zs m ts ≡ Ok r → (pat_count r.0 ≡ source_length xs) × AllSuit ds r.0 zs

abbrev tuple_of : List TypeDecl → Span → p.Pats → List t.Ty → Met → Option t.Ty → Bound
tuple_of ds s xs ts m o =
    and_then (patterns ds xs (tuple_types (source_length xs) o) m ts) (λ r.
    refuse (is_no_tuple (source_length xs) o) s Mismatch (
    Ok (q.tuple r.0, r.1)))

tuple_good : (ds : List TypeDecl) (s : Span) (xs : p.Pats) (ts : List t.Ty) → PartsGood ds xs → Good ds (λ m. tuple_of ds s xs ts m m.part)
tuple_good ds s xs ts g m x r e h =
    let n = source_length xs in
    let w = passed (patterns ds xs (tuple_types n (Some x)) m ts) (λ y. refuse (is_no_tuple n (Some x)) s Mismatch (Ok (q.tuple y.0, y.1))) r (subst (λ o. tuple_of ds s xs ts m o ≡ Ok r) e h) in
    let v = unrefused (is_no_tuple n (Some x)) s Mismatch (Ok (q.tuple w.0.0, w.0.1)) r w.1.1 in
    let shape = met_by n x v.0 in
    let all = g (tuple_types n (Some x)) m ts w.0 shape.long w.1.0 in
    subst (λ z. Suits ds z (Some x)) (ap (λ z. z.0) (ok_is v.1)) (subst (λ k. IsTuple k x) (sym all.0) shape.tuple, subst (AllSuit ds w.0.0) shape.parts all.1)

-- ---- constructors

none_met : (w d : Option (List t.Ty)) (zs : List t.Ty) (b : Bool) → b ≡ true → None ≡ or_else w (or_else (if b then Some zs else None) d) → ⊥
none_met (Some xs) d zs b e h = absurd cc
none_met None d zs true e h = absurd cc
none_met None d zs false e h = absurd cc

-- fields that suit the arguments of the constructor suit those of the type that is met
declared_suits : (ds : List TypeDecl) (d v : ℕ) (ps : q.FieldPats) (w z : Option (List t.Ty)) (x : t.Ty) (o : Option (List t.Ty)) →
    o ≡ or_else w (or_else (met_arguments d (Some x)) z) → is_other_declared d o (Some x) ≡ false →
    ((args : List t.Ty) → o ≡ Some args → FieldsSuit ds d v args ps) → IsDeclared d x × FieldsSuit ds d v (arguments_of x) ps
declared_suits ds d v ps w z (t.named k xs) None e h f = absurd (none_met w z (t.tys_list xs) (d == k.0) (not_false (d == k.0) h) e)
declared_suits ds d v ps w z (t.named k xs) (Some args) e h f =
    let both = and_parts (d == k.0) (same_all (t.tys args) xs) (not_false (d == k.0 && same_all (t.tys args) xs) h) in
    (eqb-true d k.0 both.0, fields_same ds d v ps args xs both.1 (f args refl))
declared_suits ds d v ps w z (t.int i) None e h f = absurd cc
declared_suits ds d v ps w z (t.int i) (Some args) e h f = absurd cc
declared_suits ds d v ps w z t.bool None e h f = absurd cc
declared_suits ds d v ps w z t.bool (Some args) e h f = absurd cc
declared_suits ds d v ps w z t.unit None e h f = absurd cc
declared_suits ds d v ps w z t.unit (Some args) e h f = absurd cc
declared_suits ds d v ps w z (t.tuple xs) None e h f = absurd cc
declared_suits ds d v ps w z (t.tuple xs) (Some args) e h f = absurd cc
declared_suits ds d v ps w z (t.param k) None e h f = absurd cc
declared_suits ds d v ps w z (t.param k) (Some args) e h f = absurd cc
declared_suits ds d v ps w z (t.boxed y) None e h f = absurd cc
declared_suits ds d v ps w z (t.boxed y) (Some args) e h f = absurd cc
declared_suits ds d v ps w z (t.ref r m y) None e h f = absurd cc
declared_suits ds d v ps w z (t.ref r m y) (Some args) e h f = absurd cc

-- ---- parts by place

numbered_suit : (ds : List TypeDecl) (d v : ℕ) (args : List t.Ty) (ps : q.Pats) (gs : List (List ℕ × t.Ty)) (k : ℕ) →
    ((i : ℕ) → slice_get (fields_of ds d v) (k + i) ≡ slice_get gs i) → AllSuit ds ps (put_in_fields (Some args) gs) → FieldsSuit ds d v args (numbered_pats k ps)
numbered_suit ds d v args q.no_pats gs k at h = tt
numbered_suit ds d v args (q.more_pats x xs) [] k at h = absurd h
numbered_suit ds d v args (q.more_pats x xs) (g ∷ gs) k at h =
    let here : slice_get (fields_of ds d v) k ≡ Some g = ap (slice_get (fields_of ds d v)) (omega arith) ∙ at 0 in (
      subst (Suits ds x) (ap (option_map (λ (f : List ℕ × t.Ty). substitute args f.1)) (sym here)) h.0,
      numbered_suit ds d v args xs gs (k + 1) (λ i. ap (slice_get (fields_of ds d v)) (omega arith) ∙ at (suc i)) h.1,
    )

later : (k n : ℕ) (xs : q.Pats) → k < n → list_any (λ j. j == k) (field_numbers (numbered_pats n xs)) ≡ false
later k n q.no_pats h = refl
later k n (q.more_pats x xs) h =
    let off : (n == k) ≡ false = ne_eqb n k (λ e. absurd (omega (arith, e))) in
    ap (λ b. b || list_any (λ j. j == k) (field_numbers (numbered_pats (n + 1) xs))) off ∙ later k (n + 1) xs (omega arith)

numbered_apart : (k : ℕ) (xs : q.Pats) → are_distinct (field_numbers (numbered_pats k xs)) ≡ true
numbered_apart k q.no_pats = refl
numbered_apart k (q.more_pats x xs) = and_from _ _ (ap not (later k (k + 1) xs (omega arith))) (numbered_apart (k + 1) xs)

abbrev construct_of : List TypeDecl → Span → TypeId → ℕ → List (List t.Ty) → p.Pats → List t.Ty → Met → Option t.Ty → Bound
construct_of ds s d v ls xs ts m o =
    and_then (patterns ds xs (put_in_fields (constructor_arguments ds d.0 ls o) (fields_of ds d.0 v)) m ts) (λ r.
    refuse (is_other_declared d.0 (constructor_arguments ds d.0 ls o) o) s Mismatch (
    refuse (is_wrong_list (parameters_of ds d.0) ls || not (source_length xs == length (fields_of ds d.0 v))) s Arity (
    Ok (q.construct d v (numbered_pats 0 r.0), r.1))))

construct_good : (ds : List TypeDecl) (s : Span) (d : TypeId) (v : ℕ) (ls : List (List t.Ty)) (xs : p.Pats) (ts : List t.Ty) → PartsGood ds xs → Good ds (λ m. construct_of ds s d v ls xs ts m m.part)
construct_good ds s d v ls xs ts g m x r e h =
    let fs = fields_of ds d.0 v in
    let o = constructor_arguments ds d.0 ls (Some x) in
    let wrong = is_wrong_list (parameters_of ds d.0) ls in
    let w = passed (patterns ds xs (put_in_fields o fs) m ts) (λ y.
    refuse (is_other_declared d.0 o (Some x)) s Mismatch (
    refuse (wrong || not (source_length xs == length fs)) s Arity (
    Ok (q.construct d v (numbered_pats 0 y.0), y.1)))) r (subst (λ y. construct_of ds s d v ls xs ts m y ≡ Ok r) e h) in
    let u = unrefused (is_other_declared d.0 o (Some x)) s Mismatch _ r w.1.1 in
    let v1 = unrefused (wrong || not (source_length xs == length fs)) s Arity (Ok (q.construct d v (numbered_pats 0 w.0.0), w.0.1)) r u.1 in
    let long : source_length xs ≡ length fs = eqb-true (source_length xs) (length fs) (not_false (source_length xs == length fs) (or_parts wrong (not (source_length xs == length fs)) v1.0).1) in
    let parts = λ (args : List t.Ty) (q : o ≡ Some args).
    numbered_suit ds d.0 v args w.0.0 fs 0 (λ i. ap (slice_get fs) (omega arith)) (g (put_in_fields (Some args) fs) m ts w.0 (long ∙ sym (put_length args fs)) (subst (λ z. patterns ds xs (put_in_fields z fs) m ts ≡ Ok w.0) q w.1.0)).1 in
    let met = declared_suits ds d.0 v (numbered_pats 0 w.0.0) _ _ x o refl u.0 parts in
    subst (λ z. Suits ds z (Some x)) (ap (λ z. z.0) (ok_is v1.1)) (met.0, numbered_apart 0 w.0.0, met.1)

-- ---- parts by name

-- the numbers differ, also from those before
abbrev Apart : List ℕ → List ℕ → Type 0
Apart seen ks = (are_distinct ks ≡ true) × ((j : ℕ) → list_any (λ k. k == j) seen ≡ true → list_any (λ k. k == j) ks ≡ false)

abbrev FieldsGood : List TypeDecl → p.FieldPats → Type 0
FieldsGood ds xs = (d v : ℕ) (args : Option (List t.Ty)) (seen : List ℕ) (m : Met) (ts : List t.Ty) (r : q.FieldPats × List t.Ty) →
    field_patterns ds xs (fields_of ds d v) args seen m ts ≡ Ok r →
    Apart seen (field_numbers r.0) × ((given : List t.Ty) → args ≡ Some given → FieldsSuit ds d v given r.0)

abbrev literal_of : List TypeDecl → Span → TypeId → ℕ → List (List t.Ty) → p.FieldPats → List t.Ty → Met → Option t.Ty → Bound
literal_of ds s d v ls xs ts m o =
    and_then (field_patterns ds xs (fields_of ds d.0 v) (constructor_arguments ds d.0 ls o) [] m ts) (λ r.
    refuse (is_other_declared d.0 (constructor_arguments ds d.0 ls o) o) s Mismatch (
    refuse (is_wrong_list (parameters_of ds d.0) ls) s Arity (
    refuse (nat_lt (fieldpats_length r.0) (length (fields_of ds d.0 v))) s Field (
    Ok (q.construct d v r.0, r.1)))))

literal_good : (ds : List TypeDecl) (s : Span) (d : TypeId) (v : ℕ) (ls : List (List t.Ty)) (xs : p.FieldPats) (ts : List t.Ty) → FieldsGood ds xs → Good ds (λ m. literal_of ds s d v ls xs ts m m.part)
literal_good ds s d v ls xs ts g m x r e h =
    let fs = fields_of ds d.0 v in
    let o = constructor_arguments ds d.0 ls (Some x) in
    let wrong = is_wrong_list (parameters_of ds d.0) ls in
    let w = passed (field_patterns ds xs fs o [] m ts) (λ y.
    refuse (is_other_declared d.0 o (Some x)) s Mismatch (
    refuse wrong s Arity (
    refuse (nat_lt (fieldpats_length y.0) (length fs)) s Field (
    Ok (q.construct d v y.0, y.1))))) r (subst (λ y. literal_of ds s d v ls xs ts m y ≡ Ok r) e h) in
    let u = unrefused (is_other_declared d.0 o (Some x)) s Mismatch _ r w.1.1 in
    let v1 = unrefused wrong s Arity _ r u.1 in
    let v2 = unrefused (nat_lt (fieldpats_length w.0.0) (length fs)) s Field (Ok (q.construct d v w.0.0, w.0.1)) r v1.1 in
    let all = g d.0 v o [] m ts w.0 w.1.0 in
    let met = declared_suits ds d.0 v w.0.0 _ _ x o refl u.0 all.1 in
    subst (λ z. Suits ds z (Some x)) (ap (λ z. z.0) (ok_is v2.1)) (met.0, all.0.0, met.1)

no_field_apart : (seen : List ℕ) → Apart seen []
no_field_apart seen = (refl, λ j h. refl)

seen_more : (b c : Bool) → c ≡ true → (b || c) ≡ true
seen_more true c h = refl
seen_more false c h = h

-- one more, which was not seen
one_apart : (n : ℕ) (seen ks : List ℕ) → list_any (λ k. k == n) seen ≡ false → Apart (n ∷ seen) ks → Apart seen (n ∷ ks)
one_apart n seen ks off h = (
  and_from _ _ (ap not (h.1 n (ap (λ b. b || list_any (λ k. k == n) seen) (eq-eqb n n refl)))) h.0,
  λ j is.
      let differs : (n == j) ≡ false = ne_eqb n j (λ e. absurd (true_false (sym is ∙ ap (λ z. list_any (λ k. k == z) seen) (sym e) ∙ off))) in
      ap (λ b. b || list_any (λ k. k == j) ks) differs ∙ h.1 j (seen_more (n == j) (list_any (λ k. k == j) seen) is),
)
  where
    true_false : true ≡ false → ⊥
    true_false h = absurd cc

abbrev field_rest : List TypeDecl → p.FieldPats → ℕ → ℕ → Option (List t.Ty) → List ℕ → Met → Part → q.Pat × List t.Ty → Result (q.FieldPats × List t.Ty) Fault
field_rest ds rest d v args seen m o y =
    and_then (field_patterns ds rest (fields_of ds d v) args (field_number o ∷ seen) m y.1) (λ rs.
    Ok (q.more_fieldpats (field_number o) y.0 rs.0, rs.1))

abbrev field_step : List TypeDecl → Span → p.Pat → p.FieldPats → ℕ → ℕ → Option (List t.Ty) → List ℕ → Met → List t.Ty → Part → Result (q.FieldPats × List t.Ty) Fault
field_step ds s x rest d v args seen m ts o =
    refuse (is_no_field o seen) s Field (
    and_then (pattern ds x (inside m (field_type args o)) ts) (field_rest ds rest d v args seen m o))

field_good : (ds : List TypeDecl) (s : Span) (name : List ℕ) (x : p.Pat) (rest : p.FieldPats) → ((ts : List t.Ty) → Good ds (λ m. pattern ds x m ts)) → FieldsGood ds rest →
    (d v : ℕ) (args : Option (List t.Ty)) (seen : List ℕ) (m : Met) (ts : List t.Ty) (r : q.FieldPats × List t.Ty) (o : Part) → field_named name 0 (fields_of ds d v) ≡ o →
    field_step ds s x rest d v args seen m ts o ≡ Ok r → Apart seen (field_numbers r.0) × ((given : List t.Ty) → args ≡ Some given → FieldsSuit ds d v given r.0)
field_good ds s name x rest good all d v args seen m ts r None named h = absurd cc
field_good ds s name x rest good all d v args seen m ts r (Some f) named h =
    let u = unrefused (list_any (λ k. k == f.0) seen) s Field _ r h in
    let w = passed (pattern ds x (inside m (field_type args (Some f))) ts) (field_rest ds rest d v args seen m (Some f)) r u.1 in
    let l = passed (field_patterns ds rest (fields_of ds d v) args (f.0 ∷ seen) m w.0.1) (λ rs. Ok (q.more_fieldpats f.0 w.0.0 rs.0, rs.1)) r w.1.1 in
    let more = all d v args (f.0 ∷ seen) m w.0.1 l.0 l.1.0 in
    let is : q.more_fieldpats f.0 w.0.0 l.0.0 ≡ r.0 = ap (λ z. z.0) (ok_is l.1.1) in
    let place = placed name 0 (fields_of ds d v) f named in
    let there : slice_get (fields_of ds d v) f.0 ≡ Some (place.name, f.1) = ap (slice_get (fields_of ds d v)) (place.number ∙ omega arith) ∙ place.there in (
      subst (λ z. Apart seen (field_numbers z)) is (one_apart f.0 seen (field_numbers l.0.0) u.0 more.0),
      λ given e. subst (FieldsSuit ds d v given) is (
        subst (Suits ds w.0.0) (ap (option_map (λ (y : List ℕ × t.Ty). substitute given y.1)) (sym there))
            (good ts (inside m (field_type args (Some f))) (substitute given f.1) w.0 (ap (λ z. field_type z (Some f)) e) w.1.0),
        more.1 given e,
      ),
    )

-- ---- the recursion

mutual
  pub pattern_suits : (ds : List TypeDecl) (y : p.Pat) (ts : List t.Ty) → Good ds (λ m. pattern ds y m ts)
  pattern_suits ds (p.wild s) ts m x r e h = subst (λ z. Suits ds z (Some x)) (ap (λ z. z.0) (ok_is h)) tt
  pattern_suits ds (p.bind s name mutable k) ts m x r e h = bound_named (λ z. Suits ds z (Some x)) (λ s k m. tt) s name mutable k m ts r h
  pattern_suits ds (p.number s negative n suf) ts m x r e h = looks ds _ (number_good ds s negative n suf ts) m x r e h
  pattern_suits ds (p.truth s b) ts m x r e h = looks ds _ (truth_good ds s b ts) m x r e h
  pattern_suits ds (p.tuple s xs) ts m x r e h = looks ds _ (tuple_good ds s xs ts (patterns_suit ds xs)) m x r e h
  pattern_suits ds (p.construct s d v ls xs) ts m x r e h =
      let w = passed (arguments_lists ds ls) (λ zs. looked (λ m. construct_of ds s d v zs xs ts m m.part) m m.part) r h in
      looks ds _ (construct_good ds s d v w.0 xs ts (patterns_suit ds xs)) m x r e w.1.1
  pattern_suits ds (p.literal s d v ls xs) ts m x r e h =
      let w = passed (arguments_lists ds ls) (λ zs. looked (λ m. literal_of ds s d v zs xs ts m m.part) m m.part) r h in
      looks ds _ (literal_good ds s d v w.0 xs ts (field_patterns_suit ds xs)) m x r e w.1.1

  patterns_suit : (ds : List TypeDecl) (xs : p.Pats) → PartsGood ds xs
  patterns_suit ds p.no_pats zs m ts r long h = subst (λ z. (pat_count z ≡ 0) × AllSuit ds z zs) (ap (λ z. z.0) (ok_is h)) (refl, tt)
  patterns_suit ds (p.more_pats x rest) [] m ts r long h = absurd cc
  patterns_suit ds (p.more_pats x rest) (z ∷ zs) m ts r long h =
      let w = passed (pattern ds x (inside m (Some z)) ts) (λ y. and_then (patterns ds rest zs m y.1) (λ rs. Ok (q.more_pats y.0 rs.0, rs.1))) r h in
      let l = passed (patterns ds rest zs m w.0.1) (λ rs. Ok (q.more_pats w.0.0 rs.0, rs.1)) r w.1.1 in
      let more = patterns_suit ds rest zs m w.0.1 l.0 (omega (arith, long)) l.1.0 in
      subst (λ y. (pat_count y ≡ suc (source_length rest)) × AllSuit ds y (z ∷ zs)) (ap (λ z. z.0) (ok_is l.1.1))
      (ap suc more.0, (pattern_suits ds x ts (inside m (Some z)) z w.0 refl w.1.0, more.1))

  field_patterns_suit : (ds : List TypeDecl) (xs : p.FieldPats) → FieldsGood ds xs
  field_patterns_suit ds p.no_fieldpats d v args seen m ts r h =
      subst (λ z. Apart seen (field_numbers z) × ((given : List t.Ty) → args ≡ Some given → FieldsSuit ds d v given z)) (ap (λ z. z.0) (ok_is h)) (no_field_apart seen, λ given e. tt)
  field_patterns_suit ds (p.more_fieldpats s name x rest) d v args seen m ts r h =
      field_good ds s name x rest (pattern_suits ds x) (field_patterns_suit ds rest) d v args seen m ts r (field_named name 0 (fields_of ds d v)) refl h
