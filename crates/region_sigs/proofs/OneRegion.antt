-- The one region of some references is that of the first, where all have it.
use Rattle.std.proofs.Common.{rules, ◌≡◌, ℕ, List, [], ◌∷◌, refl, ap, sym, ◌∙◌}
use Rattle.std.specs.Prelude.{true, ◌==◌, ◌&&◌, if◌then◌else◌, Option, Some, None, slice_get, unwrap_or}
use Rattle.std.specs.List.{list_all}
use Rattle.core_ty.specs.declared.places.Position.{Position}
use Rattle.type_rules.specs.Signatures.{one_region}

same_number : (n : ℕ) → (n == n) ≡ true
same_number n = search rules

abbrev have : Position → List Position → Option ℕ
have p ps = if list_all (λ (q : Position). q.region.0 == p.region.0) ps then Some p.region.0 else None

pub one_of : (ps : List Position) (p : Position) → slice_get ps 0 ≡ Some p → one_region ps ≡ (if list_all (λ (q : Position). q.region.0 == p.region.0) ps then Some p.region.0 else None)
one_of [] p h = absurd cc
one_of (x ∷ ps) p h =
    ap (λ b. if b && list_all (λ (q : Position). q.region.0 == x.region.0) ps then Some x.region.0 else None) (sym (same_number x.region.0))
    ∙ ap (λ (o : Option Position). have (unwrap_or o x) (x ∷ ps)) h

pub none_of : (ps : List Position) → slice_get ps 0 ≡ None → one_region ps ≡ None
none_of [] h = refl
none_of (x ∷ ps) h = absurd cc
