-- What is made of answers that may be missing.
use Rattle.std.proofs.Common.{◌≡◌, refl, ap, ℕ, Bool, true, false, List, [], ◌∷◌, suc, length, Option, Some, None, eqb-true}
use Rattle.std.specs.Prelude.{◌==◌, if◌then◌else◌, is_some}
use Rattle.aen_base.specs.declared.span.Span.{Span}
use Rattle.pure_ast.specs.declared.def.Defs.{Defs}
use Rattle.text_meaning.specs.Lists.{Each}
use Rattle.raw_meaning.specs.declared.outline.Outline.{Outline}
use Rattle.raw_meaning.specs.OptionLemmas.{unbroken}
use Rattle.raw_meaning.specs.Rules.{unless_parts}
use Rattle.raw_meaning.specs.Trees.{both, each, with_parts}
use Rattle.raw_forms.specs.Formed.{IsFormed}

pub some_is : {A : Type 0} (o : Option A) → is_some o ≡ true → (x : A) × (o ≡ Some x)
some_is None h = absurd cc
some_is (Some x) h = (x, refl)

-- what keeps to a rule
pub kept_if : (b : Bool) (places : List Span) (place : Span) → (if b then places else place ∷ []) ≡ [] → (b ≡ true) × (places ≡ [])
kept_if true places place h = (refl, h)
kept_if false places place h = absurd cc

-- something is there with so many parts
pub record HasParts {A : Type 0} (o : Option (A × ℕ)) (count : ℕ) : Type 0 where
  pub item : A
  pub found : o ≡ Some (item, count)
  pub given : with_parts o count ≡ Some item

pub parts_found : {A : Type 0} (o : Option (A × ℕ)) (count : ℕ) (place : Span) → unless_parts o count place ≡ [] → HasParts o count
parts_found None count place h = absurd cc
parts_found (Some p) count place h =
    let t = unbroken (p.1 == count) place h in
    record { item = p.0; found = ap (λ n. Some (p.0, n)) (eqb-true p.1 count t); given = ap (λ b. if b then Some p.0 else None) t }

-- each item of a list is formed
pub each_formed : {A B : Type 0} (h : Outline) (P : Defs → B → Type 0) (f : A → Option B) (xs : List A) → Each (λ x. IsFormed h P (f x)) xs →
    IsFormed h (λ d ys. (length ys ≡ length xs) × Each (P d) ys) (each f xs)
each_formed h P f [] g = record { tree = []; is = refl; fits = λ d same. (refl, tt) }
each_formed h P f (x ∷ xs) g =
    let first = g.0 in let rest = each_formed h P f xs g.1 in
    record {
      tree = first.tree ∷ rest.tree;
      is = λ i. both (λ y ys. y ∷ ys) (first.is i) (rest.is i);
      fits = λ d same. (ap (λ n. suc n) (rest.fits d same).0, (first.fits d same, (rest.fits d same).1));
    }
