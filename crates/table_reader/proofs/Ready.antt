-- A production that is opened, or left out, leaves ready what was ready.
use Rattle.std.proofs.Common.{◌≡◌, refl, sym, subst, ℕ, zero, suc, List, [], ◌∷◌, ◌++◌, map}
use Rattle.table_reader.specs.declared.coming.Coming.{Coming}
use Rattle.table_reader.specs.declared.coming.Coming.TheVariants as C
use Rattle.table_reader.specs.declared.item.Item.{Item}
use Rattle.table_reader.specs.declared.item.Item.TheVariants as I
use Rattle.table_reader.specs.declared.symbol.Symbol.{Symbol}
use Rattle.table_reader.specs.declared.symbol.Symbol.TheVariants as S
use Rattle.table_reader.specs.declared.take.Take.{Take}
use Rattle.table_reader.specs.Reading.{Made, Parts, plain}
use Rattle.table_reader.specs.Building as Building
use Rattle.table_reader.specs.Machine as M
use Rattle.table_reader.specs.Machine.{IsAt, coming}
use Rattle.table_reader.proofs.Leading as Leading

-- what a production makes stands in its place
record MadeAt {T N L : Type 0} (carrier : N → Type 0) (n : N) (p : List (Symbol T N)) (i : ℕ) (ms : List (Made T N L carrier n)) : Type 0 where
  pub one : Made T N L carrier n
  pub at : IsAt one i ms
  pub is : one.symbols ≡ p

made_at : {T N L : Type 0} (carrier : N → Type 0) (n : N) (p : List (Symbol T N)) (i : ℕ) (ms : List (Made T N L carrier n)) → IsAt p i (plain carrier n ms) → MadeAt carrier n p i ms
made_at carrier n p i [] h = absurd h
made_at carrier n p zero (m ∷ ms) h = record { one = m; at = refl; is = sym h }
made_at carrier n p (suc i) (m ∷ ms) h = let r = made_at carrier n p i ms h in record { one = r.one; at = r.at; is = r.is }

module _ {T N L V : Type 0} (takes : T → L → Take L) (carrier : N → Type 0) (made : (n : N) → List (Made T N L carrier n)) (held : (n : N) → carrier n → V)
    (productions : N → List (List (Symbol T N))) (same : (n : N) → plain carrier n (made n) ≡ productions n) where
  abbrev Values : Type 0
  Values = List (Item L V)

  abbrev ToCome : Type 0
  ToCome = List (Coming T N)

  abbrev IsReady : ToCome → Values → Type 0
  IsReady s values = M.IsReady carrier made held s values

  abbrev MakesBy : N → ℕ → Values → V → Values → Type 0
  MakesBy n i stack value below = Building.MakesBy carrier held n (made n) i stack value below

  ready_over : (n : N) (i : ℕ) (rest : ToCome) (stack : Values) (value : V) (below : Values) → MakesBy n i stack value below → IsReady rest (I.Part value ∷ below) → IsReady (C.Over n i ∷ rest) stack
  ready_over n i rest stack value below m h = (value, (below, (m, h)))

  -- whatever the values of a production's symbols are
  ready_all : (p : List (Symbol T N)) (s : ToCome) (values : Values) → ((vs : Parts T N L carrier p) → IsReady s (Building.put carrier held p vs values)) → IsReady (map coming p ++ s) values
  ready_all [] s values f = f tt
  ready_all (S.Token t ∷ p) s values f = λ l. ready_all p s (I.Token l ∷ values) (λ vs. f (l, vs))
  ready_all (S.Part n ∷ p) s values f = λ v. ready_all p s (I.Part (held n v) ∷ values) (λ vs. f (v, vs))

  pub opens : (n : N) (p : List (Symbol T N)) (i : ℕ) (rest : ToCome) (values : Values) → IsAt p i (productions n) → IsReady (C.Part n ∷ rest) values → IsReady (map coming p ++ C.Over n i ∷ rest) values
  opens n p i rest values at h =
      let m = made_at carrier n p i (made n) (subst (λ (ps : List (List (Symbol T N))). IsAt p i ps) (sym (same n)) at) in
      subst (λ (q : List (Symbol T N)). IsReady (map coming q ++ C.Over n i ∷ rest) values) m.is
      (ready_all m.one.symbols (C.Over n i ∷ rest) values
      (λ vs. ready_over n i rest (Building.put carrier held m.one.symbols vs values) (held n (m.one.make vs)) values
      (Leading.makes_at takes carrier made held n m.one i (made n) m.at vs values) (h (m.one.make vs))))

  pub can_build : (n : N) (i : ℕ) (rest : ToCome) (values : Values) → IsReady (C.Over n i ∷ rest) values → Building.CanBuild carrier held n (made n) i values
  can_build n i rest values h = record { value = h.0; below = h.1.0; makes = h.1.1.0 }

  -- what is over is built
  pub built : (n : N) (i : ℕ) (rest : ToCome) (values new : Values) → ((value : V) (below : Values) → MakesBy n i values value below → new ≡ I.Part value ∷ below) →
      IsReady (C.Over n i ∷ rest) values → IsReady rest new
  built n i rest values new b h = subst (λ (vs : Values). IsReady rest vs) (sym (b h.0 h.1.0 h.1.1.0)) h.1.1.1
