-- What a program says which is read of proper lexemes: by induction on how it is read.
use Rattle.std.proofs.Common.{◌≡◌, refl, sym, ap, subst, ◌∙◌, inl, inr, ℕ, arith, Bool, true, false, if◌then◌else◌, List, [], ◌∷◌}
use denote.Enum.Bare.{sameb, same_true}
use Rattle.aen_base.specs.declared.span.Span.{Span}
use Rattle.table_reader.specs.declared.symbol.Symbol.{Symbol}
use Rattle.table_reader.specs.declared.symbol.Symbol.TheVariants as S
use Rattle.table_reader.specs.declared.take.Take.{Take}
use Rattle.table_reader.specs.declared.take.Take.TheVariants as K
use Rattle.table_reader.specs.Derivations.{IsOneOf}
use Rattle.table_reader.specs.Reading as R
use Rattle.source_grammar.specs.declared.class.Class.{Class}
use Rattle.source_grammar.specs.declared.class.Class.TheVariants as C
use Rattle.source_grammar.specs.declared.lexeme.Lexeme.{Lexeme}
use Rattle.source_grammar.specs.declared.terminal.Terminal.{Terminal}
use Rattle.source_grammar.specs.declared.terminal.Terminal.TheVariants as T
use Rattle.source_grammar.specs.contracts.terminal.Terminal.{the_type}
use Rattle.source_grammar.specs.declared.part.Part.{Part}
use Rattle.source_grammar.specs.declared.part.Part.TheVariants as N
use Rattle.source_grammar.specs.Classes.{classes}
use Rattle.source_grammar.specs.Lexemes.{takes, has_class, mark, middle, parted, end_of_types}
use Rattle.source_grammar.specs.Productions.{productions}
use Rattle.rust_ast.specs.declared.program.Program.{Program}
use Rattle.source_ways.specs.Carriers.{Carrier, Values, Makes, made_by}
use Rattle.source_ways.specs.Makes.{makes}
use Rattle.source_ways.specs.Reading.{made, Reads}
use Rattle.print_lexed.proofs.Spellable.{AreItems}
use Rattle.print_lexed.proofs.Proper.{IsProper, AreProper, no_true, one_of}
use Rattle.print_lexed.proofs.Keeps.{Keeps, Kept, Keeping}
use Rattle.print_lexed.proofs.KeptParts.{kept}

abbrev Made : Part → Type 0
Made n = R.Made Terminal Part Lexeme Carrier n

abbrev ReadsAll : (p : List (Symbol Terminal Part)) → List Lexeme → List Lexeme → Values p → Type 0
ReadsAll p ls us vs = R.ReadsAll takes Carrier made p ls us vs

-- ---- a production

kept_made : (n : Part) (ps : List (List (Symbol Terminal Part))) (ways : Makes n ps) → Keeping n ps ways → (m : Made n) → IsOneOf m (made_by n ps ways) →
    (vs : Values m.symbols) → Kept m.symbols vs → Keeps n (m.make vs).value
kept_made n [] ways k m one vs h = absurd one
kept_made n (p ∷ ps) ways k m (inl e) vs h =
    subst (λ (x : Made n). (ws : Values x.symbols) → Kept x.symbols ws → Keeps n (x.make ws).value) (sym e) k.0 vs h
kept_made n (p ∷ ps) ways k m (inr one) vs h = kept_made n ps ways.1 k.1 m one vs h

-- ---- a token, and one that takes the front of a lexeme: it ends types

whole_by : (a b : Bool) (x : Take Lexeme) → (if a then (if b then x else K.Whole) else K.No) ≡ K.Whole → a ≡ true
whole_by true b x e = refl
whole_by false b x e = absurd cc

front_by : (a b : Bool) (x : Take Lexeme) (taken left : Lexeme) → (if a then (if b then x else K.Whole) else K.No) ≡ K.Front taken left →
    ((a ≡ true) × (b ≡ true)) × (x ≡ K.Front taken left)
front_by true true x taken left e = ((refl, refl), e)
front_by true false x taken left e = absurd cc
front_by false b x taken left e = absurd cc

abbrev AreProperOf : Take Lexeme → Type 0
AreProperOf K.No = Unit {0}
AreProperOf K.Whole = Unit {0}
AreProperOf (K.Front taken left) = IsProper taken × IsProper left

mark_is : (c : Class) (lo hi : ℕ) → has_class T.Identifier c ≡ false → has_class T.Lifetime c ≡ false → has_class T.Digits c ≡ false → IsProper (mark c lo hi)
mark_is c lo hi f g d = record { name = λ h. no_true (has_class T.Identifier c) f h; life = λ h. no_true (has_class T.Lifetime c) g h; digits = λ h. no_true (has_class T.Digits c) d h; size = omega arith }

split_are : (c : Class) (span : Span) → IsOneOf c (classes T.TypesEnd) → AreProperOf (parted c span)
split_are c span (inl e) = subst (λ (x : Class). AreProperOf (parted x span)) (sym e) (mark_is C.Greater span.lo (middle span) refl refl refl, mark_is C.GreaterEquals (middle span) span.hi refl refl refl)
split_are c span (inr (inl e)) = subst (λ (x : Class). AreProperOf (parted x span)) (sym e) (mark_is C.Greater span.lo (middle span) refl refl refl, mark_is C.Equals (middle span) span.hi refl refl refl)
split_are c span (inr (inr (inl e))) = subst (λ (x : Class). AreProperOf (parted x span)) (sym e) (mark_is C.Greater span.lo (middle span) refl refl refl, mark_is C.Greater (middle span) span.hi refl refl refl)
split_are c span (inr (inr (inr (inl e)))) = subst (λ (x : Class). AreProperOf (parted x span)) (sym e) tt
split_are c span (inr (inr (inr (inr h)))) = absurd h

front_is : (t : Terminal) (l taken left : Lexeme) → takes t l ≡ K.Front taken left → (sameb the_type t T.TypesEnd ≡ true) × (IsProper taken × IsProper left)
front_is t l taken left e =
    let r = front_by (has_class t l.class) (sameb the_type t T.TypesEnd) (end_of_types l) taken left e in
    let has : has_class T.TypesEnd l.class ≡ true = sym (ap (λ (x : Terminal). has_class x l.class) (same_true the_type tt t T.TypesEnd r.0.1)) ∙ r.0.0 in
    (r.0.1, subst AreProperOf r.1 (split_are l.class l.span (one_of T.TypesEnd l.class has)))

-- ---- what is read

mutual
  part_kept : (n : Part) (ls us : List Lexeme) (v : Carrier n) → R.Reads takes Carrier made n ls us v → AreProper ls → Keeps n v.value × AreProper us
  part_kept n ls us _ (R.by m one vs r) h =
      let k = all_kept m.symbols ls us vs r h in
      (kept_made n (productions n) (makes n) (kept n) m one vs k.0, k.1)

  all_kept : (p : List (Symbol Terminal Part)) (ls us : List Lexeme) (vs : Values p) → ReadsAll p ls us vs → AreProper ls → Kept p vs × AreProper us
  all_kept [] ls us _ R.nothing h = (tt, h)
  all_kept (S.Token t ∷ p) (l ∷ ls) us _ (R.token {vs} e r) h =
      let k = all_kept p ls us vs r h.1 in
      (((h.0, (λ n. whole_by (has_class t l.class) (sameb the_type t T.TypesEnd) (end_of_types l) e)), k.0), k.1)
  all_kept (S.Token t ∷ p) (l ∷ ls) us _ (R.piece {vs} taken left e r) h =
      let f = front_is t l taken left e in
      let k = all_kept p (left ∷ ls) us vs r (f.1.1, h.1) in
      (((f.1.0, (λ n. no_true (sameb the_type t T.TypesEnd) n f.0)), k.0), k.1)
  all_kept (S.Part n ∷ p) ls us _ (R.part {ms} {v} {vs} a r) h =
      let x = part_kept n ls ms v a h in
      let k = all_kept p ms us vs r x.1 in
      ((x.0, k.0), k.1)

-- all that a program says which was read of such lexemes is lexed as itself
pub read_proper : (ls : List Lexeme) (x : Program) → AreProper ls → Reads ls x → AreItems x.items
read_proper ls x h r = subst (λ (y : Program). AreItems y.items) (sym r.1.1) (part_kept N.Program ls [] r.0 r.1.0 h).0
