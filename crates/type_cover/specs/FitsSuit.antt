-- Patterns that fit what they meet suit its type.
use Rattle.std.specs.Prelude.{ℕ, Bool, true, false, Option, Some, None, List, [], ◌∷◌}
use Rattle.core_ty.specs.declared.decl.TypeDecl.{TypeDecl}
use Rattle.type_cover.specs.Suits.{AllSuit, FieldsSuit, Suits}
use Rattle.type_rules.specs.FitsPatterns.{FieldPatsFit, PatFits, PatsFit, referent, tuple_parts}
use Rattle.type_rules.specs.Frames.{Frame, field_at}
use Rattle.type_rules.specs.Skeletons.{content}
use Rattle.rust_ast.specs.SpelledPatterns as q
use Rattle.core_ty.specs.Types as t

anywhere : (ds : List TypeDecl) (p : q.Pat) (x : t.Ty) → Suits ds p None → Suits ds p (Some x)
anywhere ds q.wild x h = tt
anywhere ds (q.bind s k m) x h = tt
anywhere ds (q.number n) x h = absurd h
anywhere ds (q.truth b) x h = absurd h
anywhere ds (q.tuple ps) x h = absurd h
anywhere ds (q.construct d v ps) x h = absurd h
anywhere ds (q.through m p) x h = absurd h

looked_through : (ds : List TypeDecl) (p : q.Pat) (m : Bool) (x : t.Ty) → Suits ds p (referent m x) → Suits ds p (Some (content x))
looked_through ds p true (t.ref r true x) h = h
looked_through ds p false (t.ref r false x) h = h
looked_through ds p true x h = anywhere ds p (content x) h
looked_through ds p false x h = anywhere ds p (content x) h

mutual
  pub fits_suits : (c : Frame) (behind : Bool) (p : q.Pat) (o : Option t.Ty) → PatFits c behind p o → Suits c.decls p o
  fits_suits c behind q.wild o h = tt
  fits_suits c behind (q.bind s k m) o h = tt
  fits_suits c behind (q.number n) None h = absurd h.0
  fits_suits c behind (q.number n) (Some x) h = tt
  fits_suits c behind (q.truth b) None h = absurd h
  fits_suits c behind (q.truth b) (Some x) h = tt
  fits_suits c behind (q.tuple ps) None h = absurd h
  fits_suits c behind (q.tuple ps) (Some x) h = (h.0, parts_suit c behind ps (tuple_parts x) h.1)
  fits_suits c behind (q.construct d v ps) None h = absurd h
  fits_suits c behind (q.construct d v ps) (Some x) h = (h.0, h.3, fields_suit c behind d.0 v _ ps h.4)
  fits_suits c behind (q.through m p) None h = absurd h
  fits_suits c behind (q.through m p) (Some x) h = looked_through c.decls p m x (fits_suits c true p (referent m x) h)

  parts_suit : (c : Frame) (behind : Bool) (ps : q.Pats) (xs : List t.Ty) → PatsFit c behind ps xs → AllSuit c.decls ps xs
  parts_suit c behind q.no_pats xs h = tt
  parts_suit c behind (q.more_pats p ps) [] h = absurd h
  parts_suit c behind (q.more_pats p ps) (x ∷ xs) h = (fits_suits c behind p (Some x) h.0, parts_suit c behind ps xs h.1)

  fields_suit : (c : Frame) (behind : Bool) (d v : ℕ) (args : List t.Ty) (ps : q.FieldPats) → FieldPatsFit c behind d v args ps → FieldsSuit c.decls d v args ps
  fields_suit c behind d v args q.no_fieldpats h = tt
  fields_suit c behind d v args (q.more_fieldpats k p ps) h =
      (fits_suits c behind p (field_at c.decls d v args k) h.0, fields_suit c behind d v args ps h.1)
