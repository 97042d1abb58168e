-- Words and pieces one by one.
use Rattle.std.proofs.Common.{◌≡◌, ap, sym, ◌∙◌, subst, ℕ, zero, suc, ◌+◌, ◌<◌, List, [], ◌∷◌, ◌++◌, length, take, get_or, map, arith}
use Rattle.std.specs.Prelude.{slice_get, Option, Some, None, Result, Ok, Err, MatchOption}
use Rattle.std.proofs.lemmas.Option.{same_Some}
use Rattle.pure_ast.specs.declared.def.Def.{Def}
use Rattle.pure_ast.specs.declared.def.Defs.{Defs}
use Rattle.pure_ast.specs.Types.{PTy}
use Rattle.pure_ast.specs.Values.{PValue}
use Rattle.text_words.specs.declared.arguments.ArgFault.{ArgFault}
use Rattle.text_words.specs.declared.arguments.ArgFault.TheVariants as W
use Rattle.text_words.specs.ValueWords.{IsWord, IsPiece, AreWords, ArePieces, AreTypeArguments, IsReading, IsReadingAt, parameter_types}

module _ {X : Type 0} where
  take_next : (xs : List X) (i : ℕ) (x : X) → slice_get xs i ≡ Some x → take (i + 1) xs ≡ take i xs ++ x ∷ []
  take_next [] i x h = absurd cc
  take_next (y ∷ xs) zero x h = ap (λ (z : X). z ∷ []) (same_Some y x h)
  take_next (y ∷ xs) (suc i) x h =
      let e : suc i + 1 ≡ suc (i + 1) = omega arith in ap (λ (k : ℕ). take k (y ∷ xs)) e ∙ ap (λ (l : List X). y ∷ l) (take_next xs i x h)

  pub item_at : {Y : Type 0} (f : X → Y) (xs : List X) (i : ℕ) (x : X) → i < length xs → x ≡ get_or xs i x → slice_get (map f xs) i ≡ Some (f x)
  item_at f [] i x h e = absurd (omega (arith, h))
  item_at f (y ∷ xs) zero x h e = ap (λ (z : X). Some (f z)) (sym e)
  item_at f (y ∷ xs) (suc i) x h e = item_at f xs i x (omega (arith, h)) e

  pub own_item : (xs : List X) (i : ℕ) (x : X) → i < length xs → x ≡ get_or xs i x → slice_get xs i ≡ Some x
  own_item [] i x h e = absurd (omega (arith, h))
  own_item (y ∷ xs) zero x h e = ap Some (sym e)
  own_item (y ∷ xs) (suc i) x h e = own_item xs i x (omega (arith, h)) e

-- one word more
words_joined : (d : Defs) (ts : List PTy) (ws : List (List ℕ)) (vs : List PValue) (t : PTy) (w : List ℕ) (v : PValue) →
    AreWords d ts ws vs → IsWord d t w v → AreWords d (ts ++ t ∷ []) (ws ++ w ∷ []) (vs ++ v ∷ [])
words_joined d [] [] [] t w v h k = (k, tt)
words_joined d (a ∷ ts) (b ∷ ws) (c ∷ vs) t w v h k = (h.0, words_joined d ts ws vs t w v h.1 k)
words_joined d [] [] (c ∷ vs) t w v h k = absurd h
words_joined d [] (b ∷ ws) [] t w v h k = absurd h
words_joined d [] (b ∷ ws) (c ∷ vs) t w v h k = absurd h
words_joined d (a ∷ ts) [] [] t w v h k = absurd h
words_joined d (a ∷ ts) [] (c ∷ vs) t w v h k = absurd h
words_joined d (a ∷ ts) (b ∷ ws) [] t w v h k = absurd h

pub words_next : (d : Defs) (types : List PTy) (words : List (List ℕ)) (i : ℕ) (vs new : List PValue) (t : PTy) (w : List ℕ) (v : PValue) →
    slice_get types i ≡ Some t → slice_get words i ≡ Some w → AreWords d (take i types) (take i words) vs → IsWord d t w v →
    new ≡ vs ++ v ∷ [] → AreWords d (take (i + 1) types) (take (i + 1) words) new
words_next d types words i vs new t w v a b h k e =
    coe 1 0 (j. AreWords d (take_next types i t a j) (take_next words i w b j) (e j)) (words_joined d (take i types) (take i words) vs t w v h k)

-- one piece more
pieces_joined : (d : Defs) (ps : List (List ℕ)) (ts : List PTy) (p : List ℕ) (t : PTy) → ArePieces d ps ts → IsPiece d p t → ArePieces d (ps ++ p ∷ []) (ts ++ t ∷ [])
pieces_joined d [] [] p t h k = (k, tt)
pieces_joined d (a ∷ ps) (b ∷ ts) p t h k = (h.0, pieces_joined d ps ts p t h.1 k)
pieces_joined d [] (b ∷ ts) p t h k = absurd h
pieces_joined d (a ∷ ps) [] p t h k = absurd h

pub pieces_next : (d : Defs) (pieces : List (List ℕ)) (i : ℕ) (ts new : List PTy) (p : List ℕ) (t : PTy) → slice_get pieces i ≡ Some p →
    ArePieces d (take i pieces) ts → IsPiece d p t → new ≡ ts ++ t ∷ [] → ArePieces d (take (i + 1) pieces) new
pieces_next d pieces i ts new p t a h k e = coe 1 0 (j. ArePieces d (take_next pieces i p a j) (e j)) (pieces_joined d (take i pieces) ts p t h k)

-- a piece that is no type
pub pieces_bad : (d : Defs) (pieces : List (List ℕ)) (i : ℕ) (p : List ℕ) → slice_get pieces i ≡ Some p → ((t : PTy) → IsPiece d p t → ⊥) →
    (args : List PTy) → ArePieces d pieces args → ⊥
pieces_bad d [] i p a bad args h = absurd cc
pieces_bad d (q ∷ pieces) i p a bad [] h = h
pieces_bad d (q ∷ pieces) zero p a bad (t ∷ args) h = bad t (subst (λ x. IsPiece d x t) (same_Some q p a) h.0)
pieces_bad d (q ∷ pieces) (suc i) p a bad (t ∷ args) h = pieces_bad d pieces i p a bad args h.1

-- a reading of the words under type arguments is one of the call
pub reading_at : (d : Defs) (x : Def) (pieces words : List (List ℕ)) (args : List PTy) (r : Result (List PValue) ArgFault) → AreTypeArguments d x pieces args →
    IsReading d (parameter_types x args) words r → IsReadingAt d x pieces words r
reading_at d x pieces words args (Ok values) a h = (args, (a, h))
reading_at d x pieces words args (Err (W.WrongCount e g)) a h = (args, (a, h))
reading_at d x pieces words args (Err (W.BadValue i)) a h = (args, (a, h))
reading_at d x pieces words args (Err W.Types) a h = absurd h
reading_at d x pieces words args (Err W.Memory) a h = tt

-- what a clause says of an option that is known
pub match_none : {A : Type 0} (o : Option A) (N : Type 0) (P : A → Type 0) → o ≡ None → MatchOption o N P → N
match_none None N P e h = h
match_none (Some x) N P e h = absurd cc

pub match_some : {A : Type 0} (o : Option A) (x : A) (N : Type 0) (P : A → Type 0) → o ≡ Some x → MatchOption o N P → P x
match_some None x N P e h = absurd cc
match_some (Some y) x N P e h = subst P (same_Some y x e) h
