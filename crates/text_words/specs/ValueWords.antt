-- Words of a call that write values, and pieces of it that write types (TEXT.md, "Grammar").
use Rattle.std.specs.Prelude.{◌≡◌, ℕ, true, List, [], ◌∷◌, length, map, take, slice_get, Some, Result, Ok, Err}
use Rattle.pure_ast.specs.declared.def.Def.{Def}
use Rattle.pure_ast.specs.declared.def.Defs.{Defs}
use Rattle.pure_ast.specs.Types.{PTy}
use Rattle.pure_ast.specs.Values.{PValue}
use Rattle.text_meaning.specs.HasType.{HasType, put_in}
use Rattle.text_meaning.specs.Lexing.{Lexed}
use Rattle.text_meaning.specs.SpelledTerms.{term_tokens}
use Rattle.text_meaning.specs.SpelledTypes.{type_tokens}
use Rattle.text_meaning.specs.ValueTerms.{value_term}
use Rattle.text_meaning.specs.WellFormedTerms.{IsTerm}
use Rattle.text_meaning.specs.WellFormedTypes.{IsType}
use Rattle.text_syntax.specs.Brackets.{few_open}
use Rattle.text_words.specs.declared.arguments.ArgFault.{ArgFault}
use Rattle.text_words.specs.declared.arguments.ArgFault.TheVariants as W

-- the word is this value's atom, and the value has the type
pub record IsWord (defs : Defs) (ty : PTy) (word : List ℕ) (v : PValue) : Type 0 where
  pub tokens : Lexed (term_tokens defs (value_term v)) word
  pub term : IsTerm defs (value_term v)
  pub few : few_open 0 (term_tokens defs (value_term v)) ≡ true
  pub type : HasType defs ty v

-- the piece is this type, which has no type parameters
pub record IsPiece (defs : Defs) (piece : List ℕ) (ty : PTy) : Type 0 where
  pub tokens : Lexed (type_tokens defs [] ty) piece
  pub type : IsType defs 0 ty
  pub few : few_open 0 (type_tokens defs [] ty) ≡ true

-- as many words as types and as values, each the value's, which has the type
abbrev pub AreWords : Defs → List PTy → List (List ℕ) → List PValue → Type 0
AreWords defs [] [] [] = Unit {0}
AreWords defs (t ∷ types) (w ∷ words) (v ∷ values) = IsWord defs t w v × AreWords defs types words values
AreWords defs _ _ _ = ⊥

-- as many pieces as types, each the type's
abbrev pub ArePieces : Defs → List (List ℕ) → List PTy → Type 0
ArePieces defs [] [] = Unit {0}
ArePieces defs (p ∷ pieces) (t ∷ types) = IsPiece defs p t × ArePieces defs pieces types
ArePieces defs _ _ = ⊥

-- word i is the first that is no value of its type: those before it are these values
pub record IsFirstBad (defs : Defs) (types : List PTy) (words : List (List ℕ)) (i : ℕ) : Type 0 where
  pub type : PTy
  pub wanted : slice_get types i ≡ Some type
  pub word : List ℕ
  pub found : slice_get words i ≡ Some word
  pub bad : (v : PValue) → IsWord defs type word v → ⊥
  pub values : List PValue
  pub before : AreWords defs (take i types) (take i words) values

-- the pieces are the definition's type arguments, one a type parameter
pub record AreTypeArguments (defs : Defs) (d : Def) (pieces : List (List ℕ)) (args : List PTy) : Type 0 where
  pub count : length pieces ≡ length d.type_params
  pub types : ArePieces defs pieces args

-- the types of the parameters with the type arguments put in
abbrev pub parameter_types : Def → List PTy → List PTy
parameter_types d args = map (put_in args) d.params

-- what is read of words where values of these types are expected
abbrev pub IsReading : Defs → List PTy → List (List ℕ) → Result (List PValue) ArgFault → Type 0
IsReading defs types words (Ok values) = AreWords defs types words values
IsReading defs types words (Err (W.WrongCount expected given)) =
    (length types ≡ length words → ⊥) × (expected ≡ length types) × (given ≡ length words)
IsReading defs types words (Err (W.BadValue i)) = (length types ≡ length words) × IsFirstBad defs types words i
IsReading defs types words (Err W.Types) = ⊥
IsReading defs types words (Err W.Memory) = Unit {0}

-- no pieces are type arguments where that is the fault
abbrev pub IsReadingAt : Defs → Def → List (List ℕ) → List (List ℕ) → Result (List PValue) ArgFault → Type 0
IsReadingAt defs d pieces words (Err W.Types) = (args : List PTy) → AreTypeArguments defs d pieces args → ⊥
IsReadingAt defs d pieces words (Err W.Memory) = Unit {0}
IsReadingAt defs d pieces words r =
    (args : List PTy) × (AreTypeArguments defs d pieces args × IsReading defs (parameter_types d args) words r)
