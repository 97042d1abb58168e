-- The stack of the values of symbols, the newest first.
use Rattle.std.specs.Prelude.{◌≡◌, List, ◌∷◌}
use Rattle.table_reader.specs.declared.item.Item.{Item}
use Rattle.table_reader.specs.declared.item.Item.TheVariants as I
use Rattle.text_table.specs.declared.lexeme.Lexeme.{Lexeme}
use Rattle.raw_values.specs.declared.value.Value.{Value}

abbrev pub Stack : Type 0
Stack = List (Item Lexeme Value)

-- the newest value is a lexeme
pub record HasToken (stack : Stack) : Type 0 where
  pub value : Lexeme
  pub below : Stack
  pub is : stack ≡ I.Token value ∷ below

-- the newest value is a lexeme, and this is below
pub record HasMark (stack : Stack) (below : Stack) : Type 0 where
  pub lexeme : Lexeme
  pub is : stack ≡ I.Token lexeme ∷ below

-- the newest value is that of a part
pub record HasPart (stack : Stack) : Type 0 where
  pub value : Value
  pub below : Stack
  pub is : stack ≡ I.Part value ∷ below

-- the newest value is that of a part, and of this variant
pub record Has {A : Type 0} (variant : A → Value) (stack : Stack) : Type 0 where
  pub value : A
  pub below : Stack
  pub is : stack ≡ I.Part (variant value) ∷ below

-- a value of this variant
pub record Is {A : Type 0} (variant : A → Value) (it : Value) : Type 0 where
  pub value : A
  pub is : it ≡ variant value
