-- The stack of the values of symbols, the newest first, and what a production builds of them.
use Rattle.std.specs.Prelude.{◌≡◌, ℕ, List, ◌∷◌}
use Rattle.aen_base.specs.declared.span.Span.{Span}
use Rattle.table_reader.specs.declared.item.Item.{Item}
use Rattle.table_reader.specs.declared.item.Item.TheVariants as I
use Rattle.table_reader.specs.Building as table
use Rattle.source_grammar.specs.declared.lexeme.Lexeme.{Lexeme}
use Rattle.source_grammar.specs.declared.part.Part.{Part}
use Rattle.source_ways.specs.Carriers.{Carrier}
use Rattle.source_ways.specs.Reading.{made}
use Rattle.source_values.specs.declared.value.Value.{Value}
use Rattle.source_values.specs.Held.{held}

abbrev pub Stack : Type 0
Stack = List (Item Lexeme Value)

-- the newest value is a lexeme
pub record HasToken (stack : Stack) : Type 0 where
  pub value : Lexeme
  pub below : Stack
  pub is : stack ≡ I.Token value ∷ below

-- the newest value is a lexeme that stands there, and this is below
pub record HasMark (stack : Stack) (span : Span) (below : Stack) : Type 0 where
  pub lexeme : Lexeme
  pub is : stack ≡ I.Token lexeme ∷ below
  pub stands : span ≡ lexeme.span

-- the newest value is that of a part
pub record HasPart (stack : Stack) : Type 0 where
  pub value : Value
  pub below : Stack
  pub is : stack ≡ I.Part value ∷ below

-- the newest value is that of a part, and of this variant
pub record Has {A : Type 0} (variant : A → Value) (stack : Stack) : Type 0 where
  pub value : A
  pub below : Stack
  pub is : stack ≡ I.Part (variant value) ∷ below

-- a value of this variant
pub record Is {A : Type 0} (variant : A → Value) (it : Value) : Type 0 where
  pub value : A
  pub is : it ≡ variant value

-- the values of the symbols of a part's production in this place stand on top
abbrev pub CanBuild : Part → ℕ → Stack → Type 0
CanBuild n i stack = table.CanBuild Carrier held n (made n) i stack

-- this is the value that it makes of them, and this is what stood below
abbrev pub IsBuilt : Part → ℕ → Stack → Value → Stack → Type 0
IsBuilt n i stack it new = table.IsBuilt Carrier held n (made n) i stack it new
