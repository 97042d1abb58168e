-- What is left of a stack once its newest value is taken off.
use Rattle.std.proofs.Common.{◌≡◌, List, ◌∷◌}
use Rattle.table_reader.specs.declared.item.Item.TheVariants as I
use Rattle.text_table.specs.declared.lexeme.Lexeme.{Lexeme}
use Rattle.raw_values.specs.declared.value.Value.{Value}
use Rattle.raw_values.specs.Stacked.{Stack, HasToken, Has}

-- the stack is known, and so is what was taken off it
infixl 5 ◌↓◌
pub ◌↓◌ : {A : Type 0} {x y : A} {old rest new : List A} → old ≡ x ∷ rest → old ≡ y ∷ new → new ≡ rest
e ↓ f = cc

pub token_there : {l : Lexeme} {stack below : Stack} → stack ≡ I.Token l ∷ below → HasToken stack
token_there {l} {stack} {below} e = record { value = l; below = below; is = e }

pub part_there : {A : Type 0} (variant : A → Value) (it : A) {stack below : Stack} → stack ≡ I.Part (variant it) ∷ below → Has variant stack
part_there variant it {stack} {below} e = record { value = it; below = below; is = e }
