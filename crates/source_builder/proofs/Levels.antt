-- Levels of operators build alike. Written by tools/source_build.py.
use Rattle.std.proofs.Common.{◌≡◌, refl, ℕ, zero, suc, List, [], ◌∷◌, IfOk}
use Rattle.std.specs.declared.result.Result.{Result}
use Rattle.table_reader.specs.Reading.{Made}
use Rattle.table_reader.specs.Building as table
use Rattle.aen_base.specs.declared.memory.NoMem.{NoMem}
use Rattle.source_grammar.specs.declared.lexeme.Lexeme.{Lexeme}
use Rattle.source_grammar.specs.declared.terminal.Terminal.{Terminal}
use Rattle.source_grammar.specs.declared.part.Part.{Part}
use Rattle.source_grammar.specs.declared.part.Part.TheVariants as N
use Rattle.source_grammar.specs.declared.part.Context.{Context}
use Rattle.source_grammar.specs.declared.part.Context.TheVariants as At
use Rattle.source_grammar.specs.declared.part.Level.{Level}
use Rattle.source_grammar.specs.declared.part.Level.TheVariants as L
use Rattle.source_ways.specs.Carriers.{Carrier}
use Rattle.source_values.specs.declared.value.Value.{Value}
use Rattle.source_values.specs.Held.{held}
use Rattle.source_values.specs.Stacked.{Stack, CanBuild, IsBuilt}

pub level : (l : Level) (m : Context) (stack : Stack) → CanBuild (N.Level l m) 0 stack → CanBuild N.LeadingExpression 3 stack
level L.Or m stack h = record { value = h.value; below = h.below; makes = h.makes }
level L.And m stack h = record { value = h.value; below = h.below; makes = h.makes }
level L.Compare m stack h = record { value = h.value; below = h.below; makes = h.makes }
level L.BitOr m stack h = record { value = h.value; below = h.below; makes = h.makes }
level L.Xor m stack h = record { value = h.value; below = h.below; makes = h.makes }
level L.BitAnd m stack h = record { value = h.value; below = h.below; makes = h.makes }
level L.Shift m stack h = record { value = h.value; below = h.below; makes = h.makes }
level L.Sum m stack h = record { value = h.value; below = h.below; makes = h.makes }
level L.Product m stack h = record { value = h.value; below = h.below; makes = h.makes }

pub level_built : (l : Level) (m : Context) (stack new : Stack) (result : Result Value NoMem) →
    IfOk result (λ it. IsBuilt N.LeadingExpression 3 stack it new) → IfOk result (λ it. IsBuilt (N.Level l m) 0 stack it new)
level_built L.Or m stack new result h = h
level_built L.And m stack new result h = h
level_built L.Compare m stack new result h = h
level_built L.BitOr m stack new result h = h
level_built L.Xor m stack new result h = h
level_built L.BitAnd m stack new result h = h
level_built L.Shift m stack new result h = h
level_built L.Sum m stack new result h = h
level_built L.Product m stack new result h = h

pub leading_level : (l : Level) (stack : Stack) → CanBuild (N.LeadingLevel l) 0 stack → CanBuild N.LeadingExpression 3 stack
leading_level L.Or stack h = record { value = h.value; below = h.below; makes = h.makes }
leading_level L.And stack h = record { value = h.value; below = h.below; makes = h.makes }
leading_level L.Compare stack h = record { value = h.value; below = h.below; makes = h.makes }
leading_level L.BitOr stack h = record { value = h.value; below = h.below; makes = h.makes }
leading_level L.Xor stack h = record { value = h.value; below = h.below; makes = h.makes }
leading_level L.BitAnd stack h = record { value = h.value; below = h.below; makes = h.makes }
leading_level L.Shift stack h = record { value = h.value; below = h.below; makes = h.makes }
leading_level L.Sum stack h = record { value = h.value; below = h.below; makes = h.makes }
leading_level L.Product stack h = record { value = h.value; below = h.below; makes = h.makes }

pub leading_level_built : (l : Level) (stack new : Stack) (result : Result Value NoMem) →
    IfOk result (λ it. IsBuilt N.LeadingExpression 3 stack it new) → IfOk result (λ it. IsBuilt (N.LeadingLevel l) 0 stack it new)
leading_level_built L.Or stack new result h = h
leading_level_built L.And stack new result h = h
leading_level_built L.Compare stack new result h = h
leading_level_built L.BitOr stack new result h = h
leading_level_built L.Xor stack new result h = h
leading_level_built L.BitAnd stack new result h = h
leading_level_built L.Shift stack new result h = h
leading_level_built L.Sum stack new result h = h
leading_level_built L.Product stack new result h = h

pub no_more : (l : Level) (m : Context) (stack : Stack) → CanBuild (N.More l m) 0 stack → CanBuild (N.MoreAssign At.Free) 0 stack
no_more L.Or m stack h = record { value = h.value; below = h.below; makes = h.makes }
no_more L.And m stack h = record { value = h.value; below = h.below; makes = h.makes }
no_more L.Compare m stack h = record { value = h.value; below = h.below; makes = h.makes }
no_more L.BitOr m stack h = record { value = h.value; below = h.below; makes = h.makes }
no_more L.Xor m stack h = record { value = h.value; below = h.below; makes = h.makes }
no_more L.BitAnd m stack h = record { value = h.value; below = h.below; makes = h.makes }
no_more L.Shift m stack h = record { value = h.value; below = h.below; makes = h.makes }
no_more L.Sum m stack h = record { value = h.value; below = h.below; makes = h.makes }
no_more L.Product m stack h = record { value = h.value; below = h.below; makes = h.makes }

pub no_more_built : (l : Level) (m : Context) (stack new : Stack) (result : Result Value NoMem) →
    IfOk result (λ it. IsBuilt (N.MoreAssign At.Free) 0 stack it new) → IfOk result (λ it. IsBuilt (N.More l m) 0 stack it new)
no_more_built L.Or m stack new result h = h
no_more_built L.And m stack new result h = h
no_more_built L.Compare m stack new result h = h
no_more_built L.BitOr m stack new result h = h
no_more_built L.Xor m stack new result h = h
no_more_built L.BitAnd m stack new result h = h
no_more_built L.Shift m stack new result h = h
no_more_built L.Sum m stack new result h = h
no_more_built L.Product m stack new result h = h

-- of two productions none stands in a third place
third : (n : Part) (a b : Made Terminal Part Lexeme Carrier n) (i : ℕ) (stack : Stack) → (i ≡ 0 → ⊥) → (i ≡ 1 → ⊥) →
    table.CanBuild Carrier held n (a ∷ b ∷ []) i stack → ⊥
third n a b zero stack first second h = first refl
third n a b (suc zero) stack first second h = second refl
third n a b (suc (suc i)) stack first second h = h.makes

pub no_third : (l : Level) (m : Context) (i : ℕ) (stack : Stack) → (i ≡ 0 → ⊥) → (i ≡ 1 → ⊥) → CanBuild (N.More l m) i stack → ⊥
no_third L.Or m i stack first second h = third (N.More L.Or m) _ _ i stack first second h
no_third L.And m i stack first second h = third (N.More L.And m) _ _ i stack first second h
no_third L.Compare m i stack first second h = third (N.More L.Compare m) _ _ i stack first second h
no_third L.BitOr m i stack first second h = third (N.More L.BitOr m) _ _ i stack first second h
no_third L.Xor m i stack first second h = third (N.More L.Xor m) _ _ i stack first second h
no_third L.BitAnd m i stack first second h = third (N.More L.BitAnd m) _ _ i stack first second h
no_third L.Shift m i stack first second h = third (N.More L.Shift m) _ _ i stack first second h
no_third L.Sum m i stack first second h = third (N.More L.Sum m) _ _ i stack first second h
no_third L.Product m i stack first second h = third (N.More L.Product m) _ _ i stack first second h
