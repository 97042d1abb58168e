-- The tokens of items are lexed as themselves.
use Rattle.std.proofs.Common.{refl, ℕ, false, List, [], ◌∷◌, Option, Some, None}
use Rattle.aen_base.specs.declared.span.Span.{Span}
use Rattle.rust_ast.specs.declared.ident.Ident.{Ident}
use Rattle.rust_ast.specs.declared.program.Item.{Item}
use Rattle.rust_ast.specs.declared.program.Item.TheVariants as items
use Rattle.rust_ast.specs.declared.program.Param.{Param}
use Rattle.rust_ast.specs.declared.program.Fields.{Fields}
use Rattle.rust_ast.specs.declared.program.Fields.TheVariants as has_fields
use Rattle.rust_ast.specs.declared.program.Variant.{Variant}
use Rattle.rust_ast.specs.SourceTypes as t
use Rattle.source_grammar.specs.declared.class.Class.TheVariants as C
use Rattle.rust_printer.specs.Tok.{Tok}
use Rattle.rust_printer.specs.Tokens.{names_tokens, lifetimes_tokens, generics_tokens, params_tokens, result_tokens, named_fields_tokens, fields_tokens, variants_tokens, item_tokens, items_tokens}
use Rattle.print_lexed.proofs.Sequences.{AreLexed, none, then_blank}
use Rattle.print_lexed.proofs.LexedTypes.{then_mark, then_name, mut_lexed, type_lexed, types_lexed, std_lexed, mem_lexed}
use Rattle.print_lexed.proofs.LexedExpressions.{block_lexed}
use Rattle.print_lexed.proofs.Spellable.{AreNames, AreLives, AreParams, IsResult, AreFields, HasFields, AreVariants, IsItem, AreItems}

names_lexed : (xs : List Ident) → AreNames xs → {more : List Tok} → AreLexed false more → AreLexed false (names_tokens xs more)
names_lexed [] k m = m
names_lexed (name ∷ names) k m = then_name name.name k.0 (then_mark C.Comma refl refl (names_lexed names k.1 m))

lives_lexed : (xs : List Ident) → AreLives xs → {more : List Tok} → AreLexed false more → AreLexed false (lifetimes_tokens xs more)
lives_lexed [] k m = m
lives_lexed (name ∷ names) k m = then_blank k.0 refl (then_mark C.Comma refl refl (lives_lexed names k.1 m))

generics_lexed : (lives names : List Ident) → AreLives lives → AreNames names → {more : List Tok} → AreLexed false more → AreLexed false (generics_tokens lives names more)
generics_lexed lives names k j m = then_mark C.Less refl refl (lives_lexed lives k (names_lexed names j (then_mark C.Greater refl refl m)))

params_lexed : (xs : List Param) → AreParams xs → {more : List Tok} → AreLexed false more → AreLexed false (params_tokens xs more)
params_lexed [] k m = m
params_lexed (param ∷ params) k m = mut_lexed param.mutable (then_name param.name.name k.0 (then_mark C.Colon refl refl (type_lexed param.ty k.1.0 (then_mark C.Comma refl refl (params_lexed params k.1.1 m)))))

result_lexed : (x : Option t.Written) → IsResult x → {more : List Tok} → AreLexed false more → AreLexed false (result_tokens x more)
result_lexed None k m = m
result_lexed (Some ty) k m = then_mark C.Arrow refl refl (type_lexed ty k m)

named_fields_lexed : (xs : List (Span × List ℕ × t.Written)) → AreFields xs → {more : List Tok} → AreLexed false more → AreLexed false (named_fields_tokens xs more)
named_fields_lexed [] k m = m
named_fields_lexed (field ∷ fields) k m = then_name field.1 k.0 (then_mark C.Colon refl refl (type_lexed field.2 k.1.0 (then_mark C.Comma refl refl (named_fields_lexed fields k.1.1 m))))

fields_lexed : (x : Fields) → HasFields x → {more : List Tok} → AreLexed false more → AreLexed false (fields_tokens x more)
fields_lexed (has_fields.Named fields) k m = then_mark C.OpenBrace refl refl (named_fields_lexed fields k (then_mark C.CloseBrace refl refl m))
fields_lexed (has_fields.Placed tys) k m = then_mark C.OpenBracket refl refl (types_lexed (t.writtens tys) k (then_mark C.CloseBracket refl refl (then_mark C.Semicolon refl refl m)))

variants_lexed : (xs : List Variant) → AreVariants xs → {more : List Tok} → AreLexed false more → AreLexed false (variants_tokens xs more)
variants_lexed [] k m = m
variants_lexed (variant ∷ variants) k m =
    then_name variant.name.name k.0 (then_mark C.OpenBracket refl refl (types_lexed (t.writtens variant.fields) k.1.0 (then_mark C.CloseBracket refl refl (then_mark C.Comma refl refl (variants_lexed variants k.1.1 m)))))

item_lexed : (x : Item) → IsItem x → {more : List Tok} → AreLexed false more → AreLexed false (item_tokens x more)
item_lexed (items.Function f) k m =
    then_mark C.Fn refl refl (then_name f.name.name k.0 (generics_lexed f.lifetimes f.type_params k.1.0.0 k.1.0.1 (then_mark C.OpenBracket refl refl (params_lexed f.params k.1.1.0
    (then_mark C.CloseBracket refl refl (result_lexed f.result k.1.1.1.0 (block_lexed f.body k.1.1.1.1 m)))))))
item_lexed (items.Struct x) k m = then_mark C.Struct refl refl (then_name x.name.name k.0 (generics_lexed [] x.params tt k.1.0 (fields_lexed x.fields k.1.1 m)))
item_lexed (items.Enum x) k m = then_mark C.Enum refl refl (then_name x.name.name k.0 (generics_lexed [] x.params tt k.1.0 (then_mark C.OpenBrace refl refl (variants_lexed x.variants k.1.1 (then_mark C.CloseBrace refl refl m)))))
item_lexed items.UseMem k m = then_mark C.Use refl refl (then_blank std_lexed refl (then_mark C.Colons refl refl (then_blank mem_lexed refl (then_mark C.Semicolon refl refl m))))

pub items_lexed : (xs : List Item) → AreItems xs → AreLexed false (items_tokens xs [])
items_lexed [] k = none
items_lexed (item ∷ items) k = item_lexed item k.0 (items_lexed items k.1)
