-- Items and programs are read of their tokens.
use Rattle.std.proofs.Common.{◌≡◌, refl, ap, inl, inr, ℕ, Bool, true, false, List, [], ◌∷◌, Option, Some, None, map, subst}
use Rattle.table_reader.specs.Reading as R
use Rattle.aen_base.specs.declared.span.Span.{Span}
use Rattle.source_grammar.specs.declared.class.Class.TheVariants as C
use Rattle.source_grammar.specs.declared.lexeme.Lexeme.{Lexeme}
use Rattle.source_grammar.specs.declared.terminal.Terminal.TheVariants as T
use Rattle.source_grammar.specs.declared.part.Part.TheVariants as N
use Rattle.source_grammar.specs.declared.part.Listed.TheVariants as Of
use Rattle.rust_ast.specs.declared.ident.Ident.{Ident}
use Rattle.rust_ast.specs.declared.program.Program.{Program}
use Rattle.rust_ast.specs.declared.program.Item.{Item}
use Rattle.rust_ast.specs.declared.program.Item.TheVariants as items
use Rattle.rust_ast.specs.declared.program.Param.{Param}
use Rattle.rust_ast.specs.declared.program.Fields.{Fields}
use Rattle.rust_ast.specs.declared.program.Fields.TheVariants as has_fields
use Rattle.rust_ast.specs.declared.program.Variant.{Variant}
use Rattle.rust_ast.specs.SourceTypes as t
use Rattle.source_grammar.specs.Lexemes.{takes}
use Rattle.source_ways.specs.Carriers.{Carrier}
use Rattle.source_ways.specs.Reading.{Reads, made}
use Rattle.source_ways.specs.Says.{name_in}
use Rattle.source_ways.specs.Items.{fields_in_braces}
use Rattle.rust_printer.specs.Tok.{Tok, mark, named}
use Rattle.rust_printer.specs.WordTokens.{mut_tokens}
use Rattle.rust_printer.specs.TypeTokens.{type_tokens, types_tokens}
use Rattle.rust_printer.specs.Tokens.{names_tokens, lifetimes_tokens, params_tokens, result_tokens, named_fields_tokens, fields_tokens, variants_tokens, item_tokens, items_tokens, program_tokens}
use Rattle.rust_printer.specs.Bare.{nowhere, bare_ident, bare_written, bare_result, bare_types, bare_param, bare_field, bare_fields, bare_variant, bare_item, Same}
use Rattle.rust_printer.specs.Laid.{Laid}
use Rattle.rust_printer.specs.Laid as L
use Rattle.rust_printer.proofs.Printable.{IsName, IsType, AreNames, AreParams, IsResult, AreFields, HasFields, AreVariants, IsItem, AreItems, IsProgram, AreTypes}
use Rattle.rust_printer.proofs.ReadCommon.{Read, read_by, off, tok}
use Rattle.rust_printer.proofs.ReadTypes.{at_nowhere, type_read}
use Rattle.rust_printer.proofs.ReadExpressions.{block_read}

names_read : (names : List Ident) → AreNames names → (at : ℕ) (more : List Tok) (ls : List Lexeme) → Laid at (names_tokens names (mark C.Greater ∷ more)) ls → Read (N.List Of.TypeNames) (λ v. map bare_ident v ≡ map bare_ident names) more ls
names_read [] ok at more ls laid = let o = off laid in read_by _ (inl refl) _ o.rest (tok o T.Greater refl refl R.nothing) (refl) o.left
names_read (name ∷ names) ok at more ls laid =
    let o = off laid in
    let a = off o.left in
    let y = names_read names ok.1 a.at more a.rest a.left in
    read_by _ (inr (inl refl)) _ y.rest (tok o T.Identifier ok.0 refl (R.part (R.by _ (inr (inl refl)) _ (tok a T.Comma refl refl (R.part y.reads R.nothing))) R.nothing)) (λ i. at_nowhere (name_in (o.content i)) ∷ y.is i) y.left

lifetimes_read : (lifetimes names : List Ident) → AreNames names → (at : ℕ) (more : List Tok) (ls : List Lexeme) → Laid at (lifetimes_tokens lifetimes (names_tokens names (mark C.Greater ∷ more))) ls →
    Read N.Lifetimes (λ v. (map bare_ident v.lifetimes ≡ map bare_ident lifetimes) × (map bare_ident v.type_params ≡ map bare_ident names)) more ls
lifetimes_read [] [] ok at more ls laid = let o = off laid in read_by _ (inl refl) _ o.rest (tok o T.Greater refl refl R.nothing) ((refl, refl)) o.left
lifetimes_read [] (name ∷ names) ok at more ls laid =
    let o = off laid in
    let a = off o.left in
    let y = names_read names ok.1 a.at more a.rest a.left in
    read_by _ (inr (inr (inl refl))) _ y.rest (tok o T.Identifier ok.0 refl (R.part (R.by _ (inr (inl refl)) _ (tok a T.Comma refl refl (R.part y.reads R.nothing))) R.nothing)) (refl, (λ i. at_nowhere (name_in (o.content i)) ∷ y.is i)) y.left
lifetimes_read (life ∷ lifetimes) names ok at more ls laid =
    let o = off laid in
    let a = off o.left in
    let y = lifetimes_read lifetimes names ok a.at more a.rest a.left in
    read_by _ (inr (inl refl)) _ y.rest (tok o T.Lifetime refl refl (R.part (R.by _ (inr (inl refl)) _ (tok a T.Comma refl refl (R.part y.reads R.nothing))) R.nothing)) ((λ i. at_nowhere (name_in (o.content i)) ∷ y.is.0 i), y.is.1) y.left

by_mutable : (mutable : Bool) (name : Ident) (ty : t.Written) (params : List Param) → IsName name.name → IsType ty → (at : ℕ) (more : List Tok) (ls : List Lexeme) →
    Laid at (mut_tokens mutable (named name.name ∷ (mark C.Colon ∷ type_tokens ty (mark C.Comma ∷ params_tokens params (mark C.CloseBracket ∷ more))))) ls →
    ((from : ℕ) (us : List Lexeme) → Laid from (params_tokens params (mark C.CloseBracket ∷ more)) us → Read (N.List Of.Parameters) (λ v. map bare_param v ≡ map bare_param params) more us) →
    Read (N.List Of.Parameters) (λ v. map bare_param v ≡ (record { mutable = mutable; name = bare_ident name; ty = bare_written ty }) ∷ map bare_param params) more ls
by_mutable true name ty params ok fits at more ls laid f =
    let m = off laid in
    let o = off m.left in
    let b = off o.left in
    let x = type_read ty fits b.at _ b.rest b.left in
    let a = off x.left in
    let y = f a.at a.rest a.left in
    read_by _ (inr (inl refl)) _ y.rest (R.part (R.by _ (inl refl) _ (tok m T.Mut refl refl (tok o T.Identifier ok refl (tok b T.Colon refl refl (R.part x.reads R.nothing))))) (R.part (R.by _ (inr (inl refl)) _ (tok a T.Comma refl refl (R.part y.reads R.nothing))) R.nothing)) (λ i. (record { mutable = true; name = at_nowhere (name_in (o.content i)); ty = x.is i }) ∷ y.is i) y.left
by_mutable false name ty params ok fits at more ls laid f =
    let o = off laid in
    let b = off o.left in
    let x = type_read ty fits b.at _ b.rest b.left in
    let a = off x.left in
    let y = f a.at a.rest a.left in
    read_by _ (inr (inl refl)) _ y.rest (R.part (R.by _ (inr (inl refl)) _ (tok o T.Identifier ok refl (tok b T.Colon refl refl (R.part x.reads R.nothing)))) (R.part (R.by _ (inr (inl refl)) _ (tok a T.Comma refl refl (R.part y.reads R.nothing))) R.nothing)) (λ i. (record { mutable = false; name = at_nowhere (name_in (o.content i)); ty = x.is i }) ∷ y.is i) y.left

params_read : (params : List Param) → AreParams params → (at : ℕ) (more : List Tok) (ls : List Lexeme) → Laid at (params_tokens params (mark C.CloseBracket ∷ more)) ls → Read (N.List Of.Parameters) (λ v. map bare_param v ≡ map bare_param params) more ls
params_read [] ok at more ls laid = let o = off laid in read_by _ (inl refl) _ o.rest (tok o T.CloseBracket refl refl R.nothing) (refl) o.left
params_read (param ∷ params) ok at more ls laid = by_mutable param.mutable param.name param.ty params ok.0 ok.1.0 at more ls laid (λ from us l. params_read params ok.1.1 from more us l)

result_read : (result : Option t.Written) → IsResult result → (at : ℕ) (more : List Tok) (ls : List Lexeme) → Laid at (result_tokens result more) ls → Read N.Result (λ v. bare_result v ≡ bare_result result) more ls
result_read None ok at more ls laid = read_by _ (inl refl) _ ls R.nothing refl laid
result_read (Some ty) ok at more ls laid =
    let a = off laid in
    let x = type_read ty ok a.at more a.rest a.left in
    read_by _ (inr (inl refl)) _ x.rest (tok a T.Arrow refl refl (R.part x.reads R.nothing)) (ap (λ (w : t.Written). Some w) x.is) x.left

fields_read : (fields : List (Span × List ℕ × t.Written)) → AreFields fields → (at : ℕ) (more : List Tok) (ls : List Lexeme) → Laid at (named_fields_tokens fields (mark C.CloseBrace ∷ more)) ls → Read (N.List Of.Fields) (λ v. map bare_field v ≡ map bare_field fields) more ls
fields_read [] ok at more ls laid = let o = off laid in read_by _ (inl refl) _ o.rest (tok o T.CloseBrace refl refl R.nothing) (refl) o.left
fields_read (field ∷ fields) ok at more ls laid =
    let o = off laid in
    let b = off o.left in
    let x = type_read field.2 ok.1.0 b.at _ b.rest b.left in
    let a = off x.left in
    let y = fields_read fields ok.1.1 a.at more a.rest a.left in
    read_by _ (inr (inl refl)) _ y.rest (R.part (R.by _ (inr (inl refl)) _ (tok o T.Identifier ok.0 refl (tok b T.Colon refl refl (R.part x.reads R.nothing)))) (R.part (R.by _ (inr (inl refl)) _ (tok a T.Comma refl refl (R.part y.reads R.nothing))) R.nothing)) (λ i. (nowhere, name_in (o.content i), x.is i) ∷ y.is i) y.left

placed_read : (tys : List t.Written) → AreTypes (t.writtens tys) → (at : ℕ) (more : List Tok) (ls : List Lexeme) → Laid at (types_tokens (t.writtens tys) (mark C.CloseBracket ∷ more)) ls → Read (N.List Of.TupleFields) (λ v. bare_types v ≡ bare_types tys) more ls
placed_read [] ok at more ls laid = let o = off laid in read_by _ (inl refl) _ o.rest (tok o T.CloseBracket refl refl R.nothing) (refl) o.left
placed_read (ty ∷ tys) ok at more ls laid =
    let x = type_read ty ok.0 at _ ls laid in
    let a = off x.left in
    let y = placed_read tys ok.1 a.at more a.rest a.left in
    read_by _ (inr (inl refl)) _ y.rest (R.part (R.by _ (inr (inl refl)) _ (R.part x.reads R.nothing)) (R.part (R.by _ (inr (inl refl)) _ (tok a T.Comma refl refl (R.part y.reads R.nothing))) R.nothing)) (λ i. x.is i ∷ y.is i) y.left

-- what is kept of types in brackets
types_list : (tys : List t.Written) → AreTypes (t.writtens tys) → (at : ℕ) (more : List Tok) (ls : List Lexeme) → Laid at (types_tokens (t.writtens tys) (mark C.CloseBracket ∷ more)) ls → Read (N.List Of.Types) (λ v. bare_types v ≡ bare_types tys) more ls
types_list [] ok at more ls laid = let o = off laid in read_by _ (inl refl) _ o.rest (tok o T.CloseBracket refl refl R.nothing) (refl) o.left
types_list (ty ∷ tys) ok at more ls laid =
    let x = type_read ty ok.0 at _ ls laid in
    let a = off x.left in
    let y = types_list tys ok.1 a.at more a.rest a.left in
    read_by _ (inr (inl refl)) _ y.rest (R.part (x.reads) (R.part (R.by _ (inr (inl refl)) _ (tok a T.Comma refl refl (R.part y.reads R.nothing))) R.nothing)) (λ i. x.is i ∷ y.is i) y.left

in_braces : (v : List (Span × List ℕ × t.Written)) (field : Span × List ℕ × t.Written) (fields : List (Span × List ℕ × t.Written)) → map bare_field v ≡ field ∷ fields → bare_fields (fields_in_braces v) ≡ has_fields.Named (field ∷ fields)
in_braces [] field fields h = cc
in_braces (x ∷ v) field fields h = ap has_fields.Named h

body_of_struct : (fields : Fields) → HasFields fields → (at : ℕ) (more : List Tok) (ls : List Lexeme) → Laid at (fields_tokens fields more) ls → Read N.StructBody (λ v. bare_fields v ≡ bare_fields fields) more ls
body_of_struct (has_fields.Named []) ok at more ls laid = absurd ok
body_of_struct (has_fields.Named (field ∷ fields)) ok at more ls laid =
    let a = off laid in
    let x = fields_read (field ∷ fields) ok a.at more a.rest a.left in
    read_by _ (inl refl) _ x.rest (tok a T.OpenBrace refl refl (R.part x.reads R.nothing)) (in_braces x.value.value (bare_field field) (map bare_field fields) x.is) x.left
body_of_struct (has_fields.Placed tys) ok at more ls laid =
    let a = off laid in
    let x = placed_read tys ok a.at _ a.rest a.left in
    let b = off x.left in
    read_by _ (inr (inl refl)) _ b.rest (tok a T.OpenBracket refl refl (R.part x.reads (tok b T.Semicolon refl refl R.nothing))) (ap has_fields.Placed x.is) b.left

variants_read : (variants : List Variant) → AreVariants variants → (at : ℕ) (more : List Tok) (ls : List Lexeme) → Laid at (variants_tokens variants (mark C.CloseBrace ∷ more)) ls → Read (N.List Of.Variants) (λ v. map bare_variant v ≡ map bare_variant variants) more ls
variants_read [] ok at more ls laid = let o = off laid in read_by _ (inl refl) _ o.rest (tok o T.CloseBrace refl refl R.nothing) (refl) o.left
variants_read (variant ∷ variants) ok at more ls laid =
    let o = off laid in
    let b = off o.left in
    let x = types_list variant.fields ok.1.0 b.at _ b.rest b.left in
    let a = off x.left in
    let y = variants_read variants ok.1.1 a.at more a.rest a.left in
    read_by _ (inr (inl refl)) _ y.rest (R.part (R.by _ (inl refl) _ (tok o T.Identifier ok.0 refl (R.part (R.by _ (inr (inl refl)) _ (tok b T.OpenBracket refl refl (R.part x.reads R.nothing))) R.nothing))) (R.part (R.by _ (inr (inl refl)) _ (tok a T.Comma refl refl (R.part y.reads R.nothing))) R.nothing)) (λ i. (record { name = at_nowhere (name_in (o.content i)); fields = x.is i }) ∷ y.is i) y.left

item_read : (item : Item) → IsItem item → (at : ℕ) (more : List Tok) (ls : List Lexeme) → Laid at (item_tokens item more) ls → Read N.Item (λ v. bare_item v ≡ bare_item item) more ls
item_read (items.Function f) ok at more ls laid =
    let a = off laid in
    let o = off a.left in
    let b = off o.left in
    let g = lifetimes_read f.lifetimes f.type_params ok.1.0 b.at _ b.rest b.left in
    let c = off g.left in
    let x = params_read f.params ok.1.1.0 c.at _ c.rest c.left in
    let y = result_read f.result ok.1.1.1.0 x.at _ x.rest x.left in
    let z = block_read f.body ok.1.1.1.1 y.at more y.rest y.left in
    read_by _ (inr (inl refl)) _ z.rest (R.part (R.by _ (inl refl) _ (tok a T.Fn refl refl (tok o T.Identifier ok.0 refl (R.part (R.by _ (inr (inl refl)) _ (tok b T.Less refl refl (R.part g.reads R.nothing))) (tok c T.OpenBracket refl refl (R.part x.reads (R.part y.reads (R.part z.reads R.nothing)))))))) R.nothing) (λ i. items.Function (record { name = at_nowhere (name_in (o.content i)); lifetimes = g.is.0 i; type_params = g.is.1 i; params = x.is i; result = y.is i; body = z.is i })) z.left
item_read (items.Struct x) ok at more ls laid =
    let a = off laid in
    let o = off a.left in
    let b = off o.left in
    let g = names_read x.params ok.1.0 b.at _ b.rest b.left in
    let y = body_of_struct x.fields ok.1.1 g.at more g.rest g.left in
    read_by _ (inr (inl refl)) _ y.rest (R.part (R.by _ (inr (inl refl)) _ (tok a T.Struct refl refl (tok o T.Identifier ok.0 refl (R.part (R.by _ (inr (inl refl)) _ (tok b T.Less refl refl (R.part g.reads R.nothing))) (R.part y.reads R.nothing))))) R.nothing) (λ i. items.Struct (record { name = at_nowhere (name_in (o.content i)); params = g.is i; fields = y.is i })) y.left
item_read (items.Enum x) ok at more ls laid =
    let a = off laid in
    let o = off a.left in
    let b = off o.left in
    let g = names_read x.params ok.1.0 b.at _ b.rest b.left in
    let c = off g.left in
    let y = variants_read x.variants ok.1.1 c.at more c.rest c.left in
    read_by _ (inr (inl refl)) _ y.rest (R.part (R.by _ (inr (inr (inl refl))) _ (tok a T.Enum refl refl (tok o T.Identifier ok.0 refl (R.part (R.by _ (inr (inl refl)) _ (tok b T.Less refl refl (R.part g.reads R.nothing))) (tok c T.OpenBrace refl refl (R.part y.reads R.nothing)))))) R.nothing) (λ i. items.Enum (record { name = at_nowhere (name_in (o.content i)); params = g.is i; variants = y.is i })) y.left
item_read items.UseMem ok at more ls laid =
    let a = off laid in
    let b = off a.left in
    let c = off b.left in
    let d = off c.left in
    let e = off d.left in
    read_by _ (inr (inr (inl refl))) _ e.rest (tok a T.Use refl refl (tok b T.Std refl refl (tok c T.Colons refl refl (tok d T.Mem refl refl (tok e T.Semicolon refl refl R.nothing))))) (refl) e.left

items_read : (list : List Item) → AreItems list → (at : ℕ) (more : List Tok) (ls : List Lexeme) → Laid at (items_tokens list more) ls → Read N.Items (λ v. map bare_item v ≡ map bare_item list) more ls
items_read [] ok at more ls laid = read_by _ (inl refl) _ ls R.nothing refl laid
items_read (item ∷ list) ok at more ls laid =
    let x = item_read item ok.0 at _ ls laid in
    let y = items_read list ok.1 x.at more x.rest x.left in
    read_by _ (inr (inr (inl refl))) _ y.rest (R.part x.reads (R.part y.reads R.nothing)) (λ i. x.is i ∷ y.is i) y.left

whole_read : (list : List Item) → AreItems list → (at : ℕ) (more : List Tok) (ls : List Lexeme) → Laid at (items_tokens list more) ls → Read N.Program (λ v. map bare_item v ≡ map bare_item list) more ls
whole_read [] ok at more ls laid = read_by _ (inl refl) _ ls R.nothing refl laid
whole_read (item ∷ list) ok at more ls laid =
    let x = item_read item ok.0 at _ ls laid in
    let y = items_read list ok.1 x.at more x.rest x.left in
    read_by _ (inr (inr (inl refl))) _ y.rest (R.part x.reads (R.part y.reads R.nothing)) (λ i. x.is i ∷ y.is i) y.left

all_read : {at : ℕ} {ls : List Lexeme} → Laid at [] ls → ls ≡ []
all_read L.nothing = refl

-- lexemes of the tokens that a printable program is printed as are read as the same program
pub read_back : (x : Program) → IsProgram x → (ls : List Lexeme) → Laid 0 (program_tokens x) ls → (q : Program) × (Reads ls q × Same q x)
read_back x ok ls laid =
    let r = whole_read x.items ok 0 [] ls laid in
    (record { items = r.value.value }, ((r.value, (subst (λ us. R.Reads takes Carrier made N.Program ls us r.value) (all_read r.left) r.reads, refl)), (λ i. record { items = r.is i })))
