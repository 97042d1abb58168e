-- For each production of the grammar, in order, what is made of the values of its symbols. Written by tools/text_ways.py.
use Rattle.std.specs.Prelude.{List, [], ◌∷◌}
use Rattle.text_table.specs.declared.part.Part.{Part}
use Rattle.text_table.specs.declared.part.Part.TheVariants as N
use Rattle.table_reader.specs.Making.{Makes, made_by}
use Rattle.table_reader.specs.Reading.{Made}
use Rattle.text_table.specs.declared.terminal.Terminal.{Terminal}
use Rattle.text_table.specs.declared.lexeme.Lexeme.{Lexeme}
use Rattle.text_table.specs.Productions.{productions}
use Rattle.raw_values.specs.Carriers.{carrier}
use Rattle.raw_ways.specs.Ways as ways

abbrev pub makes : (n : Part) → Makes Terminal Part Lexeme carrier n (productions n)
makes N.Text = ((λ v. ways.text v.1.1.1.1.0 v.1.1.1.1.1.0), tt)
makes N.Types = ((λ v. []), ((λ v. v.0 ∷ v.1.0), tt))
makes N.Declaration = ((λ v. ways.inductive v.1.0 v.1.1.0 v.1.1.1.1.0), ((λ v. ways.structure v.1.0 v.1.1.0 v.1.1.1.1.0), tt))
makes N.TypeParameters = ((λ v. []), ((λ v. (ways.spelled v.1.0) ∷ v.1.1.1.1.1.0), tt))
makes N.Variants = ((λ v. []), ((λ v. (ways.variant v.1.0 v.1.1.1.0) ∷ v.1.1.1.1.0), tt))
makes N.VariantType = ((λ v. ways.field_first v.0 v.1.1.0), ((λ v. ways.name_first v.0 v.1.0), tt))
makes N.VariantEnd = ((λ v. ways.ended), ((λ v. ways.more_fields v.1.0), ((λ v. ways.end_parameters ((ways.spelled v.0) ∷ v.1.0)), tt)))
makes N.Names = ((λ v. []), ((λ v. (ways.spelled v.0) ∷ v.1.0), tt))
makes N.Fields = ((λ v. []), ((λ v. (ways.field v.1.0 v.1.1.1.0) ∷ v.1.1.1.1.1.0), tt))
makes N.Type = ((λ v. v.0), ((λ v. ways.named_alone v.0), tt))
makes N.OtherType = ((λ v. ways.int_type v.0), ((λ v. ways.bool_type), ((λ v. ways.unit_type), ((λ v. v.1.0), tt))))
makes N.TypeInBrackets = ((λ v. ways.product_type v.0 v.1.1.0 v.1.1.1.0), ((λ v. ways.exit_type v.1.0 v.1.1.0), ((λ v. ways.after_name v.0 v.1.0), tt)))
makes N.AfterTypeName = ((λ v. ways.type_arguments (v.0 ∷ v.1.0)), ((λ v. ways.more_factors (v.1.0 ∷ v.1.1.0)), tt))
makes N.TypeArguments = ((λ v. []), ((λ v. v.0 ∷ v.1.0), tt))
makes N.Factors = ((λ v. []), ((λ v. v.1.0 ∷ v.1.1.0), tt))
makes N.Definitions = ((λ v. []), ((λ v. v.0 ∷ v.1.0), tt))
makes N.Definition = ((λ v. ways.definition v.1.0 v.1.1.0 v.1.1.1.1.0 v.1.1.1.1.1.1.1.0 v.1.1.1.1.1.1.1.1.1.1.0), tt)
makes N.FuelParameter = ((λ v. ways.nothing), tt)
makes N.FuelMatch = ((λ v. ways.nothing), tt)
makes N.DefinitionName = ((λ v. ways.definition_name v.1.1.0 v.1.1.1.0), tt)
makes N.NameEnd = ((λ v. ways.no_end), ((λ v. v.1.0), tt))
makes N.NamePart = ((λ v. ways.loop_end v.0 v.1.0), ((λ v. ways.back_end v.0), tt))
makes N.BackEnd = ((λ v. ways.no_back), ((λ v. ways.some_back v.1.0), tt))
makes N.ImplicitParameters = ((λ v. []), ((λ v. (ways.spelled v.1.0) ∷ v.1.1.1.1.1.0), tt))
makes N.Parameters = ((λ v. []), ((λ v. (ways.field v.1.0 v.1.1.1.0) ∷ v.1.1.1.1.1.0), tt))
makes N.Code = ((λ v. ways.let_code v.1.0 v.1.1.0), ((λ v. ways.match_code v.1.1.0 v.1.1.1.1.0), ((λ v. ways.last_code v.0), tt)))
makes N.Bound = ((λ v. ways.bound_computation v.1.0 v.1.1.1.0), ((λ v. ways.bound_atom v.1.0 v.1.1.1.0), tt))
makes N.Arms = ((λ v. []), ((λ v. (ways.arm v.1.0 v.1.1.1.1.0) ∷ v.1.1.1.1.1.0), tt))
makes N.Pattern = ((λ v. ways.truth_pattern v.0), ((λ v. ways.tuple_pattern v.1.0 v.1.1.1.0 v.1.1.1.1.0), ((λ v. ways.built_pattern v.0 v.1.0), tt)))
makes N.PatternParts = ((λ v. []), ((λ v. (ways.spelled v.1.0) ∷ v.1.1.0), tt))
makes N.Variables = ((λ v. []), ((λ v. (ways.spelled v.0) ∷ v.1.0), tt))
makes N.Computation = ((λ v. ways.gives v.1.0), ((λ v. ways.fails), ((λ v. ways.calls v.0 v.1.1.0), ((λ v. ways.operates v.0 v.1.0), tt))))
makes N.Primitive = ((λ v. ways.int_operation v.0 v.1.1.0), ((λ v. ways.bool_operation v.1.1.0), ((λ v. v.1.1.0), ((λ v. ways.box_new v.1.1.0), ((λ v. v.1.1.0), tt)))))
makes N.CastFrom = ((λ v. ways.cast_operation v.0 v.1.1.0), ((λ v. ways.bool_cast v.1.1.0), tt))
makes N.InMemory = ((λ v. ways.replace_operation v.0 v.1.0), ((λ v. ways.swap_operation v.0 v.1.0), tt))
makes N.ReplaceEnd = ((λ v. ways.no_operation), ((λ v. ways.some_operation (ways.replace_back v.1.0)), tt))
makes N.SwapEnd = ((λ v. ways.no_operation), ((λ v. ways.some_operation v.1.0), tt))
makes N.SwapRegion = ((λ v. ways.swap_back0 v.0), ((λ v. ways.swap_back1 v.0), tt))
makes N.Atom = ((λ v. v.0), ((λ v. ways.lone v.0), tt))
makes N.PlainAtom = ((λ v. ways.variable_atom v.0), ((λ v. ways.number_atom v.0 v.1.1.0), ((λ v. ways.truth_atom v.0), ((λ v. ways.unit_atom), ((λ v. v.1.0), tt)))))
makes N.Constructor = ((λ v. ways.variant_name v.0 v.1.1.0), ((λ v. v.1.1.0), tt))
makes N.ExitVariant = ((λ v. ways.brk v.0), ((λ v. ways.ret v.0), tt))
makes N.AtomInBrackets = ((λ v. ways.tuple_atom v.0 v.1.1.0 v.1.1.1.0), ((λ v. ways.bracketed v.0 v.1.0), tt))
makes N.AfterConstructor = ((λ v. ways.constructor_arguments (v.0 ∷ v.1.0)), ((λ v. ways.more_parts (v.1.0 ∷ v.1.1.0)), tt))
makes N.TupleParts = ((λ v. []), ((λ v. v.1.0 ∷ v.1.1.0), tt))
makes N.Arguments = ((λ v. []), ((λ v. v.0 ∷ v.1.0), tt))
makes N.Atoms = ((λ v. []), ((λ v. v.0 ∷ v.1.0), tt))

-- the productions with what they make
abbrev pub made : (n : Part) → List (Made Terminal Part Lexeme carrier n)
made n = made_by Terminal Part Lexeme carrier productions makes n
