-- What each symbol of the grammar wants, before the lexemes that come after it.
use Rattle.std.specs.Prelude.{List, [], ◌∷◌, Option, Some, None, pos}
use Rattle.text_meaning.specs.declared.mark.Mark.TheVariants as M
use Rattle.text_meaning.specs.SpelledNames.{prim_tokens}
use Rattle.text_meaning.specs.Tokens.{word, number, mark}
use Rattle.text_meaning.specs.Words.{int_word}
use Rattle.text_table.specs.declared.lexeme.Lexeme.{Lexeme}
use Rattle.text_table.specs.declared.part.Part.{Part}
use Rattle.text_table.specs.declared.part.Part.TheVariants as N
use Rattle.text_table.specs.declared.terminal.Terminal.{Terminal}
use Rattle.text_table.specs.declared.terminal.Terminal.TheVariants as T
use Rattle.text_table.specs.Classes.{spelling, sample_class}
use Rattle.table_reader.specs.declared.symbol.Symbol.{Symbol}
use Rattle.table_reader.specs.declared.symbol.Symbol.TheVariants as S
use Rattle.table_reader.specs.Reading.{Parts}
use Rattle.raw_ast.specs.declared.computation.Operation.{Operation}
use Rattle.raw_ast.specs.Atoms.{rawatoms}
use Rattle.raw_ast.specs.Code.{rawarms}
use Rattle.raw_ast.specs.Types.{rawtypes}
use Rattle.raw_values.specs.declared.rests.AfterConstructor.{AfterConstructor}
use Rattle.raw_values.specs.declared.rests.AfterConstructor.TheVariants as after_constructor
use Rattle.raw_values.specs.declared.rests.AfterName.{AfterName}
use Rattle.raw_values.specs.declared.rests.AfterName.TheVariants as after_name
use Rattle.raw_values.specs.declared.rests.AfterTypeName.{AfterTypeName}
use Rattle.raw_values.specs.declared.rests.AfterTypeName.TheVariants as after_type
use Rattle.raw_values.specs.declared.rests.Bound.{Bound}
use Rattle.raw_values.specs.declared.rests.Bound.TheVariants as bound
use Rattle.raw_values.specs.declared.rests.NameEnd.{NameEnd}
use Rattle.raw_values.specs.declared.rests.VariantRest.{VariantRest}
use Rattle.raw_values.specs.Carriers.{carrier}
use Rattle.raw_ways.specs.Words.{int_of, is_true}
use Rattle.raw_meaning.specs.Wants as w
use Rattle.raw_meaning.specs.Wants.{Want, fixed, digits, numbered, Wants, marks, truth_word, type_wants, types_wants, times_wants, constructor_wants, atom_wants, atoms_wants, comma_wants, computation_wants, code_wants, arms_wants, name_part_wants, plain_fields_wants}

-- what a token wants, where it takes this lexeme
abbrev pub want_of : Terminal → Lexeme → Want
want_of T.Name l = w.name l.text
want_of T.Variable l = numbered l.text
want_of T.LoopNumber l = numbered l.text
want_of T.Back l = numbered l.text
want_of T.Number l = digits l.text
want_of T.Zero l = fixed (number (pos 0))
want_of T.One l = fixed (number (pos 1))
want_of T.Int l = fixed (word (int_word (int_of l.class)))
want_of T.Truth l = fixed (word (truth_word (is_true l.class)))
want_of T.BoolOperator l = fixed (word (spelling l.class))
want_of T.IntOperator l = fixed (word (spelling l.class))
want_of T.OpenBracket l = fixed (mark M.Open)
want_of T.CloseBracket l = fixed (mark M.Close)
want_of T.UnitValue l = fixed (mark M.Unit)
want_of T.OpenBrace l = fixed (mark M.OpenBrace)
want_of T.CloseBrace l = fixed (mark M.CloseBrace)
want_of T.Colon l = fixed (mark M.Colon)
want_of T.Becomes l = fixed (mark M.Becomes)
want_of T.Comma l = fixed (mark M.Comma)
want_of T.Semicolon l = fixed (mark M.Semicolon)
want_of T.Dot l = fixed (mark M.Dot)
want_of T.Hash l = fixed (mark M.Hash)
want_of T.Bar l = fixed (mark M.Bar)
want_of T.Gives l = fixed (mark M.Gives)
want_of T.Plus l = fixed (mark M.Plus)
want_of T.To l = fixed (mark M.To)
want_of T.From l = fixed (mark M.From)
want_of T.Times l = fixed (mark M.Times)
want_of t l = fixed (word (spelling (sample_class t)))

-- without the first
abbrev pub past : Wants → Wants
past [] = []
past (x ∷ rest) = rest

abbrev pub variant_rest_wants : VariantRest → Wants → Wants
variant_rest_wants r rest = plain_fields_wants r.fields (w.name r.end.text ∷ w.names r.parameters rest)

abbrev pub after_name_wants : AfterName → Wants → Wants
after_name_wants (after_name.Fields r) rest = marks M.To (variant_rest_wants r rest)
after_name_wants (after_name.Parameters ns) rest = w.names ns rest

abbrev pub after_type_wants : AfterTypeName → Wants → Wants
after_type_wants (after_type.Arguments xs) rest = types_wants (rawtypes xs) (marks M.Close rest)
after_type_wants (after_type.Factors xs) rest = times_wants (rawtypes xs) (marks M.Close rest)

abbrev pub after_constructor_wants : AfterConstructor → Wants → Wants
after_constructor_wants (after_constructor.Arguments xs) rest = atoms_wants (rawatoms xs) (marks M.Close rest)
after_constructor_wants (after_constructor.Parts xs) rest = comma_wants (rawatoms xs) (marks M.Close rest)

abbrev pub bound_wants : Bound → Wants → Wants
bound_wants (bound.Computation x c) rest = marks M.From (computation_wants x (marks M.Semicolon (code_wants c rest)))
bound_wants (bound.Atom x c) rest = marks M.Becomes (atom_wants x (marks M.Semicolon (code_wants c rest)))

abbrev pub end_wants : NameEnd → Wants → Wants
end_wants e rest = name_part_wants e.turn (name_part_wants e.back rest)

abbrev pub operation_wants : Operation → Wants → Wants
operation_wants o rest = w.tokens (prim_tokens o.primitive) rest

-- what follows a function of memory
abbrev pub operation_end_wants : Option Operation → Wants → Wants
operation_end_wants None rest = rest
operation_end_wants (Some o) rest = past (past (past (operation_wants o rest)))

-- what a part wants that has this value
abbrev pub wants : (n : Part) → carrier n → Wants → Wants
wants N.Text v rest = w.text_wants v rest
wants N.Types v rest = w.declarations_wants v rest
wants N.Declaration v rest = w.declaration_wants v rest
wants N.TypeParameters v rest = w.type_parameters_wants M.Open M.Close v rest
wants N.Variants v rest = w.variants_wants v rest
wants N.VariantType v rest = variant_rest_wants v rest
wants N.VariantEnd v rest = after_name_wants v rest
wants N.Names v rest = w.names v rest
wants N.Fields v rest = w.fields_wants v rest
wants N.Type v rest = type_wants v rest
wants N.OtherType v rest = type_wants v rest
wants N.TypeInBrackets v rest = past (type_wants v rest)
wants N.AfterTypeName v rest = after_type_wants v rest
wants N.TypeArguments v rest = types_wants (rawtypes v) (marks M.Close rest)
wants N.Factors v rest = times_wants (rawtypes v) (marks M.Close rest)
wants N.Definitions v rest = w.definitions_wants v rest
wants N.Definition v rest = w.definition_wants v rest
wants N.FuelParameter v rest = w.fuel_parameter_wants rest
wants N.FuelMatch v rest = w.fuel_match_wants rest
wants N.DefinitionName v rest = w.name_wants v rest
wants N.NameEnd v rest = end_wants v rest
wants N.NamePart v rest = past (end_wants v rest)
wants N.BackEnd v rest = name_part_wants v rest
wants N.ImplicitParameters v rest = w.type_parameters_wants M.OpenBrace M.CloseBrace v rest
wants N.Parameters v rest = w.parameters_wants v rest
wants N.Code v rest = code_wants v rest
wants N.Bound v rest = bound_wants v rest
wants N.Arms v rest = arms_wants (rawarms v) (marks M.Close rest)
wants N.Pattern v rest = w.pattern_wants v rest
wants N.PatternParts v rest = w.comma_variables_wants v (marks M.Close rest)
wants N.Variables v rest = w.variables_wants v rest
wants N.Computation v rest = computation_wants v rest
wants N.Primitive v rest = operation_wants v rest
wants N.CastFrom v rest = past (past (operation_wants v rest))
wants N.InMemory v rest = past (past (operation_wants v rest))
wants N.ReplaceEnd v rest = operation_end_wants v rest
wants N.SwapEnd v rest = operation_end_wants v rest
wants N.SwapRegion v rest = past (past (past (past (operation_wants v rest))))
wants N.Atom v rest = atom_wants v rest
wants N.PlainAtom v rest = atom_wants v rest
wants N.Constructor v rest = constructor_wants v rest
wants N.ExitVariant v rest = past (past (constructor_wants v rest))
wants N.AtomInBrackets v rest = past (atom_wants v rest)
wants N.AfterConstructor v rest = after_constructor_wants v rest
wants N.TupleParts v rest = comma_wants (rawatoms v) (marks M.Close rest)
wants N.Arguments v rest = atoms_wants (rawatoms v) (marks M.Close rest)
wants N.Atoms v rest = atoms_wants (rawatoms v) rest

-- what symbols want, one after another
abbrev pub all_wants : (p : List (Symbol Terminal Part)) → Parts Terminal Part Lexeme carrier p → Wants → Wants
all_wants [] vs rest = rest
all_wants (S.Token t ∷ p) vs rest = want_of t vs.0 ∷ all_wants p vs.1 rest
all_wants (S.Part n ∷ p) vs rest = wants n vs.0 (all_wants p vs.1 rest)
