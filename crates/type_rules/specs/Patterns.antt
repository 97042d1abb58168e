-- Patterns: what they meet, and the types of their names (LANGUAGE.md, "Patterns").
use Rattle.std.specs.Prelude.{Bool, true, false, Result, Ok, ℕ, suc, ◌+◌, ◌==◌, not, ◌||◌, nat_lt, Option, List, [], ◌∷◌, length, ◌++◌}
use Rattle.aen_base.specs.declared.span.Span.{Span}
use Rattle.core_ty.specs.declared.decl.TypeDecl.{TypeDecl}
use Rattle.type_rules.specs.Binding.{Bound, Met, bound, inside, looked}
use Rattle.type_rules.specs.Constructors.{constructor_arguments, field_number, field_type, is_no_field, is_no_tuple, is_not_bool, is_other_declared, is_wrong_list, put_in_fields, tuple_types}
use Rattle.type_rules.specs.Faults.{Fault, and_then, refuse}
use Rattle.type_rules.specs.Fields.{field_named, fields_of, parameters_of}
use Rattle.type_rules.specs.Lists.{head_of, rest_of}
use Rattle.type_rules.specs.Literals.{literal}
use Rattle.type_rules.specs.TypesInBodies.{arguments_lists}
use Rattle.type_rules.specs.declared.fault.KindOfFault.TheVariants.{Mismatch, Arity, Field}
use Rattle.rust_ast.specs.Patterns as p
use Rattle.rust_ast.specs.SpelledPatterns as q
use Rattle.core_ty.specs.Types as t

abbrev pub pats_length : q.Pats → ℕ
pats_length q.no_pats = 0
pats_length (q.more_pats x xs) = suc (pats_length xs)

abbrev pub fieldpats_length : q.FieldPats → ℕ
fieldpats_length q.no_fieldpats = 0
fieldpats_length (q.more_fieldpats k x xs) = suc (fieldpats_length xs)

abbrev pub numbered_pats : ℕ → q.Pats → q.FieldPats
numbered_pats k q.no_pats = q.no_fieldpats
numbered_pats k (q.more_pats x xs) = q.more_fieldpats k x (numbered_pats (k + 1) xs)

abbrev pub source_length : p.Pats → ℕ
source_length p.no_pats = 0
source_length (p.more_pats x xs) = suc (source_length xs)

abbrev mutual
  -- a pattern that meets this; the variables' types are noted
  pub pattern : List TypeDecl → p.Pat → Met → List t.Ty → Bound
  pattern ds (p.wild s) m types = Ok (q.wild, types)
  pattern ds (p.bind s name mutable k) m types = bound s name mutable k m types
  pattern ds (p.number s negative n suf) m types =
      looked (λ m. and_then (literal s negative n suf m.part) (λ z. Ok (q.number z, types))) m m.part
  pattern ds (p.truth s b) m types =
      looked (λ m. refuse (is_not_bool m.part) s Mismatch (Ok (q.truth b, types))) m m.part
  pattern ds (p.tuple s xs) m types =
      looked (λ m.
      and_then (patterns ds xs (tuple_types (source_length xs) m.part) m types) (λ r.
      refuse (is_no_tuple (source_length xs) m.part) s Mismatch (
      Ok (q.tuple r.0, r.1)))) m m.part
  pattern ds (p.construct s d v ts xs) m types =
      and_then (arguments_lists ds ts) (λ ls.
      looked (λ m.
      and_then (patterns ds xs (put_in_fields (constructor_arguments ds d.0 ls m.part) (fields_of ds d.0 v)) m types) (λ r.
      refuse (is_other_declared d.0 (constructor_arguments ds d.0 ls m.part) m.part) s Mismatch (
      refuse (is_wrong_list (parameters_of ds d.0) ls || not (source_length xs == length (fields_of ds d.0 v))) s Arity (
      Ok (q.construct d v (numbered_pats 0 r.0), r.1))))) m m.part)
  pattern ds (p.literal s d v ts xs) m types =
      and_then (arguments_lists ds ts) (λ ls.
      looked (λ m.
      and_then (field_patterns ds xs (fields_of ds d.0 v) (constructor_arguments ds d.0 ls m.part) [] m types) (λ r.
      refuse (is_other_declared d.0 (constructor_arguments ds d.0 ls m.part) m.part) s Mismatch (
      refuse (is_wrong_list (parameters_of ds d.0) ls) s Arity (
      refuse (nat_lt (fieldpats_length r.0) (length (fields_of ds d.0 v))) s Field (
      Ok (q.construct d v r.0, r.1)))))) m m.part)

  -- parts by place, with their types as far as these are known
  pub patterns : List TypeDecl → p.Pats → List t.Ty → Met → List t.Ty → Result (q.Pats × List t.Ty) Fault
  patterns ds p.no_pats xs m types = Ok (q.no_pats, types)
  patterns ds (p.more_pats x rest) xs m types =
      and_then (pattern ds x (inside m (head_of xs)) types) (λ r.
      and_then (patterns ds rest (rest_of xs) m r.1) (λ rs. Ok (q.more_pats r.0 rs.0, rs.1)))

  -- parts by name
  pub field_patterns : List TypeDecl → p.FieldPats → List (List ℕ × t.Ty) → Option (List t.Ty) → List ℕ → Met → List t.Ty → Result (q.FieldPats × List t.Ty) Fault
  field_patterns ds p.no_fieldpats fs args seen m types = Ok (q.no_fieldpats, types)
  field_patterns ds (p.more_fieldpats s name x rest) fs args seen m types =
      refuse (is_no_field (field_named name 0 fs) seen) s Field (
      and_then (pattern ds x (inside m (field_type args (field_named name 0 fs))) types) (λ r.
      and_then (field_patterns ds rest fs args (field_number (field_named name 0 fs) ∷ seen) m r.1) (λ rs.
      Ok (q.more_fieldpats (field_number (field_named name 0 fs)) r.0 rs.0, rs.1))))

abbrev pub pattern_span : p.Pat → Span
pattern_span (p.wild s) = s
pattern_span (p.bind s name mutable k) = s
pattern_span (p.number s negative n suf) = s
pattern_span (p.truth s b) = s
pattern_span (p.tuple s xs) = s
pattern_span (p.construct s d v ts xs) = s
pattern_span (p.literal s d v ts xs) = s

-- `x`, `mut x` or `_`
abbrev pub is_simple : p.Pat → Bool
is_simple (p.wild s) = true
is_simple (p.bind s name mutable k) = true
is_simple x = false

abbrev mutual
  -- the variables of a pattern in order
  pub names_in : q.Pat → List ℕ
  names_in q.wild = []
  names_in (q.bind s k m) = k ∷ []
  names_in (q.number n) = []
  names_in (q.truth b) = []
  names_in (q.tuple ps) = names_in_all ps
  names_in (q.construct d v ps) = names_in_fields ps
  names_in (q.through m x) = names_in x

  pub names_in_all : q.Pats → List ℕ
  names_in_all q.no_pats = []
  names_in_all (q.more_pats x xs) = names_in x ++ names_in_all xs

  pub names_in_fields : q.FieldPats → List ℕ
  names_in_fields q.no_fieldpats = []
  names_in_fields (q.more_fieldpats k x xs) = names_in x ++ names_in_fields xs
