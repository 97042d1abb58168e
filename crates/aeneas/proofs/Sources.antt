-- What is found of a program as it is written is found of the content that is read as it.
use Rattle.std.proofs.Common.{◌≡◌, ◌∙◌, sym, subst, ap, ℕ, ◌<◌, ◌≤◌, ◌^◌, List, [], ◌∷◌, length, map, inl, inr, arith}
use Rattle.std.specs.Prelude.{Option, None, Some, Result, Ok, Err, IsUtf8}
use Rattle.aen_base.specs.declared.span.Span.{Span}
use Rattle.rust_ast.specs.declared.program.Program as written
use Rattle.rust_ast.specs.declared.resolution.Function as resolved
use Rattle.rust_lex.specs.Lexing.{AreTokens, NoOthers}
use Rattle.rust_lex.specs.declared.token.Token.{Token}
use Rattle.rust_names.specs.Answers.{Answers}
use Rattle.rust_names.specs.Naming as naming
use Rattle.rust_names.specs.Resolution.{resolution}
use Rattle.rust_names.specs.declared.fault.NameFault.{NameFault}
use Rattle.rust_names.specs.declared.fault.NameFault.TheVariants as N
use Rattle.rust_reader.specs.Answers.{IsReading}
use Rattle.source_ways.specs.Reading as reading
use Rattle.rust_reader.specs.declared.fault.ReadFault.{ReadFault}
use Rattle.rust_reader.specs.declared.fault.ReadFault.TheVariants as F
use Rattle.rust_sums.specs.Sums.{sums_of}
use Rattle.source_syntax.specs.Spelled.{lexemes}
use Rattle.source_syntax.specs.declared.refusal.Refusal.TheVariants as T
use Rattle.sums_ast.specs.declared.function.Program.{Program}
use Rattle.text_meaning.specs.Lists.{Each, Differ}
use Rattle.aeneas.specs.declared.source.Source.{Source}
use Rattle.aeneas.specs.declared.source.Source.TheVariants as S
use Rattle.aeneas.specs.Names.{IsResolved}
use Rattle.aeneas.specs.Source.{Reads}
use Rattle.aeneas.specs.SourceFound.{IsFoundIn, IsFoundWritten, IsUnread, IsRefusedAs, ByNameFault}
use Rattle.aeneas.specs.Syntax.{IsWritten}

-- ---- tokens

module _ (content : List ℕ) (tokens : List Token) (bad : Option Span) (utf8 : IsUtf8 content) (are : AreTokens content tokens bad) where
  pub only_written : NoOthers content tokens bad → (program : written.Program) →
      ((other : written.Program) → reading.Reads (lexemes content None tokens) other → other ≡ program) → (other : written.Program) → IsWritten content other → other ≡ program
  only_written none program only other w = only other (subst (λ (ts : List Token). reading.Reads (lexemes content None ts) other) (none w.tokens w.bad w.are).0 w.reads)

  pub unread_found : (fault : ReadFault) → IsReading content tokens bad (Err fault) → (source : Source) → IsUnread fault source → IsFoundIn content source
  unread_found fault cause (S.Read p) h = absurd h
  unread_found (F.Unsupported s) cause (S.Refused r) h = inr (inl (record { utf8 = utf8; tokens = tokens; bad = bad; are = are; fault = T.Unsupported s; cause = cause; is = h }))
  unread_found (F.Limit w n) cause (S.Refused r) h = inr (inl (record { utf8 = utf8; tokens = tokens; bad = bad; are = are; fault = T.Limit w n; cause = cause; is = h }))
  unread_found (F.Syntax s) cause (S.Refused r) h = inr (inl (record { utf8 = utf8; tokens = tokens; bad = bad; are = are; fault = T.Syntax s; cause = cause; is = h }))
  unread_found F.Memory cause (S.Refused r) h = absurd h

-- ---- names

same_ok : {A B : Type 0} (o : Result A B) (x y : A) → o ≡ Ok x → o ≡ Ok y → x ≡ y
same_ok o x y h k = cc

same_some : {A : Type 0} (x y : A) → Some x ≡ Some y → x ≡ y
same_some x y h = cc

module _ (content : List ℕ) (program : written.Program) (w : IsWritten content program)
    (only : (other : written.Program) → IsWritten content other → other ≡ program) where
  only_sums : (p other : Program) → Reads content p → Reads content other → other ≡ p
  only_sums p other a b =
      let one = only a.is_resolved.written a.is_resolved.is_written in
      let two = only b.is_resolved.written b.is_resolved.is_written in
      let names = ap resolution (one ∙ sym two) ∙ b.is_resolved.names in
      let same = same_ok (resolution a.is_resolved.written) b.resolved a.resolved names a.is_resolved.names in
      same_some other p (sym b.sums ∙ ap sums_of same ∙ a.sums)

  pub written_found : (source : Source) → IsFoundWritten program source → IsFoundIn content source
  written_found (S.Read p) (inl n) =
      let reads : Reads content p = record { resolved = n.resolved; is_resolved = record { written = program; is_written = w; names = n.names }; sums = n.found.sums } in
      record { reads = reads; only = λ other h. only_sums p other reads h; typed = n.found.typed; names = n.found.names }
  written_found (S.Read p) (inr n) = absurd n.found
  written_found (S.Refused r) (inl n) =
      inr (inr (inr (record { is = n.found.0; resolved = n.resolved; is_resolved = record { written = program; is_written = w; names = n.names }; cause = n.found.1 })))
  written_found (S.Refused r) (inr n) = inr (inr (inl (record { written = program; is_written = w; fault = n.fault; cause = n.names; is = n.found })))

pub fault_found : (program : written.Program) (fault : NameFault) (source : Source) → Answers (resolution program) (Err fault) → IsRefusedAs fault source → ByNameFault program source
fault_found program fault (S.Read p) cause h = absurd h
fault_found program (N.Unknown s) (S.Refused r) cause h = record { fault = N.Unknown s; names = cause; found = h }
fault_found program (N.Twice s t) (S.Refused r) cause h = record { fault = N.Twice s t; names = cause; found = h }
fault_found program (N.Limit w n) (S.Refused r) cause h = record { fault = N.Limit w n; names = cause; found = h }
fault_found program N.Memory (S.Refused r) cause h = absurd h

-- ---- lists

each_same : {A : Type 0} (P : A → Type 0) (xs : List A) → naming.Each P xs → Each P xs
each_same P [] h = tt
each_same P (x ∷ xs) h = (h.0, each_same P xs h.1)

pub differ_same : {A : Type 0} (xs : List A) → naming.Differ xs → Differ xs
differ_same [] h = tt
differ_same (x ∷ xs) h = (each_same (λ y. x ≡ y → ⊥) xs h.0, differ_same xs h.1)

pub few_same : (fs : List resolved.Function) → naming.Each (λ (f : resolved.Function). length f.variables ≤ 1000) fs → Each (λ (f : resolved.Function). length f.variables < 2 ^ 32) fs
few_same [] h = tt
few_same (f ∷ fs) h = (omega (arith, h.0), few_same fs h.1)
