-- What is found in a content is found in the file that it was read of.
use Rattle.std.proofs.Common.{◌≡◌, ℕ, ◌≤◌, List, length, inl, inr, subst}
use Rattle.std.specs.Prelude.{slice_get, Some, Err}
use Rattle.aen_base.specs.declared.limits.Which.{Which}
use Rattle.aen_base.specs.declared.limits.Which.TheVariants as L
use Rattle.aen_io.specs.Reading.{IsWhole}
use Rattle.aen_io.specs.Told.{OfContent}
use Rattle.call_frame.specs.Arguments.{IsReading}
use Rattle.call_frame.specs.declared.words.ArgFault.{ArgFault}
use Rattle.call_frame.specs.declared.words.ArgFault.TheVariants.{WrongCount, BadValue, Memory}
use Rattle.sums_ast.specs.declared.function.Function.{Function}
use Rattle.sums_ast.specs.declared.function.Program.{Program}
use Rattle.aeneas.specs.declared.printed.Printed.{Printed}
use Rattle.aeneas.specs.declared.printed.Printed.TheVariants as P
use Rattle.aeneas.specs.declared.refusal.Refusal.TheVariants as R
use Rattle.aeneas.specs.declared.source.Source.{Source}
use Rattle.aeneas.specs.declared.source.Source.TheVariants as S
use Rattle.aeneas.specs.Limits.{greatest}
use Rattle.aeneas.specs.PrintedFound.{IsPrintedFound, IsPrintedFoundIn}
use Rattle.aeneas.specs.Refusals.{IsRefusal}
use Rattle.aeneas.specs.Run.{FaultReply, CallReply}
use Rattle.aeneas.specs.Seen.{Seen, IsReadWhole, bytes_read}
use Rattle.aeneas.specs.SourceFound.{IsFound, IsFoundIn}

-- a file that was read whole
pub read_whole : (which : Which) (s : Seen) (file bytes : List ℕ) → IsWhole file s.handed bytes → length bytes ≤ greatest which → OfContent s.told file (λ c. bytes ≡ c) →
    IsReadWhole which s file
read_whole which s file bytes whole few told = record {
  order = whole.order;
  ended = whole.ended;
  within = subst (λ xs. length xs ≤ greatest which) whole.bytes_are few;
  told_is = subst (λ xs. OfContent s.told file (λ c. xs ≡ c)) whole.bytes_are told;
}

pub source_found : (s : Seen) (file bytes : List ℕ) → bytes ≡ bytes_read s → IsReadWhole L.Source s file → (source : Source) → IsFoundIn bytes source → IsFound s file source
source_found s file bytes e read (S.Read p) h = record { read = read; holds = subst (λ xs. IsFoundIn xs (S.Read p)) e h }
source_found s file bytes e read (S.Refused r) h = inr (record { read = read; holds = subst (λ xs. IsFoundIn xs (S.Refused r)) e h })

pub text_found : (s : Seen) (file bytes : List ℕ) → bytes ≡ bytes_read s → IsReadWhole L.Text s file → (printed : Printed) → IsPrintedFoundIn bytes printed → IsPrintedFound s file printed
text_found s file bytes e read (P.Read defs) h = record { read = read; holds = subst (λ xs. IsPrintedFoundIn xs (P.Read defs)) e h }
text_found s file bytes e read (P.Refused r) h = inr (record { read = read; holds = subst (λ xs. IsPrintedFoundIn xs (P.Refused r)) e h })

-- words that are no arguments of a function
pub refused_call : (p : Program) (k : ℕ) (f : Function) (words : List (List ℕ)) (n : ℕ) (fault : ArgFault) →
    slice_get p.functions k ≡ Some f → IsReading f.parameters words (Err fault) →
    (status : ℕ) (text : List ℕ) → FaultReply fault status text → CallReply p k words n status text
refused_call p k f words n (WrongCount expected given) found reading status text h =
    record { function = f; found = found; reply = inl (record { refusal = subst (λ g. IsRefusal (R.Count f.parameters g) status text) reading.2 (subst (λ e. IsRefusal (R.Count e given) status text) reading.1 h); cause = reading.0 }) }
refused_call p k f words n (BadValue i) found reading status text h =
    record { function = f; found = found; reply = inr (inl (record { place = i; refusal = h; count = reading.0; cause = reading.1 })) }
refused_call p k f words n Memory found reading status text h = absurd h
