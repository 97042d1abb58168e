-- The headline: what was given to the sink is the translation of what was read.
use Rattle.std.proofs.Common.{◌≡◌, ◌∙◌, ap, sym, subst, refl, ℕ, List, [], ◌∷◌, ◌++◌, inl, inr}
use Rattle.aen_io.specs.Handed.{Handed, since}
use Rattle.aen_io.specs.Told.{Told}
use Rattle.aen_io.specs.Written.{WritesAll}
use Rattle.aeneas.specs.Answer.{Sunk, bytes_given, Translates}
use Rattle.aeneas.specs.declared.refusal.Refusal.{Refusal}
use Rattle.aeneas.specs.declared.refusal.Refusal.TheVariants as R
use Rattle.aeneas.specs.Refusals.{refusal_status}
use Rattle.aeneas.specs.Reply.{IsReply, TranslateReply}
use Rattle.aeneas.specs.Seen.{Seen, ReadsNothing, seen}
use Rattle.aeneas.specs.Translation.{IsTextOf}
use Rattle.aeneas.specs.Words.{IsTranslate}

-- what was recorded since a moment, and since now
pub since_more : {A : Type 0} (before more : List A) → since before (before ++ more) ≡ more
since_more [] more = refl
since_more (x ∷ xs) more = since_more xs more

pub since_now : {A : Type 0} (before : List A) → since before before ≡ []
since_now [] = refl
since_now (x ∷ xs) = since_now xs

pub reads_nothing : {F : Type 0} (told : F → Told) (handed : F → List Handed) (faults : F → ℕ) (files : F) → ReadsNothing (seen told handed faults files files)
reads_nothing told handed faults files = record { none = since_now (handed files); same = refl }

-- no refusal has status 0
refused : (r : Refusal) → refusal_status r ≡ 0 → ⊥
refused R.Usage e = absurd cc
refused R.Read e = absurd cc
refused (R.Utf8 valid) e = absurd cc
refused (R.Syntax span) e = absurd cc
refused (R.Unsupported span) e = absurd cc
refused (R.Unknown span) e = absurd cc
refused (R.Twice first second) e = absurd cc
refused R.Later e = absurd cc
refused (R.Limit which count) e = absurd cc
refused (R.Count expected given) e = absurd cc
refused (R.Argument place) e = absurd cc
refused R.Types e = absurd cc
refused (R.Text span) e = absurd cc
refused R.Name e = absurd cc

by_reply : (s : Seen) (file : List ℕ) (k : Sunk) (status : ℕ) (text : List ℕ) → bytes_given k ≡ text → status ≡ 0 → TranslateReply s file status text → Translates s file k
by_reply s file k status text given zero (inl r) = absurd (refused r.refusal (sym r.answer.0 ∙ zero))
by_reply s file k status text given zero (inr t) = record {
  read = t.source.read;
  holds = record { program = t.program; is_program = t.source.holds; is_text = subst (λ x. IsTextOf t.program x) (sym given) t.is_text };
}

pub headline : (words : List (List ℕ)) (s : Seen) (k : Sunk) (status : ℕ) (text : List ℕ) → IsReply words s status text → WritesAll k.old k.new text →
    status ≡ 0 → (file : List ℕ) → IsTranslate words file → Translates s file k
headline words s k status text reply written zero file t =
    by_reply s file k status text (ap (since k.old) written ∙ since_more k.old text) zero (reply.translate file t)
