-- Files and a sink in memory, of which chosen calls fail.
use Rattle.std.specs.Prelude.{◌==◌, ℕ, ◌-◌, Bool, ◌||◌, ◌&&◌, nat_lt, if◌then◌else◌, List, [], ◌∷◌, length, Option, None, Some}
use Rattle.std.specs.List.{list_any}
use Rattle.std.specs.Str.{bytes_eq}
use Rattle.aen_io.specs.Faults.{counted}
use Rattle.aen_io.specs.declared.plan.Plan.{Plan}

-- the next call is to fail: its number, from 0, is one of those that fail
-- (PROMISES.md, "Safe and total")
abbrev pub is_due : Plan → Bool
is_due p = list_any (λ k. k == p.calls) p.fail

-- the plan before any call
-- (PROMISES.md, "Safe and total")
abbrev pub no_calls : List ℕ → Plan
no_calls fail = record { fail = fail; calls = 0; faults = 0 }

-- the plan after one more call, whose fault counts where the call was due to fail or had a
-- reason of its own (PROMISES.md, "Safe and total")
abbrev pub after_call : Plan → Bool → Plan
after_call p own = record p { calls = counted p.calls; faults = if is_due p || own then counted p.faults else p.faults }

-- the content of the first entry with this name
-- (PROMISES.md, "Safe and total")
abbrev pub content_of : List (List ℕ × List ℕ) → List ℕ → Option (List ℕ)
content_of [] name = None
content_of ((n, content) ∷ files) name = if bytes_eq n name then Some content else content_of files name

-- a sink in memory: the bytes that it took, how many it takes in one call and in all, and which
-- calls fail (PROMISES.md, "Safe and total")
pub record SinkState : Type 0 where
  pub bytes : List ℕ
  pub plan : Plan
  pub piece : ℕ
  pub room : ℕ

-- no room is left for this piece, which isn't empty
-- (PROMISES.md, "Safe and total")
abbrev pub is_full : SinkState → List ℕ → Bool
is_full s piece = (s.room - length s.bytes == 0) && nat_lt 0 (length piece)
