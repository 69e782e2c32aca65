-- Which check of a list decided, and what stands beside it: the place of the first that is broken, and in a list of their own the offsets of the fields that the checks look at. Assumes nothing.
use Rattle.std.specs.Prelude.{ℕ, zero, suc, ◌+◌, ◌≤◌, ◌≡◌, Bool, false, cond, List, [], ◌∷◌, ◌++◌, length, get_or, Result, Ok, Err}
use Rattle.wire.specs.Told.{Told, Check, ◌⇒◌, Verdict, verdict}
use Rattle.wire.specs.declared.refusals.Fault.{Fault}

-- the place of the first broken check; how many there are, where all hold
abbrev pub place : List Check → ℕ
place [] = 0
place (broken ⇒ e ∷ cs) = cond broken 0 (suc (place cs))

-- whether the check at a place is broken, and what it refuses; behind the last nothing is
abbrev pub broken_at : List Check → ℕ → Bool
broken_at [] i = false
broken_at (broken ⇒ e ∷ cs) zero = broken
broken_at (broken ⇒ e ∷ cs) (suc i) = broken_at cs i

abbrev pub verdict_at : List Check → ℕ → Verdict
verdict_at [] i = Ok tt
verdict_at (broken ⇒ e ∷ cs) zero = Err e
verdict_at (broken ⇒ e ∷ cs) (suc i) = verdict_at cs i

-- what stands beside the check that decided, in a list with an entry for each check; d where all hold
abbrev pub beside : {A : Type 0} → A → List Check → List A → A
beside d cs xs = get_or xs (place cs) d

-- 02, "the offset in the datagram of the field that decided it": 1 for a header whose version is broken; 0 where all hold
abbrev pub offset_by : List Check → List ℕ → ℕ
offset_by cs os = beside 0 cs os

-- an answer with this offset, and with that of the check that decided
abbrev pub at : ℕ → Told → Told
at o t = record { number = t.number; values = t.values; start = t.start; end = t.end; offset = o }

abbrev pub located : List Check → List ℕ → Told → Told
located cs os t = at (offset_by cs os) t

-- what a parser's checks say: all hold, or the first that is broken refuses, at its field
abbrev pub Standing : Type 0
Standing = Result (Unit {0}) Fault

-- a verdict with its offset, and what the checks say with the offset of the one that decided
abbrev pub stands_at : Verdict → ℕ → Standing
stands_at (Ok _) o = Ok tt
stands_at (Err e) o = Err (record { why = e; at = o })

abbrev pub standing : List Check → List ℕ → Standing
standing cs os = stands_at (verdict cs) (offset_by cs os)

-- ---- "a part that starts later adds its own start": to its offsets, to a refusal, to what its checks say

abbrev pub moved : ℕ → List ℕ → List ℕ
moved k [] = []
moved k (o ∷ os) = (k + o) ∷ moved k os

abbrev pub later_fault : ℕ → Fault → Fault
later_fault k f = record { why = f.why; at = k + f.at }

abbrev pub later : ℕ → Standing → Standing
later k (Ok _) = Ok tt
later k (Err f) = Err (later_fault k f)

-- the whole: what stands before the part, then the part
abbrev pub and_then : Standing → Standing → Standing
and_then (Ok _) t = t
and_then (Err f) t = Err f

-- a reader of a part: where the part starts, its checks, and an offset beside each
pub record Reader : Type 0 where
  pub start : ℕ
  pub checks : List Check
  pub offsets : List ℕ
  pub each : length offsets ≡ length checks

-- readers one behind another as one reader of the whole, whose offsets are moved by the starts
abbrev pub all_checks : List Reader → List Check
all_checks [] = []
all_checks (r ∷ rs) = r.checks ++ all_checks rs

abbrev pub all_offsets : List Reader → List ℕ
all_offsets [] = []
all_offsets (r ∷ rs) = moved r.start r.offsets ++ all_offsets rs

-- and what they say one after another, each moved by its start
abbrev pub says_all : List Reader → Standing
says_all [] = Ok tt
says_all (r ∷ rs) = and_then (later r.start (standing r.checks r.offsets)) (says_all rs)

-- every offset of a list is at most m
abbrev pub Within : ℕ → List ℕ → Type 0
Within m [] = 0 ≤ m
Within m (o ∷ os) = (o ≤ m) × Within m os
