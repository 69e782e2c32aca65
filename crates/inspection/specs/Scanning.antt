-- What a scan of a buffer prints and where it stops: record after record, while a whole one is there, it can be counted, and its line fits. Assumes nothing.
use Rattle.std.specs.Prelude.{ℕ, zero, suc, ◌+◌, ◌≡◌, cond, List, length, drop, leb, ltb, Result, Ok, Err}
use Rattle.wire.specs.Layout.{word_at, copied}
use Rattle.kip.specs.Capture.{whole, first_in}
use Rattle.frame.specs.Judging.{judge_by01}
use Rattle.inspection.specs.Lines.{line_told, line_of, PutPromise}
use Rattle.frame.specs.declared.judging.Judged.{Judged}
use Rattle.inspection.specs.declared.scanning.Spot.{Spot}
use Rattle.inspection.specs.declared.scanning.Scanned.{Scanned}
use Rattle.inspection.specs.declared.scanning.Stop.{Stop}
use Rattle.inspection.specs.declared.scanning.Stop.TheVariants.{Short, Full, Last}
use Rattle.wire.specs.declared.refusals.Refusal.{Refusal}

-- a record's line, from a place on
abbrev pub PutLinePromise : ℕ → Result Judged ℕ → ℕ → List ℕ → Result ℕ Refusal → List ℕ → Type 0
PutLinePromise n j at out r after = PutPromise (line_of n j) at out r after

-- where a scan is: how far it handed on, how much of the output is used, how many records there were, the output, and why it stopped
pub record Scan : Type 0 where
  pub at : ℕ
  pub used : ℕ
  pub n : ℕ
  pub out : List ℕ
  pub stop : Stop

-- the largest number of 64 bits: no record has a greater one
abbrev pub most : ℕ
most = 18446744073709551615

-- the line of the record that starts at a place
abbrev pub line_at : List ℕ → ℕ → ℕ → List ℕ
line_at s at n = line_told (n + 1) (judge_by01 (first_in (drop at s)))

abbrev pub stopped : ℕ → ℕ → ℕ → List ℕ → Stop → Scan
stopped at used n out stop = record { at = at; used = used; n = n; out = out; stop = stop }

unfoldable pub scan_of : ℕ → List ℕ → ℕ → ℕ → ℕ → List ℕ → Scan
scan_of zero s at used n out = stopped at used n out Short
scan_of (suc k) s at used n out =
    cond (whole (drop at s))
    (cond (ltb n most)
    (cond (leb (used + length (line_at s at n)) (length out))
    (scan_of k s (at + 2 + word_at s at) (used + length (line_at s at n)) (n + 1) (copied (line_at s at n) out used))
    (stopped at used n out Full))
    (stopped at used n out Last))
    (stopped at used n out Short)

-- what is still to be scanned behind a turn: the records from where the scan is then, or none where it stopped
abbrev pub goes_on : ℕ → List ℕ → Spot → Result Spot Stop → List ℕ → Scan
goes_on k s spot (Ok next) after = scan_of k s next.at next.used next.n after
goes_on k s spot (Err stop) after = stopped spot.at spot.used spot.n after stop

-- a scan of one turn more is this turn, and then the others
abbrev pub HandOnPromise : List ℕ → List ℕ → Spot → Result Spot Stop → List ℕ → Type 0
HandOnPromise s out spot r after = (k : ℕ) → scan_of (suc k) s spot.at spot.used spot.n out ≡ goes_on k s spot r after

-- what the code's answer and the output afterwards say
abbrev pub scanned : Scanned → List ℕ → Scan
scanned r after = record { at = r.spot.at; used = r.spot.used; n = r.spot.n; out = after; stop = r.stop }

abbrev pub ScanPromise : List ℕ → List ℕ → Spot → Scanned → List ℕ → Type 0
ScanPromise s out spot r after = scanned r after ≡ scan_of (length s) s spot.at spot.used spot.n out
