-- The invariant: what is still to be scanned from here ends as the whole scan does. Assumes nothing.
use Rattle.std.proofs.Common.{ℕ, ◌+◌, ◌≡◌, length}
use Rattle.inspection.specs.Scanning.{scan_of}
use Rattle.inspection.proofs.scanning.scan.Given as goal

abbrev pub invariant-loop : goal.invariant-loop
invariant-loop l = (k : ℕ) → k + l.counter ≡ length l.input → scan_of (length l.input) l.input l.initial.spot.at l.initial.spot.used l.initial.spot.n l.initial.out ≡ scan_of k l.input l.spot.at l.spot.used l.spot.n l.out
