-- What a turn leaves: a state that the inspection of some capture reaches and, where it ended, no whole record. Assumes nothing.
use Rattle.std.specs.Prelude.{ℕ, ◌≡◌, false, List, ltb, Result, Ok, Err}
use Rattle.wire.specs.declared.refusals.Refusal.{Refusal}
use Rattle.kip.specs.Capture.{whole}
use Rattle.inspection.specs.Lines.{EndingPromise}
use Rattle.inspection.specs.Turns.{WrittenOutPromise}
use Rattle.inspection.specs.Reaching.{Reached, rest_in}
use Rattle.inspection.specs.declared.turns.Progress.{Progress}
use Rattle.inspect_io.specs.Reading.{stands}
use Rattle.inspect_io.specs.declared.reading.Why.TheVariants.{Ended, Unwritten}
use Rattle.inspect_io.specs.declared.reading.Stopped.{Stopped}

-- what is gathered counts as written where the write did not fail
abbrev pub WritePromise : Progress → Result Progress Stopped → Type 0
WritePromise p (Ok q) = WrittenOutPromise p q
WritePromise p (Err s) = s ≡ record { progress = p; why = Unwritten }

-- what is left where it ended
abbrev pub leaves : List ℕ → Result Progress Stopped → Type 0
leaves input (Ok p) = Unit {0}
leaves input (Err s) = s.why ≡ Ended → whole (rest_in input s.progress) ≡ false

abbrev pub TurnPromise : List ℕ → List ℕ → Result Progress Stopped → Type 0
TurnPromise input out r = Reached input out (stands r) × leaves input r

-- the ending of what was counted, with `cut` where something is left
abbrev pub LastPromise : Progress → List ℕ → Result ℕ Refusal → List ℕ → Type 0
LastPromise p out r after = EndingPromise p.spot.n (ltb p.spot.at p.have) out r after
