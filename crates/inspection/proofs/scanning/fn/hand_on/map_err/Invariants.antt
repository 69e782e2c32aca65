-- A refusal's number is 01's. Assumes nothing.
use Rattle.wire.specs.Refusals.{NumberPromise}
use Rattle.inspection.proofs.scanning.fn.hand_on.map_err.Given as goal

abbrev pub ensures : goal.ensures
ensures l r = NumberPromise l.fault.why r
