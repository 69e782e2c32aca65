-- The invariant: so many records were gone past, to this place. The measure: how many are still asked for. Assumes nothing.
use Rattle.std.proofs.Common.{◌-◌, ◌≤◌}
use Rattle.additional_info.specs.Area.{WalkPromise}
use Rattle.additional_info.specs.AreaSteps.{to}
use Rattle.additional_info.proofs.area.past.Given as goal

abbrev pub invariant-loop-records : goal.invariant-loop-records
invariant-loop-records l = (l.records ≤ l.n) × WalkPromise l.records l.area (to l.records l.at)

abbrev pub decreases-loop-records : goal.decreases-loop-records
decreases-loop-records l = l.n - l.records
