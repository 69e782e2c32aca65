-- The invariant: nothing is handed on; what is missing of the start falls. Assumes nothing.
use Rattle.std.proofs.Common.{◌-◌}
use Rattle.inspect_io.specs.Reading.{StartPromise}
use Rattle.inspect_io.proofs.captures.Capture.read_start.Given as goal

abbrev pub invariant-loop-progress : goal.invariant-loop-progress
invariant-loop-progress g l = StartPromise l.buffers.input l.progress

abbrev pub decreases-loop-progress : goal.decreases-loop-progress
decreases-loop-progress g l = 5 - l.progress.have
