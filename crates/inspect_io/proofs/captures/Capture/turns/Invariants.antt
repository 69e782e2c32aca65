-- The invariant: the state is reached. Assumes nothing.
use Rattle.inspection.specs.Reaching.{Reached}
use Rattle.inspect_io.proofs.captures.Capture.turns.Given as goal

abbrev pub invariant-loop : goal.invariant-loop
invariant-loop g l = Reached l.buffers.input l.buffers.out l.progress
