-- Where no input is replayed no turn is made. Assumes nothing.
use Rattle.std.proofs.Common.{refl, None, []}
use Rattle.replay.specs.Running.{none}
use Rattle.replay.proofs.running.Calls.run.Goals as goal

pub returns-else-matches : goal.returns-else-matches
returns-else-matches g c = record { nothing = refl; input = None; left = None; text = []; count = 0; turns = none }
