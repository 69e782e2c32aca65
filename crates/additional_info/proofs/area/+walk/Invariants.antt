-- What remains after a record is shorter. Assumes nothing.
use Rattle.std.proofs.Common.{length}
use Rattle.additional_info.proofs.area.+walk.Given as goal

abbrev pub decreases-walk : goal.decreases-walk
decreases-walk l = length l.area.now
