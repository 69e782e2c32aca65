-- The invariant: the first i bytes hold the pattern. Assumes nothing.
use Rattle.std.proofs.Common.{◌≡◌, take}
use Rattle.replay.specs.Records.{pattern_from}
use Rattle.replay.proofs.records.fill.Given as goal

abbrev pub invariant-loop-i : goal.invariant-loop-i
invariant-loop-i l = take l.i l.buf ≡ pattern_from l.i 0
