-- The invariant: so much is touched of the first i bytes. Assumes nothing.
use Rattle.std.proofs.Common.{◌≡◌, ◌≤◌}
use Rattle.replay.specs.Lines.{touched_in}
use Rattle.replay.proofs.lines.touched.Given as goal

abbrev pub invariant-loop-i : goal.invariant-loop-i
invariant-loop-i l = (l.k ≡ touched_in l.i l.buf) × (l.k ≤ l.i)
