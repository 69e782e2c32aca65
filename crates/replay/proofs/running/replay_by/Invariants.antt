-- The invariant: as many turns are made as the loop has counted, and their lines are written; the buffers keep their room. Assumes nothing.
use Rattle.std.proofs.Common.{◌≡◌, List, ℕ, length}
use Rattle.std.specs.Io.KnownBytes.{Appends}
use Rattle.replay.specs.Running.{room, line_room, Turns}
use Rattle.replay.proofs.running.replay_by.Given as goal

abbrev pub invariant-loop : goal.invariant-loop
invariant-loop g l =
    ((text : List ℕ) × Turns g.C.Calls.answers (g.R.Read.remaining l.fn.input) (g.R.Read.remaining l.input) l.fn.calls l.calls text l.counter
    × Appends (g.W.Write.contents l.fn.output) (g.W.Write.contents l.output) text × (l.counter ≡ 0 → l.output ≡ l.fn.output))
    × (length l.args ≡ room) × (length l.buf ≡ room) × (length l.out ≡ line_room)
