-- After i turns the first i bytes are pasted; what is left of the n falls. Assumes nothing.
use Rattle.std.proofs.Common.{◌≤◌, ◌-◌, ◌≡◌, length, drop}
use Rattle.std.proofs.Math.Seq.{paste}
use Rattle.wire.proofs.copying.copy_bytes.Given as goal

abbrev pub invariant-loop-i : goal.invariant-loop-i
invariant-loop-i l = (l.i ≤ l.n) × ((l.dst ≡ paste l.initial.dst l.to (drop l.from l.src) l.i) × (length l.dst ≡ length l.initial.dst))

abbrev pub decreases-loop-i : goal.decreases-loop-i
decreases-loop-i l = l.n - l.i
