-- The invariant: what stands from i on decides; the measure: the places that are left. Assumes nothing.
use Rattle.std.proofs.Common.{◌≤◌, ◌-◌, ◌≡◌, length, drop}
use Rattle.tunnel_table.specs.Places.{seek, passing}
use Rattle.tunnel_table.proofs.places.find.Given as goal

abbrev pub invariant-loop-i : goal.invariant-loop-i
invariant-loop-i l = (l.i ≤ 8) × (length l.places ≡ 8) × (seek (passing l.id) 0 l.places ≡ seek (passing l.id) l.i (drop l.i l.places))

abbrev pub decreases-loop-i : goal.decreases-loop-i
decreases-loop-i l = 8 - l.i
