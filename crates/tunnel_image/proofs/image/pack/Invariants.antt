-- After i turns the first i places are packed. Assumes nothing.
use Rattle.std.proofs.Common.{◌≤◌, ◌≡◌, length, take}
use Rattle.wire.specs.Writing.{onto}
use Rattle.tunnel_image.specs.Image.{packed}
use Rattle.tunnel_image.proofs.image.pack.Given as goal

abbrev pub invariant-loop-i : goal.invariant-loop-i
invariant-loop-i l = (l.i ≤ 8) × (length l.fn.places ≡ 8) × (l.image ≡ onto l.initial.image (packed (take l.i l.fn.places))) × (length l.image ≡ length l.initial.image)
