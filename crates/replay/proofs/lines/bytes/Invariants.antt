-- The invariant: what was laid is the pieces of the bytes so far. Assumes nothing.
use Rattle.std.proofs.Common.{◌≡◌, map, take}
use Rattle.replay.specs.Lines.{sheet, all, hex_byte}
use Rattle.replay.proofs.lines.bytes.Given as goal

abbrev pub invariant-loop-x : goal.invariant-loop-x
invariant-loop-x l = sheet l.out l.to ≡ all (sheet l.initial.out l.initial.to) (map hex_byte (take l.x-index l.part))
