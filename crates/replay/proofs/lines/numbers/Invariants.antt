-- The invariant: what was laid is the pieces of the numbers so far. Assumes nothing.
use Rattle.std.proofs.Common.{◌≡◌, map, flat_map}
use Rattle.replay.specs.Lines.{sheet, all, number_pieces}
use Rattle.replay.proofs.lines.numbers.Given as goal

abbrev pub invariant-loop-n : goal.invariant-loop-n
invariant-loop-n l = sheet l.out l.to ≡ all (sheet l.initial.out l.initial.to) (flat_map (number_pieces l.mark) (map (λ y. y.now) l.yielded))
