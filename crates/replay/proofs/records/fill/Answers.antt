-- One byte more of the pattern. Assumes nothing.
use Rattle.std.proofs.Common.{arith}
use Rattle.std.proofs.lemmas.List.{take_more_set}
use Rattle.std.proofs.lemmas.List.FromFn.{map-range_with_len_more}
use Rattle.replay.specs.Lines.{pattern}
use Rattle.replay.proofs.records.fill.Goals as goal

pub loop-i-preserved : goal.loop-i-preserved
loop-i-preserved c =
    let o = c.loop-i in
    let filled = take_more_set o.buf o.i c.pattern.result (omega arith) in
    let more = map-range_with_len_more pattern 0 o.i o.i (omega arith) in
    cc
