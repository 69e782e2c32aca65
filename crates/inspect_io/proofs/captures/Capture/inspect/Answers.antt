-- Once the start is there, the state is one that the inspection reaches. Assumes nothing.
use Rattle.std.proofs.Common.{sym, ap, ◌∙◌}
use Rattle.kip.specs.Capture.{starts_by01}
use Rattle.inspection.specs.Reaching.{begin_reaches}
use Rattle.inspect_io.proofs.captures.Capture.inspect.Goals as goal

pub turns-stopped-requires : goal.turns-stopped-requires
turns-stopped-requires g c =
    let a = c.args in
    let kip = ap starts_by01 (sym c.part.ensures) ∙ sym c.starts-kip.ensures ∙ c.if-not-kip.false in
    begin_reaches a.buffers.now.input c.heading.new.out a.progress c.requires.0 c.requires.1 kip
