-- A frame that was accepted says what is heard. Assumes nothing.
use Rattle.std.proofs.Common.{ap, ◌∙◌}
use Rattle.tunnel_datagram.specs.Hearing.{told}
use Rattle.tunnel_datagram.specs.HearingLaws.{framed}
use Rattle.tunnel_datagram.proofs.hearing.hear_in.Goals as goal

pub returns : goal.returns
returns c = ap told (c.in_frame.ensures ∙ framed c.args.form c.args.bytes.now c.in_ok-frame.frame c.in_ok-frame.ensures)
