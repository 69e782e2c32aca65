-- The body of the frame that was just parsed is the datagram's. Assumes nothing.
use Rattle.borrowed.specs.KnxnetIpFrameLaws.{body_in}
use Rattle.borrowed.proofs.knxnet_ip_frame.body_in.Goals as goal

pub returns : goal.returns
returns c = body_in c.args.datagram.now c.parse.result c.body.result.now c.parse.ensures c.body.ensures
