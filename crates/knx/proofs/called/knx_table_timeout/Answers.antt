-- `knx_table_timeout` keeps its contract. Assumes nothing.
use Rattle.std.proofs.Common.{[]}
use Rattle.tunnel_model.specs.Calls.{Timeout}
use Rattle.knx.specs.CalledLaws.{packed_call}
use Rattle.knx.proofs.called.knx_table_timeout.Goals as goal

pub returns : goal.returns
returns c =
    let a = c.args in
    packed_call a.image.now (Timeout a.id) _ c.timeout.result [] _ _ c.if-image-lt-SIZE.false c.unpack.ensures c.timeout.ensures c.keep.ensures
