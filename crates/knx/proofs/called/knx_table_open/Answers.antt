-- `knx_table_open` keeps its contract. Assumes nothing.
use Rattle.std.proofs.Common.{[]}
use Rattle.tunnel_model.specs.Calls.{Open}
use Rattle.knx.specs.CalledLaws.{packed_call}
use Rattle.knx.proofs.called.knx_table_open.Goals as goal

pub returns : goal.returns
returns c =
    let a = c.args in
    packed_call a.image.now (Open a.id) _ c.open.result [] _ _ c.if-image-lt-SIZE.false c.unpack.ensures c.open.ensures c.keep.ensures
