-- `knx_table_close` keeps its contract. Assumes nothing.
use Rattle.std.proofs.Common.{[]}
use Rattle.tunnel_model.specs.Calls.{Close}
use Rattle.knx.specs.CalledLaws.{packed_call}
use Rattle.knx.proofs.called.knx_table_close.Goals as goal

pub returns : goal.returns
returns c =
    let a = c.args in
    packed_call a.image.now (Close a.id) _ c.close.result [] _ _ c.if-image-lt-SIZE.false c.unpack.ensures c.close.ensures c.keep.ensures
