-- `knx_table_send` keeps its contract. Assumes nothing.
use Rattle.tunnel_model.specs.Calls.{Send}
use Rattle.knx.specs.CalledLaws.{packed_call}
use Rattle.knx.proofs.called.knx_table_send.Goals as goal

pub returns : goal.returns
returns c =
    let a = c.args in
    packed_call a.image.now (Send a.id a.cemi.now a.out.now) _ c.send.result _ _ _ c.if-image-lt-SIZE.false c.unpack.ensures c.send.ensures c.keep.ensures
