-- `table_datagram_in` keeps its contract. Assumes nothing.
use Rattle.std.proofs.Common.{sym, ◌∙◌}
use Rattle.tunnel_datagram.specs.HearingLaws.{heard_in_is}
use Rattle.tunnel_model.specs.Calls.{DatagramIn}
use Rattle.tunnel_table.specs.TableLaws.{step-heard}
use Rattle.knx.specs.CalledLaws.{unheard_call, packed_call}
use Rattle.knx.proofs.called.table_datagram_in.Goals as goal

pub returns-in-Err : goal.returns-in-Err
returns-in-Err c =
    let a = c.args in
    let e = c.in-Err.fault in
    let heard = sym (heard_in_is a.form a.bytes.now c.hear_in-heard.result c.hear_in-heard.ensures) ∙ c.in-Err.is in
    unheard_call a.form a.image.now a.bytes.now a.out.now e _ c.if-image-lt-SIZE.false heard c.refused-in-Err.ensures

pub returns : goal.returns
returns c =
    let a = c.args in
    let h = c.hear_in-heard.result in
    let t = c.unpack.result in
    let stepped = c.heard_in.ensures ∙ step-heard a.form t.places a.bytes.now a.out.now h (sym (heard_in_is a.form a.bytes.now h c.hear_in-heard.ensures)) in
    packed_call a.image.now (DatagramIn a.form a.bytes.now a.out.now) t c.heard_in.result _ _ _ c.if-image-lt-SIZE.false c.unpack.ensures stepped c.keep.ensures
