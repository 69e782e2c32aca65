-- A datagram is what is heard of it. Assumes nothing.
use Rattle.std.proofs.Common.{sym, ◌∙◌}
use Rattle.tunnel_datagram.specs.HearingLaws.{heard_in_is}
use Rattle.tunnel_table.specs.TableLaws.{step-heard}
use Rattle.tunnel_table.proofs.table.Table.datagram_in.Goals as goal

pub returns : goal.returns
returns c =
    let a = c.args in
    let h = c.hear_in.result in
    c.heard_in.ensures ∙ step-heard a.form a.self.places a.bytes.now a.out.now h (sym (heard_in_is a.form a.bytes.now h c.hear_in.ensures))
