-- `Table::acknowledgement` keeps its contract. Assumes nothing.
use Rattle.std.specs.Prelude.{Result, Ok}
use Rattle.std.proofs.Common.{ap, sym, ◌∙◌}
use Rattle.std.proofs.lemmas.Result.{err_from_is_err_and}
use Rattle.wire.specs.declared.refusals.Refusal.{Refusal}
use Rattle.tunnel_datagram.specs.Hearing.{channel_offset}
use Rattle.tunnel.specs.declared.rules.Stepped.{Stepped}
use Rattle.tunnel_model.specs.Lone.{stepped}
use Rattle.tunnel_table.specs.Table.{called_as, ack_rule}
use Rattle.tunnel_table.specs.TableLaws.{absent, at-step}
use Rattle.tunnel_table.specs.declared.table.Called.{Called}
use Rattle.tunnel_table.proofs.table.Table.acknowledgement.Goals as goal

pub returns-in_err-spot : goal.returns-in_err-spot
returns-in_err-spot c =
    let a = c.args in
    λ out.
    (let p = err_from_is_err_and c.from_residual.result c.from_residual.ensures.1 in
    rw (p.1, p.2) (absent a.self a.channel channel_offset _ c.in_err-spot.ensures (ack_rule a.number a.status out) out))

pub returns : goal.returns
returns c =
    let a = c.args in
    let t = c.tunnel_in-tunnel.result in
    let s = c.in_ok-stepped.stepped in
    λ out.
    ap (λ (r : Called). called_as a.self (Ok r) out) c.step.ensures
    ∙ at-step a.self a.channel c.in_ok-spot.spot _ c.in_ok-spot.ensures t c.tunnel_in-tunnel.ensures channel_offset (ack_rule a.number a.status out) out s (ap (λ (x : Result Stepped Refusal). stepped t x out) (sym c.in_ok-stepped.ensures))
