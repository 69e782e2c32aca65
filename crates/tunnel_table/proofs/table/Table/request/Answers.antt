-- `Table::request` keeps its contract. Assumes nothing.
use Rattle.std.specs.Prelude.{Ok}
use Rattle.std.proofs.Common.{refl, ap, sym, ◌∙◌, length}
use Rattle.std.proofs.lemmas.Result.{err_from_is_err_and}
use Rattle.wire.specs.Told.{verdict}
use Rattle.tunnelling.specs.AckForm.{form_by, build_checks}
use Rattle.tunnel_datagram.specs.Hearing.{channel_offset}
use Rattle.tunnel.specs.declared.rules.Tunnel.{Tunnel}
use Rattle.tunnel.specs.declared.rules.Arrival.{Arrival}
use Rattle.tunnel.specs.declared.rules.Said.TheVariants.{Deliver, Duplicate, OutOfOrder}
use Rattle.tunnel_model.specs.Lone.{ack, acknowledging, arrived}
use Rattle.tunnel_table.specs.Table.{called_as, request_rule, reaction_told, saying}
use Rattle.tunnel_table.specs.TableLaws.{absent, at_kept, at_react}
use Rattle.tunnel_table.specs.declared.table.Called.{Called}
use Rattle.tunnel_table.specs.declared.table.Reaction.{Reaction}
use Rattle.tunnel_table.proofs.table.Table.request.Goals as goal

pub returns-in_err-spot : goal.returns-in_err-spot
returns-in_err-spot c =
    let a = c.args in
    let out = a.out.now in
    let p = err_from_is_err_and c.from_residual.result c.from_residual.ensures.1 in
    rw (p.1, p.2) (absent a.self a.channel channel_offset _ c.in_err-spot.ensures (request_rule a.form a.channel a.number a.end out) out)

pub returns-in-Deliver : goal.returns-in-Deliver
returns-in-Deliver c =
    let a = c.args in
    let out = a.out.now in
    let t = c.tunnel_in-tunnel.result in
    let x : Reaction = record { said = Deliver; view = record { start = 10; end = a.end }; tunnel = c.delivered-delivered.result } in
    let next = ap (λ (u : Tunnel). acknowledging a.form a.channel a.number out t (reaction_told x (length (ack a.form a.channel a.number))) u) (sym c.delivered-delivered.ensures) in
    c.react.ensures
    ∙ at_react a.self a.channel c.in_ok-spot.spot _ c.in_ok-spot.ensures t c.tunnel_in-tunnel.ensures channel_offset a.form (verdict (build_checks (form_by a.form) (length out))) a.number x (request_rule a.form a.channel a.number a.end out) out
    (ap (λ (x : Arrival). arrived a.form x t a.channel a.number a.end out) (sym c.in-Deliver.ensures) ∙ next)

pub returns-in-Duplicate : goal.returns-in-Duplicate
returns-in-Duplicate c =
    let a = c.args in
    let out = a.out.now in
    let t = c.tunnel_in-tunnel.result in
    let x : Reaction = record { said = Duplicate; view = record { start = 0; end = 0 }; tunnel = t } in
    c.react-in-Duplicate.ensures
    ∙ at_react a.self a.channel c.in_ok-spot.spot _ c.in_ok-spot.ensures t c.tunnel_in-tunnel.ensures channel_offset a.form (verdict (build_checks (form_by a.form) (length out))) a.number x (request_rule a.form a.channel a.number a.end out) out
    (ap (λ (x : Arrival). arrived a.form x t a.channel a.number a.end out) (sym c.in-Duplicate.ensures))

pub returns-in-OutOfOrder : goal.returns-in-OutOfOrder
returns-in-OutOfOrder c =
    let a = c.args in
    let out = a.out.now in
    let t = c.tunnel_in-tunnel.result in
    ap (λ (r : Called). called_as a.self (Ok r) out) c.say.ensures
    ∙ at_kept a.self a.channel c.in_ok-spot.spot _ c.in_ok-spot.ensures t c.tunnel_in-tunnel.ensures channel_offset (request_rule a.form a.channel a.number a.end out) out (saying a.self OutOfOrder) out
    (ap (λ (x : Arrival). arrived a.form x t a.channel a.number a.end out) (sym c.in-OutOfOrder.ensures)) refl
