-- One law of `TableLaws` for each way out. Assumes nothing.
use Rattle.std.specs.Prelude.{Ok, Err, Some}
use Rattle.std.proofs.Common.{ℕ, refl, ap, sym, subst, ◌∙◌, List, [], ◌∷◌, length}
use Rattle.std.proofs.lemmas.Result.{err_from_is_err_and}
use Rattle.wire.specs.Told.{Told, done, nowhere}
use Rattle.wire.specs.WritingLaws.{wrote, was_written, was_unwritten}
use Rattle.wire.specs.declared.refusals.Fault.{Fault}
use Rattle.wire.specs.declared.refusals.Refusal.TheVariants.{AwaitsAck}
use Rattle.tunnelling.specs.Request.{build_checks, BuildPromise}
use Rattle.tunnelling.specs.declared.connection.ConnectionHeader.{ConnectionHeader}
use Rattle.tunnelling.specs.declared.request.TunnelingRequest.{TunnelingRequest}
use Rattle.tunnel.specs.Rules.{sending_of}
use Rattle.tunnel.specs.declared.rules.Tunnel.{Tunnel}
use Rattle.tunnel.specs.declared.rules.Said.TheVariants.{Nothing}
use Rattle.tunnel.specs.Numbers.{said_of}
use Rattle.tunnel_model.specs.Calls.{Send, refuses}
use Rattle.tunnel_model.specs.Lone.{request, lone}
use Rattle.tunnel_table.specs.Table.{called_as}
use Rattle.tunnel_table.specs.TableLaws.{step-on, absent_call, at-put, at_refused, written_as, awaits, sends, sends_not}
use Rattle.tunnel_table.proofs.table.Table.send.Goals as goal

pub returns-in_err-spot : goal.returns-in_err-spot
returns-in_err-spot c =
    let a = c.args in
    let p = err_from_is_err_and c.from_residual.result c.from_residual.ensures.1 in
    rw (p.1, p.2) (absent_call a.self (Send a.id a.cemi.now a.out.now) a.id _ c.in_err-spot.ensures refl refl)

pub returns-then-waits : goal.returns-then-waits
returns-then-waits c =
    let a = c.args in
    let out = a.out.now in
    let call = Send a.id a.cemi.now out in
    let t = c.tunnel_in-tunnel.result in
    ap (λ (e : Fault). called_as a.self (Err e) out) c.from.ensures
    ∙ at_refused a.self a.id c.in_ok-spot.spot _ c.in_ok-spot.ensures t c.tunnel_in-tunnel.ensures 0 (λ x. lone x call) out (nowhere AwaitsAck) out (awaits t a.id a.cemi.now out (sym c.waits.ensures ∙ c.if-waits.true))
    ∙ step-on a.self.places call a.id refl refl

pub returns-in_err-written : goal.returns-in_err-written
returns-in_err-written c =
    let a = c.args in
    let cemi = a.cemi.now in
    let out = a.out.now in
    let call = Send a.id cemi out in
    let t = c.tunnel_in-tunnel.result in
    let after = c.build.new.buf in
    let made = c.new.ensures ∙ ap (λ (h : ConnectionHeader). record { connection_header = h }) c.new-header.ensures in
    let e = c.in_err-written.field-0.0 in
    let x = subst (λ (q : TunnelingRequest). BuildPromise q cemi out (Err e) after) made c.in_err-written.ensures in
    let unwritten = was_unwritten (build_checks (length cemi) (length out)) (request a.id t.s cemi) out e after x in
    let p = err_from_is_err_and c.from_residual-in_err-written.result c.from_residual-in_err-written.ensures.1 in
    rw (p.1, p.2)
    (at_refused a.self a.id c.in_ok-spot.spot _ c.in_ok-spot.ensures t c.tunnel_in-tunnel.ensures 0 (λ x. lone x call) out (nowhere e) after
    (sends_not t a.id cemi out e (sym c.waits.ensures ∙ c.if-waits.false) unwritten.0 ∙ ap (λ (l : List ℕ). (refuses e l, Some t)) (sym unwritten.1))
    ∙ step-on a.self.places call a.id refl refl)

pub returns : goal.returns
returns c =
    let a = c.args in
    let cemi = a.cemi.now in
    let out = a.out.now in
    let call = Send a.id cemi out in
    let t = c.tunnel_in-tunnel.result in
    let after = c.build.new.buf in
    let made = c.new.ensures ∙ ap (λ (h : ConnectionHeader). record { connection_header = h }) c.new-header.ensures in
    let k = c.in_ok-written.written in
    let x = subst (λ (q : TunnelingRequest). BuildPromise q cemi out (Ok k) after) made c.in_ok-written.ensures in
    let w = request a.id t.s cemi in
    let cs = build_checks (length cemi) (length out) in
    let said : ℕ → Told = λ k. done (said_of Nothing ∷ k ∷ []) in
    let gets = sends t a.id cemi out (sym c.waits.ensures ∙ c.if-waits.false) (was_written cs w out k after x) in
    let u = c.sending-sending.result in
    at-put a.self a.id c.in_ok-spot.spot _ c.in_ok-spot.ensures t c.tunnel_in-tunnel.ensures 0 (λ x. lone x call) out
    (record { said = Nothing; view = record { start = 0; end = 0 }; written = k; table = c.put.result }) after u
    (written_as said w out k after (Some (sending_of t)) (lone t call) (wrote cs w out k after x) gets ∙ ap (λ (v : Tunnel). ((said k, after), Some v)) (sym c.sending-sending.ensures))
    c.put.ensures
    ∙ step-on a.self.places call a.id refl refl
