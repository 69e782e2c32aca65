-- `Table::timeout` keeps its contract. Assumes nothing.
use Rattle.std.specs.Prelude.{Result, Ok}
use Rattle.std.proofs.Common.{refl, ap, sym, ◌∙◌, []}
use Rattle.std.proofs.lemmas.Result.{err_from_is_err_and}
use Rattle.wire.specs.Told.{nowhere}
use Rattle.wire.specs.declared.refusals.Refusal.{Refusal}
use Rattle.tunnel.specs.declared.rules.Stepped.{Stepped}
use Rattle.tunnel_model.specs.Calls.{Timeout}
use Rattle.tunnel_model.specs.Lone.{lone, stepped}
use Rattle.tunnel_table.specs.Table.{called_as}
use Rattle.tunnel_table.specs.TableLaws.{step-on, absent_call, at_refused, at-step}
use Rattle.tunnel_table.specs.declared.table.Called.{Called}
use Rattle.tunnel_table.proofs.table.Table.timeout.Goals as goal

pub returns-in_err-spot : goal.returns-in_err-spot
returns-in_err-spot c =
    let a = c.args in
    let p = err_from_is_err_and c.from_residual.result c.from_residual.ensures.1 in
    rw (p.1, p.2) (absent_call a.self (Timeout a.id) a.id _ c.in_err-spot.ensures refl refl)

pub returns-in_err-stepped : goal.returns-in_err-stepped
returns-in_err-stepped c =
    let a = c.args in
    let t = c.tunnel_in-tunnel.result in
    let e = c.in_err-stepped.field-0.0 in
    let p = err_from_is_err_and c.from_residual-in_err-stepped.result c.from_residual-in_err-stepped.ensures.1 in
    rw (p.1, p.2)
    (at_refused a.self a.id c.in_ok-spot.spot _ c.in_ok-spot.ensures t c.tunnel_in-tunnel.ensures 0 (λ x. lone x (Timeout a.id)) [] (nowhere e) [] (ap (λ (x : Result Stepped Refusal). stepped t x []) (sym c.in_err-stepped.ensures))
    ∙ step-on a.self.places (Timeout a.id) a.id refl refl)

pub returns : goal.returns
returns c =
    let a = c.args in
    let t = c.tunnel_in-tunnel.result in
    let s = c.in_ok-stepped.stepped in
    ap (λ (r : Called). called_as a.self (Ok r) []) c.step.ensures
    ∙ at-step a.self a.id c.in_ok-spot.spot _ c.in_ok-spot.ensures t c.tunnel_in-tunnel.ensures 0 (λ x. lone x (Timeout a.id)) [] s (ap (λ (x : Result Stepped Refusal). stepped t x []) (sym c.in_ok-stepped.ensures))
    ∙ step-on a.self.places (Timeout a.id) a.id refl refl
