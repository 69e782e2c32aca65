-- `Table::close` keeps its contract. Assumes nothing.
use Rattle.std.specs.Prelude.{Ok, None}
use Rattle.std.proofs.Common.{refl, ap, ◌∙◌, [], get_or}
use Rattle.std.proofs.lemmas.Result.{err_from_is_err_and}
use Rattle.tunnel.specs.declared.rules.Said.TheVariants.{Nothing}
use Rattle.tunnel_model.specs.Calls.{Close}
use Rattle.tunnel_table.specs.Places.{tunnel_in}
use Rattle.tunnel_table.specs.Table.{called_as, saying}
use Rattle.tunnel_table.specs.TableLaws.{step-on, absent_call, at_close}
use Rattle.tunnel_table.specs.declared.table.Table.{Table}
use Rattle.tunnel_table.specs.declared.table.Called.{Called}
use Rattle.tunnel_table.proofs.table.Table.close.Goals as goal

pub returns-in_err-spot : goal.returns-in_err-spot
returns-in_err-spot c =
    let a = c.args in
    let p = err_from_is_err_and c.from_residual.result c.from_residual.ensures.1 in
    rw (p.1, p.2) (absent_call a.self (Close a.id) a.id _ c.in_err-spot.ensures refl refl)

pub returns : goal.returns
returns c =
    let a = c.args in
    let s = c.in_ok-spot.spot in
    ap (λ (r : Called). called_as a.self (Ok r) []) (c.say.ensures ∙ ap (λ (t : Table). saying t Nothing) c.put.ensures)
    ∙ at_close a.self a.id s None c.in_ok-spot.ensures (tunnel_in (get_or a.self.places s.at None)) refl
    ∙ step-on a.self.places (Close a.id) a.id refl refl
