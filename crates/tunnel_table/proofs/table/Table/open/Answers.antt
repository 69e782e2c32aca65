-- `Table::open` keeps its contract. Assumes nothing.
use Rattle.std.specs.Prelude.{Ok, Err, None}
use Rattle.std.proofs.Common.{refl, ap, sym, ◌∙◌, [], get_or}
use Rattle.wire.specs.declared.refusals.Fault.{Fault}
use Rattle.tunnel.specs.declared.rules.Tunnel.{Tunnel}
use Rattle.tunnel.specs.declared.rules.Said.TheVariants.{Nothing}
use Rattle.tunnel_table.specs.Places.{held, tunnel_in}
use Rattle.tunnel_table.specs.Table.{called_as, saying, put_at}
use Rattle.tunnel_table.specs.TableLaws.{open_open, open_full, open_at}
use Rattle.tunnel_table.specs.declared.table.Table.{Table}
use Rattle.tunnel_table.specs.declared.table.Called.{Called}
use Rattle.tunnel_table.proofs.table.Table.open.Goals as goal

pub returns-in-Some : goal.returns-in-Some
returns-in-Some c =
    let a = c.args in
    let s = c.in-Some.field-0 in
    ap (λ (e : Fault). called_as a.self (Err e) []) c.from.ensures
    ∙ open_open a.self a.id s None (sym c.in-Some.ensures) (tunnel_in (get_or a.self.places s.at None)) refl

pub returns-in-Some-find : goal.returns-in-Some-find
returns-in-Some-find c =
    let a = c.args in
    let s = c.in-Some-find.spot in
    ap (λ (r : Called). called_as a.self (Ok r) []) (c.say.ensures ∙ ap (λ (t : Table). saying t Nothing) (c.put.ensures ∙ ap (λ (t : Tunnel). put_at a.self s (held a.id t)) c.fresh-tunnel.ensures))
    ∙ open_at a.self a.id (sym c.in-None.ensures) s (sym c.in-Some-find.ensures)

pub returns-in-None-find : goal.returns-in-None-find
returns-in-None-find c =
    let a = c.args in
    ap (λ (e : Fault). called_as a.self (Err e) []) c.from-in-None-find.ensures ∙ open_full a.self a.id (sym c.in-None.ensures) (sym c.in-None-find.ensures)
