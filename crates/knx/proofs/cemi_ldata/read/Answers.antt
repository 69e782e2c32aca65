-- Where the rest starts, then every number as it was read. Assumes nothing.
use Rattle.std.proofs.Common.{ℕ, subst, ap, Bool, ltb}
use Rattle.knx.specs.CemiLData.{ServiceInPromise}
use Rattle.knx.specs.CemiLDataLaws.{reads, rest_is}
use Rattle.knx.proofs.cemi_ldata.read.Goals as goal

pub returns : goal.returns
returns c =
    let a = c.args in
    let first = c.byte_at-tpci in
    let second = c.byte_at-2 in
    let rest = c.part-rest in
    let service =
    subst (λ (d : Bool). ServiceInPromise a.counting d first.result second.result c.service_in-service.result) (ap (λ (k : ℕ). ltb k 2) c.kind_in-kind.ensures) c.service_in-service.ensures in
    simp (c.kind_in-kind.ensures, c.data_end.ensures, c.data_start.ensures, c.to_u16.ensures, c.byte_at-3.ensures, c.to_u8.ensures, c.to_u8-2.ensures, c.sequence_in.ensures)
    (reads a.counting a.«data».now a.fields c.requires c.byte_at.result rest.result.now c.byte_at.ensures
    (rest_is a.«data».now c.byte_at.result rest.result.now c.byte_at.ensures rest.ensures)
    first.result second.result first.ensures second.ensures c.service_in-service.result service)
