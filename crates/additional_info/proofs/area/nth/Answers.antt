-- One law of `AreaSteps` for each way out. Assumes nothing.
use Rattle.additional_info.specs.AreaSteps.{nth_stands, nth_read}
use Rattle.additional_info.proofs.area.nth.Goals as goal

pub record_at-requires : goal.record_at-requires
record_at-requires c =
    let p = c.past-passed in
    nth_stands c.args.area.now c.args.n c.in_ok-many.many p.result c.in_ok-many.ensures c.if-many-n.false p.ensures

pub returns : goal.returns
returns c =
    let p = c.past-passed in
    nth_read c.args.area.now c.args.n c.in_ok-many.many p.result c.record_at.result c.in_ok-many.ensures c.if-many-n.false p.ensures c.record_at.ensures
