-- All records are walked past; what remains decides. Assumes nothing.
use Rattle.additional_info.specs.AreaSteps.{count-done}
use Rattle.additional_info.proofs.area.count.Goals as goal

pub returns : goal.returns
returns c =
    let p = c.past-all in count-done c.args.area.now p.result p.ensures c.if-all-area.false
