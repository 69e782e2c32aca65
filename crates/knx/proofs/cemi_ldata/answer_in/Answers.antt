-- One law of `CemiLDataLaws` for each way out. Assumes nothing.
use Rattle.knx.specs.CemiLDataLaws.{as_ldata}
use Rattle.knx.proofs.cemi_ldata.answer_in.Goals as goal

pub returns-in-Ok : goal.returns-in-Ok
returns-in-Ok c = as_ldata c.args.counting c.args.«data».now c.in-Ok.frame c.in-Ok.ensures c.as_ldata_in.result c.as_ldata_in.ensures
