-- One law of `CemiLDataLaws` for each way out. Assumes nothing.
use Rattle.knx.specs.CemiLDataLaws.{accepted, all_read, no_ldata}
use Rattle.knx.proofs.cemi_ldata.ldata_in.Goals as goal

pub read-requires : goal.read-requires
read-requires c = accepted c.args.counting c.args.«data».now c.in-Ok.fields c.in-Ok.ensures

pub returns-in-Ok : goal.returns-in-Ok
returns-in-Ok c = all_read c.args.counting c.args.«data».now c.in-Ok.fields c.read.result c.in-Ok.ensures c.read.ensures

pub returns-in-Err : goal.returns-in-Err
returns-in-Err c = no_ldata c.args.counting c.args.«data».now c.in-Err.fault c.refused.result c.in-Err.ensures c.refused.ensures
