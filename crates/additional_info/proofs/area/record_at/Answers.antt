-- Type, length and data are read from the part behind the place. Assumes nothing.
use Rattle.additional_info.specs.AreaSteps.{reads}
use Rattle.additional_info.proofs.area.record_at.Goals as goal

pub returns : goal.returns
returns c = reads c.args.area.now c.args.at c.requires c.part-rest.result.now c.byte_at-code.result c.byte_at.result c.part.result.now c.from_u8.result c.timestamp_of.result c.part-rest.ensures c.byte_at-code.ensures c.byte_at.ensures c.part.ensures c.from_u8.ensures c.timestamp_of.ensures
