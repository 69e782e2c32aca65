-- The data of the frame that was just parsed is the slice's, in the same count. Assumes nothing.
use Rattle.borrowed.specs.LDataFrameLaws.{data_in_lem}
use Rattle.borrowed.proofs.ldata_frame.data_in_count.Goals as goal

pub returns : goal.returns
returns c = data_in_lem c.args.counting c.args.bytes.now c.parse_in.result c.data_in.result.now c.parse_in.ensures c.data_in.ensures
