-- The data of the frame that was just parsed is the slice's, in the crate's count. Assumes nothing.
use Rattle.ldata.specs.declared.count.Counting.TheVariants.{Crate}
use Rattle.borrowed.specs.LDataFrameLaws.{data_in_lem}
use Rattle.borrowed.proofs.ldata_frame.data_in.Goals as goal

pub returns : goal.returns
returns c = data_in_lem Crate c.args.bytes.now c.parse.result c.data.result.now c.parse.ensures c.data.ensures
