-- What is borrowed is the frame's data, or nothing where it was refused. Assumes nothing.
use Rattle.std.proofs.Common.{sym, ◌∙◌}
use Rattle.borrowed.specs.Borrowed.{empty_part}
use Rattle.borrowed.specs.LDataFrameLaws.{fields_data, refused_data}
use Rattle.borrowed.proofs.ldata_frame.LDataFrame.parse_in.Goals as goal

pub returns-in-Ok : goal.returns-in-Ok
returns-in-Ok c = (c.data_part_in.ensures ∙ fields_data c.args.counting c.args.«data».now c.in-Ok.fields c.in-Ok.ensures, c.in-Ok.ensures)

pub returns-in-Err : goal.returns-in-Err
returns-in-Err c =
    let s = c.args.«data».now in
    (c.part.ensures ∙ empty_part s ∙ sym (refused_data c.args.counting s c.in-Err.fault c.in-Err.ensures), c.in-Err.ensures)
