-- `write` keeps its contract. Assumes nothing.
use Rattle.std.proofs.Common.{◌∙◌, le-ltb}
use Rattle.wire.specs.LayoutLaws.{paste_front}
use Rattle.wire.proofs.writing.write.Goals as goal

pub returns : goal.returns
returns c =
    let a = c.args in
    let h = le-ltb _ _ c.if-buf-bytes.false in (simp h, simp h (c.copy_all.ensures ∙ paste_front a.buf.now a.bytes.now))
