-- `copy_all`: what the loop keeps, and that its contract follows. Assumes nothing.
use Rattle.std.proofs.Common.{◌+◌, ◌-◌, refl, arith, length}
use Rattle.std.proofs.Math.Seq.{paste-zero}
use Rattle.wire.specs.PasteLaws.{paste_next}
use Rattle.wire.proofs.copying.copy_all.Goals as goal

pub loop-i-init : goal.loop-i-init
loop-i-init c =
    let a = c.args in
    (omega arith, (paste-zero a.dst.now a.at a.src.now, refl))

pub loop-i-preserved : goal.loop-i-preserved
loop-i-preserved c =
    let l = c.loop-i in
    let a = c.args in (
      omega arith,
      (
        paste_next a.dst.now a.src.now l.dst _ a.at l.i 64 (l.i + 64) l.invariant.1.0 c.copy_block.ensures refl (omega arith) (omega arith),
        omega arith,
      ),
    )

pub returns : goal.returns
returns c =
    let l = c.loop-i in
    let a = c.args in
    let n = length a.src.now in
    paste_next a.dst.now a.src.now l.dst _ a.at l.i (n - l.i) n l.invariant.1.0 c.copy_block-2.ensures (omega arith) (omega arith) (omega arith)
