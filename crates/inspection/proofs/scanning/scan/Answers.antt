-- `scan`: what the loop keeps, and that its contract follows. Assumes nothing.
use Rattle.std.proofs.Common.{ℕ, suc, ◌-◌, length, sym, ◌∙◌, arith}
use Rattle.inspection.specs.ScanningLaws.{no_turn}
use Rattle.inspection.proofs.scanning.scan.Goals as goal

pub loop-preserved : goal.loop-preserved
loop-preserved c k e = c.loop.invariant (suc k) (omega (arith, e)) ∙ c.in-Ok.ensures k

pub returns-in-Err : goal.returns-in-Err
returns-in-Err c = let k : ℕ = length c.args.input.now - c.loop.counter - 1 in sym (c.loop.invariant (suc k) (omega arith) ∙ c.in-Err.ensures k)

pub returns : goal.returns
returns c = let l = c.loop in sym (l.invariant 0 (omega arith) ∙ no_turn c.args.input.now l.spot.at l.spot.used l.spot.n l.out)
