-- `past`: what the loop keeps, and that its contract follows. Assumes nothing.
use Rattle.std.proofs.Common.{arith}
use Rattle.additional_info.specs.AreaSteps.{walk_none, Turn, turn}
use Rattle.additional_info.proofs.area.past.Goals as goal
use Rattle.additional_info.proofs.area.past.Goals.{After-walk-next}

-- what one more walk gives, for each goal behind it
turned : (c : After-walk-next) → Turn c.args.n c.loop-records.records c.loop-records.at c.min-most.result c.args.area.now c.walk-next.result
turned c =
    let l = c.loop-records in
    let w = c.walk-next in
    turn c.args.n l.records l.at c.min-most.result c.args.area.now c.part.result.now w.result c.loop-records-test.true l.invariant.1 c.min-most.ensures c.part.ensures w.ensures

pub loop-records-init : goal.loop-records-init
loop-records-init c = (omega arith, walk_none c.args.area.now)

pub overflow_add-records : goal.overflow_add-records
overflow_add-records c = omega (arith, (turned (goal.at.overflow_add-records c).After-walk-next).most)

pub loop-records-preserved : goal.loop-records-preserved
loop-records-preserved c =
    let t = turned (goal.at.loop-records-preserved c).After-walk-next in (t.most, t.next)

pub returns-then-next-most : goal.returns-then-next-most
returns-then-next-most c = (turned (goal.at.returns-then-next-most c).After-walk-next).last c.if-next-most.true
