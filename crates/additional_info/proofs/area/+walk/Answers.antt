-- After one record the walk goes on with what remains. Assumes nothing.
use Rattle.std.proofs.Common.{◌≡◌, ◌-◌, suc, arith}
use Rattle.additional_info.specs.WalkLaws.{records-most}
use Rattle.additional_info.specs.AreaSteps.{none-stands, one_stands, rest_part, walk_none, walk_stop, walk_on}
use Rattle.additional_info.proofs.area.+walk.Goals as goal

pub returns-then-n-eq0 : goal.returns-then-n-eq0
returns-then-n-eq0 t c = rw c.if-n-eq0.true (walk_none c.args.area.now)

pub returns-in-None : goal.returns-in-None
returns-in-None t c = walk_stop c.args.n c.args.area.now (none-stands c.args.area.now c.in-None.ensures)

pub overflow_add-result : goal.overflow_add-result
overflow_add-result t c = omega (arith, c.walk-rest.ensures.0, records-most (c.args.n - 1) c.part.result.now)

pub overflow_add-result-in-Some : goal.overflow_add-result-in-Some
overflow_add-result-in-Some t c =
    let s = c.args.area.now in
    let one = one_stands s c.in-Some.end c.in-Some.ensures in
    let rest = rest_part s c.part.result.now c.in-Some.end one.1 one.0 c.part.ensures in
    omega (arith, rest.1, c.walk-rest.ensures.1)

pub returns-in-Some : goal.returns-in-Some
returns-in-Some t c =
    let s = c.args.area.now in
    let one = one_stands s c.in-Some.end c.in-Some.ensures in
    let rest = rest_part s c.part.result.now c.in-Some.end one.1 one.0 c.part.ensures in
    let n : c.args.n ≡ suc (c.args.n - 1) = omega arith in
    rw (n, one.1) (walk_on (c.args.n - 1) s c.part.result.now c.walk-rest.result one.0 rest.0 c.walk-rest.ensures)
