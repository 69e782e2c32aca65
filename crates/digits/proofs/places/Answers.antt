-- `places` keeps its contract. Assumes nothing.
use Rattle.std.proofs.Common.{arith}
use Rattle.digits.specs.DigitLaws.{log-places}
use Rattle.digits.proofs.places.Goals as goal

pub returns : goal.returns
returns c = log-places c.ilog10.result c.args.n c.ilog10.ensures.bound (omega (arith, c.ilog10.ensures.power_le)) (omega (arith, c.ilog10.ensures.next_power_gt))
