-- `close` keeps its contract. Assumes nothing.
use Rattle.std.proofs.Common.{arith, refl}
use Rattle.digits.specs.DigitLaws.{decimal_stored}
use Rattle.inspection.specs.LinesLaws.{closed, unclosed, closed_put}
use Rattle.inspection.proofs.lines.close.Goals as goal

pub returns-then-out-feed : goal.returns-then-out-feed
returns-then-out-feed c = let a = c.args in unclosed a.text.now a.out.now a.n a.at _ (omega (arith, c.places.ensures)) c.if-out-feed.true

pub returns : goal.returns
returns c =
    let a = c.args in
    let one = c.copy_at in
    let two = c.put_digits in
    let three = c.copy_at-2 in
    let fits = c.if-out-feed.false in
    let stored = decimal_stored one.new.dst two.new.out a.n _ _ (omega (arith, c.places.ensures)) two.ensures in
    closed_put a.text.now a.out.now three.new.dst a.n a.at _ (omega (arith, c.places.ensures)) fits
    (closed a.text.now a.out.now one.new.dst two.new.out three.new.dst a.n a.at _ _ refl (omega (arith, c.places.ensures)) (omega arith) one.ensures stored three.ensures)
