-- `numbered` keeps its contract. Assumes nothing.
use Rattle.std.proofs.Common.{arith}
use Rattle.std.proofs.lemmas.Result.{err_from_is_err_and}
use Rattle.digits.specs.Digits.{decimal}
use Rattle.digits.specs.DigitLaws.{decimal_stored}
use Rattle.inspection.specs.Lines.{closing}
use Rattle.inspection.specs.LinesLaws.{was_put, front_full, front_put}
use Rattle.inspection.proofs.lines.numbered.Goals as goal

pub returns-in_err-size : goal.returns-in_err-size
returns-in_err-size c =
    let a = c.args in
    let p = err_from_is_err_and c.from_residual.result c.from_residual.ensures.1 in
    rw (p.1, p.2) (front_full (decimal a.n) (closing a.text.now a.last) a.out.now c.places-to_text.result c.places-to_text.ensures c.in_err-size.field-0.0 c.close.new.out c.in_err-size.ensures)

pub overflow_add-result : goal.overflow_add-result
overflow_add-result c =
    let x = was_put (closing c.args.text.now c.args.last) c.args.out.now c.places-to_text.result c.in_ok-size.size c.in_ok-size.ensures.0 in
    omega (arith, x.size, x.fits)

pub returns : goal.returns
returns c =
    let a = c.args in
    let k = c.places-to_text in
    let x = was_put (closing a.text.now a.last) a.out.now k.result c.in_ok-size.size c.in_ok-size.ensures.0 in
    front_put (decimal a.n) (closing a.text.now a.last) a.out.now k.result k.ensures c.in_ok-size.size c.close.new.out c.put_digits.new.out c.in_ok-size.ensures
    (decimal_stored c.close.new.out c.put_digits.new.out a.n 0 k.result (omega (arith, k.ensures)) c.put_digits.ensures)
