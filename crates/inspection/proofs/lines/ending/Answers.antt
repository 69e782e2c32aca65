-- `ending` keeps its contract. Assumes nothing.
use Rattle.std.proofs.Common.{ℕ, arith, ap, ◌∙◌, List, length}
use Rattle.std.proofs.lemmas.Result.{err_from_is_err_and}
use Rattle.wire.specs.Layout.{copied}
use Rattle.inspection.specs.Lines.{closing, cut_front, records_text}
use Rattle.inspection.specs.LinesLaws.{was_put, front_full, front_put}
use Rattle.inspection.proofs.lines.ending.Goals as goal

pub returns-in_err-size : goal.returns-in_err-size
returns-in_err-size c =
    let a = c.args in
    let p = err_from_is_err_and c.from_residual.result c.from_residual.ensures.1 in
    rw (p.1, p.2) (front_full (cut_front a.cut) (closing records_text a.n) a.out.now _ (ap length c.cut_line-front.ensures) c.in_err-size.field-0.0 c.close.new.out c.in_err-size.ensures)

pub overflow_add-result : goal.overflow_add-result
overflow_add-result c =
    let x = was_put (closing records_text c.args.n) c.args.out.now (length c.cut_line-front.result.now) c.in_ok-size.size c.in_ok-size.ensures.0 in
    omega (arith, x.size, x.fits)

pub returns : goal.returns
returns c =
    let a = c.args in
    front_put (cut_front a.cut) (closing records_text a.n) a.out.now _ (ap length c.cut_line-front.ensures) c.in_ok-size.size c.close.new.out c.copy_at.new.dst c.in_ok-size.ensures
    (c.copy_at.ensures ∙ ap (λ (l : List ℕ). copied l c.close.new.out 0) c.cut_line-front.ensures)
