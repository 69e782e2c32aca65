-- `put_digits`: what the loop keeps, and that its contract follows. Assumes nothing.
use Rattle.std.proofs.Common.{ℕ, ◌-◌, arith, ◌≡◌, sym, ap, ◌∙◌}
use Rattle.wire.specs.LayoutLaws.{copied_is}
use Rattle.digits.specs.Digits.{last_digits}
use Rattle.digits.specs.DigitLaws.{standing, last_length, digit_turn, digits_stand, none_stored, unfit_stored}
use Rattle.digits.proofs.put_digits.Goals as goal
use Rattle.digits.proofs.put_digits.Goals.{then-end-at-via-then-end-at, then-end-at-via-else-end-at+then-out-end}

pub returns-then-end-at : goal.returns-then-end-at
returns-then-end-at c =
    let a = c.args in
    elim c.then-end-at.branch [
      | then-end-at-via-then-end-at w ↦ none_stored a.out.now a.n a.at a.end (omega arith)
      | then-end-at-via-else-end-at+then-out-end w ↦ unfit_stored a.out.now a.n a.at a.end (omega arith)
    ]

pub loop-i-preserved : goal.loop-i-preserved
loop-i-preserved c =
    let o = c.loop-i in
    (omega arith, digit_turn o.out c.args.at o.i o.rest (omega arith) (omega arith) ∙ o.invariant.1)

pub returns : goal.returns
returns c =
    let a = c.args in
    let o = c.loop-i in
    let z : o.i ≡ a.at = omega arith in
    let now = sym (digits_stand o.out a.at o.rest) ∙ ap (λ (k : ℕ). standing o.out a.at k o.rest) (sym z) ∙ o.invariant.1 in
    now ∙ sym (copied_is (last_digits (a.end - a.at) a.n) a.out.now a.at a.end (omega (arith, last_length (a.end - a.at) a.n)) (omega arith))
