-- The invariant: the digits still to come, before those that stand, make the output. Assumes nothing.
use Rattle.std.proofs.Common.{◌-◌, ◌≤◌, ◌≡◌, ◌++◌, take, drop}
use Rattle.digits.specs.Digits.{last_digits}
use Rattle.digits.specs.DigitLaws.{standing}
use Rattle.digits.proofs.put_digits.Given as goal

abbrev pub invariant-loop-i : goal.invariant-loop-i
invariant-loop-i l = (l.at ≤ l.i) × (standing l.out l.at l.i l.rest ≡ take l.at l.initial.out ++ last_digits (l.end - l.at) l.n ++ drop l.end l.initial.out)
