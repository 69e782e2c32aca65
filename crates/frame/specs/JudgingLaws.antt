-- What is told of a datagram has no second answer. Assumes nothing.
use Rattle.std.specs.Prelude.{◌≡◌, refl, List, ℕ, get_or, Result, Ok, Err}
use Rattle.wire.specs.ToldLaws.{one_to_one, answer_of, back_refused, same}
use Rattle.frame.specs.Judging.{told, JudgePromise}
use Rattle.frame.specs.declared.judging.Judged.{Judged}
use Rattle.wire.specs.declared.refusals.Fault.{Fault}

answered : List ℕ → Result Judged Fault
answered vs = Ok (record { service = get_or vs 0 0; total = get_or vs 1 0 })

told_back : (r : Result Judged Fault) → answer_of answered Err (told r) ≡ r
unfolding answered
told_back (Ok j) = refl
told_back (Err e) = back_refused answered Err 2 e

pub judge_one : (s : List ℕ) (r q : Result Judged Fault) → JudgePromise s r → JudgePromise s q → r ≡ q
judge_one s r q a b = one_to_one told (answer_of answered Err) told_back r q (same a b)
