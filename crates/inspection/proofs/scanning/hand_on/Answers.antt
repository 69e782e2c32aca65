-- `hand_on`: each way out is a turn of a scan. Assumes nothing.
use Rattle.std.specs.Prelude.{IsErrAnd, MatchResult}
use Rattle.std.proofs.Common.{ℕ, ◌+◌, ◌≡◌, refl, arith, ap, subst, List, Result, Ok, Err}
use Rattle.std.specs.Result.{result_or}
use Rattle.std.proofs.lemmas.Result.{err_from_is_err_and}
use Rattle.wire.specs.Clash.{never}
use Rattle.frame.specs.Judging.{JudgePromise}
use Rattle.wire.specs.Refusals.{number_of}
use Rattle.wire.specs.declared.refusals.Refusal.{Refusal}
use Rattle.wire.specs.declared.refusals.Fault.{Fault}
use Rattle.frame.specs.declared.judging.Judged.{Judged}
use Rattle.inspection.specs.declared.scanning.Stop.{Stop}
use Rattle.inspection.specs.declared.scanning.Stop.TheVariants.{Short, Full, Last}
use Rattle.inspection.specs.Lines.{by_number}
use Rattle.inspection.specs.Scanning.{HandOnPromise}
use Rattle.inspection.specs.ScanningLaws.{Turn, hand_short, hand_last, turn_full, turn_fits, turn_hands}
use Rattle.inspection.proofs.scanning.hand_on.Goals as goal
use Rattle.inspection.proofs.scanning.hand_on.Goals.{After-put_line}

pub returns-in_err-record : goal.returns-in_err-record
returns-in_err-record c =
    let p = err_from_is_err_and c.from_residual.result c.from_residual.ensures.1 in
    let i = c.in_err-record.ensures in
    let e = rw i.ok_part at i.value in
    let short : c.in_err-record.field-0.0 ≡ Short = cc in
    rw (p.1, p.2, short) (hand_short c.args.input.now c.args.out.now c.args.spot (rw i.ok_part at c.next_record.ensures))

pub returns-in_err-n : goal.returns-in_err-n
returns-in_err-n c =
    let p = err_from_is_err_and c.from_residual-in_err-n.result c.from_residual-in_err-n.ensures.1 in
    let i = c.in_err-n.ensures in
    let e = rw i.ok_part at i.value in
    let last : c.in_err-n.field-0.0 ≡ Last = cc in
    let most = rw i.ok_part at c.checked_add.ensures in
    rw (p.1, p.2, last) (hand_last c.args.input.now c.args.out.now c.args.spot c.in_ok-record.record (rw c.in_ok-record.ensures.ok_part at c.next_record.ensures) (omega arith))

-- a refusal is handed on by its number
its_number : (r : Result Judged Fault) (q : Result Judged ℕ) → MatchResult r (λ x. q ≡ Ok x) (λ e. IsErrAnd q (λ n. n ≡ number_of e.why)) → q ≡ by_number r
its_number (Ok j) q e = e
its_number (Err e) (Ok j) x = absurd x
its_number (Err e) (Err n) x = ap Err x

-- what a turn knows once its line was put
module _ (c : After-put_line) where
  number : c.in_ok-n.n ≡ c.args.spot.n + 1
  number = let n = rw c.in_ok-n.ensures.ok_part at c.checked_add.ensures in n.1

  judged_so : c.map_err-judged.result ≡ by_number c.judge.result
  judged_so = its_number c.judge.result c.map_err-judged.result c.map_err-judged.ensures.cases

  abbrev turn : Turn
  turn = record {
    input = c.args.input.now;
    spot = c.args.spot;
    out = c.args.out.now;
    view = c.in_ok-record.record;
    told_of = c.judge.result;
    answer = c.put_line.result;
    after = c.put_line.new.out;
    counts = let n = rw c.in_ok-n.ensures.ok_part at c.checked_add.ensures in omega arith;
    named = rw c.in_ok-record.ensures.ok_part at c.next_record.ensures;
    told_so = subst (λ (d : List ℕ). JudgePromise d c.judge.result) c.part-datagram.ensures c.judge.ensures;
    put = rw (number, judged_so) at c.put_line.ensures;
  }

-- the line was put, or its refusal is told as `Full`
was_put : (r : Result ℕ Refusal) (size : ℕ) → Ok size ≡ result_or {D = Stop} r (Err Full) → r ≡ Ok size
was_put (Ok x) size e = cc
was_put (Err x) size e = never cc

pub returns-in_err-size : goal.returns-in_err-size
returns-in_err-size c =
    let p = err_from_is_err_and c.from_residual-in_err-size.result c.from_residual-in_err-size.ensures.1 in
    rw (p.1, p.2) (go c.put_line.result refl c.in_err-size.ensures)
  where
    x : Stop
    x = c.in_err-size.field-0.0

    go : (r : Result ℕ Refusal) → c.put_line.result ≡ r → ◌≡◌ {A = Result ℕ Stop} (Err x) (result_or {D = Stop} r (Err Full)) → HandOnPromise c.args.input.now c.args.out.now c.args.spot (Err x) c.put_line.new.out
    go (Ok size) e q = never cc
    go (Err why) e q = let full : x ≡ Full = cc in rw full (turn_full (turn (goal.at.returns-in_err-size c).After-put_line) why e)

pub overflow_add-result : goal.overflow_add-result
overflow_add-result c = omega (arith, turn_fits (turn (goal.at.overflow_add-result c).After-put_line) c.in_ok-size.size (was_put c.put_line.result c.in_ok-size.size c.in_ok-size.ensures))

pub returns : goal.returns
returns c =
    let before = (goal.at.returns c).After-put_line in
    rw (number before) (turn_hands (turn before) c.in_ok-size.size (was_put c.put_line.result c.in_ok-size.size c.in_ok-size.ensures))
