-- What a read brings stands behind what was read. Assumes nothing.
use Rattle.std.proofs.Common.{◌≡◌, ◌+◌, ◌-◌, ◌++◌, ℕ, List, length, take, arith, sym, ap, subst, ◌∙◌, length-append, length-take-le, take_at}
use borrow.Rule.Slice.PartMut.{put_mid, post_of}
use Rattle.std.specs.Io.KnownBytes.{Consumes}
use Rattle.replay.specs.Laws.{consumes_on, consumes_kept, read-behind}
use Rattle.replay.proofs.records.filled.Goals as goal
use Rattle.replay.proofs.records.filled.Goals.{in-Ok, in-Err+else-ne}

pub loop-preserved : goal.loop-preserved
loop-preserved g c =
    let left = g.R.Read.remaining in
    let o = c.loop in
    let start : List ℕ = take o.at o.buf in
    let part : List ℕ = c.read.new.buf in
    let rest : List ℕ = post_of o.at (length o.buf - o.at) o.buf in
    let long : length start ≡ o.at = length-take-le o.at o.buf o.invariant.1 in
    let more : List ℕ = put_mid o.at (length o.buf - o.at) o.buf part in
    let size : length more ≡ o.at + (length part + length rest) = length-append start (part ++ rest) ∙ omega (arith, long, length-append part rest) in
    elim c.match-read.branch [
      | in-Ok w ↦
          let n = w.in-Ok.n in
          let got = w.in-Ok.ensures.bytes.0 in
          let on = consumes_on (left c.args.input.now) (left o.input) (left c.read.new.self) start (take n part) o.invariant.0 got in
          let same : take c.match-read.at more ≡ start ++ take n part = ap (λ (k : ℕ). take k more) w.at-is ∙ read-behind start part rest o.at n long w.in-Ok.ensures.bound.0 in
          (subst (Consumes (left c.args.input.now) (left c.read.new.self)) (sym same) on, omega (arith, w.at-is, w.in-Ok.ensures.bound.0, size))
      | in-Err+else-ne w ↦
          let on = consumes_kept (left c.args.input.now) (left o.input) (left c.read.new.self) start o.invariant.0 w.in-Err.ensures.bytes in
          let same : take c.match-read.at more ≡ start = ap (λ (k : ℕ). take k more) w.at-is ∙ take_at start (part ++ rest) o.at long in
          (subst (Consumes (left c.args.input.now) (left c.read.new.self)) (sym same) on, omega (arith, w.at-is, size))
    ]
