-- `copy_bytes`: what the loop keeps, and that its contract follows. Assumes nothing.
use Rattle.std.proofs.Common.{ℕ, ◌+◌, ◌<◌, ◌≡◌, refl, ap, sym, ◌∙◌, List, arith, add-one, length, length-set, length-drop, set, drop, get_or-drop}
use Rattle.std.proofs.Math.Seq.{paste, paste-zero, paste-suc}
use Rattle.wire.proofs.copying.copy_bytes.Goals as goal

pub loop-i-init : goal.loop-i-init
loop-i-init c = (omega arith, (paste-zero c.args.dst.now c.args.to (drop c.args.from c.args.src.now), refl))

pub loop-i-preserved : goal.loop-i-preserved
loop-i-preserved c =
    let l = c.loop-i in
    let a = c.args in
    let s : List ℕ = drop a.from a.src.now in
    let h : l.i < length s = simp length-drop (omega arith) in (
      omega arith,
      (
        rw (l.invariant.1.0, add-one)
            (ap (set (paste a.dst.now a.to s l.i) (a.to + l.i)) (sym (get_or-drop a.from a.src.now l.i 0))
            ∙ paste-suc a.dst.now a.to s l.i 0 (omega arith) h),
        simp length-set l.invariant.1.1,
      ),
    )

pub returns : goal.returns
returns c =
    let l = c.loop-i in
    let a = c.args in
    let e : l.i ≡ a.n = omega arith in
    l.invariant.1.0 ∙ ap (paste a.dst.now a.to (drop a.from a.src.now)) e
