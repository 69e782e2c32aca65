-- What fits is pasted whole; what does not fit is seen by the same sum. Assumes nothing.
use Rattle.std.proofs.Common.{ℕ, ◌+◌, List, ◌++◌, ap, ◌∙◌, arith, le-leb, length, take, drop}
use borrow.Author.Tests.{lt-leb}
use Rattle.std.proofs.Math.Seq.{take-length}
use Rattle.wire.proofs.layout.copy_at.Goals as goal

pub returns-then-dst-at : goal.returns-then-dst-at
returns-then-dst-at c =
    let a = c.args in
    simp (lt-leb (a.at + length a.src.now) (length a.dst.now) (omega arith))

pub returns-then-dst-at-2 : goal.returns-then-dst-at-2
returns-then-dst-at-2 c =
    let a = c.args in
    simp (lt-leb (a.at + length a.src.now) (length a.dst.now) (omega arith))

pub returns : goal.returns
returns c =
    let a = c.args in
    let src : List ℕ = a.src.now in
    let dst : List ℕ = a.dst.now in
    simp (le-leb (a.at + length src) (length dst) (omega arith))
    (c.copy_all.ensures
    ∙ ap (λ (l : List ℕ). take a.at dst ++ l ++ drop (a.at + length src) dst) (take-length src))
