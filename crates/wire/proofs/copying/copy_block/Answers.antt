-- What the array holds in between is what is pasted. Assumes nothing.
use Rattle.std.proofs.Common.{ℕ, ◌≤◌, List, arith, length, length-drop, drop, replicate}
use Rattle.wire.specs.PasteLaws.{paste_through}
use Rattle.wire.proofs.copying.copy_block.Goals as goal

pub returns : goal.returns
returns c =
    let a = c.args in
    let s : List ℕ = drop a.from a.src.now in
    let h : a.n ≤ length s = simp length-drop (omega arith) in
    paste_through (replicate 64 0) a.dst.now s _ _ a.to a.n c.copy_bytes.ensures c.copy_bytes-2.ensures h
