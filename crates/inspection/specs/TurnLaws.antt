-- What is read and not handed on, as a part of the buffer. Assumes nothing.
use Rattle.std.specs.Prelude.{ℕ, ◌+◌, ◌-◌, ◌≤◌, ◌≡◌, List, length, take, drop}
use Rattle.std.proofs.Common.{arith, sym, ap, ◌∙◌, take-add, drop_at, length-take-le}
use Rattle.wire.specs.Parts.{part_of}
use Rattle.wire.specs.PartLaws.{part_is}

-- the part from one place to another
pub part_drop : (s : List ℕ) (at have : ℕ) → at ≤ have → have ≤ length s → part_of s at have ≡ drop at (part_of s 0 have)
part_drop s at have h k =
    let e : at + (have - at) ≡ have = omega arith in
    let z : have - 0 ≡ have = omega arith in
    part_is s at have h k
    ∙ sym (drop_at (take at s) (take (have - at) (drop at s)) at (length-take-le at s (omega arith)))
    ∙ ap (drop at) (sym (take-add at (have - at) s) ∙ ap (λ (n : ℕ). take n s) (e ∙ sym z) ∙ sym (part_is s 0 have (omega arith) k))
