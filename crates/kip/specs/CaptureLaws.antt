-- What the first bytes say of a capture's start, and where the next record of a buffer stands. Assumes nothing.
use Rattle.std.specs.Prelude.{ℕ, ◌≤◌, ◌≡◌, refl, Bool, true, false, cond, List, ◌++◌, length, get_or, drop, eqb, ltb}
use Rattle.std.proofs.Common.{arith, add-zero, ap, ◌∙◌, length-append, get_or-drop, le-ltb, ltb-false}
use Rattle.std.proofs.Math.ListN.{get_or-append}
use Rattle.wire.specs.Clash.{never}
use Rattle.wire.specs.Layout.{word_of, word_at}
use Rattle.kip.specs.Capture.{starts_by01}

-- ---- the start

-- a start has five bytes
pub starts_five : (s : List ℕ) → starts_by01 s ≡ true → 5 ≤ length s
starts_five s q = go (ltb (length s) 5) refl q
  where
    go : (b : Bool) → ltb (length s) 5 ≡ b
        → cond b false (cond (eqb (get_or s 0 0) 0x4B) (cond (eqb (get_or s 1 0) 0x49) (cond (eqb (get_or s 2 0) 0x50) (eqb (word_at s 3) 1) false) false) false) ≡ true → 5 ≤ length s
    go true e p = never cc
    go false e p = ltb-false (length s) 5 e

-- and bytes behind them make no difference
pub starts_more : (s a : List ℕ) → 5 ≤ length s → starts_by01 (s ++ a) ≡ starts_by01 s
starts_more s a h =
    let longer : 5 ≤ length (s ++ a) = omega (arith, length-append s a) in
    let b0 : get_or (s ++ a) 0 0 ≡ get_or s 0 0 = get_or-append s a 0 0 (omega arith) in
    let b1 : get_or (s ++ a) 1 0 ≡ get_or s 1 0 = get_or-append s a 0 1 (omega arith) in
    let b2 : get_or (s ++ a) 2 0 ≡ get_or s 2 0 = get_or-append s a 0 2 (omega arith) in
    let b3 : get_or (s ++ a) 3 0 ≡ get_or s 3 0 = get_or-append s a 0 3 (omega arith) in
    let b4 : get_or (s ++ a) 4 0 ≡ get_or s 4 0 = get_or-append s a 0 4 (omega arith) in
    simp (le-ltb (length (s ++ a)) 5 longer, le-ltb (length s) 5 h, b0, b1, b2, b3, b4)

-- ---- where the next record stands

pub word_drop : (s : List ℕ) (at : ℕ) → word_at (drop at s) 0 ≡ word_at s at
word_drop s at =
    ap (λ (x : ℕ). word_of x (get_or (drop at s) 1 0)) (get_or-drop at s 0 0 ∙ ap (λ (k : ℕ). get_or s k 0) (add-zero at))
    ∙ ap (word_of (get_or s at 0)) (get_or-drop at s 1 0)
