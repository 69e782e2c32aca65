-- A search by index, turn by turn, and what it finds in the terms of `first_of` and `put_first`. Assumes nothing.
use Rattle.std.specs.Prelude.{ℕ, suc, ◌+◌, ◌≤◌, ◌<◌, ◌≡◌, refl, Bool, true, false, cond, List, [], ◌∷◌, length, get_or, set, drop, None, Some}
use Rattle.std.proofs.Common.{arith, add-one, ap, drop_of_length-le, drop-cons}
use Rattle.wire.specs.Clash.{never}
use Rattle.tunnel_model.specs.Firsts.{first_of, put_first}
use Rattle.tunnel_table.specs.Places.{Place, seek}

-- ---- one turn

module _ (q : Place → Bool) (l : List Place) (d : Place) (i : ℕ) (h : i < length l) where
  pub seek_turn : q (get_or l i d) ≡ false → seek q i (drop i l) ≡ seek q (i + 1) (drop (i + 1) l)
  seek_turn e = rw (add-one i, drop-cons l i d h, e)

pub seek_end : (q : Place → Bool) (l : List Place) (i : ℕ) → length l ≤ i → seek q i (drop i l) ≡ None
seek_end q l i h = rw (drop_of_length-le l h)

-- ---- what was found

-- the first place that passes stands at j
pub record Stands (q : Place → Bool) (l : List Place) (d : Place) (j : ℕ) : Type 0 where
  pub inside : j < length l
  pub first : first_of q l ≡ Some (get_or l j d)
  pub put : (v : Place) → put_first q v l ≡ set l j v

pub seek-nothing : (q : Place → Bool) (l : List Place) (k : ℕ) → seek q k l ≡ None → first_of q l ≡ None
seek-nothing q [] k e = refl
seek-nothing q (x ∷ l) k e = go (q x) e (seek-nothing q l (suc k))
  where
    go : (b : Bool) → cond b (Some k) (seek q (suc k) l) ≡ None → (seek q (suc k) l ≡ None → first_of q l ≡ None) → cond b (Some x) (first_of q l) ≡ None
    go true e' ih = never cc
    go false e' ih = ih e'

seek_from : (q : Place → Bool) (l : List Place) (d : Place) (k i : ℕ) → seek q k l ≡ Some i → (j : ℕ) × (i ≡ k + j) × Stands q l d j
seek_from q [] d k i e = never cc
seek_from q (x ∷ l) d k i e = go (q x) refl e (seek_from q l d (suc k) i)
  where
    go : (b : Bool) → q x ≡ b → cond b (Some k) (seek q (suc k) l) ≡ Some i
        → (seek q (suc k) l ≡ Some i → (j : ℕ) × (i ≡ suc k + j) × Stands q l d j)
        → (j : ℕ) × (i ≡ k + j) × Stands q (x ∷ l) d j
    go true b e' ih =
        let s : k ≡ i = cc in
        (0, omega arith, record { inside = omega arith; first = rw b; put = λ v. rw b })
    go false b e' ih =
        let r = ih e' in
        let n = r.1 in
        let m = r.2.inside in
        (suc r.0, omega arith, record { inside = omega arith; first = rw b r.2.first; put = λ v. rw b (ap (λ (w : List Place). x ∷ w) (r.2.put v)) })

pub seek-at : (q : Place → Bool) (l : List Place) (d : Place) (i : ℕ) → seek q 0 l ≡ Some i → Stands q l d i
seek-at q l d i e =
    let r = seek_from q l d 0 i e in
    let n : r.0 ≡ i = (let m = r.1 in omega arith) in
    rw n at r.2
