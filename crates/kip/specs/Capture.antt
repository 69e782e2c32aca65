-- 01, "Inspection program": a capture is `KIP`, a 16-bit version 1, then records of a 16-bit length and a datagram. What its records are is said of the whole byte string. Assumes nothing.
use Rattle.std.specs.Prelude.{ℕ, zero, suc, ◌+◌, ◌≡◌, Bool, false, cond, List, [], ◌∷◌, length, get_or, take, drop, eqb, ltb, leb, Option, Some, None}
use Rattle.wire.specs.Layout.{word_at}
use Rattle.wire.specs.declared.parts.View.{View}

-- `KIP`, version 1; another start is another capture
abbrev pub starts_by01 : List ℕ → Bool
starts_by01 s =
    cond (ltb (length s) 5) false
    (cond (eqb (get_or s 0 0) 0x4B)
    (cond (eqb (get_or s 1 0) 0x49)
    (cond (eqb (get_or s 2 0) 0x50) (eqb (word_at s 3) 1) false) false) false)

abbrev pub StartsPromise : List ℕ → Bool → Type 0
StartsPromise s r = r ≡ starts_by01 s

-- ---- records

-- the bytes start with a whole record: its length, and as many bytes as that
abbrev pub whole : List ℕ → Bool
whole s = cond (ltb (length s) 2) false (leb (2 + word_at s 0) (length s))

-- the datagram of that record, and what follows it
abbrev pub first_in : List ℕ → List ℕ
first_in s = take (word_at s 0) (drop 2 s)

abbrev pub rest_in : List ℕ → List ℕ
rest_in s = drop (2 + word_at s 0) s

-- the first n records at most, and what they leave
unfoldable pub records_of : ℕ → List ℕ → List (List ℕ)
records_of zero s = []
records_of (suc n) s = cond (whole s) (first_in s ∷ records_of n (rest_in s)) []

unfoldable pub unfinished_of : ℕ → List ℕ → List ℕ
unfinished_of zero s = s
unfinished_of (suc n) s = cond (whole s) (unfinished_of n (rest_in s)) s

-- all records of the bytes behind the start: no more than there are bytes
abbrev pub records : List ℕ → List (List ℕ)
records s = records_of (length s) s

-- what is left behind the whole ones: an unfinished record, a lone length byte too
abbrev pub unfinished : List ℕ → List ℕ
unfinished s = unfinished_of (length s) s

-- ---- one at a time

-- the datagram of the record that starts at a place of a buffer
abbrev pub next_at : List ℕ → ℕ → Option View
next_at s at = cond (whole (drop at s)) (Some (record { start = at + 2; end = at + 2 + word_at s at })) None

abbrev pub NextPromise : List ℕ → ℕ → Option View → Type 0
NextPromise s at r = r ≡ next_at s at
