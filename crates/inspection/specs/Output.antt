-- "Inspection program": what is printed of a capture, over all its bytes. Assumes nothing.
use Rattle.std.specs.Prelude.{ℕ, ◌+◌, true, false, cond, List, [], ◌∷◌, ◌++◌, length, drop, ltb}
use Rattle.kip.specs.Capture.{starts_by01, records, unfinished}
use Rattle.frame.specs.Judging.{judge_by01}
use Rattle.inspection.specs.Lines.{heading_of, line_told, ending_of}

-- the lines of records, numbered on from the n before them
abbrev pub lines : ℕ → List (List ℕ) → List ℕ
lines n [] = []
lines n (r ∷ rs) = line_told (n + 1) (judge_by01 r) ++ lines (n + 1) rs

-- behind the start: the lines of the records, their count, and `cut` where something is left
abbrev pub inspected_by01 : List ℕ → List ℕ
inspected_by01 s = lines 0 (records s) ++ ending_of (length (records s)) (ltb 0 (length (unfinished s)))

-- "Another start prints `not KIP 1` only"
abbrev pub printed_by01 : List ℕ → List ℕ
printed_by01 s = cond (starts_by01 s) (heading_of true ++ inspected_by01 (drop 5 s)) (heading_of false)
