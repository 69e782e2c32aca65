-- What the program knows of its buffers after each of its turns. Assumes nothing.
use Rattle.std.specs.Prelude.{ℕ, ◌+◌, ◌≡◌, cond, List, length, leb}
use Rattle.wire.specs.Parts.{part_of}
use Rattle.wire.specs.Writing.{onto}
use Rattle.inspection.specs.declared.scanning.Spot.{Spot}
use Rattle.inspection.specs.declared.turns.Progress.{Progress}

-- the bytes of the input buffer that are read, and those of them that are not handed on
abbrev pub read_in : List ℕ → Progress → List ℕ
read_in input p = part_of input 0 p.have

abbrev pub unread_in : List ℕ → Progress → List ℕ
unread_in input p = part_of input p.spot.at p.have

-- behind the five bytes of the start, with nothing gathered and nothing counted
abbrev pub first : Spot
first = record { at = 5; used = 0; n = 0 }

abbrev pub BeginPromise : Progress → Type 0
BeginPromise r = r ≡ record { spot = first; have = 0 }

abbrev pub WrittenOutPromise : Progress → Progress → Type 0
WrittenOutPromise p r = r ≡ record { spot = record { at = p.spot.at; used = 0; n = p.spot.n }; have = p.have }

-- no more is read than the buffer holds
abbrev pub ReadOnPromise : List ℕ → Progress → ℕ → Progress → Type 0
ReadOnPromise input p k r = r ≡ record { spot = p.spot; have = cond (leb (p.have + k) (length input)) (p.have + k) (length input) }

-- what was not handed on stands at the front, and behind it what stood there
abbrev pub ToFrontPromise : List ℕ → Progress → Progress → List ℕ → Type 0
ToFrontPromise input p r after =
    (r ≡ record { spot = record { at = 0; used = p.spot.used; n = p.spot.n }; have = length (unread_in input p) }) × (after ≡ onto input (unread_in input p))
