-- "A line: the number of document 01, then the call's values, all in decimal", the lent buffer as far as it was touched, in hex, and the offsets of the refusals. Assumes nothing.
use Rattle.std.specs.Prelude.{ℕ, zero, suc, ◌+◌, ◌-◌, ◌/◌, ◌%◌, ◌≡◌, cond, List, [], ◌∷◌, ◌++◌, length, get_or, take, fold, map, flat_map, eqb, leb}
use Rattle.wire.specs.Layout.{copied}
use Rattle.digits.specs.Digits.{decimal, hex_digit}
use Rattle.replay.specs.declared.telling.Told.{Told}

-- ---- pieces, one behind the other

-- what stands in the output, and where the next piece goes
pub record Sheet : Type 0 where
  pub out : List ℕ
  pub at : ℕ

abbrev pub sheet : List ℕ → ℕ → Sheet
sheet out at = record { out = out; at = at }

-- a piece that does not fit is left out
abbrev pub laid : Sheet → List ℕ → Sheet
laid s w = cond (leb (s.at + length w) (length s.out)) (sheet (copied w s.out s.at) (s.at + length w)) s

abbrev pub PiecePromise : List ℕ → List ℕ → ℕ → ℕ → List ℕ → Type 0
PiecePromise w out at r after = sheet after r ≡ laid (sheet out at) w

abbrev pub all : Sheet → List (List ℕ) → Sheet
all = fold laid

abbrev pub PiecesPromise : List (List ℕ) → List ℕ → ℕ → ℕ → List ℕ → Type 0
PiecesPromise ws out at r after = sheet after r ≡ all (sheet out at) ws

-- ---- the values, and the offsets

-- a mark, and a number behind it
abbrev pub number_pieces : List ℕ → ℕ → List (List ℕ)
number_pieces mark n = mark ∷ decimal n ∷ []

-- the first `count` of them, and no more than there are
abbrev pub numbers : List ℕ → List ℕ → ℕ → List (List ℕ)
numbers mark ns count = flat_map (number_pieces mark) (take count ns)

-- " 4 21" for 4 and 21
abbrev pub values : Told → List (List ℕ)
values t = numbers (32 ∷ []) t.values t.count

-- " @5 @9" for refusals at 5 and 9
abbrev pub offsets : Told → List (List ℕ)
offsets t = numbers (32 ∷ 64 ∷ []) t.offsets t.refusals

-- ---- the lent buffer

-- what it holds at a place before each call
abbrev pub pattern : ℕ → ℕ
pattern i = i % 251 + 1

abbrev pub PatternPromise : ℕ → ℕ → Type 0
PatternPromise i r = r ≡ pattern i

-- up to the last of k bytes that is not the pattern's
abbrev pub touched_in : ℕ → List ℕ → ℕ
touched_in zero s = 0
touched_in (suc k) s = cond (eqb (get_or s k 0) (pattern k)) (touched_in k s) (suc k)

abbrev pub touched : List ℕ → ℕ
touched s = touched_in (length s) s

abbrev pub TouchedPromise : List ℕ → ℕ → Type 0
TouchedPromise s r = r ≡ touched s

abbrev pub hex_byte : ℕ → List ℕ
hex_byte x = hex_digit (x / 16 % 16) ∷ hex_digit (x % 16) ∷ []

-- " | ", the bytes, "+" and how many follow
abbrev pub buffer : List ℕ → List (List ℕ)
buffer s = (32 ∷ 124 ∷ 32 ∷ []) ∷ map hex_byte (take (touched s) s) ++ (43 ∷ []) ∷ decimal (length s - touched s) ∷ []

-- ---- the line

-- a line feed behind the offsets
abbrev pub ending : Told → List (List ℕ)
ending t = offsets t ++ (10 ∷ []) ∷ []

-- "1 0 | +8 @0" of a builder that refused with 1 and left its buffer of 8 bytes untouched
abbrev pub line_of : Told → List ℕ → List (List ℕ)
line_of t s = decimal t.number ∷ values t ++ cond t.lends (buffer s) [] ++ ending t

abbrev pub LinePromise : Told → List ℕ → List ℕ → ℕ → List ℕ → Type 0
LinePromise t s out r after = PiecesPromise (line_of t s) out 0 r after

-- ---- the same as a text, with no sheet

-- a piece behind a text, unless it has no room
abbrev pub behind : ℕ → List ℕ → List ℕ → List ℕ
behind room text w = cond (leb (length text + length w) room) (text ++ w) text

-- the pieces one behind the other
abbrev pub text_of : ℕ → List (List ℕ) → List ℕ
text_of room = fold (behind room) []
