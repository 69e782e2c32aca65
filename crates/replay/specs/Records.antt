-- A record: "call number (1 byte), n (3 bytes), m (3 bytes), n argument bytes", and the buffer that is lent to its call. Assumes nothing.
use Rattle.std.specs.Prelude.{ℕ, ◌+◌, ◌*◌, ◌<◌, ◌≤◌, ◌≡◌, Bool, true, false, Option, None, Some, Result, Ok, Err, List, ◌++◌, map, length, get_or, take, drop}
use Rattle.std.specs.List.{range_with_len}
use Rattle.std.specs.Counts.{IsPrefixLen}
use Rattle.std.specs.Io.KnownBytes.{Consumes}
use Rattle.wire.specs.Layout.{word_at}
use Rattle.replay.specs.Lines.{pattern}
use Rattle.replay.specs.declared.records.Record.{Record}

abbrev pub number24_of : List ℕ → ℕ
number24_of s = get_or s 0 0 * 65536 + word_at s 1

abbrev pub Number24Promise : List ℕ → ℕ → Type 0
Number24Promise s r = r ≡ number24_of s

-- k bytes of the pattern, from place i on
abbrev pub pattern_from : ℕ → ℕ → List ℕ
pattern_from k i = map pattern (range_with_len i k)

abbrev pub FillPromise : List ℕ → List ℕ → Type 0
FillPromise buf after = after ≡ pattern_from (length buf) 0

-- the record that seven bytes lay out
abbrev pub record_of : List ℕ → Record
record_of s = record { call = get_or s 0 0; n = number24_of (drop 1 s); m = number24_of (drop 4 s) }

-- fewer than n bytes are left, where they are known
abbrev pub Fewer : Option (List ℕ) → ℕ → Type 0
Fewer None n = Unit {0}
Fewer (Some s) n = length s < n

-- a buffer is full of the first bytes, or there were fewer; of a read that fails nothing is said
abbrev pub FilledPromise : {E : Type 0} → Option (List ℕ) → Option (List ℕ) → List ℕ → Result Bool E → Type 0
FilledPromise before left buf (Ok true) = Consumes before left buf
FilledPromise before left buf (Ok false) = Fewer before (length buf)
FilledPromise before left buf (Err e) = Unit {0}

-- where a reader's bytes are known, the record and its arguments were the first of them
abbrev pub ReadFrom : Option (List ℕ) → Option (List ℕ) → Record → List ℕ → Type 0
ReadFrom None left r args = Unit {0}
ReadFrom (Some s) left r args = (r ≡ record_of (take 7 s)) × Consumes (Some s) left (take 7 s ++ take r.n args) × (7 ≤ length s)

-- n and m are in their buffers, and the first m bytes of the lent one hold the pattern
pub record RecordPromise (before left : Option (List ℕ)) (r : Record) (args buf after : List ℕ) : Type 0 where
  pub read : ReadFrom before left r args
  pub arguments : IsPrefixLen r.n args
  pub lends : IsPrefixLen r.m after
  pub filled : after ≡ pattern_from r.m 0 ++ drop r.m buf

-- the bytes begin with a whole record, whose arguments and lent bytes have room
abbrev pub Begins : ℕ → ℕ → List ℕ → Type 0
Begins room most s = (7 ≤ length s) × ((record_of (take 7 s)).n ≤ room) × ((record_of (take 7 s)).m ≤ most) × (7 + (record_of (take 7 s)).n ≤ length s)

-- no such record is left, where the bytes are known
abbrev pub NoneLeft : ℕ → ℕ → Option (List ℕ) → Type 0
NoneLeft room most None = Unit {0}
NoneLeft room most (Some s) = Begins room most s → ⊥

-- a record, or none, and then the lent buffer is as it was
abbrev pub Gave : Option (List ℕ) → Option (List ℕ) → Option Record → List ℕ → List ℕ → List ℕ → Type 0
Gave before left None args buf after = NoneLeft (length args) (length buf) before × (after ≡ buf)
Gave before left (Some r) args buf after = RecordPromise before left r args buf after

-- where a read fails, the lent buffer is as it was too
abbrev pub TryNextPromise : {E : Type 0} → Option (List ℕ) → Option (List ℕ) → Result (Option Record) E → List ℕ → List ℕ → List ℕ → Type 0
TryNextPromise before left (Ok o) args buf after = Gave before left o args buf after
TryNextPromise before left (Err e) args buf after = after ≡ buf

-- where no record comes, and none says why, the lent buffer is as it was
abbrev pub NextPromise : Option (List ℕ) → Option (List ℕ) → Option Record → List ℕ → List ℕ → List ℕ → Type 0
NextPromise before left None args buf after = after ≡ buf
NextPromise before left (Some r) args buf after = RecordPromise before left r args buf after
