-- A run: from turn to turn a record is read, its call answered and its line written, until no record is left. Assumes nothing.
use Rattle.std.specs.Prelude.{ℕ, zero, suc, ◌-◌, ◌^◌, ◌<◌, ◌≤◌, ◌≡◌, Option, None, Some, Result, Ok, Err, List, [], ◌++◌, length}
use Rattle.std.specs.Io.KnownBytes.{Appends}
use Rattle.replay.specs.Lines.{line_of, text_of}
use Rattle.replay.specs.Records.{pattern_from, ReadFrom, NoneLeft}
use Rattle.replay.specs.declared.records.Record.{Record}
use Rattle.replay.specs.declared.telling.Told.{Told}
use Rattle.replay.specs.declared.running.Stopped.{Stopped}
use Rattle.replay.specs.declared.running.Stopped.TheVariants.{Unread, Unwritten, TooLong}

-- ---- a turn

-- how calls are answered: from what is carried, a call, its arguments and what it is lent, to what it told, what it left there, and what is carried on
abbrev pub Answering : Type 0 → Type 1
Answering C = C → ℕ → List ℕ → List ℕ → Told → List ℕ → C → Type 0

-- the room for a record's arguments, and for what it lends
abbrev pub room : ℕ
room = 66000

-- the room for a line
abbrev pub line_room : ℕ
line_room = 133000

-- a record is read with its arguments, its call is lent the pattern and answered, and a line tells what it told
pub record Turn {C : Type 0} (answers : Answering C) (before left : Option (List ℕ)) (calls later : C) (line : List ℕ) : Type 0 where
  pub asked : Record
  pub arguments : List ℕ
  pub told : Told
  pub shown : List ℕ
  pub count : length arguments ≡ asked.n
  pub read : ReadFrom before left asked arguments
  pub has_room : asked.n ≤ room
  pub lends : asked.m ≤ room
  pub answered : answers calls asked.call arguments (pattern_from asked.m 0) told shown later
  pub lined : line ≡ text_of line_room (line_of told shown)

-- ---- turn after turn

-- from what a reader has left and what is carried to the same after a number of turns, and the lines of these
pub data Turns {C : Type 0} (answers : Answering C) : Option (List ℕ) → Option (List ℕ) → C → C → List ℕ → ℕ → Type 0 where
  none : {left : Option (List ℕ)} {calls : C} → Turns answers left left calls calls [] zero
  turn : {before middle left : Option (List ℕ)} {calls next last : C} {line rest : List ℕ} {n : ℕ} → Turn answers before middle calls next line → Turns answers middle left next last rest n
      → Turns answers before left calls last (line ++ rest) (suc n)

-- what a run ended with: no record was left; a read failed; the last turn's line was not written, or not whole; or all turns are made. But for that line, every line is written
abbrev pub Ended : Result (Unit {0}) Stopped → ℕ → Option (List ℕ) → Option (List ℕ) → Option (List ℕ) → List ℕ → Type 0
Ended (Ok r) n left held holds text = NoneLeft room room left × Appends held holds text
Ended (Err Unread) n left held holds text = Appends held holds text
Ended (Err Unwritten) n left held holds text = 1 ≤ n
Ended (Err TooLong) n left held holds text = (n ≡ 2 ^ 64 - 1) × Appends held holds text

-- what a reader has left, what a writer holds before and after, the writer, and what is carried
pub record TryReplayPromise {W C : Type 0} (answers : Answering C) (input held holds : Option (List ℕ)) (output written : W) (calls last : C) (r : Result (Unit {0}) Stopped) : Type 0 where
  pub count : ℕ
  pub left : Option (List ℕ)
  pub text : List ℕ
  pub turns : Turns answers input left calls last text count
  pub ended : Ended r count left held holds text
  pub untouched : count ≡ 0 → written ≡ output

-- ---- an input that holds no record

-- five bytes hold no record
abbrev pub NoRecord : Option (List ℕ) → Type 0
NoRecord None = ⊥
NoRecord (Some s) = length s < 7

-- no call is made then, and nothing is written
abbrev pub ReplayPromise : {W C : Type 0} → Option (List ℕ) → W → W → C → C → Type 0
ReplayPromise input output written calls left = NoRecord input → (written ≡ output) × (left ≡ calls)

-- ---- a run that tells nobody why it ended

pub record RunsPromise {W C : Type 0} (answers : Answering C) (input held holds : Option (List ℕ)) (output written : W) (calls last : C) : Type 0 where
  pub why : Result (Unit {0}) Stopped
  pub run : TryReplayPromise answers input held holds output written calls last why

-- ---- the run of a process

-- what is carried comes of some turns; what a process reads and writes no contract can say
pub record RunPromise {C : Type 0} (answers : Answering C) (calls last : C) (r : Unit {0}) : Type 0 where
  pub nothing : r ≡ tt
  pub input : Option (List ℕ)
  pub left : Option (List ℕ)
  pub text : List ℕ
  pub count : ℕ
  pub turns : Turns answers input left calls last text count
