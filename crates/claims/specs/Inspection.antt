-- The inspection of a capture: stepping through it hands on its records, wherever its buffer is refilled, what the program's turns write is what 01 says, its calls are such turns, and 01's example, by computation.
use Rattle.std.specs.Prelude.{ℕ, ◌+◌, ◌≤◌, ◌<◌, ◌≡◌, refl, Bool, true, false, List, [], ◌∷◌, ◌++◌, length, take, drop, replicate, Ok, Some, Err}
use Rattle.std.proofs.Common.{arith}
use Rattle.wire.specs.LayoutLaws.{Bytes}
use Rattle.kip.specs.Capture.{starts_by01, whole, records_of, unfinished_of, NextPromise}
use Rattle.kip.specs.CaptureLaws as CaptureLaws
use Rattle.kip.specs.Stepping.{Move, Named, HandedOn, begun, ran}
use Rattle.kip.specs.Stepping as Stepping
use Rattle.digits.specs.Digits.{digits_of, decimal, hex_digit, read_from, tens, hex_value}
use Rattle.digits.specs.DigitLaws as DigitLaws
use Rattle.inspection.specs.Lines.{heading_of, line_of, ending_of, EndingPromise}
use Rattle.inspection.specs.Scanning.{scanned, scan_of, ScanPromise}
use Rattle.inspection.specs.Output.{printed_by01}
use Rattle.inspection.specs.Printing.{Printed}
use Rattle.inspection.specs.Printing as Printing
use Rattle.inspection.specs.Inspecting.{Inspecting, Step, ScanOn, WriteOut, ToFront, ReadOn, SoFar, AtEnd, unread, gathered, stepped, inspecting, output}
use Rattle.inspection.specs.Inspecting as Inspecting
use Rattle.inspection.specs.Turns.{read_in, first, WrittenOutPromise, ReadOnPromise, ToFrontPromise}
use Rattle.inspection.specs.Reaching.{Reached, Inspected, rest_in}
use Rattle.inspection.specs.Reaching as Reaching
use Rattle.inspection.specs.declared.scanning.Spot.{Spot}
use Rattle.inspection.specs.declared.scanning.Scanned.{Scanned}
use Rattle.inspection.specs.declared.scanning.Stop.TheVariants.{Short}
use Rattle.inspection.specs.declared.turns.Progress.{Progress}

-- whatever moves hand on records and read on: when all is read and no whole record is left, the records of the whole were handed on, in order, and what is left is the unfinished one
pub hands_on : (s : List ℕ) (ms : List Move) → (ran (begun s) ms).ahead ≡ [] → whole (ran (begun s) ms).unread ≡ false → HandedOn s (ran (begun s) ms)
hands_on = Stepping.hands_on

-- and the part that `next_record` names is the record that such a move hands on
pub names : (s : List ℕ) (at start end : ℕ) → NextPromise s at (Some (record { start = start; end = end })) → Named s at start end
names = Stepping.names

-- where no whole record is left, the buffer of 131,072 bytes has room, so that a read which brings nothing is the capture's end
pub has_room : (s : List ℕ) → Bytes s → whole s ≡ false → length s < 65537
has_room = Stepping.none-fits

-- what a scan of a buffer prints are the lines of the records that it hands on, one behind the other in the output; the others start where it stopped
pub scan_prints : (s out : List ℕ) (spot : Spot) (r : Scanned) (after : List ℕ) → spot.used ≤ length out → ScanPromise s out spot r after → Printed s spot.at spot.used spot.n out (scanned r after)
scan_prints = Printing.prints

-- and where it stopped for want of a record, no whole one is left
pub scan_ends : (s out : List ℕ) (spot : Spot) (r : Scanned) (after : List ℕ) → ScanPromise s out spot r after → r.stop ≡ Short → whole (drop r.spot.at s) ≡ false
scan_ends = Printing.ends

-- five bytes or more say of the start what the whole capture says
pub start_known : (s a : List ℕ) → 5 ≤ length s → starts_by01 (s ++ a) ≡ starts_by01 s
start_known = CaptureLaws.starts_more

-- once the start is read, whatever turns scan the buffer, write out what is gathered, move what is left to the front and read on: what was printed are the start's line and those of the first records of the capture, and the others are still to come
pub prints_so_far : (k : ℕ) (s : List ℕ) → starts_by01 (take k s) ≡ true → (out : List ℕ) (ms : List Step) → SoFar s (inspecting k s out ms)
prints_so_far = Inspecting.prints_so_far

-- and when all is read and no whole record is left unread, those of all its records, which are counted, and what is unread is the unfinished one
pub prints_all : (k : ℕ) (s out : List ℕ) (ms : List Step) → starts_by01 (take k s) ≡ true → (inspecting k s out ms).ahead ≡ [] → whole (unread (inspecting k s out ms)) ≡ false → AtEnd s (inspecting k s out ms)
prints_all = Inspecting.prints_all

-- so that with the ending all that is written is what 01 says
pub inspects : (k : ℕ) (s out : List ℕ) (ms : List Step) → starts_by01 (take k s) ≡ true → (inspecting k s out ms).ahead ≡ [] → whole (unread (inspecting k s out ms)) ≡ false
    → output (inspecting k s out ms) ≡ printed_by01 s
inspects = Inspecting.inspects

-- the last scan, which stopped for want of a record, leaves no whole one
pub scan_empties : (i : Inspecting) → (scan_of (length i.buffer) i.buffer i.spot.at i.spot.used i.spot.n i.out).stop ≡ Short → whole (unread (stepped i ScanOn)) ≡ false
scan_empties = Inspecting.scan_empties

-- a call of `scan` is such a turn, and what a call of `ending` wrote is that ending
pub scan_steps : (i : Inspecting) (r : Scanned) (after : List ℕ) → ScanPromise i.buffer i.out i.spot r after
    → stepped i ScanOn ≡ record { buffer = i.buffer; ahead = i.ahead; spot = r.spot; out = after; written = i.written }
scan_steps = Inspecting.scan_steps

pub ending_writes : (n : ℕ) (cut : Bool) (out : List ℕ) (k : ℕ) (after : List ℕ) → EndingPromise n cut out (Ok k) after → take k after ≡ ending_of n cut
ending_writes = Inspecting.ending_writes

-- ---- the program's buffers

-- where the start is read, the program stands at such a state; and each of its calls takes such a state to such a state, whatever bytes a read brought
pub begins : (input out : List ℕ) (p : Progress) → p.spot ≡ first → p.have ≤ length input → starts_by01 (read_in input p) ≡ true → Reached input out p
begins = Reaching.begin_reaches

pub scan_reaches : (input out : List ℕ) (p : Progress) → Reached input out p
    → (r : Scanned) (after : List ℕ) → ScanPromise (read_in input p) out p.spot r after → Reached input after (record { spot = r.spot; have = p.have })
scan_reaches = Reaching.scan_reaches

pub write_reaches : (input out : List ℕ) (p : Progress) → Reached input out p → (r : Progress) → WrittenOutPromise p r → Reached input out r
write_reaches = Reaching.write_reaches

pub front_reaches : (input out : List ℕ) (p : Progress) → Reached input out p → (r : Progress) (after : List ℕ) → ToFrontPromise input p r after → Reached after out r
front_reaches = Reaching.front_reaches

pub read_reaches : (input out : List ℕ) (p : Progress) → Reached input out p
    → (after : List ℕ) (k : ℕ) → take p.have after ≡ take p.have input → p.have + k ≤ length after → (r : Progress) → ReadOnPromise after p k r → Reached after out r
read_reaches = Reaching.read_reaches

-- the next record always stands within what is read
pub at_within : (input out : List ℕ) (p : Progress) → Reached input out p → p.spot.at ≤ p.have
at_within = Reaching.at_within

-- and where no whole record is left and nothing more comes, what was written, what is gathered and the ending are what 01 says of what was read
pub ends : (input out : List ℕ) (p : Progress) → Reached input out p → whole (rest_in input p) ≡ false → Inspected out p
ends = Reaching.ends

-- ---- digits

-- what is printed reads as the number
pub decimal-reads : (n : ℕ) → n < tens 20 → read_from 0 (decimal n) ≡ n
decimal-reads = DigitLaws.decimal-reads

pub hex_reads : (d : ℕ) → d < 16 → hex_value (hex_digit d) ≡ d
hex_reads = DigitLaws.hex_reads

-- ---- 01's example

-- "KIP 1", "1 0421 11", "2 refused 2", "records 2"
pub example :
    printed_by01 (0x4B ∷ 0x49 ∷ 0x50 ∷ 0x00 ∷ 0x01 ∷ 0x00 ∷ 0x0B ∷ 0x06 ∷ 0x10 ∷ 0x04 ∷ 0x21 ∷ 0x00 ∷ 0x0B ∷ 0x04 ∷ 0x15 ∷ 0x07 ∷ 0x00 ∷ 0x00 ∷ 0x00 ∷ 0x06 ∷ 0x06 ∷ 0x10 ∷ 0x04 ∷ 0x20 ∷ 0x00 ∷ 0x05 ∷ [])
    ≡ 75 ∷ 73 ∷ 80 ∷ 32 ∷ 49 ∷ 10 ∷ 49 ∷ 32 ∷ 48 ∷ 52 ∷ 50 ∷ 49 ∷ 32 ∷ 49 ∷ 49 ∷ 10 ∷ 50 ∷ 32 ∷ 114 ∷ 101 ∷ 102 ∷ 117 ∷ 115 ∷ 101 ∷ 100 ∷ 32 ∷ 50 ∷ 10 ∷ 114 ∷ 101 ∷ 99 ∷ 111 ∷ 114 ∷ 100 ∷ 115 ∷ 32 ∷ 50 ∷ 10 ∷ []
unfolding records_of unfinished_of digits_of
example = refl

-- "Another start prints `not KIP 1` only; an unfinished record (a lone length byte too) prints the line `cut`, then the `records` line with the whole ones counted"
abbrev not_kip : List ℕ
not_kip = 110 ∷ 111 ∷ 116 ∷ 32 ∷ 75 ∷ 73 ∷ 80 ∷ 32 ∷ 49 ∷ 10 ∷ []

pub record Others : Type 0 where
  pub nothing : printed_by01 [] ≡ not_kip
  pub four_bytes : printed_by01 (0x4B ∷ 0x49 ∷ 0x50 ∷ 0x00 ∷ []) ≡ not_kip
  pub version_2 : printed_by01 (0x4B ∷ 0x49 ∷ 0x50 ∷ 0x00 ∷ 0x02 ∷ []) ≡ not_kip
  -- "KIP 1", "cut", "records 0"
  pub lone_byte : printed_by01 (0x4B ∷ 0x49 ∷ 0x50 ∷ 0x00 ∷ 0x01 ∷ 0x00 ∷ []) ≡ 75 ∷ 73 ∷ 80 ∷ 32 ∷ 49 ∷ 10 ∷ 99 ∷ 117 ∷ 116 ∷ 10 ∷ 114 ∷ 101 ∷ 99 ∷ 111 ∷ 114 ∷ 100 ∷ 115 ∷ 32 ∷ 48 ∷ 10 ∷ []

pub others : Others
unfolding records_of unfinished_of digits_of
others = record { nothing = refl; four_bytes = refl; version_2 = refl; lone_byte = refl }

-- 01's two records and a lone byte
abbrev second : List ℕ
second = 0x06 ∷ 0x10 ∷ 0x04 ∷ 0x20 ∷ 0x00 ∷ 0x05 ∷ []

abbrev unfinished : List ℕ
unfinished =
    0x4B ∷ 0x49 ∷ 0x50 ∷ 0x00 ∷ 0x01 ∷ 0x00 ∷ 0x0B ∷ 0x06 ∷ 0x10 ∷ 0x04 ∷ 0x21 ∷ 0x00 ∷ 0x0B ∷ 0x04 ∷ 0x15 ∷ 0x07 ∷ 0x00 ∷ 0x00 ∷ 0x00 ∷ 0x06 ∷ second ++ 0x00 ∷ []

-- the program stands at such a state where these 27 bytes are read into a buffer of 30
abbrev unfinished_read : Progress
unfinished_read = record { spot = first; have = 27 }

pub stands : Reached (unfinished ++ 0x00 ∷ 0x00 ∷ 0x00 ∷ []) [] unfinished_read
stands = begins (unfinished ++ 0x00 ∷ 0x00 ∷ 0x00 ∷ []) [] unfinished_read refl (omega arith) refl

-- with an output of twelve bytes: the start is read, then to the middle of the first record, then to that of the second, whose line has no room behind the first one's until that is written out
abbrev to_no_room : List Step
to_no_room = ReadOn 5 ∷ ScanOn ∷ ReadOn 15 ∷ ScanOn ∷ ToFront ∷ ReadOn 9 ∷ ScanOn ∷ []

abbrev turns : List Step
turns = to_no_room ++ WriteOut ∷ ScanOn ∷ []

pub record InTurns : Type 0 where
  pub no_room : unread (inspecting 5 unfinished (replicate 12 0) to_no_room) ≡ 0x00 ∷ 0x06 ∷ second ++ 0x00 ∷ []
  pub first_written : (inspecting 5 unfinished (replicate 12 0) turns).written ≡ heading_of true ++ line_of 1 (Ok (record { service = 0x0421; total = 11 }))
  pub second-gathered : gathered (inspecting 5 unfinished (replicate 12 0) turns) ≡ line_of 2 (Err 2)
  pub all-output : output (inspecting 5 unfinished (replicate 12 0) turns) ≡ printed_by01 unfinished
  pub all_lines : printed_by01 unfinished ≡ heading_of true ++ line_of 1 (Ok (record { service = 0x0421; total = 11 })) ++ line_of 2 (Err 2) ++ ending_of 2 true

pub in_turns : InTurns
unfolding records_of unfinished_of digits_of scan_of
in_turns = record {
  no_room = refl;
  first_written = refl;
  second-gathered = refl;
  all-output = inspects 5 unfinished (replicate 12 0) turns refl refl refl;
  all_lines = refl;
}
