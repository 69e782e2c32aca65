-- The inspection of a capture, as the program goes about it: once its start is read it scans its buffer, writes out what is gathered, moves what is left to the front and reads on, in any order and at any moment. All that it writes is what 01 says of the capture. Assumes nothing.
use Rattle.std.specs.Prelude.{ℕ, ◌+◌, ◌-◌, ◌≤◌, ◌≡◌, refl, Bool, true, false, List, [], ◌∷◌, ◌++◌, length, take, drop, ltb, Ok}
use Rattle.std.proofs.Common.{arith, sym, ap, subst, ◌∙◌, append_assoc, append-nil, length-append, length-drop, take-append-drop, take_at}
use Rattle.std.proofs.lemmas.List.{drop-append-le}
use Rattle.wire.specs.ToldLaws.{same_test}
use Rattle.wire.specs.Writing.{room}
use Rattle.wire.specs.WritingLaws.{wrote}
use Rattle.kip.specs.Capture.{starts_by01, whole, records, unfinished}
use Rattle.kip.specs.CaptureLaws.{starts_five, starts_more}
use Rattle.inspection.specs.Lines.{heading_of, ending_of, EndingPromise}
use Rattle.inspection.specs.Output.{lines, printed_by01}
use Rattle.kip.specs.Stepping.{Reading, Fill, Kept, keeps, kept_ends}
use Rattle.inspection.specs.Scanning.{Scan, scan_of, ScanPromise}
use Rattle.inspection.specs.Printing.{lines-on, scan_prints, scan_ends, stands, room-behind}
use Rattle.inspection.specs.declared.scanning.Spot.{Spot}
use Rattle.inspection.specs.declared.scanning.Scanned.{Scanned}
use Rattle.inspection.specs.declared.scanning.Stop.TheVariants.{Short}

-- ---- the program's turns

-- the bytes in the buffer, those that are not read yet, where the scan is, the output, and what was written out
pub record Inspecting : Type 0 where
  pub buffer : List ℕ
  pub ahead : List ℕ
  pub spot : Spot
  pub out : List ℕ
  pub written : List ℕ

-- k bytes are read, the start among them, and its line is written, whatever stands in the output
abbrev pub begun : ℕ → List ℕ → List ℕ → Inspecting
begun k s out = record { buffer = take k s; ahead = drop k s; spot = record { at = 5; used = 0; n = 0 }; out = out; written = heading_of true }

abbrev pub unread : Inspecting → List ℕ
unread i = drop i.spot.at i.buffer

-- as a reader of the capture stands that handed on those records
abbrev pub reading : Inspecting → List (List ℕ) → Reading
reading i handed = record { unread = unread i; ahead = i.ahead; handed = handed }

abbrev pub gathered : Inspecting → List ℕ
gathered i = take i.spot.used i.out

-- scan the buffer; write out what is gathered; move what is not handed on to the front; read k bytes more
pub data Step : Type 0 where
  ScanOn : Step
  WriteOut : Step
  ToFront : Step
  ReadOn : ℕ → Step

abbrev pub scanned_on : Inspecting → Scan → Inspecting
scanned_on i r = record { buffer = i.buffer; ahead = i.ahead; spot = record { at = r.at; used = r.used; n = r.n }; out = r.out; written = i.written }

abbrev pub stepped : Inspecting → Step → Inspecting
stepped i ScanOn = scanned_on i (scan_of (length i.buffer) i.buffer i.spot.at i.spot.used i.spot.n i.out)
stepped i WriteOut = record { buffer = i.buffer; ahead = i.ahead; spot = record { at = i.spot.at; used = 0; n = i.spot.n }; out = i.out; written = i.written ++ gathered i }
stepped i ToFront = record { buffer = unread i; ahead = i.ahead; spot = record { at = 0; used = i.spot.used; n = i.spot.n }; out = i.out; written = i.written }
stepped i (ReadOn k) = record { buffer = i.buffer ++ take k i.ahead; ahead = drop k i.ahead; spot = i.spot; out = i.out; written = i.written }

abbrev pub ran : Inspecting → List Step → Inspecting
ran i [] = i
ran i (m ∷ ms) = ran (stepped i m) ms

-- a capture, an output of any length, and any turns
abbrev pub inspecting : ℕ → List ℕ → List ℕ → List Step → Inspecting
inspecting k s out ms = ran (begun k s out) ms

-- all that is written where the inspection ends there: what is gathered, and the ending
abbrev pub output : Inspecting → List ℕ
output i = i.written ++ gathered i ++ ending_of i.spot.n (ltb i.spot.at (length i.buffer))

-- ---- the calls of the code are those turns

pub scan_steps : (i : Inspecting) (r : Scanned) (after : List ℕ) → ScanPromise i.buffer i.out i.spot r after
    → stepped i ScanOn ≡ record { buffer = i.buffer; ahead = i.ahead; spot = r.spot; out = after; written = i.written }
scan_steps i r after p = ap (scanned_on i) (sym p)

pub ending_writes : (n : ℕ) (cut : Bool) (out : List ℕ) (k : ℕ) (after : List ℕ) → EndingPromise n cut out (Ok k) after → take k after ≡ ending_of n cut
ending_writes n cut out k after p =
    let w : List ℕ = ending_of n cut in
    let x = wrote (room (length w) (length out) ∷ []) w out k after p in
    ap (take k) x.bytes ∙ take_at w (drop (length w) out) k (sym x.count)

-- where such a scan stopped for want of a record, no whole one is left
pub scan_empties : (i : Inspecting) → (scan_of (length i.buffer) i.buffer i.spot.at i.spot.used i.spot.n i.out).stop ≡ Short → whole (unread (stepped i ScanOn)) ≡ false
scan_empties i = scan_ends (length i.buffer) i.buffer i.spot.at i.spot.used i.spot.n i.out (omega arith)

-- ---- at any moment

-- what was printed are the start's line and those of the records that were handed on, and the others are still to come
pub record SoFar (s : List ℕ) (i : Inspecting) : Type 0 where
  pub handed : List (List ℕ)
  pub printed : i.written ++ gathered i ≡ heading_of true ++ lines 0 handed
  pub count : i.spot.n ≡ length handed
  pub fits : i.spot.used ≤ length i.out
  pub within : i.spot.at ≤ length i.buffer
  pub rest : Kept (drop 5 s) (reading i handed)

scan_keeps : (s : List ℕ) (i : Inspecting) → SoFar s i → SoFar s (stepped i ScanOn)
scan_keeps s i k =
    let b : List ℕ = i.buffer in
    let at : ℕ = i.spot.at in
    let used : ℕ = i.spot.used in
    let n : ℕ = i.spot.n in
    let r : Scan = scan_of (length b) b at used n i.out in
    let p = scan_prints (length b) b at used n i.out k.fits in
    let w : List ℕ = lines n p.handed in
    let before : List ℕ = lines 0 k.handed in
    let on : before ++ w ≡ lines 0 (k.handed ++ p.handed) = ap (λ (m : ℕ). before ++ lines m p.handed) (let m : n ≡ 0 + length k.handed = omega (arith, k.count) in m) ∙ sym (lines-on 0 k.handed p.handed) in
    record {
      handed = k.handed ++ p.handed;
      printed =
          ap (λ (l : List ℕ). i.written ++ l) (stands b at used n i.out r k.fits p) ∙ sym (append_assoc i.written (gathered i) w)
          ∙ ap (λ (l : List ℕ). l ++ w) k.printed ∙ append_assoc (heading_of true) before w ∙ ap (λ (l : List ℕ). heading_of true ++ l) on;
      count = p.counts ∙ omega (arith, k.count, length-append k.handed p.handed);
      fits = room-behind b at used n i.out r k.fits p;
      within = p.within k.within;
      rest = record {
        to_come =
            k.rest.to_come ∙ ap (λ (rs : List (List ℕ)). k.handed ++ rs) (p.in_order i.ahead)
            ∙ sym (append_assoc k.handed p.handed (records (drop r.at b ++ i.ahead)));
        to_stay = k.rest.to_stay ∙ p.leaves i.ahead;
      };
    }

step_keeps : (s : List ℕ) (i : Inspecting) (m : Step) → SoFar s i → SoFar s (stepped i m)
step_keeps s i ScanOn k = scan_keeps s i k
step_keeps s i WriteOut k =
    record { handed = k.handed; printed = append-nil (i.written ++ gathered i) ∙ k.printed; count = k.count; fits = omega arith; within = k.within; rest = k.rest }
step_keeps s i ToFront k = record { handed = k.handed; printed = k.printed; count = k.count; fits = k.fits; within = omega arith; rest = k.rest }
step_keeps s i (ReadOn n) k =
    let more : List ℕ = take n i.ahead in
    record {
      handed = k.handed;
      printed = k.printed;
      count = k.count;
      fits = k.fits;
      within = omega (arith, k.within, length-append i.buffer more);
      rest =
          subst (λ (u : List ℕ). Kept (drop 5 s) (record { unread = u; ahead = drop n i.ahead; handed = k.handed })) (sym (drop-append-le i.spot.at i.buffer more k.within))
          (keeps (drop 5 s) (reading i k.handed) (Fill n) k.rest);
    }

all_keep : (s : List ℕ) (i : Inspecting) (ms : List Step) → SoFar s i → SoFar s (ran i ms)
all_keep s i [] k = k
all_keep s i (m ∷ ms) k = all_keep s (stepped i m) ms (step_keeps s i m k)

-- a start in the first k bytes, and what follows it
module _ (k : ℕ) (s : List ℕ) (kip : starts_by01 (take k s) ≡ true) where
  five : 5 ≤ length (take k s)
  five = starts_five (take k s) kip

  pub starts_whole : starts_by01 s ≡ true
  starts_whole = ap starts_by01 (sym (take-append-drop k s)) ∙ starts_more (take k s) (drop k s) five ∙ kip

  behind : drop 5 s ≡ drop 5 (take k s) ++ drop k s
  behind = ap (drop 5) (sym (take-append-drop k s)) ∙ drop-append-le 5 (take k s) (drop k s) five

  pub prints_so_far : (out : List ℕ) (ms : List Step) → SoFar s (inspecting k s out ms)
  prints_so_far out ms =
      all_keep s (begun k s out) ms (record {
        handed = [];
        printed = append-nil (heading_of true) ∙ sym (append-nil (heading_of true));
        count = refl;
        fits = omega arith;
        within = five;
        rest = record { to_come = ap records behind; to_stay = ap unfinished behind };
      })

-- ---- at the end

pub record AtEnd (s : List ℕ) (i : Inspecting) : Type 0 where
  pub all : i.written ++ gathered i ≡ heading_of true ++ lines 0 (records (drop 5 s))
  pub counted : i.spot.n ≡ length (records (drop 5 s))
  pub cut : unread i ≡ unfinished (drop 5 s)

-- when all is read and no whole record is left unread
module _ (k : ℕ) (s out : List ℕ) (ms : List Step) (kip : starts_by01 (take k s) ≡ true) (empty : (inspecting k s out ms).ahead ≡ []) (short : whole (unread (inspecting k s out ms)) ≡ false) where
  pub prints_all : AtEnd s (inspecting k s out ms)
  prints_all =
      let i : Inspecting = inspecting k s out ms in
      let f = prints_so_far k s kip out ms in
      let x = kept_ends (drop 5 s) (reading i f.handed) f.rest empty short in
      record {
        all = f.printed ∙ ap (λ (rs : List (List ℕ)). heading_of true ++ lines 0 rs) x.all;
        counted = f.count ∙ ap length x.all;
        cut = x.cut;
      }

  pub inspects : output (inspecting k s out ms) ≡ printed_by01 s
  inspects =
      let i : Inspecting = inspecting k s out ms in
      let x = prints_all in
      let at : ℕ = i.spot.at in
      let have : ℕ = length i.buffer in
      let rs : List (List ℕ) = records (drop 5 s) in
      let rest : List ℕ = unfinished (drop 5 s) in
      let long : have - at ≡ length rest = sym (length-drop at i.buffer) ∙ ap length x.cut in
      let cut : ltb at have ≡ ltb 0 (length rest) = same_test at have 0 (length rest) (λ h. omega arith) (λ h. omega arith) in
      ap (λ (l : List ℕ). l ++ ending_of i.spot.n (ltb at have)) x.all
      ∙ ap (λ (m : ℕ). heading_of true ++ lines 0 rs ++ ending_of m (ltb at have)) x.counted
      ∙ ap (λ (c : Bool). heading_of true ++ lines 0 rs ++ ending_of (length rs) c) cut
      ∙ append_assoc (heading_of true) (lines 0 rs) (ending_of (length rs) (ltb 0 (length rest)))
      ∙ sym (simp (starts_whole k s kip))
