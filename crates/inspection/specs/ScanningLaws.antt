-- A scan, one turn at a time, as the code makes it; no second answer. Assumes nothing.
use Rattle.std.specs.Prelude.{ℕ, zero, suc, ◌+◌, ◌≤◌, ◌<◌, ◌≡◌, refl, Bool, true, false, cond, List, length, drop, Result, Ok, Err, Option, Some, None}
use Rattle.std.proofs.Common.{arith, sym, ap, ◌∙◌, le-leb, le-ltb, lt-ltb}
use Rattle.std.proofs.lemmas.Bool.{lt-leb}
use Rattle.wire.specs.Clash.{never}
use Rattle.wire.specs.Told.{refused}
use Rattle.wire.specs.ToldLaws.{same}
use Rattle.wire.specs.Parts.{part_of}
use Rattle.wire.specs.Layout.{word_at, copied}
use Rattle.wire.specs.Writing.{onto, WritePromise}
use Rattle.wire.specs.Writing as Writing
use Rattle.wire.specs.declared.refusals.Refusal.{Refusal}
use Rattle.kip.specs.Capture.{whole, NextPromise}
use Rattle.frame.specs.Judging.{judge_where, JudgePromise}
use Rattle.inspection.specs.Lines.{line_told, line_of, by_number}
use Rattle.inspection.specs.LinesLaws.{Put, was_put, was_full, line_says}
use Rattle.kip.specs.Stepping.{Named, names}
use Rattle.inspection.specs.Scanning.{Scan, most, line_at, stopped, scan_of, HandOnPromise, PutLinePromise, ScanPromise}
use Rattle.wire.specs.declared.parts.View.{View}
use Rattle.frame.specs.declared.judging.Judged.{Judged}
use Rattle.inspection.specs.declared.scanning.Spot.{Spot}
use Rattle.inspection.specs.declared.scanning.Scanned.{Scanned}
use Rattle.inspection.specs.declared.scanning.Stop.TheVariants.{Short, Full, Last}
use Rattle.wire.specs.declared.refusals.Fault.{Fault}

-- ---- one turn

pub no_turn : (s : List ℕ) (at used n : ℕ) (out : List ℕ) → scan_of 0 s at used n out ≡ stopped at used n out Short
unfolding scan_of
no_turn s at used n out = refl

pub short : (k : ℕ) (s : List ℕ) (at used n : ℕ) (out : List ℕ) → whole (drop at s) ≡ false → scan_of k s at used n out ≡ stopped at used n out Short
unfolding scan_of
short zero s at used n out e = refl
short (suc k) s at used n out e = rw e

pub last : (k : ℕ) (s : List ℕ) (at used n : ℕ) (out : List ℕ) → whole (drop at s) ≡ true → most ≤ n → scan_of (suc k) s at used n out ≡ stopped at used n out Last
unfolding scan_of
last k s at used n out e f = rw (e, le-ltb n most f)

pub no_room : (k : ℕ) (s : List ℕ) (at used n : ℕ) (out : List ℕ) → whole (drop at s) ≡ true → n < most → length out < used + length (line_at s at n)
    → scan_of (suc k) s at used n out ≡ stopped at used n out Full
unfolding scan_of
no_room k s at used n out e m f = rw (e, lt-ltb n most m, lt-leb (used + length (line_at s at n)) (length out) f)

pub hands : (k : ℕ) (s : List ℕ) (at used n : ℕ) (out : List ℕ) → whole (drop at s) ≡ true → n < most → used + length (line_at s at n) ≤ length out
    → scan_of (suc k) s at used n out ≡ scan_of k s (at + 2 + word_at s at) (used + length (line_at s at n)) (n + 1) (copied (line_at s at n) out used)
unfolding scan_of
hands k s at used n out e m f = rw (e, lt-ltb n most m, le-leb (used + length (line_at s at n)) (length out) f)

-- ---- one turn of the code

-- no record is there
pub hand_short : (s out : List ℕ) (p : Spot) → NextPromise s p.at None → HandOnPromise s out p (Err Short) out
hand_short s out p q k = short (suc k) s p.at p.used p.n out (go (whole (drop p.at s)) refl q)
  where
    go : (b : Bool) → whole (drop p.at s) ≡ b → ◌≡◌ {A = Option View} None (cond b (Some (record { start = p.at + 2; end = p.at + 2 + word_at s p.at })) None) → whole (drop p.at s) ≡ false
    go true e q = never cc
    go false e q = e

-- one is there which no number is left for
pub hand_last : (s out : List ℕ) (p : Spot) (v : View) → NextPromise s p.at (Some v) → most ≤ p.n → HandOnPromise s out p (Err Last) out
hand_last s out p v q m k = last k s p.at p.used p.n out (names s p.at v.start v.end q).is_there m

-- a turn that has a record: what was named and told of it, and what putting its line answered
pub record Turn : Type 0 where
  pub input : List ℕ
  pub spot : Spot
  pub out : List ℕ
  pub view : View
  pub told_of : Result Judged Fault
  pub answer : Result ℕ Refusal
  pub after : List ℕ
  pub counts : spot.n < most
  pub named : NextPromise input spot.at (Some view)
  pub told_so : JudgePromise (part_of input view.start view.end) told_of
  pub put : PutLinePromise (spot.n + 1) (by_number told_of) spot.used out answer after

module _ (t : Turn) where
  there : Named t.input t.spot.at t.view.start t.view.end
  there = names t.input t.spot.at t.view.start t.view.end t.named

  ends : t.view.end ≡ t.spot.at + 2 + word_at t.input t.spot.at
  ends = go (whole (drop t.spot.at t.input)) there.is_there t.named
    where
      named-view : View
      named-view = record { start = t.spot.at + 2; end = t.spot.at + 2 + word_at t.input t.spot.at }

      go : (b : Bool) → b ≡ true → Some t.view ≡ cond b (Some named-view) None → t.view.end ≡ t.spot.at + 2 + word_at t.input t.spot.at
      go true e q = let v : t.view ≡ named-view = cc in ap (λ (x : View). x.end) v
      go false e q = never cc

  -- the line that is put is the record's, in which no offset is told
  abbrev line : List ℕ
  line = line_of (t.spot.n + 1) (by_number t.told_of)

  the_line : line ≡ line_at t.input t.spot.at t.spot.n
  the_line = line_says (t.spot.n + 1) t.told_of ∙ ap (line_told (t.spot.n + 1)) (t.told_so ∙ ap judge_where there.datagram)

  pub turn_full : (e : Refusal) → t.answer ≡ Err e → HandOnPromise t.input t.out t.spot (Err Full) t.after
  turn_full e refused k =
      let none = was_full line t.out t.spot.used e (ap Writing.told (sym refused) ∙ t.put.0) in
      let same_out : t.after ≡ t.out = t.put.1 ∙ simp (lt-leb (t.spot.used + length line) (length t.out) none) in
      no_room k t.input t.spot.at t.spot.used t.spot.n t.out there.is_there t.counts (omega (arith, ap length the_line))
      ∙ ap (λ (l : List ℕ). stopped t.spot.at t.spot.used t.spot.n l Full) (sym same_out)

  module _ (size : ℕ) (written : t.answer ≡ Ok size) where
    as_put : Put line t.out t.spot.used size
    as_put = was_put line t.out t.spot.used size (ap Writing.told (sym written) ∙ t.put.0)

    pub turn_fits : t.spot.used + size ≤ length t.out
    turn_fits = omega (arith, as_put.fits, as_put.size)

    pub turn_hands : HandOnPromise t.input t.out t.spot (Ok (record { at = t.view.end; used = t.spot.used + size; n = t.spot.n + 1 })) t.after
    turn_hands k =
        let w : List ℕ = line_at t.input t.spot.at t.spot.n in
        let n : ℕ = t.spot.n + 1 in
        let used : ℕ = t.spot.used in
        let long : length w ≡ size = ap length (sym the_line) ∙ sym as_put.size in
        hands k t.input t.spot.at used t.spot.n t.out there.is_there t.counts (omega (arith, as_put.fits, as_put.size))
        ∙ ap (λ (e : ℕ). scan_of k t.input e (used + length w) n (copied w t.out used)) (sym ends)
        ∙ ap (λ (m : ℕ). scan_of k t.input t.view.end (used + m) n (copied w t.out used)) long
        ∙ ap (scan_of k t.input t.view.end (used + size) n) (ap (λ (l : List ℕ). copied l t.out used) (sym the_line) ∙ sym t.put.1)

-- ---- no second answer

pub scan_one : (s out : List ℕ) (spot : Spot) (r q : Scanned) (after later : List ℕ) → ScanPromise s out spot r after → ScanPromise s out spot q later → (r ≡ q) × (after ≡ later)
scan_one s out spot r q after later a b =
    let e = same a b in
    (ap (λ (x : Scan). record { spot = record { at = x.at; used = x.used; n = x.n }; stop = x.stop }) e, ap (λ (x : Scan). x.out) e)
