-- Where the program stands: at a state of the inspection that turns on some capture reach. Each call of the code takes such a state to such a state; and where the capture ends there, what is written and the ending are what 01 says of it. Assumes nothing.
use Rattle.std.specs.Prelude.{ℕ, ◌+◌, ◌-◌, ◌≤◌, ◌≡◌, refl, true, false, List, [], ◌∷◌, ◌++◌, length, take, drop, ltb}
use Rattle.std.proofs.Common.{arith, sym, ap, subst, ◌∙◌, append_assoc, append-nil, length-append, length-drop, take-add, take_all, take_at, drop_at, length-take-le, le-leb}
use Rattle.std.proofs.lemmas.List.{take-append-le}
use Rattle.wire.specs.Parts.{part_of}
use Rattle.wire.specs.PartLaws.{part_is}
use Rattle.kip.specs.Capture.{starts_by01, whole}
use Rattle.inspection.specs.Lines.{heading_of, ending_of}
use Rattle.inspection.specs.Scanning.{ScanPromise}
use Rattle.inspection.specs.Output.{printed_by01}
use Rattle.inspection.specs.Inspecting.{Inspecting, Step, ScanOn, WriteOut, ToFront, ReadOn, unread, stepped, ran, inspecting, output, scan_steps, prints_so_far, inspects}
use Rattle.inspection.specs.Turns.{read_in, unread_in, first, WrittenOutPromise, ReadOnPromise, ToFrontPromise}
use Rattle.inspection.specs.TurnLaws.{part_drop}
use Rattle.inspection.specs.declared.scanning.Spot.{Spot}
use Rattle.inspection.specs.declared.scanning.Scanned.{Scanned}
use Rattle.inspection.specs.declared.turns.Progress.{Progress}

-- the state that the program's values show, with what they do not: what is ahead, and what was written
abbrev pub here : List ℕ → List ℕ → Progress → List ℕ → List ℕ → Inspecting
here input out p ahead written = record { buffer = read_in input p; ahead = ahead; spot = p.spot; out = out; written = written }

-- what is read and not handed on
abbrev pub rest_in : List ℕ → Progress → List ℕ
rest_in input p = drop p.spot.at (read_in input p)

-- what was read, how much of it when its start was known, what stood in the output then, and the turns since
pub record Reached (input out : List ℕ) (p : Progress) : Type 0 where
  pub read : List ℕ
  pub known : ℕ
  pub before : List ℕ
  pub turns : List Step
  pub written : List ℕ
  pub starts : starts_by01 (take known read) ≡ true
  pub within : known ≤ length read
  -- whatever bytes are still ahead
  pub state : (ahead : List ℕ) → inspecting known (read ++ ahead) before turns ≡ here input out p ahead written
  pub holds : p.have ≤ length input

-- ---- what is read

read_is : (input : List ℕ) (p : Progress) → p.have ≤ length input → read_in input p ≡ take p.have input
read_is input p h =
    let z : p.have - 0 ≡ p.have = omega arith in
    part_is input 0 p.have (omega arith) h ∙ ap (λ (n : ℕ). take n input) z

read_long : (input : List ℕ) (p : Progress) → p.have ≤ length input → length (read_in input p) ≡ p.have
read_long input p h = ap length (read_is input p h) ∙ length-take-le p.have input h

-- ---- the turns

one_more : (i : Inspecting) (ms : List Step) (m : Step) → ran i (ms ++ m ∷ []) ≡ stepped (ran i ms) m
one_more i [] m = refl
one_more i (n ∷ ms) m = one_more (stepped i n) ms m

module _ (input out : List ℕ) (p : Progress) (x : Reached input out p) where
  starts_on : (ahead : List ℕ) → starts_by01 (take x.known (x.read ++ ahead)) ≡ true
  starts_on ahead = ap starts_by01 (take-append-le x.known x.read ahead x.within) ∙ x.starts

  -- the next record stands within what is read
  pub at_within : p.spot.at ≤ p.have
  at_within =
      let f = prints_so_far x.known (x.read ++ []) (starts_on []) x.before x.turns in
      let g : p.spot.at ≤ length (read_in input p) = subst (λ (i : Inspecting). i.spot.at ≤ length i.buffer) (x.state []) f.within in
      omega (arith, read_long input p x.holds)

  -- a step of the inspection that shows such values
  step : (after later : List ℕ) (q : Progress) (m : Step) (w : List ℕ) → q.have ≤ length after
      → ((ahead : List ℕ) → stepped (here input out p ahead x.written) m ≡ here after later q ahead w) → Reached after later q
  step after later q m w h e = record {
    read = x.read;
    known = x.known;
    before = x.before;
    turns = x.turns ++ m ∷ [];
    written = w;
    starts = x.starts;
    within = x.within;
    state = λ ahead. one_more _ x.turns m ∙ ap (λ (i : Inspecting). stepped i m) (x.state ahead) ∙ e ahead;
    holds = h;
  }

  pub scan_reaches : (r : Scanned) (after : List ℕ) → ScanPromise (read_in input p) out p.spot r after → Reached input after (record { spot = r.spot; have = p.have })
  scan_reaches r after q = step input after (record { spot = r.spot; have = p.have }) ScanOn x.written x.holds (λ ahead. scan_steps (here input out p ahead x.written) r after q)

  pub write_reaches : (r : Progress) → WrittenOutPromise p r → Reached input out r
  write_reaches r q = rw q (step input out _ WriteOut (x.written ++ take p.spot.used out) x.holds (λ ahead. refl))

  -- what was not handed on is then all that is read
  front_keeps : (r : Progress) (after : List ℕ) → ToFrontPromise input p r after → read_in after r ≡ rest_in input p
  front_keeps r after q =
      let u : List ℕ = unread_in input p in
      let rest : List ℕ = drop (length u) input in
      let fits : length u ≤ length (u ++ rest) = omega (arith, length-append u rest) in
      let z : length u - 0 ≡ length u = omega arith in
      ap (λ (n : ℕ). part_of after 0 n) (ap (λ (a : Progress). a.have) q.0) ∙ ap (λ (l : List ℕ). part_of l 0 (length u)) q.1
      ∙ part_is (u ++ rest) 0 (length u) (omega arith) fits ∙ take_at u rest (length u - 0) (sym z) ∙ part_drop input p.spot.at p.have at_within x.holds

  pub front_rest : (r : Progress) (after : List ℕ) → ToFrontPromise input p r after → rest_in after r ≡ rest_in input p
  front_rest r after q = ap (λ (a : Progress). drop a.spot.at (read_in after r)) q.0 ∙ front_keeps r after q

  pub front_holds : (r : Progress) (after : List ℕ) → ToFrontPromise input p r after → r.have ≤ length after
  front_holds r after q =
      let u : List ℕ = unread_in input p in
      omega (arith, ap (λ (a : Progress). a.have) q.0, ap length q.1, length-append u (drop (length u) input))

  pub front_reaches : (r : Progress) (after : List ℕ) → ToFrontPromise input p r after → Reached after out r
  front_reaches r after q =
      let spot : r.spot ≡ record { at = 0; used = p.spot.used; n = p.spot.n } = ap (λ (a : Progress). a.spot) q.0 in
      step after out r ToFront x.written (front_holds r after q) (λ ahead.
      ap (λ (l : List ℕ). record { buffer = l; ahead = ahead; spot = record { at = 0; used = p.spot.used; n = p.spot.n }; out = out; written = x.written }) (sym (front_keeps r after q))
      ∙ ap (λ (a : Spot). record { buffer = read_in after r; ahead = ahead; spot = a; out = out; written = x.written }) (sym spot))

  -- k bytes behind those that were read, which are as they were
  module _ (after : List ℕ) (k : ℕ) (same_before : take p.have after ≡ take p.have input) (room : p.have + k ≤ length after) where
    abbrev onward : Progress
    onward = record { spot = p.spot; have = p.have + k }

    abbrev got : List ℕ
    got = take k (drop p.have after)

    got_long : length got ≡ k
    got_long = length-take-le k (drop p.have after) (omega (arith, length-drop p.have after))

    read_adds : read_in after onward ≡ read_in input p ++ got
    read_adds =
        read_is after onward room ∙ take-add p.have k after ∙ ap (λ (l : List ℕ). l ++ got) (same_before ∙ sym (read_is input p x.holds))

    read_onward : Reached after out onward
    read_onward = record {
      read = x.read ++ got;
      known = x.known;
      before = x.before;
      turns = x.turns ++ ReadOn k ∷ [];
      written = x.written;
      starts = starts_on got;
      within = omega (arith, x.within, length-append x.read got);
      state = λ ahead.
          ap (λ (l : List ℕ). inspecting x.known l x.before (x.turns ++ ReadOn k ∷ [])) (append_assoc x.read got ahead)
          ∙ one_more _ x.turns (ReadOn k) ∙ ap (λ (i : Inspecting). stepped i (ReadOn k)) (x.state (got ++ ahead))
          ∙ ap (λ (l : List ℕ). record { buffer = read_in input p ++ l; ahead = drop k (got ++ ahead); spot = p.spot; out = out; written = x.written }) (take_at got ahead k got_long)
          ∙ ap (λ (l : List ℕ). record { buffer = read_in input p ++ got; ahead = l; spot = p.spot; out = out; written = x.written }) (drop_at got ahead k got_long)
          ∙ ap (λ (l : List ℕ). record { buffer = l; ahead = ahead; spot = p.spot; out = out; written = x.written }) (sym read_adds);
      holds = room;
    }

    as_onward : (r : Progress) → ReadOnPromise after p k r → r ≡ onward
    as_onward r q = q ∙ simp (le-leb (p.have + k) (length after) room)

    pub read_reaches : (r : Progress) → ReadOnPromise after p k r → Reached after out r
    read_reaches r q = subst (λ (z : Progress). Reached after out z) (sym (as_onward r q)) read_onward

    -- where nothing came, what is not handed on is as it was
    pub none_read : (r : Progress) → k ≡ 0 → ReadOnPromise after p k r → rest_in after r ≡ rest_in input p
    none_read r z q =
        ap (λ (a : Progress). rest_in after a) (as_onward r q)
        ∙ ap (drop p.spot.at) (read_adds ∙ ap (λ (n : ℕ). read_in input p ++ take n (drop p.have after)) z ∙ append-nil (read_in input p))

-- ---- the start, and the end

-- once the start is read
pub begin_reaches : (input out : List ℕ) (r : Progress) → r.spot ≡ first → r.have ≤ length input → starts_by01 (read_in input r) ≡ true → Reached input out r
begin_reaches input out r e h q =
    let s : List ℕ = read_in input r in
    let long : length s ≡ r.have = read_long input r h in
    record {
      read = s;
      known = r.have;
      before = out;
      turns = [];
      written = heading_of true;
      starts = ap starts_by01 (take_all r.have s (omega arith)) ∙ q;
      within = omega arith;
      state = λ ahead.
          ap (λ (l : List ℕ). record { buffer = l; ahead = drop r.have (s ++ ahead); spot = first; out = out; written = heading_of true }) (take_at s ahead r.have long)
          ∙ ap (λ (l : List ℕ). record { buffer = s; ahead = l; spot = first; out = out; written = heading_of true }) (drop_at s ahead r.have long)
          ∙ ap (λ (a : Spot). record { buffer = s; ahead = ahead; spot = a; out = out; written = heading_of true }) (sym e);
      holds = h;
    }

-- what was written, what is gathered and the ending are what 01 says of what was read
pub record Inspected (out : List ℕ) (p : Progress) : Type 0 where
  pub capture : List ℕ
  pub written : List ℕ
  pub prints : written ++ take p.spot.used out ++ ending_of p.spot.n (ltb p.spot.at p.have) ≡ printed_by01 capture

pub ends : (input out : List ℕ) (p : Progress) → Reached input out p → whole (rest_in input p) ≡ false → Inspected out p
ends input out p x short =
    let s : List ℕ = x.read ++ [] in
    let all = x.state [] in
    let gathered : List ℕ = take p.spot.used out in
    let last = inspects x.known s x.before x.turns (starts_on input out p x []) (ap (λ (i : Inspecting). i.ahead) all) (ap (λ (i : Inspecting). whole (unread i)) all ∙ short) in
    record {
      capture = s;
      written = x.written;
      prints =
          ap (λ (n : ℕ). x.written ++ gathered ++ ending_of p.spot.n (ltb p.spot.at n)) (sym (read_long input p x.holds))
          ∙ sym (ap output all) ∙ last;
    }
