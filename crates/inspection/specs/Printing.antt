-- What a scan prints are the lines of the records that it hands on, numbered one after the other; what it leaves is where the rest of the records starts. Assumes nothing.
use Rattle.std.specs.Prelude.{ℕ, zero, suc, ◌+◌, ◌-◌, ◌≤◌, ◌≡◌, refl, Bool, true, false, cond, List, [], ◌∷◌, ◌++◌, length, take, drop, leb, ltb}
use Rattle.std.proofs.Common.{arith, add-zero, sym, ap, ◌∙◌, append_assoc, append-nil, length-drop, length-append, take-append-drop, drop-drop, length-take-le, take_at, leb-true}
use Rattle.wire.specs.Clash.{never}
use Rattle.wire.specs.Layout.{word_at, copied}
use Rattle.wire.specs.LayoutLaws.{copied_is, copied_on}
use Rattle.kip.specs.Capture.{whole, first_in, rest_in, records, unfinished}
use Rattle.kip.specs.CaptureLaws.{word_drop}
use Rattle.frame.specs.Judging.{judge_by01}
use Rattle.inspection.specs.Lines.{line_told}
use Rattle.inspection.specs.Output.{lines}
use Rattle.kip.specs.Stepping.{Off, is_whole, first_off}
use Rattle.inspection.specs.Scanning.{Scan, most, line_at, stopped, scan_of, scanned, ScanPromise}
use Rattle.inspection.specs.declared.scanning.Spot.{Spot}
use Rattle.inspection.specs.declared.scanning.Scanned.{Scanned}
use Rattle.inspection.specs.declared.scanning.Stop.{Stop}
use Rattle.inspection.specs.declared.scanning.Stop.TheVariants.{Short, Full, Last}

-- the lines of more records behind those, numbered on
pub lines-on : (n : ℕ) (rs more : List (List ℕ)) → lines n (rs ++ more) ≡ lines n rs ++ lines (n + length rs) more
lines-on n [] more = let q : n ≡ n + 0 = omega arith in ap (λ (m : ℕ). lines m more) q
lines-on n (r ∷ rs) more =
    let line : List ℕ = line_told (n + 1) (judge_by01 r) in
    let q : n + 1 + length rs ≡ n + suc (length rs) = omega arith in
    ap (λ (l : List ℕ). line ++ l) (lines-on (n + 1) rs more ∙ ap (λ (m : ℕ). lines (n + 1) rs ++ lines m more) q)
    ∙ sym (append_assoc line (lines (n + 1) rs) (lines (n + suc (length rs)) more))

pub record Printed (s : List ℕ) (at used n : ℕ) (out : List ℕ) (r : Scan) : Type 0 where
  pub handed : List (List ℕ)
  pub prints : r.out ≡ copied (lines n handed) out used
  pub uses : r.used ≡ used + length (lines n handed)
  pub fits : used + length (lines n handed) ≤ length out
  pub counts : r.n ≡ n + length handed
  pub within : at ≤ length s → r.at ≤ length s
  -- whatever bytes of the capture follow those of the buffer
  pub in_order : (a : List ℕ) → records (drop at s ++ a) ≡ handed ++ records (drop r.at s ++ a)
  pub leaves : (a : List ℕ) → unfinished (drop at s ++ a) ≡ unfinished (drop r.at s ++ a)

copied-length : (w out : List ℕ) (at : ℕ) → at + length w ≤ length out → length (copied w out at) ≡ length out
copied-length w out at h =
    ap length (copied_is w out at (at + length w) refl h) ∙ length-append (take at out ++ w) (drop (at + length w) out)
    ∙ omega (arith, length-append (take at out) w, length-take-le at out (omega arith), length-drop (at + length w) out)

nothing : (s : List ℕ) (at used n : ℕ) (out : List ℕ) (stop : Stop) → used ≤ length out → Printed s at used n out (stopped at used n out stop)
nothing s at used n out stop h = record {
  handed = [];
  prints = sym (copied_is [] out used used (add-zero used) h ∙ ap (λ (l : List ℕ). l ++ drop used out) (append-nil (take used out)) ∙ take-append-drop used out);
  uses = omega arith;
  fits = omega arith;
  counts = omega arith;
  within = λ h. h;
  in_order = λ a. refl;
  leaves = λ a. refl;
}

-- behind a whole record the rest starts
rest_at : (s : List ℕ) (at : ℕ) → rest_in (drop at s) ≡ drop (at + 2 + word_at s at) s
rest_at s at =
    let q : at + (2 + word_at (drop at s) 0) ≡ at + 2 + word_at s at = omega (arith, word_drop s at) in
    drop-drop (2 + word_at (drop at s) 0) at s ∙ ap (λ (k : ℕ). drop k s) q

one_more : (s : List ℕ) (at used n : ℕ) (out : List ℕ) (r : Scan) → whole (drop at s) ≡ true → used + length (line_at s at n) ≤ length out
    → Printed s (at + 2 + word_at s at) (used + length (line_at s at n)) (n + 1) (copied (line_at s at n) out used) r → Printed s at used n out r
one_more s at used n out r e h p =
    let w : List ℕ = line_at s at n in
    let first : List ℕ = first_in (drop at s) in
    let more : List ℕ = lines (n + 1) p.handed in
    let off : (a : List ℕ) → Off (drop at s) a = λ a. first_off (drop at s) a e in
    let there = is_whole (drop at s) e in
    let same = copied-length w out used h in
    let size = length-append w more in
    record {
      handed = first ∷ p.handed;
      prints = p.prints ∙ copied_on w more out used (used + length w) refl (omega (arith, p.fits, same));
      uses = p.uses ∙ omega (arith, size);
      fits = omega (arith, p.fits, same, size);
      counts = p.counts ∙ omega arith;
      within = λ h. p.within (omega (arith, there.fits, word_drop s at, length-drop at s));
      in_order = λ a. (off a).records_off ∙ ap (λ (l : List ℕ). first ∷ records (l ++ a)) (rest_at s at) ∙ ap (λ (rs : List (List ℕ)). first ∷ rs) (p.in_order a);
      leaves = λ a. (off a).unfinished_off ∙ ap (λ (l : List ℕ). unfinished (l ++ a)) (rest_at s at) ∙ p.leaves a;
    }

-- how a turn of a scan goes on, by its three tests
abbrev turned : (there counts fits : Bool) → ℕ → ℕ → ℕ → List ℕ → Scan → Scan
turned there counts fits at used n out on =
    cond there (cond counts (cond fits on (stopped at used n out Full)) (stopped at used n out Last)) (stopped at used n out Short)

pub scan_prints : (k : ℕ) (s : List ℕ) (at used n : ℕ) (out : List ℕ) → used ≤ length out → Printed s at used n out (scan_of k s at used n out)
unfolding scan_of
scan_prints zero s at used n out h = nothing s at used n out Short h
scan_prints (suc k) s at used n out h =
    go (whole (drop at s)) (ltb n most) (leb (used + length (line_at s at n)) (length out)) refl refl
    (scan_prints k s (at + 2 + word_at s at) (used + length (line_at s at n)) (n + 1) (copied (line_at s at n) out used))
  where
    on : Scan
    on = scan_of k s (at + 2 + word_at s at) (used + length (line_at s at n)) (n + 1) (copied (line_at s at n) out used)

    go : (b m c : Bool) → whole (drop at s) ≡ b → leb (used + length (line_at s at n)) (length out) ≡ c
        → (used + length (line_at s at n) ≤ length (copied (line_at s at n) out used) → Printed s (at + 2 + word_at s at) (used + length (line_at s at n)) (n + 1) (copied (line_at s at n) out used) on)
        → Printed s at used n out (turned b m c at used n out on)
    go false m c e f ih = nothing s at used n out Short h
    go true false c e f ih = nothing s at used n out Last h
    go true true false e f ih = nothing s at used n out Full h
    go true true true e f ih =
        let fits = leb-true (used + length (line_at s at n)) (length out) f in
        one_more s at used n out on e fits (ih (omega (arith, copied-length (line_at s at n) out used fits)))

-- the output that is used is what stood there, and then the lines
module _ (s : List ℕ) (at used n : ℕ) (out : List ℕ) (r : Scan) (h : used ≤ length out) (p : Printed s at used n out r) where
  pub stands : take r.used r.out ≡ take used out ++ lines n p.handed
  stands =
      let w : List ℕ = lines n p.handed in
      ap (λ (k : ℕ). take k r.out) p.uses ∙ ap (take (used + length w)) (p.prints ∙ copied_is w out used (used + length w) refl p.fits)
      ∙ take_at (take used out ++ w) (drop (used + length w) out) (used + length w) (length-append (take used out) w ∙ ap (λ (k : ℕ). k + length w) (length-take-le used out h))

  pub room-behind : r.used ≤ length r.out
  room-behind = omega (arith, p.uses, p.fits, ap length p.prints, copied-length (lines n p.handed) out used p.fits)

-- a scan that stopped for want of a record leaves no whole one, where it had as many turns as there are bytes
pub scan_ends : (k : ℕ) (s : List ℕ) (at used n : ℕ) (out : List ℕ) → length s - at ≤ k → (scan_of k s at used n out).stop ≡ Short → whole (drop (scan_of k s at used n out).at s) ≡ false
unfolding scan_of
scan_ends zero s at used n out h q = go (whole (drop at s)) refl
  where
    go : (b : Bool) → whole (drop at s) ≡ b → whole (drop at s) ≡ false
    go true e = let two = (is_whole (drop at s) e).two in absurd (omega (arith, length-drop at s))
    go false e = e
scan_ends (suc k) s at used n out h q =
    go (whole (drop at s)) (ltb n most) (leb (used + length (line_at s at n)) (length out)) refl q
    (scan_ends k s (at + 2 + word_at s at) (used + length (line_at s at n)) (n + 1) (copied (line_at s at n) out used))
  where
    on : Scan
    on = scan_of k s (at + 2 + word_at s at) (used + length (line_at s at n)) (n + 1) (copied (line_at s at n) out used)

    go : (b m c : Bool) → whole (drop at s) ≡ b → (turned b m c at used n out on).stop ≡ Short
        → (length s - (at + 2 + word_at s at) ≤ k → on.stop ≡ Short → whole (drop on.at s) ≡ false)
        → whole (drop (turned b m c at used n out on).at s) ≡ false
    go false m c e p ih = e
    go true false c e p ih = never cc
    go true true false e p ih = never cc
    go true true true e p ih = let two = (is_whole (drop at s) e).two in ih (omega (arith, length-drop at s)) p

-- ---- of the code's scan

pub prints : (s out : List ℕ) (spot : Spot) (r : Scanned) (after : List ℕ) → spot.used ≤ length out → ScanPromise s out spot r after → Printed s spot.at spot.used spot.n out (scanned r after)
prints s out spot r after h p = rw p (scan_prints (length s) s spot.at spot.used spot.n out h)

pub ends : (s out : List ℕ) (spot : Spot) (r : Scanned) (after : List ℕ) → ScanPromise s out spot r after → r.stop ≡ Short → whole (drop r.spot.at s) ≡ false
ends s out spot r after p q =
    ap (λ (x : Scan). whole (drop x.at s)) p ∙ scan_ends (length s) s spot.at spot.used spot.n out (omega arith) (sym (ap (λ (x : Scan). x.stop) p) ∙ q)
