-- Stepping through a capture: a buffer holds what is read and not yet handed on, records are handed on from it, and it is refilled at any moment by any number of bytes. What is handed on are the records of the whole, in order, and what is left at the end is what they leave. Assumes nothing.
use Rattle.std.specs.Prelude.{ℕ, zero, suc, ◌+◌, ◌-◌, ◌<◌, ◌≤◌, ◌≡◌, refl, Bool, true, false, cond, List, [], ◌∷◌, ◌++◌, length, get_or, take, drop, ltb, leb, Option, Some, None}
use Rattle.std.proofs.Common.{arith, sym, ap, ◌∙◌, append_assoc, append-nil, length-drop, length-append, take-append-drop, drop-drop, le-ltb, le-leb, ltb-false, leb-true, leb-false}
use Rattle.std.proofs.Math.ListN.{get_or-append}
use Rattle.std.proofs.lemmas.List.{take-append-le, drop-append-le}
use Rattle.wire.specs.Clash.{never}
use Rattle.wire.specs.Layout.{word_of, word_at}
use Rattle.wire.specs.LayoutLaws.{Bytes}
use Rattle.wire.specs.Parts.{part_of}
use Rattle.wire.specs.declared.parts.View.{View}
use Rattle.wire.specs.PartLaws.{part_is}
use Rattle.kip.specs.Capture.{whole, first_in, rest_in, records_of, unfinished_of, records, unfinished, NextPromise}
use Rattle.kip.specs.CaptureLaws.{word_drop}

-- ---- a whole record

pub record Whole (s : List ℕ) : Type 0 where
  pub two : 2 ≤ length s
  pub fits : 2 + word_at s 0 ≤ length s

pub is_whole : (s : List ℕ) → whole s ≡ true → Whole s
is_whole s q = go (ltb (length s) 2) refl q
  where
    go : (b : Bool) → ltb (length s) 2 ≡ b → cond b false (leb (2 + word_at s 0) (length s)) ≡ true → Whole s
    go true e p = never cc
    go false e p = record { two = ltb-false (length s) 2 e; fits = leb-true (2 + word_at s 0) (length s) p }

whole_is : (s : List ℕ) → Whole s → whole s ≡ true
whole_is s w = simp (le-ltb (length s) 2 w.two, le-leb (2 + word_at s 0) (length s) w.fits)

-- where no whole record stands, fewer bytes stand than the longest has
pub none-fits : (s : List ℕ) → Bytes s → whole s ≡ false → length s < 65537
none-fits s b q = go (leb 65537 (length s)) refl
  where
    go : (c : Bool) → leb 65537 (length s) ≡ c → length s < 65537
    go true e =
        let long : 65537 ≤ length s = leb-true 65537 (length s) e in
        let fits : 2 + word_at s 0 ≤ length s = omega (arith, b 0, b (0 + 1)) in
        let t : true ≡ false = sym (whole_is s (record { two = omega arith; fits = fits })) ∙ q in
        never cc
    go false e = leb-false 65537 (length s) e

-- bytes behind a whole record make no difference to it
module _ (u a : List ℕ) (w : Whole u) where
  same_word : word_at (u ++ a) 0 ≡ word_at u 0
  same_word =
      ap (λ (x : ℕ). word_of x (get_or (u ++ a) 1 0)) (get_or-append u a 0 0 (omega (arith, w.two)))
      ∙ ap (word_of (get_or u 0 0)) (get_or-append u a 0 1 (omega (arith, w.two)))

  pub more_whole : whole (u ++ a) ≡ true
  more_whole =
      whole_is (u ++ a) (record {
        two = omega (arith, length-append u a, w.two);
        fits = omega (arith, length-append u a, same_word, w.fits);
      })

  pub more_first : first_in (u ++ a) ≡ first_in u
  more_first =
      ap (λ (k : ℕ). take k (drop 2 (u ++ a))) same_word ∙ ap (take (word_at u 0)) (drop-append-le 2 u a w.two)
      ∙ take-append-le (word_at u 0) (drop 2 u) a (omega (arith, length-drop 2 u, w.fits))

  pub more_rest : rest_in (u ++ a) ≡ rest_in u ++ a
  more_rest = ap (λ (k : ℕ). drop (2 + k) (u ++ a)) same_word ∙ drop-append-le (2 + word_at u 0) u a w.fits

-- ---- what the code names is that record

pub record Named (s : List ℕ) (at start end : ℕ) : Type 0 where
  pub is_there : whole (drop at s) ≡ true
  pub datagram : part_of s start end ≡ first_in (drop at s)
  pub rest : drop end s ≡ rest_in (drop at s)

-- the part that `next_record` names is the first record of what is not handed on, and its end is where the rest starts
pub names : (s : List ℕ) (at start end : ℕ) → NextPromise s at (Some (record { start = start; end = end })) → Named s at start end
names s at start end p = go (whole (drop at s)) refl p
  where
    there : whole (drop at s) ≡ true → (w : ℕ) → w ≡ word_at s at → start ≡ at + 2 → end ≡ at + 2 + w → Named s at start end
    there e w q a b =
        let word : word_at (drop at s) 0 ≡ w = word_drop s at ∙ sym q in
        let fits : at + 2 + w ≤ length s = (let x = is_whole (drop at s) e in omega (arith, x.fits, word, length-drop at s)) in
        record {
          is_there = e;
          datagram =
              part_is s start end (omega arith) (omega arith)
              ∙ ap (λ (k : ℕ). take k (drop start s)) (let z : end - start ≡ w = omega arith in z)
              ∙ ap (λ (k : ℕ). take w (drop k s)) a ∙ ap (take w) (sym (drop-drop 2 at s)) ∙ ap (λ (k : ℕ). take k (drop 2 (drop at s))) (sym word);
          rest = ap (λ (k : ℕ). drop k s) (let z : end ≡ at + (2 + w) = omega arith in z) ∙ sym (drop-drop (2 + w) at s) ∙ ap (λ (k : ℕ). drop (2 + k) (drop at s)) (sym word);
        }

    go : (b : Bool) → whole (drop at s) ≡ b → ◌≡◌ {A = Option View} (Some (record { start = start; end = end })) (cond b (Some (record { start = at + 2; end = at + 2 + word_at s at })) None) → Named s at start end
    go true e q =
        let v : ◌≡◌ {A = View} (record { start = start; end = end }) (record { start = at + 2; end = at + 2 + word_at s at }) = cc in
        there e (word_at s at) refl (ap (λ (x : View). x.start) v) (ap (λ (x : View). x.end) v)
    go false e q = never cc

-- ---- the records of a byte string do not depend on the bound of their count

pub record Same (n m : ℕ) (s : List ℕ) : Type 0 where
  pub same_records : records_of n s ≡ records_of m s
  pub same_unfinished : unfinished_of n s ≡ unfinished_of m s

empty_not : (s : List ℕ) → length s ≤ 0 → whole s ≡ true → ⊥
empty_not s h q = let w = (is_whole s q).two in omega arith

-- with a bound of at least the length, one more makes no difference
bound_more : (n : ℕ) (s : List ℕ) → length s ≤ n → Same n (suc n) s
unfolding records_of unfinished_of
bound_more zero s h = go (whole s) refl
  where
    go : (b : Bool) → whole s ≡ b → Same zero (suc zero) s
    go true e = absurd (empty_not s h e)
    go false e = record { same_records = rw e; same_unfinished = rw e }
bound_more (suc n) s h = go (whole s) refl (bound_more n (rest_in s))
  where
    go : (b : Bool) → whole s ≡ b → (length (rest_in s) ≤ n → Same n (suc n) (rest_in s)) → Same (suc n) (suc (suc n)) s
    go true e ih =
        let two = (is_whole s e).two in
        let x = ih (omega (arith, length-drop (2 + word_at s 0) s)) in
        record { same_records = rw e (ap (λ (rs : List (List ℕ)). first_in s ∷ rs) x.same_records); same_unfinished = rw e x.same_unfinished }
    go false e ih = record { same_records = rw e; same_unfinished = rw e }

-- nor does any greater bound
bound_any : (k n m : ℕ) (s : List ℕ) → m ≡ k + n → length s ≤ n → Same n m s
bound_any zero n m s e h =
    let q : n ≡ m = omega arith in
    record { same_records = ap (λ (j : ℕ). records_of j s) q; same_unfinished = ap (λ (j : ℕ). unfinished_of j s) q }
bound_any (suc k) n m s e h =
    let x = bound_any k n (k + n) s refl h in
    let y = bound_more (k + n) s (omega arith) in
    let q : suc (k + n) ≡ m = omega arith in
    record {
      same_records = x.same_records ∙ y.same_records ∙ ap (λ (j : ℕ). records_of j s) q;
      same_unfinished = x.same_unfinished ∙ y.same_unfinished ∙ ap (λ (j : ℕ). unfinished_of j s) q;
    }

-- ---- the first record, and none

whole_off : (s : List ℕ) → whole s ≡ true → (records s ≡ first_in s ∷ records (rest_in s)) × (unfinished s ≡ unfinished (rest_in s))
unfolding records_of unfinished_of
whole_off s e =
    let w = is_whole s e in
    let x = bound_more (length s) s (omega arith) in
    let y = bound_any (2 + word_at s 0) (length (rest_in s)) (length s) (rest_in s) (omega (arith, length-drop (2 + word_at s 0) s, w.fits)) (omega arith) in
    (x.same_records ∙ rw e (ap (λ (rs : List (List ℕ)). first_in s ∷ rs) (sym y.same_records)), x.same_unfinished ∙ rw e (sym y.same_unfinished))

-- whatever bytes a follow u
pub record Off (u a : List ℕ) : Type 0 where
  pub records_off : records (u ++ a) ≡ first_in u ∷ records (rest_in u ++ a)
  pub unfinished_off : unfinished (u ++ a) ≡ unfinished (rest_in u ++ a)

pub first_off : (u a : List ℕ) → whole u ≡ true → Off u a
first_off u a e =
    let w = is_whole u e in
    let x = whole_off (u ++ a) (more_whole u a w) in
    let rest = more_rest u a w in
    record {
      records_off = x.0 ∙ ap (λ (l : List ℕ). l ∷ records (rest_in (u ++ a))) (more_first u a w) ∙ ap (λ (l : List ℕ). first_in u ∷ records l) rest;
      unfinished_off = x.1 ∙ ap unfinished rest;
    }

pub record Done (s : List ℕ) : Type 0 where
  pub records-done : records s ≡ []
  pub unfinished-done : unfinished s ≡ s

pub none_off : (s : List ℕ) → whole s ≡ false → Done s
unfolding records_of unfinished_of
none_off s e =
    let x = bound_more (length s) s (omega arith) in
    record { records-done = x.same_records ∙ rw e; unfinished-done = x.same_unfinished ∙ rw e }

-- ---- moves

-- what is read and not handed on, what is not read yet, and what was handed on
pub record Reading : Type 0 where
  pub unread : List ℕ
  pub ahead : List ℕ
  pub handed : List (List ℕ)

-- hand on a record if a whole one is there; read k bytes more
pub data Move : Type 0 where
  Hand : Move
  Fill : ℕ → Move

abbrev pub handed_on : Bool → Reading → Reading
handed_on true r = record { unread = rest_in r.unread; ahead = r.ahead; handed = r.handed ++ first_in r.unread ∷ [] }
handed_on false r = r

abbrev pub moved : Reading → Move → Reading
moved r Hand = handed_on (whole r.unread) r
moved r (Fill k) = record { unread = r.unread ++ take k r.ahead; ahead = drop k r.ahead; handed = r.handed }

abbrev pub ran : Reading → List Move → Reading
ran r [] = r
ran r (m ∷ ms) = ran (moved r m) ms

-- nothing is read and nothing handed on
abbrev pub begun : List ℕ → Reading
begun s = record { unread = []; ahead = s; handed = [] }

-- what was handed on and what is still to come are the records of the whole
pub record Kept (s : List ℕ) (r : Reading) : Type 0 where
  pub to_come : records s ≡ r.handed ++ records (r.unread ++ r.ahead)
  pub to_stay : unfinished s ≡ unfinished (r.unread ++ r.ahead)

hand_keeps : (s : List ℕ) (r : Reading) (b : Bool) → whole r.unread ≡ b → Kept s r → Kept s (handed_on b r)
hand_keeps s r false e k = k
hand_keeps s r true e k =
    let u : List ℕ = r.unread in
    let x = first_off u r.ahead e in
    record {
      to_come = k.to_come ∙ ap (λ (rs : List (List ℕ)). r.handed ++ rs) x.records_off ∙ sym (append_assoc r.handed (first_in u ∷ []) (records (rest_in u ++ r.ahead)));
      to_stay = k.to_stay ∙ x.unfinished_off;
    }

pub keeps : (s : List ℕ) (r : Reading) (m : Move) → Kept s r → Kept s (moved r m)
keeps s r Hand k = hand_keeps s r (whole r.unread) refl k
keeps s r (Fill n) k =
    let same : r.unread ++ r.ahead ≡ r.unread ++ take n r.ahead ++ drop n r.ahead =
    ap (λ (l : List ℕ). r.unread ++ l) (sym (take-append-drop n r.ahead)) ∙ sym (append_assoc r.unread (take n r.ahead) (drop n r.ahead)) in
    record {
      to_come = k.to_come ∙ ap (λ (l : List ℕ). r.handed ++ records l) same;
      to_stay = k.to_stay ∙ ap unfinished same;
    }

keeps_all : (s : List ℕ) (r : Reading) (ms : List Move) → Kept s r → Kept s (ran r ms)
keeps_all s r [] k = k
keeps_all s r (m ∷ ms) k = keeps_all s (moved r m) ms (keeps s r m k)

-- when all is read and no whole record is left: the records were handed on, each once and in order, and what is left is the cut one, if there is one
pub record HandedOn (s : List ℕ) (r : Reading) : Type 0 where
  pub all : r.handed ≡ records s
  pub cut : r.unread ≡ unfinished s

pub kept_ends : (s : List ℕ) (r : Reading) → Kept s r → r.ahead ≡ [] → whole r.unread ≡ false → HandedOn s r
kept_ends s r k empty short =
    let over : r.unread ++ r.ahead ≡ r.unread = ap (λ (l : List ℕ). r.unread ++ l) empty ∙ append-nil r.unread in
    let d = none_off r.unread short in
    record {
      all = sym (k.to_come ∙ ap (λ (l : List ℕ). r.handed ++ records l) over ∙ ap (λ (rs : List (List ℕ)). r.handed ++ rs) d.records-done ∙ append-nil r.handed);
      cut = sym (k.to_stay ∙ ap unfinished over ∙ d.unfinished-done);
    }

pub begun_kept : (s : List ℕ) → Kept s (begun s)
begun_kept s = record { to_come = refl; to_stay = refl }

pub hands_on : (s : List ℕ) (ms : List Move) → (ran (begun s) ms).ahead ≡ [] → whole (ran (begun s) ms).unread ≡ false → HandedOn s (ran (begun s) ms)
hands_on s ms = kept_ends s (ran (begun s) ms) (keeps_all s (begun s) ms (begun_kept s))
