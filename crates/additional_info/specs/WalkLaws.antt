-- Laws of the walk: the record at the front, the records and what remains, and that they decide what is readable. Assumes nothing.
use Rattle.std.specs.Prelude.{ℕ, zero, suc, ◌+◌, ◌-◌, ◌<◌, ◌≤◌, ◌≡◌, refl, Bool, true, false, cond, List, [], ◌∷◌, ◌++◌, length, drop, ltb, Ok, Err}
use Rattle.std.proofs.Common.{arith, sym, ap, ◌∙◌, append_assoc, append-nil, length-append, length-drop, take-append-drop, length-take-le, take_at, drop_at, drop-drop, le-ltb, ltb-false, ltb-true}
use Rattle.wire.specs.Clash.{never}
use Rattle.wire.specs.Told.{verdict}
use Rattle.wire.specs.declared.refusals.Refusal.TheVariants.{InvalidAdditionalInfo}
use Rattle.additional_info.specs.Area.{Info, layout, row, Readable, end_of, info_in, rest_of, checks, accepts, stands, records_in, behind, all_in, place_of, area_check}

-- ---- the record at the front

-- it has its two bytes, and all of its data
pub record Stood (s : List ℕ) : Type 0 where
  pub two : 2 ≤ length s
  pub whole : end_of s ≤ length s

pub stood : (s : List ℕ) → stands s ≡ true → Stood s
stood s h = go (ltb (length s) 2) (ltb (length s) (end_of s)) refl refl h
  where
    go : (a b : Bool) → ltb (length s) 2 ≡ a → ltb (length s) (end_of s) ≡ b
        → accepts (cond a (Err InvalidAdditionalInfo) (cond b (Err InvalidAdditionalInfo) (Ok tt))) ≡ true → Stood s
    go true b p q k = never cc
    go false true p q k = never cc
    go false false p q k = record { two = ltb-false (length s) 2 p; whole = ltb-false (length s) (end_of s) q }

-- what the two checks say
pub passes : (s : List ℕ) → stands s ≡ true → verdict (checks s) ≡ Ok tt
passes s h = let w = stood s h in simp (le-ltb (length s) 2 w.two, le-ltb (length s) (end_of s) w.whole)

pub refuses : (s : List ℕ) → stands s ≡ false → verdict (checks s) ≡ Err InvalidAdditionalInfo
refuses s h = go (ltb (length s) 2) (ltb (length s) (end_of s)) h
  where
    go : (a b : Bool) → accepts (cond a (Err InvalidAdditionalInfo) (cond b (Err InvalidAdditionalInfo) (Ok (tt {0})))) ≡ false
        → cond a (Err InvalidAdditionalInfo) (cond b (Err InvalidAdditionalInfo) (Ok (tt {0}))) ≡ Err InvalidAdditionalInfo
    go true b k = refl
    go false true k = refl
    go false false k = never cc

-- the area is the record's bytes and what remains
pub front_is : (s : List ℕ) → stands s ≡ true → layout (info_in s) ++ rest_of s ≡ s
front_is [] h = never cc
front_is (a ∷ []) h = never cc
front_is (a ∷ b ∷ r) h =
    let w = stood (a ∷ b ∷ r) h in
    rw (← drop-drop b 2 (a ∷ b ∷ r), length-take-le b r (omega (arith, w.whole))) (ap (λ (l : List ℕ). a ∷ b ∷ l) (take-append-drop b r))

-- a record's bytes, whatever follows, are a record at the front
module _ (i : Info) (r : List ℕ) where
  pub stands-first : stands (layout i ++ r) ≡ true
  stands-first =
      let n = length-append i.«data» r in
      simp (le-ltb (length (layout i ++ r)) 2 (omega arith), le-ltb (length (layout i ++ r)) (2 + length i.«data») (omega arith))

  pub info-first : info_in (layout i ++ r) ≡ i
  info-first = ap (λ (l : List ℕ). record { code = i.code; «data» = l }) (take_at i.«data» r (length i.«data») refl)

  pub rest-first : rest_of (layout i ++ r) ≡ r
  rest-first = sym (drop-drop (length i.«data») 2 (layout i ++ r)) ∙ drop_at i.«data» r (length i.«data») refl

-- ---- the walk

-- where no record stands, it ends
pub records_stop : (n : ℕ) (s : List ℕ) → stands s ≡ false → records_in n s ≡ []
unfolding records_in
records_stop zero s h = refl
records_stop (suc n) s h = rw h

pub behind_stop : (n : ℕ) (s : List ℕ) → stands s ≡ false → behind n s ≡ s
unfolding behind
behind_stop zero s h = refl
behind_stop (suc n) s h = rw h

-- where one stands, it goes on with what remains
pub records-on : (n : ℕ) (s : List ℕ) → stands s ≡ true → records_in (suc n) s ≡ info_in s ∷ records_in n (rest_of s)
unfolding records_in
records-on n s h = rw h

pub behind-on : (n : ℕ) (s : List ℕ) → stands s ≡ true → behind (suc n) s ≡ behind n (rest_of s)
unfolding behind
behind-on n s h = rw h

-- the records' bytes and what remains are the area
pub walked : (n : ℕ) (s : List ℕ) → row (records_in n s) ++ behind n s ≡ s
unfolding records_in behind
walked zero s = refl
walked (suc n) s = go (stands s) refl (walked n (rest_of s))
  where
    go : (b : Bool) → stands s ≡ b → row (records_in n (rest_of s)) ++ behind n (rest_of s) ≡ rest_of s
        → row (cond b (info_in s ∷ records_in n (rest_of s)) []) ++ cond b (behind n (rest_of s)) s ≡ s
    go true h later =
        append_assoc (layout (info_in s)) (row (records_in n (rest_of s))) (behind n (rest_of s)) ∙ ap (λ (l : List ℕ). layout (info_in s) ++ l) later ∙ front_is s h
    go false h later = refl

-- n records, then k more from where those end
pub records_add : (k n : ℕ) (s : List ℕ) → records_in (k + n) s ≡ records_in n s ++ records_in k (behind n s)
unfolding records_in behind
records_add k zero s = let e : k + 0 ≡ k = omega arith in ap (λ (m : ℕ). records_in m s) e
records_add k (suc n) s = let e : k + suc n ≡ suc (k + n) = omega arith in ap (λ (m : ℕ). records_in m s) e ∙ go (stands s) refl (records_add k n (rest_of s))
  where
    go : (b : Bool) → stands s ≡ b → records_in (k + n) (rest_of s) ≡ records_in n (rest_of s) ++ records_in k (behind n (rest_of s))
        → cond b (info_in s ∷ records_in (k + n) (rest_of s)) [] ≡ cond b (info_in s ∷ records_in n (rest_of s)) [] ++ records_in k (cond b (behind n (rest_of s)) s)
    go true h later = ap (λ (l : List Info). info_in s ∷ l) later
    go false h later = sym (records_stop k s h)

pub behind_add : (k n : ℕ) (s : List ℕ) → behind (k + n) s ≡ behind k (behind n s)
unfolding behind
behind_add k zero s = let e : k + 0 ≡ k = omega arith in ap (λ (m : ℕ). behind m s) e
behind_add k (suc n) s = let e : k + suc n ≡ suc (k + n) = omega arith in ap (λ (m : ℕ). behind m s) e ∙ go (stands s) refl (behind_add k n (rest_of s))
  where
    go : (b : Bool) → stands s ≡ b → behind (k + n) (rest_of s) ≡ behind k (behind n (rest_of s)) → cond b (behind (k + n) (rest_of s)) s ≡ behind k (cond b (behind n (rest_of s)) s)
    go true h later = later
    go false h later = sym (behind_stop k s h)

-- each record takes two bytes or more
row-length : (is : List Info) → length is + length is ≤ length (row is)
row-length [] = omega arith
row-length (i ∷ is) = omega (arith, row-length is, length-append i.«data» (row is))

-- so n records and what remains are no longer than the area
pub record Parted (n : ℕ) (s : List ℕ) : Type 0 where
  pub row-place : length (row (records_in n s)) ≡ place_of n s
  pub place_rest : place_of n s + length (behind n s) ≡ length s
  pub halved : length (records_in n s) + length (records_in n s) ≤ place_of n s

pub parted : (n : ℕ) (s : List ℕ) → Parted n s
parted n s =
    let all : length (row (records_in n s)) + length (behind n s) ≡ length s = sym (length-append (row (records_in n s)) (behind n s)) ∙ ap length (walked n s) in
    let twice = row-length (records_in n s) in
    record { row-place = omega arith; place_rest = omega arith; halved = omega arith }

-- what remains starts at that place
pub behind_is : (n : ℕ) (s : List ℕ) → drop (place_of n s) s ≡ behind n s
behind_is n s = ap (drop (place_of n s)) (sym (walked n s)) ∙ drop_at (row (records_in n s)) (behind n s) (place_of n s) (parted n s).row-place

-- an area has no more records than bytes: behind that many none stands
pub ended : (n : ℕ) (s : List ℕ) → length s ≤ n → stands (behind n s) ≡ false
unfolding behind
ended zero [] h = refl
ended zero (x ∷ s) h = absurd (omega arith)
ended (suc n) s h = go (stands s) refl (ended n (rest_of s))
  where
    go : (b : Bool) → stands s ≡ b → (length (rest_of s) ≤ n → stands (behind n (rest_of s)) ≡ false) → stands (cond b (behind n (rest_of s)) s) ≡ false
    go true e later = let w = stood s e in later (omega (arith, length-drop (end_of s) s))
    go false e later = e

-- fewer records than were asked for: none stands behind them
pub stopped : (n : ℕ) (s : List ℕ) → length (records_in n s) < n → stands (behind n s) ≡ false
unfolding records_in behind
stopped zero s h = absurd (omega arith)
stopped (suc n) s h = go (stands s) refl (stopped n (rest_of s)) h
  where
    go : (b : Bool) → stands s ≡ b → (length (records_in n (rest_of s)) < n → stands (behind n (rest_of s)) ≡ false)
        → length (cond b (info_in s ∷ records_in n (rest_of s)) []) < suc n → stands (cond b (behind n (rest_of s)) s) ≡ false
    go true e later k = later (omega arith)
    go false e later k = e

-- no more records than were asked for
pub records-most : (n : ℕ) (s : List ℕ) → length (records_in n s) ≤ n
unfolding records_in
records-most zero s = omega arith
records-most (suc n) s = go (stands s) (records-most n (rest_of s))
  where
    go : (b : Bool) → length (records_in n (rest_of s)) ≤ n → length (cond b (info_in s ∷ records_in n (rest_of s)) []) ≤ suc n
    go true later = omega arith
    go false later = omega arith

-- where one more stands behind n records, there are n
pub all-taken : (n : ℕ) (s : List ℕ) → stands (behind n s) ≡ true → length (records_in n s) ≡ n
all-taken n s h = go (ltb (length (records_in n s)) n) refl
  where
    go : (b : Bool) → ltb (length (records_in n s)) n ≡ b → length (records_in n s) ≡ n
    go true e = let f : false ≡ true = sym (stopped n s (ltb-true (length (records_in n s)) n e)) ∙ h in never cc
    go false e = omega (arith, ltb-false (length (records_in n s)) n e, records-most n s)

-- where there are more than n records, one stands behind n
pub one_more : (n : ℕ) (s : List ℕ) → n < length (all_in s) → stands (behind n s) ≡ true
one_more n s h = go (stands (behind n s)) refl
  where
    k : ℕ
    k = length s - n

    go : (b : Bool) → stands (behind n s) ≡ b → b ≡ true
    go true e = refl
    go false e =
        let x : length s ≡ k + n = omega (arith, records-most (length s) s) in
        let y : all_in s ≡ records_in n s =
        ap (λ (m : ℕ). records_in m s) x ∙ records_add k n s ∙ ap (λ (l : List Info). records_in n s ++ l) (records_stop k (behind n s) e) ∙ append-nil (records_in n s) in
        absurd (omega (arith, records-most n s, ap length y))

-- ---- a row of records is read as those records

pub row-records : (is : List Info) (r : List ℕ) → records_in (length is) (row is ++ r) ≡ is
unfolding records_in
row-records [] r = refl
row-records (i ∷ is) r =
    let t : List ℕ = row is ++ r in
    ap (records_in (suc (length is))) (append_assoc (layout i) (row is) r) ∙ records-on (length is) (layout i ++ t) (stands-first i t)
    ∙ ap (λ (j : Info). j ∷ records_in (length is) (rest_of (layout i ++ t))) (info-first i t)
    ∙ ap (λ (l : List ℕ). i ∷ records_in (length is) l) (rest-first i t)
    ∙ ap (λ (l : List Info). i ∷ l) (row-records is r)

pub row-behind : (is : List Info) (r : List ℕ) → behind (length is) (row is ++ r) ≡ r
unfolding behind
row-behind [] r = refl
row-behind (i ∷ is) r =
    let t : List ℕ = row is ++ r in
    ap (behind (suc (length is))) (append_assoc (layout i) (row is) r) ∙ behind-on (length is) (layout i ++ t) (stands-first i t)
    ∙ ap (behind (length is)) (rest-first i t) ∙ row-behind is r

module _ (s : List ℕ) (x : Readable s) where
  front : s ≡ row x.records ++ []
  front = x.fills ∙ sym (append-nil (row x.records))

  enough : length x.records ≤ length s
  enough = omega (arith, row-length x.records, ap length x.fills)

  -- the records that fill it are those that the walk finds
  pub fills_one : all_in s ≡ x.records
  fills_one =
      let n : ℕ = length x.records in
      let k : ℕ = length s - n in
      let e : length s ≡ k + n = omega (arith, enough) in
      let rest : behind n s ≡ [] = ap (behind n) front ∙ row-behind x.records [] in
      ap (λ (m : ℕ). records_in m s) e ∙ records_add k n s ∙ ap (λ (l : List ℕ). records_in n s ++ records_in k l) rest
      ∙ ap (λ (l : List Info). records_in n s ++ l) (records_stop k [] refl) ∙ append-nil (records_in n s) ∙ ap (records_in n) front ∙ row-records x.records []

  -- and nothing remains
  pub nothing_left : behind (length s) s ≡ []
  nothing_left =
      let n : ℕ = length x.records in
      let k : ℕ = length s - n in
      let e : length s ≡ k + n = omega (arith, enough) in
      ap (λ (m : ℕ). behind m s) e ∙ behind_add k n s ∙ ap (behind k) (ap (behind n) front ∙ row-behind x.records []) ∙ behind_stop k [] refl

-- ---- the walk decides what is readable, both ways

pub is_readable : (s : List ℕ) → verdict (area_check s ∷ []) ≡ Ok tt → Readable s
is_readable s q = go (behind (length s) s) (walked (length s) s) (ltb 0 (length (behind (length s) s))) refl q
  where
    go : (l : List ℕ) → row (all_in s) ++ l ≡ s → (b : Bool) → ltb 0 (length l) ≡ b → cond b (Err InvalidAdditionalInfo) (Ok (tt {0})) ≡ Ok (tt {0}) → Readable s
    go l w true e p = never cc
    go [] w false e p = record { records = all_in s; fills = sym w ∙ append-nil (row (all_in s)) }
    go (a ∷ l) w false e p = absurd (omega (arith, ltb-false 0 (length (a ∷ l)) e))

pub readable_passes : (s : List ℕ) → Readable s → verdict (area_check s ∷ []) ≡ Ok tt
readable_passes s x = ap (λ (l : List ℕ). cond (ltb 0 (length l)) (Err InvalidAdditionalInfo) (Ok tt)) (nothing_left s x)
