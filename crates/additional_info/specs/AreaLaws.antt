-- What the answers say: the record that is handed out, the count, zeros beside a refusal, and no second answer. Assumes nothing.
use Rattle.std.specs.Prelude.{ℕ, suc, ◌+◌, ◌-◌, ◌<◌, ◌≡◌, Bool, true, false, cond, List, [], ◌∷◌, ◌++◌, length, take, drop, eqb, ltb, Result, Ok, Err, Option, Some, None}
use Rattle.std.proofs.Common.{arith, sym, ◌∙◌, length-drop, drop_at, drop-drop, le-ltb, ltb-true, ne_eqb}
use Rattle.std.proofs.Math.Path.{refl, ap}
use Rattle.std.proofs.Math.ListN.{get_or}
use Rattle.wire.specs.Clash.{never}
use Rattle.wire.specs.Refusals.{number_of}
use Rattle.wire.specs.Told.{Told, done, nowhere, verdict, judged}
use Rattle.wire.specs.ToldLaws.{refusal_of, numbered, never_done, holds, let_pass, was_accepted, let_through, same, one_to_one, answer_of, back_refused}
use Rattle.wire.specs.Places.{at, standing, later}
use Rattle.wire.specs.PlaceLaws.{located_pass, was_fallen, falls_so, all_at_0, falls_at_0, judged-nowhere}
use Rattle.wire.specs.Refusing.{Refusing, judged-refusing}
use Rattle.wire.specs.Parts.{part_of}
use Rattle.wire.specs.declared.refusals.Fault.{Fault}
use Rattle.wire.specs.declared.refusals.Refusal.TheVariants.{InvalidAdditionalInfo}
use Rattle.additional_info.specs.InfoType.{code_of, type_of}
use Rattle.additional_info.specs.InfoTypeLaws.{code_back, type_from, type_back}
use Rattle.additional_info.specs.Area.{Info, layout, Readable, code_in, length_in, end_of, data_in, info_in, rest_of, checks, offsets, accepts, stands, records_in, behind, all_in, place_of, unfilled, area_check, area_offsets, timestamp_of, valued_of, value_of, values_of, told_record, nothing, told, record_by02, parse_by02, parse_where, ParsePromise, told_count, CountPromise, nth_in, nth_where, NthPromise}
use Rattle.additional_info.specs.WalkLaws.{all-taken, behind_is, ended, fills_one, front_is, info-first, is_readable, one_more, passes, readable_passes, records_add, records-most, records-on, refuses, stands-first, stood}
use Rattle.additional_info.specs.declared.info_type.AdditionalInfoType.{AdditionalInfoType}
use Rattle.additional_info.specs.declared.area.AdditionalInfo.{AdditionalInfo}

-- ---- where it was refused

-- a record that does not stand is told at its own type byte, which is 0 of what was given
pub first_where : (s : List ℕ) → parse_where s ≡ parse_by02 s
first_where s = all_at_0 (checks s) offsets (parse_by02 s) (omega arith, (omega arith, omega arith)) (go (eqb (length s) 0))
  where
    go : (b : Bool) → (cond b nothing (judged (checks s) (record_by02 0 s))).offset ≡ 0
    go true = refl
    go false = judged-nowhere (checks s) (record_by02 0 s) refl

-- and in an area at its place: what the reader of a record says of what remains, moved by the place, is what the reader of the area says
pub record_later : (s : List ℕ) → unfilled s ≡ true → standing (area_check s ∷ []) (area_offsets s) ≡ later (place_of (length s) s) (standing (checks (behind (length s) s)) offsets)
record_later s h =
    let here : ℕ = place_of (length s) s in
    let still : here ≡ here + 0 = omega arith in
    let fall : standing (checks (behind (length s) s)) offsets ≡ Err (nowhere InvalidAdditionalInfo) =
    falls_at_0 (checks (behind (length s) s)) offsets InvalidAdditionalInfo (omega arith, (omega arith, omega arith)) (refuses (behind (length s) s) (ended (length s) s (omega arith))) in
    simp h (ap (λ (o : ℕ). Err (record { why = InvalidAdditionalInfo; at = o })) still ∙ ap (later here) (sym fall))

-- ---- the record that is handed out

-- what a record shows of an area: its type's code, and the part that its view names
abbrev pub shown_in : List ℕ → AdditionalInfo → Info
shown_in s r = record { code = code_of r.info_type; «data» = part_of s r.start r.end }

-- it is the record at the place that it was read from
pub record_shows : (s : List ℕ) (at : ℕ) (r : AdditionalInfo) → told_record r ≡ record_by02 at (drop at s) → stands (drop at s) ≡ true → shown_in s r ≡ info_in (drop at s)
record_shows s at r p h =
    let t : List ℕ = drop at s in
    let w = stood t h in
    let n = length-drop at s in
    let code : code_of r.info_type ≡ code_in t = ap (λ (x : Told). get_or x.values 2 0) p ∙ code_back (code_in t) in
    let from : r.start ≡ at + 2 = ap (λ (x : Told). x.start) p in
    let to : r.end ≡ at + end_of t = ap (λ (x : Told). x.end) p in
    let many : at + end_of t - (at + 2) ≡ length_in t = omega arith in
    let part : part_of s r.start r.end ≡ data_in t =
    ap (λ (k : ℕ). part_of s k r.end) from ∙ ap (part_of s (at + 2)) to
    ∙ simp (le-ltb (at + end_of t) (at + 2) (omega arith), le-ltb (length s) (at + end_of t) (omega arith))
    (ap (λ (k : ℕ). take k (drop (at + 2) s)) many ∙ ap (take (length_in t)) (sym (drop-drop 2 at s))) in
    cc

-- the record at the front, and what remains behind its end, are the area
pub parse_shows : (s : List ℕ) (r : AdditionalInfo) → ParsePromise s (Ok (Some r)) → layout (shown_in s r) ++ drop r.end s ≡ s
parse_shows s r p = go (eqb (length s) 0) refl (p ∙ first_where s)
  where
    go : (b : Bool) → eqb (length s) 0 ≡ b → told_record r ≡ cond b nothing (judged (checks s) (record_by02 0 s)) → layout (shown_in s r) ++ drop r.end s ≡ s
    go true e q = let z : ◌≡◌ {A = ℕ} 1 0 = ap (λ (x : Told). get_or x.values 0 0) q in absurd (omega arith)
    go false e q =
        let h : stands s ≡ true = ap accepts (was_accepted (checks s) (record_by02 0 s) (told_record r) refl q) in
        let t : told_record r ≡ record_by02 0 s = let_through (checks s) (record_by02 0 s) (told_record r) refl q in
        let to : r.end ≡ end_of s = ap (λ (x : Told). x.end) t ∙ omega arith in
        ap (λ (i : Info). layout i ++ drop r.end s) (record_shows s 0 r t h) ∙ ap (λ (k : ℕ). layout (info_in s) ++ drop k s) to ∙ front_is s h

-- and what a record's bytes are told as, whatever follows them
pub reads_back : (i : Info) (rest : List ℕ) → parse_where (layout i ++ rest) ≡ record { number = 0; values = values_of (type_of i.code) (timestamp_of i); start = 2; end = 2 + length i.«data»; offset = 0 }
reads_back i rest =
    let s : List ℕ = layout i ++ rest in
    let n : ℕ = 2 + length i.«data» in
    let zero-end : 0 + n ≡ n = omega arith in
    first_where s
    ∙ simp (ne_eqb (length s) 0 (λ z. omega arith))
    (let_pass (checks s) (record_by02 0 s) (passes s (stands-first i rest))
    ∙ ap (λ (j : Info). record { number = 0; values = values_of (type_of j.code) (timestamp_of j); start = 2; end = 0 + n; offset = 0 }) (info-first i rest)
    ∙ ap (λ (e : ℕ). record { number = 0; values = values_of (type_of i.code) (timestamp_of i); start = 2; end = e; offset = 0 }) zero-end)

-- the record handed out for n is the one that stands behind n others
pub nth_shows : (s : List ℕ) (n : ℕ) (r : AdditionalInfo) → NthPromise s n (Ok (Some r)) → drop n (all_in s) ≡ shown_in s r ∷ drop (n + 1) (all_in s)
nth_shows s n r p = go (ltb n (length (all_in s))) refl (let_through (area_check s ∷ []) (nth_in s n) (told_record r) refl p)
  where
    go : (b : Bool) → ltb n (length (all_in s)) ≡ b → told_record r ≡ at 0 (cond b (record_by02 (place_of n s) (behind n s)) nothing) → drop n (all_in s) ≡ shown_in s r ∷ drop (n + 1) (all_in s)
    go false e q = let z : ◌≡◌ {A = ℕ} 1 0 = ap (λ (x : Told). get_or x.values 0 0) q in absurd (omega arith)
    go true e q =
        let many : n < length (all_in s) = ltb-true n (length (all_in s)) e in
        let h : stands (behind n s) ≡ true = one_more n s many in
        let j : ℕ = length s - n - 1 in
        let x : length s ≡ suc j + n = omega (arith, records-most (length s) s) in
        let full : length (records_in n s) ≡ n = all-taken n s h in
        let tail : List Info = records_in j (rest_of (behind n s)) in
        let y : all_in s ≡ records_in n s ++ info_in (behind n s) ∷ tail =
        ap (λ (m : ℕ). records_in m s) x ∙ records_add (suc j) n s ∙ ap (λ (l : List Info). records_in n s ++ l) (records-on j (behind n s) h) in
        let front : drop n (all_in s) ≡ info_in (behind n s) ∷ tail = ap (drop n) y ∙ drop_at (records_in n s) (info_in (behind n s) ∷ tail) n full in
        let later : drop (n + 1) (all_in s) ≡ tail = sym (drop-drop 1 n (all_in s)) ∙ ap (drop 1) front in
        let there : told_record r ≡ record_by02 (place_of n s) (drop (place_of n s) s) = q ∙ ap (record_by02 (place_of n s)) (sym (behind_is n s)) in
        let shows : shown_in s r ≡ info_in (behind n s) = record_shows s (place_of n s) r there (ap stands (behind_is n s) ∙ h) ∙ ap info_in (behind_is n s) in
        front ∙ ap (λ (i : Info). i ∷ tail) (sym shows) ∙ ap (λ (l : List Info). shown_in s r ∷ l) (sym later)

-- ---- no second answer

timestamp_from : ℕ → ℕ → Option ℕ
timestamp_from valued value = cond (eqb valued 1) (Some value) None

timestamp_back : (x : Option ℕ) → timestamp_from (valued_of x) (value_of x) ≡ x
unfolding timestamp_from
timestamp_back (Some n) = refl
timestamp_back None = refl

abbrev record_from : AdditionalInfoType → Option ℕ → ℕ → ℕ → Result (Option AdditionalInfo) Fault
record_from t x start end = Ok (Some (record { info_type = t; timestamp = x; start = start; end = end }))

abbrev answer_from : Told → Result (Option AdditionalInfo) Fault
answer_from t =
    cond (eqb t.number 0)
    (cond (eqb (get_or t.values 0 0) 1)
    (record_from (type_from (get_or t.values 1 0) (get_or t.values 2 0)) (timestamp_from (get_or t.values 3 0) (get_or t.values 4 0)) t.start t.end)
    (Ok None))
    (Err (record { why = refusal_of t.number; at = t.offset }))

told_back : (r : Result (Option AdditionalInfo) Fault) → answer_from (told r) ≡ r
told_back (Ok (Some r)) =
    ap (λ (t : AdditionalInfoType). record_from t (timestamp_from (valued_of r.timestamp) (value_of r.timestamp)) r.start r.end) (type_back r.info_type)
    ∙ ap (λ (x : Option ℕ). record_from r.info_type x r.start r.end) (timestamp_back r.timestamp)
told_back (Ok None) = refl
told_back (Err e) = simp (ne_eqb (number_of e.why) 0 (never_done e.why), (numbered e.why).back)

pub told_one : (r q : Result (Option AdditionalInfo) Fault) → told r ≡ told q → r ≡ q
told_one = one_to_one told answer_from told_back

pub parse_one : (s : List ℕ) (r q : Result (Option AdditionalInfo) Fault) → ParsePromise s r → ParsePromise s q → r ≡ q
parse_one s r q a b = told_one r q (same a b)

pub nth_one : (s : List ℕ) (n : ℕ) (r q : Result (Option AdditionalInfo) Fault) → NthPromise s n r → NthPromise s n q → r ≡ q
nth_one s n r q a b = told_one r q (same a b)

abbrev count_of : List ℕ → Result ℕ Fault
count_of vs = Ok (get_or vs 0 0)

count_back : (r : Result ℕ Fault) → answer_of count_of Err (told_count r) ≡ r
count_back (Ok n) = refl
count_back (Err e) = back_refused count_of Err 1 e

pub count_one : (s : List ℕ) (r q : Result ℕ Fault) → CountPromise s r → CountPromise s q → r ≡ q
count_one s r q a b = one_to_one told_count (answer_of count_of Err) count_back r q (same a b)

-- ---- what a count says

-- what a count says of the area
module _ (s : List ℕ) where
  counts : Told
  counts = done (length (all_in s) ∷ [])

  pub counted : (n : ℕ) → CountPromise s (Ok n) → (verdict (area_check s ∷ []) ≡ Ok tt) × (n ≡ length (all_in s))
  unfolding counts
  counted n p =
      (was_accepted (area_check s ∷ []) counts (done (n ∷ [])) refl p, ap (λ (t : Told). get_or t.values 0 0) (let_through (area_check s ∷ []) counts (done (n ∷ [])) refl p))

  pub not_counted : (e : Fault) → CountPromise s (Err e) → standing (area_check s ∷ []) (area_offsets s) ≡ Err e
  unfolding counts
  not_counted e p = was_fallen (area_check s ∷ []) (area_offsets s) counts 1 e refl p

  pub was_filled : (n : ℕ) → CountPromise s (Ok n) → unfilled s ≡ false
  was_filled n p = holds [] (unfilled s) InvalidAdditionalInfo [] (counted n p).0

  pub was_unfilled : (e : Fault) → CountPromise s (Err e) → unfilled s ≡ true
  was_unfilled e p = go (unfilled s) (falls_so (area_check s ∷ []) (area_offsets s) e (not_counted e p)).0
    where
      go : (b : Bool) → cond b (Err InvalidAdditionalInfo) (Ok (tt {0})) ≡ Err e.why → b ≡ true
      go true q = refl
      go false q = never cc

-- a count is of the records that fill the area
pub count_readable : (s : List ℕ) (n : ℕ) → CountPromise s (Ok n) → (x : Readable s) × (n ≡ length x.records)
count_readable s n p = let k = counted s n p in let x : Readable s = is_readable s k.0 in (x, k.1 ∙ ap length (fills_one s x))

pub readable_count : (s : List ℕ) (x : Readable s) (r : Result ℕ Fault) → CountPromise s r → r ≡ Ok (length x.records)
readable_count s x r p =
    count_one s r (Ok (length x.records)) p
    (ap (λ (l : List Info). done (length l ∷ [])) (sym (fills_one s x)) ∙ sym (located_pass (area_check s ∷ []) (area_offsets s) (done (length (all_in s) ∷ [])) refl refl (readable_passes s x)))

-- ---- a refusal has zeros

pub first-refusing : (s : List ℕ) → Refusing (parse_where s)
first-refusing s = rw (first_where s) (go (eqb (length s) 0))
  where
    go : (b : Bool) → Refusing (cond b nothing (judged (checks s) (record_by02 0 s)))
    go true = λ some. absurd (some refl)
    go false = judged-refusing (checks s) (record_by02 0 s) (judged (checks s) (record_by02 0 s)) refl refl

pub nth_refusing : (s : List ℕ) (n : ℕ) → Refusing (nth_where s n)
nth_refusing s n = judged-refusing (area_check s ∷ []) (nth_in s n) (nth_where s n) (zero_number (ltb n (length (all_in s)))) refl
  where
    zero_number : (b : Bool) → (cond b (record_by02 (place_of n s) (behind n s)) nothing).number ≡ 0
    zero_number true = refl
    zero_number false = refl
