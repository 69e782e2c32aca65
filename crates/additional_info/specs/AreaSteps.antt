-- One law of the reader for each way out of its code. Assumes nothing.
use Rattle.std.specs.Prelude.{ℕ, zero, suc, ◌+◌, ◌-◌, ◌<◌, ◌≤◌, ◌≡◌, refl, Bool, true, false, cond, List, [], ◌∷◌, ◌++◌, length, take, drop, get_or, ltb, min, Ok, Err, Option, Some, None}
use Rattle.std.proofs.Common.{arith, sym, ap, ◌∙◌, append-nil, length-append, length-drop, lt-ltb, le-ltb, eq-eqb, ne_eqb}
use Rattle.wire.specs.Clash.{never}
use Rattle.wire.specs.Told.{done, refused, nowhere}
use Rattle.wire.specs.ToldLaws.{let_pass, let_refuse}
use Rattle.wire.specs.PlaceLaws.{located_pass, located_fall}
use Rattle.wire.specs.Parts.{part_of}
use Rattle.wire.specs.PartLaws.{part_is, part_to_end}
use Rattle.wire.specs.declared.refusals.Fault.{Fault}
use Rattle.wire.specs.declared.refusals.Refusal.TheVariants.{InvalidAdditionalInfo}
use Rattle.additional_info.specs.InfoType.{type_of}
use Rattle.additional_info.specs.Area.{Info, code_in, length_in, end_of, data_in, rest_of, checks, stands, records_in, behind, all_in, place_of, area_check, area_offsets, timestamp_of, told_record, nothing, record_by02, ParsePromise, CountPromise, nth_in, NthPromise, taken, RecordPromise, WalkPromise}
use Rattle.additional_info.specs.WalkLaws.{stopped, all-taken, behind_add, behind_is, behind-on, behind_stop, one_more, parted, passes, records_add, records-most, records-on, records_stop, refuses, stood}
use Rattle.additional_info.specs.AreaLaws.{first_where, counted, not_counted}
use Rattle.additional_info.specs.declared.info_type.AdditionalInfoType.{AdditionalInfoType}
use Rattle.additional_info.specs.declared.area.AdditionalInfo.{AdditionalInfo}
use Rattle.additional_info.specs.declared.area.Walked.{Walked}

-- ---- for the code

-- the record at the front takes no byte: none stands there
pub none-stands : (s : List ℕ) → None ≡ taken s → stands s ≡ false
none-stands s e = go (stands s) e
  where
    go : (b : Bool) → ◌≡◌ {A = Option ℕ} None (cond b (Some (end_of s)) None) → b ≡ false
    go true q = never cc
    go false q = refl

-- it takes some: one stands there, and takes them up to its end
pub one_stands : (s : List ℕ) (n : ℕ) → Some n ≡ taken s → (stands s ≡ true) × (n ≡ end_of s)
one_stands s n e = go (stands s) e
  where
    go : (b : Bool) → Some n ≡ cond b (Some (end_of s)) None → (b ≡ true) × (n ≡ end_of s)
    go true q = (refl, cc)
    go false q = never cc

-- past so many records, to a place
abbrev pub to : ℕ → ℕ → Walked
to records at = record { records = records; at = at }

-- a record that stands at a place lies within the area
pub placed : (s : List ℕ) (at : ℕ) → stands (drop at s) ≡ true → at + end_of (drop at s) ≤ length s
placed s at h = let w = stood (drop at s) h in omega (arith, length-drop at s)

-- a record as it is read from the part behind a place
pub reads : (s : List ℕ) (at : ℕ) → stands (drop at s) ≡ true → (rest : List ℕ) (code many : ℕ) («data» : List ℕ) (t : AdditionalInfoType) (x : Option ℕ)
    → rest ≡ part_of s at (length s) → code ≡ get_or rest 0 0 → many ≡ get_or rest 1 0 → «data» ≡ part_of rest 2 (2 + many) → t ≡ type_of code → x ≡ timestamp_of (record { code = code; «data» = «data» })
    → told_record (record { info_type = t; timestamp = x; start = at + 2; end = at + (2 + many) }) ≡ record_by02 at (drop at s)
reads s at h rest code many «data» t x part first second shown typed valued =
    let u : List ℕ = drop at s in
    let w = placed s at h in
    let r : rest ≡ u = part ∙ part_to_end s at (omega arith) in
    let c : code ≡ code_in u = first ∙ ap (λ (l : List ℕ). get_or l 0 0) r in
    let m : many ≡ length_in u = second ∙ ap (λ (l : List ℕ). get_or l 1 0) r in
    let n : 2 + length_in u - 2 ≡ length_in u = omega arith in
    let d : «data» ≡ data_in u =
    shown ∙ ap (λ (l : List ℕ). part_of l 2 (2 + many)) r ∙ ap (λ (k : ℕ). part_of u 2 (2 + k)) m ∙ part_is u 2 (2 + length_in u) (omega arith) (stood u h).whole ∙ ap (λ (k : ℕ). take k (drop 2 u)) n in
    rw (typed, valued, d, c, m)

-- there is none, or the record at the front is refused, or handed out
pub parse_none : (s : List ℕ) → length s ≡ 0 → ParsePromise s (Ok None)
parse_none s none = simp (eq-eqb (length s) 0 none) refl ∙ sym (first_where s)

pub parse_refused : (s : List ℕ) → (length s ≡ 0 → ⊥) → stands s ≡ false → ParsePromise s (Err (nowhere InvalidAdditionalInfo))
parse_refused s some h = simp (ne_eqb (length s) 0 some) (sym (let_refuse (checks s) (record_by02 0 s) InvalidAdditionalInfo (refuses s h))) ∙ sym (first_where s)

pub parse_read : (s : List ℕ) (r : AdditionalInfo) → (length s ≡ 0 → ⊥) → stands s ≡ true → told_record r ≡ record_by02 0 s → ParsePromise s (Ok (Some r))
parse_read s r some h p = simp (ne_eqb (length s) 0 some) (p ∙ sym (let_pass (checks s) (record_by02 0 s) (passes s h))) ∙ sym (first_where s)

-- what remains behind it, as the part from its end on
pub rest_part : (s rest : List ℕ) (n : ℕ) → n ≡ end_of s → stands s ≡ true → rest ≡ part_of s n (length s) → (rest ≡ rest_of s) × (length rest + n ≡ length s)
rest_part s rest n e h p =
    let w = stood s h in
    let q : rest ≡ rest_of s = p ∙ part_to_end s n (omega arith) ∙ ap (λ (k : ℕ). drop k s) e in
    (q, omega (arith, ap length q, length-drop (end_of s) s))

-- no record asked for
pub walk_none : (s : List ℕ) → WalkPromise 0 s (to 0 0)
unfolding records_in behind
walk_none s = (refl, omega arith)

-- none stands there
pub walk_stop : (n : ℕ) (s : List ℕ) → stands s ≡ false → WalkPromise n s (to 0 0)
walk_stop n s h = (ap length (sym (records_stop n s h)), omega (arith, ap length (behind_stop n s h)))

-- one stands there, and m more were walked past behind it
pub walk_on : (m : ℕ) (s rest : List ℕ) (r : Walked) → stands s ≡ true → rest ≡ rest_of s → WalkPromise m rest r → WalkPromise (suc m) s (to (1 + r.records) (end_of s + r.at))
walk_on m s rest r h e p =
    let w = stood s h in
    let q : WalkPromise m (rest_of s) r = rw (← e) p in
    let x : length (records_in (suc m) s) ≡ suc (length (records_in m (rest_of s))) = ap length (records-on m s h) in
    let y = ap length (behind-on m s h) in
    let z = (parted m (rest_of s)).place_rest in
    (omega (arith, q.0), omega (arith, q.1, length-drop (end_of s) s))

-- as many as were found, asked for again, are the same
exact : (m j : ℕ) (s : List ℕ) → length (records_in (m + j) s) ≡ j → (records_in (m + j) s ≡ records_in j s) × (behind (m + j) s ≡ behind j s)
exact zero j s e = let z : 0 + j ≡ j = omega arith in (ap (λ (k : ℕ). records_in k s) z, ap (λ (k : ℕ). behind k s) z)
exact (suc m) j s e = go (stands (behind j s)) refl
  where
    go : (b : Bool) → stands (behind j s) ≡ b → (records_in (suc m + j) s ≡ records_in j s) × (behind (suc m + j) s ≡ behind j s)
    go true h =
        let x = ap length (records_add (suc m) j s) ∙ length-append (records_in j s) (records_in (suc m) (behind j s)) in
        let y = ap length (records-on m (behind j s) h) in
        absurd (omega (arith, all-taken j s h))
    go false h =
        (records_add (suc m) j s ∙ ap (λ (l : List Info). records_in j s ++ l) (records_stop (suc m) (behind j s) h) ∙ append-nil (records_in j s), behind_add (suc m) j s ∙ behind_stop (suc m) (behind j s) h)

-- past m records, then past those that a walk of at most k from there found; what remains is what remains there
record More (m at k : ℕ) (s : List ℕ) (r : Walked) : Type 0 where
  on : WalkPromise (m + r.records) s (to (m + r.records) (at + r.at))
  left : behind (m + r.records) s ≡ behind k (behind m s)

walk_more : (m at k : ℕ) (s rest : List ℕ) (r : Walked) → WalkPromise m s (to m at) → rest ≡ behind m s → WalkPromise k rest r → More m at k s r
walk_more m at k s rest r p e q =
    let t : List ℕ = behind m s in
    let x : WalkPromise k t r = rw (← e) q in
    let j : ℕ = r.records in
    let split : k ≡ (k - j) + j = omega (arith, x.0, records-most k t) in
    let both = exact (k - j) j t (ap (λ (i : ℕ). length (records_in i t)) (sym split) ∙ sym x.0) in
    let rs : records_in k t ≡ records_in j t = ap (λ (i : ℕ). records_in i t) split ∙ both.0 in
    let bs : behind k t ≡ behind j t = ap (λ (i : ℕ). behind i t) split ∙ both.1 in
    let swapped : m + j ≡ j + m = omega arith in
    let all : length (records_in (m + j) s) ≡ length (records_in m s) + length (records_in k t) =
    ap (λ (i : ℕ). length (records_in i s)) swapped ∙ ap length (records_add j m s) ∙ length-append (records_in m s) (records_in j t) ∙ ap (λ (l : List Info). length (records_in m s) + length l) (sym rs) in
    let here : behind (m + j) s ≡ behind k t = ap (λ (i : ℕ). behind i s) swapped ∙ behind_add j m s ∙ sym bs in
    let long = ap length here in
    let a = (parted m s).place_rest in
    let b = (parted k t).place_rest in
    record { on = (omega (arith, p.0, x.0), omega (arith, p.1, x.1)); left = here }

-- where none stands behind m records, more are not found
walk_ends : (m n at : ℕ) (s : List ℕ) → WalkPromise m s (to m at) → m ≤ n → stands (behind m s) ≡ false → WalkPromise n s (to m at)
walk_ends m n at s p h e =
    let k : ℕ = n - m in
    let split : n ≡ k + m = omega arith in
    let rs : records_in n s ≡ records_in m s = ap (λ (i : ℕ). records_in i s) split ∙ records_add k m s ∙ ap (λ (l : List Info). records_in m s ++ l) (records_stop k (behind m s) e) ∙ append-nil (records_in m s) in
    let bs : behind n s ≡ behind m s = ap (λ (i : ℕ). behind i s) split ∙ behind_add k m s ∙ behind_stop k (behind m s) e in
    (p.0 ∙ ap length (sym rs), p.1 ∙ ap (λ (l : List ℕ). length s - length l) (sym bs))

-- a walk is asked for no more than remain, and for one at least where one remains
record Asked (n k : ℕ) : Type 0 where
  pub most : k ≤ n
  pub some : 1 ≤ n → 1 ≤ k

asked : (n k : ℕ) → k ≡ min n 8 → Asked n k
asked n k e = record { most = omega arith; some = λ x. omega arith }

-- what remains behind m records, as the part from its place to the end
rest_is : (m at : ℕ) (s rest : List ℕ) → WalkPromise m s (to m at) → rest ≡ part_of s at (length s) → rest ≡ behind m s
rest_is m at s rest p e =
    let a = (parted m s).place_rest in
    e ∙ part_to_end s at (omega (arith, p.1)) ∙ ap (λ (k : ℕ). drop k s) p.1 ∙ behind_is m s

-- one turn of the loop over walks, for n records, where m are past: the walk was asked for k
pub record Turn (n m at k : ℕ) (s : List ℕ) (r : Walked) : Type 0 where
  pub most : m + r.records ≤ n
  pub within : at + r.at ≤ length s
  pub next : WalkPromise (m + r.records) s (to (m + r.records) (at + r.at))
  pub falls : k ≤ r.records → 1 ≤ r.records
  pub last : r.records < k → WalkPromise n s (to (m + r.records) (at + r.at))

pub turn : (n m at k : ℕ) (s rest : List ℕ) (r : Walked) → m < n → WalkPromise m s (to m at) → k ≡ min (n - m) 8 → rest ≡ part_of s at (length s) → WalkPromise k rest r → Turn n m at k s r
turn n m at k s rest r few p e shown w =
    let some = asked (n - m) k e in
    let here : rest ≡ behind m s = rest_is m at s rest p shown in
    let more = walk_more m at k s rest r p here w in
    let found : length (records_in k rest) ≡ length (records_in k (behind m s)) = ap (λ (l : List ℕ). length (records_in k l)) here in
    let fits : m + r.records ≤ n = omega (arith, w.0, records-most k rest) in
    record {
      most = fits;
      within = omega (arith, more.on.1);
      next = more.on;
      falls = λ h. (let one = some.some (omega arith) in omega arith);
      last = λ h. walk_ends (m + r.records) n (at + r.at) s more.on fits (ap stands more.left ∙ stopped k (behind m s) (omega (arith, w.0)));
    }

-- all records walked past: something remains, or nothing does
pub count-refused : (s : List ℕ) (r : Walked) → WalkPromise (length s) s r → r.at < length s → CountPromise s (Err (record { why = InvalidAdditionalInfo; at = r.at }))
count-refused s r p h =
    let a = (parted (length s) s).place_rest in
    simp (lt-ltb 0 (length (behind (length s) s)) (omega (arith, p.1))) (ap (λ (o : ℕ). refused 1 (record { why = InvalidAdditionalInfo; at = o })) p.1)

pub count-done : (s : List ℕ) (r : Walked) → WalkPromise (length s) s r → length s ≤ r.at → CountPromise s (Ok r.records)
count-done s r p h =
    let a = (parted (length s) s).place_rest in
    simp (le-ltb 0 (length (behind (length s) s)) (omega (arith, p.1))) (ap (λ (n : ℕ). done (n ∷ [])) p.0)

-- what is handed out says no offset
nth_nowhere : (s : List ℕ) (n : ℕ) → (nth_in s n).offset ≡ 0
nth_nowhere s n = go (ltb n (length (all_in s)))
  where
    go : (b : Bool) → (cond b (record_by02 (place_of n s) (behind n s)) nothing).offset ≡ 0
    go true = refl
    go false = refl

-- one stands at the place behind n others, and is read there
pub nth_stands : (s : List ℕ) (n m : ℕ) (r : Walked) → CountPromise s (Ok m) → n < m → WalkPromise n s r → stands (drop r.at s) ≡ true
nth_stands s n m r p h w =
    ap (λ (k : ℕ). stands (drop k s)) w.1 ∙ ap stands (behind_is n s) ∙ one_more n s (omega (arith, (counted s m p).1))

pub nth_read : (s : List ℕ) (n m : ℕ) (r : Walked) (i : AdditionalInfo) → CountPromise s (Ok m) → n < m → WalkPromise n s r → RecordPromise s r.at i → NthPromise s n (Ok (Some i))
nth_read s n m r i p h w q =
    let k = counted s m p in
    let at : record_by02 r.at (drop r.at s) ≡ record_by02 (place_of n s) (behind n s) = ap (λ (x : ℕ). record_by02 x (drop x s)) w.1 ∙ ap (record_by02 (place_of n s)) (behind_is n s) in
    q ∙ at ∙ sym (located_pass (area_check s ∷ []) (area_offsets s) (nth_in s n) refl (nth_nowhere s n) k.0 ∙ simp (lt-ltb n (length (all_in s)) (omega (arith, k.1))))

-- an area that is not readable has no n-th
pub nth_refused : (s : List ℕ) (n : ℕ) (e : Fault) → CountPromise s (Err e) → NthPromise s n (Err e)
nth_refused s n e p = ap (λ (k : ℕ). refused k e) (sym (five (ltb n (length (all_in s))))) ∙ sym (located_fall (area_check s ∷ []) (area_offsets s) (nth_in s n) e (not_counted s e p))
  where
    five : (b : Bool) → length (cond b (record_by02 (place_of n s) (behind n s)) nothing).values ≡ 5
    five true = refl
    five false = refl
