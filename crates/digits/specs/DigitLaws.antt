-- How many digits a number has, how they are stored from the right, and that what is printed reads as the number. Assumes nothing.
use Rattle.std.specs.Prelude.{ℕ, zero, suc, ◌+◌, ◌-◌, ◌*◌, ◌/◌, ◌%◌, ◌<◌, ◌≤◌, ◌≡◌, ◌^◌, max, refl, Bool, true, false, cond, List, [], ◌∷◌, ◌++◌, eqb, ltb, length, take, drop, set}
use Rattle.std.proofs.Common.{arith, div-one, sym, ap, ◌∙◌, append_assoc, append-nil, length-append, take-append-drop, drop_at, length-take-le, ne_eqb, eqb-true, lt-ltb, le-ltb, ltb-true, ltb-false}
use Rattle.std.proofs.Math.Nat.{div-div-eq-div-mul, pow-succ'}
use Rattle.std.proofs.Math.Seq.{append_snoc}
use Rattle.std.proofs.lemmas.List.{set_split, take-set-le}
use Rattle.std.proofs.lemmas.Bool.{eqb-false, lt-leb}
use Rattle.wire.specs.Layout.{copied, CopyPromise}
use Rattle.wire.specs.LayoutLaws.{copied-nothing}
use Rattle.digits.specs.Digits.{digits_of, decimal_in, decimal, last_digits, DigitsPromise, hex_digit, read_from, tens, hex_value}

-- ---- how many there are

pub none_left : (k : ℕ) → length (digits_of k 0) ≡ 0
unfolding digits_of
none_left zero = refl
none_left (suc k) = refl

pub no_place : (n : ℕ) → length (digits_of 0 n) ≡ 0
unfolding digits_of
no_place n = refl

-- one digit more while something is left
pub one_more : (k n : ℕ) → 1 ≤ k → (n ≡ 0 → ⊥) → length (digits_of k n) ≡ length (digits_of (k - 1) (n / 10)) + 1
unfolding digits_of
one_more zero n h some = absurd (omega arith)
one_more (suc k) n h some =
    let q : suc k - 1 ≡ k = omega arith in
    rw (q, ne_eqb n 0 some) (length-append (digits_of k (n / 10)) ((48 + n % 10) ∷ []))

-- of a number that is not 0
some_digits : (k n : ℕ) → (n ≡ 0 → ⊥) → length (decimal_in k n) ≡ length (digits_of k n)
some_digits k n some = rw (ne_eqb n 0 some)

-- the last digit, and those before it
last_place : (k n : ℕ) → 1 ≤ k → length (decimal_in k n) ≡ length (digits_of (k - 1) (n / 10)) + 1
last_place k n h = go (eqb n 0) refl
  where
    go : (b : Bool) → eqb n 0 ≡ b → length (cond b (48 ∷ []) (digits_of k n)) ≡ length (digits_of (k - 1) (n / 10)) + 1
    go true e = let z : n / 10 ≡ 0 = omega (arith, eqb-true n 0 e) in ap (λ (k : ℕ). k + 1) (sym (ap (λ (m : ℕ). length (digits_of (k - 1) m)) z ∙ none_left (k - 1)))
    go false e = one_more k n h (eqb-false n 0 e)

-- one digit more than what stands above the last one, where something does
place_more : (k n : ℕ) → 1 ≤ k → 10 ≤ n → length (decimal_in k n) ≡ length (decimal_in (k - 1) (n / 10)) + 1
place_more k n h some = omega (arith, last_place k n h, some_digits (k - 1) (n / 10) (λ z. omega arith))

tens_some : (j : ℕ) → 1 ≤ tens j
unfolding tens
tens_some zero = omega arith
tens_some (suc j) = omega (arith, tens_some j)

-- j of the digits counted at once, where there are more
pub places_turn : (j k n : ℕ) → j ≤ k → tens j ≤ n → length (decimal_in k n) ≡ length (decimal_in (k - j) (n / tens j)) + j
unfolding tens
places_turn zero k n h some =
    let q : k - 0 ≡ k = omega arith in
    let x : length (decimal_in (k - 0) (n / tens 0)) ≡ length (decimal_in k n) = ap (λ (i : ℕ). length (decimal_in i (n / 1))) q ∙ ap (λ (m : ℕ). length (decimal_in k m)) (div-one n) in
    omega (arith, x)
places_turn (suc j) k n h some =
    let t : ℕ = tens j in
    let q : k - 1 - j ≡ k - suc j = omega arith in
    let x = place_more k n (omega arith) (omega (arith, tens_some j)) in
    let y = places_turn j (k - 1) (n / 10) (omega arith) (omega arith) in
    let z = ap (λ (i : ℕ). length (decimal_in i (n / 10 / t))) q ∙ ap (λ (m : ℕ). length (decimal_in (k - suc j) m)) (div-div-eq-div-mul n 10 t) in
    omega (arith, x, y, z)

pub one_place : (k n : ℕ) → 1 ≤ k → n < 10 → length (decimal_in k n) ≡ 1
one_place k n h l =
    let z : n / 10 ≡ 0 = omega arith in
    omega (arith, last_place k n h, ap (λ (m : ℕ). length (digits_of (k - 1) m)) z, none_left (k - 1))

-- a number that has a digit for every place fills them
pub all_places : (j n : ℕ) → tens j ≤ n → length (decimal_in (suc j) n) ≡ suc j
all_places j n some =
    let q : suc j - j ≡ 1 = omega arith in
    let m : ℕ = n / tens j in
    omega (arith, places_turn j (suc j) n (omega arith) some, ap (λ (i : ℕ). length (decimal_in i m)) q, last_place 1 m (omega arith), no_place (m / 10))

-- more places than a number has digits make no difference
pub enough_places : (j k n : ℕ) → suc j ≤ k → n < tens (suc j) → length (decimal_in k n) ≡ length (decimal_in (suc j) n)
unfolding tens
enough_places zero k n h l = one_place k n h (omega arith) ∙ sym (one_place 1 n (omega arith) (omega arith))
enough_places (suc j) k n h l = go (ltb n 10) refl (enough_places j (k - 1) (n / 10) (omega arith) (omega arith))
  where
    go : (b : Bool) → ltb n 10 ≡ b → length (decimal_in (k - 1) (n / 10)) ≡ length (decimal_in (suc j) (n / 10)) → length (decimal_in k n) ≡ length (decimal_in (suc (suc j)) n)
    go true e ih = let x = ltb-true n 10 e in one_place k n (omega arith) x ∙ sym (one_place (suc (suc j)) n (omega arith) x)
    go false e ih =
        let x = ltb-false n 10 e in
        let q : suc (suc j) - 1 ≡ suc j = omega arith in
        omega (arith, ih, place_more k n (omega arith) x, place_more (suc (suc j)) n (omega arith) x, ap (λ (i : ℕ). length (decimal_in i (n / 10))) q)

pub exactly : (j k n : ℕ) → suc j ≤ k → tens j ≤ n → n < tens (suc j) → length (decimal_in k n) ≡ suc j
exactly j k n h some l = enough_places j k n h l ∙ all_places j n some

tens_power : (k : ℕ) → tens k ≡ 10 ^ k
unfolding tens
tens_power zero = refl
tens_power (suc k) = ap (λ (m : ℕ). 10 * m) (tens_power k) ∙ sym (pow-succ' 10 k)

-- one digit more than the greatest power of ten that the number reaches; 0 counts as 1 there
pub log-places : (k n : ℕ) → k < 20 → 10 ^ k ≤ max 1 n → max 1 n < 10 * 10 ^ k → k + 1 ≡ length (decimal n)
unfolding tens
log-places zero n h low high = sym (one_place 20 n (omega arith) (omega arith))
log-places (suc k) n h low high =
    let p = tens_power (suc k) in
    let some : 10 ≤ tens (suc k) = omega (arith, tens_some k) in
    omega (arith, exactly (suc k) 20 n (omega arith) (omega (arith, p, some)) (omega (arith, p)))

-- a number of 64 bits has at most twenty digits, as is its definition's bound
digits_most : (k n : ℕ) → length (digits_of k n) ≤ k
unfolding digits_of
digits_most zero n = omega arith
digits_most (suc k) n = go (eqb n 0) (digits_most k (n / 10))
  where
    go : (b : Bool) → length (digits_of k (n / 10)) ≤ k → length (cond b [] (digits_of k (n / 10) ++ (48 + n % 10) ∷ [])) ≤ suc k
    go true ih = omega arith
    go false ih = omega (arith, length-append (digits_of k (n / 10)) ((48 + n % 10) ∷ []))

pub places_most : (n : ℕ) → length (decimal n) ≤ 20
places_most n = omega (arith, last_place 20 n (omega arith), digits_most 19 (n / 10))

-- ---- storing them, the last one first

pub last_length : (k n : ℕ) → length (last_digits k n) ≡ k
last_length zero n = refl
last_length (suc k) n = length-append (last_digits k (n / 10)) ((48 + n % 10) ∷ []) ∙ omega (arith, last_length k (n / 10))

digits_fill : (k n : ℕ) → last_digits (length (digits_of k n)) n ≡ digits_of k n
unfolding digits_of
digits_fill zero n = refl
digits_fill (suc k) n = go (eqb n 0) (digits_fill k (n / 10))
  where
    go : (b : Bool) → last_digits (length (digits_of k (n / 10))) (n / 10) ≡ digits_of k (n / 10)
        → last_digits (length (cond b [] (digits_of k (n / 10) ++ (48 + n % 10) ∷ []))) n ≡ cond b [] (digits_of k (n / 10) ++ (48 + n % 10) ∷ [])
    go true ih = refl
    go false ih =
        let d : List ℕ = (48 + n % 10) ∷ [] in
        let q : length (digits_of k (n / 10) ++ d) ≡ suc (length (digits_of k (n / 10))) = length-append (digits_of k (n / 10)) d ∙ omega arith in
        ap (λ (m : ℕ). last_digits m n) q ∙ ap (λ (l : List ℕ). l ++ d) ih

-- a number fills its places
pub decimal_fills : (n : ℕ) → last_digits (length (decimal n)) n ≡ decimal n
decimal_fills n = go (eqb n 0) refl
  where
    go : (b : Bool) → eqb n 0 ≡ b → last_digits (length (cond b (48 ∷ []) (digits_of 20 n))) n ≡ cond b (48 ∷ []) (digits_of 20 n)
    go true e = ap (last_digits 1) (eqb-true n 0 e)
    go false e = digits_fill 20 n

-- where there is a place for each, the digits of a number are stored
pub decimal_stored : (out after : List ℕ) (n at end : ℕ) → end ≡ at + length (decimal n) → DigitsPromise n out at end after → CopyPromise (decimal n) out at after
decimal_stored out after n at end e p =
    let k : end - at ≡ length (decimal n) = omega arith in
    p ∙ ap (λ (m : ℕ). copied (last_digits m n) out at) k ∙ ap (λ (l : List ℕ). copied l out at) (decimal_fills n)

-- what the output becomes: the digits that are still to come, before those that stand
abbrev pub standing : List ℕ → ℕ → ℕ → ℕ → List ℕ
standing out at i rest = take at out ++ last_digits (i - at) rest ++ drop i out

-- one turn: the last digit of what is left is stored before the digits that stand
pub digit_turn : (out : List ℕ) (at i rest : ℕ) → at < i → i ≤ length out → standing (set out (i - 1) (48 + rest % 10)) at (i - 1) (rest / 10) ≡ standing out at i rest
digit_turn out at zero rest less fits = absurd (omega arith)
digit_turn out at (suc j) rest less fits =
    let d : ℕ = 48 + rest % 10 in
    let k : ℕ = j - at in
    let q : suc j - 1 ≡ j = omega arith in
    let p : suc j - at ≡ suc k = omega arith in
    let front : List ℕ = take at out in
    let some : List ℕ = last_digits k (rest / 10) in
    let stored : drop j (set out j d) ≡ d ∷ drop (suc j) out =
    ap (drop j) (set_split out j d (omega arith)) ∙ drop_at (take j out) (d ∷ drop (suc j) out) j (length-take-le j out (omega arith)) in
    rw (q, p, take-set-le at out j d (omega arith), stored)
    (sym (append_snoc (front ++ some) d (drop (suc j) out)) ∙ ap (λ (l : List ℕ). l ++ drop (suc j) out) (append_assoc front some (d ∷ [])))

-- nothing is still to come
pub digits_stand : (out : List ℕ) (at rest : ℕ) → standing out at at rest ≡ out
digits_stand out at rest = let z : at - at ≡ 0 = omega arith in rw z (ap (λ (l : List ℕ). l ++ drop at out) (append-nil (take at out)) ∙ take-append-drop at out)

-- digits that do not fit, or none, leave the output as it is
pub none_stored : (out : List ℕ) (n at end : ℕ) → end < at → out ≡ copied (last_digits (end - at) n) out at
none_stored out n at end h =
    let z : end - at ≡ 0 = omega arith in
    sym (ap (λ (k : ℕ). copied (last_digits k n) out at) z ∙ copied-nothing out at)

pub unfit_stored : (out : List ℕ) (n at end : ℕ) → length out < end → out ≡ copied (last_digits (end - at) n) out at
unfit_stored out n at end h = sym (simp (lt-leb (at + length (last_digits (end - at) n)) (length out) (omega (arith, last_length (end - at) n))))

-- ---- what is printed reads as the number

read_last : (n : ℕ) (l : List ℕ) (d : ℕ) → read_from n (l ++ d ∷ []) ≡ read_from n l * 10 + (d - 48)
read_last n [] d = refl
read_last n (x ∷ l) d = read_last (n * 10 + (x - 48)) l d

digits_read : (k n : ℕ) → n < tens k → read_from 0 (digits_of k n) ≡ n
unfolding digits_of tens
digits_read zero n h = omega arith
digits_read (suc k) n h = go (eqb n 0) refl (digits_read k (n / 10))
  where
    go : (b : Bool) → eqb n 0 ≡ b → (n / 10 < tens k → read_from 0 (digits_of k (n / 10)) ≡ n / 10) → read_from 0 (cond b [] (digits_of k (n / 10) ++ (48 + n % 10) ∷ [])) ≡ n
    go true e ih = sym (eqb-true n 0 e)
    go false e ih =
        let t : ℕ = tens k in
        let x = ih (omega arith) in
        read_last 0 (digits_of k (n / 10)) (48 + n % 10) ∙ ap (λ (m : ℕ). m * 10 + (48 + n % 10 - 48)) x ∙ omega arith

-- a number below 10 to the 20th, as every number of 64 bits is
pub decimal-reads : (n : ℕ) → n < tens 20 → read_from 0 (decimal n) ≡ n
decimal-reads n h = go (eqb n 0) refl
  where
    go : (b : Bool) → eqb n 0 ≡ b → read_from 0 (cond b (48 ∷ []) (digits_of 20 n)) ≡ n
    go true e = sym (eqb-true n 0 e)
    go false e = digits_read 20 n h

pub hex_reads : (d : ℕ) → d < 16 → hex_value (hex_digit d) ≡ d
hex_reads d h = go (ltb d 10) refl
  where
    go : (b : Bool) → ltb d 10 ≡ b → hex_value (cond b (48 + d) (55 + d)) ≡ d
    go true e = simp (lt-ltb (48 + d) 58 (omega (arith, ltb-true d 10 e))) (omega arith)
    go false e = simp (le-ltb (55 + d) 58 (omega (arith, ltb-false d 10 e))) (omega arith)
