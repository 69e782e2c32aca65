-- What the writer wrote is read as the old records and the new one; a readable area, taken apart and appended again one record at a time, is the same bytes; and no second answer. Assumes nothing.
use Rattle.std.specs.Prelude.{ℕ, ◌+◌, ◌≤◌, ◌≡◌, refl, Bool, false, cond, List, [], ◌∷◌, ◌++◌, length, take, drop, ltb, Result, Ok, Err}
use Rattle.std.proofs.Common.{arith, sym, ap, subst, ◌∙◌, append_assoc, append-nil, length-append, take_at, le-ltb, ltb-false}
use Rattle.wire.specs.Told.{done, Check, ◌⇒◌, verdict, lent}
use Rattle.wire.specs.ToldLaws.{holds, goes_on, let_pass}
use Rattle.wire.specs.Writing.{onto, room}
use Rattle.wire.specs.Writing as Writing
use Rattle.wire.specs.WritingLaws as WritingLaws
use Rattle.wire.specs.declared.refusals.Refusal.TheVariants.{PayloadTooLarge, InvalidAdditionalInfo}
use Rattle.wire.specs.Told.{Verdict}
use Rattle.additional_info.specs.InfoType.{code_of, type_of}
use Rattle.additional_info.specs.InfoTypeLaws.{code_back}
use Rattle.additional_info.specs.Area.{Info, layout, row, Readable, all_in, unfilled, area_check}
use Rattle.additional_info.specs.WalkLaws.{is_readable, readable_passes, fills_one}
use Rattle.additional_info.specs.Appending.{area_checks, checks, appended, AppendPromise}
use Rattle.additional_info.specs.declared.info_type.AdditionalInfoType.{AdditionalInfoType}
use Rattle.wire.specs.declared.refusals.Refusal.{Refusal}

-- ---- rows

pub row-append : (is js : List Info) → row (is ++ js) ≡ row is ++ row js
row-append [] js = refl
row-append (i ∷ is) js = ap (λ (l : List ℕ). layout i ++ l) (row-append is js) ∙ sym (append_assoc (layout i) (row is) (row js))

-- the empty area has no record, and is readable
pub empty_readable : Readable []
empty_readable = record { records = []; fills = refl }

-- one record more behind a readable area
unfoldable pub one_behind : (s : List ℕ) (i : Info) → Readable s → Readable (appended s i)
one_behind s i x = record {
  records = x.records ++ i ∷ [];
  fills = ap (λ (l : List ℕ). l ++ layout i) x.fills ∙ ap (λ (l : List ℕ). row x.records ++ l) (sym (append-nil (layout i))) ∙ sym (row-append x.records (i ∷ []));
}

-- the length of a new area
appended-length : (s : List ℕ) (i : Info) → length (appended s i) ≡ length s + (2 + length i.«data»)
appended-length s i = length-append s (layout i) ∙ omega arith

-- ---- what was written

-- the first check is that the old area is readable
pub old_readable : (s : List ℕ) (n : ℕ) (ds : List Check) → verdict (area_checks s n ++ ds) ≡ Ok tt → Readable s
old_readable s n ds q =
    let passed : unfilled s ≡ false = holds [] (unfilled s) InvalidAdditionalInfo (ltb 255 (length s + n) ⇒ PayloadTooLarge ∷ ds) q in
    is_readable s (ap (λ (x : Bool). cond x (Err InvalidAdditionalInfo) (Ok tt)) passed)

-- a readable area that fits its length byte passes
area-fits : (s : List ℕ) (n : ℕ) → verdict (area_check s ∷ []) ≡ Ok tt → length s + n ≤ 255 → verdict (area_checks s n) ≡ Ok tt
area-fits s n q most = goes_on (area_check s ∷ []) (ltb 255 (length s + n) ⇒ PayloadTooLarge ∷ []) q ∙ simp (le-ltb 255 (length s + n) most)

-- what passes fits its length byte
pub most_255 : (s : List ℕ) (n : ℕ) → verdict (area_checks s n) ≡ Ok tt → length s + n ≤ 255
most_255 s n q = ltb-false 255 (length s + n) (holds (area_check s ∷ []) (ltb 255 (length s + n)) PayloadTooLarge [] q)

accepted : (s : List ℕ) (n m : ℕ) → Readable s → length s + (2 + n) ≤ 255 → length s + (2 + n) ≤ m → verdict (checks s n m) ≡ Ok tt
accepted s n m x most fits = goes_on (area_checks s (2 + n)) (room (length s + (2 + n)) m ∷ []) (area-fits s (2 + n) (readable_passes s x) most) ∙ simp (le-ltb m (length s + (2 + n)) fits)

-- three pieces that were written are the area, the record's head and its data
pub piece_by_piece : (s : List ℕ) (t : AdditionalInfoType) (d head b : List ℕ) (r : Result ℕ Refusal) (after : List ℕ)
    → head ≡ code_of t ∷ length d ∷ [] → verdict (area_checks s (2 + length d)) ≡ Ok tt → Writing.Write3Promise s head d b r after → AppendPromise s t d b r after
piece_by_piece s t d head b r after e q p =
    let i : Info = record { code = code_of t; «data» = d } in
    let whole : s ++ head ++ d ≡ appended s i = ap (λ (l : List ℕ). s ++ l ++ d) e ∙ append_assoc s (code_of t ∷ length d ∷ []) d in
    WritingLaws.pieces (area_checks s (2 + length d)) s head d (appended s i) b (length s + (2 + length d)) r after q whole (appended-length s i) p

-- the area that stands at the buffer's start
pub record Wrote (s : List ℕ) (i : Info) (w : List ℕ) : Type 0 where
  pub copied : w ≡ appended s i
  pub readable : Readable w
  pub records : all_in w ≡ all_in s ++ i ∷ []

pub wrote : (s : List ℕ) (t : AdditionalInfoType) (d b : List ℕ) (n : ℕ) (after : List ℕ) → AppendPromise s t d b (Ok n) after → Wrote s (record { code = code_of t; «data» = d }) (take n after)
unfolding one_behind
wrote s t d b n after p =
    let i : Info = record { code = code_of t; «data» = d } in
    let w : List ℕ = appended s i in
    let cs : List Check = checks s (length d) (length b) in
    let x : Readable s = old_readable s (2 + length d) (room (length s + (2 + length d)) (length b) ∷ []) (WritingLaws.was_written cs w b n after p) in
    let o = WritingLaws.wrote cs w b n after p in
    let e : take n after ≡ w = ap (take n) o.bytes ∙ take_at w (drop (length w) b) n (sym o.count) in
    let y : Readable w = one_behind s i x in
    record {
      copied = e;
      readable = subst Readable (sym e) y;
      records = ap all_in e ∙ fills_one w y ∙ ap (λ (l : List Info). l ++ i ∷ []) (sym (fills_one s x));
    }

-- and wherever 02 lets it, that is written
pub appends : (s : List ℕ) (t : AdditionalInfoType) (d b : List ℕ) → Readable s → length s + (2 + length d) ≤ 255 → length s + (2 + length d) ≤ length b
    → (Writing.tells (checks s (length d) (length b)) (appended s (record { code = code_of t; «data» = d })) ≡ done ((length s + (2 + length d)) ∷ []))
    × Wrote s (record { code = code_of t; «data» = d }) (take (length s + (2 + length d)) (Writing.leaves (checks s (length d) (length b)) (appended s (record { code = code_of t; «data» = d })) b))
appends s t d b x most fits =
    let i : Info = record { code = code_of t; «data» = d } in
    let w : List ℕ = appended s i in
    let cs : List Check = checks s (length d) (length b) in
    let n : ℕ = length s + (2 + length d) in
    let told : Writing.tells cs w ≡ done (n ∷ []) = let_pass cs (done (length w ∷ [])) (accepted s (length d) (length b) x most fits) ∙ ap (λ (k : ℕ). done (k ∷ [])) (appended-length s i) in
    (told, wrote s t d b n (Writing.leaves cs w b) (sym told, refl))

-- ---- taken apart, and appended again

-- the records appended one after another: whatever buffers are lent that have room for m bytes, the writer answers each time, and what it wrote is the area of the next call; in the end it is the whole
abbrev pub Rebuilt : ℕ → List ℕ → List Info → List ℕ → Type 0
Rebuilt m s [] whole = s ≡ whole
Rebuilt m s (i ∷ is) whole =
    (b : List ℕ) → m ≤ length b → (r : Result ℕ Refusal) (after : List ℕ) → AppendPromise s (type_of i.code) i.«data» b r after
    → (n : ℕ) × (r ≡ Ok n) × Rebuilt m (take n after) is whole

builds-on : (is : List Info) (s whole : List ℕ) → Readable s → s ++ row is ≡ whole → length whole ≤ 255 → Rebuilt (length whole) s is whole
builds-on [] s whole x e most = sym (append-nil s) ∙ e
builds-on (i ∷ is) s whole x e most = λ b fits r after p.
    let j : Info = record { code = code_of (type_of i.code); «data» = i.«data» } in
    let same : j ≡ i = ap (λ (c : ℕ). record { code = c; «data» = i.«data» }) (code_back i.code) in
    let w : List ℕ = appended s j in
    let cs : List Check = checks s (length i.«data») (length b) in
    let on : w ++ row is ≡ whole = ap (λ (k : Info). appended s k ++ row is) same ∙ append_assoc s (layout i) (row is) ∙ e in
    let long : length w + length (row is) ≡ length whole = sym (length-append w (row is)) ∙ ap length on in
    let new : length w ≡ length s + (2 + length i.«data») = appended-length s j in
    let passes : verdict cs ≡ Ok tt = accepted s (length i.«data») (length b) x (omega arith) (omega arith) in
    let told : Writing.told r ≡ done (length w ∷ []) = p.0 ∙ let_pass cs (done (length w ∷ [])) passes in
    let stands : after ≡ onto b w = p.1 ∙ ap (λ (v : Verdict). lent v b (onto b w)) passes in
    let front : take (length w) after ≡ w = ap (take (length w)) stands ∙ take_at w (drop (length w) b) (length w) refl in
    (length w, WritingLaws.told_one r (Ok (length w)) told, subst (λ (l : List ℕ). Rebuilt (length whole) l is whole) (sym front) (builds-on is w whole (one_behind s j x) on most))

-- "Every readable area up to 255 bytes, read and written again, is the same bytes"
pub rebuilds : (s : List ℕ) → Readable s → length s ≤ 255 → Rebuilt (length s) [] (all_in s) s
rebuilds s x most = builds-on (all_in s) [] s empty_readable (ap row (fills_one s x) ∙ sym x.fills) most

-- ---- no second answer

pub append_one : (s : List ℕ) (t : AdditionalInfoType) (d b : List ℕ) (r q : Result ℕ Refusal) (after later : List ℕ)
    → AppendPromise s t d b r after → AppendPromise s t d b q later → (r ≡ q) × (after ≡ later)
append_one s t d b = WritingLaws.writes_one (checks s (length d) (length b)) (appended s (record { code = code_of t; «data» = d })) b
