-- The data by the fields that were parsed is the frame's data, and so is that of what `parse_in` borrows. Proved over how L counts. Assumes nothing.
use Rattle.std.specs.Prelude.{ℕ, ◌+◌, ◌-◌, ◌≤◌, ◌<◌, ◌≡◌, refl, Bool, true, false, List, [], length, get_or, take, drop, Result, Ok, Err}
use Rattle.std.proofs.Common.{arith, sym, ap, ◌∙◌, length-drop, take_all, length-take-le, lt-ltb, le-ltb}
use Rattle.wire.specs.Told.{done, refused, viewed, judged}
use Rattle.wire.specs.ToldLaws.{same, let_pass, let_refuse, was_accepted, was_refused, is_true}
use Rattle.wire.specs.Places.{standing}
use Rattle.wire.specs.PlaceLaws.{stands-accepted}
use Rattle.wire.specs.Layout.{get}
use Rattle.wire.specs.Parts.{shown}
use Rattle.wire.specs.Parts as Parts
use Rattle.wire.specs.PartLaws.{part_is}
use Rattle.wire.specs.Refusing.{Refusing, refused-zeros, judged-refusing}
use Rattle.wire.specs.declared.parts.View.{View}
use Rattle.pci.specs.Transport.{is_data}
use Rattle.wire.specs.declared.refusals.Fault.{Fault}
use Rattle.wire.specs.declared.refusals.Refusal.TheVariants.{InvalidFrame}
use Rattle.wire.specs.Places.{Standing}
use Rattle.ldata.specs.Count.{Count, start_of, count_by}
use Rattle.ldata.specs.CountLaws.{lawful}
use Rattle.ldata.specs.LData.{fields, length_in, tpci_in, data_byte}
use Rattle.ldata.specs.LData as LData
use Rattle.ldata.specs.LDataLaws as LDataLaws
use Rattle.ldata.specs.declared.count.Counting.{Counting}
use Rattle.ldata.specs.declared.ldata.LDataFields.{LDataFields}
use Rattle.borrowed.specs.Borrowed.{empty_part}
use Rattle.borrowed.specs.LDataFrame.{data_in_count, DataInCountPromise, ParseInPromise, borrowed_checks, view_in, DataViewInPromise, data_of_in, FrameDataInPromise}
use Rattle.borrowed.specs.declared.ldata_frame.LDataFrame.{LDataFrame}

pub fields_data : (c : Counting) (s : List ℕ) (f : LDataFields) → LData.ParseInPromise c s (Ok f) → shown s (LData.data_by01 (count_by c) f s) ≡ data_in_count (count_by c) s
fields_data c s f p = ap (shown s) (LDataLaws.data_read (count_by c) s f p)

-- a refused frame has none
pub refused_data : (c : Counting) (s : List ℕ) (e : Fault) → LData.ParseInPromise c s (Err e) → data_in_count (count_by c) s ≡ []
refused_data c s e p =
    let C = count_by c in
    ap (shown s) (let_refuse (LData.byte_checks C s) (viewed (start_of (data_byte (tpci_in (get fields 0 s)))) (C.end_of (length_in (get fields 0 s)))) e.why (was_refused (LData.byte_checks C s) (done (LData.values_in C s)) 9 e refl p))
    ∙ empty_part s

-- ---- the checks over what is borrowed, by the numbers that they compare

pub start_most : (d : Bool) → start_of d ≤ 9
start_most true = omega arith
start_most false = omega arith

-- refused at L
abbrev pub at_length : Fault
at_length = record { why = InvalidFrame; at = 6 }

module _ (C : Count) (d : Bool) (l n : ℕ) where
  abbrev said : Standing
  said = standing (drop 1 (LData.checks C n d l)) LData.length_offsets

  pub borrowed_short : n < C.end_of l → said ≡ Err at_length
  borrowed_short h = LDataLaws.last_two C n d l ∙ simp (lt-ltb n (C.end_of l) h)

  pub borrowed_barred : C.end_of l ≤ n → C.allowed d l ≡ false → said ≡ Err at_length
  borrowed_barred k h = LDataLaws.last_two C n d l ∙ simp (le-ltb n (C.end_of l) k, h)

  pub borrowed_stands : C.end_of l ≤ n → C.allowed d l ≡ true → said ≡ Ok tt
  borrowed_stands k h = LDataLaws.last_two C n d l ∙ simp (le-ltb n (C.end_of l) k, h)

-- ---- what parsing borrows is handed out whole

whole : (C : Count) (d : Bool) (l : ℕ) (s : List ℕ) → start_of d ≤ C.end_of l → C.allowed d l ≡ true → length s ≡ C.end_of l - start_of d
    → shown s (judged (drop 1 (LData.checks C (start_of d + length s) d l)) (viewed 0 (C.end_of l - start_of d))) ≡ s
whole C d l s starts fits n =
    let e = C.end_of l - start_of d in
    ap (shown s) (let_pass (drop 1 (LData.checks C (start_of d + length s) d l)) (viewed 0 e) (stands-accepted (drop 1 (LData.checks C (start_of d + length s) d l)) LData.length_offsets (borrowed_stands C d l (start_of d + length s) (omega arith) fits))) ∙ part_is s 0 e (omega arith) (omega arith) ∙ take_all (e - 0) s (omega arith)

borrowed_whole : (c : Counting) (s : List ℕ) (f : LDataFields) → LData.ParseInPromise c s (Ok f) → data_of_in (count_by c) (Ok f) (data_in_count (count_by c) s) ≡ data_in_count (count_by c) s
borrowed_whole c s f p =
    let C = count_by c in
    let d = data_byte (get_or s 7 0) in
    let l = get_or s 6 0 in
    let e = C.end_of l in
    let st = LDataLaws.stands C s f p in
    let fits : C.allowed d l ≡ true = is_true (C.allowed d l) st.fits in
    let starts : start_of d ≤ e = (lawful c).starts d l fits in
    let part : List ℕ = data_in_count C s in
    let of : Bool → ℕ → List ℕ = λ b k. shown part (judged (drop 1 (LData.checks C (start_of b + length part) b k)) (viewed 0 (C.end_of k - start_of b))) in
    let there : part ≡ take (e - start_of d) (drop (start_of d) s) =
    ap (shown s) (let_pass (LData.byte_checks C s) (viewed (start_of d) e) (was_accepted (LData.byte_checks C s) (done (LData.values_in C s)) (LData.told (Ok f)) refl p))
    ∙ part_is s (start_of d) e starts st.reaches in
    let long : length part ≡ e - start_of d =
    ap length there ∙ length-take-le (e - start_of d) (drop (start_of d) s) (simp length-drop (omega (arith, st.reaches, starts))) in
    ap (λ (b : Bool). of b f.npdu_length) (LDataLaws.kind_read C s f p)
    ∙ ap (of d) (ap (λ (vs : List ℕ). get_or vs 4 0) (LDataLaws.read C s f p))
    ∙ whole C d l part starts fits long

data_of : (c : Counting) (s : List ℕ) (a : Result LDataFields Fault) (borrowed : List ℕ) → borrowed ≡ data_in_count (count_by c) s → LData.ParseInPromise c s a → data_of_in (count_by c) a borrowed ≡ data_in_count (count_by c) s
data_of c s (Ok f) borrowed h p = ap (data_of_in (count_by c) (Ok f)) h ∙ borrowed_whole c s f p
data_of c s (Err e) borrowed h p = empty_part borrowed ∙ sym (refused_data c s e p)

pub data_in_lem : (c : Counting) (s : List ℕ) (f : LDataFrame) (r : List ℕ) → ParseInPromise c s f → FrameDataInPromise c f r → DataInCountPromise c s r
data_in_lem c s f r p q = q ∙ data_of c s f.answer f.«data».now p.0 p.1

-- ---- refused

-- a parse that refuses borrows none
pub borrows_none : (c : Counting) (s : List ℕ) (f : LDataFrame) (e : Fault) → ParseInPromise c s f → f.answer ≡ Err e → f.«data».now ≡ []
borrows_none c s f e p q = p.0 ∙ refused_data c s e (sym (ap LData.told q) ∙ p.1)

-- and of a refused record, whoever made it, no byte is data
pub data_none : (c : Counting) (f : LDataFrame) (e : Fault) (r : List ℕ) → f.answer ≡ Err e → FrameDataInPromise c f r → r ≡ []
data_none c f e r q p = p ∙ ap (λ (a : Result LDataFields Fault). data_of_in (count_by c) a f.«data».now) q ∙ empty_part f.«data».now

-- the view of a refused record tells that refusal
pub view_none : (c : Counting) (s : List ℕ) (a : Result LDataFields Fault) (e : Fault) (r : Result View Fault) → a ≡ Err e → DataViewInPromise c s a r → Parts.told r ≡ refused 0 e
view_none c s a e r q p = p ∙ ap (λ (b : Result LDataFields Fault). view_in (count_by c) b s) q

-- a view that is refused tells its number and no more
pub view_refusing : (c : Counting) (s : List ℕ) (a : Result LDataFields Fault) (r : Result View Fault) → DataViewInPromise c s a r → Refusing (Parts.told r)
view_refusing c s (Ok f) r p = judged-refusing (borrowed_checks (count_by c) f (length s)) (viewed 0 ((count_by c).end_of f.npdu_length - start_of (is_data f.tpci))) (Parts.told r) refl p
view_refusing c s (Err e) r p = λ _. rw p (refused-zeros 0 e)

-- and the part of such a view is empty
pub data_refused : (c : Counting) (f : LDataFrame) (v : Result View Fault) (e : Fault) (r : List ℕ) → DataViewInPromise c f.«data».now f.answer v → FrameDataInPromise c f r → v ≡ Err e → r ≡ []
data_refused c f v e r p q n = q ∙ ap (shown f.«data».now) (sym p) ∙ ap (λ (w : Result View Fault). shown f.«data».now (Parts.told w)) n ∙ empty_part f.«data».now

-- ---- no second answer: a part is settled by its bytes

pub parse_one : (c : Counting) (s : List ℕ) (r q : LDataFrame) → ParseInPromise c s r → ParseInPromise c s q → (r.«data».now ≡ q.«data».now) × (r.answer ≡ q.answer)
parse_one c s r q a b = (same a.0 b.0, LDataLaws.parse_one c s r.answer q.answer a.1 b.1)
