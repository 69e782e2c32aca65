-- A cEMI frame: how its accessors go on from the parse's checks, that what is accepted has the layout, and no second answer. Assumes nothing.
use Rattle.std.specs.Prelude.{ℕ, suc, ◌+◌, ◌<◌, ◌≤◌, ◌≡◌, refl, Bool, true, false, cond, not, ltb, List, [], ◌∷◌, ◌++◌, length, get_or, take, Result, Ok, Err}
use Rattle.std.proofs.Common.{arith, sym, ap, ◌∙◌, lt-ltb, le-ltb}
use Rattle.wire.specs.Clash.{never}
use Rattle.wire.specs.Told.{Told, Check, done, verdict, judged}
use Rattle.wire.specs.Places.{standing, later_fault, later}
use Rattle.wire.specs.PlaceLaws.{all_at_0, judged-nowhere, stands_on, falls_still, stands-later, stands-accepted, accepted-stands, located_pass, located_fall, was_fallen, fault_within}
use Rattle.wire.specs.Coding.{check}
use Rattle.wire.specs.ToldLaws.{goes_on, was_accepted, let_through, same, one_to_one, answer_of, back_refused}
use Rattle.wire.specs.Layout.{put}
use Rattle.wire.specs.LayoutLaws.{Bytes}
use Rattle.wire.specs.FormatLaws as FormatLaws
use Rattle.wire.specs.PartLaws as PartLaws
use Rattle.wire.specs.declared.parts.View.{View}
use Rattle.wire.specs.declared.refusals.Fault.{Fault}
use Rattle.wire.specs.declared.refusals.Refusal.TheVariants.{InvalidFrame, InvalidMessageCode}
use Rattle.wire.specs.Places.{Standing}
use Rattle.constants.specs.MessageCodes.{message_codes, code_of, message_of}
use Rattle.constants.specs.MessageCodeLaws as MessageCodeLaws
use Rattle.constants.specs.declared.message_codes.CEMIMessageCode.{CEMIMessageCode}
use Rattle.ldata.specs.Count.{Count}
use Rattle.ldata.specs.LData.{values_in, byte_checks}
use Rattle.ldata.specs.LData as LData
use Rattle.ldata.specs.LDataLaws as LDataLaws
use Rattle.ldata.specs.declared.count.Counting.{Counting}
use Rattle.ldata.specs.declared.ldata.LDataFields.{LDataFields}
use Rattle.cemi.specs.Cemi.{fields, format, code_in, info_length, checks, offsets, told, parse_where, ParsePromise, told_length, InfoLengthPromise, info_check, info_offset, ServiceStartPromise, ServiceInfoPromise, is_ldata, service_info, ldata_checks, ldata_offsets, rest_offsets, as_ldata_where, AsLDataInPromise}
use Rattle.cemi.specs.declared.CEMIFrame.{CEMIFrame}

-- ---- the two checks of a parse

-- of two bytes or more the code decides, at 0
pub by_code : (s : List ℕ) → 2 ≤ length s → judged (check message_codes (code_in s) ∷ []) (done (code_in s ∷ [])) ≡ parse_where s
by_code s two =
    let cs : List Check = check message_codes (code_in s) ∷ [] in
    let t : Told = done (code_in s ∷ []) in
    sym (all_at_0 cs (0 ∷ []) (judged cs t) (omega arith, omega arith) (judged-nowhere cs t refl)) ∙ simp (le-ltb (length s) 2 two)

pub stood : (s : List ℕ) (f : CEMIFrame) → ParsePromise s (Ok f) → verdict (checks s) ≡ Ok tt
stood s f p = was_accepted (checks s) (done (code_in s ∷ [])) (told (Ok f)) refl p

pub fell : (s : List ℕ) (e : Fault) → ParsePromise s (Err e) → standing (checks s) (offsets s) ≡ Err e
fell s e p = was_fallen (checks s) (offsets s) (done (code_in s ∷ [])) 1 e refl p

-- ---- on from them

-- additional information past the end is told at its length, a code that is not L_Data at 0
abbrev pub past_end : Fault
past_end = record { why = InvalidFrame; at = info_offset }

abbrev pub other_code : Fault
other_code = record { why = InvalidMessageCode; at = 0 }

-- the length of the additional information decides; a is that length as it was read
pub too_short : (s : List ℕ) (a : ℕ) → a ≡ info_length s → length s < 2 + a → standing (info_check s ∷ []) (info_offset ∷ []) ≡ Err past_end
too_short s a e h = simp (lt-ltb (length s) (2 + info_length s) (omega (arith, e)))

pub long_enough : (s : List ℕ) (a : ℕ) → a ≡ info_length s → 2 + a ≤ length s → verdict (info_check s ∷ []) ≡ Ok tt
long_enough s a e h = simp (le-ltb (length s) (2 + info_length s) (omega (arith, e)))

pub start-told : (s : List ℕ) (n : ℕ) → ServiceStartPromise s (Ok n) → (n ≡ 2 + info_length s) × (verdict (info_check s ∷ []) ≡ Ok tt)
start-told s n p = go (ltb (length s) (2 + info_length s)) refl p
  where
    go : (b : Bool) → ltb (length s) (2 + info_length s) ≡ b → Ok n ≡ cond b (Err past_end) (Ok (2 + info_length s))
        → (n ≡ 2 + info_length s) × (verdict (info_check s ∷ []) ≡ Ok tt)
    go true h q = never cc
    go false h q = (cc, simp h)

-- an offset for each check, whatever the count's order
pub rest_each : (C : Count) (s : List ℕ) → length (LData.offsets (length (service_info s))) ≡ length (byte_checks C (service_info s))
rest_each C s = LDataLaws.one_each C (length (service_info s)) (LData.data_byte (get_or (service_info s) 7 0)) (get_or (service_info s) 6 0)

pub all_each : (C : Count) (f : CEMIFrame) (s : List ℕ) → length (offsets s ++ ldata_offsets ++ rest_offsets s) ≡ length (checks s ++ ldata_checks f s ++ byte_checks C (service_info s))
all_each C f s = ap (λ (n : ℕ). suc (suc (suc (suc n)))) (rest_each C s)

module _ (C : Count) (f : CEMIFrame) (s : List ℕ) where
  -- a refusal before L_Data is looked at
  early : (e : Fault) → standing (checks s ++ ldata_checks f s) (offsets s ++ ldata_offsets) ≡ Err e → LData.told (Err e) ≡ as_ldata_where C f s
  early e q =
      sym (located_fall (checks s ++ ldata_checks f s ++ byte_checks C (service_info s)) (offsets s ++ ldata_offsets ++ rest_offsets s) (done (values_in C (service_info s))) e
      (falls_still (checks s ++ ldata_checks f s) (byte_checks C (service_info s)) (offsets s ++ ldata_offsets) (rest_offsets s) e refl q))

  pub no_cemi : (e : Fault) → standing (checks s) (offsets s) ≡ Err e → LData.told (Err e) ≡ as_ldata_where C f s
  no_cemi e q = early e (falls_still (checks s) (ldata_checks f s) (offsets s) ldata_offsets e refl q)

  pub no_ldata : verdict (checks s) ≡ Ok tt → not (is_ldata f.message_code) ≡ true → LData.told (Err other_code) ≡ as_ldata_where C f s
  no_ldata q other = early other_code (stands_on (checks s) (ldata_checks f s) (offsets s) ldata_offsets refl q ∙ simp other)

  pub no_info : verdict (checks s) ≡ Ok tt → not (is_ldata f.message_code) ≡ false → standing (info_check s ∷ []) (info_offset ∷ []) ≡ Err past_end
      → LData.told (Err past_end) ≡ as_ldata_where C f s
  no_info q this short = early past_end (stands_on (checks s) (ldata_checks f s) (offsets s) ldata_offsets refl q ∙ simp this short)

  -- then L_Data on the rest, moved by its start
  abbrev rest : List Check
  rest = byte_checks C (service_info s)

  abbrev rest_stands : Standing
  rest_stands = standing rest (LData.offsets (length (service_info s)))

  abbrev t : Told
  t = done (values_in C (service_info s))

  module _ (q : verdict (checks s) ≡ Ok tt) (this : not (is_ldata f.message_code) ≡ false) (enough : verdict (info_check s ∷ []) ≡ Ok tt) where
    on : standing (checks s ++ ldata_checks f s ++ rest) (offsets s ++ ldata_offsets ++ rest_offsets s) ≡ later (2 + info_length s) rest_stands
    on =
        let passed : verdict (checks s ++ ldata_checks f s) ≡ Ok tt = goes_on (checks s) (ldata_checks f s) q ∙ simp this enough in
        stands_on (checks s ++ ldata_checks f s) rest (offsets s ++ ldata_offsets) (rest_offsets s) refl passed
        ∙ stands-later (2 + info_length s) rest (LData.offsets (length (service_info s))) (rest_each C s)

    pub on-rest : (r : LDataFields) → LData.told (Ok r) ≡ LData.parse_where C (service_info s) → LData.told (Ok r) ≡ as_ldata_where C f s
    on-rest r p =
        let all : List Check = checks s ++ ldata_checks f s ++ rest in
        let places : List ℕ = offsets s ++ ldata_offsets ++ rest_offsets s in
        let stands : rest_stands ≡ Ok tt = accepted-stands rest (LData.offsets (length (service_info s))) (was_accepted rest t (LData.told (Ok r)) refl p) in
        let_through rest t (LData.told (Ok r)) refl p
        ∙ sym (located_pass all places t (all_each C f s) refl (stands-accepted all places (on ∙ ap (later (2 + info_length s)) stands)))

    pub off_rest : (e : Fault) → LData.told (Err e) ≡ LData.parse_where C (service_info s) → LData.told (Err (later_fault (2 + info_length s) e)) ≡ as_ldata_where C f s
    off_rest e p =
        sym (located_fall (checks s ++ ldata_checks f s ++ rest) (offsets s ++ ldata_offsets ++ rest_offsets s) t (later_fault (2 + info_length s) e)
        (on ∙ ap (later (2 + info_length s)) (was_fallen rest (LData.offsets (length (service_info s))) t 9 e refl p)))

-- an offset of L_Data is its end or 6
pub rest_within : (C : Count) (s : List ℕ) (e : Fault) → LData.told (Err e) ≡ LData.parse_where C s → e.at ≤ length s + 6
rest_within C s e p =
    fault_within (length s + 6) (byte_checks C s) (LData.offsets (length s)) e (omega arith, (omega arith, (omega arith, omega arith)))
    (was_fallen (byte_checks C s) (LData.offsets (length s)) (done (values_in C s)) 9 e refl p)

-- ---- what is accepted

-- the first two bytes are the code and the length
pub has_layout : (s : List ℕ) (f : CEMIFrame) → Bytes s → ParsePromise s (Ok f) → take 2 s ≡ put fields (code_of f.message_code ∷ info_length s ∷ [])
has_layout s f b p = let x = FormatLaws.accepted format s (told (Ok f)) refl p in x.bytes b ∙ ap (λ (t : Told). put fields (get_or t.values 0 0 ∷ info_length s ∷ [])) (sym x.told_is)

-- ---- no second answer

answered : List ℕ → Result CEMIFrame Fault
answered vs = Ok (record { message_code = message_of (get_or vs 0 0) })

told_back : (r : Result CEMIFrame Fault) → answer_of answered Err (told r) ≡ r
unfolding answered
told_back (Ok f) = ap (λ (m : CEMIMessageCode). Ok (record { message_code = m })) (MessageCodeLaws.back f.message_code)
told_back (Err e) = back_refused answered Err 1 e

pub told_one : (r q : Result CEMIFrame Fault) → told r ≡ told q → r ≡ q
told_one = one_to_one told (answer_of answered Err) told_back

pub parse_one : (s : List ℕ) (r q : Result CEMIFrame Fault) → ParsePromise s r → ParsePromise s q → r ≡ q
parse_one s r q a b = told_one r q (same a b)

abbrev length_of : List ℕ → Result ℕ Fault
length_of vs = Ok (get_or vs 0 0)

length_back : (r : Result ℕ Fault) → answer_of length_of Err (told_length r) ≡ r
length_back (Ok n) = refl
length_back (Err e) = back_refused length_of Err 1 e

pub info_length_one : (s : List ℕ) (r q : Result ℕ Fault) → InfoLengthPromise s r → InfoLengthPromise s q → r ≡ q
info_length_one s r q a b = one_to_one told_length (answer_of length_of Err) length_back r q (same a b)

pub service_info_one : (s : List ℕ) (r q : Result View Fault) → ServiceInfoPromise s r → ServiceInfoPromise s q → r ≡ q
service_info_one s r q a b = PartLaws.told_one r q (same a b)

pub as_ldata_one : (c : Counting) (f : CEMIFrame) (s : List ℕ) (r q : Result LDataFields Fault) → AsLDataInPromise c f s r → AsLDataInPromise c f s q → r ≡ q
as_ldata_one c f s r q a b = LDataLaws.told_one r q (same a b)
