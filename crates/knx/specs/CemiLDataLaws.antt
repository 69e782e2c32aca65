-- From cEMI to L_Data at the border: how it goes on from the answers below, that the numbers read from the bytes agree with what the records below tell, and no second answer. Assumes nothing.
use Rattle.std.specs.Prelude.{ℕ, ◌+◌, ◌≤◌, ◌/◌, ◌%◌, ◌≡◌, refl, Bool, true, false, not, cond, List, [], ◌∷◌, ◌++◌, length, get_or, take, ltb, Result, Ok, Err}
use Rattle.std.proofs.Common.{arith, sym, ap, ◌∙◌}
use Rattle.wire.specs.Clash.{never}
use Rattle.wire.specs.Told.{Told, done, viewed, Check, ◌⇒◌, verdict}
use Rattle.wire.specs.ToldLaws.{one_to_one, same, never_done, let_pass, let_through, was_accepted}
use Rattle.wire.specs.PlaceLaws.{located_pass, located_fall, was_fallen}
use Rattle.wire.specs.Parts.{part_of}
use Rattle.wire.specs.Parts as Parts
use Rattle.wire.specs.declared.parts.View.{View}
use Rattle.wire.specs.declared.refusals.Fault.{Fault}
use Rattle.constants.specs.MessageCodes.{code_of, message_of}
use Rattle.constants.specs.MessageCodeLaws as MessageCodeLaws
use Rattle.constants.specs.declared.message_codes.CEMIMessageCode.{CEMIMessageCode}
use Rattle.pci.specs.Transport.{sequence_of, is_data}
use Rattle.pci.specs.Application.{is_unknown}
use Rattle.pci.specs.Application as Application
use Rattle.pci.specs.PciLaws.{code_back}
use Rattle.pci.specs.declared.application.Apci.{Apci}
use Rattle.ldata.specs.Count.{Count, start_of, count_by}
use Rattle.ldata.specs.CountLaws.{lawful}
use Rattle.ldata.specs.LData.{apci_in, values, values_in, byte_checks}
use Rattle.ldata.specs.LData as LData
use Rattle.ldata.specs.LDataLaws as LDataLaws
use Rattle.ldata.specs.declared.count.Counting.{Counting}
use Rattle.ldata.specs.declared.ldata.LDataFields.{LDataFields}
use Rattle.cemi.specs.Cemi.{code_in, info_length, service_info, ldata_checks}
use Rattle.cemi.specs.Cemi as Cemi
use Rattle.cemi.specs.CemiLaws as CemiLaws
use Rattle.cemi.specs.declared.CEMIFrame.{CEMIFrame}
use Rattle.knx.specs.CemiLData.{told, frame_in, checks_in, offsets, data_in, apci_numbers, named_in, six_bit_in, service_in, ServiceInPromise, numbers_in, CemiLDataInPromise, AnswerInPromise, RefusedPromise, Accepted, ReadPromise}
use Rattle.knx.specs.declared.cemi_ldata.Service.{Service}
use Rattle.knx.specs.declared.cemi_ldata.KnxLData.{KnxLData}

-- ---- on from the two answers below

-- the record that the parse made is the one of the bytes
code_is : (s : List ℕ) (f : CEMIFrame) → Cemi.ParsePromise s (Ok f) → code_of f.message_code ≡ code_in s
code_is s f p = ap (λ (t : Told). get_or t.values 0 0) (let_through (Cemi.checks s) (done (code_in s ∷ [])) (Cemi.told (Ok f)) refl p)

frame_is : (s : List ℕ) (f : CEMIFrame) → Cemi.ParsePromise s (Ok f) → f ≡ frame_in s
frame_is s f p =
    ap (λ (m : CEMIMessageCode). record { message_code = m }) (sym (MessageCodeLaws.back f.message_code) ∙ ap message_of (code_is s f p))

-- where all checks hold, so do the last
last_hold : (cs ds : List Check) → verdict (cs ++ ds) ≡ Ok tt → verdict ds ≡ Ok tt
last_hold [] ds q = q
last_hold (broken ⇒ e ∷ cs) ds q = go broken q (last_hold cs ds)
  where
    go : (b : Bool) → cond b (Err e) (verdict (cs ++ ds)) ≡ Ok tt → (verdict (cs ++ ds) ≡ Ok tt → verdict ds ≡ Ok tt) → verdict ds ≡ Ok tt
    go true p later = never cc
    go false p later = later p

module _ (c : Counting) (s : List ℕ) where
  abbrev C : Count
  C = count_by c

  abbrev cs : List Check
  cs = checks_in C s

  abbrev t : Told
  t = done (values_in C (service_info s))

  -- a frame of a cEMI that was parsed, and one that was not
  pub as_ldata : (f : CEMIFrame) → Cemi.ParsePromise s (Ok f) → (a : Result LDataFields Fault) → Cemi.AsLDataInPromise c f s a → AnswerInPromise c s a
  as_ldata f parsed a q = q ∙ ap (λ (g : CEMIFrame). Cemi.as_ldata_where C g s) (frame_is s f parsed)

  pub no_cemi : (e : Fault) → Cemi.ParsePromise s (Err e) → AnswerInPromise c s (Err e)
  no_cemi e q = CemiLaws.no_cemi C (frame_in s) s e (CemiLaws.fell s e q)

  all_hold : (g : LDataFields) → AnswerInPromise c s (Ok g) → verdict cs ≡ Ok tt
  all_hold g q = was_accepted cs t (LData.told (Ok g)) refl q

  -- the L_Data on the rest is accepted
  pub accepted : (g : LDataFields) → AnswerInPromise c s (Ok g) → Accepted c s g
  accepted g q =
      let_through cs t (LData.told (Ok g)) refl q
      ∙ sym (located_pass (byte_checks C (service_info s)) (LData.offsets (length (service_info s))) t (CemiLaws.rest_each C s) refl
      (last_hold (Cemi.checks s ++ ldata_checks (frame_in s) s) (byte_checks C (service_info s)) (all_hold g q)))

  pub all_read : (g : LDataFields) (r : KnxLData) → AnswerInPromise c s (Ok g) → ReadPromise c s r → CemiLDataInPromise c s r
  all_read g r q p = p ∙ sym (located_pass cs (offsets s) (numbers_in C s) (CemiLaws.all_each C (frame_in s) s) refl (all_hold g q))

  pub no_ldata : (e : Fault) (r : KnxLData) → AnswerInPromise c s (Err e) → RefusedPromise e r → CemiLDataInPromise c s r
  no_ldata e r q p = p ∙ sym (located_fall cs (offsets s) (numbers_in C s) e (was_fallen cs (offsets s) t 9 e refl q))

-- ---- the numbers of the bytes are those of the record

-- whether the service of two bytes has a name, as a number
pub named_is : (b : Bool) (first second : ℕ) → b ≡ not (is_unknown (Application.apci_of (Application.code_in first second))) → cond b 1 0 ≡ named_in first second
named_is b first second e = ap (λ (x : Bool). cond x 1 0) e ∙ go (is_unknown (Application.apci_of (Application.code_in first second)))
  where
    go : (u : Bool) → ◌≡◌ {A = ℕ} (cond (not u) 1 0) (cond u 0 1)
    go true = refl
    go false = refl

-- what is read of a data packet, and of a control packet
pub of_data : (c : Counting) (first second : ℕ) → named_in first second ∷ Application.code_in first second ∷ 0 ∷ second % 64 ∷ [] ≡ service_in (count_by c) true first second
of_data c first second = ap (λ (n : ℕ). named_in first second ∷ n ∷ 0 ∷ second % 64 ∷ []) (sym (code_back (Application.code_in first second)))

pub of_control : (c : Counting) (first second : ℕ) → 0 ∷ 0 ∷ Application.code_of ((count_by c).control_apci first) ∷ 0 ∷ [] ≡ service_in (count_by c) false first second
of_control c first second = ap (λ (u : Bool). cond u 0 1 ∷ 0 ∷ Application.code_of ((count_by c).control_apci first) ∷ 0 ∷ []) (sym ((lawful c).unnamed first))

-- the part that was read from is what follows the additional information; n is its length as it was read
pub rest_is : (s : List ℕ) (n : ℕ) (rest : List ℕ) → n ≡ info_length s → rest ≡ part_of s (2 + n) (length s) → rest ≡ service_info s
rest_is s n rest e p = p ∙ ap (λ (k : ℕ). part_of s (2 + k) (length s)) e

pub start_most : (d : Bool) → start_of d ≤ 9
start_most true = omega arith
start_most false = omega arith

-- every number, as it was read: from the record, and TPCI and APCI from their bytes
pub reads : (c : Counting) (s : List ℕ) (f : LDataFields) → Accepted c s f → (n : ℕ) (rest : List ℕ) → n ≡ info_length s → rest ≡ service_info s
    → (first second : ℕ) → first ≡ get_or rest 7 0 → second ≡ get_or rest 8 0 → (v : Service) → ServiceInPromise c (ltb (first / 64) 2) first second v
    → record {
      number = 0;
      values =
          get_or s 0 0 ∷ f.ctrl1.raw ∷ f.ctrl2.raw ∷ f.source.0 ∷ f.destination_raw ∷ f.npdu_length ∷ first / 64 ∷ sequence_of first
          ∷ v.apci_named ∷ v.apci_code ∷ v.control_code ∷ v.six_bit ∷ [];
      start = 2 + n + start_of (ltb (first / 64) 2);
      end = 2 + n + (count_by c).end_of f.npdu_length;
      offset = 0;
    } ≡ numbers_in (count_by c) s
reads c s f p n rest e r first second x y v four =
    let nine : values f ≡ values_in (count_by c) (service_info s) = LDataLaws.read (count_by c) (service_info s) f p in
    let at : (k : ℕ) → get_or (values f) k 0 ≡ get_or (values_in (count_by c) (service_info s)) k 0 = λ k. ap (λ (us : List ℕ). get_or us k 0) nine in
    let of : (k : ℕ) → get_or (v.apci_named ∷ v.apci_code ∷ v.control_code ∷ v.six_bit ∷ []) k 0 ≡ get_or (service_in (count_by c) (ltb (first / 64) 2) first second) k 0 =
    λ k. ap (λ (us : List ℕ). get_or us k 0) four in
    rw (at 0, at 1, at 2, at 3, at 4, of 0, of 1, of 2, of 3, x, y, e, r)

-- where `LDataFields::data_in` says that the data stands
view_is : (c : Counting) (rest : List ℕ) (f : LDataFields) → LData.ParseInPromise c rest (Ok f) → (v : Result View Fault) → LData.DataInPromise c f rest v
    → v ≡ Ok (record { start = start_of (data_in rest); end = (count_by c).end_of (get_or rest 6 0) })
view_is c rest f parsed v p = go v p
  where
    at : Told
    at = viewed (start_of (data_in rest)) ((count_by c).end_of (get_or rest 6 0))

    e : LData.data_by01 (count_by c) f rest ≡ at
    e = LDataLaws.data_read (count_by c) rest f parsed ∙ let_pass (byte_checks (count_by c) rest) at (was_accepted (byte_checks (count_by c) rest) (done (values_in (count_by c) rest)) (LData.told (Ok f)) refl parsed)

    go : (v : Result View Fault) → LData.DataInPromise c f rest v → v ≡ Ok (record { start = at.start; end = at.end })
    go (Ok w) p =
        ap (λ (a : ℕ). Ok (record { start = a; end = w.end })) (ap (λ (t : Told). t.start) p ∙ ap (λ (t : Told). t.start) e)
        ∙ ap (λ (b : ℕ). Ok (record { start = at.start; end = b })) (ap (λ (t : Told). t.end) p ∙ ap (λ (t : Told). t.end) e)
    go (Err f) p = absurd (never_done f.why (ap (λ (t : Told). t.number) p ∙ ap (λ (t : Told). t.number) e))

-- the numbers that are told are those of the records that `parse`, `as_ldata_in` and `data_in` answer
pub ldata_as : (c : Counting) (s : List ℕ) (r : KnxLData) (f : CEMIFrame) (g : LDataFields) (v : Result View Fault)
    → CemiLDataInPromise c s r → Cemi.ParsePromise s (Ok f) → Cemi.AsLDataInPromise c f s (Ok g) → LData.DataInPromise c g (service_info s) v
    → told r ≡ record {
      number = 0;
      values = code_of f.message_code ∷ take 7 (values g) ++ apci_numbers (is_data g.tpci) g.apci ++ six_bit_in (is_data g.tpci) (get_or (service_info s) 8 0) ∷ [];
      start = 2 + info_length s + (Parts.told v).start;
      end = 2 + info_length s + (Parts.told v).end;
      offset = 0;
    }
ldata_as c s r f g (Ok v) p parsed read view =
    let C : Count = count_by c in
    let rest : List ℕ = service_info s in
    let answered : AnswerInPromise c s (Ok g) = as_ldata c s f parsed (Ok g) read in
    let on-rest : LData.ParseInPromise c rest (Ok g) = accepted c s g answered in
    let at = view_is c rest g on-rest (Ok v) view in
    let it : v ≡ record { start = start_of (data_in rest); end = C.end_of (get_or rest 6 0) } = cc in
    let d : Bool = data_in rest in
    let there : Apci = apci_in C d (get_or rest 7 0) (get_or rest 8 0) in
    let of : ℕ → List ℕ → Bool → Apci → ℕ → ℕ → Told = λ code vs k a start end.
    record { number = 0; values = code ∷ take 7 vs ++ apci_numbers k a ++ six_bit_in k (get_or rest 8 0) ∷ []; start = 2 + info_length s + start; end = 2 + info_length s + end; offset = 0 } in
    p ∙ located_pass (checks_in C s) (offsets s) (numbers_in C s) (CemiLaws.all_each C (frame_in s) s) refl (all_hold c s g answered)
    ∙ sym
    (ap (λ (code : ℕ). of code (values g) (is_data g.tpci) g.apci v.start v.end) (code_is s f parsed)
    ∙ ap (λ (vs : List ℕ). of (code_in s) vs (is_data g.tpci) g.apci v.start v.end) (LDataLaws.read C rest g on-rest)
    ∙ ap (λ (k : Bool). of (code_in s) (values_in C rest) k g.apci v.start v.end) (LDataLaws.kind_read C rest g on-rest)
    ∙ ap (λ (a : Apci). of (code_in s) (values_in C rest) d a v.start v.end) (LDataLaws.apci_read C rest g on-rest)
    ∙ ap (λ (start : ℕ). of (code_in s) (values_in C rest) d there start v.end) (ap (λ (w : View). w.start) it)
    ∙ ap (of (code_in s) (values_in C rest) d there (start_of d)) (ap (λ (w : View). w.end) it))
ldata_as c s r f g (Err e) p parsed read view =
    let at = view_is c (service_info s) g (accepted c s g (as_ldata c s f parsed (Ok g) read)) (Err e) view in
    never cc

-- ---- no second answer

ldata_from : Told → KnxLData
ldata_from t = record {
  start = t.start;
  end = t.end;
  offset = t.offset;
  source = get_or t.values 3 0;
  destination = get_or t.values 4 0;
  apci_code = get_or t.values 9 0;
  message_code = get_or t.values 0 0;
  control_1 = get_or t.values 1 0;
  control_2 = get_or t.values 2 0;
  npdu_length = get_or t.values 5 0;
  tpci_kind = get_or t.values 6 0;
  tpci_sequence = get_or t.values 7 0;
  apci_named = get_or t.values 8 0;
  control_code = get_or t.values 10 0;
  six_bit = get_or t.values 11 0;
  number = t.number;
}

pub cemi_ldata_one : (c : Counting) (s : List ℕ) (r q : KnxLData) → CemiLDataInPromise c s r → CemiLDataInPromise c s q → r ≡ q
unfolding ldata_from
cemi_ldata_one c s r q a b = one_to_one told ldata_from (λ x. refl) r q (same a b)
