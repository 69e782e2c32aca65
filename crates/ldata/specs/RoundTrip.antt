-- "Build then parse gives the same record": what the L_Data builder wrote is parsed back, a data packet or a control packet, over how L counts. Assumes nothing.
use Rattle.std.specs.Prelude.{ℕ, ◌+◌, ◌*◌, ◌/◌, ◌%◌, ◌≤◌, ◌≡◌, refl, Bool, true, false, not, cond, List, [], ◌∷◌, ◌++◌, length, get_or, drop, Result, Ok}
use Rattle.std.proofs.Common.{arith, sym, ap, ◌∙◌, length-append, le-ltb}
use Rattle.wire.specs.Clash.{never}
use Rattle.wire.specs.Told.{done, viewed, Check, verdict, judged}
use Rattle.wire.specs.ToldLaws.{let_pass, was_accepted, is_true}
use Rattle.wire.specs.PlaceLaws.{located_pass}
use Rattle.wire.specs.Parts.{part_of, shown}
use Rattle.wire.specs.PartLaws.{part_between}
use Rattle.wire.specs.Layout.{word_of, high_of, low_of}
use Rattle.wire.specs.LayoutLaws.{word_split}
use Rattle.wire.specs.WritingLaws.{wrote}
use Rattle.wire.specs.Writing as Writing
use Rattle.pci.specs.Transport.{is_data, kind_of, sequence_of}
use Rattle.pci.specs.Transport as Transport
use Rattle.pci.specs.Application.{code_in, apci_of, code_of, SixBitPromise}
use Rattle.pci.specs.Application as Application
use Rattle.pci.specs.declared.application.Apci.{Apci}
use Rattle.pci.specs.declared.application.Apci.TheVariants.{Control}
use Rattle.pci.specs.PciLaws.{byte_back, code_back}
use Rattle.ldata.specs.Count.{Count, start_of, count_by}
use Rattle.ldata.specs.CountLaws.{Controls, Lawful, lawful}
use Rattle.ldata.specs.LData.{data_byte, apci_in, values, values_in, checks, offsets, byte_checks, told, parse_where, ParseInPromise, data_by01, DataPartInPromise}
use Rattle.ldata.specs.LDataLaws.{one_each, same_kind, accepts_either, told_one}
use Rattle.ldata.specs.Builder.{tpci_byte, apci_byte, head, lead, layout, is_control, control_checks, control_byte, control_frame, checks_in, frame_in, BuildInPromise}
use Rattle.ldata.specs.Builder as LDataBuilder
use Rattle.ldata.specs.BuilderLaws.{Builds, BuildsControl}
use Rattle.ldata.specs.BuilderLaws as LDataBuilderLaws
use Rattle.ldata.specs.declared.count.Counting.{Counting}
use Rattle.ldata.specs.declared.builder.LDataBuilder.{LDataBuilder}
use Rattle.ldata.specs.declared.ldata.LDataFields.{LDataFields}
use Rattle.wire.specs.declared.refusals.Fault.{Fault}

-- the record of a builder's fields with this L and this APCI
abbrev pub made : LDataBuilder → ℕ → Apci → LDataFields
made b l a = record {
  ctrl1 = b.ctrl1;
  ctrl2 = b.ctrl2;
  source = b.source;
  destination_raw = b.destination_raw;
  npdu_length = l;
  tpci = b.tpci;
  apci = a;
}

-- of a data packet that is built APCI is by its code; of a control packet L is 0, and APCI is its control code
abbrev pub built : LDataBuilder → ℕ → LDataFields
built b l = made b l (apci_of b.apci_code)

abbrev pub control_built : LDataBuilder → LDataFields
control_built b = made b 0 (Control b.apci_code)

-- in a count, of n bytes of data
abbrev pub built_in : Count → LDataBuilder → ℕ → LDataFields
built_in C b n = cond (is_control C b) (control_built b) (built b (C.length_of n))

-- how many bytes that takes
abbrev pub size_in : Count → LDataBuilder → ℕ → ℕ
size_in C b n = cond (is_control C b) 8 (9 + n)

-- ---- any packet: its first eight bytes, whose TPCI byte reads as the builder's packet, and what follows them

module _ (b : LDataBuilder) (l tpci : ℕ) (a : Apci) (rest : List ℕ) (C : Count) where
  abbrev frame : List ℕ
  frame = head b l tpci ++ rest

  abbrev first : Bool
  first = data_byte tpci

  module _ (tpci_in_lem : Transport.FromPromise tpci b.tpci) (accepts : verdict (checks C (length frame) first l) ≡ Ok tt) where
    -- the bytes hold the values of the record
    values_back : apci_in C first tpci (get_or rest 0 0) ≡ a → values_in C frame ≡ values (made b l a)
    values_back apci_in_lem =
        let from : ℕ = b.source.0 in
        let to : ℕ = b.destination_raw in
        let read : Apci = apci_in C first tpci (get_or rest 0 0) in
        let of : ℕ → ℕ → List ℕ → Apci → List ℕ = λ x y ks z. b.ctrl1.raw ∷ b.ctrl2.raw ∷ x ∷ y ∷ l ∷ ks ++ Application.values z in
        let ks : List ℕ = kind_of tpci ∷ sequence_of tpci ∷ [] in
        ap (λ (x : ℕ). of x (word_of (high_of to) (low_of to)) ks read) (word_split from)
        ∙ ap (λ (y : ℕ). of from y ks read) (word_split to)
        ∙ ap (λ (vs : List ℕ). of from to vs read) (sym tpci_in_lem)
        ∙ ap (of from to (Transport.values b.tpci)) apci_in_lem

    -- so the record is answered
    fields_read : apci_in C first tpci (get_or rest 0 0) ≡ a → parse_where C frame ≡ told (Ok (made b l a))
    fields_read apci_in_lem = located_pass (byte_checks C frame) (offsets (length frame)) (done (values_in C frame)) (one_each C (length frame) first l) refl accepts ∙ ap done (values_back apci_in_lem)

    -- and its data is what stands there
    data_there : shown frame (data_by01 C (made b l a) frame) ≡ part_of frame (start_of first) (C.end_of l)
    data_there =
        ap (λ (k : Bool). shown frame (judged (checks C (length frame) k l) (viewed (start_of k) (C.end_of l)))) (same_kind tpci b.tpci (is_data b.tpci) tpci_in_lem refl)
        ∙ ap (shown frame) (let_pass (checks C (length frame) first l) (viewed (start_of first) (C.end_of l)) accepts)

-- ---- the two bytes of TPCI and APCI

code_in_lem : (k q code six : ℕ) → code ≤ 0x3C0 → code % 0x40 ≡ 0 → code_in (k * 64 + q % 16 * 4 + code / 256 % 4) (code % 256 / 64 * 64 + six % 64) ≡ code
code_in_lem k q code six most multiple = omega arith

six_in : (code six : ℕ) → six ≤ 63 → (code % 256 / 64 * 64 + six % 64) % 64 ≡ six
six_in code six most = omega arith

-- ---- a data packet

module _ (b : LDataBuilder) (n m : ℕ) (builds : Builds b n m) where
  tpci_in_lem : Transport.FromPromise (tpci_byte b) b.tpci
  tpci_in_lem = byte_back b.tpci (b.apci_code / 256 % 4) builds.sequence_15 (omega arith)

  data_byte_lem : data_byte (tpci_byte b) ≡ true
  data_byte_lem = sym (same_kind (tpci_byte b) b.tpci (is_data b.tpci) tpci_in_lem refl) ∙ is_true (is_data b.tpci) builds.data_packet

  apci_in_lem : (C : Count) → apci_in C (data_byte (tpci_byte b)) (tpci_byte b) (apci_byte b) ≡ apci_of b.apci_code
  apci_in_lem C =
      ap (λ (d : Bool). apci_in C d (tpci_byte b) (apci_byte b)) data_byte_lem
      ∙ ap apci_of (code_in_lem (get_or (Transport.values b.tpci) 0 0) (get_or (Transport.values b.tpci) 1 0) b.apci_code b.six_bit builds.code_most builds.code_multiple)

  module _ (C : Count) (laws : Lawful C) (d rest : List ℕ) (size : length d ≡ n) where
    abbrev l : ℕ
    l = C.length_of n

    abbrev whole : List ℕ
    whole = layout b l d ++ rest

    long : 9 + n ≤ length whole
    long = omega (arith, length-append d rest)

    passes : verdict (checks C (length whole) (data_byte (tpci_byte b)) l) ≡ Ok tt
    passes =
        ap (λ (k : Bool). verdict (checks C (length whole) k l)) data_byte_lem
        ∙ accepts_either C (length whole) true l
        (simp (le-ltb (length whole) C.least (omega (arith, laws.nine, long)), le-ltb (length whole) (C.end_of l) (omega (arith, laws.ends n, long)), laws.fits n builds.data_253))

    data_fields_back : parse_where C whole ≡ told (Ok (built b l))
    data_fields_back = fields_read b l (tpci_byte b) (apci_of b.apci_code) (apci_byte b ∷ d ++ rest) C tpci_in_lem passes (apci_in_lem C)

    data_data_back : shown whole (data_by01 C (built b l) whole) ≡ d
    data_data_back =
        data_there b l (tpci_byte b) (apci_of b.apci_code) (apci_byte b ∷ d ++ rest) C tpci_in_lem passes
        ∙ ap (λ (k : Bool). part_of whole (start_of k) (C.end_of l)) data_byte_lem
        ∙ part_between (lead b l) d rest 9 (C.end_of l) refl (omega (arith, laws.ends n, size))

-- ---- a control packet, in a count that builds them

control_in : (k q code : ℕ) → code ≤ 3 → (k * 64 + q % 16 * 4 + code % 4) % 4 ≡ code
control_in k q code most = omega arith

module _ (b : LDataBuilder) (n m : ℕ) (builds : BuildsControl b n m) (control : is_data b.tpci ≡ false) where
  control_tpci_in : Transport.FromPromise (control_byte b) b.tpci
  control_tpci_in = byte_back b.tpci (b.apci_code % 4) builds.sequence_15 (omega arith)

  control_byte_lem : data_byte (control_byte b) ≡ false
  control_byte_lem = sym (same_kind (control_byte b) b.tpci (is_data b.tpci) control_tpci_in refl) ∙ control

  module _ (C : Count) (laws : Controls C) (rest : List ℕ) where
    abbrev control-whole : List ℕ
    control-whole = control_frame b ++ rest

    control_apci_in : apci_in C (data_byte (control_byte b)) (control_byte b) (get_or rest 0 0) ≡ Control b.apci_code
    control_apci_in =
        ap (λ (d : Bool). apci_in C d (control_byte b) (get_or rest 0 0)) control_byte_lem ∙ laws.code (control_byte b)
        ∙ ap Control (control_in (get_or (Transport.values b.tpci) 0 0) (get_or (Transport.values b.tpci) 1 0) b.apci_code builds.code_3)

    control_passes : verdict (checks C (length control-whole) (data_byte (control_byte b)) 0) ≡ Ok tt
    control_passes =
        ap (λ (k : Bool). verdict (checks C (length control-whole) k 0)) control_byte_lem
        ∙ accepts_either C (length control-whole) false 0
        (simp (le-ltb (length control-whole) C.least (omega (arith, laws.enough)), le-ltb (length control-whole) (C.end_of 0) (omega (arith, laws.ends)), laws.fits))

    control_fields_back : parse_where C control-whole ≡ told (Ok (control_built b))
    control_fields_back = fields_read b 0 (control_byte b) (Control b.apci_code) rest C control_tpci_in control_passes control_apci_in

    control_data_back : shown control-whole (data_by01 C (control_built b) control-whole) ≡ []
    control_data_back =
        data_there b 0 (control_byte b) (Control b.apci_code) rest C control_tpci_in control_passes
        ∙ ap (λ (k : Bool). part_of control-whole (start_of k) (C.end_of 0)) control_byte_lem
        ∙ part_between (control_frame b) [] rest 8 (C.end_of 0) refl (sym laws.ends)

-- ---- either, in a count

-- the frame w of these fields and data, k bytes of it, comes back whatever follows it
pub record ComesBack (C : Count) (b : LDataBuilder) (d w : List ℕ) (f : LDataFields) (k : ℕ) (rest : List ℕ) : Type 0 where
  pub size : length w ≡ k
  pub fields_back : parse_where C (w ++ rest) ≡ told (Ok f)
  pub data_back : shown (w ++ rest) (data_by01 C f (w ++ rest)) ≡ d
  pub same_code : code_of f.apci ≡ b.apci_code

empty : (d : List ℕ) → length d ≡ 0 → d ≡ []
empty [] q = refl
empty (x ∷ d) q = absurd (omega arith)

built-control : (x y : Bool) → cond x (not y) false ≡ true → (x ≡ true) × (y ≡ false)
built-control true true q = never cc
built-control true false q = (refl, refl)
built-control false y q = never cc

module _ (C : Count) (laws : Lawful C) (b : LDataBuilder) (d rest : List ℕ) (m : ℕ) (accepts : verdict (checks_in C b (length d) m) ≡ Ok tt) where
  abbrev n : ℕ
  n = length d

  pub comes_back : ComesBack C b d (frame_in C b d) (built_in C b n) (size_in C b n) rest
  comes_back = go (is_control C b) refl accepts
    where
      go : (k : Bool) → is_control C b ≡ k → verdict (cond k (control_checks b n m) (LDataBuilder.checks b n m)) ≡ Ok tt
          → ComesBack C b d (cond k (control_frame b) (layout b (C.length_of n) d)) (cond k (control_built b) (built b (C.length_of n))) (cond k 8 (9 + n)) rest
      go true e q =
          let builds = LDataBuilderLaws.control-accepted b n m q in
          let is = built-control C.builds_control (is_data b.tpci) e in
          let controls = laws.controls is.0 in
          record {
            size = refl;
            fields_back = control_fields_back b n m builds is.1 C controls rest;
            data_back = control_data_back b n m builds is.1 C controls rest ∙ sym (empty d builds.no_data);
            same_code = refl;
          }
      go false e q =
          let builds = LDataBuilderLaws.accepted b n m q in
          record {
            size = omega arith;
            fields_back = data_fields_back b n m builds C laws d rest refl;
            data_back = data_data_back b n m builds C laws d rest refl;
            same_code = code_back b.apci_code;
          }

  -- "The six-bit number is read from the APCI byte", of a data packet
  pub six_back : is_control C b ≡ false → get_or (frame_in C b d ++ rest) 8 0 % 64 ≡ b.six_bit
  six_back e = go (is_control C b) e accepts
    where
      go : (k : Bool) → k ≡ false → verdict (cond k (control_checks b n m) (LDataBuilder.checks b n m)) ≡ Ok tt
          → get_or (cond k (control_frame b) (layout b (C.length_of n) d) ++ rest) 8 0 % 64 ≡ b.six_bit
      go true e q = never cc
      go false e q = six_in b.apci_code b.six_bit (LDataBuilderLaws.accepted b n m q).six_63

-- ---- from what the builder promises to what the parser promises, in a count

-- whoever parses what was built gets the fields that were given, APCI by its code, and the data and the six-bit number
pub record Back (C : Count) (b : LDataBuilder) (d : List ℕ) (n : ℕ) (f : LDataFields) (part : List ℕ) (six : ℕ) : Type 0 where
  pub count : n ≡ size_in C b (length d)
  pub same_fields : f ≡ built_in C b (length d)
  pub same_code : code_of f.apci ≡ b.apci_code
  pub same_data : part ≡ d
  pub same_six : is_control C b ≡ false → six ≡ b.six_bit

module _ (c : Counting) (b : LDataBuilder) (d buf : List ℕ) (n : ℕ) (after : List ℕ) (built-so : BuildInPromise c b d buf (Ok n) after) where
  abbrev C : Count
  C = count_by c

  abbrev cs : List Check
  cs = checks_in C b (length d) (length buf)

  abbrev w : List ℕ
  w = frame_in C b d

  all : verdict cs ≡ Ok tt
  all = was_accepted cs (done (length w ∷ [])) (Writing.told (Ok n)) refl built-so.0

  back : ComesBack C b d w (built_in C b (length d)) (size_in C b (length d)) (drop (length w) buf)
  back = comes_back C (lawful c) b d (drop (length w) buf) (length buf) all

  bytes : after ≡ w ++ drop (length w) buf
  bytes = (wrote cs w buf n after built-so).bytes

  -- it is parsed: no premise but that the builder answered
  pub parsed : (r : Result LDataFields Fault) → ParseInPromise c after r → r ≡ Ok (built_in C b (length d))
  parsed r p = told_one r (Ok (built_in C b (length d))) (p ∙ ap (parse_where C) bytes ∙ back.fields_back)

  pub round_trip : (f : LDataFields) (part : List ℕ) (six : ℕ) → ParseInPromise c after (Ok f) → DataPartInPromise c f after part → SixBitPromise (get_or after 8 0) six → Back C b d n f part six
  round_trip f part six p taken sixth =
      let framed : Ok f ≡ Ok (built_in C b (length d)) = parsed (Ok f) p in
      let same : f ≡ built_in C b (length d) = cc in
      record {
        count = (wrote cs w buf n after built-so).count ∙ back.size;
        same_fields = same;
        same_code = ap (λ (g : LDataFields). code_of g.apci) same ∙ back.same_code;
        same_data =
            taken ∙ ap (λ (g : LDataFields). shown after (data_by01 C g after)) same
            ∙ ap (λ (s : List ℕ). shown s (data_by01 C (built_in C b (length d)) s)) bytes
            ∙ back.data_back;
        same_six = λ q. sixth ∙ ap (λ (s : List ℕ). get_or s 8 0 % 64) bytes ∙ six_back C (lawful c) b d (drop (length w) buf) (length buf) all q;
      }
