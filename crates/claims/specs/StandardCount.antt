-- 02, 2/13, "Switch telegrams are refused": what both counts share, said once over the count; then rows typed from 02 and from frames of a real gateway. Over the promises that the contracts cite.
use Rattle.std.specs.Prelude.{ℕ, ◌+◌, ◌≡◌, refl, Bool, true, false, cond, List, [], ◌∷◌, ◌++◌, length, get_or, take, replicate, Result, Ok}
use Rattle.wire.specs.Told.{done, viewed, verdict}
use Rattle.wire.specs.Writing.{tells}
use Rattle.wire.specs.Places.{place}
use Rattle.wire.specs.Layout.{put}
use Rattle.wire.specs.LayoutLaws.{Bytes}
use Rattle.wire.specs.declared.parts.View.{View}
use Rattle.constants.specs.MessageCodes as MessageCodes
use Rattle.constants.specs.declared.message_codes.CEMIMessageCode.TheVariants.{LDataInd, LRawInd}
use Rattle.pci.specs.Transport.{is_data}
use Rattle.pci.specs.Application as Application
use Rattle.pci.specs.declared.transport.Tpci.{Tpci}
use Rattle.pci.specs.declared.transport.Tpci.TheVariants.{UnnumberedData, NumberedData, UnnumberedControl, NumberedControl}
use Rattle.pci.specs.declared.application.Apci.{Apci}
use Rattle.ldata.specs.Count.{crate_count, standard_count, count_by}
use Rattle.ldata.specs.CountLaws.{lawful}
use Rattle.ldata.specs.LData as LData
use Rattle.ldata.specs.LDataLaws as LDataLaws
use Rattle.ldata.specs.Builder as LDataBuilder
use Rattle.ldata.specs.BuilderLaws as LDataBuilderLaws
use Rattle.ldata.specs.RoundTrip as LDataRoundTrip
use Rattle.ldata.specs.declared.count.Counting.{Counting}
use Rattle.ldata.specs.declared.count.Counting.TheVariants.{Standard}
use Rattle.ldata.specs.declared.builder.LDataBuilder.{LDataBuilder}
use Rattle.ldata.specs.declared.ldata.LDataFields.{LDataFields}
use Rattle.cemi.specs.Cemi as Cemi
use Rattle.cemi.specs.declared.CEMIFrame.{CEMIFrame}
use Rattle.borrowed.specs.LDataFrame as LDataFrame
use Rattle.borrowed.specs.LDataFrameLaws as LDataFrameLaws
use Rattle.borrowed.specs.declared.ldata_frame.LDataFrame.{LDataFrame}
use Rattle.knx.specs.CemiLData as CemiLData
use Rattle.knx.specs.CemiLDataLaws as CemiLDataLaws
use Rattle.knx.specs.declared.cemi_ldata.KnxLData.{KnxLData}
use Rattle.claims.specs.Layouts.{nines}
use Rattle.wire.specs.declared.refusals.Fault.{Fault}
use Rattle.wire.specs.Parts as Parts

-- ---- in either count: what is accepted

-- up to its end it is the fields of its answer with the TPCI byte, a data packet's APCI byte, and the data
pub has_layout : (c : Counting) (s : List ℕ) (f : LDataFields) (part : List ℕ) → Bytes s → LData.ParseInPromise c s (Ok f) → LData.DataPartInPromise c f s part
    → take ((count_by c).end_of f.npdu_length) s
    ≡ (put LData.fields (f.ctrl1.raw ∷ f.ctrl2.raw ∷ f.source.0 ∷ f.destination_raw ∷ f.npdu_length ∷ get_or s 7 0 ∷ []) ++ cond (is_data f.tpci) (get_or s 8 0 ∷ []) []) ++ part
has_layout c s f part b p taken = LDataLaws.laid_out (count_by c) s f p (lawful c) b part taken

-- its values are those that stand in the bytes, and its APCI the one that stands there: of a data packet its service, of a control packet the count's
pub reads : (c : Counting) (s : List ℕ) (f : LDataFields) → LData.ParseInPromise c s (Ok f) → LData.values f ≡ LData.values_in (count_by c) s
reads c = LDataLaws.read (count_by c)

pub reads_apci : (c : Counting) (s : List ℕ) (f : LDataFields) → LData.ParseInPromise c s (Ok f)
    → f.apci ≡ LData.apci_in (count_by c) (LData.data_byte (get_or s 7 0)) (get_or s 7 0) (get_or s 8 0)
reads_apci c = LDataLaws.apci_read (count_by c)

-- a control packet is no group read, and no other named service
pub control_never : (c : Counting) (s : List ℕ) (f : LDataFields) (code : ℕ) (r : Bool)
    → LData.ParseInPromise c s (Ok f) → LData.data_byte (get_or s 7 0) ≡ false → LData.IsServicePromise code f r → r ≡ false
control_never c = LDataLaws.control_never (count_by c) (lawful c)

-- ---- in either count: what was built comes back, with no premise but that the builder answered

pub build_parse : (c : Counting) (b : LDataBuilder) (d buf : List ℕ) (n : ℕ) (after : List ℕ) → LDataBuilder.BuildInPromise c b d buf (Ok n) after
    → (r : Result LDataFields Fault) → LData.ParseInPromise c after r → r ≡ Ok (LDataRoundTrip.built_in (count_by c) b (length d))
build_parse = LDataRoundTrip.parsed

pub round_trip : (c : Counting) (b : LDataBuilder) (d buf : List ℕ) (n : ℕ) (after : List ℕ) → LDataBuilder.BuildInPromise c b d buf (Ok n) after
    → (f : LDataFields) (part : List ℕ) (six : ℕ) → LData.ParseInPromise c after (Ok f) → LData.DataPartInPromise c f after part → Application.SixBitPromise (get_or after 8 0) six
    → LDataRoundTrip.Back (count_by c) b d n f part six
round_trip = LDataRoundTrip.round_trip

-- a control packet is taken exactly if it has no data, a sequence up to 15, a control code up to 3, and room for 8 bytes
pub control-taken : (b : LDataBuilder) (n m : ℕ) → LDataBuilderLaws.BuildsControl b n m → verdict (LDataBuilder.control_checks b n m) ≡ Ok tt
control-taken = LDataBuilderLaws.control-stands

pub taken-control : (b : LDataBuilder) (n m : ℕ) → verdict (LDataBuilder.control_checks b n m) ≡ Ok tt → LDataBuilderLaws.BuildsControl b n m
taken-control = LDataBuilderLaws.control-accepted

-- ---- in either count: the record that holds its data, and the border

pub borrowed_data : (c : Counting) (s : List ℕ) (f : LDataFrame) (r : List ℕ) → LDataFrame.ParseInPromise c s f → LDataFrame.FrameDataInPromise c f r → LDataFrame.DataInCountPromise c s r
borrowed_data = LDataFrameLaws.data_in_lem

-- the numbers of `knx_cemi_ldata_standard` are those of the records that `parse`, `as_ldata_in` and `data_in` answer
pub border : (s : List ℕ) (r : KnxLData) (f : CEMIFrame) (g : LDataFields) (v : Result View Fault)
    → CemiLData.CemiLDataStandardPromise s r → Cemi.ParsePromise s (Ok f) → Cemi.AsLDataInPromise Standard f s (Ok g) → LData.DataInPromise Standard g (Cemi.service_info s) v
    → CemiLData.told r ≡ record {
      number = 0;
      values =
          MessageCodes.code_of f.message_code ∷ take 7 (LData.values g) ++ CemiLData.apci_numbers (is_data g.tpci) g.apci
          ++ CemiLData.six_bit_in (is_data g.tpci) (get_or (Cemi.service_info s) 8 0) ∷ [];
      start = 2 + Cemi.info_length s + (Parts.told v).start;
      end = 2 + Cemi.info_length s + (Parts.told v).end;
      offset = 0;
    }
border = CemiLDataLaws.ldata_as Standard

-- ---- rows: frames

abbrev pub indication : CEMIFrame
indication = record { message_code = LDataInd }

-- from 1.1.5 to the group 1/0/3: L, TPCI and what follows
abbrev pub to_group : ℕ → List ℕ → List ℕ
to_group l rest = 0xBC ∷ 0xE0 ∷ 0x11 ∷ 0x05 ∷ 0x08 ∷ 0x03 ∷ l ∷ rest

abbrev pub group_write : ℕ → LDataFields
group_write l = record {
  ctrl1 = record { raw = 0xBC };
  ctrl2 = record { raw = 0xE0 };
  source = record { 0 = 0x1105 };
  destination_raw = 0x0803;
  npdu_length = l;
  tpci = UnnumberedData;
  apci = Apci.GroupValueWrite;
}

-- from 1.1.5 to the device 1.2.10: L, TPCI and what follows
abbrev to_device : ℕ → List ℕ → List ℕ
to_device l rest = 0xB0 ∷ 0x60 ∷ 0x11 ∷ 0x05 ∷ 0x12 ∷ 0x0A ∷ l ∷ rest

abbrev control_to : Tpci → ℕ → LDataFields
control_to t code = record {
  ctrl1 = record { raw = 0xB0 };
  ctrl2 = record { raw = 0x60 };
  source = record { 0 = 0x1105 };
  destination_raw = 0x120A;
  npdu_length = 0;
  tpci = t;
  apci = Apci.Control code;
}

abbrev number : List ℕ → ℕ
number s = (LData.parse_by01 standard_count s).number

-- a cEMI record of this code
abbrev in_cemi : CEMIFrame → List ℕ → ℕ
in_cemi f s = (Cemi.as_ldata_in standard_count f s).number

pub record Frames : Type 0 where
  -- a switch, and 21.00 degrees, in their cEMI frames
  pub switch : Cemi.AsLDataInPromise Standard indication (0x29 ∷ 0x00 ∷ to_group 1 (0x00 ∷ 0x81 ∷ [])) (Ok (group_write 1))
  pub switch_data : LData.DataInPromise Standard (group_write 1) (to_group 1 (0x00 ∷ 0x81 ∷ [])) (Ok (record { start = 9; end = 9 }))
  pub switch_six : Application.SixBitPromise 0x81 1
  pub reading : Cemi.AsLDataInPromise Standard indication (0x29 ∷ 0x00 ∷ to_group 3 (0x00 ∷ 0x80 ∷ 0x0C ∷ 0x1A ∷ [])) (Ok (group_write 3))
  pub reading_data : LData.DataPartInPromise Standard (group_write 3) (to_group 3 (0x00 ∷ 0x80 ∷ 0x0C ∷ 0x1A ∷ [])) (0x0C ∷ 0x1A ∷ [])
  pub reading_held : LDataFrame.DataInCountPromise Standard (to_group 3 (0x00 ∷ 0x80 ∷ 0x0C ∷ 0x1A ∷ 0xEE ∷ [])) (0x0C ∷ 0x1A ∷ [])
  -- an extended frame with the largest L; one byte less
  pub largest : number (0x3C ∷ 0xE0 ∷ 0x11 ∷ 0x05 ∷ 0x08 ∷ 0x03 ∷ 254 ∷ 0x00 ∷ 0x80 ∷ replicate 253 0x2A) ≡ 0
  pub largest_cut : number (0x3C ∷ 0xE0 ∷ 0x11 ∷ 0x05 ∷ 0x08 ∷ 0x03 ∷ 254 ∷ 0x00 ∷ 0x80 ∷ replicate 252 0x2A) ≡ 2
  -- fewer than 8 bytes (1); a forbidden L (2): 0 and 255 of a data packet, any but 0 of a control packet; an end past the input (2)
  pub seven : number (0xBC ∷ 0xE0 ∷ 0x11 ∷ 0x05 ∷ 0x08 ∷ 0x03 ∷ 1 ∷ []) ≡ 1
  pub data_of_8 : number (to_group 1 (0x00 ∷ [])) ≡ 2
  pub data_L0 : number (to_group 0 (0x00 ∷ 0x81 ∷ [])) ≡ 2
  pub data_L255 : number (to_group 255 (0x00 ∷ 0x80 ∷ replicate 254 0)) ≡ 2
  pub data_L2_of_9 : number (to_group 2 (0x00 ∷ 0x80 ∷ [])) ≡ 2
  pub control_L1 : number (to_device 1 (0x80 ∷ 0x00 ∷ [])) ≡ 2
  pub control-later : number (to_device 0 (0x80 ∷ 0xEE ∷ [])) ≡ 0
  -- a forbidden L is asked before the end; in the crate's count after it
  pub forbidden_is_second : place (LData.checks standard_count 263 true 255) ≡ 1
  pub end_is_third : place (LData.checks standard_count 8 true 1) ≡ 2
  pub crate_end_is_second : place (LData.checks crate_count 9 true 3) ≡ 1
  pub crate_forbidden_is_third : place (LData.checks crate_count 9 true 1) ≡ 2
  -- `as_ldata` in this count: 6 before 2, then L_Data's 1
  pub code_before_info : in_cemi (record { message_code = LRawInd }) (0x2D ∷ 0xFF ∷ []) ≡ 6
  pub info-alone : in_cemi indication (0x29 ∷ 0xFF ∷ []) ≡ 2
  pub info_before_ldata : in_cemi indication (0x29 ∷ 0x00 ∷ replicate 7 0) ≡ 1
  -- connect, disconnect, ack and nak are four answers, in 8 bytes; a sequence is read beside the code
  pub connect : LData.ParseInPromise Standard (to_device 0 (0x80 ∷ [])) (Ok (control_to UnnumberedControl 0))
  pub disconnect : LData.ParseInPromise Standard (to_device 0 (0x81 ∷ [])) (Ok (control_to UnnumberedControl 1))
  pub ack : LData.ParseInPromise Standard (to_device 0 (0xC2 ∷ [])) (Ok (control_to (NumberedControl 0) 2))
  pub nak : LData.ParseInPromise Standard (to_device 0 (0xC3 ∷ [])) (Ok (control_to (NumberedControl 0) 3))
  pub ack_5 : LData.ParseInPromise Standard (to_device 0 (0xD6 ∷ [])) (Ok (control_to (NumberedControl 5) 2))
  pub connect_values : LData.parse_by01 standard_count (to_device 0 (0x80 ∷ [])) ≡ done (0xB0 ∷ 0x60 ∷ 0x1105 ∷ 0x120A ∷ 0 ∷ 2 ∷ 0 ∷ 2 ∷ 0 ∷ [])
  pub connect_data : LData.data_by01 standard_count (control_to UnnumberedControl 0) (to_device 0 (0x80 ∷ [])) ≡ viewed 8 8
  pub connect_no_read : LData.IsServicePromise 0x000 (control_to UnnumberedControl 0) false
  -- a record made by hand that holds its data: up to the end that L says
  pub held_all : LDataFrame.borrowed_by01 standard_count (group_write 3) (0x0C ∷ 0x1A ∷ []) ≡ viewed 0 2
  pub held_less : (LDataFrame.borrowed_by01 standard_count (group_write 3) (0x0C ∷ [])).number ≡ 2
  pub held_control : LDataFrame.borrowed_by01 standard_count (control_to UnnumberedControl 1) (0xEE ∷ []) ≡ viewed 0 0

pub frames : Frames
frames = record {
  switch = refl;
  switch_data = refl;
  switch_six = refl;
  reading = refl;
  reading_data = refl;
  reading_held = refl;
  largest = refl;
  largest_cut = refl;
  seven = refl;
  data_of_8 = refl;
  data_L0 = refl;
  data_L255 = refl;
  data_L2_of_9 = refl;
  control_L1 = refl;
  control-later = refl;
  forbidden_is_second = refl;
  end_is_third = refl;
  crate_end_is_second = refl;
  crate_forbidden_is_third = refl;
  code_before_info = refl;
  info-alone = refl;
  info_before_ldata = refl;
  connect = refl;
  disconnect = refl;
  ack = refl;
  nak = refl;
  ack_5 = refl;
  connect_values = refl;
  connect_data = refl;
  connect_no_read = refl;
  held_all = refl;
  held_less = refl;
  held_control = refl;
}

-- ---- rows: the builder

abbrev builder : Tpci → ℕ → ℕ → LDataBuilder
builder t code six = record {
  ctrl1 = record { raw = 0xBC };
  ctrl2 = record { raw = 0x60 };
  source = record { 0 = 0x1105 };
  destination_raw = 0x120A;
  tpci = t;
  apci_code = code;
  six_bit = six;
}

-- what it answers for a packet, a code, a six-bit number, n bytes of data and a buffer of m
abbrev answers : Tpci → ℕ → ℕ → ℕ → ℕ → ℕ
answers t code six n m = (tells (LDataBuilder.checks_in standard_count (builder t code six) n m) []).number

pub record Built : Type 0 where
  -- L is data + 1; a frame of no data, and one of two bytes
  pub six-bit : LDataBuilder.BuildInPromise Standard (builder UnnumberedData 0x080 1) [] nines (Ok 9) (0xBC ∷ 0x60 ∷ 0x11 ∷ 0x05 ∷ 0x12 ∷ 0x0A ∷ 0x01 ∷ 0x00 ∷ 0x81 ∷ [])
  pub two_bytes : LDataBuilder.BuildInPromise Standard (builder (NumberedData 5) 0x240 6) (0x0C ∷ 0x1A ∷ []) (nines ++ nines) (Ok 11)
      (0xBC ∷ 0x60 ∷ 0x11 ∷ 0x05 ∷ 0x12 ∷ 0x0A ∷ 0x03 ∷ 0x56 ∷ 0x46 ∷ 0x0C ∷ 0x1A ∷ replicate 7 9)
  -- control packets in 8 bytes, the code in the two low bits
  pub disconnect : LDataBuilder.BuildInPromise Standard (builder UnnumberedControl 1 0) [] nines (Ok 8) (0xBC ∷ 0x60 ∷ 0x11 ∷ 0x05 ∷ 0x12 ∷ 0x0A ∷ 0x00 ∷ 0x81 ∷ 9 ∷ [])
  pub ack : LDataBuilder.BuildInPromise Standard (builder (NumberedControl 5) 2 0) [] nines (Ok 8) (0xBC ∷ 0x60 ∷ 0x11 ∷ 0x05 ∷ 0x12 ∷ 0x0A ∷ 0x00 ∷ 0xD6 ∷ 9 ∷ [])
  -- a data packet: 13 three times, then 5, then 1
  pub sequence_16 : answers (NumberedData 16) 0x080 0 254 0 ≡ 13
  pub code_above : answers UnnumberedData 0x400 0 254 0 ≡ 13
  pub code_between : answers UnnumberedData 0x081 0 254 0 ≡ 13
  pub code_of_control : answers UnnumberedData 3 0 0 9 ≡ 13
  pub six_64 : answers UnnumberedData 0x080 64 254 0 ≡ 13
  pub data_254 : answers UnnumberedData 0x080 63 254 0 ≡ 5
  pub room_261 : answers UnnumberedData 0x080 63 253 261 ≡ 1
  pub room_262 : answers (NumberedData 15) 0x3C0 63 253 262 ≡ 0
  -- a control packet: 13 only for data, a sequence above 15 or a control code above 3; the six-bit number is not looked at; then 1
  pub control_data : answers UnnumberedControl 0 0 1 8 ≡ 13
  pub control_data_254 : answers UnnumberedControl 0 0 254 0 ≡ 13
  pub control_sequence_16 : answers (NumberedControl 16) 2 0 0 0 ≡ 13
  pub control_code_4 : answers UnnumberedControl 4 0 0 0 ≡ 13
  pub control_application_code : answers UnnumberedControl 0x080 0 0 8 ≡ 13
  pub control_six_64 : answers UnnumberedControl 1 64 0 8 ≡ 0
  pub control_room_7 : answers (NumberedControl 15) 3 0 0 7 ≡ 1

pub built : Built
built = record {
  six-bit = (refl, refl);
  two_bytes = (refl, refl);
  disconnect = (refl, refl);
  ack = (refl, refl);
  sequence_16 = refl;
  code_above = refl;
  code_between = refl;
  code_of_control = refl;
  six_64 = refl;
  data_254 = refl;
  room_261 = refl;
  room_262 = refl;
  control_data = refl;
  control_data_254 = refl;
  control_sequence_16 = refl;
  control_code_4 = refl;
  control_application_code = refl;
  control_six_64 = refl;
  control_room_7 = refl;
}
