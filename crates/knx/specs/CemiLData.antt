-- From cEMI to L_Data at the border: the checks of `CEMIFrame::parse` and `as_ldata`, and every number that they let through; over how L counts. Assumes nothing.
use Rattle.std.specs.Prelude.{ℕ, ◌+◌, ◌%◌, ◌≡◌, Bool, cond, List, [], ◌∷◌, ◌++◌, get_or, take, Result, Ok}
use Rattle.wire.specs.Told.{Told, done, Check, judged, refused}
use Rattle.wire.specs.Places.{located}
use Rattle.wire.specs.Layout.{get}
use Rattle.wire.specs.declared.refusals.Fault.{Fault}
use Rattle.constants.specs.MessageCodes.{message_of}
use Rattle.pci.specs.Application as Application
use Rattle.pci.specs.declared.application.Apci.{Apci}
use Rattle.ldata.specs.Count.{Count, start_of, crate_count, standard_count, count_by}
use Rattle.ldata.specs.LData.{tpci_in, length_in, data_byte, values_in, byte_checks}
use Rattle.ldata.specs.LData as LData
use Rattle.ldata.specs.declared.count.Counting.{Counting}
use Rattle.ldata.specs.declared.ldata.LDataFields.{LDataFields}
use Rattle.cemi.specs.Cemi.{code_in, info_length, service_info, ldata_checks, ldata_offsets, rest_offsets}
use Rattle.cemi.specs.Cemi as Cemi
use Rattle.cemi.specs.declared.CEMIFrame.{CEMIFrame}
use Rattle.knx.specs.declared.cemi_ldata.Service.{Service}
use Rattle.knx.specs.declared.cemi_ldata.KnxLData.{KnxLData}

-- the code of the cEMI frame, the numbers of the L_Data record, the six-bit number, and where the data stands in the cEMI bytes
abbrev pub told : KnxLData → Told
told r = record {
  number = r.number;
  values =
      r.message_code ∷ r.control_1 ∷ r.control_2 ∷ r.source ∷ r.destination ∷ r.npdu_length ∷ r.tpci_kind ∷ r.tpci_sequence
      ∷ r.apci_named ∷ r.apci_code ∷ r.control_code ∷ r.six_bit ∷ [];
  start = r.start;
  end = r.end;
  offset = r.offset;
}

-- the record that the parse makes of these bytes
abbrev pub frame_in : List ℕ → CEMIFrame
frame_in s = record { message_code = message_of (code_in s) }

-- those of the parse, those before L_Data, and those of L_Data on the rest
abbrev pub checks_in : Count → List ℕ → List Check
checks_in C s = Cemi.checks s ++ ldata_checks (frame_in s) s ++ byte_checks C (service_info s)

abbrev pub checks : List ℕ → List Check
checks s = checks_in crate_count s

-- beside them, in either count, the offsets of each part, moved by where it starts
abbrev pub offsets : List ℕ → List ℕ
offsets s = Cemi.offsets s ++ ldata_offsets ++ rest_offsets s

-- an answer with the offset of the check that decided
abbrev pub found_in : Count → List ℕ → Told → Told
found_in C s t = located (checks_in C s) (offsets s) t

-- whether the rest is a data packet
abbrev pub data_in : List ℕ → Bool
data_in rest = data_byte (tpci_in (get LData.fields 0 rest))

-- an APCI in three numbers: whether it is a named service, the code of a data packet, and the control code of a control packet
abbrev pub apci_numbers : Bool → Apci → List ℕ
apci_numbers d a = cond (Application.is_unknown a) 0 1 ∷ cond d (Application.code_of a) 0 ∷ cond d 0 (Application.code_of a) ∷ []

-- whether the service of two bytes has a name, as a number
abbrev pub named_in : ℕ → ℕ → ℕ
named_in first second = cond (Application.is_unknown (Application.apci_of (Application.code_in first second))) 0 1

-- "The six-bit number is read from the APCI byte"; a control packet has none
abbrev pub six_bit_in : Bool → ℕ → ℕ
six_bit_in d second = cond d (second % 64) 0

-- the three numbers of the APCI that two bytes hold, and the six-bit number
abbrev pub service_in : Count → Bool → ℕ → ℕ → List ℕ
service_in C d first second = apci_numbers d (LData.apci_in C d first second) ++ six_bit_in d second ∷ []

abbrev pub ServiceInPromise : Counting → Bool → ℕ → ℕ → Service → Type 0
ServiceInPromise c d first second r = r.apci_named ∷ r.apci_code ∷ r.control_code ∷ r.six_bit ∷ [] ≡ service_in (count_by c) d first second

-- the view of the data is that of L_Data, moved by where L_Data starts
abbrev pub numbers_in : Count → List ℕ → Told
numbers_in C s = record {
  number = 0;
  values =
      code_in s ∷ take 7 (values_in C (service_info s)) ++ service_in C (data_in (service_info s)) (get_or (service_info s) 7 0) (get_or (service_info s) 8 0);
  start = 2 + info_length s + start_of (data_in (service_info s));
  end = 2 + info_length s + C.end_of (length_in (get LData.fields 0 (service_info s)));
  offset = 0;
}

abbrev pub ldata_in : List ℕ → Told
ldata_in s = numbers_in crate_count s

abbrev pub CemiLDataPromise : List ℕ → KnxLData → Type 0
CemiLDataPromise s r = told r ≡ found_in crate_count s (judged (checks s) (ldata_in s))

-- in the standard count
abbrev pub CemiLDataStandardPromise : List ℕ → KnxLData → Type 0
CemiLDataStandardPromise s r = told r ≡ found_in standard_count s (judged (checks_in standard_count s) (numbers_in standard_count s))

-- in the count that is given
abbrev pub CemiLDataInPromise : Counting → List ℕ → KnxLData → Type 0
CemiLDataInPromise c s r = told r ≡ found_in (count_by c) s (judged (checks_in (count_by c) s) (numbers_in (count_by c) s))

-- what parse and as_ldata together answer
abbrev pub AnswerInPromise : Counting → List ℕ → Result LDataFields Fault → Type 0
AnswerInPromise c s a = LData.told a ≡ found_in (count_by c) s (judged (checks_in (count_by c) s) (done (values_in (count_by c) (service_info s))))

-- twelve zeros beside the number
abbrev pub RefusedPromise : Fault → KnxLData → Type 0
RefusedPromise e r = told r ≡ refused 12 e

-- what is read once the L_Data is known to be accepted
abbrev pub Accepted : Counting → List ℕ → LDataFields → Type 0
Accepted c s f = LData.ParseInPromise c (service_info s) (Ok f)

abbrev pub ReadPromise : Counting → List ℕ → KnxLData → Type 0
ReadPromise c s r = told r ≡ numbers_in (count_by c) s
