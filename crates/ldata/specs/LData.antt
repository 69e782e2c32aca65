-- 01, "L_Data": control 1, control 2, source, destination, length L, TPCI, and for data packets APCI; over how L counts. Assumes nothing.
use Rattle.std.specs.Prelude.{ℕ, ◌≡◌, Bool, not, cond, List, [], ◌∷◌, ◌++◌, length, get_or, take, ltb, Result, Ok, Err, Option, Some, None}
use Rattle.wire.specs.Told.{Told, done, viewed, refused, Check, ◌⇒◌, judged}
use Rattle.wire.specs.Places.{located}
use Rattle.wire.specs.Layout.{Field, byte, word, get}
use Rattle.wire.specs.Parts.{shown}
use Rattle.wire.specs.Parts as Parts
use Rattle.wire.specs.declared.refusals.Refusal.TheVariants.{BufferTooSmall, InvalidFrame}
use Rattle.wire.specs.declared.parts.View.{View}
use Rattle.control.specs.Bits.{bit}
use Rattle.pci.specs.Transport.{kind_of, sequence_of, is_data}
use Rattle.pci.specs.Transport as Transport
use Rattle.pci.specs.Application.{code_in, apci_of, is_named}
use Rattle.pci.specs.Application as Application
use Rattle.pci.specs.declared.application.Apci.{Apci}
use Rattle.ldata.specs.Count.{Count, start_of, crate_count, count_by}
use Rattle.ldata.specs.declared.count.Counting.{Counting}
use Rattle.ldata.specs.declared.ldata.LDataFields.{LDataFields}
use Rattle.wire.specs.declared.refusals.Fault.{Fault}
use Rattle.address.specs.declared.GroupAddress.{GroupAddress}
use Rattle.address.specs.declared.IndividualAddress.{IndividualAddress}

-- ---- the layout

-- control 1, control 2, source, destination, L, TPCI; the APCI byte of a data packet comes next
abbrev pub fields : List Field
fields = byte ∷ byte ∷ word ∷ word ∷ byte ∷ byte ∷ []

-- L, and the TPCI byte, among those values
abbrev pub length_in : List ℕ → ℕ
length_in vs = get_or vs 4 0

abbrev pub tpci_in : List ℕ → ℕ
tpci_in vs = get_or vs 5 0

-- a TPCI byte is a data packet's
abbrev pub data_byte : ℕ → Bool
data_byte b = ltb (kind_of b) 2

-- the APCI of a data packet; a control packet's is the count's
abbrev pub apci_in : Count → Bool → ℕ → ℕ → Apci
apci_in C d first second = cond d (apci_of (code_in first second)) (C.control_apci first)

abbrev pub ApciPromise : Counting → Bool → ℕ → ℕ → Apci → Type 0
ApciPromise c d first second r = r ≡ apci_in (count_by c) d first second

-- the values of a record, and those that bytes hold: the TPCI byte is kind and sequence, and APCI is what its code is of, and the code
abbrev pub values : LDataFields → List ℕ
values f = f.ctrl1.raw ∷ f.ctrl2.raw ∷ f.source.0 ∷ f.destination_raw ∷ f.npdu_length ∷ Transport.values f.tpci ++ Application.values f.apci

abbrev pub values_by : Count → List ℕ → ℕ → List ℕ
values_by C vs second =
    take 5 vs ++ kind_of (tpci_in vs) ∷ sequence_of (tpci_in vs) ∷ Application.values (apci_in C (data_byte (tpci_in vs)) (tpci_in vs) second)

abbrev pub values_in : Count → List ℕ → List ℕ
values_in C s = values_by C (get fields 0 s) (get_or s 8 0)

-- ---- checks

-- an input of n bytes shorter than the end (2); an L that is not allowed (2)
abbrev pub end_check : Count → ℕ → ℕ → Check
end_check C n l = ltb n (C.end_of l) ⇒ InvalidFrame

abbrev pub length_check : Count → Bool → ℕ → Check
length_check C d l = not (C.allowed d l) ⇒ InvalidFrame

-- fewer bytes than the least size (1), then these two in the count's order
abbrev pub checks : Count → ℕ → Bool → ℕ → List Check
checks C n d l =
    ltb n C.least ⇒ BufferTooSmall
    ∷ cond C.allowed_first (length_check C d l ∷ end_check C n l ∷ []) (end_check C n l ∷ length_check C d l ∷ [])

-- beside them, the input's end, then L's offset for both, in either order
abbrev pub length_offsets : List ℕ
length_offsets = 6 ∷ 6 ∷ []

abbrev pub offsets : ℕ → List ℕ
offsets n = n ∷ length_offsets

abbrev pub told : Result LDataFields Fault → Told
told (Ok f) = done (values f)
told (Err e) = refused 9 e

abbrev pub byte_checks : Count → List ℕ → List Check
byte_checks C s = checks C (length s) (data_byte (tpci_in (get fields 0 s))) (length_in (get fields 0 s))

abbrev pub parse_by01 : Count → List ℕ → Told
parse_by01 C s = judged (byte_checks C s) (done (values_in C s))

-- and where: a switch telegram whose L is 7 is 2 at 6
abbrev pub parse_where : Count → List ℕ → Told
parse_where C s = located (byte_checks C s) (offsets (length s)) (parse_by01 C s)

-- "An accessor given a record that no parse made repeats that record's parse checks first, with their numbers."
abbrev pub record_checks : Count → LDataFields → ℕ → List Check
record_checks C f n = checks C n (is_data f.tpci) f.npdu_length

abbrev pub data_by01 : Count → LDataFields → List ℕ → Told
data_by01 C f s = judged (record_checks C f (length s)) (viewed (start_of (is_data f.tpci)) (C.end_of f.npdu_length))

abbrev pub data_where : Count → LDataFields → List ℕ → Told
data_where C f s = located (record_checks C f (length s)) (offsets (length s)) (data_by01 C f s)

-- ---- what the functions promise, with the crate's count

abbrev pub ParsePromise : List ℕ → Result LDataFields Fault → Type 0
ParsePromise s r = told r ≡ parse_where crate_count s

abbrev pub DataPromise : LDataFields → List ℕ → Result View Fault → Type 0
DataPromise f s r = Parts.told r ≡ data_where crate_count f s

abbrev pub DataPartPromise : LDataFields → List ℕ → List ℕ → Type 0
DataPartPromise f s r = r ≡ shown s (data_by01 crate_count f s)

-- ---- the same in the count that they are given

abbrev pub ParseInPromise : Counting → List ℕ → Result LDataFields Fault → Type 0
ParseInPromise c s r = told r ≡ parse_where (count_by c) s

abbrev pub DataInPromise : Counting → LDataFields → List ℕ → Result View Fault → Type 0
DataInPromise c f s r = Parts.told r ≡ data_where (count_by c) f s

abbrev pub DataPartInPromise : Counting → LDataFields → List ℕ → List ℕ → Type 0
DataPartInPromise c f s r = r ≡ shown s (data_by01 (count_by c) f s)

-- ---- whom it is for, and what it asks

-- an address, or none
abbrev pub told_group : Option GroupAddress → Told
told_group (Some a) = done (1 ∷ a.0 ∷ [])
told_group None = done (0 ∷ 0 ∷ [])

abbrev pub told_individual : Option IndividualAddress → Told
told_individual (Some a) = done (1 ∷ a.0 ∷ [])
told_individual None = done (0 ∷ 0 ∷ [])

abbrev pub address_if : Bool → ℕ → Told
address_if b n = cond b (done (1 ∷ n ∷ [])) (done (0 ∷ 0 ∷ []))

-- "control 2 bit 7 says which the destination is"
abbrev pub DestinationGroupPromise : LDataFields → Option GroupAddress → Type 0
DestinationGroupPromise f r = told_group r ≡ address_if (bit 128 f.ctrl2.raw) f.destination_raw

abbrev pub DestinationIndividualPromise : LDataFields → Option IndividualAddress → Type 0
DestinationIndividualPromise f r = told_individual r ≡ address_if (not (bit 128 f.ctrl2.raw)) f.destination_raw

-- by its name: `Unknown` of the same code is another service, and a control packet asks none
abbrev pub IsServicePromise : ℕ → LDataFields → Bool → Type 0
IsServicePromise code f r = r ≡ is_named f.apci code
