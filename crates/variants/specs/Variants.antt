-- The variants by the numbers that recorded calls and their lines have for them. Assumes nothing.
use Rattle.std.specs.Prelude.{ℕ, suc, ◌%◌, ◌≡◌, List, [], ◌∷◌}
use Rattle.wire.specs.Coding.{variant_in}
use Rattle.wire.specs.declared.refusals.Refusal.{Refusal}
use Rattle.wire.specs.declared.refusals.Refusal.TheVariants.{BufferTooSmall, InvalidFrame, UnsupportedVersion, UnsupportedServiceType, PayloadTooLarge, InvalidMessageCode, AlreadyOpen, TableFull, NotOpen, AwaitsAck, AwaitsNothing, NotForTunnels, FieldOutOfRange, InvalidAdditionalInfo}
use Rattle.additional_info.specs.declared.info_type.AdditionalInfoType.{AdditionalInfoType}
use Rattle.additional_info.specs.declared.info_type.AdditionalInfoType.TheVariants.{PlMediumInfo, RfMediumInfo, BusmonitorErrorFlags, RelativeTimestamp, TimeDelay, ExtendedRelativeTimestamp, BiBatInfo}
use Rattle.constants.specs.declared.services.ServiceType.{ServiceType}
use Rattle.constants.specs.declared.services.ServiceType.TheVariants.{ConnectRequest, ConnectResponse, ConnectionstateRequest, ConnectionstateResponse, DisconnectRequest, DisconnectResponse, TunnellingRequest, TunnellingAck}
use Rattle.constants.specs.declared.message_codes.CEMIMessageCode.{CEMIMessageCode}
use Rattle.constants.specs.declared.message_codes.CEMIMessageCode.TheVariants.{LDataReq, LDataInd, LDataCon, LRawReq, LRawInd, LRawCon, LBusmonInd}
use Rattle.constants.specs.declared.priorities.Priority.{Priority}
use Rattle.constants.specs.declared.priorities.Priority.TheVariants.{System, Normal, Urgent, Low}
use Rattle.pci.specs.declared.application.Apci.{Apci}
use Rattle.pci.specs.declared.application.Apci.TheVariants.{GroupValueRead, GroupValueResponse, GroupValueWrite, IndividualAddressWrite, IndividualAddressRead, IndividualAddressResponse, AdcRead, AdcResponse, MemoryRead, MemoryResponse, MemoryWrite, DeviceDescriptorRead, DeviceDescriptorResponse, Unknown, Control}
use Rattle.pci.specs.declared.transport.Tpci.{Tpci}
use Rattle.pci.specs.declared.transport.Tpci.TheVariants.{UnnumberedData, NumberedData, UnnumberedControl, NumberedControl}

-- a list of variants, numbered on from a number
abbrev pub numbered : {E : Type 0} → ℕ → List E → List (ℕ × E)
numbered k [] = []
numbered k (e ∷ es) = (k, e) ∷ numbered (suc k) es

-- ---- services

abbrev pub service_number : ServiceType → ℕ
service_number ConnectRequest = 1
service_number ConnectResponse = 2
service_number ConnectionstateRequest = 3
service_number ConnectionstateResponse = 4
service_number DisconnectRequest = 5
service_number DisconnectResponse = 6
service_number TunnellingRequest = 7
service_number TunnellingAck = 8

abbrev pub ServicePromise : ServiceType → ℕ → Type 0
ServicePromise s r = r ≡ service_number s

-- a record names a known one; any other number is the last
abbrev pub ServiceOfPromise : ℕ → ServiceType → Type 0
ServiceOfPromise n r = r ≡ variant_in (numbered 1 (ConnectRequest ∷ ConnectResponse ∷ ConnectionstateRequest ∷ ConnectionstateResponse ∷ DisconnectRequest ∷ DisconnectResponse ∷ TunnellingRequest ∷ [])) TunnellingAck n

-- ---- message codes

abbrev pub message_number : CEMIMessageCode → ℕ
message_number LDataReq = 1
message_number LDataInd = 2
message_number LDataCon = 3
message_number LRawReq = 4
message_number LRawInd = 5
message_number LRawCon = 6
message_number LBusmonInd = 7

abbrev pub MessageCodePromise : CEMIMessageCode → ℕ → Type 0
MessageCodePromise m r = r ≡ message_number m

abbrev pub MessageCodeOfPromise : ℕ → CEMIMessageCode → Type 0
MessageCodeOfPromise n r = r ≡ variant_in (numbered 1 (LDataReq ∷ LDataInd ∷ LDataCon ∷ LRawReq ∷ LRawInd ∷ LRawCon ∷ [])) LBusmonInd n

-- ---- priorities

abbrev pub priority_number : Priority → ℕ
priority_number System = 1
priority_number Normal = 2
priority_number Urgent = 3
priority_number Low = 4

abbrev pub PriorityPromise : Priority → ℕ → Type 0
PriorityPromise p r = r ≡ priority_number p

abbrev pub PriorityOfPromise : ℕ → Priority → Type 0
PriorityOfPromise n r = r ≡ variant_in (numbered 1 (System ∷ Normal ∷ Urgent ∷ [])) Low n

-- ---- APCI: 0 is `Unknown`, whatever its code, and 14 `Control`

abbrev pub apci_number : Apci → ℕ
apci_number GroupValueRead = 1
apci_number GroupValueResponse = 2
apci_number GroupValueWrite = 3
apci_number IndividualAddressWrite = 4
apci_number IndividualAddressRead = 5
apci_number IndividualAddressResponse = 6
apci_number AdcRead = 7
apci_number AdcResponse = 8
apci_number MemoryRead = 9
apci_number MemoryResponse = 10
apci_number MemoryWrite = 11
apci_number DeviceDescriptorRead = 12
apci_number DeviceDescriptorResponse = 13
apci_number (Unknown code) = 0
apci_number (Control code) = 14

abbrev pub ApciPromise : Apci → ℕ → Type 0
ApciPromise a r = r ≡ apci_number a

abbrev pub ApciOfPromise : ℕ → ℕ → Apci → Type 0
ApciOfPromise n code r =
    r ≡ variant_in (numbered 1 (GroupValueRead ∷ GroupValueResponse ∷ GroupValueWrite ∷ IndividualAddressWrite ∷ IndividualAddressRead ∷ IndividualAddressResponse ∷ AdcRead ∷ AdcResponse ∷ MemoryRead ∷ MemoryResponse ∷ MemoryWrite ∷ DeviceDescriptorRead ∷ DeviceDescriptorResponse ∷ Control (code % 256) ∷ [])) (Unknown code) n

-- ---- TPCI: its kind, 0 to 3, and its sequence, of which an unnumbered packet has none: 0

abbrev pub kind_number : Tpci → ℕ
kind_number UnnumberedData = 0
kind_number (NumberedData sequence) = 1
kind_number UnnumberedControl = 2
kind_number (NumberedControl sequence) = 3

abbrev pub KindPromise : Tpci → ℕ → Type 0
KindPromise t r = r ≡ kind_number t

abbrev pub sequence_number : Tpci → ℕ
sequence_number UnnumberedData = 0
sequence_number (NumberedData sequence) = sequence
sequence_number UnnumberedControl = 0
sequence_number (NumberedControl sequence) = sequence

abbrev pub SequencePromise : Tpci → ℕ → Type 0
SequencePromise t r = r ≡ sequence_number t

abbrev pub TpciOfPromise : ℕ → ℕ → Tpci → Type 0
TpciOfPromise kind sequence r = r ≡ variant_in (numbered 0 (UnnumberedData ∷ NumberedData sequence ∷ UnnumberedControl ∷ [])) (NumberedControl sequence) kind

-- ---- types of additional information: 0 is `Unknown`, whatever its code

abbrev pub info_type_number : AdditionalInfoType → ℕ
info_type_number PlMediumInfo = 1
info_type_number RfMediumInfo = 2
info_type_number BusmonitorErrorFlags = 3
info_type_number RelativeTimestamp = 4
info_type_number TimeDelay = 5
info_type_number ExtendedRelativeTimestamp = 6
info_type_number BiBatInfo = 7
info_type_number (AdditionalInfoType.Unknown code) = 0

abbrev pub InfoTypePromise : AdditionalInfoType → ℕ → Type 0
InfoTypePromise t r = r ≡ info_type_number t

-- ---- refusals, by 01's and 02's numbers

abbrev pub RefusalOfPromise : ℕ → Refusal → Type 0
RefusalOfPromise n r = r ≡ variant_in (numbered 1 (BufferTooSmall ∷ InvalidFrame ∷ UnsupportedVersion ∷ UnsupportedServiceType ∷ PayloadTooLarge ∷ InvalidMessageCode ∷ AlreadyOpen ∷ TableFull ∷ NotOpen ∷ AwaitsAck ∷ AwaitsNothing ∷ NotForTunnels ∷ FieldOutOfRange ∷ [])) InvalidAdditionalInfo n
