-- 01, "Cases on both sides": the P rows, proved together as one table.
use Rattle.std.specs.Prelude.{ℕ, ◌≡◌, refl, List, [], ◌∷◌, get_or, Ok, Some}
use Rattle.wire.specs.Told.{Told, viewed}
use Rattle.wire.specs.Parts.{shown}
use Rattle.wire.specs.declared.refusals.Refusal.TheVariants.{BufferTooSmall}
use Rattle.constants.specs.declared.services.ServiceType.TheVariants.{TunnellingRequest}
use Rattle.pci.specs.Application.{apci_of, code_in, SixBitPromise}
use Rattle.pci.specs.declared.transport.Tpci.TheVariants.{UnnumberedData}
use Rattle.pci.specs.declared.application.Apci.TheVariants.{GroupValueWrite, Unknown}
use Rattle.ldata.specs.Count.{crate_count}
use Rattle.ldata.specs.LData as LData
use Rattle.ldata.specs.declared.ldata.LDataFields.{LDataFields}
use Rattle.header.specs.Header as Header
use Rattle.frame.specs.Frame as Frame
use Rattle.frame.specs.RoundTrip.{built}
use Rattle.tunnel.specs.declared.rules.Wait.{Wait}
use Rattle.tunnel.specs.declared.rules.Said.TheVariants.{Deliver}
use Rattle.tunnel_model.specs.Store.{step}
use Rattle.tunnel.specs.Numbers.{said_of}
use Rattle.tunnel_model.specs.Calls.{Datagram, refuses_at}
use Rattle.tunnel_model.specs.Lone.{lone}
use Rattle.tunnel_model.specs.Table.{chan, store_of}
use Rattle.tunnel_table.specs.Places.{Place, kind}
use Rattle.claims.specs.Examples.{request, room}

abbrev as_frame : List ℕ → ℕ
as_frame s = (Frame.parse_by01 s).number

abbrev as_header : List ℕ → ℕ
as_header s = (Header.parse_by01 s).number

-- a tunnelling request with an empty body
abbrev bare : List ℕ
bare = 0x06 ∷ 0x10 ∷ 0x04 ∷ 0x20 ∷ 0x00 ∷ 0x06 ∷ []

-- an L_Data frame with this L and what follows it
abbrev pub ldata : ℕ → List ℕ → List ℕ
ldata l rest = 0x94 ∷ 0xE0 ∷ 0x11 ∷ 0x05 ∷ 0x08 ∷ 0x03 ∷ l ∷ rest

-- a group write from 1.1.5 to 1/0/3
abbrev pub group_write : ℕ → LDataFields
group_write l = record {
  ctrl1 = record { raw = 0x94 };
  ctrl2 = record { raw = 0xE0 };
  source = record { 0 = 0x1105 };
  destination_raw = 0x0803;
  npdu_length = l;
  tpci = UnnumberedData;
  apci = GroupValueWrite;
}

abbrev as_ldata : List ℕ → Told
as_ldata = LData.parse_by01 crate_count

abbrev data_in : LDataFields → List ℕ → List ℕ
data_in f s = shown s (LData.data_by01 crate_count f s)

-- the acknowledgement of that request, in an output of twelve bytes
abbrev acked : List ℕ
acked = 0x06 ∷ 0x10 ∷ 0x04 ∷ 0x21 ∷ 0x00 ∷ 0x0B ∷ 0x04 ∷ 21 ∷ 255 ∷ 0x00 ∷ 0x00 ∷ 9 ∷ []

pub record P : Type 0 where
  pub empty : as_frame [] ≡ 1
  pub five : (a b c d e : ℕ) → as_frame (a ∷ b ∷ c ∷ d ∷ e ∷ []) ≡ 1
  pub length_byte : as_frame (0x05 ∷ 0x20 ∷ 0x04 ∷ 0x20 ∷ 0x00 ∷ 0x06 ∷ []) ≡ 2
  pub version : as_frame (0x06 ∷ 0x20 ∷ 0x04 ∷ 0x20 ∷ 0x00 ∷ 0x06 ∷ []) ≡ 3
  pub service : as_frame (0x06 ∷ 0x10 ∷ 0xFF ∷ 0xFF ∷ 0x00 ∷ 0x06 ∷ []) ≡ 4
  pub total_as_frame : as_frame (0x06 ∷ 0x10 ∷ 0x04 ∷ 0x20 ∷ 0x00 ∷ 0x05 ∷ []) ≡ 2
  pub total_as_header : as_header (0x06 ∷ 0x10 ∷ 0x04 ∷ 0x20 ∷ 0x00 ∷ 0x05 ∷ []) ≡ 0
  pub bare-frame : Frame.parse_by01 bare ≡ Frame.told (Ok (built TunnellingRequest []))
  pub bare-body : Frame.body_by01 (built TunnellingRequest []) bare ≡ viewed 6 6
  pub bare_datagram : (l : List Place) (out : List ℕ) → step chan (store_of kind) l (Datagram bare out) ≡ (refuses_at (record { why = BufferTooSmall; at = 6 }) out, l)
  pub write_2A : as_ldata (ldata 3 (0x00 ∷ 0x80 ∷ 0x2A ∷ [])) ≡ LData.told (Ok (group_write 3))
  pub write_2A_data : data_in (group_write 3) (ldata 3 (0x00 ∷ 0x80 ∷ 0x2A ∷ [])) ≡ 0x2A ∷ []
  pub write_L4 : (as_ldata (ldata 4 (0x00 ∷ 0x80 ∷ 0x2A ∷ []))).number ≡ 2
  pub write_L1 : (as_ldata (ldata 1 (0x00 ∷ 0x81 ∷ []))).number ≡ 2
  pub write_L2 : as_ldata (ldata 2 (0x00 ∷ 0x81 ∷ [])) ≡ LData.told (Ok (group_write 2))
  pub write_L2_data : data_in (group_write 2) (ldata 2 (0x00 ∷ 0x81 ∷ [])) ≡ []
  pub write_L2_six : SixBitPromise (get_or (ldata 2 (0x00 ∷ 0x81 ∷ [])) 8 0) 1
  pub apci_02_C0 : apci_of (code_in 0x02 0xC0) ≡ Unknown 0x2C0
  pub r_255 : (s : ℕ) (w : Wait) → lone (record { r = 255; s = s; w = w }) (Datagram (request 21 255) room)
      ≡ ((record { number = 0; values = said_of Deliver ∷ 11 ∷ []; start = 10; end = 12; offset = 0 }, acked), Some (record { r = 0; s = s; w = w }))

pub rows : P
rows = record {
  empty = refl;
  five = λ a b c d e. refl;
  length_byte = refl;
  version = refl;
  service = refl;
  total_as_frame = refl;
  total_as_header = refl;
  bare-frame = refl;
  bare-body = refl;
  bare_datagram = λ l out. refl;
  write_2A = refl;
  write_2A_data = refl;
  write_L4 = refl;
  write_L1 = refl;
  write_L2 = refl;
  write_L2_data = refl;
  write_L2_six = refl;
  apci_02_C0 = refl;
  r_255 = λ s w. refl;
}
