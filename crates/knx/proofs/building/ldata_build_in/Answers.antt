-- `ldata_build_in` keeps its contract. Assumes nothing.
use Rattle.std.proofs.Common.{◌≡◌}
use Rattle.ldata.specs.Builder.{BuildInPromise}
use Rattle.knx.specs.Building.{builder_of}
use Rattle.knx.specs.BuildingLaws.{as_told, tpci_is}
use Rattle.knx.proofs.building.ldata_build_in.Goals as goal

pub returns : goal.returns
returns c =
    let a = c.args in
    let made : record {
      ctrl1 = c.from_u8-ctrl1.result;
      ctrl2 = c.from_u8-ctrl2.result;
      source = c.from_u16-from.result;
      destination_raw = a.destination;
      tpci = c.from_byte-packet.result;
      apci_code = a.apci_code;
      six_bit = a.six_bit;
    } ≡ builder_of a.control_1 a.control_2 a.source a.destination a.tpci a.apci_code a.six_bit =
    rw (c.from_u8-ctrl1.ensures, c.from_u8-ctrl2.ensures, c.from_u16-from.ensures, tpci_is a.tpci c.from_byte-packet.result c.from_byte-packet.ensures) in
    as_told (λ q. BuildInPromise a.counting q a.«data».now a.out.now) _ _ c.build_in.result _ _ made c.build_in.ensures c.written.ensures
