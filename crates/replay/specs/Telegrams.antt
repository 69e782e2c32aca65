-- What a line tells of an L_Data frame: its fields; what it asks of a group; its destination. Assumes nothing.
use Rattle.std.specs.Prelude.{ℕ, ◌+◌, ◌*◌, ◌≡◌, Bool, cond, false, List, [], ◌∷◌, ◌++◌}
use Rattle.wire.specs.declared.parts.View.{View}
use Rattle.control.specs.Bits.{bit}
use Rattle.pci.specs.Application.{code_of, is_named}
use Rattle.variants.specs.Variants.{kind_number, sequence_number, apci_number}
use Rattle.ldata.specs.declared.ldata.LDataFields.{LDataFields}
use Rattle.replay.specs.Telling.{remainder_from}
use Rattle.replay.specs.declared.telling.Told.{Told}

-- TPCI by kind and sequence, APCI by its variant and its code
abbrev pub fields_of : LDataFields → List ℕ
fields_of f =
    f.ctrl1.raw ∷ f.ctrl2.raw ∷ f.source.0 ∷ f.destination_raw ∷ f.npdu_length ∷ kind_number f.tpci ∷ sequence_number f.tpci ∷ apci_number f.apci ∷ code_of f.apci ∷ []

-- twelve values: the fields, where the data stands, and the remainder of its bytes
abbrev pub telegram_of : LDataFields → View → List ℕ → Told
telegram_of f view part =
    record { number = 0; count = 12; values = fields_of f ++ view.start ∷ view.end ∷ remainder_from 0 part ∷ 0 ∷ 0 ∷ 0 ∷ 0 ∷ []; lends = false; refusals = 0; offsets = 0 ∷ 0 ∷ 0 ∷ 0 ∷ [] }

abbrev pub TelegramPromise : LDataFields → View → List ℕ → Told → Type 0
TelegramPromise f view part r = r ≡ telegram_of f view part

-- 1 for a write, 2 for a read, 4 for a response, added up
abbrev pub asked_of : LDataFields → ℕ
asked_of f = cond (is_named f.apci 0x080) 1 0 + 2 * cond (is_named f.apci 0x000) 1 0 + 4 * cond (is_named f.apci 0x040) 1 0

-- as a group and as an individual address, each one more than its number, none as 0; bit 7 of control 2 says which it is
abbrev pub destination_of : Bool → ℕ → List ℕ
destination_of group raw = cond group (raw + 1) 0 ∷ cond group 0 (raw + 1) ∷ []

abbrev pub AsksPromise : LDataFields → List ℕ → Type 0
AsksPromise f r = r ≡ asked_of f ∷ destination_of (bit 128 f.ctrl2.raw) f.destination_raw
