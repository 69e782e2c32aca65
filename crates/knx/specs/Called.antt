-- What the border's calls on the table promise: the image that is lent takes one step of 01's table. Assumes nothing.
use Rattle.std.specs.Prelude.{ℕ, ◌≡◌, List, [], ◌∷◌, length, Result, Ok, Err}
use Rattle.wire.specs.Told.{Told, refused}
use Rattle.wire.specs.Writing.{leaves, room}
use Rattle.wire.specs.declared.refusals.Fault.{Fault}
use Rattle.tunnelling.specs.declared.form.Form.{Form}
use Rattle.tunnelling.specs.declared.form.Form.TheVariants.{Standard}
use Rattle.tunnel_model.specs.Calls.{Call, Open, Close, Timeout, Send, Datagram, DatagramIn}
use Rattle.tunnel_model.specs.Table.{empty_of}
use Rattle.tunnel_table.specs.Places.{kind}
use Rattle.tunnel_table.specs.Table as Table
use Rattle.tunnel_table.specs.declared.table.Called.{Called}
use Rattle.tunnel_image.specs.Image.{packed, PackPromise, on_image}
use Rattle.knx.specs.Building.{Tells}
use Rattle.knx.specs.declared.building.KnxWritten.{KnxWritten}
use Rattle.knx.specs.declared.called.KnxCalled.{KnxCalled}

-- what is said, by the numbers of `said_of`, and the count of bytes written; the view
abbrev pub told : KnxCalled → Told
told r = record { number = r.number; values = r.said ∷ r.written ∷ []; start = r.start; end = r.end; offset = r.offset }

-- the answer, the output afterwards and the image afterwards
abbrev pub CallPromise : List ℕ → Call → KnxCalled → List ℕ → List ℕ → Type 0
CallPromise image c r after out = ((told r, out), after) ≡ on_image image c

abbrev pub OpenPromise : List ℕ → ℕ → KnxCalled → List ℕ → Type 0
OpenPromise image id r after = CallPromise image (Open id) r after []

abbrev pub ClosePromise : List ℕ → ℕ → KnxCalled → List ℕ → Type 0
ClosePromise image id r after = CallPromise image (Close id) r after []

abbrev pub TimeoutPromise : List ℕ → ℕ → KnxCalled → List ℕ → Type 0
TimeoutPromise image id r after = CallPromise image (Timeout id) r after []

abbrev pub SendPromise : List ℕ → ℕ → List ℕ → List ℕ → KnxCalled → List ℕ → List ℕ → Type 0
SendPromise image id cemi before r after out = CallPromise image (Send id cemi before) r after out

abbrev pub DatagramPromise : List ℕ → List ℕ → List ℕ → KnxCalled → List ℕ → List ℕ → Type 0
DatagramPromise image bytes before r after out = CallPromise image (Datagram bytes before) r after out

-- the same in the form of an acknowledgement that is given
abbrev pub DatagramInPromise : Form → List ℕ → List ℕ → List ℕ → KnxCalled → List ℕ → List ℕ → Type 0
DatagramInPromise f image bytes before r after out = CallPromise image (DatagramIn f bytes before) r after out

abbrev pub DatagramStandardPromise : List ℕ → List ℕ → List ℕ → KnxCalled → List ℕ → List ℕ → Type 0
DatagramStandardPromise image bytes before r after out = DatagramInPromise Standard image bytes before r after out

-- the image of the empty table
abbrev pub EmptyPromise : List ℕ → KnxWritten → List ℕ → Type 0
EmptyPromise image r after = Tells (PackPromise (empty_of kind 8) image) r after

-- ---- the code's parts

abbrev pub RefusedPromise : Fault → KnxCalled → Type 0
RefusedPromise e r = told r ≡ refused 2 e

-- what the table gave is told, and the image is that of the table afterwards; a refusal leaves it as it was
abbrev pub KeepPromise : Result Called Fault → List ℕ → KnxCalled → List ℕ → Type 0
KeepPromise (Ok q) image r after = (told r ≡ Table.told q) × (after ≡ leaves (room (length (packed q.table.places)) (length image) ∷ []) (packed q.table.places) image)
KeepPromise (Err e) image r after = RefusedPromise e r × (after ≡ image)
