-- Every frame is a header and a body. The crate checks the buffer first; 01 adds the total length. Assumes nothing.
use Rattle.std.specs.Prelude.{ℕ, ◌+◌, List, [], ◌∷◌, ◌++◌, length, ltb, Result}
use Rattle.wire.specs.Told.{Check, ◌⇒◌}
use Rattle.wire.specs.Layout.{put}
use Rattle.wire.specs.Writing.{Writes, room}
use Rattle.wire.specs.declared.refusals.Refusal.TheVariants.{PayloadTooLarge}
use Rattle.constants.specs.declared.services.ServiceType.{ServiceType}
use Rattle.header.specs.Header.{fields, made}
use Rattle.wire.specs.declared.refusals.Refusal.{Refusal}

-- the header and the body
abbrev pub frame : ServiceType → List ℕ → List ℕ
frame s body = put fields (made s (length body)) ++ body

-- of a frame with a body of n bytes and a buffer of m: the buffer (1), then a total length that does not fit sixteen bits (5)
abbrev pub frame_checks : ℕ → ℕ → List Check
frame_checks n m = room (6 + n) m ∷ ltb 65535 (6 + n) ⇒ PayloadTooLarge ∷ []

abbrev pub WriteFramePromise : ServiceType → List ℕ → List ℕ → Result ℕ Refusal → List ℕ → Type 0
WriteFramePromise s body before r after = Writes (frame_checks (length body) (length before)) (frame s body) before r after

abbrev pub WriteFrame2Promise : ServiceType → List ℕ → List ℕ → List ℕ → Result ℕ Refusal → List ℕ → Type 0
WriteFrame2Promise s a b before r after = WriteFramePromise s (a ++ b) before r after

abbrev pub WriteFrame3Promise : ServiceType → List ℕ → List ℕ → List ℕ → List ℕ → Result ℕ Refusal → List ℕ → Type 0
WriteFrame3Promise s a b c before r after = WriteFramePromise s (a ++ b ++ c) before r after
