-- `KnxnetIpFrame`: the datagram's bytes beside what parsing it answered, over the definitions that the field record's functions promise. Assumes nothing.
use Rattle.std.specs.Prelude.{ℕ, ◌≡◌, List, length, Result, Ok, Err}
use Rattle.wire.specs.Told.{Told, refused, viewed, verdict, judged}
use Rattle.wire.specs.Layout.{get}
use Rattle.wire.specs.Parts.{shown}
use Rattle.wire.specs.Parts as Parts
use Rattle.wire.specs.declared.parts.View.{View}
use Rattle.header.specs.Header.{fields, total_in}
use Rattle.frame.specs.Frame as Frame
use Rattle.borrowed.specs.Borrowed.{borrowed_by}
use Rattle.borrowed.specs.declared.knxnet_ip_frame.KnxnetIpFrame.{KnxnetIpFrame}
use Rattle.wire.specs.declared.refusals.Fault.{Fault}
use Rattle.frame.specs.declared.frame.FrameFields.{FrameFields}

abbrev pub borrowed_in : List ℕ → List ℕ
borrowed_in s = borrowed_by (verdict (Frame.checks (length s) (get fields 0 s))) s

abbrev pub BorrowedPromise : List ℕ → List ℕ → Type 0
BorrowedPromise s r = r ≡ borrowed_in s

abbrev pub ParsePromise : List ℕ → KnxnetIpFrame → Type 0
ParsePromise s r = BorrowedPromise s r.«data».now × Frame.ParsePromise s r.answer

-- where the body stands in the bytes that a record borrows: its header's checks are repeated over them; of a refused one the refusal
abbrev pub view_of : Result FrameFields Fault → List ℕ → Told
view_of (Ok f) s = Frame.found_in f (length s) (Frame.body_by01 f s)
view_of (Err e) s = refused 0 e

abbrev pub BodyViewPromise : List ℕ → Result FrameFields Fault → Result View Fault → Type 0
BodyViewPromise s a r = Parts.told r ≡ view_of a s

-- and the part there
abbrev pub body_of : Result FrameFields Fault → List ℕ → List ℕ
body_of a s = shown s (view_of a s)

abbrev pub BodyOfPromise : List ℕ → Result FrameFields Fault → List ℕ → Type 0
BodyOfPromise s a r = r ≡ body_of a s

abbrev pub BodyPromise : KnxnetIpFrame → List ℕ → Type 0
BodyPromise f r = BodyOfPromise f.«data».now f.answer r

-- the body of a datagram: from offset 6 to the total length
abbrev pub BodyInPromise : List ℕ → List ℕ → Type 0
BodyInPromise s r = r ≡ shown s (judged (Frame.checks (length s) (get fields 0 s)) (viewed 6 (total_in (get fields 0 s))))
