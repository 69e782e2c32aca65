-- A datagram by the frame checks alone: service and total length of its header, or the refusal. Assumes nothing.
use Rattle.std.specs.Prelude.{◌≡◌, List, [], ◌∷◌, ℕ, length, Result, Ok, Err}
use Rattle.wire.specs.Told.{Told, done, refused, judged}
use Rattle.wire.specs.Places.{located}
use Rattle.wire.specs.Layout.{get}
use Rattle.header.specs.Header.{fields, service_in, total_in}
use Rattle.frame.specs.Frame as Frame
use Rattle.frame.specs.declared.judging.Judged.{Judged}
use Rattle.wire.specs.declared.refusals.Fault.{Fault}

abbrev pub told : Result Judged Fault → Told
told (Ok j) = done (j.service ∷ j.total ∷ [])
told (Err e) = refused 2 e

abbrev pub judge_by01 : List ℕ → Told
judge_by01 s = judged (Frame.checks (length s) (get fields 0 s)) (done (service_in (get fields 0 s) ∷ total_in (get fields 0 s) ∷ []))

abbrev pub judge_where : List ℕ → Told
judge_where s = located (Frame.checks (length s) (get fields 0 s)) (Frame.offsets (length s)) (judge_by01 s)

abbrev pub JudgePromise : List ℕ → Result Judged Fault → Type 0
JudgePromise s r = told r ≡ judge_where s
