-- "KIP 1", "1 0421 11", "2 refused 2", "records 2": the lines of an inspection, each with its line feed. Assumes nothing.
use Rattle.std.specs.Prelude.{ℕ, ◌≡◌, ◌+◌, Bool, cond, List, [], ◌∷◌, ◌++◌, length, get_or, eqb, ltb, Result, Ok, Err}
use Rattle.wire.specs.Told.{Told, done, judged, ◌⇒◌}
use Rattle.wire.specs.Layout.{copied}
use Rattle.wire.specs.Writing as Writing
use Rattle.wire.specs.declared.refusals.Refusal.TheVariants.{BufferTooSmall}
use Rattle.wire.specs.Writing.{WritePromise}
use Rattle.digits.specs.Digits.{decimal, hex4}
use Rattle.wire.specs.Refusals.{number_of}
use Rattle.frame.specs.declared.judging.Judged.{Judged}
use Rattle.wire.specs.declared.refusals.Refusal.{Refusal}
use Rattle.wire.specs.declared.refusals.Fault.{Fault}

-- "KIP 1", or "not KIP 1" for another start
abbrev pub kip_text : List ℕ
kip_text = 75 ∷ 73 ∷ 80 ∷ 32 ∷ 49 ∷ 10 ∷ []

abbrev pub heading_of : Bool → List ℕ
heading_of kip = cond kip kip_text (110 ∷ 111 ∷ 116 ∷ 32 ∷ kip_text)

abbrev pub HeadingPromise : Bool → List ℕ → Result ℕ Refusal → List ℕ → Type 0
HeadingPromise kip out r after = WritePromise (heading_of kip) out r after

-- w is written from a place on, or not at all where it does not fit (1)
abbrev pub PutPromise : List ℕ → ℕ → List ℕ → Result ℕ Refusal → List ℕ → Type 0
PutPromise w at out r after =
    (Writing.told r ≡ judged (ltb (length out) (at + length w) ⇒ BufferTooSmall ∷ []) (done (length w ∷ []))) × (after ≡ copied w out at)

-- a text, a number and a line feed
abbrev pub closing : List ℕ → ℕ → List ℕ
closing text n = text ++ decimal n ++ 10 ∷ []

-- the record's number in the capture first
abbrev pub numbered : ℕ → List ℕ → ℕ → List ℕ
numbered n text last = decimal n ++ closing text last

abbrev pub NumberedPromise : ℕ → List ℕ → ℕ → List ℕ → Result ℕ Refusal → List ℕ → Type 0
NumberedPromise n text last out r after = WritePromise (numbered n text last) out r after

-- a space, the service, a space
abbrev pub service_text : ℕ → List ℕ
service_text code = 32 ∷ hex4 code ++ 32 ∷ []

-- " refused "
abbrev pub refused_text : List ℕ
refused_text = 32 ∷ 114 ∷ 101 ∷ 102 ∷ 117 ∷ 115 ∷ 101 ∷ 100 ∷ 32 ∷ []

-- the line of what is told of a record: service and total length, or the refusal's number
abbrev pub line_told : ℕ → Told → List ℕ
line_told n t = cond (eqb t.number 0) (numbered n (service_text (get_or t.values 0 0)) (get_or t.values 1 0)) (numbered n refused_text t.number)

-- and of what is judged of it: any number stands for a refusal
abbrev pub line_of : ℕ → Result Judged ℕ → List ℕ
line_of n (Ok j) = numbered n (service_text j.service) j.total
line_of n (Err number) = numbered n refused_text number

-- a refusal by its number
abbrev pub by_number : Result Judged Fault → Result Judged ℕ
by_number (Ok j) = Ok j
by_number (Err e) = Err (number_of e.why)

-- written at the start of the output, or not at all where it does not fit (1)
abbrev pub LinePromise : ℕ → Result Judged ℕ → List ℕ → Result ℕ Refusal → List ℕ → Type 0
LinePromise n j out r after = WritePromise (line_of n j) out r after

-- "an unfinished record prints the line `cut`, then the `records` line with the whole ones counted"
abbrev pub cut_text : List ℕ
cut_text = 99 ∷ 117 ∷ 116 ∷ 10 ∷ []

abbrev pub cut_front : Bool → List ℕ
cut_front cut = cond cut cut_text []

abbrev pub records_text : List ℕ
records_text = 114 ∷ 101 ∷ 99 ∷ 111 ∷ 114 ∷ 100 ∷ 115 ∷ 32 ∷ []

abbrev pub ending_of : ℕ → Bool → List ℕ
ending_of n cut = cut_front cut ++ closing records_text n

abbrev pub EndingPromise : ℕ → Bool → List ℕ → Result ℕ Refusal → List ℕ → Type 0
EndingPromise n cut out r after = WritePromise (ending_of n cut) out r after
