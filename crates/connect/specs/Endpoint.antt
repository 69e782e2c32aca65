-- An endpoint that stands at 2 of a body: the checks of an Hpai there, with their offsets in the body. Assumes nothing.
use Rattle.std.specs.Prelude.{ℕ, ◌≡◌, List, length}
use Rattle.wire.specs.Told.{Told, judged}
use Rattle.wire.specs.Places.{Standing, located, standing, moved}
use Rattle.wire.specs.Layout.{get}
use Rattle.hpai.specs.Hpai as Hpai
use Rattle.hpai.specs.declared.Hpai.{Hpai}

-- the endpoint's values in the body
abbrev pub endpoint_in : List ℕ → List ℕ
endpoint_in s = get Hpai.fields 2 s

-- what the endpoint's checks make of an answer: a length byte of 7 is 2 at 2
abbrev pub whole : List ℕ → Told → Told
whole s t = located (Hpai.checks 8 (endpoint_in s)) (moved 2 (Hpai.offsets 8)) (judged (Hpai.checks 8 (endpoint_in s)) t)

-- what the checks say, at their offsets in the body
abbrev pub StandsPromise : List ℕ → Standing → Type 0
StandsPromise s r = r ≡ standing (Hpai.checks 8 (endpoint_in s)) (moved 2 (Hpai.offsets 8))

-- the fields are those values, whatever the checks say
abbrev pub ReadPromise : List ℕ → Hpai → Type 0
ReadPromise s h = (Hpai.values h ≡ endpoint_in s) × (length h.ip_address ≡ 4)
