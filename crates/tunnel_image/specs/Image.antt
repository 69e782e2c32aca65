-- The byte image of a tunnel table: eight places of five bytes, what every value of every byte means, and what a call does to an image. Assumes nothing.
use Rattle.std.specs.Prelude.{ℕ, zero, suc, ◌+◌, ◌≡◌, cond, List, [], ◌∷◌, ◌++◌, length, get_or, eqb, ltb, Result, Some, None}
use Rattle.wire.specs.Layout.{Field, byte, put, get}
use Rattle.wire.specs.Writing.{onto, WritePromise}
use Rattle.wire.specs.declared.refusals.Refusal.TheVariants.{BufferTooSmall}
use Rattle.tunnel.specs.Numbers.{wait_number, wait_of}
use Rattle.tunnel_model.specs.Store.{step}
use Rattle.tunnel_model.specs.Calls.{Call, Outcome, out_of, refuses}
use Rattle.tunnel_model.specs.Table.{chan, store_of}
use Rattle.tunnel_table.specs.Places.{Place, kind, held}
use Rattle.tunnel_table.specs.declared.table.Table.{Table}
use Rattle.wire.specs.declared.refusals.Refusal.{Refusal}

-- ---- a place

-- held, id, r, s, waiting
abbrev pub fields : List Field
fields = byte ∷ byte ∷ byte ∷ byte ∷ byte ∷ []

abbrev held_in : List ℕ → ℕ
held_in vs = get_or vs 0 0

abbrev id_in : List ℕ → ℕ
id_in vs = get_or vs 1 0

abbrev r_in : List ℕ → ℕ
r_in vs = get_or vs 2 0

abbrev s_in : List ℕ → ℕ
s_in vs = get_or vs 3 0

abbrev wait_in : List ℕ → ℕ
wait_in vs = get_or vs 4 0

-- written: a free place is five zeros
abbrev pub values : Place → List ℕ
values None = 0 ∷ 0 ∷ 0 ∷ 0 ∷ 0 ∷ []
values (Some h) = 1 ∷ h.id ∷ h.tunnel.r ∷ h.tunnel.s ∷ wait_number h.tunnel.w ∷ []

-- read: 0 is free, whatever stands in the other four; every other number is held, and id, r and s mean themselves
abbrev pub place_of : List ℕ → Place
place_of vs = cond (eqb (held_in vs) 0) None (held (id_in vs) (record { r = r_in vs; s = s_in vs; w = wait_of (wait_in vs) }))

abbrev pub layout : Place → List ℕ
layout p = put fields (values p)

abbrev pub place_at : List ℕ → ℕ → Place
place_at image at = place_of (get fields at image)

-- ---- a table: place behind place

abbrev pub packed : List Place → List ℕ
packed [] = []
packed (p ∷ l) = layout p ++ packed l

abbrev pub places_from : ℕ → List ℕ → ℕ → List Place
places_from zero image at = []
places_from (suc n) image at = place_at image at ∷ places_from n image (at + 5)

abbrev pub unpacked : List ℕ → List Place
unpacked image = places_from 8 image 0

abbrev pub UnpackPromise : List ℕ → Table → Type 0
UnpackPromise image r = r.places ≡ unpacked image

-- an image below 40 bytes (1); of a longer one the first 40 are written
abbrev pub PackPromise : List Place → List ℕ → Result ℕ Refusal → List ℕ → Type 0
PackPromise l image r after = WritePromise (packed l) image r after

-- ---- a call on an image

-- what a call on the table gave, and the image afterwards: the table afterwards is packed, and a refusal leaves the image as it was
abbrev pub packed_onto : List ℕ → Outcome × List Place → Outcome × List ℕ
packed_onto image x = (x.0, cond (eqb x.0.0.number 0) (onto image (packed x.1)) image)

-- one step of 01's table on the table that the first 40 bytes hold
abbrev pub step_in : List ℕ → Call → Outcome × List Place
step_in image c = step chan (store_of kind) (unpacked image) c

-- an image below 40 bytes (1), before all else; then that step
abbrev pub on_image : List ℕ → Call → Outcome × List ℕ
on_image image c = cond (ltb (length image) 40) (refuses BufferTooSmall (out_of c), image) (packed_onto image (step_in image c))
