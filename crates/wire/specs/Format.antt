-- A record's format on the wire: its fields, what is asked of their values, and which of them a record holds. The builder's bytes and the parser's answer both come from it, as an enum's numbers come from its `Coding`. Assumes nothing.
use Rattle.std.specs.Prelude.{ℕ, ◌≡◌, List, ◌∷◌, length, ltb}
use Rattle.wire.specs.Told.{Told, done, Check, ◌⇒◌, judged}
use Rattle.wire.specs.Places.{located}
use Rattle.wire.specs.Layout.{Field, size, put, get}
use Rattle.wire.specs.declared.refusals.Refusal.TheVariants.{BufferTooSmall}

pub record Format : Type 0 where
  pub fields : List Field
  -- the checks of the values, behind the one of the size
  pub asks : List ℕ → List Check
  -- beside them, the offsets of the fields that they look at: one for each
  pub asked_at : List ℕ
  pub each : (vs : List ℕ) → length asked_at ≡ length (asks vs)
  -- the values that a record holds: those that are looked at
  pub values_in : List ℕ → List ℕ

module _ (F : Format) where
  -- of an input of n bytes with these values: fewer bytes than the fields have (1), then what is asked of the values
  abbrev pub checks_of : ℕ → List ℕ → List Check
  checks_of n vs = ltb n (size F.fields) ⇒ BufferTooSmall ∷ F.asks vs

  abbrev pub read_by01 : List ℕ → Told
  read_by01 s = judged (checks_of (length s) (get F.fields 0 s)) (done (F.values_in (get F.fields 0 s)))

  -- fewer bytes are told at the input's end
  abbrev pub offsets_of : ℕ → List ℕ
  offsets_of n = n ∷ F.asked_at

  -- an answer of a reader of this format, with the offset of the check that decided
  abbrev pub found_in : List ℕ → Told → Told
  found_in s t = located (checks_of (length s) (get F.fields 0 s)) (offsets_of (length s)) t

  -- read, and where it was refused
  abbrev pub read_where : List ℕ → Told
  read_where s = found_in s (read_by01 s)

  abbrev pub bytes_of : List ℕ → List ℕ
  bytes_of vs = put F.fields vs
