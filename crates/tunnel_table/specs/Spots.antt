-- One of the eight places, as the search yields it. Assumes nothing.
use Rattle.std.specs.Prelude.{ℕ, ◌≡◌, List, Option, Some, None, Result, Ok, Err}
use Rattle.wire.specs.declared.refusals.Fault.{Fault}
use Rattle.wire.specs.declared.refusals.Refusal.TheVariants.{NotOpen}
use Rattle.tunnel_table.specs.Places.{Place, passing, seek}
use Rattle.tunnel_table.specs.declared.spot.Spot.{Spot}
use Rattle.tunnel_table.specs.declared.table.Table.{Table}

abbrev pub index_of : Option Spot → Option ℕ
index_of None = None
index_of (Some s) = Some s.at

abbrev pub FindPromise : List Place → Option ℕ → Option Spot → Type 0
FindPromise l id r = index_of r ≡ seek (passing id) 0 l

-- the place of an open channel; else 9, at k
abbrev pub SpotPromise : Table → ℕ → ℕ → Result Spot Fault → Type 0
SpotPromise t b k (Ok s) = seek (passing (Some b)) 0 t.places ≡ Some s.at
SpotPromise t b k (Err e) = (seek (passing (Some b)) 0 t.places ≡ None) × (e ≡ record { why = NotOpen; at = k })
