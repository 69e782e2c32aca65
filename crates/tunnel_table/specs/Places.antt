-- The code's places as places of 01's table, and the search for one by its index. Assumes nothing.
use Rattle.std.specs.Prelude.{ℕ, suc, ◌≡◌, refl, Bool, cond, List, [], ◌∷◌, Option, Some, None}
use Rattle.std.proofs.Common.{sym, ap}
use Rattle.tunnel_model.specs.FirstLaws.{none_some}
use Rattle.tunnel_model.specs.Places.{Kind, KindLaws, holds, free}
use Rattle.tunnel.specs.Rules.{afresh}
use Rattle.tunnel.specs.declared.rules.Tunnel.{Tunnel}
use Rattle.tunnel_table.specs.declared.places.Held.{Held}

-- a free place holds nothing
abbrev pub Place : Type 0
Place = Option Held

abbrev pub id_in : Place → Option ℕ
id_in None = None
id_in (Some h) = Some h.id

-- a free place counts as a fresh tunnel
abbrev pub tunnel_in : Place → Tunnel
tunnel_in None = afresh
tunnel_in (Some h) = h.tunnel

abbrev pub held : ℕ → Tunnel → Place
held b t = Some (record { id = b; tunnel = t })

abbrev pub kind : Kind Tunnel
kind = record {
  Place = Place;
  id_of = id_in;
  state_of = tunnel_in;
  held = held;
  freed = None;
}

held_is : (b : ℕ) (p : Place) → id_in p ≡ Some b → held b (tunnel_in p) ≡ p
held_is b None e = none_some e
held_is b (Some h) e = let same : h.id ≡ b = cc in ap (λ (y : ℕ). held y h.tunnel) (sym same)

pub kind_laws : KindLaws kind
kind_laws = record {
  held_id = λ b t. refl;
  held_state = λ b t. refl;
  freed_id = refl;
  held_back = held_is;
}

-- what a step leaves in its place
abbrev pub left_in : ℕ → Option Tunnel → Place
left_in b (Some t) = held b t
left_in b None = None

-- a place with this id, a free one where none is asked for
abbrev pub passing : Option ℕ → Place → Bool
passing (Some b) p = holds kind b p
passing None p = free kind p

-- the index of the first place that passes, counted from i
abbrev pub seek : (Place → Bool) → ℕ → List Place → Option ℕ
seek q i [] = None
seek q i (p ∷ l) = cond (q p) (Some i) (seek q (suc i) l)
