-- Lists of compiled calls: each call gave something that, as it is seen, is a step of the table. What was seen of a channel along such a list. Assumes nothing.
use Rattle.std.specs.Prelude.{ℕ, ◌≡◌, List, [], ◌∷◌}
use Rattle.tunnel_model.specs.Store.{Chan, Machine, Seen, names, seen}

-- what a call gives, and how it is seen: its outcome, and the table afterwards
module _ (C : Chan) (M : Machine C) (Given : Type 0) (given_as : Given → C.Outcome × M.Table) where
  -- each call, on the table that the one before left, gave what is seen as a step
  abbrev pub Ran : M.Table → List C.Call → List Given → Type 0
  Ran l [] [] = Unit {0}
  Ran l [] (g ∷ gs) = ⊥
  Ran l (c ∷ cs) [] = ⊥
  Ran l (c ∷ cs) (g ∷ gs) = (given_as g ≡ M.step l c) × Ran (given_as g).1 cs gs

  -- the table that the last call left
  abbrev pub last_of : M.Table → List Given → M.Table
  last_of l [] = l
  last_of l (g ∷ gs) = last_of (given_as g).1 gs

  -- what B's calls gave, each with what the table then holds of B, until B is closed
  abbrev pub seen_by : ℕ → M.Table → List C.Call → List Given → List (Seen C)
  seen_by b l [] gs = []
  seen_by b l (c ∷ cs) [] = []
  seen_by b l (c ∷ cs) (g ∷ gs) = seen C (M.look b l) (names C b c) ((given_as g).0, M.look b (given_as g).1) (seen_by b (given_as g).1 cs gs)
