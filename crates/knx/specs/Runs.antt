-- Lists of calls from C on one image: how what a call gave is seen as a step of the table that images are. Assumes nothing.
use Rattle.std.specs.Prelude.{ℕ, List}
use Rattle.tunnel_model.specs.Store.{Seen}
use Rattle.tunnel_model.specs.Calls.{Call, Outcome}
use Rattle.tunnel_model.specs.Table.{chan}
use Rattle.tunnel_model.specs.Runs as ModelRuns
use Rattle.tunnel_image.specs.Demand3.{image_table}
use Rattle.knx.specs.Called.{told}
use Rattle.knx.specs.declared.called.KnxCalled.{KnxCalled}

-- what a call gave: its answer, its output afterwards, and the image afterwards
abbrev pub Given : Type 0
Given = (KnxCalled × List ℕ) × List ℕ

abbrev pub given_as : Given → Outcome × List ℕ
given_as g = ((told g.0.0, g.0.1), g.1)

module _ (rest : List ℕ) where
  -- each call gave what its contract promises, on the image that the one before left
  abbrev pub Ran : List ℕ → List Call → List Given → Type 0
  Ran = ModelRuns.Ran chan (image_table rest) Given given_as

  -- the image that the last call left, and what was seen of B
  abbrev pub last_of : List ℕ → List Given → List ℕ
  last_of = ModelRuns.last_of chan (image_table rest) Given given_as

  abbrev pub seen_by : ℕ → List ℕ → List Call → List Given → List (Seen chan)
  seen_by = ModelRuns.seen_by chan (image_table rest) Given given_as
