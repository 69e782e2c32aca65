-- What is known after a read, of whose bytes no contract can say anything. Assumes nothing.
use Rattle.std.specs.Prelude.{ℕ, ◌+◌, ◌≤◌, ◌≡◌, List, length, take, Result, Ok, Err}
use Rattle.inspection.specs.Turns.{first, ReadOnPromise}
use Rattle.inspection.specs.declared.turns.Progress.{Progress}
use Rattle.inspect_io.specs.declared.reading.Why.{Why}
use Rattle.inspect_io.specs.declared.reading.Why.TheVariants.{Ended, Unread, Unwritten, TooLong}
use Rattle.inspect_io.specs.declared.reading.Stopped.{Stopped}

-- where the program stands, whether it goes on or not
abbrev pub stands : Result Progress Stopped → Progress
stands (Ok p) = p
stands (Err s) = s.progress

-- how many bytes came, by how it goes on: a read neither fails to write nor counts records
abbrev pub came_at : Why → ℕ → Type 0
came_at Ended k = k ≡ 0
came_at Unread k = k ≡ 0
came_at Unwritten k = ⊥
came_at TooLong k = ⊥

abbrev pub came : Result Progress Stopped → ℕ → Type 0
came (Ok p) k = 1 ≤ k
came (Err s) k = came_at s.why k

-- some bytes came behind those that were there, which are as before, and so are the lines that are gathered
pub record ReadMore (input out : List ℕ) (p : Progress) (after later : List ℕ) (r : Result Progress Stopped) : Type 0 where
  pub count : ℕ
  pub same_before : take p.have after ≡ take p.have input
  pub room : p.have + count ≤ length after
  pub onward : ReadOnPromise after p count (stands r)
  pub brought : came r count
  pub same_out : later ≡ out

-- before the first record nothing is handed on
abbrev pub StartPromise : List ℕ → Progress → Type 0
StartPromise input p = (p.spot ≡ first) × (p.have ≤ length input)

-- where it goes on, the start's five bytes are there
abbrev pub there : Result Progress Stopped → Type 0
there (Ok p) = 5 ≤ p.have
there (Err s) = Unit {0}

abbrev pub ReadStartPromise : List ℕ → Result Progress Stopped → Type 0
ReadStartPromise input r = StartPromise input (stands r) × there r
