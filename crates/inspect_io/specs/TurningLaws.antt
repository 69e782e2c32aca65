-- A write and a read, each by how it went. Assumes nothing.
use Rattle.std.specs.Prelude.{ℕ, ◌≡◌, false, List, Result, Ok, Err}
use Rattle.std.proofs.Common.{sym, ap, subst, ◌∙◌}
use Rattle.wire.specs.Clash.{never}
use Rattle.kip.specs.Capture.{whole}
use Rattle.inspection.specs.Reaching.{Reached, rest_in, write_reaches, read_reaches, none_read}
use Rattle.inspection.specs.Turns.{ReadOnPromise}
use Rattle.inspection.specs.declared.turns.Progress.{Progress}
use Rattle.inspect_io.specs.Reading.{stands, came, came_at, ReadMore}
use Rattle.inspect_io.specs.Turning.{leaves, WritePromise, TurnPromise}
use Rattle.inspect_io.specs.declared.reading.Why.{Why}
use Rattle.inspect_io.specs.declared.reading.Why.TheVariants.{Ended, Unread, Unwritten, TooLong}
use Rattle.inspect_io.specs.declared.reading.Stopped.{Stopped}

module _ (input out : List ℕ) (p : Progress) (x : Reached input out p) where
  pub write_turns : (r : Result Progress Stopped) → WritePromise p r → TurnPromise input out r
  write_turns (Ok next) q = (write_reaches input out p x next q, tt)
  write_turns (Err s) q = (subst (Reached input out) (sym (ap (λ (a : Stopped). a.progress) q)) x, λ e. let w : s.why ≡ Unwritten = ap (λ (a : Stopped). a.why) q in never cc)

  -- a read behind the last whole record
  pub read_turns : (after later : List ℕ) (r : Result Progress Stopped) → ReadMore input out p after later r → whole (rest_in input p) ≡ false → TurnPromise after later r
  read_turns after later r q short = (
    subst (λ (o : List ℕ). Reached after o (stands r)) (sym q.same_out) (read_reaches input out p x after q.count q.same_before q.room (stands r) q.onward),
    go r q.onward q.brought,
  )
    where
      nothing : (k : ℕ) (w : Why) → came_at w k → w ≡ Ended → k ≡ 0
      nothing k Ended c e = c
      nothing k Unread c e = c
      nothing k Unwritten c e = absurd c
      nothing k TooLong c e = absurd c

      go : (r : Result Progress Stopped) → ReadOnPromise after p q.count (stands r) → came r q.count → leaves after r
      go (Ok next) on c = tt
      go (Err s) on c = λ e. ap whole (none_read input out p x after q.count q.same_before q.room s.progress (nothing q.count s.why c e) on) ∙ short
