-- What the code's calls give, way out by way out, is what 01's table gives; no second answer. Assumes nothing.
use Rattle.std.specs.Prelude.{ℕ, ◌≡◌, refl, true, false, List, [], ◌∷◌, length, get_or, set, Ok, Err, Option, Some, None, Result}
use Rattle.std.proofs.Common.{sym, ap, ◌∙◌}
use Rattle.wire.specs.Told.{Told, done, nowhere, verdict}
use Rattle.wire.specs.Writing.{onto}
use Rattle.wire.specs.WritingLaws.{Wrote}
use Rattle.wire.specs.declared.refusals.Refusal.{Refusal}
use Rattle.wire.specs.declared.refusals.Fault.{Fault}
use Rattle.wire.specs.declared.refusals.Refusal.TheVariants.{NotOpen, AlreadyOpen, TableFull, AwaitsAck}
use Rattle.wire.specs.Told.{Verdict}
use Rattle.tunnelling.specs.Request as TunnelingRequest
use Rattle.tunnelling.specs.declared.form.Form.{Form}
use Rattle.tunnel_datagram.specs.Hearing.{channel_offset, heard_in}
use Rattle.tunnel_datagram.specs.declared.hearing.Heard.{Heard}
use Rattle.tunnel.specs.Rules.{afresh, waiting, sending_of}
use Rattle.tunnel.specs.declared.rules.Tunnel.{Tunnel}
use Rattle.tunnel.specs.declared.rules.Said.TheVariants as Said
use Rattle.tunnel.specs.declared.rules.Stepped.{Stepped}
use Rattle.tunnel_model.specs.Firsts.{first_of}
use Rattle.tunnel_model.specs.PlacesLaws.{put_held}
use Rattle.tunnel_model.specs.Store.{step, step_at, step_on}
use Rattle.tunnel_model.specs.Places.{holds, free, state_in, placed}
use Rattle.tunnel.specs.Numbers.{said_of}
use Rattle.tunnel_model.specs.Calls.{Call, Outcome, Open, DatagramIn, channel_of, named, opens, out_of, refuses_at, refuses, says}
use Rattle.tunnel_model.specs.Lone.{After, stepped, or_refused, ack, request, send_of, heard, lone}
use Rattle.tunnel_model.specs.Table.{chan, store_of, channel_at, refusal_in}
use Rattle.tunnel_table.specs.Places.{Place, kind, kind_laws, held, tunnel_in, left_in, seek}
use Rattle.tunnel_table.specs.SeekLaws.{Stands, seek-at, seek-nothing}
use Rattle.tunnel_table.specs.Spots.{SpotPromise}
use Rattle.tunnel_table.specs.Table.{told, called_as, on, on_at, heard_in_on, reaction_told, reacted, saying, put_at}
use Rattle.tunnel_table.specs.declared.spot.Spot.{Spot}
use Rattle.tunnel_table.specs.declared.table.Table.{Table}
use Rattle.tunnel_table.specs.declared.table.Called.{Called}
use Rattle.tunnel_table.specs.declared.table.Reaction.{Reaction}

-- ---- a step of 01's table on a channel is its rule on the channel's place

pub step-on : (l : List Place) (c : Call) (b : ℕ) → named c ≡ Some b → opens c ≡ false → on (channel_at c) b (λ t. lone t c) (out_of c) l ≡ step chan (store_of kind) l c
step-on l c b n o = rw n (go (state_in kind (first_of (holds kind b) l)))
  where
    go : (s : Option Tunnel) → on_at (channel_at c) s b (λ t. lone t c) (out_of c) l ≡ step_at chan (store_of kind) s b l c
    go None = rw o
    go (Some t) = refl

-- a datagram that names nobody
step_nobody : (f : Form) (l : List Place) (bytes out : List ℕ) (e : Fault) → heard_in f bytes ≡ Err e → (refuses_at e out, l) ≡ step chan (store_of kind) l (DatagramIn f bytes out)
step_nobody f l bytes out e h =
    ap (λ (x : Result Heard Fault). (refuses_at (refusal_in x) out, l)) (sym h) ∙ ap (λ (x : Result Heard Fault). step_on chan (store_of kind) (channel_of x) l (DatagramIn f bytes out)) (sym h)

-- a datagram is what is heard of it
pub step-heard : (f : Form) (l : List Place) (bytes out : List ℕ) (h : Result Heard Fault) → heard_in f bytes ≡ h → heard_in_on f h out l ≡ step chan (store_of kind) l (DatagramIn f bytes out)
step-heard f l bytes out (Ok (Heard.Request channel n end)) e =
    ap (λ (x : Result Heard Fault). on channel_offset channel (λ t. heard f t x out) out l) (sym e) ∙ step-on l (DatagramIn f bytes out) channel (ap channel_of e) refl
step-heard f l bytes out (Ok (Heard.Ack channel n status)) e =
    ap (λ (x : Result Heard Fault). on channel_offset channel (λ t. heard f t x out) out l) (sym e) ∙ step-on l (DatagramIn f bytes out) channel (ap channel_of e) refl
step-heard f l bytes out (Err why) e = step_nobody f l bytes out why e

-- ---- where the channel has no place

module _ (T : Table) (b : ℕ) (missing : seek (holds kind b) 0 T.places ≡ None) where
  -- at 0, or for a datagram where it names the channel
  pub at_none : (k : ℕ) (f : Tunnel → After) (out : List ℕ) → called_as T (Err (record { why = NotOpen; at = k })) out ≡ on k b f out T.places
  at_none k f out = ap (λ (o : Option Place). on_at k (state_in kind o) b f out T.places) (sym (seek-nothing (holds kind b) T.places 0 missing))

  pub open_full : seek (free kind) 0 T.places ≡ None → called_as T (Err (nowhere TableFull)) [] ≡ step chan (store_of kind) T.places (Open b)
  open_full g = rw (seek-nothing (holds kind b) T.places 0 missing, seek-nothing (free kind) T.places 0 g)

  pub open_at : (s : Spot) → seek (free kind) 0 T.places ≡ Some s.at → called_as T (Ok (saying (put_at T s (held b afresh)) Said.Nothing)) [] ≡ step chan (store_of kind) T.places (Open b)
  open_at s g =
      let w = seek-at (free kind) T.places None s.at g in
      rw (seek-nothing (holds kind b) T.places 0 missing, w.first, w.put (held b afresh))

-- so the code says it
pub absent : (T : Table) (b k : ℕ) (e : Fault) → SpotPromise T b k (Err e) → (f : Tunnel → After) (out : List ℕ) → called_as T (Err e) out ≡ on k b f out T.places
absent T b k e p f out = ap (λ (x : Fault). called_as T (Err x) out) p.1 ∙ at_none T b p.0 k f out

pub absent_call : (T : Table) (c : Call) (b : ℕ) (e : Fault) → SpotPromise T b (channel_at c) (Err e) → named c ≡ Some b → opens c ≡ false
    → called_as T (Err e) (out_of c) ≡ step chan (store_of kind) T.places c
absent_call T c b e p n o = absent T b (channel_at c) e p (λ t. lone t c) (out_of c) ∙ step-on T.places c b n o

-- ---- where it has a place

left-placed : (b : ℕ) (x : Option Tunnel) → left_in b x ≡ placed kind b x
left-placed b (Some t) = refl
left-placed b None = refl

module _ (T : Table) (b : ℕ) (s : Spot) (d : Place) (found : seek (holds kind b) 0 T.places ≡ Some s.at) (t : Tunnel) (is : t ≡ tunnel_in (get_or T.places s.at d)) where
  at : Stands (holds kind b) T.places d s.at
  at = seek-at (holds kind b) T.places d s.at found

  there : state_in kind (first_of (holds kind b) T.places) ≡ Some t
  there = ap (state_in kind) at.first ∙ ap Some (sym is)

  rule : (k : ℕ) (f : Tunnel → After) (out : List ℕ) → ((f t).0, set T.places s.at (placed kind b (f t).1)) ≡ on k b f out T.places
  rule k f out =
      ap (λ (l : List Place). ((f t).0, l)) (sym (at.put (placed kind b (f t).1))) ∙ ap (λ (o : Option Tunnel). on_at k o b f out T.places) (sym there)

  unmoved : set T.places s.at (held b t) ≡ T.places
  unmoved = sym (at.put (held b t)) ∙ put_held kind kind_laws T.places b t there

  -- the channel is changed, and its place with it
  pub at-put : (k : ℕ) (f : Tunnel → After) (out : List ℕ) (r : Called) (after : List ℕ) (u : Tunnel)
      → f t ≡ ((told r, after), Some u) → r.table ≡ put_at T s (held b u) → called_as T (Ok r) after ≡ on k b f out T.places
  at-put k f out r after u e p =
      ap (λ (x : Table). ((told r, after), x.places)) p ∙ ap (λ (a : After). (a.0, set T.places s.at (placed kind b a.1))) (sym e) ∙ rule k f out

  -- the channel stays as it was
  kept : (k : ℕ) (f : Tunnel → After) (out : List ℕ) (o : Outcome) → f t ≡ (o, Some t) → (o, T.places) ≡ on k b f out T.places
  kept k f out o e =
      ap (λ (l : List Place). (o, l)) (sym unmoved) ∙ ap (λ (a : After). (a.0, set T.places s.at (placed kind b a.1))) (sym e) ∙ rule k f out

  pub at_kept : (k : ℕ) (f : Tunnel → After) (out : List ℕ) (r : Called) (after : List ℕ)
      → f t ≡ ((told r, after), Some t) → r.table ≡ T → called_as T (Ok r) after ≡ on k b f out T.places
  at_kept k f out r after e p = ap (λ (x : Table). ((told r, after), x.places)) p ∙ kept k f out (told r, after) e

  pub at_refused : (k : ℕ) (f : Tunnel → After) (out : List ℕ) (e : Fault) (after : List ℕ)
      → f t ≡ (refuses_at e after, Some t) → called_as T (Err e) after ≡ on k b f out T.places
  at_refused k f out e after q = kept k f out (refuses_at e after) q

  -- an acknowledgement, or no room for one
  pub at_react : (k : ℕ) (form : Form) (v : Verdict) (n : ℕ) (x : Reaction) (f : Tunnel → After) (out : List ℕ)
      → f t ≡ or_refused v out t ((reaction_told x (length (ack form b n)), onto out (ack form b n)), Some x.tunnel) → reacted form v T s b n x out ≡ on k b f out T.places
  at_react k form (Ok _) n x f out e = ap (λ (a : After). (a.0, set T.places s.at (placed kind b a.1))) (sym e) ∙ rule k f out
  at_react k form (Err w) n x f out e = at_refused k f out (nowhere w) out e

  -- a step of the rules
  pub at-step : (k : ℕ) (f : Tunnel → After) (out : List ℕ) (x : Stepped) → f t ≡ stepped t (Ok x) out
      → called_as T (Ok (saying (put_at T s (left_in b x.left)) x.said)) out ≡ on k b f out T.places
  at-step k f out x e =
      ap (λ (p : Place). ((stepped t (Ok x) out).0, set T.places s.at p)) (left-placed b x.left)
      ∙ ap (λ (a : After). (a.0, set T.places s.at (placed kind b a.1))) (sym e) ∙ rule k f out

  -- closed
  pub at_close : called_as T (Ok (saying (put_at T s None) Said.Nothing)) [] ≡ on 0 b (λ x. (says Said.Nothing [], None)) [] T.places
  at_close = rule 0 (λ x. (says Said.Nothing [], None)) []

  -- open already
  pub open_open : called_as T (Err (nowhere AlreadyOpen)) [] ≡ step chan (store_of kind) T.places (Open b)
  open_open =
      at_refused 0 (λ x. (refuses AlreadyOpen [], Some x)) [] (nowhere AlreadyOpen) [] refl
      ∙ (ap (λ (o : Option Tunnel). on_at 0 o b (λ x. (refuses AlreadyOpen [], Some x)) [] T.places) there
      ∙ sym (ap (λ (o : Option Tunnel). step_at chan (store_of kind) o b T.places (Open b)) there))

-- what a builder wrote and counted stands in the outcome
pub written_as : (mk : ℕ → Told) (w out : List ℕ) (n : ℕ) (after : List ℕ) (left_over : Option Tunnel) (a : After)
    → Wrote w out n after → a ≡ ((mk (length w), onto out w), left_over) → a ≡ ((mk n, after), left_over)
written_as mk w out n after left_over a x e =
    e ∙ ap (λ (k : ℕ). ((mk k, onto out w), left_over)) (sym x.count) ∙ ap (λ (l : List ℕ). ((mk n, l), left_over)) (sym x.bytes)

-- ---- what a send gets

module _ (t : Tunnel) (b : ℕ) (cemi out : List ℕ) where
  pub awaits : waiting t.w ≡ true → send_of t b cemi out ≡ (refuses AwaitsAck out, Some t)
  awaits w = rw w

  pub sends : waiting t.w ≡ false → verdict (TunnelingRequest.build_checks (length cemi) (length out)) ≡ Ok tt
      → send_of t b cemi out ≡ ((done (said_of Said.Nothing ∷ length (request b t.s cemi) ∷ []), onto out (request b t.s cemi)), Some (sending_of t))
  sends w q = rw (w, q)

  pub sends_not : (e : Refusal) → waiting t.w ≡ false → verdict (TunnelingRequest.build_checks (length cemi) (length out)) ≡ Err e → send_of t b cemi out ≡ (refuses e out, Some t)
  sends_not e w q = rw (w, q)
