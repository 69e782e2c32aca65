-- From the compiled calls to demand 3: how what a call gave is seen as a step of 01's table; refusals; no second answer. Assumes nothing.
use Rattle.std.specs.Prelude.{ℕ, ◌≡◌, refl, List, get_or, Option, None, Some, Result, Ok, Err}
use Rattle.std.proofs.Common.{sym, ap, ◌∙◌, subst}
use Rattle.wire.specs.ToldLaws.{number_one, never_done, same}
use Rattle.wire.specs.Told.{Told, refused}
use Rattle.wire.specs.Refusing.{Zeros}
use Rattle.wire.specs.declared.refusals.Refusal.{Refusal}
use Rattle.wire.specs.declared.refusals.Refusal.TheVariants.{NotOpen}
use Rattle.tunnelling.specs.declared.form.Form.{Form}
use Rattle.tunnelling.specs.declared.form.Form.TheVariants.{Crate}
use Rattle.tunnel_datagram.specs.Hearing.{channel_offset}
use Rattle.tunnel_datagram.specs.declared.hearing.Heard.{Heard}
use Rattle.tunnel.specs.declared.rules.Tunnel.{Tunnel}
use Rattle.tunnel.specs.declared.rules.Said.{Said}
use Rattle.tunnel_model.specs.Firsts.{first_of, put_first}
use Rattle.tunnel_model.specs.Places.{holds, state_in, placed}
use Rattle.tunnel_model.specs.PlacesLaws.{put_held}
use Rattle.tunnel_model.specs.Lone.{After}
use Rattle.tunnel_model.specs.Store.{Seen, step}
use Rattle.tunnel.specs.Numbers.{said_one}
use Rattle.tunnel_model.specs.Calls.{Call, Outcome, out_of}
use Rattle.tunnel_model.specs.Table.{chan, store_of, table_of}
use Rattle.tunnel_model.specs.Runs as ModelRuns
use Rattle.tunnel_model.specs.Refusing.{IsRefusal, Clean, Refuses, refusal-zeros, hears, table_leaves}
use Rattle.tunnel_table.specs.Places.{Place, kind, kind_laws}
use Rattle.tunnel_table.specs.Table.{called_as, on, on_at, request_rule, ack_rule, heard_in_on, heard_on, HeardPromise, HeardInPromise, CallPromise, EmptyPromise}
use Rattle.tunnel_table.specs.declared.table.Table.{Table}
use Rattle.tunnel_table.specs.declared.table.Called.{Called}
use Rattle.wire.specs.declared.refusals.Fault.{Fault}

-- ---- no second answer

-- a refusal that is told says which it is, and where
fault_one : (e f : Fault) → refused 2 e ≡ refused 2 f → e ≡ f
fault_one e f q =
    let why : e.why ≡ f.why = number_one e.why f.why (ap (λ (t : Told). t.number) q) in
    ap (λ (w : Refusal). record { why = w; at = e.at }) why ∙ ap (λ (t : Told). record { why = f.why; at = t.offset }) q

-- an answer, from what it is seen as and what it says
abbrev made : Outcome × List Place → Said → Result Called Fault
made x a = Ok (record { said = a; view = record { start = x.0.0.start; end = x.0.0.end }; written = get_or x.0.0.values 1 0; table = record { places = x.1 } })

-- one that is not refused is not seen as one that is
apart : (t : Table) (r : Called) (e : Fault) (a b : List ℕ) → called_as t (Ok r) a ≡ called_as t (Err e) b → ⊥
apart t r e a b q = never_done e.why (sym (ap (λ (y : Outcome × List Place). y.0.0.number) q))

pub called_one : (x : Outcome × List Place) (t : Table) (r q : Result Called Fault) (after later : List ℕ) → called_as t r after ≡ x → called_as t q later ≡ x → (r ≡ q) × (after ≡ later)
called_one x t (Ok r) (Ok q) after later a b =
    let e = same a b in
    let said : r.said ≡ q.said = said_one r.said q.said (ap (λ (y : Outcome × List Place). get_or y.0.0.values 0 0) e) in (
      ap (λ (w : Said). made (called_as t (Ok r) after) w) said ∙ ap (λ (y : Outcome × List Place). made y q.said) e,
      ap (λ (y : Outcome × List Place). y.0.1) e,
    )
called_one x t (Ok r) (Err f) after later a b = absurd (apart t r f after later (same a b))
called_one x t (Err e) (Ok q) after later a b = absurd (apart t q e later after (same b a))
called_one x t (Err e) (Err f) after later a b =
    let q = same a b in (
      ap Err (fault_one e f (ap (λ (y : Outcome × List Place). y.0.0) q)),
      ap (λ (y : Outcome × List Place). y.0.1) q,
    )

pub call_one : (t : Table) (c : Call) (r q : Result Called Fault) (after later : List ℕ) → CallPromise t c r after → CallPromise t c q later → (r ≡ q) × (after ≡ later)
call_one t c = called_one (step chan (store_of kind) t.places c) t

pub empty_one : (r q : Table) → EmptyPromise r → EmptyPromise q → r ≡ q
empty_one r q a b = ap (λ (l : List Place). record { places = l }) (same a b)

-- ---- demand 1

-- a refusal: zeros, and neither the output nor the table is changed
pub call_refusing : (t : Table) (c : Call) (e : Fault) (after : List ℕ) → CallPromise t c (Err e) after
    → Zeros (refused 2 e) × (after ≡ out_of c) × ((step chan (store_of kind) t.places c).1 ≡ t.places)
call_refusing t c e after p =
    let x = subst (λ (y : Outcome × List Place). IsRefusal y.0 → Clean c y.0 × (y.1 ≡ t.places)) (sym p) (table_leaves kind kind_laws t.places c) (never_done e.why) in
    (x.0.0, x.0.1, sym (ap (λ (y : Outcome × List Place). y.1) p))

-- so it is of what was heard
on-leaves : (k b : ℕ) (f : Tunnel → After) (out : List ℕ) (l : List Place) → ((t : Tunnel) → Refuses t out (f t))
    → IsRefusal (on k b f out l).0 → Zeros (on k b f out l).0.0 × ((on k b f out l).0.1 ≡ out) × ((on k b f out l).1 ≡ l)
on-leaves k b f out l each = go (state_in kind (first_of (holds kind b) l)) refl
  where
    go : (o : Option Tunnel) → state_in kind (first_of (holds kind b) l) ≡ o → IsRefusal (on_at k o b f out l).0 → Zeros (on_at k o b f out l).0.0 × ((on_at k o b f out l).0.1 ≡ out) × ((on_at k o b f out l).1 ≡ l)
    go None e n = (refusal-zeros (record { why = NotOpen; at = k }) n, refl, refl)
    go (Some t) e n = let x = each t n in (x.0, x.1, ap (λ (o : Option Tunnel). put_first (holds kind b) (placed kind b o) l) x.2 ∙ put_held kind kind_laws l b t e)

heard-leaves : (f : Form) (h : Result Heard Fault) (out : List ℕ) (l : List Place) → IsRefusal (heard_in_on f h out l).0
    → Zeros (heard_in_on f h out l).0.0 × ((heard_in_on f h out l).0.1 ≡ out) × ((heard_in_on f h out l).1 ≡ l)
heard-leaves f (Ok (Heard.Request channel n end)) out l = on-leaves channel_offset channel (request_rule f channel n end out) out l (λ t. hears f t (Ok (Heard.Request channel n end)) out)
heard-leaves f (Ok (Heard.Ack channel n status)) out l = on-leaves channel_offset channel (ack_rule n status out) out l (λ t. hears f t (Ok (Heard.Ack channel n status)) out)
heard-leaves f (Err e) out l = λ n. (refusal-zeros e n, refl, refl)

pub heard_in_refusing : (f : Form) (t : Table) (h : Result Heard Fault) (out : List ℕ) (e : Fault) (after : List ℕ) → HeardInPromise f t h out (Err e) after
    → Zeros (refused 2 e) × (after ≡ out) × ((heard_in_on f h out t.places).1 ≡ t.places)
heard_in_refusing f t h out e after p =
    let x = subst (λ (y : Outcome × List Place). IsRefusal y.0 → Zeros y.0.0 × (y.0.1 ≡ out) × (y.1 ≡ t.places)) (sym p) (heard-leaves f h out t.places) (never_done e.why) in
    (x.0, x.1, sym (ap (λ (y : Outcome × List Place). y.1) p))

pub heard-refusing : (t : Table) (h : Result Heard Fault) (out : List ℕ) (e : Fault) (after : List ℕ) → HeardPromise t h out (Err e) after
    → Zeros (refused 2 e) × (after ≡ out) × ((heard_on h out t.places).1 ≡ t.places)
heard-refusing = heard_in_refusing Crate

-- ---- lists of compiled calls

-- what a call gave: the table that it was called on, its answer, and its output afterwards
abbrev pub Given : Type 0
Given = Table × Result Called Fault × List ℕ

abbrev pub given_as : Given → Outcome × List Place
given_as g = called_as g.0 g.1 g.2

-- each call gave what its contract promises
abbrev pub Ran : List Place → List Call → List Given → Type 0
Ran = ModelRuns.Ran chan (table_of kind 8) Given given_as

-- the places that the last call left, and what was seen of B
abbrev pub last_of : List Place → List Given → List Place
last_of = ModelRuns.last_of chan (table_of kind 8) Given given_as

abbrev pub seen_by : ℕ → List Place → List Call → List Given → List (Seen chan)
seen_by = ModelRuns.seen_by chan (table_of kind 8) Given given_as
