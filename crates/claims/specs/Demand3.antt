-- Demand 3, of the compiled table: tunnels in one table do not disturb each other. Calls carry raw datagrams and whole lent outputs; whose call it is, is computed from the bytes; a trace has number, what is said, count, view, offset, the whole output, and what is left of the channel.
use Rattle.std.specs.Prelude.{ℕ, ◌+◌, ◌≤◌, ◌≡◌, refl, List, [], length, get_or, drop, Ok, None, Some, Result}
use Rattle.std.proofs.Common.{arith, sym, ap, subst, ◌∙◌}
use Rattle.wire.specs.Parts.{part_of}
use Rattle.tunnel_datagram.specs.Hearing.{cemi_start, heard_by01}
use Rattle.tunnel_datagram.specs.declared.hearing.Heard.TheVariants.{Request, Ack}
use Rattle.tunnel_datagram.specs.WrittenHeard as WrittenHeard
use Rattle.frame.specs.Frame as Frame
use Rattle.frame.specs.declared.frame.FrameFields.{FrameFields}
use Rattle.tunnelling.specs.Request as TunnelingRequest
use Rattle.tunnelling.specs.declared.form.Form.TheVariants.{Crate}
use Rattle.tunnelling.specs.declared.request.TunnelingRequest.{TunnelingRequest}
use Rattle.tunnel.specs.declared.rules.Tunnel.{Tunnel}
use Rattle.tunnel_model.specs.Firsts.{count_of}
use Rattle.tunnel_model.specs.Store.{IsolatesAt, Isolates, Opening, Opens, reached, names, table_trace, lone_trace, calls_of}
use Rattle.tunnel_model.specs.Places.{holds}
use Rattle.tunnel_model.specs.PlacesLaws.{Kept}
use Rattle.tunnel_model.specs.Calls.{Call, Open, Send, Datagram}
use Rattle.tunnel_model.specs.Lone.{lone}
use Rattle.tunnel_model.specs.Table.{chan, table_of}
use Rattle.tunnel_model.specs.Demand3 as ModelDemand3
use Rattle.tunnel_model.specs.Opening.{OpenSays}
use Rattle.tunnel_model.specs.Opening as Opening
use Rattle.tunnel_model.specs.RunLaws as RunLaws
use Rattle.tunnel_model.specs.Exchange as Exchange
use Rattle.tunnel_table.specs.Places.{Place, kind, kind_laws}
use Rattle.tunnel_table.specs.Table.{EmptyPromise, CallPromise}
use Rattle.tunnel_table.specs.Compiled as Compiled
use Rattle.tunnel_table.specs.declared.table.Table.{Table}
use Rattle.tunnel_table.specs.declared.table.Called.{Called}
use Rattle.tunnel_image.specs.Image.{unpacked}
use Rattle.tunnel_image.specs.Demand3.{empty_image, image_table}
use Rattle.tunnel_image.specs.Demand3 as ImageDemand3
use Rattle.knx.specs.Called as Called
use Rattle.knx.specs.CalledLaws.{empty_is}
use Rattle.knx.specs.Runs as KnxRuns
use Rattle.knx.specs.declared.building.KnxWritten.{KnxWritten}
use Rattle.knx.specs.declared.called.KnxCalled.{KnxCalled}
use Rattle.wire.specs.declared.refusals.Fault.{Fault}

-- ---- the table

-- from any table that calls reach with B open, until B is closed, B's calls get what a lone tunnel gives that is fed B's calls only
pub isolates : Isolates chan (table_of kind 8)
isolates = ModelDemand3.isolates kind kind_laws 8

-- and from any table of eight places in which no id stands twice, whether calls reach it or not
pub isolates_from : (l : List Place) → Kept kind kind_laws 8 l → IsolatesAt chan (table_of kind 8) l
isolates_from = ModelDemand3.isolates_from kind kind_laws 8

-- whatever the other channels do: two lists with the same calls of B give B the same
pub no_difference : (before calls others : List Call) (b : ℕ) (p : Tunnel) → (table_of kind 8).look b (reached chan (table_of kind 8) before) ≡ Some p
    → calls_of chan (names chan b) calls ≡ calls_of chan (names chan b) others
    → table_trace chan (table_of kind 8) (names chan b) b (reached chan (table_of kind 8) before) calls ≡ table_trace chan (table_of kind 8) (names chan b) b (reached chan (table_of kind 8) before) others
no_difference = ModelDemand3.no_difference kind kind_laws 8

-- opening: refused exactly if eight other ids are open, and else B starts afresh
pub opens : Opens chan 8 (table_of kind 8)
opens = ModelDemand3.opens_as_said kind kind_laws 8

-- by numbers: 7 exactly if open, 8 exactly if not open and eight other ids are, else 0 and afresh
pub open_says : (before : List Call) (b : ℕ) → OpenSays kind 8 (reached chan (table_of kind 8) before) b
open_says = Opening.open_says kind 8 kind_laws

-- no id is ever open twice
pub one_place : (calls : List Call) (b : ℕ) → count_of (holds kind b) (reached chan (table_of kind 8) calls) ≤ 1
one_place = ModelDemand3.one_place kind kind_laws 8

-- ---- lists of compiled calls from the compiled empty table, each with what its contract promises

module _ (start : Table) (begun : EmptyPromise start) (before : List Call) (gs : List Compiled.Given) (ran : Compiled.Ran start.places before gs) where
  -- the places that the last of them left
  abbrev pub here : List Place
  here = Compiled.last_of start.places gs

  -- they are those that 01's table reaches
  pub folds : here ≡ reached chan (table_of kind 8) before
  folds = RunLaws.there chan (table_of kind 8) Compiled.Given Compiled.given_as start.places begun before gs ran

  -- B's calls then give what the lone tunnel gives
  pub compiled_isolates : (calls : List Call) (hs : List Compiled.Given) (b : ℕ) (p : Tunnel) → Compiled.Ran here calls hs → (table_of kind 8).look b here ≡ Some p
      → Compiled.seen_by b here calls hs ≡ lone_trace chan (Some p) (calls_of chan (names chan b) calls)
  compiled_isolates = RunLaws.run_isolates chan (table_of kind 8) Compiled.Given Compiled.given_as start.places begun before gs ran isolates

  -- whatever the other channels do
  pub compiled_no_difference : (calls others : List Call) (hs is : List Compiled.Given) (b : ℕ) (p : Tunnel) → Compiled.Ran here calls hs → Compiled.Ran here others is
      → (table_of kind 8).look b here ≡ Some p → calls_of chan (names chan b) calls ≡ calls_of chan (names chan b) others
      → Compiled.seen_by b here calls hs ≡ Compiled.seen_by b here others is
  compiled_no_difference = RunLaws.run_no_difference chan (table_of kind 8) Compiled.Given Compiled.given_as start.places begun before gs ran isolates

  -- an opening of B, which is not open, is refused exactly if eight other ids are open, and else starts B afresh
  pub compiled_opens : (t : Table) (r : Result Called Fault) (b : ℕ) → t.places ≡ here → CallPromise t (Open b) r [] → (table_of kind 8).look b here ≡ None
      → Opening chan (table_of kind 8) 8 b here (Open b) (Compiled.given_as (t, r, []))
  compiled_opens t r b at p e =
      RunLaws.run-opens chan (table_of kind 8) Compiled.Given Compiled.given_as start.places begun before gs ran 8 opens (Open b) (t, r, []) b
      (p ∙ ap (λ (l : List Place). (table_of kind 8).step l (Open b)) at) refl refl e

  -- no id is open twice
  pub compiled_one_place : (b : ℕ) → count_of (holds kind b) here ≤ 1
  compiled_one_place b = subst (λ (l : List Place). count_of (holds kind b) l ≤ 1) (sym folds) (one_place before b)

-- ---- a table that is lent as a byte image, from the image of the empty table with any bytes behind it

pub image_isolates : (rest : List ℕ) → Isolates chan (image_table rest)
image_isolates = ImageDemand3.image_isolates

pub image_opens : (rest : List ℕ) → Opens chan 8 (image_table rest)
image_opens = ImageDemand3.image_opens

-- and lists of calls from C on an image that `knx_table_empty` wrote
module _ (image start : List ℕ) (w : KnxWritten) (emptied : Called.EmptyPromise image w start) (done : w.number ≡ 0) (before : List Call) (gs : List KnxRuns.Given) (ran : KnxRuns.Ran (drop 40 image) start before gs) where
  -- what stands behind the image
  abbrev rest : List ℕ
  rest = drop 40 image

  -- the image that the last of them left
  abbrev pub last_image : List ℕ
  last_image = KnxRuns.last_of rest start gs

  begun : start ≡ empty_image rest
  begun = empty_is image w start emptied done

  pub border_isolates : (calls : List Call) (hs : List KnxRuns.Given) (b : ℕ) (p : Tunnel) → KnxRuns.Ran rest last_image calls hs → (image_table rest).look b last_image ≡ Some p
      → KnxRuns.seen_by rest b last_image calls hs ≡ lone_trace chan (Some p) (calls_of chan (names chan b) calls)
  border_isolates = RunLaws.run_isolates chan (image_table rest) KnxRuns.Given KnxRuns.given_as start begun before gs ran (image_isolates rest)

  pub border_no_difference : (calls others : List Call) (hs is : List KnxRuns.Given) (b : ℕ) (p : Tunnel) → KnxRuns.Ran rest last_image calls hs → KnxRuns.Ran rest last_image others is
      → (image_table rest).look b last_image ≡ Some p → calls_of chan (names chan b) calls ≡ calls_of chan (names chan b) others
      → KnxRuns.seen_by rest b last_image calls hs ≡ KnxRuns.seen_by rest b last_image others is
  border_no_difference = RunLaws.run_no_difference chan (image_table rest) KnxRuns.Given KnxRuns.given_as start begun before gs ran (image_isolates rest)

  pub border_opens : (r : KnxCalled) (b : ℕ) (after : List ℕ) → Called.OpenPromise last_image b r after → (image_table rest).look b last_image ≡ None
      → Opening chan (image_table rest) 8 b last_image (Open b) (KnxRuns.given_as ((r, []), after))
  border_opens r b after p e =
      RunLaws.run-opens chan (image_table rest) KnxRuns.Given KnxRuns.given_as start begun before gs ran 8 (image_opens rest) (Open b) ((r, []), after) b p refl refl e

  pub border_one_place : (b : ℕ) → count_of (holds kind b) (unpacked last_image) ≤ 1
  border_one_place b =
      subst (λ (l : List ℕ). count_of (holds kind b) (unpacked l) ≤ 1) (sym (RunLaws.there chan (image_table rest) KnxRuns.Given KnxRuns.given_as start begun before gs ran)) (ImageDemand3.image_one_place rest before b)

-- ---- what one table writes, another hears

-- a request that a send wrote: its channel, its sending number, and its cEMI, whose part is the sent bytes
pub send_heard : (t : Tunnel) (b : ℕ) (cemi out : List ℕ) → (lone t (Send b cemi out)).0.0.number ≡ 0
    → (heard_by01 (lone t (Send b cemi out)).0.1 ≡ Ok (Request b t.s (cemi_start + length cemi)))
    × (part_of (lone t (Send b cemi out)).0.1 cemi_start (cemi_start + length cemi) ≡ cemi)
send_heard = Exchange.send_heard Crate

-- an acknowledgement of eleven bytes that a request brought about: its channel, its number, and status 0
pub ack-heard : (t : Tunnel) (channel n end : ℕ) (bytes out : List ℕ) → heard_by01 bytes ≡ Ok (Request channel n end) → (lone t (Datagram bytes out)).0.0.number ≡ 0
    → get_or (lone t (Datagram bytes out)).0.0.values 1 0 ≡ 11 → heard_by01 (lone t (Datagram bytes out)).0.1 ≡ Ok (Ack channel n 0)
ack-heard t channel n end bytes out is z w = Exchange.ack-heard Crate t channel n end bytes out is z (omega (arith, w))

-- the cEMI that is heard is the part that the frame's parse and the body's hand out
pub cemi_same : (s : List ℕ) (f : FrameFields) (body : List ℕ) (q : TunnelingRequest) (cemi : List ℕ)
    → Frame.ParsePromise s (Ok f) → Frame.BodyPartPromise f s body → TunnelingRequest.ParsePromise body (Ok q) → TunnelingRequest.CemiPartPromise body cemi
    → cemi ≡ part_of s cemi_start f.header.total_length
cemi_same = WrittenHeard.cemi_same
