-- The border's calls on the table: one law for the five of them, no second answer, and a refusal changes nothing. Assumes nothing.
use Rattle.std.specs.Prelude.{ℕ, ◌<◌, ◌≤◌, ◌≡◌, refl, Bool, cond, List, [], ◌∷◌, length, get_or, drop, Result, Ok, Err}
use Rattle.std.proofs.Common.{arith, sym, ap, subst, ◌∙◌, le-ltb, ne_eqb}
use Rattle.wire.specs.Refusals.{number_of}
use Rattle.wire.specs.Told.{Told, refused, nowhere}
use Rattle.wire.specs.declared.refusals.Fault.{Fault}
use Rattle.wire.specs.declared.refusals.Refusal.TheVariants.{BufferTooSmall}
use Rattle.wire.specs.ToldLaws.{same, one_to_one, never_done}
use Rattle.wire.specs.WritingLaws.{wrote}
use Rattle.wire.specs.Refusing.{Zeros}
use Rattle.wire.specs.Writing.{onto, leaves, room}
use Rattle.tunnelling.specs.declared.form.Form.{Form}
use Rattle.tunnel_model.specs.Calls.{Call, DatagramIn, Outcome, out_of}
use Rattle.tunnel_datagram.specs.Hearing.{heard_in}
use Rattle.tunnel_table.specs.TableLaws.{step-heard}
use Rattle.tunnel_table.specs.Table as Table
use Rattle.tunnel_table.specs.declared.table.Table.{Table}
use Rattle.tunnel_table.specs.declared.table.Called.{Called}
use Rattle.tunnel_model.specs.Store.{step}
use Rattle.tunnel_model.specs.Table.{chan, store_of, empty_of}
use Rattle.tunnel_table.specs.Places.{Place, kind}
use Rattle.tunnel_image.specs.Image.{packed, unpacked, UnpackPromise, PackPromise, packed_onto, step_in}
use Rattle.tunnel_image.specs.ImageLaws.{forty, in_long, on_small, on_enough, LeavesImage, image_leaves, pack_one}
use Rattle.knx.specs.Called.{told, CallPromise, KeepPromise, RefusedPromise, EmptyPromise}
use Rattle.tunnel_image.specs.Demand3.{empty_image}
use Rattle.knx.specs.Building.{WrittenPromise}
use Rattle.knx.specs.BuildingLaws.{tells_one}
use Rattle.knx.specs.declared.building.KnxWritten.{KnxWritten}
use Rattle.knx.specs.declared.called.KnxCalled.{KnxCalled}
use Rattle.wire.specs.declared.refusals.Refusal.{Refusal}

-- an image that is too small
pub small_call : (image : List ℕ) (c : Call) (r : KnxCalled) → length image < 40 → RefusedPromise (nowhere BufferTooSmall) r → CallPromise image c r image (out_of c)
small_call image c r h p = ap (λ (t : Told). ((t, out_of c), image)) p ∙ sym (on_small image c h)

-- a datagram that is refused by its bytes alone
pub unheard_call : (f : Form) (image bytes out : List ℕ) (e : Fault) (r : KnxCalled) → 40 ≤ length image → heard_in f bytes ≡ Err e → RefusedPromise e r → CallPromise image (DatagramIn f bytes out) r image out
unheard_call f image bytes out e r enough h p =
    ap (λ (t : Told). ((t, out), image)) p
    ∙ ap (λ (b : Bool). ((refused 2 e, out), cond b (onto image (packed (unpacked image))) image)) (sym (ne_eqb (number_of e.why) 0 (never_done e.why)))
    ∙ ap (packed_onto image) (step-heard f (unpacked image) bytes out (Err e) h) ∙ sym (on_enough image (DatagramIn f bytes out) enough)

-- the image is unpacked, the table is called, and what it gave is kept
pub packed_call : (image : List ℕ) (c : Call) (t : Table) (q : Result Called Fault) (out : List ℕ) (r : KnxCalled) (after : List ℕ) → 40 ≤ length image
    → UnpackPromise image t → Table.CallPromise t c q out → KeepPromise q image r after → CallPromise image c r after out
packed_call image c t (Ok q) out r after enough u p k =
    let l : List Place = q.table.places in
    let stepped : Table.called_as t (Ok q) out ≡ step_in image c = p ∙ ap (λ (m : List Place). step chan (store_of kind) m c) u in
    let long : length (packed l) ≡ 40 = forty l (ap (λ (x : Outcome × List Place). length x.1) stepped ∙ in_long image c) in
    let fits : leaves (room (length (packed l)) (length image) ∷ []) (packed l) image ≡ onto image (packed l) = simp (le-ltb (length image) (length (packed l)) (omega (arith, long))) in
    ap (λ (x : Told). ((x, out), after)) k.0
    ∙ ap (λ (s : List ℕ). ((Table.told q, out), s)) (k.1 ∙ fits)
    ∙ ap (packed_onto image) stepped
    ∙ sym (on_enough image c enough)
packed_call image c t (Err e) out r after enough u p k =
    let stepped : Table.called_as t (Err e) out ≡ step_in image c = p ∙ ap (λ (m : List Place). step chan (store_of kind) m c) u in
    ap (λ (x : Told). ((x, out), after)) k.0
    ∙ ap (λ (s : List ℕ). ((refused 2 e, out), s)) k.1
    ∙ ap (λ (b : Bool). ((refused 2 e, out), cond b (onto image (packed t.places)) image)) (sym (ne_eqb (number_of e.why) 0 (never_done e.why)))
    ∙ ap (packed_onto image) stepped
    ∙ sym (on_enough image c enough)

-- a table that was emptied is the image of the empty table, and what stands behind it
pub empty_is : (image : List ℕ) (r : KnxWritten) (after : List ℕ) → EmptyPromise image r after → r.number ≡ 0 → after ≡ empty_image (drop 40 image)
empty_is image r after x z = go x.answer x.keeps x.tells
  where
    go : (w : Result ℕ Refusal) → PackPromise (empty_of kind 8) image w after → WrittenPromise w r → after ≡ empty_image (drop 40 image)
    go (Ok n) k t = (wrote (room 40 (length image) ∷ []) (packed (empty_of kind 8)) image n after k).bytes
    go (Err e) k t = absurd (never_done e (sym (ap (λ (u : Told). u.number) t) ∙ z))

-- ---- no second answer: of the answer, the image and the output

called_from : Told → KnxCalled
called_from t = record { start = t.start; end = t.end; written = get_or t.values 1 0; offset = t.offset; said = get_or t.values 0 0; number = t.number }

told_one : (r q : KnxCalled) → told r ≡ told q → r ≡ q
unfolding called_from
told_one = one_to_one told called_from (λ r. refl)

pub call_one : (image : List ℕ) (c : Call) (r q : KnxCalled) (after later out last : List ℕ) → CallPromise image c r after out → CallPromise image c q later last
    → (r ≡ q) × (after ≡ later) × (out ≡ last)
call_one image c r q after later out last a b =
    let e = same a b in (
      told_one r q (ap (λ (x : Outcome × List ℕ). x.0.0) e),
      ap (λ (x : Outcome × List ℕ). x.1) e,
      ap (λ (x : Outcome × List ℕ). x.0.1) e,
    )

pub empty_one : (image : List ℕ) (r q : KnxWritten) (after later : List ℕ) → EmptyPromise image r after → EmptyPromise image q later → (r ≡ q) × (after ≡ later)
empty_one image = tells_one (PackPromise (empty_of kind 8) image) (pack_one (empty_of kind 8) image)

-- ---- demand 1: zeros, and neither the image nor the output is changed

pub call_refusing : (image : List ℕ) (c : Call) (r : KnxCalled) (after out : List ℕ) → CallPromise image c r after out → (r.number ≡ 0 → ⊥)
    → Zeros (told r) × (out ≡ out_of c) × (after ≡ image)
call_refusing image c r after out p n = let x = subst (LeavesImage image c) (sym p) (image_leaves image c) n in (x.0.0, x.0.1, x.1)
