-- Laws of `Image`: what was packed is unpacked again; a table is written place by place; a call on an image of 40 bytes or more is one step of the table that it holds. Assumes nothing.
use Rattle.std.specs.Prelude.{ℕ, ◌+◌, ◌*◌, ◌<◌, ◌≤◌, ◌≡◌, refl, Bool, true, false, cond, List, [], ◌∷◌, ◌++◌, length, take, drop, get_or, eqb, ltb, Result, None, Some}
use Rattle.std.proofs.Common.{add-one, arith, sym, ap, ◌∙◌, append_assoc, length-append, take-suc, take_all, length-take-le, lt-ltb, le-ltb, eqb-true}
use Rattle.std.proofs.lemmas.Bool.{eqb-false}
use Rattle.wire.specs.Told.{nowhere}
use Rattle.wire.specs.LayoutLaws.{get-put, copied_behind}
use Rattle.wire.specs.Layout.{get, copied}
use Rattle.wire.specs.Writing.{onto}
use Rattle.wire.specs.ToldLaws.{same}
use Rattle.wire.specs.WritingLaws.{write_one}
use Rattle.wire.specs.declared.refusals.Refusal.TheVariants.{BufferTooSmall}
use Rattle.tunnel.specs.Numbers.{wait_back}
use Rattle.tunnel.specs.declared.rules.Wait.{Wait}
use Rattle.tunnel_model.specs.PlacesLaws.{step_long}
use Rattle.tunnel_model.specs.Calls.{Call, Outcome, out_of, refuses}
use Rattle.tunnel_model.specs.Refusing.{IsRefusal, Clean, refusal-zeros, table_leaves}
use Rattle.tunnel_model.specs.Table.{chan, store_of}
use Rattle.tunnel_table.specs.Places.{Place, held, kind, kind_laws}
use Rattle.tunnel_table.specs.declared.table.Table.{Table}
use Rattle.tunnel_image.specs.Image.{fields, values, place_of, layout, packed, places_from, unpacked, UnpackPromise, PackPromise, packed_onto, step_in, on_image}
use Rattle.wire.specs.declared.refusals.Refusal.{Refusal}

-- ---- there and back

place_back : (p : Place) → place_of (values p) ≡ p
place_back None = refl
place_back (Some h) = ap (λ (w : Wait). held h.id (record { r = h.tunnel.r; s = h.tunnel.s; w = w })) (wait_back h.tunnel.w)

five : (p : Place) → length (values p) ≡ 5
five None = refl
five (Some h) = refl

-- the places that stand behind pre
places_back : (l : List Place) (pre rest : List ℕ) (at : ℕ) → length pre ≡ at → places_from (length l) (pre ++ (packed l ++ rest)) at ≡ l
places_back [] pre rest at e = refl
places_back (p ∷ l) pre rest at e =
    let image : List ℕ = pre ++ (layout p ++ (packed l ++ rest)) in
    let next : image ≡ (pre ++ layout p) ++ (packed l ++ rest) = sym (append_assoc pre (layout p) (packed l ++ rest)) in
    let first : place_of (get fields at image) ≡ p = ap place_of (get-put fields (values p) pre (packed l ++ rest) at e (five p)) ∙ place_back p in
    let later : places_from (length l) image (at + 5) ≡ l =
    ap (λ (s : List ℕ). places_from (length l) s (at + 5)) next ∙ places_back l (pre ++ layout p) rest (at + 5) (length-append pre (layout p) ∙ omega (arith, e)) in
    ap (λ (q : Place). q ∷ places_from (length l) image (at + 5)) first ∙ ap (λ (m : List Place). p ∷ m) later

pub back : (l : List Place) (rest : List ℕ) → length l ≡ 8 → unpacked (packed l ++ rest) ≡ l
back l rest eight = ap (λ (n : ℕ). places_from n (packed l ++ rest) 0) (sym eight) ∙ places_back l [] rest 0 refl

-- ---- written place by place

packed-length : (l : List Place) → length (packed l) ≡ 5 * length l
packed-length [] = refl
packed-length (p ∷ l) = length-append (layout p) (packed l) ∙ omega (arith, packed-length l)

pub forty : (l : List Place) → length l ≡ 8 → length (packed l) ≡ 40
forty l eight = packed-length l ∙ omega (arith, eight)

packed-append : (l m : List Place) → packed (l ++ m) ≡ packed l ++ packed m
packed-append [] m = refl
packed-append (p ∷ l) m = ap (λ (s : List ℕ). layout p ++ s) (packed-append l m)

-- the next place goes right behind those that stand
pub packed_turn : (l : List Place) (i : ℕ) (d : Place) (image mid after : List ℕ) → i < length l → 5 * length l ≤ length image
    → mid ≡ onto image (packed (take i l)) → after ≡ copied (layout (get_or l i d)) mid (i * 5) → after ≡ onto image (packed (take (i + 1) l))
packed_turn l i d image mid after below room e f =
    let p : Place = get_or l i d in
    let w : List ℕ = packed (take i l) in
    let at : length w ≡ i * 5 = packed-length (take i l) ∙ omega (arith, length-take-le i l (omega arith)) in
    let more : packed (take (i + 1) l) ≡ w ++ layout p = rw (add-one i, take-suc l i d below) (packed-append (take i l) (p ∷ [])) in
    f ∙ ap (λ (s : List ℕ). copied (layout p) s (i * 5)) e ∙ copied_behind w (layout p) image (i * 5) at (omega arith) ∙ ap (onto image) (sym more)

pub packed_all : (l : List Place) (i : ℕ) (image : List ℕ) → length l ≤ i → onto image (packed (take i l)) ≡ onto image (packed l)
packed_all l i image h = ap (λ (m : List Place). onto image (packed m)) (take_all i l h)

-- ---- a call on an image

-- a call changes no number of places
pub in_long : (image : List ℕ) (c : Call) → length (step_in image c).1 ≡ 8
in_long image c = step_long chan kind (store_of kind).full (unpacked image) c

pub on_small : (image : List ℕ) (c : Call) → length image < 40 → on_image image c ≡ (refuses BufferTooSmall (out_of c), image)
on_small image c h = simp (lt-ltb (length image) 40 h)

pub on_enough : (image : List ℕ) (c : Call) → 40 ≤ length image → on_image image c ≡ packed_onto image (step_in image c)
on_enough image c h = simp (le-ltb (length image) 40 h)

-- what is kept holds the places afterwards, where a refusal leaves them
packed_onto_holds : (image : List ℕ) (x : Outcome × List Place) → 40 ≤ length image → length x.1 ≡ 8 → ((x.0.0.number ≡ 0 → ⊥) → x.1 ≡ unpacked image)
    → (unpacked (packed_onto image x).1 ≡ x.1) × (40 ≤ length (packed_onto image x).1)
packed_onto_holds image x room eight stays = go (eqb x.0.0.number 0) refl
  where
    go : (b : Bool) → eqb x.0.0.number 0 ≡ b
        → (unpacked (cond b (onto image (packed x.1)) image) ≡ x.1) × (40 ≤ length (cond b (onto image (packed x.1)) image))
    go true e = (
      back x.1 (drop (length (packed x.1)) image) eight,
      omega (arith, length-append (packed x.1) (drop (length (packed x.1)) image), forty x.1 eight),
    )
    go false e = (sym (stays (eqb-false x.0.0.number 0 e)), room)

-- a call on an image is the step of the table that it holds
pub image_step : (image : List ℕ) (c : Call) → 40 ≤ length image
    → ((on_image image c).0 ≡ (step_in image c).0) × (unpacked (on_image image c).1 ≡ (step_in image c).1) × (40 ≤ length (on_image image c).1)
image_step image c room =
    let k = packed_onto_holds image (step_in image c) room (in_long image c) (λ n. (table_leaves kind kind_laws (unpacked image) c n).1) in
    rw (on_enough image c room) (refl, k.0, k.1)

-- ---- refusals, and no second answer

-- a number other than 0: zeros, and neither the output nor the image is changed
abbrev pub LeavesImage : List ℕ → Call → Outcome × List ℕ → Type 0
LeavesImage image c x = IsRefusal x.0 → Clean c x.0 × (x.1 ≡ image)

pub image_leaves : (image : List ℕ) (c : Call) → LeavesImage image c (on_image image c)
image_leaves image c = go (ltb (length image) 40)
  where
    at : (b : Bool) → eqb (step_in image c).0.0.number 0 ≡ b → ((step_in image c).0.0.number ≡ 0 → ⊥) → cond b (onto image (packed (step_in image c).1)) image ≡ image
    at true e n = absurd (n (eqb-true (step_in image c).0.0.number 0 e))
    at false e n = refl

    go : (b : Bool) → LeavesImage image c (cond b (refuses BufferTooSmall (out_of c), image) (packed_onto image (step_in image c)))
    go true n = ((refusal-zeros (nowhere BufferTooSmall) n, refl), refl)
    go false n = ((table_leaves kind kind_laws (unpacked image) c n).0, at (eqb (step_in image c).0.0.number 0) refl n)

pub pack_one : (l : List Place) (image : List ℕ) (r q : Result ℕ Refusal) (after later : List ℕ) → PackPromise l image r after → PackPromise l image q later → (r ≡ q) × (after ≡ later)
pack_one l = write_one (packed l)

pub unpack_one : (image : List ℕ) (r q : Table) → UnpackPromise image r → UnpackPromise image q → r ≡ q
unpack_one image r q a b = ap (λ (l : List Place). record { places = l }) (same a b)
