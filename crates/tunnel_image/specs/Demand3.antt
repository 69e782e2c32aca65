-- Demand 3 for a table that a host lends as an image, from the image of the empty table, whatever stands behind its 40 bytes. Assumes nothing.
use Rattle.std.specs.Prelude.{ℕ, ◌≤◌, ◌≡◌, refl, List, ◌++◌, length}
use Rattle.std.proofs.Common.{arith, sym, ap, subst, ◌∙◌, length-append}
use Rattle.wire.specs.declared.refusals.Refusal.TheVariants.{TableFull}
use Rattle.tunnel_model.specs.Firsts.{count_of}
use Rattle.tunnel_model.specs.Store.{Machine, Isolates, Opens, step, reached}
use Rattle.tunnel_model.specs.Places.{holds}
use Rattle.tunnel_model.specs.Alike.{Alike, reached_both, isolates_alike, opens_alike}
use Rattle.tunnel_model.specs.Calls.{Call, Outcome, out_of, refuses}
use Rattle.tunnel_model.specs.Table.{chan, store_of, empty_of, table_of}
use Rattle.tunnel_model.specs.Demand3.{isolates, opens_as_said, one_place}
use Rattle.tunnel_table.specs.Places.{Place, kind, kind_laws}
use Rattle.tunnel_image.specs.Image.{packed, unpacked, on_image}
use Rattle.tunnel_image.specs.ImageLaws.{back, image_step, image_leaves}

abbrev pub empty_image : List ℕ → List ℕ
empty_image rest = packed (empty_of kind 8) ++ rest

-- the table that calls on images are: an image is looked at through the table that it holds
abbrev pub image_table : List ℕ → Machine chan
image_table rest = record { Table = List ℕ; start = empty_image rest; look = λ b image. (table_of kind 8).look b (unpacked image); step = on_image }

-- "full" is a refusal
full_stays : (image : List ℕ) (c : Call) → (on_image image c).0 ≡ refuses TableFull (out_of c) → (on_image image c).1 ≡ image
full_stays image c e = (image_leaves image c (λ z. (let h : ◌≡◌ {A = ℕ} (on_image image c).0.0.number 8 = ap (λ (x : Outcome). x.0.number) e in omega (arith, h, z)))).1

-- an image of 40 bytes or more and the places that it holds
alike : (rest : List ℕ) → Alike chan (image_table rest) (table_of kind 8)
alike rest = record {
  Both = λ image l. (40 ≤ length image) × (unpacked image ≡ l);
  start_both = (omega (arith, length-append (packed (empty_of kind 8)) rest), back (empty_of kind 8) rest refl);
  step_both = λ image l c b.
      let x = image_step image c b.0 in
      (x.2, x.1 ∙ ap (λ (m : List Place). (step chan (store_of kind) m c).1) b.1);
  outcome_is = λ image l c b. (image_step image c b.0).0 ∙ ap (λ (m : List Place). (step chan (store_of kind) m c).0) b.1;
  look_is = λ image l i b. ap ((table_of kind 8).look i) b.1;
}

-- "what is seen of B is what the lone tunnel gives": from any image that calls reach with B open
pub image_isolates : (rest : List ℕ) → Isolates chan (image_table rest)
image_isolates rest = isolates_alike chan (image_table rest) (table_of kind 8) (alike rest) (isolates kind kind_laws 8)

-- opening is refused exactly if eight other ids are open, and then changes no byte of the image; else it starts B afresh
pub image_opens : (rest : List ℕ) → Opens chan 8 (image_table rest)
image_opens rest = opens_alike chan (image_table rest) (table_of kind 8) (alike rest) 8 (λ before c. full_stays (reached chan (image_table rest) before) c) (opens_as_said kind kind_laws 8)

-- no id is ever open twice
pub image_one_place : (rest : List ℕ) (calls : List Call) (b : ℕ) → count_of (holds kind b) (unpacked (reached chan (image_table rest) calls)) ≤ 1
unfolding alike
image_one_place rest calls b =
    let same : unpacked (reached chan (image_table rest) calls) ≡ reached chan (table_of kind 8) calls = (reached_both chan (image_table rest) (table_of kind 8) (alike rest) calls).1 in
    subst (λ (l : List Place). count_of (holds kind b) l ≤ 1) (sym same) (one_place kind kind_laws 8 calls b)
