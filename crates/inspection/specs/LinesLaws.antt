-- A line is its parts, each copied to its place; no second answer. Assumes nothing.
use Rattle.std.specs.Prelude.{ℕ, ◌+◌, ◌-◌, ◌<◌, ◌≤◌, ◌≡◌, refl, List, [], ◌∷◌, ◌++◌, length, take, drop, get_or, ltb, Bool, true, false, Result, Ok, Err}
use Rattle.std.proofs.Common.{arith, sym, ap, ◌∙◌, append_assoc, length-append, length-take-le, drop_at, lt-ltb, le-ltb, ltb-true, ltb-false, ne_eqb}
use Rattle.std.proofs.lemmas.Bool.{lt-leb}
use Rattle.wire.specs.Clash.{never}
use Rattle.wire.specs.Told.{Told, done, nowhere, Check, ◌⇒◌, verdict, judged}
use Rattle.wire.specs.Refusals.{number_of}
use Rattle.wire.specs.ToldLaws.{never_done, holds, let_through, was_accepted, was_refused}
use Rattle.wire.specs.Writing as Writing
use Rattle.wire.specs.Writing.{onto, WritePromise}
use Rattle.wire.specs.WritingLaws.{write_one}
use Rattle.wire.specs.Layout.{copied}
use Rattle.wire.specs.LayoutLaws.{copied_is, copied_front, copied_on, length_three}
use Rattle.wire.specs.declared.refusals.Refusal.TheVariants.{BufferTooSmall}
use Rattle.digits.specs.Digits.{decimal}
use Rattle.inspection.specs.Lines.{heading_of, HeadingPromise, PutPromise, closing, line_told, line_of, by_number, LinePromise, ending_of, EndingPromise}
use Rattle.frame.specs.Judging.{told}
use Rattle.frame.specs.declared.judging.Judged.{Judged}
use Rattle.wire.specs.declared.refusals.Refusal.{Refusal}
use Rattle.wire.specs.declared.refusals.Fault.{Fault}

closing-length : (text : List ℕ) (n : ℕ) → length (closing text n) ≡ length text + length (decimal n) + 1
closing-length text n = length_three text (decimal n) (10 ∷ [])

-- what was written is as long as is said, and fits; where it was refused it does not, and nothing changed
pub record Put (w out : List ℕ) (at k : ℕ) : Type 0 where
  pub size : k ≡ length w
  pub fits : at + length w ≤ length out

pub was_put : (w out : List ℕ) (at k : ℕ) → Writing.told (Ok k) ≡ judged (ltb (length out) (at + length w) ⇒ BufferTooSmall ∷ []) (done (length w ∷ [])) → Put w out at k
was_put w out at k p =
    let cs = ltb (length out) (at + length w) ⇒ BufferTooSmall ∷ [] in
    let t = done (length w ∷ []) in
    record {
      size = ap (λ (u : Told). get_or u.values 0 0) (let_through cs t (Writing.told (Ok k)) refl p);
      fits = ltb-false (length out) (at + length w) (holds [] (ltb (length out) (at + length w)) BufferTooSmall [] (was_accepted cs t (Writing.told (Ok k)) refl p));
    }

pub was_full : (w out : List ℕ) (at : ℕ) (e : Refusal) → Writing.told (Err e) ≡ judged (ltb (length out) (at + length w) ⇒ BufferTooSmall ∷ []) (done (length w ∷ [])) → length out < at + length w
was_full w out at e p = go (ltb (length out) (at + length w)) refl
  where
    cs : List Check
    cs = ltb (length out) (at + length w) ⇒ BufferTooSmall ∷ []

    go : (b : Bool) → ltb (length out) (at + length w) ≡ b → length out < at + length w
    go true f = ltb-true (length out) (at + length w) f
    go false f =
        let q : Err e ≡ Ok tt = sym (was_refused cs (done (length w ∷ [])) 1 (nowhere e) refl p) ∙ ap (λ (b : Bool). verdict (b ⇒ BufferTooSmall ∷ [])) f in
        never cc

-- what is put behind room for a front, and the front copied before it, are the whole line
module _ (front w out : List ℕ) (at : ℕ) (a : at ≡ length front) where
  both : length (front ++ w) ≡ at + length w
  both = omega (arith, length-append front w)

  pub front_full : (e : Refusal) (after : List ℕ) → PutPromise w at out (Err e) after → WritePromise (front ++ w) out (Err e) after
  front_full e after p =
      let none = was_full w out at e p.0 in
      let part = lt-ltb (length out) (at + length w) none in
      let whole = lt-ltb (length out) (length (front ++ w)) (omega (arith, both)) in
      (simp whole (simp part at p.0), simp whole (p.1 ∙ simp (lt-leb (at + length w) (length out) none)))

  pub front_put : (k : ℕ) (one after : List ℕ) → PutPromise w at out (Ok k) one → after ≡ copied front one 0 → WritePromise (front ++ w) out (Ok (at + k)) after
  front_put k one after p q =
      let x = was_put w out at k p.0 in
      let rest : List ℕ = drop (at + length w) out in
      let fits = le-ltb (length out) (length (front ++ w)) (omega (arith, both, x.fits)) in
      let put : one ≡ take at out ++ (w ++ rest) = p.1 ∙ copied_is w out at (at + length w) refl x.fits ∙ append_assoc (take at out) w rest in
      let short : length (take at out) ≡ at = length-take-le at out (omega (arith, x.fits)) in
      let room : length front ≤ length one = omega (arith, ap length put, length-append (take at out) (w ++ rest), short) in
      let behind : drop (length front) one ≡ w ++ rest = ap (drop (length front)) put ∙ drop_at (take at out) (w ++ rest) (length front) (omega (arith, short)) in
      let all : after ≡ onto out (front ++ w) =
      q ∙ copied_front front one room ∙ ap (λ (l : List ℕ). front ++ l) behind ∙ sym (append_assoc front w rest) ∙ ap (λ (m : ℕ). (front ++ w) ++ drop m out) (sym both) in
      (simp fits (ap (λ (m : ℕ). done (m ∷ [])) (omega (arith, both, x.size))), simp fits all)

-- a text, a number and a line feed, each copied right behind what stands
pub closed : (text out one two after : List ℕ) (n at to_number to_end : ℕ)
    → to_number ≡ at + length text → to_end ≡ to_number + length (decimal n) → to_end + 1 ≤ length out
    → one ≡ copied text out at → two ≡ copied (decimal n) one to_number → after ≡ copied (10 ∷ []) two to_end → after ≡ copied (closing text n) out at
closed text out one two after n at to_number to_end a b fits p q r =
    let second : two ≡ copied (text ++ decimal n) out at =
    q ∙ ap (λ (l : List ℕ). copied (decimal n) l to_number) p ∙ copied_on text (decimal n) out at to_number (sym a) (omega arith) in
    r ∙ ap (λ (l : List ℕ). copied (10 ∷ []) l to_end) second ∙ copied_on (text ++ decimal n) (10 ∷ []) out at to_end (omega (arith, length-append text (decimal n))) (omega arith)

-- and where it does not fit
pub unclosed : (text out : List ℕ) (n at feed : ℕ) → feed ≡ at + length text + length (decimal n) → length out ≤ feed → PutPromise (closing text n) at out (Err BufferTooSmall) out
unclosed text out n at feed b h =
    let long = closing-length text n in
    (simp (lt-ltb (length out) (at + length (closing text n)) (omega (arith, long))), sym (simp (lt-leb (at + length (closing text n)) (length out) (omega (arith, long)))))

pub closed_put : (text out after : List ℕ) (n at feed : ℕ) → feed ≡ at + length text + length (decimal n) → feed < length out → after ≡ copied (closing text n) out at → PutPromise (closing text n) at out (Ok (feed + 1 - at)) after
closed_put text out after n at feed b h p =
    let long = closing-length text n in
    (simp (le-ltb (length out) (at + length (closing text n)) (omega (arith, long))) (ap (λ (m : ℕ). done (m ∷ [])) (omega (arith, long))), p)

-- the line of a judgment, a refusal by its number, is that of what it tells
pub line_says : (n : ℕ) (j : Result Judged Fault) → line_of n (by_number j) ≡ line_told n (told j)
line_says n (Ok j) = refl
line_says n (Err e) = sym (simp (ne_eqb (number_of e.why) 0 (never_done e.why)))

pub heading_one : (kip : Bool) (out : List ℕ) (r q : Result ℕ Refusal) (after later : List ℕ) → HeadingPromise kip out r after → HeadingPromise kip out q later → (r ≡ q) × (after ≡ later)
heading_one kip = write_one (heading_of kip)

pub ending_one : (n : ℕ) (cut : Bool) (out : List ℕ) (r q : Result ℕ Refusal) (after later : List ℕ)
    → EndingPromise n cut out r after → EndingPromise n cut out q later → (r ≡ q) × (after ≡ later)
ending_one n cut = write_one (ending_of n cut)

pub line_one : (n : ℕ) (j : Result Judged ℕ) (out : List ℕ) (r q : Result ℕ Refusal) (after later : List ℕ)
    → LinePromise n j out r after → LinePromise n j out q later → (r ≡ q) × (after ≡ later)
line_one n j = write_one (line_of n j)
