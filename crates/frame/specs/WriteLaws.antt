-- How a frame is laid into a buffer, piece behind piece. Assumes nothing.
use Rattle.std.specs.Prelude.{ℕ, ◌+◌, ◌≤◌, ◌≡◌, refl, List, [], ◌∷◌, ◌++◌, length, Result}
use Rattle.std.proofs.Common.{arith, ap, ◌∙◌, length-append}
use Rattle.wire.specs.Layout.{put, copied}
use Rattle.wire.specs.LayoutLaws.{copied_behind, length_three}
use Rattle.wire.specs.Told.{Check, verdict}
use Rattle.wire.specs.Writing.{onto, Writes}
use Rattle.wire.specs.WritingLaws.{writes_one, writes_as}
use Rattle.constants.specs.Constants.{header_size, version10}
use Rattle.constants.specs.Services.{code_of}
use Rattle.constants.specs.declared.services.ServiceType.{ServiceType}
use Rattle.header.specs.Header.{fields}
use Rattle.frame.specs.Write.{frame, frame_checks, WriteFramePromise}
use Rattle.wire.specs.declared.refusals.Refusal.{Refusal}

-- the header of a total length
abbrev pub lead : ServiceType → ℕ → List ℕ
lead s total = put fields (header_size ∷ version10 ∷ code_of s ∷ total ∷ [])

-- the sum that is asked of three pieces is the frame's length
pub sum_of : (a b c : List ℕ) → 6 + length a + length b + length c ≡ 6 + length (a ++ b ++ c)
sum_of a b c = omega (arith, length_three a b c)

-- a header, and three pieces copied one behind another, are the frame of the three
pub laid : (s : ServiceType) (a b c buf one two three four : List ℕ)
    → 6 + length a + length b + length c ≤ length buf
    → one ≡ onto buf (lead s (6 + length a + length b + length c))
    → two ≡ copied a one 6
    → three ≡ copied b two (6 + length a)
    → four ≡ copied c three (6 + length a + length b)
    → four ≡ onto buf (frame s (a ++ b ++ c))
laid s a b c buf one two three four room e₁ e₂ e₃ e₄ =
    let total : ℕ = 6 + length a + length b + length c in
    let w : List ℕ = lead s total in
    let behind-a : two ≡ onto buf (w ++ a) = e₂ ∙ ap (λ (l : List ℕ). copied a l 6) e₁ ∙ copied_behind w a buf 6 refl (omega arith) in
    let at_b : length (w ++ a) ≡ 6 + length a = omega arith in
    let behind-b : three ≡ onto buf (w ++ a ++ b) =
    e₃ ∙ ap (λ (l : List ℕ). copied b l (6 + length a)) behind-a ∙ copied_behind (w ++ a) b buf (6 + length a) at_b (omega arith) in
    let at_c : length (w ++ a ++ b) ≡ 6 + length a + length b = omega (arith, length-append a b) in
    let behind-c : four ≡ onto buf (w ++ a ++ b ++ c) =
    e₄ ∙ ap (λ (l : List ℕ). copied c l (6 + length a + length b)) behind-b ∙ copied_behind (w ++ a ++ b) c buf (6 + length a + length b) at_c (omega arith) in
    behind-c ∙ ap (λ (t : ℕ). onto buf (lead s t ++ (a ++ b ++ c))) (sum_of a b c)

-- a builder that hands its body to the writer: the body put otherwise, and checks of its own that say the same
pub framed : (s : ServiceType) (cs : List Check) (body whole before : List ℕ) (r : Result ℕ Refusal) (after : List ℕ)
    → body ≡ whole → verdict (frame_checks (length whole) (length before)) ≡ verdict cs
    → WriteFramePromise s body before r after → Writes cs (frame s whole) before r after
framed s cs body whole before r after e v x =
    writes_as (frame_checks (length body) (length before)) cs (frame s body) (frame s whole) before r after
    (ap (λ (l : List ℕ). verdict (frame_checks (length l) (length before))) e ∙ v)
    (ap (frame s) e)
    x

pub write_one : (s : ServiceType) (body before : List ℕ) (r q : Result ℕ Refusal) (after later : List ℕ)
    → WriteFramePromise s body before r after → WriteFramePromise s body before q later → (r ≡ q) × (after ≡ later)
write_one s body before = writes_one (frame_checks (length body) (length before)) (frame s body) before
