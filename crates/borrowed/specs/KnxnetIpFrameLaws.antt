-- The body of what parsing a datagram borrows is the datagram's body; no second answer. Assumes nothing.
use Rattle.std.specs.Prelude.{ℕ, ◌≡◌, refl, List, [], length, Result, Ok, Err}
use Rattle.std.proofs.Common.{sym, ap, ◌∙◌}
use Rattle.wire.specs.Told.{Told, done, refused, viewed, Check, verdict, judged}
use Rattle.wire.specs.ToldLaws.{same, let_refuse, let_through, was_refused}
use Rattle.wire.specs.Layout.{get}
use Rattle.wire.specs.Parts.{shown}
use Rattle.wire.specs.Parts as Parts
use Rattle.wire.specs.Refusing.{Refusing, refused-zeros, judged-refusing}
use Rattle.wire.specs.declared.parts.View.{View}
use Rattle.wire.specs.declared.refusals.Fault.{Fault}
use Rattle.header.specs.Header.{fields, total_in}
use Rattle.frame.specs.Frame as Frame
use Rattle.frame.specs.FrameLaws as FrameLaws
use Rattle.borrowed.specs.Borrowed.{borrowed_by, borrowed_all, borrowed_none, empty_part}
use Rattle.borrowed.specs.KnxnetIpFrame.{ParsePromise, view_of, BodyViewPromise, body_of, BodyPromise, BodyInPromise}
use Rattle.borrowed.specs.declared.knxnet_ip_frame.KnxnetIpFrame.{KnxnetIpFrame}
use Rattle.frame.specs.declared.frame.FrameFields.{FrameFields}

module _ (s : List ℕ) where
  abbrev cs : List Check
  cs = Frame.checks (length s) (get fields 0 s)

  abbrev told : Told
  told = done (get fields 0 s)

  body_of_lem : (a : Result FrameFields Fault) (borrowed : List ℕ) → borrowed ≡ borrowed_by (verdict cs) s → Frame.ParsePromise s a → body_of a borrowed ≡ shown s (judged cs (viewed 6 (total_in (get fields 0 s))))
  body_of_lem (Ok f) borrowed h p =
      ap (body_of (Ok f)) (h ∙ sym (borrowed_all cs told (Frame.told (Ok f)) s refl p))
      ∙ ap (λ (u : Told). shown s (judged (Frame.checks (length s) u.values) (viewed 6 (total_in u.values)))) (let_through cs told (Frame.told (Ok f)) refl p)
  body_of_lem (Err e) borrowed h p = empty_part borrowed ∙ sym (ap (shown s) (let_refuse cs (viewed 6 (total_in (get fields 0 s))) e.why (was_refused cs told 4 e refl p)) ∙ empty_part s)

pub body_in : (s : List ℕ) (f : KnxnetIpFrame) (r : List ℕ) → ParsePromise s f → BodyPromise f r → BodyInPromise s r
body_in s f r p q = q ∙ body_of_lem s f.answer f.«data».now p.0 p.1

-- ---- refused

-- a parse that refuses borrows none
pub borrows_none : (s : List ℕ) (f : KnxnetIpFrame) (e : Fault) → ParsePromise s f → f.answer ≡ Err e → f.«data».now ≡ []
borrows_none s f e p q = p.0 ∙ sym (borrowed_none (cs s) (told s) 4 e s refl (sym (ap Frame.told q) ∙ p.1))

-- and of a refused record, whoever made it, no byte is a body
pub body-none : (f : KnxnetIpFrame) (e : Fault) (r : List ℕ) → f.answer ≡ Err e → BodyPromise f r → r ≡ []
body-none f e r q p = p ∙ ap (λ (a : Result FrameFields Fault). body_of a f.«data».now) q ∙ empty_part f.«data».now

-- the view of a refused record tells that refusal
pub view_none : (s : List ℕ) (a : Result FrameFields Fault) (e : Fault) (r : Result View Fault) → a ≡ Err e → BodyViewPromise s a r → Parts.told r ≡ refused 0 e
view_none s a e r q p = p ∙ ap (λ (b : Result FrameFields Fault). view_of b s) q

-- a view that is refused tells its number and no more
pub view_refusing : (s : List ℕ) (a : Result FrameFields Fault) (r : Result View Fault) → BodyViewPromise s a r → Refusing (Parts.told r)
view_refusing s (Ok f) r p = judged-refusing (Frame.record_checks f (length s)) (viewed 6 f.header.total_length) (Parts.told r) refl p
view_refusing s (Err e) r p = λ _. rw p (refused-zeros 0 e)

-- and the part of such a view is empty
pub body_refused : (f : KnxnetIpFrame) (v : Result View Fault) (e : Fault) (r : List ℕ) → BodyViewPromise f.«data».now f.answer v → BodyPromise f r → v ≡ Err e → r ≡ []
body_refused f v e r p q n = q ∙ ap (shown f.«data».now) (sym p) ∙ ap (λ (w : Result View Fault). shown f.«data».now (Parts.told w)) n ∙ empty_part f.«data».now

-- ---- no second answer: a part is settled by its bytes

pub parse_one : (s : List ℕ) (r q : KnxnetIpFrame) → ParsePromise s r → ParsePromise s q → (r.«data».now ≡ q.«data».now) × (r.answer ≡ q.answer)
parse_one s r q a b = (same a.0 b.0, FrameLaws.parse_one s r.answer q.answer a.1 b.1)
