-- The quoted answers and the waiting states as numbers: at the C border, and in a table's image. Assumes nothing.
use Rattle.std.specs.Prelude.{◌≡◌, ℕ, cond, [], ◌∷◌, ◌==◌, slice_index_or, refl}
use Rattle.std.proofs.Common.{sym, ap, ◌∙◌}
use Rattle.tunnel.specs.declared.rules.Said.{Said}
use Rattle.tunnel.specs.declared.rules.Said.TheVariants.{Nothing, Repeat, GiveUp, Deliver, Duplicate, OutOfOrder, Sent, Ignored}
use Rattle.tunnel.specs.declared.rules.Wait.{Wait}
use Rattle.tunnel.specs.declared.rules.Wait.TheVariants.{Idle, First, Second}

abbrev pub said_of : Said → ℕ
said_of Nothing = 0
said_of Repeat = 1
said_of GiveUp = 2
said_of Deliver = 3
said_of Duplicate = 4
said_of OutOfOrder = 5
said_of Sent = 6
said_of Ignored = 7

abbrev pub wait_number : Wait → ℕ
wait_number Idle = 0
wait_number First = 1
wait_number Second = 2

-- read: 0 is idle, 1 waiting first, every other number waiting second
abbrev pub wait_of : ℕ → Wait
wait_of n = cond (n == 0) Idle (cond (n == 1) First Second)

abbrev pub SaidNumberPromise : Said → ℕ → Type 0
SaidNumberPromise a r = r ≡ said_of a

abbrev pub WaitNumberPromise : Wait → ℕ → Type 0
WaitNumberPromise w r = r ≡ wait_number w

abbrev pub WaitFromPromise : ℕ → Wait → Type 0
WaitFromPromise n r = r ≡ wait_of n

-- ---- there and back

unfoldable said_from : ℕ → Said
said_from n = slice_index_or (Nothing ∷ Repeat ∷ GiveUp ∷ Deliver ∷ Duplicate ∷ OutOfOrder ∷ Sent ∷ Ignored ∷ []) n Nothing

said_back : (a : Said) → said_from (said_of a) ≡ a
unfolding said_from
said_back Nothing = refl
said_back Repeat = refl
said_back GiveUp = refl
said_back Deliver = refl
said_back Duplicate = refl
said_back OutOfOrder = refl
said_back Sent = refl
said_back Ignored = refl

-- a number says what was said
pub said_one : (a b : Said) → said_of a ≡ said_of b → a ≡ b
said_one a b e = sym (said_back a) ∙ ap said_from e ∙ said_back b

pub wait_back : (w : Wait) → wait_of (wait_number w) ≡ w
wait_back Idle = refl
wait_back First = refl
wait_back Second = refl
