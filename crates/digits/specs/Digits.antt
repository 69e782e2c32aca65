-- "Service in four upper-case hex digits, total length in decimal": the digits of a number, as the bytes that are printed. Assumes nothing.
use Rattle.std.specs.Prelude.{ℕ, zero, suc, ◌+◌, ◌-◌, ◌*◌, ◌/◌, ◌%◌, ◌≡◌, cond, List, [], ◌∷◌, ◌++◌, length, eqb, ltb}
use Rattle.wire.specs.Layout.{CopyPromise}

-- the last k decimal digits of n without leading zeros: none of 0
unfoldable pub digits_of : ℕ → ℕ → List ℕ
digits_of zero n = []
digits_of (suc k) n = cond (eqb n 0) [] (digits_of k (n / 10) ++ (48 + n % 10) ∷ [])

-- in at most k places; 0 has one digit
abbrev pub decimal_in : ℕ → ℕ → List ℕ
decimal_in k n = cond (eqb n 0) (48 ∷ []) (digits_of k n)

-- a number of 64 bits has at most twenty digits
abbrev pub decimal : ℕ → List ℕ
decimal n = decimal_in 20 n

abbrev pub PlacesPromise : ℕ → ℕ → Type 0
PlacesPromise n r = r ≡ length (decimal n)

-- as many digits as there are places, leading zeros too
abbrev pub last_digits : ℕ → ℕ → List ℕ
last_digits zero n = []
last_digits (suc k) n = last_digits k (n / 10) ++ (48 + n % 10) ∷ []

-- the last digits of a number, from one place up to another
abbrev pub DigitsPromise : ℕ → List ℕ → ℕ → ℕ → List ℕ → Type 0
DigitsPromise n out at end after = CopyPromise (last_digits (end - at) n) out at after

abbrev pub hex_digit : ℕ → ℕ
hex_digit d = cond (ltb d 10) (48 + d) (55 + d)

abbrev pub HexDigitPromise : ℕ → ℕ → Type 0
HexDigitPromise d r = r ≡ hex_digit (d % 16)

-- a number of sixteen bits
abbrev pub hex4 : ℕ → List ℕ
hex4 n = hex_digit (n / 4096 % 16) ∷ hex_digit (n / 256 % 16) ∷ hex_digit (n / 16 % 16) ∷ hex_digit (n % 16) ∷ []

abbrev pub HexPromise : ℕ → List ℕ → Type 0
HexPromise n r = r ≡ hex4 n

-- ---- what digits mean

-- the number that decimal digits mean, behind a number that was read
abbrev pub read_from : ℕ → List ℕ → ℕ
read_from n [] = n
read_from n (d ∷ ds) = read_from (n * 10 + (d - 48)) ds

-- 10 to the power k
unfoldable pub tens : ℕ → ℕ
tens zero = 1
tens (suc k) = 10 * tens k

abbrev pub hex_value : ℕ → ℕ
hex_value d = cond (ltb d 58) (d - 48) (d - 55)
