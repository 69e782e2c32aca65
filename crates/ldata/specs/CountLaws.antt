-- What both counts have in common, so that what is proved over any count with these laws holds in both. Assumes nothing.
use Rattle.std.specs.Prelude.{ℕ, ◌+◌, ◌≤◌, ◌≡◌, refl, Bool, true, false, cond, leb, ltb}
use Rattle.std.proofs.Common.{arith, le-leb, le-ltb, leb-true, ltb-false}
use Rattle.wire.specs.Clash.{never}
use Rattle.pci.specs.Transport.{control_code_of}
use Rattle.pci.specs.Application.{is_unknown}
use Rattle.pci.specs.declared.application.Apci.TheVariants.{Control}
use Rattle.ldata.specs.Count.{Count, start_of, standard_allows, count_by}
use Rattle.ldata.specs.declared.count.Counting.{Counting}
use Rattle.ldata.specs.declared.count.Counting.TheVariants.{Crate, Standard}

-- of a count that builds control packets: eight bytes are enough for one, which L = 0 ends and is allowed, and its control code is read
pub record Controls (C : Count) : Type 0 where
  pub enough : C.least ≤ 8
  pub ends : C.end_of 0 ≡ 8
  pub fits : C.allowed false 0 ≡ true
  pub code : (first : ℕ) → C.control_apci first ≡ Control (control_code_of first)

pub record Lawful (C : Count) : Type 0 where
  -- the fields up to TPCI are there
  pub eight : 8 ≤ C.least
  -- nine bytes are enough for a data packet
  pub nine : C.least ≤ 9
  -- an L that is allowed does not end before the data starts
  pub starts : (d : Bool) (l : ℕ) → C.allowed d l ≡ true → start_of d ≤ C.end_of l
  -- the APCI of a control packet is none of the named services
  pub unnamed : (first : ℕ) → is_unknown (C.control_apci first) ≡ true
  -- L of a data packet that is built says its end, and is allowed
  pub ends : (n : ℕ) → C.end_of (C.length_of n) ≡ 9 + n
  pub fits : (n : ℕ) → n ≤ 253 → C.allowed true (C.length_of n) ≡ true
  pub controls : C.builds_control ≡ true → Controls C

standard_starts : (d : Bool) (l : ℕ) → standard_allows d l ≡ true → start_of d ≤ 8 + l
standard_starts true l q = go (ltb l 1) refl q
  where
    go : (b : Bool) → ltb l 1 ≡ b → cond b false (leb l 254) ≡ true → 9 ≤ 8 + l
    go true e p = never cc
    go false e p = omega (arith, ltb-false l 1 e)
standard_starts false l q = omega arith

pub lawful : (c : Counting) → Lawful (count_by c)
lawful Crate = record {
  eight = omega arith;
  nine = omega arith;
  starts = λ d l q. leb-true (start_of d) (7 + l) q;
  unnamed = λ first. refl;
  ends = λ n. omega arith;
  fits = λ n most. le-leb 9 (7 + (n + 2)) (omega arith);
  controls = λ q. never cc;
}
lawful Standard = record {
  eight = omega arith;
  nine = omega arith;
  starts = standard_starts;
  unnamed = λ first. refl;
  ends = λ n. omega arith;
  fits = λ n most. simp (le-ltb (n + 1) 1 (omega arith), le-leb (n + 1) 254 (omega arith));
  controls = λ q. record { enough = omega arith; ends = refl; fits = refl; code = λ first. refl };
}
