-- `text::put::put_signed` meets its contract: a minus and the digits (`below_put`), or the digits (`above-put`).
use mathlib.Core.Path.{◌≡◌}
use mathlib.Core.Bool.{true, false}
use native.Mathlib.Omega.{arith}
use lib.IntN.{pos, nat_abs}
use lib.Signed.{lt_z}
use mir.Facts.{to_z-of_z}
use Rattle.text.proofs.DigitLaws.{below_length, above_length, below_put, above_put}
use Rattle.text.proofs.put.put_signed.Goals as goal

pub put_byte-first-requires : goal.put_byte-first-requires
put_byte-first-requires c = let below : (c.magnitude-digits.result ≡ nat_abs c.args.z) × (lt_z c.args.z (pos 0) ≡ true) = (simp (to_z-of_z, c.ranges.z) at c.magnitude-digits.ensures, simp (to_z-of_z, c.ranges.z) at c.if-z-lt0.true) in
    omega (arith, c.requires, below_length c.args.z (below).0 (below).1)

pub put_number-requires : goal.put_number-requires
put_number-requires c = let below : (c.magnitude-digits.result ≡ nat_abs c.args.z) × (lt_z c.args.z (pos 0) ≡ true) = (simp (to_z-of_z, c.ranges.z) at c.magnitude-digits.ensures, simp (to_z-of_z, c.ranges.z) at c.if-z-lt0.true) in
    omega (arith, c.requires, c.put_byte-first.ensures.after, c.put_byte-first.auto.out, below_length c.args.z (below).0 (below).1)

pub returns-then-z-lt0 : goal.returns-then-z-lt0
returns-then-z-lt0 c = let below : (c.magnitude-digits.result ≡ nat_abs c.args.z) × (lt_z c.args.z (pos 0) ≡ true) = (simp (to_z-of_z, c.ranges.z) at c.magnitude-digits.ensures, simp (to_z-of_z, c.ranges.z) at c.if-z-lt0.true) in
    below_put c.args.z (below).0 (below).1 (omega (arith, c.requires)) c.put_byte-first.ensures c.put_number.ensures

pub put_number-requires-2 : goal.put_number-requires-2
put_number-requires-2 c = let above : (c.magnitude-digits.result ≡ nat_abs c.args.z) × (lt_z c.args.z (pos 0) ≡ false) = (simp (to_z-of_z, c.ranges.z) at c.magnitude-digits.ensures, simp (to_z-of_z, c.ranges.z) at c.if-z-lt0.false) in
    omega (arith, c.requires, above_length c.args.z (above).0 (above).1)

pub returns : goal.returns
returns c = let above : (c.magnitude-digits.result ≡ nat_abs c.args.z) × (lt_z c.args.z (pos 0) ≡ false) = (simp (to_z-of_z, c.ranges.z) at c.magnitude-digits.ensures, simp (to_z-of_z, c.ranges.z) at c.if-z-lt0.false) in
    above_put c.args.z (above).0 (above).1 c.put_number-2.ensures
