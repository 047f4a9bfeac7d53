-- Numbers with a point, read and written. Nobody cites it: it refuses a definition that slipped. `good` and `bad` read a text from its start on before an
-- LF, with three decimals or five; a bad one has the place of its bad byte, from 0.
use mathlib.Core.Path.{refl}
use mathlib.Core.List.{[], ◌∷◌}
use Prim.Native.String.{String}
use lib.IntN.{ℤ, pos}
use Rattle.numbers.specs.Ints.{minus}
use Rattle.numbers.specs.Computed.{◌is◌, Hold}
use Rattle.text.specs.Fields.{Parsed, feed, number_at}
use Rattle.text.specs.Written.{text_of, decimal}
use Rattle.text.specs.Shown.{shown}
use Rattle.text.specs.Point.{decimals_at, point_at, signed_point_at, last_digits, pointed, pointed_ℤ}
use Rattle.std.specs.Prelude.{Ok, Err}

unfoldable computing : Unit {0}
unfolding signed_point_at point_at decimals_at number_at text_of decimal last_digits pointed pointed_ℤ
computing = tt

abbrev power : String → Parsed ℤ
power s = signed_point_at 3 (shown s) 0 feed

abbrev factor : String → Parsed ℤ
factor s = signed_point_at 5 (shown s) 0 feed

pub point_anchors : Hold (
    -- MW with three decimals are kW
    power "1.500/" is Ok (pos 1500, 6)  -- one
    ∷ power "0.000/" is Ok (pos 0, 6)  -- zero
    ∷ power "-0.001/" is Ok (minus 1, 7)  -- below
    -- ten digits in all: right form, whatever the range
    ∷ power "9999999.999/" is Ok (pos 9999999999, 12)  -- ten
    ∷ factor "-99999.99999/" is Ok (minus 9999999999, 13)  -- ten-factor
    -- the eighth digit before the point of a power, the sixth of a factor
    ∷ power "12345678.000/" is Err 7  -- eighth
    ∷ power "12345678901.000/" is Err 7  -- eighth-of-more
    ∷ factor "123456.00000/" is Err 5  -- sixth
    -- zero has no minus: its last decimal is bad, and one more after it changes nothing
    ∷ power "-0.000/" is Err 5  -- minus-zero
    ∷ power "-0.0000/" is Err 5  -- minus-zero-more
    -- the point of ".500", the byte after "1.00", the fourth decimal, a second zero, a decimal comma, no point
    ∷ power ".500/" is Err 0  -- no-digit
    ∷ power "1.00/" is Err 4  -- two-decimals
    ∷ power "1.0000/" is Err 5  -- fourth
    ∷ power "01.000/" is Err 1  -- leading
    ∷ power "1,500/" is Err 1  -- comma
    ∷ power "1500/" is Err 4  -- no-point
    -- written
    ∷ pointed_ℤ 3 (pos 1500) is shown "1.500"  -- kw
    ∷ pointed_ℤ 3 (minus 7) is shown "-0.007"  -- small
    ∷ pointed_ℤ 5 (minus 123456) is shown "-1.23456"  -- five
    ∷ [])
unfolding computing
point_anchors = refl
