-- `text::point::put_point` meets its contract: the digits before the point, the point, and the decimals (`pointed-put`).
use mathlib.Core.Path.{◌≡◌, ap}
use mathlib.Core.List.{[], ◌∷◌}
use Prim.Native.Nat.{ℕ, ◌/◌, ◌^◌}
use native.Mathlib.Omega.{arith}
use lib.ListN.{length, length-append}
use Rattle.text.specs.Written.{decimal}
use Rattle.text.specs.Point.{last_digits}
use Rattle.text.proofs.PutLaws.{put_more, put_room}
use Rattle.text.proofs.PointLaws.{last_long, pointed_long, pointed_put}
use Rattle.text.proofs.point.put_point.Goals as goal

pub put_number-next-requires : goal.put_number-next-requires
put_number-next-requires c = let whole : length (decimal c.shifted-whole.result) ≡ length (decimal (c.args.n / 10 ^ c.args.k)) = ap (λ (m : ℕ). length (decimal m)) c.shifted-whole.ensures in
    omega (arith, c.requires, whole, pointed_long c.args.k c.args.n)

pub put_byte-next-requires : goal.put_byte-next-requires
put_byte-next-requires c = let whole : length (decimal c.shifted-whole.result) ≡ length (decimal (c.args.n / 10 ^ c.args.k)) = ap (λ (m : ℕ). length (decimal m)) c.shifted-whole.ensures in
    omega (arith, put_room c.put_number-next.ensures 1 (omega (arith, c.requires, whole, pointed_long c.args.k c.args.n)))

pub put_decimals-requires : goal.put_decimals-requires
put_decimals-requires c = let whole : length (decimal c.shifted-whole.result) ≡ length (decimal (c.args.n / 10 ^ c.args.k)) = ap (λ (m : ℕ). length (decimal m)) c.shifted-whole.ensures in
    put_room (put_more c.put_number-next.ensures (omega (arith, c.requires)) c.put_byte-next.ensures) (length (last_digits c.args.k c.args.n))
    (omega (arith, c.requires, whole, pointed_long c.args.k c.args.n, last_long c.args.k c.args.n, length-append (decimal c.shifted-whole.result) (46 ∷ [])))

pub returns : goal.returns
returns c = pointed_put c.args.k c.args.n c.shifted-whole.ensures (omega (arith, c.requires)) c.put_number-next.ensures c.put_byte-next.ensures c.put_decimals.ensures
