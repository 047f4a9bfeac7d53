-- `text::point::decimals_at` meets its contract. The invariant: the decimals left, from place p on, come to what all of them come to (`Decimals`). A
-- turn is the law `decimals-more`.
use Prim.Native.Nat.{◌+◌, ◌-◌}
use Rattle.text.proofs.PointLaws.{Decimals}
use Rattle.text.proofs.point.decimals_at.Given as goal

abbrev pub invariant-loop-p : goal.invariant-loop-p
invariant-loop-p l = Decimals l.minus l.line l.stop l.k l.at l.v l.p l.worth (l.at + l.k - l.p)
