-- `claims::name_rows` meets its contract. The invariant: the rows that the first k claims name are flagged. The measure is the claims that are left. A turn is
-- `name-more`.
use mathlib.Core.Path.{◌≡◌}
use Prim.Native.Nat.{◌≤◌}
use lib.ListN.{length}
use Rattle.claims.specs.Named.{named_rows}
use Rattle.claims.proofs.name_rows.Given as goal

abbrev pub invariant-loop-k : goal.invariant-loop-k
invariant-loop-k l = (l.k ≤ length l.claims) × (l.named ≡ named_rows l.claims l.k)
