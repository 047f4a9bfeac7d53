-- No second answer, and no second content of the lent numbers, satisfies the contract of `corner_flows`.
-- The theorem is about the contract itself as the checker reads it (`reads.Post`), and not about a copy.
use Rattle.refusals.specs.Refusals.{Judged}
use mathlib.Core.Path.{◌≡◌, sym, ap, ◌∙◌}
use mathlib.Core.List.{List}
use Prim.Native.Nat.{ℕ}
use lib.IntN.{ℤ}
use contract.Lifetimes.{Lfts}
use denote.Triple.Clauses.{AtExit}
use borrow.Fn.World.{ArgsD, ResD}
use borrow.Fn.Kinds.{ended_of}
use Rattle.cornerrules.specs.Corners.{FlowsLeft, flows_left}
use Rattle.corners.specs.contracts.corner_flows.{signature}
use Rattle.corners.proofs.corner_flows.Kinds as kinds
use Rattle.corners.proofs.corner_flows.Reads as reads

one : (r r' : Judged ℕ) (o o' : List ℤ) (left : FlowsLeft) → flows_left r o ≡ left → flows_left r' o' ≡ left → (r ≡ r') × (o ≡ o')
one r r' o o' left p q =
    let e = p ∙ sym q in
    ((ap (λ (l : FlowsLeft). l.answer) e), ap (λ (l : FlowsLeft). l.out) e)

pub corner_flows_once : (κs : Lfts 3) (x : ArgsD signature κs) (r r' : ResD signature κs) (s s' : AtExit (ended_of 3 kinds.ps kinds.r) κs)
    → reads.Post κs x r s → reads.Post κs x r' s'
    → (r ≡ r') × (s.1.1.0.now ≡ s'.1.1.0.now)
corner_flows_once κs x r r' s s' p q = one _ _ _ _ _ p q
