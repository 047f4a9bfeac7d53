-- `corrections::kind::sheet_kind` meets its contract: the first byte is below the digits, or one of them, or above.
use mathlib.Core.Logic.{⊎_elim}
use Prim.Native.Nat.{◌≤◌, ◌<◌}
use native.Mathlib.Omega.{arith}
use Rattle.numbers.proofs.BelowLaws.{le_or_lt}
use Rattle.corrections.proofs.SheetLaws.{kind_below, kind_digit, kind_above}
use Rattle.corrections.proofs.kind.sheet_kind.Goals as goal

pub returns-then-is_ascii_digit : goal.returns-then-is_ascii_digit
returns-then-is_ascii_digit c = let h = c.if-is_ascii_digit.ensures.cases in kind_digit _ _ c.byte_at-first.ensures (omega arith) (omega arith)

pub returns-else-is_ascii_digit : goal.returns-else-is_ascii_digit
returns-else-is_ascii_digit c =
    let h = c.if-is_ascii_digit.ensures.cases in
    ⊎_elim (λ (l : 48 ≤ c.byte_at-first.result). kind_above _ _ c.byte_at-first.ensures (omega (arith, h))) (λ (l : c.byte_at-first.result < 48). kind_below _ _ c.byte_at-first.ensures l) (le_or_lt 48 c.byte_at-first.result)
