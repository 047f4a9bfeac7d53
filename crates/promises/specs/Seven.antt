-- 01: if CVA and IVA are 0 in every row, refusal 7 isn't given. What is 0, and what is not given; crate theorems has the proofs (proofs/Seven).
use Rattle.std.specs.Prelude.{◌≡◌, ℕ, ◌<◌, pos, Err, Ok}
use Rattle.refusals.specs.Refusals.{Judged, number_of}
use Rattle.tablerules.specs.Table.{Table, row_at}

-- CVA and IVA are 0 in every row
pub record NoReductions (t : Table) : Type 0 where
  pub cva : (i : ℕ) → i < t.header.rows → (row_at t i).cva ≡ pos 0
  pub iva : (i : ℕ) → i < t.header.rows → (row_at t i).iva ≡ pos 0

-- a judgement that is not refusal 7
abbrev pub NotSeven : {A : Type 0} → Judged A → Type 0
NotSeven (Ok a) = Unit {0}
NotSeven (Err w) = number_of w ≡ 7 → ⊥
