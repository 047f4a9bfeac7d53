-- `hoursheet::read_hours` meets its contract. The invariant: the hours so far are kept (`Day`), there are no more of them than a sheet may have, and the tables are as
-- long as they came.
use Prim.Native.Nat.{ℕ, ◌≤◌}
use mathlib.Core.Path.{◌≡◌}
use mathlib.Core.Bool.{Bool}
use mathlib.Core.List.{List}
use lib.ListN.{length}
use Rattle.marks.specs.Marks.{every, listed}
use Rattle.daysheet.specs.declared.Hour.{Hour}
use Rattle.daysheet.specs.Sheet.{hours_most}
use Rattle.hourtables.specs.Day.{Day}
use Rattle.hoursheet.proofs.read_hours.Given as goal

-- what holds at the loop's head; with ₀ the buffers as they came
pub record Head (all : Bool) (marks name₀ text₀ : List ℕ) (hours₀ : List Hour) (ways₀ atcs₀ name text : List ℕ) (hours : List Hour) (ways atcs : List ℕ) (k : ℕ) : Type 0 where
  pub few : k ≤ hours_most
  pub name_long : length name ≡ length name₀
  pub text_long : length text ≡ length text₀
  pub hours_long : length hours ≡ length hours₀
  pub ways_long : length ways ≡ length ways₀
  pub atcs_long : length atcs ≡ length atcs₀
  pub day : Day all marks k hours ways₀ atcs₀ ways atcs

abbrev pub invariant-loop-i : goal.invariant-loop-i
invariant-loop-i l = Head (every l.marks) (listed l.marks) l.initial.name l.initial.text l.initial.hours l.initial.ways l.initial.atcs l.name l.text l.hours l.ways l.atcs l.k
