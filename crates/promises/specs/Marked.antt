-- 02, E13: a list that marks all borders, with which the answer equals the ordinary one (crate theorems, proofs/EveryMark).
use Rattle.std.specs.Prelude.{◌≡◌, List, ℕ, length, Ok}
use Rattle.marks.specs.Marks.{judge_marks}

-- all borders, in any order: a list that 13 lets pass and that is as long as there are borders
pub record AllMarked (borders : ℕ) (marks : List ℕ) : Type 0 where
  pub good : judge_marks borders marks (Ok marks) ≡ Ok marks
  pub long : length marks ≡ borders
