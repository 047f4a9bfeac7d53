-- Two setups come to the same (`same_outcome`) where each row that takes part in one is covered by a row that takes part in the other: the same factors, and a margin no
-- higher.
-- It knows of no tables, profiles or states: what E14 says of them is an instance (`Shortening.antt`).
use Rattle.std.specs.Prelude.{None, Ok, Option, Some}
use mathlib.Core.Path.{◌≡◌, refl, sym, ap, ap₂, subst, ◌∙◌}
use mathlib.Core.Bool.{Bool, true, false, not, ◌&&◌, true≢false, false≢true}
use Prim.Native.Nat.{ℕ, ◌≤◌, ◌<◌}
use native.Mathlib.Omega.{arith}
use lib.Dec.{ltb}
use lib.IntN.{ℤ, pos, negsuc}
use lib.Signed.{◌≤ℤ◌, ◌<ℤ◌}
use borrow.Author.Tests.{ltb-true}
use Rattle.numbers.specs.Ints.{positive_part}
use Rattle.numbers.specs.Below.{first_from, given, some_below}
use Rattle.numbers.proofs.IntLaws.{diff, diffs, zarith, lt_z_true, lt_lt_z}
use Rattle.numbers.proofs.BelowLaws.{first_cong}
use Rattle.numbers.proofs.TestLaws.{and_both, both_and, true_false, some_false, false_some}
use Rattle.refusals.specs.Refusals.{Judged, unless, refuse_at, refuse_first, no_row, unlimited, below_zero}
use Rattle.rounds.proofs.Rounds.{extracts}
use Rattle.theorems.proofs.SameRounds as rows
use Rattle.setup.specs.Setup.{Setup, grid_by, begin_by, free_by, low_by, judge_by, end_by, outcome_by}
use Rattle.promises.specs.Same.{SameEnd, Both}
use Rattle.theorems.proofs.SetupLaws.{loads_takes, margin_at_lem, from_at}

-- row i of s, which takes part, is covered by a row of s' that does
pub record Cover (s s' : Setup) (i : ℕ) : Type 0 where
  pub row : ℕ
  pub below : row < s'.rows
  pub takes : s'.takes row ≡ true
  pub same : (b : ℕ) → b < s.borders → s'.p row b ≡ s.p i b
  pub lower : s'.margin row ≤ℤ s.margin i

abbrev pub Covers : Setup → Setup → Type 0
Covers s s' = (i : ℕ) → i < s.rows → s.takes i ≡ true → Cover s s' i

pub record Alike (s s' : Setup) : Type 0 where
  pub borders : s'.borders ≡ s.borders
  pub marked : (b : ℕ) → b < s.borders → s'.marked b ≡ s.marked b
  pub from : (b : ℕ) → b < s.borders → s'.from b ≡ s.from b
  pub strict : s'.strict ≡ s.strict
  pub there : Covers s s'
  pub back : Covers s' s

pub alike_back : {s s' : Setup} → Alike s s' → Alike s' s
alike_back a =
    record {
      borders = sym a.borders;
      marked = λ b h. sym (a.marked b (omega (arith, a.borders)));
      from = λ b h. sym (a.from b (omega (arith, a.borders)));
      strict = sym a.strict;
      there = a.back;
      back = a.there;
    }

-- being alike is transitive
pub alike_on : {s s' s'' : Setup} → Alike s s' → Alike s' s'' → Alike s s''
alike_on {s} {s'} {s''} a c =
    record {
      borders = c.borders ∙ a.borders;
      marked = λ b h. c.marked b (omega (arith, a.borders)) ∙ a.marked b h;
      from = λ b h. c.from b (omega (arith, a.borders)) ∙ a.from b h;
      strict = c.strict ∙ a.strict;
      there = on a c;
      back = on (alike_back c) (alike_back a);
    }
  where
    le_on : (x y z : ℤ) → x ≤ℤ y → y ≤ℤ z → x ≤ℤ z
    le_on x y z h k =
        let h' = simp diffs at (rw (diff x, diff y) at h) in
        let k' = simp diffs at (rw (diff y, diff z) at k) in
        rw (diff x, diff z) (simp diffs (omega (zarith, h', k')))

    on : {s s' s'' : Setup} → Alike s s' → Alike s' s'' → Covers s s''
    on a c i h k =
        let u = a.there i h k in
        let v = c.there u.row u.below u.takes in
        record {
          row = v.row;
          below = v.below;
          takes = v.takes;
          same = λ b hb. v.same b (omega (arith, a.borders)) ∙ u.same b hb;
          lower = le_on _ _ _ v.lower u.lower;
        }

-- ---- tests
-- tests that hold of some index together
record Holds (n : ℕ) (test : ℕ → Bool) : Type 0 where
  index : ℕ
  below : index < n
  holds : test index ≡ true

some_leads : (n n' : ℕ) (test test' : ℕ → Bool) → ((i : ℕ) → i < n → test i ≡ true → Holds n' test') → some_below n' test' ≡ false → some_below n test ≡ false
some_leads n n' test test' h e = false_some n test (λ i l. go i l (test i) refl)
  where
    go : (i : ℕ) → i < n → (t : Bool) → test i ≡ t → test i ≡ false
    go i l true q = let w = h i l q in true_false w.holds (some_false n' test' e w.index w.below)
    go i l false q = q

some_same : (n n' : ℕ) (test test' : ℕ → Bool) → ((i : ℕ) → i < n → test i ≡ true → Holds n' test') → ((i : ℕ) → i < n' → test' i ≡ true → Holds n test) → some_below n' test' ≡ some_below n test
some_same n n' test test' h h' = go (some_below n test) refl (some_below n' test') refl
  where
    go : (t : Bool) → some_below n test ≡ t → (t' : Bool) → some_below n' test' ≡ t' → some_below n' test' ≡ some_below n test
    go true e true e' = e' ∙ sym e
    go true e false e' = true_false e (some_leads n n' test test' h e')
    go false e true e' = true_false e' (some_leads n' n test' test h' e)
    go false e false e' = e' ∙ sym e

-- ---- positive parts keep the order
pub part_mono : (y z : ℤ) → y ≤ℤ z → positive_part y ≤ positive_part z
unfolding positive_part
part_mono (pos a) (pos b) h = let h' = simp diffs at h in omega (arith, h')
part_mono (pos a) (negsuc b) h = absurd h.le
part_mono (negsuc a) z h = omega arith

low_le : (y z : ℤ) → y ≤ℤ z → z <ℤ pos 0 → y <ℤ pos 0
low_le y z h k =
    let h' = simp diffs at (rw (diff y, diff z) at h) in
    let k' = simp diffs at (rw (diff z) at k) in
    rw (diff y) (simp diffs (omega (zarith, h', k')))

-- ---- one setup covered by another
module _ (s s' : Setup) (a : Alike s s') where
  same-p : (i : ℕ) → (c : Cover s s' i) → s.takes i ≡ true → (b : ℕ) → b < s.borders → (grid_by s').p c.row b ≡ (grid_by s).p i b
  unfolding grid_by
  same-p i c k b h = rw (a.marked b h, c.takes, k, c.same b h)

  grid-covers : rows.Covers (grid_by s) (grid_by s') (begin_by s).margins (begin_by s').margins
  unfolding grid_by
  grid-covers i b hi hb hp =
      let k : s.takes i ≡ true = loads_takes s i b hp in
      let c = a.there i hi k in
      record {
        row = c.row;
        below = c.below;
        same = same-p i c k;
        lower = rw (margin_at_lem s i hi k, margin_at_lem s' c.row c.below c.takes) (part_mono _ _ c.lower);
      }

  -- 5: whether a row takes part
  taken : (i : ℕ) → i < s.rows → s.takes i ≡ true → Holds s'.rows s'.takes
  taken i h k = let c = a.there i h k in record { index = c.row; below = c.below; holds = c.takes }

  -- 6: whether a border has a row that loads it
  loaded : (b : ℕ) → b < s.borders → (i : ℕ) → i < s.rows → ltb 0 ((grid_by s).p i b) ≡ true → Holds s'.rows (λ i. ltb 0 ((grid_by s').p i b))
  loaded b hb i hi e =
      let k = loads_takes s i b (ltb-true 0 ((grid_by s).p i b) e) in
      let c = a.there i hi k in
      record { index = c.row; below = c.below; holds = ap (ltb 0) (same-p i c k b hb) ∙ e }

  -- 7: whether a row that takes part starts below 0
  low : (i : ℕ) → i < s.rows → low_by s i ≡ true → Holds s'.rows (low_by s')
  low i hi e =
      let u = and_both _ _ e in
      let v = and_both _ _ u.1 in
      let c = a.there i hi u.0 in
      record {
        index = c.row;
        below = c.below;
        holds = both_and _ _ c.takes (both_and _ _ (a.strict ∙ v.0) (lt_lt_z (low_le _ _ c.lower (lt_z_true v.1))));
      }

module _ (s s' : Setup) (a : Alike s s') where
  same_some : some_below s'.rows s'.takes ≡ some_below s.rows s.takes
  same_some = some_same s.rows s'.rows s.takes s'.takes (taken s s' a) (taken s' s (alike_back a))

  same-free : first_from s'.borders 0 (free_by s') ≡ first_from s.borders 0 (free_by s)
  same-free =
      ap (λ (n : ℕ). first_from n 0 (free_by s')) a.borders
      ∙ first_cong s.borders (free_by s') (free_by s)
      (λ b h. ap₂ (λ (x y : Bool). x && not y) (a.marked b h)
      (some_same s.rows s'.rows (λ i. ltb 0 ((grid_by s).p i b)) (λ i. ltb 0 ((grid_by s').p i b)) (loaded s s' a b h) (loaded s' s (alike_back a) b (omega (arith, a.borders)))))

  same_low : some_below s'.rows (low_by s') ≡ some_below s.rows (low_by s)
  same_low = some_same s.rows s'.rows (low_by s) (low_by s') (low s s' a) (low s' s (alike_back a))

  pub same_end : SameEnd s.borders (end_by s) (end_by s')
  unfolding end_by grid_by
  same_end =
      let u = rows.same_rounds {g = grid_by s} {g' = grid_by s'} a.borders (grid-covers s s' a) (grid-covers s' s (alike_back a))
      (λ b h. from_at s' b (omega (arith, a.borders)) ∙ a.from b h ∙ sym (from_at s b h)) (extracts (grid_by s) (begin_by s)) (extracts (grid_by s') (begin_by s')) in
      record { rounds = u.0; exchanges = u.1 }

  -- the judgements, by the three tests
  module _ {A : Type 0} (like : A → A → Type 0) (x x' : A) (l : like x x') where
    abbrev chain : Bool → (o q : Option ℕ) → A → Judged A
    chain k o q x = unless k no_row (refuse_at o unlimited (refuse_at q below_zero (Ok x)))

    both : (k : Bool) (o q q' : Option ℕ) → given q' ≡ given q → Both like (chain k o q x) (chain k o q' x')
    unfolding unless refuse_at given
    both false o q q' e = record { number = refl; place = λ n. refl }
    both true (Some b) q q' e = record { number = refl; place = λ n. refl }
    both true None None None e = l
    both true None None (Some j) e = absurd (true≢false e)
    both true None (Some i) None e = absurd (false≢true e)
    both true None (Some i) (Some j) e = record { number = refl; place = λ n. absurd (n refl) }

    pub same_judged : Both like (judge_by s x) (judge_by s' x')
    unfolding judge_by refuse_first
    same_judged =
        subst (λ (j : Judged A). Both like (judge_by s x) j)
        (ap₂ (λ (k : Bool) (o : Option ℕ). chain k o (first_from s'.rows 0 (low_by s')) x') (sym same_some) (sym same-free))
        (both (some_below s.rows s.takes) (first_from s.borders 0 (free_by s)) (first_from s.rows 0 (low_by s)) (first_from s'.rows 0 (low_by s')) same_low)

  pub same_outcome : Both (SameEnd s.borders) (outcome_by s) (outcome_by s')
  unfolding outcome_by
  same_outcome = same_judged (SameEnd s.borders) (end_by s) (end_by s') same_end
