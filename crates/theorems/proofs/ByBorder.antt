-- Both layouts of the factors, by zone and by border, give equal p, raises, margins and rounds (promises: specs/ByBorder), in the table of p that `extract` and
-- `extract_marked` leave of every lent input that they answer with rounds.
use Rattle.std.specs.Prelude.{Ok}
use mathlib.Core.Path.{◌≡◌, refl, ap, ◌∙◌}
use mathlib.Core.Bool.{Bool, true, false, cond, ◌&&◌}
use mathlib.Core.List.{List}
use Prim.Native.Nat.{ℕ, ◌+◌, ◌*◌, ◌<◌}
use native.Mathlib.Omega.{arith}
use lib.IntN.{ℤ}
use lib.ListN.{get_or-append}
use Rattle.numbers.specs.Below.{at, over}
use Rattle.marks.specs.Marks.{may_rise}
use Rattle.tablerules.specs.Table.{Table, border_at, factors_at, front}
use Rattle.rounds.proofs.Laid.{laid_raise, laid_next}
use Rattle.rounds.proofs.Theorems.{same_factors}
use Rattle.rounds.proofs.Loops.{place_inside}
use Rattle.marginrules.specs.Margin.{p_of}
use Rattle.staterules.specs.Standings.{standings_of}
use Rattle.setup.specs.Setup.{grid_by}
use Rattle.staterules.specs.States.{kept}
use Rattle.extractrules.specs.Start.{every, grid_marked, table_grid, table_start, setup_with}
use Rattle.extractrules.specs.Filled.{cells}
use Rattle.extractrules.proofs.StartLaws.{cells_at, grid_long}
use Rattle.extractrules.specs.Extraction.{ExtractLeft, extract_for, result_marked}
use Rattle.extractrules.proofs.LentLaws.{accepted_for}
use Rattle.promises.specs.ByBorder.{laid_out, ByBorder}

-- a table of p in front of lent memory
module _ (t : Table) (marked : ℕ → Bool) (ps : List ℕ) {p : List ℕ} (e : p ≡ over (cells (table_grid t)) ps) where
  p-at : (i b : ℕ) → i < t.header.rows → b < t.header.borders → at p (i * t.header.borders + b) ≡ (table_grid t).p i b
  unfolding grid_by setup_with
  p-at i b hi hb =
      let k : ℕ = i * t.header.borders + b in
      ap (λ (v : List ℕ). at v k) e
      ∙ get_or-append (cells (table_grid t)) _ 0 k (omega (arith, place_inside t.header.rows t.header.borders i b (t.header.rows * t.header.borders) (omega arith) hi hb, grid_long every t {p = cells (table_grid t)} refl))
      ∙ cells_at (table_grid t) i b hi hb

  -- the table of p at the marked borders is the grid that the rounds read
  p_marked : (i b : ℕ) → i < t.header.rows → b < t.header.borders → (laid_out t marked p).p i b ≡ (grid_marked marked t).p i b
  unfolding grid_by setup_with
  p_marked i b hi hb = ap (λ (v : ℕ). cond (marked b) v 0) (p-at i b hi hb) ∙ go (marked b) (kept (standings_of t).states i) (p_of (factors_at t i) (border_at t b))
    where
      go : (m k : Bool) (v : ℕ) → cond m (cond k v 0) 0 ≡ cond (m && k) v 0
      go true k v = refl
      go false k v = refl

  by-border : ByBorder t marked p
  unfolding grid_by setup_with result_marked
  by-border =
      record {
        same = p-at;
        raises = λ margins b hb. laid_raise t.header.rows t.header.borders _ _ p_marked margins b hb;
        round = λ s. laid_next t.header.rows t.header.borders _ _ p_marked s;
        rounds = λ s. same_factors t.header.rows t.header.borders _ _ p_marked s;
        ends = same_factors t.header.rows t.header.borders _ _ p_marked (table_start t);
      }

pub extract_by_border : (all : Bool) (marks : List ℕ) (given : Table) (ps : List ℕ) (atcs lefts : List (List ℤ)) (k : ℕ) → let e = extract_for all marks given ps atcs lefts in
    e.answer ≡ Ok k → ByBorder (front given) (may_rise all marks) e.p
unfolding result_marked
extract_by_border all marks given ps atcs lefts k e =
    by-border (front given) (may_rise all marks) ps (ap (λ (l : ExtractLeft). l.p) (accepted_for all marks given ps atcs lefts k e).left)
