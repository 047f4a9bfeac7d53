-- Demand 3 of every accepted table (promises: specs/Demand), in its own profile and with any borders marked; that N, L and the figures of 6,144 and 6,272 are 01's and 02's;
-- and that exchanges within the ATCs are up to the final ones.
-- Day-ahead, margin and load at the start make RAM; intraday the load at the start is 0 and the margin is the remainder.
use Rattle.std.specs.Prelude.{Ok}
use mathlib.Core.Path.{◌≡◌, refl, sym, ap, subst, ◌∙◌}
use mathlib.Core.Bool.{Bool, true, false, cond, not, ◌&&◌}
use mathlib.Core.List.{List}
use Prim.Native.Nat.{ℕ, ◌+◌, ◌*◌, ◌-◌, ◌/◌, ◌^◌, ◌≤◌, ◌<◌}
use native.Mathlib.Nat.{le_trans, le_refl, div-mul-le_self, mul-zero}
use native.Mathlib.Omega.{arith}
use lib.IntN.{ℤ, pos, ◌+ℤ◌}
use lib.Signed.{lt_z, ◌≤ℤ◌}
use Rattle.numbers.specs.Ints.{positive_part}
use Rattle.numbers.specs.Below.{at, sum, table}
use Rattle.numbers.proofs.IntLaws.{le_lt_z}
use Rattle.numbers.proofs.BelowLaws.{largest_le, largest_under, table_get}
use Rattle.limits.specs.Limits.{borders_most}
use Rattle.types.specs.Ranges.{is_intraday}
use Rattle.types.proofs.RangeLaws.{header_in_lem}
use Rattle.tablerules.specs.Table.{Table, border_at, factors_at}
use Rattle.tablerules.specs.Good.{Good}
use Rattle.rounds.specs.Rounds.{Grid, Outcome, sharers, raise, alone, most_sharers}
use Rattle.rounds.proofs.LeastLaws.{least_mono, div_mono}
use Rattle.rounds.proofs.Theorems.{alone_under, alone_least, extract_demand3}
use Rattle.marginrules.specs.Magnitudes.{named_bits, start_bits}
use Rattle.marginrules.specs.Margin.{flow_of, signed_factor, p_of, lta_kw, s_of, s_at, ram_at, start_by, margin_of}
use Rattle.marginrules.proofs.Small.{named_values_small}
use Rattle.staterules.specs.Standings.{standings_of}
use Rattle.setup.specs.Setup.{Setup, grid_by, begin_by, end_by}
use Rattle.staterules.specs.States.{kept}
use Rattle.extractrules.specs.Start.{grid_marked, table_start, setup_of, setup_with}
use Rattle.extractrules.specs.Extraction.{Result, result_marked, outcome_marked, left_of, n_of, l_of}
use Rattle.extractrules.proofs.AcceptedLaws.{accepted, part_le_abs}
use Rattle.promises.specs.Demand.{load_of, less_sof, remainder_of, start_margin, UpTo, WithinAtcs, rounds_most, Demand3, ResultDemand3}
use Rattle.theorems.proofs.LoadLaws.{sum_le, le_pos, sum_none, part_is, part_none, and-false, less_is, on_top}
use Rattle.theorems.proofs.DemandBy.{load_by, rises, stays, within_all, lost_all, setup_rounds}

-- 2 x 64 x 48, and 2 x 64 x 49
pub rounds_most_lem : rounds_most false ≡ 6144
rounds_most_lem = refl

pub intraday_rounds_most : rounds_most true ≡ 6272
intraday_rounds_most = refl

-- N: no kept row shares among more marked borders (a row not kept has p = 0 and shares among none), and no smaller number will do
pub n_over : (marked : ℕ → Bool) (t : Table) (i : ℕ) → i < t.header.rows → sharers (grid_marked marked t) i ≤ n_of marked t
unfolding n_of most_sharers grid_by setup_with
n_over marked t i h = largest_le t.header.rows (sharers (grid_marked marked t)) i h

pub n_least : (marked : ℕ → Bool) (t : Table) (n : ℕ) → ((i : ℕ) → i < t.header.rows → sharers (grid_marked marked t) i ≤ n) → n_of marked t ≤ n
unfolding n_of most_sharers grid_by setup_with
n_least marked t n h = largest_under t.header.rows (sharers (grid_marked marked t)) n h

-- L: each marked border's raise alone at the start, the smallest floor(margin / p), is under 2^L, and L is the least such number
pub l_over : (marked : ℕ → Bool) (t : Table) (b : ℕ) → b < t.header.borders → alone (grid_marked marked t) (table_start t).margins b < 2 ^ l_of marked t
unfolding l_of grid_by setup_with
l_over marked t b h = alone_under (grid_marked marked t) (table_start t).margins b h

pub l_least : (marked : ℕ → Bool) (t : Table) (l : ℕ) → ((b : ℕ) → b < t.header.borders → alone (grid_marked marked t) (table_start t).margins b < 2 ^ l) → l_of marked t ≤ l
unfolding l_of grid_by setup_with
l_least marked t l h = alone_least (grid_marked marked t) (table_start t).margins l h

-- exchanges up to ATCs that are the final exchanges rounded down to MW are up to these
pub atcs_up_to : (t : Table) (kw : List ℕ) (atc : ℕ → ℕ) → ((b : ℕ) → b < t.header.borders → atc b ≡ at kw b / 1000) → (exchanges : List ℕ) → WithinAtcs t atc exchanges → UpTo t kw exchanges
atcs_up_to t kw atc floored exchanges h b l = le_trans (h b l) (subst (λ (v : ℕ). v * 1000 ≤ at kw b) (sym (floored b l)) (div-mul-le_self (at kw b) 1000))

-- ---- lower margins raise no more
raise_lower : (g : Grid) (m m' : List ℕ) → ((i : ℕ) → i < g.rows → at m i ≤ at m' i) → (b : ℕ) → raise g m b ≤ raise g m' b
unfolding raise
raise_lower g m m' h b = least_mono g.rows (λ r. g.p r b) _ _ (λ i l _. div_mono (g.p i b) (div_mono (sharers g i) (h i l)))

-- ---- the rounds of a table in which no kept row starts below 0, or whose profile allows that
module _ (marked : ℕ → Bool) (t : Table) (good : Good t)
    (above : (i : ℕ) → i < t.header.rows → (kept (standings_of t).states i && (not (is_intraday t.header) && lt_z (margin_of t i) (pos 0))) ≡ false) where
  abbrev s : Setup
  s = setup_of kept marked t

  abbrev end : Outcome
  end = end_by s

  margin-is : (i : ℕ) → i < t.header.rows → s.margin i ≡ margin_of t i
  unfolding setup_with
  margin-is i h = table_get t.header.rows (margin_of t) i (pos 0) h

  starts : (i : ℕ) → i < t.header.rows → kept (standings_of t).states i ≡ true → start_margin t i ≡ pos (positive_part (s.margin i))
  starts i h k = go (is_intraday t.header) (and-false _ _ (above i h) k) ∙ ap (λ (z : ℤ). pos (positive_part z)) (sym (margin-is i h))
    where
      go : (late : Bool) → (not late && lt_z (start_by late (ram_at t i) (s_at t.header t.borders t.factors i) (factors_at t i) t.allocated) (pos 0)) ≡ false
          → cond late (pos (positive_part (remainder_of t i))) (less_sof t i) ≡ pos (positive_part (start_by late (ram_at t i) (s_at t.header t.borders t.factors i) (factors_at t i) t.allocated))
      go true e = refl
      go false e = part_is (less_sof t i) e

  signed-load : (i : ℕ) (e : List ℕ) → load_of t i e ≤ℤ pos (load_by s i (at e))
  unfolding load_of p_of setup_with
  signed-load i e = sum_le t.header.borders (λ b. signed_factor (factors_at t i) (border_at t b)) (at e)

  -- exchanges up to the final ones load a kept row, by p, within its margin and its load at the start
  loads : (e : List ℕ) → UpTo t end.state.x e → (i : ℕ) → i < t.header.rows → kept (standings_of t).states i ≡ true → load_of t i e ≤ℤ pos (positive_part (s.margin i) + load_by s i s.from)
  unfolding setup_with
  loads e h i hi k = le_pos (load_of t i e) _ _ (signed-load i e) (within_all s i k e h hi)

  -- the load at the start: each border carries its LTA, or intraday nothing
  start-load : (late : Bool) → is_intraday t.header ≡ late → (i : ℕ) → load_by s i s.from ≡ sum t.header.borders (λ b. p_of (factors_at t i) (border_at t b) * cond late 0 (lta_kw (border_at t b)))
  unfolding setup_with
  start-load late e i = ap (λ (v : Bool). sum t.header.borders (λ b. p_of (factors_at t i) (border_at t b) * cond v 0 (lta_kw (border_at t b)))) e

  within_ram : is_intraday t.header ≡ false → (e : List ℕ) → UpTo t end.state.x e → (i : ℕ) → i < t.header.rows → kept (standings_of t).states i ≡ true → load_of t i e ≤ℤ ram_at t i
  unfolding s_of
  within_ram day e h i hi k =
      let less : less_sof t i ≡ pos (positive_part (s.margin i)) = ap (λ (v : Bool). cond v (pos (positive_part (remainder_of t i))) (less_sof t i)) (sym day) ∙ starts i hi k in
      let load : load_by s i s.from ≡ s_at t.header t.borders t.factors i =
      start-load false day i ∙ ap (λ (n : ℕ). sum n (λ b. p_of (factors_at t i) (border_at t b) * lta_kw (border_at t b))) (sym good.exact.borders_long) in
      subst (λ (z : ℤ). load_of t i e ≤ℤ z)
      (sym (less_is (ram_at t i) (s_at t.header t.borders t.factors i) _ less ∙ ap (λ (x : ℕ). pos (positive_part (s.margin i) + x)) (sym load)))
      (loads e h i hi k)

  within-rest : is_intraday t.header ≡ true → (e : List ℕ) → UpTo t end.state.x e → (i : ℕ) → i < t.header.rows → kept (standings_of t).states i ≡ true
      → load_of t i e ≤ℤ pos (positive_part (remainder_of t i))
  within-rest late e h i hi k =
      let rest : s.margin i ≡ remainder_of t i = margin-is i hi ∙ ap (λ (v : Bool). start_by v (ram_at t i) (s_at t.header t.borders t.factors i) (factors_at t i) t.allocated) late in
      let none : load_by s i s.from ≡ 0 = start-load true late i ∙ sum_none t.header.borders _ (λ b l. mul-zero (p_of (factors_at t i) (border_at t b))) in
      le_pos (load_of t i e) _ _ (loads e h i hi k) (omega (arith, ap positive_part rest, none))

  most_rounds : end.rounds ≤ rounds_most (is_intraday t.header)
  unfolding setup_with
  most_rounds =
      setup_rounds s borders_most (cond (is_intraday t.header) start_bits named_bits) (header_in_lem t.header good.exact.header).borders_most_lem
      (λ i h. subst (λ (z : ℤ). positive_part z < 2 ^ cond (is_intraday t.header) start_bits named_bits) (sym (margin-is i h)) (go i h (is_intraday t.header)))
    where
      go : (i : ℕ) → i < t.header.rows → (late : Bool)
          → positive_part (start_by late (ram_at t i) (s_at t.header t.borders t.factors i) (factors_at t i) t.allocated) < 2 ^ cond late start_bits named_bits
      go i h true = omega (arith, part_le_abs (remainder_of t i), (named_values_small good i h).remainder)
      go i h false = omega (arith, part_le_abs (less_sof t i), (named_values_small good i h).less_s)

  -- the margins left may be said of the kept rows alone
  module _ (left : ℕ → ℤ) (is : (i : ℕ) → i < t.header.rows → kept (standings_of t).states i ≡ true → left i ≡ pos (at end.state.margins i))
      (le : (i : ℕ) → i < t.header.rows → positive_part (left i) ≤ at end.state.margins i) where
    pub demand_of : Demand3 t marked end.state.x left end.rounds
    unfolding end_by grid_by setup_with n_of l_of begin_by
    demand_of =
        let d = extract_demand3 (grid_by s) (begin_by s) in
        record {
          within = within_ram;
          on_top = λ late e h i hi k a.
              on_top (ram_at t i) (flow_of (factors_at t i) t.allocated) (load_of t i e)
              (subst (λ (z : ℤ). load_of t i e ≤ℤ z) (sym (part_is (remainder_of t i) (le_lt_z a))) (within-rest late e h i hi k));
          idle = λ late e h i hi k n. subst (λ (v : ℕ). load_of t i e ≤ℤ pos v) (part_none (remainder_of t i) n) (within-rest late e h i hi k);
          rose = rises s;
          stayed = stays s;
          lost = λ i hi k. starts i hi k ∙ ap pos (sym (lost_all s i k hi)) ∙ ap (λ (z : ℤ). z +ℤ pos (sum t.header.borders (λ b. s.p i b * (at end.state.x b - s.from b)))) (sym (is i hi k));
          few = d.few;
          most = most_rounds;
          still = λ b l.
              omega (
                arith,
                d.still b l,
                raise_lower (grid_by s) (table t.header.rows (λ i. positive_part (left i))) end.state.margins
                    (λ i h. subst (λ (n : ℕ). n ≤ at end.state.margins i) (sym (table_get t.header.rows (λ j. positive_part (left j)) i 0 h)) (le i h)) b,
              );
        }

-- demand 3 of every good table that the extraction accepts
pub accepted_demand_3 : (marked : ℕ → Bool) (t : Table) (r : Result) → Good t → outcome_marked marked t ≡ Ok r → ResultDemand3 t marked r
unfolding result_marked end_by begin_by setup_with left_of positive_part
accepted_demand_3 marked t r good e =
    let a = accepted marked t r e in
    subst (ResultDemand3 t marked) a.is
    (demand_of marked t good a.above (λ i. pos (left_of (result_marked marked t) i)) (λ i h k. refl) (λ i h. le_refl _))
