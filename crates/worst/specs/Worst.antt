-- How large a starting margin, and how many rounds, can get: of any table that is accepted (`proofs/Worst.antt`); and what is known of a call's rounds beforehand
-- (`proofs/Calls.antt`).
use Rattle.std.specs.Prelude.{◌≡◌, Bool, cond, List, ℕ, ◌+◌, ◌*◌, ◌-◌, ◌≤◌, Ok}
use Rattle.limits.specs.Limits.{borders_most}
use Rattle.refusals.specs.Refusals.{Judged}
use Rattle.types.specs.LineLimits.{fmax_most, flow_most, share_most, lta_most}
use Rattle.types.specs.Ranges.{is_intraday}
use Rattle.tablerules.specs.Table.{Table}
use Rattle.marginrules.specs.Magnitudes.{f0core_most, p_most, net_flow_most}
use Rattle.extractrules.specs.Extraction.{Result}
use Rattle.boundrules.specs.Bound.{bound_of}
use Rattle.answer.specs.Result.{result_text}

-- RAM - S, grains: R x Fmax / 10000 - Fuaf can be the largest of RAM's values, 165,000,000,000,000; S, where it is larger, is taken off
abbrev pub start_top : ℕ
start_top = share_most * fmax_most * 10 + (f0core_most + flow_most * 100000)

-- one border's part of S at the highest LTA, per unit of its factor: kW
abbrev pub lta_top : ℕ
lta_top = lta_most * 1000

-- RAM less a flow, in the intraday profile: S is not taken off here, and can be larger than the other values of RAM. All of S but one border's part,
-- and the largest flow: 412,000,000,000,000
abbrev pub late_top : ℕ
late_top = (borders_most - 1) * (p_most * lta_top) + net_flow_most

-- the most rounds of a table without T lines, and with them: hours/worst64.tsv and hours/late.tsv take so many
abbrev pub rounds_worst : (intraday : Bool) → ℕ
rounds_worst intraday = cond intraday 1910 1852

-- what is known of k rounds, of a table with these borders marked: they are at most the sharper bound, which is at most 2 N L, and at most the most of any table
pub record Known (marked : ℕ → Bool) (t : Table) (k : ℕ) : Type 0 where
  pub sharp : k ≤ (bound_of marked t).sharp
  pub sharper : (bound_of marked t).sharp ≤ (bound_of marked t).rounds
  pub worst : (bound_of marked t).sharp ≤ rounds_worst (is_intraday t.header)
  pub most : k ≤ rounds_worst (is_intraday t.header)

-- what is known of an answered text: what was read is a table, and what is printed is the text of a result of such rounds
pub record TextKnown (marked : ℕ → Bool) (read : Judged Table) (answered : List ℕ) : Type 0 where
  pub table : Table
  pub result : Result
  pub is : read ≡ Ok table
  pub printed : answered ≡ result_text result
  pub known : Known marked table result.outcome.rounds
