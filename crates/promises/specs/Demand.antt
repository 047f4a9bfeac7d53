-- Demand 3 of a table, in the words of its own profile (01, "Extraction"; 02, E12) and with any borders marked (02, E13): of final exchanges in kW, of the margin left on
-- each row in grains, and of rounds. It is said here once: proved of the result of every accepted table (crate theorems, proofs/Demand3), of what the calls leave in lent memory
-- (`specs/DemandLeft.antt`) and of the texts that they answer (crate theorems, proofs/TextDemand).
-- Rows, RAM, S and remainders are the table's own, so that no wrong state or RAM among the results makes the statement weaker.
use Rattle.std.specs.Prelude.{◌≡◌, Bool, true, false, cond, List, ℕ, ◌*◌, ◌-◌, ◌≤◌, ◌<◌, ℤ, pos, ◌+ℤ◌, ◌-ℤ◌, ◌*ℤ◌, ◌≤ℤ◌, ◌<ℤ◌}
use Rattle.numbers.specs.Ints.{positive_part, sum_ℤ}
use Rattle.numbers.specs.Below.{at, sum, table}
use Rattle.limits.specs.Limits.{borders_most}
use Rattle.types.specs.Ranges.{is_intraday}
use Rattle.tablerules.specs.Table.{Table, border_at, factors_at}
use Rattle.rounds.specs.Rounds.{raise}
use Rattle.marginrules.specs.Margin.{flow_of, signed_factor, p_of, lta_kw, s_at, ram_at}
use Rattle.marginrules.specs.Magnitudes.{named_bits, start_bits}
use Rattle.staterules.specs.Standings.{standings_of}
use Rattle.staterules.specs.States.{kept}
use Rattle.extractrules.specs.Start.{grid_marked}
use Rattle.extractrules.specs.Extraction.{Result, left_of, n_of, l_of}

-- row i's load from exchanges in whole kW: the sum of (from factor less to factor) times exchange
unfoldable pub load_of : Table → (i : ℕ) → (exchanges : List ℕ) → ℤ
load_of t i exchanges = sum_ℤ t.header.borders (λ b. signed_factor (factors_at t i) (border_at t b) *ℤ pos (at exchanges b))

-- RAM - S
abbrev pub less_sof : Table → (i : ℕ) → ℤ
less_sof t i = ram_at t i -ℤ pos (s_at t.header t.borders t.factors i)

-- what a row has left on top of the allocated positions, grains: it may be below 0
abbrev pub remainder_of : Table → (i : ℕ) → ℤ
remainder_of t i = ram_at t i -ℤ flow_of (factors_at t i) t.allocated

-- where a row's margin starts, grains: at RAM - S; intraday at its remainder, taken as 0 where negative
abbrev pub start_margin : Table → (i : ℕ) → ℤ
start_margin t i = cond (is_intraday t.header) (pos (positive_part (remainder_of t i))) (less_sof t i)

-- where a border starts, kW: at its LTA; intraday at 0
abbrev pub start_kw : Table → (b : ℕ) → ℕ
start_kw t b = cond (is_intraday t.header) 0 (lta_kw (border_at t b))

-- the sum of p times what each border rose by
abbrev pub loss_of : Table → (kw : List ℕ) → (i : ℕ) → ℕ
loss_of t kw i = sum t.header.borders (λ b. p_of (factors_at t i) (border_at t b) * (at kw b - start_kw t b))

-- exchanges in whole kW, each from zero up to the final one; and each up to its ATC, which is in MW
abbrev pub UpTo : Table → (kw exchanges : List ℕ) → Type 0
UpTo t kw exchanges = (b : ℕ) → b < t.header.borders → at exchanges b ≤ at kw b

abbrev pub WithinAtcs : Table → (atc : ℕ → ℕ) → (exchanges : List ℕ) → Type 0
WithinAtcs t atc exchanges = (b : ℕ) → b < t.header.borders → at exchanges b ≤ atc b * 1000

-- the largest 2 x N x L: 64 borders, and a starting margin has at most 48 bits, intraday 49
abbrev pub rounds_most : (intraday : Bool) → ℕ
rounds_most intraday = 2 * borders_most * cond intraday start_bits named_bits

pub record Demand3 (t : Table) (marked : ℕ → Bool) (kw : List ℕ) (left : ℕ → ℤ) (rounds : ℕ) : Type 0 where
  -- day-ahead: exchanges up to the final ones load no kept row beyond its RAM
  pub within : is_intraday t.header ≡ false → (exchanges : List ℕ) → UpTo t kw exchanges
      → (i : ℕ) → i < t.header.rows → kept (standings_of t).states i ≡ true → load_of t i exchanges ≤ℤ ram_at t i
  -- intraday: on top of the allocated positions, exchanges up to the final ones bring no kept row whose remainder is 0 or more over its RAM
  pub on_top : is_intraday t.header ≡ true → (exchanges : List ℕ) → UpTo t kw exchanges
      → (i : ℕ) → i < t.header.rows → kept (standings_of t).states i ≡ true → pos 0 ≤ℤ remainder_of t i
      → (flow_of (factors_at t i) t.allocated +ℤ load_of t i exchanges) ≤ℤ ram_at t i
  -- intraday: they add no load to a kept row whose remainder was negative
  pub idle : is_intraday t.header ≡ true → (exchanges : List ℕ) → UpTo t kw exchanges
      → (i : ℕ) → i < t.header.rows → kept (standings_of t).states i ≡ true → remainder_of t i <ℤ pos 0 → load_of t i exchanges ≤ℤ pos 0
  -- no border fell below where it starts, and one that is not marked stays there
  pub rose : (b : ℕ) → b < t.header.borders → start_kw t b ≤ at kw b
  pub stayed : (b : ℕ) → b < t.header.borders → marked b ≡ false → at kw b ≡ start_kw t b
  -- what a kept row lost of its starting margin is the sum of p times what each border rose by
  pub lost : (i : ℕ) → i < t.header.rows → kept (standings_of t).states i ≡ true → start_margin t i ≡ left i +ℤ pos (loss_of t kw i)
  -- rounds are at most 2 x N x L, over the marked borders, so at most 6,144, or 6,272 intraday
  pub few : rounds ≤ 2 * n_of marked t * l_of marked t
  pub most : rounds ≤ rounds_most (is_intraday t.header)
  -- from the margins left one further round would raise nothing
  pub still : (b : ℕ) → b < t.header.borders → raise (grid_marked marked t) (table t.header.rows (λ i. positive_part (left i))) b ≡ 0

-- demand 3 of a result
abbrev pub ResultDemand3 : Table → (marked : ℕ → Bool) → Result → Type 0
ResultDemand3 t marked r = Demand3 t marked r.outcome.state.x (λ i. pos (left_of r i)) r.outcome.rounds
