-- Claims that kept rows can go from the domain list (02, E10): how a list of claims is judged, and which rows remain.
-- A claim is lent as a raw record: the claimed row, its denominator D, how many pairs it has, then the pairs, each a cited row and its multiplier.
-- What stands beyond its pairs is not looked at. It serves the published list only: no ATC is computed from it.
use Rattle.std.specs.Prelude.{Bool, cond, not, ◌&&◌, List, [], ℕ, ◌+◌, ◌*◌, ℤ, pos, nat_abs, ◌-ℤ◌, ◌*ℤ◌, length, get_or, Ok}
use Rattle.std.specs.Int.Signed.{lt_z}
use Rattle.numbers.specs.Ints.{same_ℤ, inside, sum_ℤ}
use Rattle.numbers.specs.Below.{some_below, all_below}
use Rattle.refusals.specs.Refusals.{Judged, then, refuse_first, malformed_claim, not_borne_out}
use Rattle.types.specs.Ranges.{at_ℤ, exists}
use Rattle.tablerules.specs.Table.{Table, stretch, judge_lent}
use Rattle.staterules.specs.Standings.{Standings, standings_of}
use Rattle.staterules.specs.States.{kept}

-- the most that D and a multiplier can be, and the most pairs
abbrev pub times_most : ℕ
times_most = 1000

abbrev pub pairs_most : ℕ
pairs_most = 16

-- the fields of a claim; pair j is a cited row and its multiplier
abbrev pub claimed_row : (claim : List ℤ) → ℤ
claimed_row claim = at_ℤ claim 0

abbrev pub denominator : (claim : List ℤ) → ℤ
denominator claim = at_ℤ claim 1

abbrev pub pairs : (claim : List ℤ) → ℤ
pairs claim = at_ℤ claim 2

abbrev pub cited_row : (claim : List ℤ) → (j : ℕ) → ℤ
cited_row claim j = at_ℤ claim (3 + 2 * j)

abbrev pub multiplier : (claim : List ℤ) → (j : ℕ) → ℤ
multiplier claim j = at_ℤ claim (4 + 2 * j)

-- ---- form

-- a row that exists and is kept
unfoldable pub kept_row : (states : List ℕ) → (row : ℤ) → Bool
kept_row states row = exists (length states) row && kept states (nat_abs row)

-- one of the first n claims names this row
unfoldable pub claimed_in : (claims : List (List ℤ)) → (n : ℕ) → (row : ℤ) → Bool
claimed_in claims n row = some_below n (λ e. same_ℤ (claimed_row (get_or claims e [])) row)

-- an earlier pair of a claim cites the row of pair j
unfoldable pub cited_before : (claim : List ℤ) → (j : ℕ) → Bool
cited_before claim j = some_below j (λ e. same_ℤ (cited_row claim e) (cited_row claim j))

-- pair j: a kept row that no claim of the list names, this one included, and no earlier pair cites; a multiplier 1..1000
unfoldable pub pair_good : (states : List ℕ) → (named : ℤ → Bool) → (claim : List ℤ) → (j : ℕ) → Bool
pair_good states named claim j =
    kept_row states (cited_row claim j)
    && not (named (cited_row claim j))
    && not (cited_before claim j)
    && inside (pos 1) (pos times_most) (multiplier claim j)

-- a claim: a kept row that no earlier claim names, a denominator 1..1000, at most 16 pairs, each good
unfoldable pub formed_by : (states : List ℕ) → (named before : ℤ → Bool) → (claim : List ℤ) → Bool
formed_by states named before claim =
    kept_row states (claimed_row claim)
    && not (before (claimed_row claim))
    && inside (pos 1) (pos times_most) (denominator claim)
    && inside (pos 0) (pos pairs_most) (pairs claim)
    && all_below (nat_abs (pairs claim)) (pair_good states named claim)

-- claim k of a list is of right form. A cited row must not be named by any claim of the list, whatever else is wrong with that claim
unfoldable pub formed : (states : List ℕ) → (claims : List (List ℤ)) → (k : ℕ) → Bool
formed states claims k = formed_by states (claimed_in claims (length claims)) (claimed_in claims k) (get_or claims k [])

-- ---- truth

-- for a value that each row has: the sum of the multiplied values of the cited rows; D times the claimed row's; and the difference
unfoldable pub cited_sum : (claim : List ℤ) → (value : ℕ → ℤ) → ℤ
cited_sum claim value = sum_ℤ (nat_abs (pairs claim)) (λ j. multiplier claim j *ℤ value (nat_abs (cited_row claim j)))

unfoldable pub own_sum : (claim : List ℤ) → (value : ℕ → ℤ) → ℤ
own_sum claim value = denominator claim *ℤ value (nat_abs (claimed_row claim))

unfoldable pub excess : (claim : List ℤ) → (value : ℕ → ℤ) → ℤ
excess claim value = cited_sum claim value -ℤ own_sum claim value

-- a row's factor at zone z
abbrev pub factor_at : (zones : ℕ) → (factors : List ℤ) → (z : ℕ) → (i : ℕ) → ℤ
factor_at zones factors z i = at_ℤ (stretch zones factors i) z

-- the multiplied factors of the cited rows less D times those of the claimed row make one and the same number in each zone
unfoldable pub level : (zones : ℕ) → (factors : List ℤ) → (claim : List ℤ) → Bool
level zones factors claim = all_below zones (λ z. same_ℤ (excess claim (factor_at zones factors z)) (excess claim (factor_at zones factors 0)))

-- a claim is borne out: its factors are level, and the multiplied RAMs of the cited rows sum to at most D times the claimed row's
unfoldable pub borne_out : (zones : ℕ) → (factors rams : List ℤ) → (claim : List ℤ) → Bool
borne_out zones factors rams claim = level zones factors claim && not (lt_z (own_sum claim (at_ℤ rams)) (cited_sum claim (at_ℤ rams)))

-- ---- the judgement

-- the first faulty claim decides, form before truth
unfoldable pub judge_claims : (zones : ℕ) → (factors : List ℤ) → Standings → (claims : List (List ℤ)) → Judged Standings
judge_claims zones factors m claims =
    refuse_first (length claims)
    (λ k. not (formed m.states claims k && borne_out zones factors m.rams (get_or claims k [])))
    (λ k. cond (formed m.states claims k) (not_borne_out k) (malformed_claim k))
    (Ok m)

-- the claims judged on a judged table
unfoldable pub claims_of : Table → (claims : List (List ℤ)) → Judged Standings
claims_of t claims = judge_claims t.header.zones t.factors (standings_of t) claims

-- the claims judged on lent tables: 3, 8, 3 and 4 as for every call on them, then 11 and 12; 5 to 7 are not judged
unfoldable pub claims_answer : (given : Table) → (claims : List (List ℤ)) → Judged Standings
claims_answer given claims = then (judge_lent given) (λ t. claims_of t claims)

-- the kept rows, with all claimed rows taken out
unfoldable pub remaining : (states : List ℕ) → (claims : List (List ℤ)) → (i : ℕ) → Bool
remaining states claims i = kept states i && not (claimed_in claims (length claims) (pos i))
