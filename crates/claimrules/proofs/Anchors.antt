-- The definitions of `specs/Claims.antt` computed: lists of claims that are accepted, refused for form, and refused for truth. No contract cites this file.
use Rattle.std.specs.Prelude.{Err, Ok}
use mathlib.Core.Path.{refl}
use mathlib.Core.List.{List, [], ◌∷◌}
use lib.IntN.{ℤ, pos, negsuc}
use Rattle.numbers.specs.Below.{first_from, given}
use Rattle.numbers.specs.Ints.{same_ℤ, inside, sum_ℤ}
use Rattle.numbers.specs.Computed.{◌is◌, Hold}
use Rattle.refusals.specs.Refusals.{refuse_at, refuse_first, malformed_claim, not_borne_out}
use Rattle.types.specs.Ranges.{exists}
use Rattle.tablerules.specs.Table.{stretch}
use Rattle.staterules.specs.Standings.{Standings}
use Rattle.staterules.specs.States.{kept}
use Rattle.claimrules.specs.Claims.{kept_row, claimed_in, cited_before, pair_good, formed_by, formed, cited_sum, own_sum, excess, level, borne_out, judge_claims}

-- two zones, four kept rows and one that is not. Row 2's factors are the sum of those of rows 0 and 1 and 7000 in each zone, row 3's twice those of row 0
abbrev f : List ℤ
f = pos 20000 ∷ pos 0 ∷ pos 10000 ∷ pos 2000 ∷ pos 37000 ∷ pos 9000 ∷ pos 40000 ∷ pos 0 ∷ pos 1 ∷ pos 0 ∷ []

abbrev m : Standings
m = record { rams = pos 100 ∷ pos 50 ∷ pos 150 ∷ pos 200 ∷ pos 0 ∷ []; states = 0 ∷ 0 ∷ 0 ∷ 0 ∷ 1 ∷ [] }

-- the rows with a RAM of 149 for row 2
abbrev m' : Standings
m' = record { rams = pos 100 ∷ pos 50 ∷ pos 149 ∷ pos 200 ∷ pos 0 ∷ []; states = 0 ∷ 0 ∷ 0 ∷ 0 ∷ 1 ∷ [] }

-- three zones: row 1's factors are row 0's and 7000 in the first two zones, 7001 in the third
abbrev f' : List ℤ
f' = pos 20000 ∷ pos 0 ∷ pos 0 ∷ pos 27000 ∷ pos 7000 ∷ pos 7001 ∷ []

abbrev m'' : Standings
m'' = record { rams = pos 50 ∷ pos 100 ∷ []; states = 0 ∷ 0 ∷ [] }

-- row 2, D 1, two pairs: rows 0 and 1, each once
abbrev both : List ℤ
both = pos 2 ∷ pos 1 ∷ pos 2 ∷ pos 0 ∷ pos 1 ∷ pos 1 ∷ pos 1 ∷ []

pub anchors : Hold (
    -- no claim; rows 0 and 1 once each stand for row 2; twice as much of all three; rows 2 and 3 together; what stands beyond the pairs is not looked at
    judge_claims 2 f m [] is Ok m  -- none-claimed
    ∷ judge_claims 2 f m (both ∷ []) is Ok m  -- sum-of-two
    ∷ judge_claims 2 f m ((pos 2 ∷ pos 2 ∷ pos 2 ∷ pos 0 ∷ pos 2 ∷ pos 1 ∷ pos 2 ∷ []) ∷ []) is Ok m  -- doubled
    ∷ judge_claims 2 f m (both ∷ (pos 3 ∷ pos 1 ∷ pos 1 ∷ pos 0 ∷ pos 2 ∷ []) ∷ []) is Ok m  -- two-claims
    ∷ judge_claims 2 f m ((pos 3 ∷ pos 1 ∷ pos 1 ∷ pos 0 ∷ pos 2 ∷ pos 9 ∷ pos 9 ∷ []) ∷ []) is Ok m  -- beyond-the-pairs
    -- 12: a grain less of RAM; one row alone; no pairs
    ∷ judge_claims 2 f m' (both ∷ []) is Err (not_borne_out 0)  -- too-little
    ∷ judge_claims 2 f m ((pos 2 ∷ pos 1 ∷ pos 1 ∷ pos 0 ∷ pos 1 ∷ []) ∷ []) is Err (not_borne_out 0)  -- one-alone
    ∷ judge_claims 2 f m ((pos 2 ∷ pos 1 ∷ pos 0 ∷ []) ∷ []) is Err (not_borne_out 0)  -- no-pairs
    -- 12: the sum is one and the same number in the first two zones, and another in the third
    ∷ judge_claims 3 f' m'' ((pos 1 ∷ pos 1 ∷ pos 1 ∷ pos 0 ∷ pos 1 ∷ []) ∷ []) is Err (not_borne_out 0)  -- third-zone
    -- 11: a row that is not kept, claimed or cited; one that does not exist; the claim's own; the same row cited twice
    ∷ judge_claims 2 f m ((pos 4 ∷ pos 1 ∷ pos 0 ∷ []) ∷ []) is Err (malformed_claim 0)  -- not-kept
    ∷ judge_claims 2 f m ((pos 2 ∷ pos 1 ∷ pos 1 ∷ pos 4 ∷ pos 1 ∷ []) ∷ []) is Err (malformed_claim 0)  -- cited-not-kept
    ∷ judge_claims 2 f m ((pos 2 ∷ pos 1 ∷ pos 1 ∷ pos 5 ∷ pos 1 ∷ []) ∷ []) is Err (malformed_claim 0)  -- no-such-row
    ∷ judge_claims 2 f m ((negsuc 0 ∷ pos 1 ∷ pos 0 ∷ []) ∷ []) is Err (malformed_claim 0)  -- below-the-rows
    ∷ judge_claims 2 f m ((pos 2 ∷ pos 1 ∷ pos 1 ∷ pos 2 ∷ pos 1 ∷ []) ∷ []) is Err (malformed_claim 0)  -- its-own
    ∷ judge_claims 2 f m ((pos 3 ∷ pos 1 ∷ pos 2 ∷ pos 0 ∷ pos 1 ∷ pos 0 ∷ pos 1 ∷ []) ∷ []) is Err (malformed_claim 0)  -- cited-twice
    -- 11: D is 0 or 1001; a multiplier is 0, below 0 or 1001; 17 pairs, or fewer than none
    ∷ judge_claims 2 f m ((pos 2 ∷ pos 0 ∷ pos 2 ∷ pos 0 ∷ pos 1 ∷ pos 1 ∷ pos 1 ∷ []) ∷ []) is Err (malformed_claim 0)  -- no-denominator
    ∷ judge_claims 2 f m ((pos 2 ∷ pos 1001 ∷ pos 2 ∷ pos 0 ∷ pos 1 ∷ pos 1 ∷ pos 1 ∷ []) ∷ []) is Err (malformed_claim 0)  -- large-denominator
    ∷ judge_claims 2 f m ((pos 2 ∷ pos 1 ∷ pos 2 ∷ pos 0 ∷ pos 1 ∷ pos 1 ∷ pos 0 ∷ []) ∷ []) is Err (malformed_claim 0)  -- no-multiplier
    ∷ judge_claims 2 f m ((pos 2 ∷ pos 1 ∷ pos 1 ∷ pos 0 ∷ negsuc 0 ∷ []) ∷ []) is Err (malformed_claim 0)  -- below-one
    ∷ judge_claims 2 f m ((pos 3 ∷ pos 1 ∷ pos 1 ∷ pos 0 ∷ pos 1001 ∷ []) ∷ []) is Err (malformed_claim 0)  -- large-multiplier
    ∷ judge_claims 2 f m ((pos 2 ∷ pos 1 ∷ pos 17 ∷ pos 0 ∷ pos 1 ∷ pos 1 ∷ pos 1 ∷ []) ∷ []) is Err (malformed_claim 0)  -- many-pairs
    ∷ judge_claims 2 f m ((pos 2 ∷ pos 1 ∷ negsuc 0 ∷ []) ∷ []) is Err (malformed_claim 0)  -- few-pairs
    -- the later of two claims on one row; a claim that cites a row which a later claim names, or an earlier one
    ∷ judge_claims 2 f m (both ∷ both ∷ []) is Err (malformed_claim 1)  -- claimed-twice
    ∷ judge_claims 2 f m (both ∷ (pos 1 ∷ pos 1 ∷ pos 1 ∷ pos 0 ∷ pos 1 ∷ []) ∷ []) is Err (malformed_claim 0)  -- named-later
    -- a malformed claim names its row too: one of 17 pairs, one with a wrong D, and one after any number of others
    ∷ judge_claims 2 f m (both ∷ (pos 1 ∷ pos 1 ∷ pos 17 ∷ pos 0 ∷ pos 1 ∷ []) ∷ []) is Err (malformed_claim 0)  -- crowded-names
    ∷ judge_claims 2 f m (both ∷ (pos 1 ∷ pos 0 ∷ pos 0 ∷ []) ∷ []) is Err (malformed_claim 0)  -- malformed-names
    ∷ judge_claims 2 f m (both ∷ (pos 9 ∷ pos 1 ∷ pos 0 ∷ []) ∷ (pos 9 ∷ pos 1 ∷ pos 0 ∷ []) ∷ (pos 1 ∷ pos 1 ∷ pos 0 ∷ []) ∷ []) is Err (malformed_claim 0)  -- last-names
    ∷ judge_claims 2 f m ((pos 3 ∷ pos 1 ∷ pos 1 ∷ pos 0 ∷ pos 2 ∷ []) ∷ (pos 2 ∷ pos 1 ∷ pos 1 ∷ pos 3 ∷ pos 1 ∷ []) ∷ []) is Err (malformed_claim 1)  -- named-before
    -- form before truth within a claim, but the first faulty claim decides
    ∷ judge_claims 2 f m ((pos 2 ∷ pos 1 ∷ pos 2 ∷ pos 0 ∷ pos 1 ∷ pos 0 ∷ pos 1 ∷ []) ∷ []) is Err (malformed_claim 0)  -- form-first
    ∷ judge_claims 2 f m ((pos 2 ∷ pos 1 ∷ pos 1 ∷ pos 0 ∷ pos 1 ∷ []) ∷ (pos 4 ∷ pos 1 ∷ pos 0 ∷ []) ∷ []) is Err (not_borne_out 0)  -- first-decides
    ∷ [])
unfolding first_from given same_ℤ inside sum_ℤ exists refuse_at refuse_first stretch kept kept_row claimed_in cited_before pair_good formed_by formed cited_sum own_sum excess level borne_out judge_claims
anchors = refl
