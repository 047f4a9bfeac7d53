-- 02, E12: the worked intraday hour (hours/intraday.tsv), one row of which has a negative remainder, from text to text; and what T lines are refused for. By computation.
use Rattle.std.specs.Prelude.{Err, Ok}
use mathlib.Core.Path.{◌≡◌, refl}
use mathlib.Core.List.{List, [], ◌∷◌, ◌++◌}
use Prim.Native.Nat.{ℕ, ◌+◌}
use Prim.Native.String.{String}
use lib.IntN.{pos}
use lib.ListN.{length}
use Rattle.numbers.specs.Below.{table}
use Rattle.numbers.specs.Ints.{minus}
use Rattle.refusals.specs.Refusals.{either, out_of_range_at, wrong_form_at}
use Rattle.text.specs.Shown.{shown}
use Rattle.text.specs.Written.{decimal}
use Rattle.tablerules.specs.Table.{Table, judge_lent}
use Rattle.tablerules.proofs.GoodLaws.{judged_good}
use Rattle.reading.specs.Reading.{balance_byte, read_text}
use Rattle.writing.specs.Writing.{table_text}
use Rattle.extractrules.specs.Start.{every}
use Rattle.extractrules.specs.Extraction.{outcome_of, result_of}
use Rattle.promises.specs.Demand.{ResultDemand3}
use Rattle.theorems.proofs.Demand3.{accepted_demand_3}
use Rattle.answer.specs.Result.{answer_text}
use Rattle.numbers.specs.Computed.{◌is◌, Hold}
use Rattle.figures.specs.Computing.{computing}
use Rattle.figures.specs.Borders.{plain_border}

-- the hour with these T lines
abbrev with_t : String → List ℕ
with_t t =
    shown "H 3 3 4/Z 0 400000/Z 1 100000/Z 2 -500000/" ++ shown t ++ shown "B 0 0 1 100/B 1 1 2 200/B 2 2 1 50/"
    ++ shown "C 0 500000 50000 100000 10000 7000 0 0 20000 0 0/"
    ++ shown "C 1 100000 10000 45000 0 7000 0 30000 5000 15000 0/"
    ++ shown "C 2 200000 20000 -20000 0 - 0 0 0 0 10000/"
    ++ shown "C 3 600000 60000 60000 10000 7000 0 0 10000 0 -10000/"

abbrev text : List ℕ
text = with_t "T 0 600000/T 1 200000/T 2 -800000/"

-- remainders of 310, -10, 230 and 430 MW
abbrev result : List ℕ
result = shown "A 0 1550 1 0/A 1 0 0 1/A 2 2300 1 2/M 0 0 43000000000 0/M 1 0 5000000000 0/M 2 0 15000000000 0/M 3 0 57000000000 27500000000/R 1/"

abbrev hour : Table
hour =
    record {
      header = record { zones = 3; borders = 3; rows = 4; share = minus 1; intraday = 1 };
      nets = pos 400000 ∷ pos 100000 ∷ minus 500000 ∷ [];
      allocated = pos 600000 ∷ pos 200000 ∷ minus 800000 ∷ [];
      borders = plain_border 0 1 100 ∷ plain_border 1 2 200 ∷ plain_border 2 1 50 ∷ [];
      rows =
          (pos 500000 ∷ pos 50000 ∷ pos 100000 ∷ pos 10000 ∷ pos 7000 ∷ pos 0 ∷ pos 0 ∷ [])
          ∷ (pos 100000 ∷ pos 10000 ∷ pos 45000 ∷ pos 0 ∷ pos 7000 ∷ pos 0 ∷ pos 30000 ∷ [])
          ∷ (pos 200000 ∷ pos 20000 ∷ minus 20000 ∷ pos 0 ∷ minus 1 ∷ pos 0 ∷ pos 0 ∷ [])
          ∷ (pos 600000 ∷ pos 60000 ∷ pos 60000 ∷ pos 10000 ∷ pos 7000 ∷ pos 0 ∷ pos 0 ∷ [])
          ∷ [];
      factors =
          pos 20000 ∷ pos 0 ∷ pos 0 ∷ pos 5000 ∷ pos 15000 ∷ pos 0 ∷ pos 0 ∷ pos 0 ∷ pos 10000 ∷ pos 10000 ∷ pos 0 ∷ minus 10000 ∷ [];
    }

-- whether a text that is read has the intraday mark
abbrev mark : List ℕ → ℕ
mark t = either (read_text t) (λ u. u.header.intraday) (λ w. 9)

pub intraday : Hold (
    answer_text text is result
    ∷ read_text text is Ok hour
    ∷ table_text hour is text
    -- no T line, and T all zero: another profile
    ∷ mark (with_t "") is 0
    ∷ mark (with_t "T 0 0/T 1 0/T 2 0/") is 1
    -- a T line too few, and one too many, which is a B line of another letter
    ∷ read_text (with_t "T 0 0/T 1 0/") is Err (wrong_form_at 7 0)
    ∷ read_text (with_t "T 0 0/T 1 0/T 2 0/T 3 0/") is Err (wrong_form_at 8 0)
    -- the sum, at the last T line; its own form and range come first
    ∷ read_text (with_t "T 0 600000/T 1 200000/T 2 -799999/") is Err (out_of_range_at 7 5)
    ∷ read_text (with_t "T 0 600000/T 1 200000/T 2 -799999x/") is Err (wrong_form_at 7 12)
    ∷ read_text (with_t "T 0 600000/T 1 100000001/T 2 0/") is Err (out_of_range_at 6 5)
    -- the byte of the last position, at 2 to 16 zones: after the letter, a tab, the index and a tab
    ∷ table 15 (λ k. balance_byte (k + 2)) is table 15 (λ k. 4 + length (decimal (k + 1)))
    ∷ [])
unfolding computing
intraday = refl

hour_end_lem : outcome_of hour ≡ Ok (result_of hour)
unfolding computing
hour_end_lem = refl

hour_judged : judge_lent hour ≡ Ok hour
unfolding computing
hour_judged = refl

-- demand 3 of it, in E12's words
pub hour_demand : ResultDemand3 hour every (result_of hour)
unfolding outcome_of
hour_demand = accepted_demand_3 every hour (result_of hour) (judged_good hour hour hour_judged) hour_end_lem
