-- `roundloop::extract_rounds` meets its contract, which is that of `do_rounds`: the arrays have an item for each border, and `near` has no more places than there are rows.
use native.Mathlib.Nat.{le_trans, le_of_eq, min-le_left, min-le_right}
use native.Mathlib.Omega.{arith}
use lib.Seq.{length-take-le}
use Rattle.roundloop.proofs.extract_rounds.Goals as goal

pub do_rounds-requires : goal.do_rounds-requires
do_rounds-requires c =
    let borders = c.requires.startable.borders in
    record {
      startable = c.requires.startable;
      lasts_len = c.requires.lasts_len;
      gained_len = (length-take-le _ _ (omega (arith, borders)), length-take-le _ _ (omega (arith, borders)));
      rising_len = (length-take-le _ _ (omega (arith, borders)), le_trans (le_of_eq (length-take-le _ _ (omega (arith, c.min-places.ensures, min-le_right c.args.grid.now.rows 200)))) (omega (arith, c.min-places.ensures, min-le_left c.args.grid.now.rows 200)));
    }
