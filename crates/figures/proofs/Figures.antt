-- The figures that 01 marks [p] hold, all of them (`specs/Figures.antt`): a single theorem.
use mathlib.Core.Path.{refl}
use Rattle.figures.specs.Computing.{computing}
use Rattle.figures.specs.Figures.{Figures}
use Rattle.figures.proofs.FigureLaws.{kept_alone, not_one, under_5000, second_state, one_border_alone, three_by_two}

pub figures : Figures
unfolding computing
figures =
    record {
      spread_5000 = kept_alone;
      spread_5000_any = not_one;
      spread_4999 = under_5000;
      frm_30000 = λ default fref cva iva. refl;
      frm_30001 = λ default fref cva iva. refl;
      base_10000 = λ fref cva iva. refl;
      amr_10000 = λ default fref cva iva. refl;
      ram_20000 = refl;
      at_lta = refl;
      iva_1 = refl;
      one_border = one_border_alone;
      one_round = refl;
      second_equal = second_state;
      two_equal_lem = refl;
      half_again = three_by_two;
      given_twice_lem = refl;
      turned_round = refl;
    }
