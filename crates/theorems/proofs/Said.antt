-- What the A line and the M line of a result's records say, field by field (01, "Result text"; 02, E7): "-" stands where no row stopped the border, and where the state isn't 0.
-- Nobody cites it: it says that -1 in a record, which a column writes as "-", stands there and nowhere else.
use Rattle.std.specs.Prelude.{None, Option, Some}
use mathlib.Core.Path.{◌≡◌, refl, ap, ◌∙◌}
use mathlib.Core.Bool.{Bool, true, false, cond}
use mathlib.Core.List.{List, [], ◌∷◌, append_assoc}
use Prim.Native.Char.{code}
use Prim.Native.Nat.{ℕ}
use lib.Dec.{eqb}
use lib.IntN.{ℤ, pos}
use Rattle.numbers.specs.Ints.{minus}
use Rattle.types.specs.LineColumns.{Column, number, signed, share}
use Rattle.text.specs.Fields.{tab, dash}
use Rattle.text.specs.Written.{decimal, decimal_ℤ, share_text, fields_text, line_text}
use Rattle.columns.specs.declared.Head.TheVariants.{Indexed}
use Rattle.columns.specs.ColumnText.{field_text, fields_ended, index_text, head_text, columns_text}
use Rattle.outcome.specs.Outcome.{in_mw, border_left, left_of_row}
use Rattle.result.specs.Records.{atc_columns, margin_columns}

-- three columns are three fields, parted by tabs
three_said : (letter : ℕ) (c d e : Column) (i : ℕ) (x y z : ℤ)
    → columns_text tab (Indexed letter i) (c ∷ d ∷ e ∷ []) (x ∷ y ∷ z ∷ []) ≡ line_text letter (decimal i ∷ field_text c x ∷ field_text d y ∷ field_text e z ∷ [])
unfolding columns_text head_text index_text fields_ended line_text fields_text
three_said letter c d e i x y z = ap (λ (l : List ℕ). letter ∷ tab ∷ l) (append_assoc (decimal i) (tab ∷ []) _)

abbrev pub stop_text : Option ℕ → List ℕ
stop_text None = dash ∷ []
stop_text (Some row) = decimal row

-- A, border, ATC in MW, last round, and the row that stopped it or "-"
pub atc_said : (b kw last : ℕ) (stop : Option ℕ)
    → columns_text tab (Indexed (code "A") b) atc_columns (border_left kw last stop) ≡ line_text (code "A") (decimal b ∷ decimal (in_mw kw) ∷ decimal last ∷ stop_text stop ∷ [])
unfolding field_text decimal_ℤ
atc_said b kw last None = three_said (code "A") number number share b (pos (in_mw kw)) (pos last) (minus 1)
atc_said b kw last (Some row) = three_said (code "A") number number share b (pos (in_mw kw)) (pos last) (pos row)

-- M, row, state, RAM in grains, and margin left in grains, or "-" where the state isn't 0
pub margin_said : (i state : ℕ) (ram : ℤ) (margin : ℕ)
    → columns_text tab (Indexed (code "M") i) margin_columns (left_of_row state ram margin) ≡ line_text (code "M") (decimal i ∷ decimal state ∷ decimal_ℤ ram ∷ cond (eqb state 0) (decimal margin) (dash ∷ []) ∷ [])
unfolding field_text decimal_ℤ
margin_said i state ram margin =
    three_said (code "M") number signed share i (pos state) ram (cond (eqb state 0) (pos margin) (minus 1))
    ∙ ap (λ (f : List ℕ). line_text (code "M") (decimal i ∷ decimal state ∷ decimal_ℤ ram ∷ f ∷ [])) (left (eqb state 0))
  where
    left : (kept : Bool) → share_text (cond kept (pos margin) (minus 1)) ≡ cond kept (decimal margin) (dash ∷ [])
    left true = refl
    left false = refl
