-- Whether the fields of a line have right form.
use Rattle.std.specs.Prelude.{Bool, true, false}
use Rattle.columns.specs.Columns.{Values, values, wrong}

abbrev pub are_good : Values → Bool
are_good (values zs next) = true
are_good (wrong place) = false
