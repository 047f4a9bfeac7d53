-- H lines by the limit of before E8 and by today's, computed (02, E8). Nobody cites it: it refuses a limit that slipped. A blank stands for a tab, / for an LF.
use mathlib.Core.Path.{refl}
use mathlib.Core.List.{[], ◌∷◌}
use Prim.Native.Nat.{ℕ}
use Prim.Native.String.{String}
use Rattle.numbers.specs.Ints.{minus, inside}
use Rattle.numbers.specs.Computed.{◌is◌, Hold}
use Rattle.limits.specs.Limits.{borders_most}
use Rattle.types.specs.declared.Header.{Header}
use Rattle.text.specs.Fields.{number_at}
use Rattle.text.specs.Line.{Line}
use Rattle.text.specs.Shown.{shown}
use Rattle.columns.specs.Columns.{field_at, fields_at}
use Rattle.columns.specs.ColumnLine.{head_at, rest_at, columns_line}
use Rattle.columns.specs.Optional.{optional_line}
use Rattle.blame.specs.RangeBlame.{past_seps, range_byte}
use Rattle.oldtexts.specs.OldTexts.{borders_before, header_by}
use Rattle.std.specs.Prelude.{Ok, Err}
use Rattle.text.specs.declared.LineFault.TheVariants.{Range}

abbrev before : String → Line Header
before s = header_by borders_before (shown s)

abbrev now : String → Line Header
now s = header_by borders_most (shown s)

abbrev has : (borders : ℕ) → Line Header
has borders = Ok (record { zones = 16; borders = borders; rows = 200; share = minus 1; intraday = 0 })

pub limits : Hold (
    -- 40 borders were the most, and are as good now; 41 were refused at their first byte, and 64 are the most now
    before "H 16 40 200/" is has 40  -- forty-before
    ∷ now "H 16 40 200/" is has 40  -- forty-now
    ∷ before "H 16 41 200/" is Err (Range 6)  -- more-before
    ∷ now "H 16 41 200/" is has 41  -- more-now
    ∷ now "H 16 64 200/" is has 64  -- most-now
    ∷ now "H 16 65 200/" is Err (Range 6)  -- beyond
    ∷ [])
unfolding inside number_at field_at fields_at head_at rest_at columns_line optional_line past_seps range_byte
limits = refl
