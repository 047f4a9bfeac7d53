-- `blame::range::row_range` meets its contract: the byte of the seven values, and where they have none, that of the factors.
use mathlib.Core.Path.{◌≡◌, sym, ap, ◌∙◌}
use mathlib.Core.Bool.{Bool}
use mathlib.Core.List.{List}
use Rattle.types.specs.Ranges.{row_tests, factor_tests}
use Rattle.blame.specs.RangeBlame.{range_byte}
use Rattle.blame.proofs.RangeLaws.{range_later, range_first}
use Rattle.blame.proofs.range.row_range.Goals as goal

pub returns-then-byte-eq0 : goal.returns-then-byte-eq0
returns-then-byte-eq0 c = let valued : c.range_byte-byte.result ≡ range_byte c.args.sep (row_tests c.args.raw) c.args.k c.args.line.now = c.range_byte-byte.ensures ∙ ap (λ (ts : List Bool). range_byte c.args.sep ts c.args.k c.args.line.now) c.tests.ensures in
    c.factors_range.ensures ∙ range_later c.args.sep (factor_tests c.args.f.now) c.args.line.now (row_tests c.args.raw) c.args.k (sym (valued) ∙ c.if-byte-eq0.true)

pub returns-else-byte-eq0 : goal.returns-else-byte-eq0
returns-else-byte-eq0 c = let valued : c.range_byte-byte.result ≡ range_byte c.args.sep (row_tests c.args.raw) c.args.k c.args.line.now = c.range_byte-byte.ensures ∙ ap (λ (ts : List Bool). range_byte c.args.sep ts c.args.k c.args.line.now) c.tests.ensures in
    let q = valued in
    q ∙ range_first c.args.sep (factor_tests c.args.f.now) c.args.line.now (row_tests c.args.raw) c.args.k (λ z. c.if-byte-eq0.false (q ∙ z))
