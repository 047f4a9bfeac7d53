-- `walk::lower_if_tight` meets its contract: a row whose most part is within its share tightens nothing (`slack-same`).
use native.Mathlib.Omega.{arith}
use Rattle.walk.proofs.LoadLaws.{slack_same, tight_n}
use Rattle.walk.proofs.lower_if_tight.Goals as goal

pub overflow_mul-most : goal.overflow_mul-most
overflow_mul-most c = omega (arith, c.requires.most_value.1)

pub nonzero_div-margin : goal.nonzero_div-margin
nonzero_div-margin c = tight_n _ _ _ c.if-margin-most.true

pub lower_caps-requires : goal.lower_caps-requires
lower_caps-requires c = record { row_in_bounds = c.requires.row_in_bounds; listed = c.requires.listed; caps_len = c.requires.caps_len }

pub returns-then-margin-most : goal.returns-then-margin-most
returns-then-margin-most c = c.lower_caps.ensures

pub returns-else-margin-most : goal.returns-else-margin-most
returns-else-margin-most c = slack_same _ _ _ c.requires.caps_len _ _ _ c.requires.n_value c.requires.most_value.0 c.if-margin-most.false
