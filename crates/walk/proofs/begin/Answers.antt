-- `walk::begin` meets its contract: the first caps, then the first raises from them.
use mathlib.Core.Path.{ap, ◌∙◌}
use Prim.Native.Nat.{ℕ}
use Rattle.numbers.specs.Below.{table}
use Rattle.walk.proofs.begin.Goals as goal

pub first_caps-requires : goal.first_caps-requires
first_caps-requires c = record { margins_len = c.requires.ready.margins; caps_len = c.requires.rising_len.1 }

pub first_raises-requires : goal.first_raises-requires
first_raises-requires c = record { ready = c.requires.ready; rising_value = c.list_all.ensures ∙ ap (λ (k : ℕ). table k (λ (b : ℕ). b)) c.requires.rising_len.0; caps_len = c.first_caps.auto.caps ∙ c.requires.rising_len.1; caps = c.first_caps.ensures }

pub returns : goal.returns
returns c = (c.list_all.ensures ∙ ap (λ (k : ℕ). table k (λ (b : ℕ). b)) c.requires.rising_len.0, c.first_raises.ensures)
