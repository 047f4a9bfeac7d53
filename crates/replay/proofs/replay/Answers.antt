-- `replay::replay` meets its contract: its promise is that of `replay_in`, whose room holds as many as there are borders.
use native.Mathlib.Omega.{arith}
use lib.Seq.{length-take-le}
use Rattle.replay.proofs.replay.Goals as goal

pub replay_in-requires : goal.replay_in-requires
replay_in-requires c = record { ready = c.requires.ready; rising_len = (length-take-le _ _ (omega (arith, c.requires.borders_few)), length-take-le _ _ (omega (arith, c.requires.borders_few))) }
