-- What a caller of `extract_rounds` reads off its promise, `work_of`: the rounds, the margins and the borders' exchanges are those of `extract`, and the last rounds fit where the margins do.
use mathlib.Core.Path.{◌≡◌, ap}
use mathlib.Core.List.{List}
use Prim.Native.Nat.{ℕ, ◌≤◌, ◌<◌}
use native.Mathlib.Omega.{arith}
use lib.ListN.{length, take}
use lib.Seq.{length-take-le, take_at}
use Rattle.numbers.specs.Below.{at}
use Rattle.numbers.proofs.BelowLaws.{table_long, table_get}
use Rattle.rounds.specs.Rounds.{Grid, State, raises, risen, apply, next, Rounds, done, more, Outcome, extract}
use Rattle.rounds.specs.Last.{last_round, last_rounds}
use Rattle.rounds.specs.AllRounds.{state_from, work_of}
use Rattle.rounds.proofs.Round.{alone_lt}
use Rattle.rounds.proofs.Rounds.{extracts, rounds_below}
use Rattle.rounds.proofs.LastLaws.{last_round_lem}

-- there is an exchange for each border to the end
pub rounds_long : {g : Grid} {s t : State} {k : ℕ} → Rounds g s k t → length s.x ≡ g.borders → length t.x ≡ g.borders
unfolding next apply
rounds_long (done e) l = l
rounds_long {g} (more {s = s} h w) l = rounds_long w (table_long g.borders (risen (raises g s.margins) s.x))

-- the rounds, the margins and an exchange for each border
pub work_ended : (g : Grid) (m x : List ℕ) → g.borders ≤ length x
    → ◌≡◌ {A = Outcome} (record { rounds = (work_of g m x).answer.rounds; state = record { margins = (work_of g m x).margins; x = take g.borders (work_of g m x).answer.x } }) (extract g (state_from g m x))
unfolding work_of
work_ended g m x l =
    let o = extract g (state_from g m x) in
    let long = rounds_long (extracts g (state_from g m x)) (length-take-le g.borders x l) in
    ap {B = Outcome} (λ (xs : List ℕ). record { rounds = o.rounds; state = record { margins = o.state.margins; x = xs } }) (take_at o.state.x _ g.borders long)

-- the rounds, and each border's last, are fewer than c where all margins are under c
pub lasts_below : (g : Grid) (s : State) (c : ℕ) → 0 < c → ((i : ℕ) → i < g.rows → at s.margins i < c) → (b : ℕ) → b < g.borders → at (last_rounds g s) b < c
lasts_below g s c z h b hb =
    omega (
      arith,
      table_get g.borders (last_round g s) b 0 hb,
      (last_round_lem (extracts g s) b).counted,
      rounds_below (extracts g s) c z (λ k l. alone_lt g s.margins k c z h),
    )
