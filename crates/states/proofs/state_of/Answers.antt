-- `states::state_of` meets its contract.
use mathlib.Core.Path.{◌≡◌, sym, ap, ◌∙◌}
use mathlib.Core.List.{List}
use lib.IntN.{ℤ, pos}
use lib.Signed.{lt_z}
use Rattle.tablerules.specs.Table.{stretch}
use Rattle.staterules.specs.States.{spread_of, spread_least}
use Rattle.marginrules.proofs.JudgedLaws.{part_ranges}
use Rattle.staterules.proofs.StateLaws.{state_spread, state_stood, state_kept}
use Rattle.states.proofs.state_of.Goals as goal

pub spread_small-requires : goal.spread_small-requires
spread_small-requires c = part_ranges c.requires.table_factors_in_range c.args.i c.requires.i_lt_rows c.row_factors.ensures

pub returns-then-spread_small : goal.returns-then-spread_small
returns-then-spread_small c = let small : c.spread_small.result ≡ lt_z (spread_of (stretch c.args.h.zones c.args.f.now c.args.i)) (pos spread_least) = c.spread_small.ensures ∙ ap (λ (fs : List ℤ). lt_z (spread_of fs) (pos spread_least)) c.row_factors.ensures in
    state_spread c.args.h c.args.f.now c.args.rams.now c.args.i (sym (small) ∙ c.if-spread_small.true)

pub returns-then-stood_for : goal.returns-then-stood_for
returns-then-stood_for c = let small : c.spread_small.result ≡ lt_z (spread_of (stretch c.args.h.zones c.args.f.now c.args.i)) (pos spread_least) = c.spread_small.ensures ∙ ap (λ (fs : List ℤ). lt_z (spread_of fs) (pos spread_least)) c.row_factors.ensures in
    state_stood c.args.h c.args.f.now c.args.rams.now c.args.i (sym (small) ∙ c.if-spread_small.false) (sym c.stood_for.ensures ∙ c.if-stood_for.true)

pub returns : goal.returns
returns c = let small : c.spread_small.result ≡ lt_z (spread_of (stretch c.args.h.zones c.args.f.now c.args.i)) (pos spread_least) = c.spread_small.ensures ∙ ap (λ (fs : List ℤ). lt_z (spread_of fs) (pos spread_least)) c.row_factors.ensures in
    state_kept c.args.h c.args.f.now c.args.rams.now c.args.i (sym (small) ∙ c.if-spread_small.false) (sym c.stood_for.ensures ∙ c.if-stood_for.false)
