-- `claims::pair_good` meets its contract: each test is the definition's, of the pair's numbers.
use mathlib.Core.Path.{◌≡◌, sym, ap, ◌∙◌}
use borrow.Author.Tests.{not-true, not-false}
use lib.IntN.{pos}
use Rattle.numbers.specs.Ints.{inside}
use Rattle.numbers.proofs.IntLaws.{plain}
use Rattle.claimrules.specs.Claims.{times_most, cited_row, kept_row, pair_good}
use Rattle.claims.specs.Named.{flagged}
use Rattle.claims.proofs.pair_good.Goals as goal

pub returns-then-not-kept_row : goal.returns-then-not-kept_row
unfolding pair_good
returns-then-not-kept_row c = let kept_is : c.kept_row.result ≡ kept_row c.args.states.now (cited_row c.args.claim c.args.j) = c.kept_row.ensures ∙ ap (kept_row c.args.states.now) (plain _ c.row-1.given) in
    simp (sym (kept_is) ∙ not-true _ c.if-not-kept_row.true-raw)

pub returns-then-is_flagged : goal.returns-then-is_flagged
unfolding pair_good
returns-then-is_flagged c = let kept_is : c.kept_row.result ≡ kept_row c.args.states.now (cited_row c.args.claim c.args.j) = c.kept_row.ensures ∙ ap (kept_row c.args.states.now) (plain _ c.row-1.given) in
    let named_is : c.is_flagged.result ≡ flagged c.args.named.now (cited_row c.args.claim c.args.j) = c.is_flagged.ensures ∙ ap (flagged c.args.named.now) (plain _ c.row-1.given) in
    simp (sym (kept_is) ∙ not-false _ c.if-not-kept_row.false-raw, sym (named_is) ∙ c.if-is_flagged.true)

pub cited_before-requires : goal.cited_before-requires
cited_before-requires c = c.requires

pub returns-then-cited_before : goal.returns-then-cited_before
unfolding pair_good
returns-then-cited_before c = let kept_is : c.kept_row.result ≡ kept_row c.args.states.now (cited_row c.args.claim c.args.j) = c.kept_row.ensures ∙ ap (kept_row c.args.states.now) (plain _ c.row-1.given) in
    let named_is : c.is_flagged.result ≡ flagged c.args.named.now (cited_row c.args.claim c.args.j) = c.is_flagged.ensures ∙ ap (flagged c.args.named.now) (plain _ c.row-1.given) in
    simp (sym (kept_is) ∙ not-false _ c.if-not-kept_row.false-raw, sym (named_is) ∙ c.if-is_flagged.false, sym c.cited_before.ensures ∙ c.if-cited_before.true)

pub returns : goal.returns
unfolding pair_good
returns c = let kept_is : c.kept_row.result ≡ kept_row c.args.states.now (cited_row c.args.claim c.args.j) = c.kept_row.ensures ∙ ap (kept_row c.args.states.now) (plain _ c.row-1.given) in
    let named_is : c.is_flagged.result ≡ flagged c.args.named.now (cited_row c.args.claim c.args.j) = c.is_flagged.ensures ∙ ap (flagged c.args.named.now) (plain _ c.row-1.given) in
    simp (sym (kept_is) ∙ not-false _ c.if-not-kept_row.false-raw, sym (named_is) ∙ c.if-is_flagged.false, sym c.cited_before.ensures ∙ c.if-cited_before.false)
    (c.inside.ensures ∙ ap (inside (pos 1) (pos times_most)) (plain _ c.times-1.given))
