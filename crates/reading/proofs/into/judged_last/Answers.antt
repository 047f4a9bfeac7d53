-- `reading::into::judged_last` meets its contract: the first border given twice, or else what was held back.
use Rattle.std.specs.Prelude.{Err}
use mathlib.Core.Path.{◌≡◌, sym, ap, ◌∙◌}
use Prim.Native.Nat.{ℕ, ◌≤◌}
use native.Mathlib.Omega.{arith}
use Rattle.std.proofs.lemmas.Result.{err_from_is_err_and}
use lib.ListN.{length, take}
use lib.Seq.{length-take-le}
use Rattle.numbers.specs.Below.{first_from}
use Rattle.refusals.specs.Answers.{said_judgement}
use Rattle.refusals.specs.Refusals.{given_twice, Ruling}
use Rattle.refusals.proofs.RefusalLaws.{first_found, first_none_next}
use Rattle.types.proofs.RangeLaws.{header_in_lem}
use Rattle.tablerules.specs.Table.{twice}
use Rattle.reading.proofs.into.judged_last.Goals as goal

pub slice_bounds-first_twice-end : goal.slice_bounds-first_twice-end
slice_bounds-first_twice-end c =
    let room : c.args.h.borders ≤ length c.args.b.now = omega (arith, (header_in_lem _ c.requires.0).borders_most_lem, c.requires.1) in
    sym (length-take-le _ _ (room))

pub returns-in-Some : goal.returns-in-Some
returns-in-Some c =
    let room : c.args.h.borders ≤ length c.args.b.now = omega (arith, (header_in_lem _ c.requires.0).borders_most_lem, c.requires.1) in
    let searched : first_from c.args.h.borders 0 (twice (take c.args.h.borders c.args.b.now)) ≡ c.first_twice.result = ap (λ (n : ℕ). first_from n 0 (twice (take c.args.h.borders c.args.b.now))) (sym (length-take-le _ _ (room))) ∙ sym c.first_twice.ensures in
    sym (first_found (said_judgement c.args.held c.args.h) c.args.h.borders _ given_twice (searched ∙ c.in-Some.is))

pub returns : goal.returns
returns c =
    let room : c.args.h.borders ≤ length c.args.b.now = omega (arith, (header_in_lem _ c.requires.0).borders_most_lem, c.requires.1) in
    let searched : first_from c.args.h.borders 0 (twice (take c.args.h.borders c.args.b.now)) ≡ c.first_twice.result = ap (λ (n : ℕ). first_from n 0 (twice (take c.args.h.borders c.args.b.now))) (sym (length-take-le _ _ (room))) ∙ sym c.first_twice.ensures in
    sym (first_none_next (said_judgement c.args.held c.args.h) c.args.h.borders _ given_twice (searched ∙ c.in_default.is) ∙ ap (λ (j : Ruling). said_judgement j c.args.h) c.in_ok-held.was)

pub returns-in_err-held : goal.returns-in_err-held
returns-in_err-held c =
    let room : c.args.h.borders ≤ length c.args.b.now = omega (arith, (header_in_lem _ c.requires.0).borders_most_lem, c.requires.1) in
    let searched : first_from c.args.h.borders 0 (twice (take c.args.h.borders c.args.b.now)) ≡ c.first_twice.result = ap (λ (n : ℕ). first_from n 0 (twice (take c.args.h.borders c.args.b.now))) (sym (length-take-le _ _ (room))) ∙ sym c.first_twice.ensures in
    let p = err_from_is_err_and c.from_residual.result c.from_residual.ensures.1 in
    rw (p.1, p.2) (sym (first_none_next (said_judgement c.args.held c.args.h) c.args.h.borders _ given_twice (searched ∙ c.in_default.is) ∙ ap (λ (j : Ruling). said_judgement j c.args.h) c.in_err-held.was))
