-- That what each call tells of a good table is what its word says of it (specs/Printed.antt, `said_of`), and that there is room for it: a law for each word.
-- No contract cites this file.
use Rattle.std.specs.Prelude.{Ok}
use mathlib.Core.Path.{◌≡◌, refl, ap, subst, ◌∙◌}
use mathlib.Core.Bool.{Bool, false}
use mathlib.Core.List.{List}
use Prim.Native.Nat.{ℕ, ◌≤◌}
use native.Mathlib.Omega.{arith}
use lib.ListN.{length}
use Rattle.limits.specs.Limits.{bytes_most}
use Rattle.refusals.specs.Refusals.{Judged}
use Rattle.refusals.proofs.RefusalLaws.{passed_is, then_next}
use Rattle.text.specs.Left.{text_left, text_said}
use Rattle.tablerules.specs.Table.{Table, front}
use Rattle.tablerules.specs.Good.{Good}
use Rattle.writing.specs.Writing.{table_text}
use Rattle.writing.proofs.LengthLaws.{never_too_long}
use Rattle.rowsheet.specs.RowSheet.{write_rows_left}
use Rattle.partrules.specs.Parts.{records_of}
use Rattle.partstext.specs.PartsText.{parts_text}
use Rattle.partstext.proofs.PartsTextLaws.{parts_text_most}
use Rattle.boundrules.specs.Bound.{bound_asked}
use Rattle.boundtext.specs.BoundText.{bound_text_of}
use Rattle.claimline.specs.ClaimText.{claims_in}
use Rattle.claimtext.specs.Published.{published_of}
use Rattle.claimtext.proofs.PublishedLaws.{published_fits}
use Rattle.extractrules.specs.Extraction.{outcome_for}
use Rattle.result.specs.Asked.{bytes_asked}
use Rattle.answer.specs.Printed.{outcome_said, answer_most}
use Rattle.answer.proofs.OutcomeLaws.{told_said}
use Rattle.output.proofs.BufferLaws.{asked_fits}
use Rattle.command.specs.declared.asked.Word.TheVariants.{Answer, Rewrite, Claims, Bound, Margins, Rows, Filled}
use Rattle.printing.specs.Printed.{Said, filled_by, said_of}
use Rattle.printing.proofs.BoundFits.{bound_fits}
use Rattle.printing.proofs.PrintedLaws.{said_as}
use Rattle.printing.proofs.RowsLaws.{rows_pass, sheet_fits}

module _ (all : Bool) (marks file : List ℕ) where
  module _ {t : Table} (good : Good t) (out : List ℕ) (room : bytes_most ≤ length out) (r : Judged ℕ) {out' : List ℕ} where
    pub answer_said : text_said r out' ≡ text_left (outcome_said false (outcome_for all marks t)) out → ((text : List ℕ) → outcome_said false (outcome_for all marks t) ≡ Ok text → bytes_asked r ≤ answer_most)
        → Said r (said_of Answer all marks file t) out out'
    unfolding said_of
    answer_said left few =
        said_as (told_said (outcome_for all marks t))
        (record { left = left; fits = λ text e. asked_fits text out _ r (left ∙ ap (λ (j : Judged (List ℕ)). text_left j out) e) (omega (arith, few text e, room)) })

    pub rewrite_said : text_said r out' ≡ text_left (Ok (table_text t)) out → Said r (said_of Rewrite all marks file t) out out'
    unfolding said_of
    rewrite_said left = record { left = left; fits = λ text e. subst (λ (s : List ℕ). length s ≤ length out) (passed_is _ _ e) (omega (arith, never_too_long t good, room)) }

    pub claims_said : text_said r out' ≡ text_left (published_of t (claims_in file)) out → Said r (said_of Claims all marks file t) out out'
    unfolding said_of
    claims_said left = record { left = left; fits = λ text e. omega (arith, published_fits t (claims_in file) text e good, room) }

    pub bound_said : text_said r out' ≡ text_left (bound_text_of (bound_asked all marks t)) out → Said r (said_of Bound all marks file t) out out'
    unfolding said_of
    bound_said left = record { left = left; fits = λ text e. omega (arith, bound_fits good all marks text e, room) }

    pub margins_said : text_said r out' ≡ text_left (Ok (parts_text (records_of t))) out → Said r (said_of Margins all marks file t) out out'
    unfolding said_of
    margins_said left = record { left = left; fits = λ text e. subst (λ (s : List ℕ). length s ≤ length out) (passed_is _ _ e) (omega (arith, parts_text_most good, room)) }

  -- the call judges the lent rows again, which are good
  pub rows_said_lem : (given : Table) → Good (front given) → (out : List ℕ) → bytes_most ≤ length out → (r : Judged ℕ) {out' : List ℕ}
      → text_said r out' ≡ write_rows_left given.header given.rows given.factors out → Said r (said_of Rows all marks file (front given)) out out'
  unfolding said_of write_rows_left
  rows_said_lem given good out room r left =
      said_as (then_next _ (rows_pass given good)) (record { left = left; fits = λ text e. omega (arith, sheet_fits given.header given.rows given.factors text e, room) })

  pub filled_told : (t : Table) → filled_by file t ≡ said_of Filled all marks file t
  unfolding said_of
  filled_told t = refl
