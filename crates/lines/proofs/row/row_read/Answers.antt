-- `lines::row::row_read` meets its contract: what the columns hold is judged.
use Prim.Native.Nat.{ℕ}
use mathlib.Core.Path.{◌≡◌, sym, ap, ◌∙◌}
use mathlib.Core.List.{◌++◌}
use lib.ListN.{length}
use native.Mathlib.Omega.{arith}
use Rattle.columns.specs.Columns.{stored}
use Rattle.lines.specs.RowKinds.{values_by}
use Rattle.lines.proofs.RowJudge.{row_form, row_holds, row_range}
use Rattle.lines.proofs.row.row_read.Goals as goal
use Rattle.std.specs.Prelude.{Result, Err}
use Rattle.text.specs.declared.LineFault.TheVariants.{Form, Range}

pub row_bad-requires : goal.row_bad-requires
row_bad-requires c = c.requires.1

pub returns-in_default : goal.returns-in_default
returns-in_default c =
    let read : (r : Result ℕ ℕ) → c.row_at.result ≡ r → stored r (c.row_at.new.raw ++ c.row_at.new.f) ≡ values_by c.args.kind (length c.args.f.now) c.args.line.now c.args.i = λ r e. sym (ap (λ (f : Result ℕ ℕ). stored f (c.row_at.new.raw ++ c.row_at.new.f)) e) ∙ c.row_at.ensures in
    ap (λ (byte : ℕ). Err (Form byte)) c.row_bad.ensures ∙ sym (row_form c.args.kind (length c.args.f.now) c.args.line.now c.args.i _ (read _ c.in_default.is))

pub returns-then-row_good : goal.returns-then-row_good
returns-then-row_good c =
    let read : (r : Result ℕ ℕ) → c.row_at.result ≡ r → stored r (c.row_at.new.raw ++ c.row_at.new.f) ≡ values_by c.args.kind (length c.args.f.now) c.args.line.now c.args.i = λ r e. sym (ap (λ (f : Result ℕ ℕ). stored f (c.row_at.new.raw ++ c.row_at.new.f)) e) ∙ c.row_at.ensures in
    sym (row_holds c.args.kind (length c.args.f.now) c.args.line.now c.args.i c.row_at.new.raw c.row_at.new.f c.row_at.auto.raw _ (read _ c.in-Ok.is) (sym c.row_good.ensures ∙ c.if-row_good.true))

pub row_out-requires : goal.row_out-requires
row_out-requires c = omega (arith, c.row_at.auto.f, c.requires.1)

pub returns-else-row_good : goal.returns-else-row_good
returns-else-row_good c =
    let read : (r : Result ℕ ℕ) → c.row_at.result ≡ r → stored r (c.row_at.new.raw ++ c.row_at.new.f) ≡ values_by c.args.kind (length c.args.f.now) c.args.line.now c.args.i = λ r e. sym (ap (λ (f : Result ℕ ℕ). stored f (c.row_at.new.raw ++ c.row_at.new.f)) e) ∙ c.row_at.ensures in
    ap (λ (byte : ℕ). Err (Range byte)) c.row_out.ensures
    ∙ sym (row_range c.args.kind (length c.args.f.now) c.args.line.now c.args.i c.row_at.new.raw c.row_at.new.f c.row_at.auto.raw _ (read _ c.in-Ok.is) (sym c.row_good.ensures ∙ c.if-row_good.false))
