-- What `tidy` leaves (tidyrules: `tidy_left`), one law for each of its answers. No contract cites this file.
use Rattle.std.specs.Prelude.{Err, Ok}
use mathlib.Core.Path.{◌≡◌, sym, ap, ◌∙◌}
use mathlib.Core.List.{List, ◌++◌}
use Prim.Native.Nat.{ℕ, ◌≤◌, ◌<◌}
use native.Mathlib.Omega.{arith}
use borrow.Author.Tests.{lt-ltb, le-ltb}
use lib.ListN.{length, take, drop}
use lib.Seq.{sets, length-take-le}
use Rattle.numbers.specs.Below.{over}
use Rattle.numbers.proofs.ListLaws.{over_front}
use Rattle.limits.specs.Limits.{bytes_most}
use Rattle.refusals.specs.Refusals.{too_long, too_short}
use Rattle.text.specs.Fields.{feed}
use Rattle.text.specs.Left.{TextLeft}
use Rattle.text.proofs.LeftLaws.{text_refused, text_short, text_out}
use Rattle.tidyrules.specs.Cut.{cut}
use Rattle.tidyrules.specs.Tidied.{lines_tidied, unmarked, tidied, tidy_left}
use Rattle.tidy.specs.Lines.{lines_all}
use Rattle.tidy.proofs.LinesLeft.{front_stored}

module _ (text out : List ℕ) where
  pub left_long : bytes_most < length text → ◌≡◌ {A = TextLeft} (record { answer = Err too_long; out = out }) (tidy_left text out)
  unfolding tidy_left
  left_long h = text_refused out (rw (lt-ltb bytes_most (length text) h))

  module _ (h : length text ≤ bytes_most) where
    pub left_short : (n : ℕ) → n ≡ length (tidied text) → length out < n → ◌≡◌ {A = TextLeft} (record { answer = Err (too_short n); out = out }) (tidy_left text out)
    unfolding tidy_left
    left_short n e l = rw (le-ltb bytes_most (length text) h) (text_short (tidied text) out n e l)

    pub left_written : (n : ℕ) (out' : List ℕ) → n ≤ length out → n ≡ length (tidied text) → out' ≡ over (tidied text) out → ◌≡◌ {A = TextLeft} (record { answer = Ok n; out = out' }) (tidy_left text out)
    unfolding tidy_left
    left_written n out' room e w = rw (le-ltb bytes_most (length text) h) (text_out (tidied text) out (omega arith) (e, w))

  -- all lines of the text without its marks, stored in room for those that stay
  pub lines_stored : (n : ℕ) (part : List ℕ) → n ≡ length (tidied text) → n ≤ length out → part ≡ sets (take n out) 0 (lines_all (cut feed feed (unmarked text))) → part ++ drop n out ≡ over (tidied text) out
  unfolding tidied
  lines_stored n part e room w =
      over_front part (tidied text) out n (w ∙ front_stored (cut feed feed (unmarked text)) (take n out) (length-take-le n out room ∙ e)) (sym e)

-- the lines of the text without its marks
pub lines_tidied_lem : (text lines : List ℕ) → lines ≡ unmarked text → lines_tidied (cut feed feed lines) ≡ tidied text
unfolding tidied
lines_tidied_lem text lines e = ap (λ (t : List ℕ). lines_tidied (cut feed feed t)) e
