-- The rows that the lines of a list name, flagged line by line (claims: `specs/Named.antt`). No contract cites this file.
use mathlib.Core.Path.{◌≡◌, sym, ap, ◌∙◌}
use mathlib.Core.Bool.{Bool}
use mathlib.Core.List.{List, []}
use Prim.Native.Nat.{ℕ, ◌+◌, ◌≤◌, ◌<◌}
use lib.IntN.{ℤ}
use lib.ListN.{length, get_or}
use Rattle.limits.specs.Limits.{rows_most}
use Rattle.text.specs.Line.{line_at, after}
use Rattle.claimrules.specs.Claims.{claimed_row}
use Rattle.claims.specs.Named.{named_rows, none_named, name_row}
use Rattle.claims.proofs.NameLaws.{named_none, named_long, name_more}
use Rattle.claimline.specs.ClaimText.{claim_line, claims_in}
use Rattle.claimline.proofs.ReadLaws.{LinesTo, lines_first, lines_all_lem, lines_here, lines_more}

-- the lines before place p are passed, and the rows that they name are flagged
pub record Naming (list : List ℕ) (flags : List Bool) (p : ℕ) : Type 0 where
  pub n : ℕ
  pub lines : LinesTo list n p
  pub are : flags ≡ named_rows (claims_in list) n

pub naming_none : {list : List ℕ} {flags : List Bool} → flags ≡ none_named → Naming list flags 0
naming_none {list} e = record { n = 0; lines = lines_first list; are = e ∙ named_none (claims_in list) }

module _ {list : List ℕ} {flags : List Bool} {p : ℕ} (u : Naming list flags p) where
  pub naming_long : length flags ≡ rows_most
  naming_long = ap length u.are ∙ named_long (claims_in list) u.n

  pub naming_more : p < length list → {row : ℤ} → row ≡ claimed_row (claim_line (line_at list p)) → {more : List Bool} → more ≡ name_row row flags → Naming list more (after list p)
  naming_more h {row} own q =
      record {
        n = u.n + 1;
        lines = lines_more u.lines h;
        are = q ∙ ap (name_row row) u.are ∙ name_more (claims_in list) u.n (own ∙ ap claimed_row (lines_here u.lines h));
      }

  pub naming_all : length list ≤ p → flags ≡ named_rows (claims_in list) (length (claims_in list))
  naming_all h = u.are ∙ ap (named_rows (claims_in list)) (lines_all_lem u.lines h)
