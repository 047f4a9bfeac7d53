-- `tidy` given again what it gave changes nothing.
use mathlib.Core.Path.{◌≡◌, ap, ◌∙◌}
use mathlib.Core.List.{List}
use Prim.Native.Nat.{ℕ}
use Rattle.text.specs.Fields.{feed}
use Rattle.tidyrules.specs.Cut.{cut}
use Rattle.tidyrules.specs.Tidied.{lines_tidied, unmarked, tidied}
use Rattle.tidyrules.proofs.CutLaws.{cut_joins, cut_parted}
use Rattle.tidyrules.proofs.LineLaws.{lines_again}
use Rattle.tidyrules.proofs.MarkLaws.{unmarked_open, unmarked_same, open_lines}

pub tidied_again : (text : List ℕ) → tidied (tidied text) ≡ tidied text
unfolding tidied
tidied_again text =
    let u = unmarked text in
    let c = cut feed feed u in
    ap (λ (s : List ℕ). lines_tidied (cut feed feed s)) (unmarked_same (lines_tidied c) (open_lines c (rw (cut_joins feed feed u) (unmarked_open text))))
    ∙ lines_again c (cut_parted feed feed u)
