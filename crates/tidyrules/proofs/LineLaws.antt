-- The laws of `specs/Tidied.antt`: lines and texts that were tidied are not changed again. No contract cites this file.
-- In order: the fields of a line; a line; lines; the text's begin.
use mathlib.Core.Path.{◌≡◌, refl, sym, ap, ap₂, ◌∙◌}
use mathlib.Core.Bool.{Bool, true, false, cond, not, ◌&&◌, ◌||◌}
use mathlib.Core.List.{List, [], ◌∷◌, ◌++◌}
use Prim.Native.Nat.{ℕ, ◌+◌}
use lib.Dec.{eqb}
use Rattle.text.specs.Fields.{tab, feed}
use Rattle.tidyrules.specs.Cut.{Cut, lastly, ended, one_of, cut, joined, ended_by}
use Rattle.tidyrules.specs.Fields.{empty, bared, repaired}
use Rattle.tidyrules.specs.Tidied.{semicolon, is_row, wanted, repairs, line_tidied, bare, above, lines_tidied}
use Rattle.tidyrules.proofs.CutLaws.{Free, Quiet, Parted, cut_quiet, joined_quiet, cut_parted, cut_piece, joined_cuts}
use Rattle.tidyrules.proofs.RepairLaws.{repaired_free, repaired_again}

-- the byte that ends a line, and those that part fields
abbrev pub is_feed : ℕ → Bool
is_feed = one_of feed feed

abbrev pub parts : ℕ → Bool
parts = one_of tab semicolon

-- ---- fields
module _ (row : Bool) where
  pub repairs_parted : (k : ℕ) (c : Cut) → Parted parts c → Parted parts (repairs row k c)
  repairs_parted k (lastly f) h = repaired_free parts true (wanted row k) f refl h
  repairs_parted k (ended f stop c) h = (repaired_free parts false (wanted row k) f refl h.0, h.1, repairs_parted (k + 1) c h.2)

  pub repairs_quiet : (test : ℕ → Bool) (k : ℕ) (c : Cut) → test 48 ≡ false → Quiet test c → Quiet test (repairs row k c)
  repairs_quiet test k (lastly f) z h = repaired_free test true (wanted row k) f z h
  repairs_quiet test k (ended f stop c) z h = (repaired_free test false (wanted row k) f z h.0, h.1, repairs_quiet test (k + 1) c z h.2)

  pub repairs_ended : (b k : ℕ) (c : Cut) → ended_by b (repairs row k c) ≡ ended_by b c
  repairs_ended b k (lastly f) = refl
  repairs_ended b k (ended f stop c) = ap (λ (t : Bool). eqb stop b || t) (repairs_ended b (k + 1) c)

  repairs-row : (k : ℕ) (c : Cut) → is_row (repairs row k c) ≡ is_row c
  repairs-row k c = ap₂ (λ (s t : Bool). s && not t) (repairs_ended semicolon k c) (repairs_ended tab k c)

  pub repairs_again : (k : ℕ) (c : Cut) → repairs row k (repairs row k c) ≡ repairs row k c
  repairs_again k (lastly f) = ap lastly (repaired_again true (wanted row k) f)
  repairs_again k (ended f stop c) = ap₂ (λ (g : List ℕ) (d : Cut). ended g stop d) (repaired_again false (wanted row k) f) (repairs_again (k + 1) c)

-- ---- a line
-- a line whose fields stay as they are
pub line_settled : (c : Cut) → Parted parts c → repairs (is_row c) 0 c ≡ c → line_tidied (joined c) ≡ joined c
unfolding line_tidied
line_settled c p e = ap (λ (d : Cut). joined (repairs (is_row d) 0 d)) (joined_cuts tab semicolon c p) ∙ ap joined e

pub line_again : (line : List ℕ) → line_tidied (line_tidied line) ≡ line_tidied line
unfolding line_tidied
line_again line =
    let c = cut tab semicolon line in
    let row = is_row c in
    let d = repairs row 0 c in
    line_settled d (repairs_parted row 0 c (cut_parted tab semicolon line)) (ap (λ (r : Bool). repairs r 0 d) (repairs-row row 0 c) ∙ repairs_again row 0 c)

pub line_free : (test : ℕ → Bool) (line : List ℕ) → test 48 ≡ false → Free test line → Free test (line_tidied line)
unfolding line_tidied
line_free test line z h =
    let c = cut tab semicolon line in
    joined_quiet test (repairs (is_row c) 0 c) (repairs_quiet (is_row c) test 0 c z (cut_quiet test tab semicolon line h))

pub line_empty : line_tidied [] ≡ []
unfolding line_tidied repaired bared
line_empty = refl

-- ---- lines
pub none : lines_tidied (cut feed feed []) ≡ []
unfolding above
none = ap (λ (l : List ℕ). above l []) line_empty

-- a line that stays as it is above lines that do
above_again : (line rest : List ℕ) → Free is_feed line → line_tidied line ≡ line → lines_tidied (cut feed feed rest) ≡ rest → lines_tidied (cut feed feed (above line rest)) ≡ above line rest
unfolding above
above_again line rest free same ih = go (empty rest && bare line) refl
  where
    go : (t : Bool) → (empty rest && bare line) ≡ t → lines_tidied (cut feed feed (cond t [] (line ++ (feed ∷ rest)))) ≡ cond t [] (line ++ (feed ∷ rest))
    go true e = none
    go false e = ap lines_tidied (cut_piece feed feed line feed rest free refl) ∙ ap₂ above same ih ∙ rw e

pub lines_again : (c : Cut) → Parted is_feed c → lines_tidied (cut feed feed (lines_tidied c)) ≡ lines_tidied c
lines_again (lastly line) h = above_again (line_tidied line) [] (line_free is_feed line refl h) (line_again line) none
lines_again (ended line stop c) h = above_again (line_tidied line) (lines_tidied c) (line_free is_feed line refl h.0) (line_again line) (lines_again c h.2)
