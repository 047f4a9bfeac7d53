-- A text written line by line: the loop's invariant and its steps, and that the lines that stay are the front of all lines. No contract cites this file.
use mathlib.Core.Path.{◌≡◌, refl, sym, ap, ap₂, ◌∙◌}
use mathlib.Core.Bool.{Bool, true, false, cond, not, ◌&&◌}
use mathlib.Core.Logic.{⊎_elim}
use mathlib.Core.List.{List, [], ◌∷◌, ◌++◌, append_assoc, append-nil}
use Prim.Native.Nat.{ℕ, suc, ◌+◌, ◌*◌, ◌-◌, ◌≤◌, ◌<◌}
use native.Mathlib.Nat.{not-suc-le-zero}
use native.Mathlib.Omega.{arith}
use lib.ListN.{length, get_or, take, drop, length-append, length-drop, length-take, drop_of_length-le}
use lib.Seq.{sets, take-append-add}
use Rattle.numbers.proofs.BelowLaws.{le_or_lt}
use Rattle.text.specs.Fields.{feed}
use Rattle.tidyrules.specs.Cut.{Cut, lastly, ended, cut, joined}
use Rattle.tidyrules.specs.Fields.{empty}
use Rattle.tidyrules.specs.Tidied.{line_tidied, bare, above, lines_tidied}
use Rattle.tidyrules.proofs.CutLaws.{cut_joins}
use Rattle.tidyrules.proofs.LengthLaws.{line_le}
use Rattle.tidyrules.proofs.LineLaws.{line_empty}
use Rattle.tidyfields.specs.Pieces.{leading}
use Rattle.tidy.specs.declared.line.Placed.{Placed}
use Rattle.tidy.specs.Clip.{Clip, LinePut}
use Rattle.tidy.specs.Lines.{lines_all}
use Rattle.tidy.proofs.ClipLaws.{Left, left_is, left_start, left_more, left_all, clip_more, sets_cover}
use Rattle.tidy.proofs.FieldsLeft.{piece_ended, piece_lastly}

-- ---- where the last line that stays ends
-- of lines that begin at `at`, where `kept` is the end of the last one before them that stays
abbrev pub kept_from : (at kept : ℕ) → Cut → ℕ
kept_from at kept (lastly l) = cond (bare (line_tidied l)) kept (at + length (line_tidied l) + 1)
kept_from at kept (ended l stop c) = kept_from (at + length (line_tidied l) + 1) (cond (bare (line_tidied l)) kept (at + length (line_tidied l) + 1)) c

empty_some : (l : List ℕ) (b : ℕ) (r : List ℕ) → empty (l ++ (b ∷ r)) ≡ false
empty_some [] b r = refl
empty_some (a ∷ l) b r = refl

above_kept : (at kept : ℕ) (l r : List ℕ) → cond (empty r) (cond (bare l) kept (at + length l + 1)) (at + length l + 1 + length r) ≡ cond (empty (above l r)) kept (at + length (above l r))
unfolding above
above_kept at kept l [] = go (bare l)
  where
    go : (t : Bool) → cond t kept (at + length l + 1) ≡ cond (empty (cond t [] (l ++ (feed ∷ [])))) kept (at + length (cond t [] (l ++ (feed ∷ []))))
    go true = refl
    go false = rw (empty_some l feed []) (omega (arith, length-append l (feed ∷ [])))
above_kept at kept l (b ∷ r) = rw (empty_some l feed (b ∷ r)) (omega (arith, length-append l (feed ∷ (b ∷ r))))

kept_is : (c : Cut) (at kept : ℕ) → kept_from at kept c ≡ cond (empty (lines_tidied c)) kept (at + length (lines_tidied c))
kept_is (lastly l) at kept = above_kept at kept (line_tidied l) []
kept_is (ended l stop c) at kept =
    kept_is c (at + length (line_tidied l) + 1) (cond (bare (line_tidied l)) kept (at + length (line_tidied l) + 1)) ∙ above_kept at kept (line_tidied l) (lines_tidied c)

kept_all : (c : Cut) → kept_from 0 0 c ≡ length (lines_tidied c)
kept_all c = kept_is c 0 0 ∙ go (lines_tidied c)
  where
    go : (r : List ℕ) → cond (empty r) 0 (0 + length r) ≡ length r
    go [] = refl
    go (b ∷ r) = omega arith

-- ---- one line, and those after it
module _ (text : List ℕ) (p e : ℕ) (h : p < length text) (end : e ≡ p + length (leading feed feed (drop p text))) where
  -- what is said of a cut text by its first line and the rest is so of the text at p: a last line has nothing after it
  by-line : {A : Type 0} (f : Cut → A) (g : List ℕ → Cut → A) → ((l : List ℕ) (b : ℕ) (c : Cut) → f (ended l b c) ≡ g l c) → ((l : List ℕ) → 0 < length l → f (lastly l) ≡ g l (lastly []))
      → f (cut feed feed (drop p text)) ≡ g (take (e - p) (drop p text)) (cut feed feed (drop (e + 1) text))
  by-line f g more last =
      ⊎_elim
      (λ (past : length text ≤ e).
      let none : drop (e + 1) text ≡ [] = drop_of_length-le text {i = e + 1} (omega arith) in
      ap f (piece_lastly feed feed text p e (omega arith) end past) ∙ last (take (e - p) (drop p text)) (omega (arith, length-take (e - p) (drop p text), length-drop p text))
      ∙ ap (λ (t : List ℕ). g (take (e - p) (drop p text)) (cut feed feed t)) (sym none))
      (λ (within : e < length text).
      ap f (piece_ended feed feed text p e (omega arith) end within) ∙ more (take (e - p) (drop p text)) (get_or text e 0) (cut feed feed (drop (e + 1) text)))
      (le_or_lt (length text) e)

  all-step : lines_all (cut feed feed (drop p text)) ≡ (line_tidied (take (e - p) (drop p text)) ++ (feed ∷ [])) ++ lines_all (cut feed feed (drop (e + 1) text))
  all-step =
      by-line lines_all (λ (l : List ℕ) (c : Cut). (line_tidied l ++ (feed ∷ [])) ++ lines_all c) (λ l b c. sym (append_assoc (line_tidied l) (feed ∷ []) (lines_all c))) alone
    where
      alone : (l : List ℕ) → 0 < length l → cond (empty l) [] (line_tidied l ++ (feed ∷ [])) ≡ (line_tidied l ++ (feed ∷ [])) ++ []
      alone [] k = absurd (not-suc-le-zero {n = 0} (omega arith))
      alone (b ∷ l) k = sym (append-nil (line_tidied (b ∷ l) ++ (feed ∷ [])))

  kept_step : (at kept : ℕ) → kept_from at kept (cut feed feed (drop p text))
      ≡ kept_from (at + length (line_tidied (take (e - p) (drop p text))) + 1) (cond (bare (line_tidied (take (e - p) (drop p text)))) kept (at + length (line_tidied (take (e - p) (drop p text))) + 1)) (cut feed feed (drop (e + 1) text))
  kept_step at kept =
      by-line (kept_from at kept) (λ (l : List ℕ) (c : Cut). kept_from (at + length (line_tidied l) + 1) (cond (bare (line_tidied l)) kept (at + length (line_tidied l) + 1)) c) (λ l b c. refl)
      (λ l k. rw line_empty)

-- ---- how long all lines are
all_long : (c : Cut) → length (lines_all c) ≤ 2 * length (joined c) + 1
all_long (lastly line) = go (empty line)
  where
    go : (t : Bool) → length (cond t [] (line_tidied line ++ (feed ∷ []))) ≤ 2 * length line + 1
    go true = omega arith
    go false = omega (arith, line_le line, length-append (line_tidied line) (feed ∷ []))
all_long (ended line stop c) = omega (arith, all_long c, line_le line, length-append (line_tidied line) (feed ∷ lines_all c), length-append line (stop ∷ joined c))

pub all_most : (s : List ℕ) → length (lines_all (cut feed feed s)) ≤ 2 * length s + 1
all_most s = omega (arith, all_long (cut feed feed s), ap length (cut_joins feed feed s))

-- ---- the loop over lines
pub record LinesLeft (text out₀ : List ℕ) (p at kept : ℕ) (out : List ℕ) : Type 0 where
  pub left : Left (lines_all (cut feed feed text)) (lines_all (cut feed feed (drop p text))) 0 at out₀ out
  pub until : kept_from at kept (cut feed feed (drop p text)) ≡ length (lines_tidied (cut feed feed text))

pub lines_none : (text out : List ℕ) → LinesLeft text out 0 0 0 out
lines_none text out = record { left = left_start (lines_all (cut feed feed text)) 0 out; until = kept_all (cut feed feed text) }

module _ {text out₀ : List ℕ} {p at kept : ℕ} {out : List ℕ} (u : LinesLeft text out₀ p at kept out) where
  module _ (e : ℕ) (h : p < length text) (end : e ≡ p + length (leading feed feed (drop p text))) where
    pub lines_room : {most : ℕ} → length text ≤ most → at + (length (line_tidied (take (e - p) (drop p text))) + 1) ≤ 2 * most + 1
    lines_room l =
        let here = line_tidied (take (e - p) (drop p text)) in
        omega (
          arith,
          u.left.place,
          all_most text,
          ap length (all-step text p e h end),
          length-append (here ++ (feed ∷ [])) (lines_all (cut feed feed (drop (e + 1) text))),
          length-append here (feed ∷ []),
        )

    pub lines_more : (w : Placed) (mid : List ℕ) (at' kept' : ℕ) (out' : List ℕ) → LinePut (take (e - p) (drop p text)) at out w mid → Clip (feed ∷ []) w.next mid at' out' → kept' ≡ cond w.some at' kept
        → LinesLeft text out₀ (e + 1) at' kept' out'
    lines_more w mid at' kept' out' put line_end k =
        let l = line_tidied (take (e - p) (drop p text)) in
        let both = clip_more put.put line_end in
        let place : at' ≡ at + length l + 1 = omega (arith, both.after, length-append l (feed ∷ [])) in
        let some : kept' ≡ cond (bare l) kept (at + length l + 1) = k ∙ ap₂ (λ (t : Bool) (n : ℕ). cond t n kept) put.some place ∙ turned (bare l) kept (at + length l + 1) in
        record {
          left = left_more (left_is (all-step text p e h end) u.left) both;
          until = ap₂ (λ (a b : ℕ). kept_from a b (cut feed feed (drop (e + 1) text))) place some ∙ sym (kept_step text p e h end at kept) ∙ u.until;
        }
      where
        turned : (t : Bool) (m n : ℕ) → cond (not t) n m ≡ cond t m n
        turned true m n = refl
        turned false m n = refl

  pub lines_all_lem : length text ≤ p → (kept ≡ length (lines_tidied (cut feed feed text))) × (out ≡ sets out₀ 0 (lines_all (cut feed feed text)))
  lines_all_lem h =
      let none : drop p text ≡ [] = drop_of_length-le text h in
      let last : kept_from at kept (lastly []) ≡ kept = rw line_empty in (
        sym last ∙ ap (λ (t : List ℕ). kept_from at kept (cut feed feed t)) (sym none) ∙ u.until,
        (left_all (left_is (ap (λ (t : List ℕ). lines_all (cut feed feed t)) none) u.left)).wrote,
      )

-- ---- the lines that stay are the front of all lines
front_longer : (x : List ℕ) (b : ℕ) (r s : List ℕ) → take (length r) s ≡ r → take (length (x ++ (b ∷ r))) (x ++ (b ∷ s)) ≡ x ++ (b ∷ r)
front_longer x b r s e =
    ap (λ (n : ℕ). take n (x ++ (b ∷ s))) (length-append x (b ∷ r)) ∙ take-append-add x (b ∷ s) (suc (length r)) ∙ ap (λ (l : List ℕ). x ++ (b ∷ l)) e

above_front : (l r s : List ℕ) → take (length r) s ≡ r → take (length (above l r)) (l ++ (feed ∷ s)) ≡ above l r
unfolding above
above_front l r s e = go (empty r && bare l)
  where
    go : (t : Bool) → take (length (cond t [] (l ++ (feed ∷ r)))) (l ++ (feed ∷ s)) ≡ cond t [] (l ++ (feed ∷ r))
    go true = refl
    go false = front_longer l feed r s e

all_front : (c : Cut) → take (length (lines_tidied c)) (lines_all c) ≡ lines_tidied c
unfolding above
all_front (lastly []) = rw line_empty
all_front (lastly (b ∷ l)) = above_front (line_tidied (b ∷ l)) [] [] refl
all_front (ended l stop c) = above_front (line_tidied l) (lines_tidied c) (lines_all c) (all_front c)

front_le : (c : Cut) → length (lines_tidied c) ≤ length (lines_all c)
front_le c = omega (arith, ap length (all_front c), length-take (length (lines_tidied c)) (lines_all c))

-- all lines stored into room for those that stay are those that stay
pub front_stored : (c : Cut) (out : List ℕ) → length out ≡ length (lines_tidied c) → sets out 0 (lines_all c) ≡ lines_tidied c
front_stored c out e =
    sets_cover (lines_all c) out (omega (arith, front_le c)) ∙ ap (λ (n : ℕ). take n (lines_all c)) e ∙ all_front c
