-- The laws of `specs/Tidied.antt`'s `mark` and `unmarked`: a text that was tidied begins with no BOM and no blank. No contract cites this file.
use mathlib.Core.Path.{◌≡◌, refl, sym, ap, ◌∙◌}
use mathlib.Core.Bool.{Bool, true, false, cond, not, ◌&&◌, ◌||◌}
use mathlib.Core.Logic.{◌⊎◌, inl, inr, ⊎_elim}
use mathlib.Core.List.{List, [], ◌∷◌, ◌++◌, append-nil}
use Prim.Native.Nat.{ℕ, zero, suc, ◌+◌, ◌≤◌, ◌<◌}
use native.Mathlib.Nat.{not-suc-le-zero}
use native.Mathlib.Omega.{arith}
use borrow.Author.Tests.{eqb-true, ltb-true, ne_eqb, eq-eqb}
use lib.Dec.{leb, ltb, eqb}
use lib.ListN.{length, get_or, drop, replicate, length-drop}
use Rattle.numbers.proofs.TestLaws.{zero_one, true_false, and_both}
use Rattle.text.specs.Fields.{tab, feed}
use Rattle.tidyrules.specs.Cut.{Cut, lastly, ended, one_of, cut, joined}
use Rattle.tidyrules.specs.Fields.{blank, quote, empty, edge, unled, untrailed, trimmed, closes, within, unquoted, lacking, filled, bared, repaired}
use Rattle.tidyrules.specs.Tidied.{semicolon, is_row, wanted, repairs, line_tidied, bare, above, lines_tidied, mark, unmarked_by, unmarked}
use Rattle.tidyrules.proofs.CutLaws.{Free, Parted, cut_joins, cut_parted}
use Rattle.tidyrules.proofs.RepairLaws.{untrailed_free}
use Rattle.tidyrules.proofs.LineLaws.{parts, is_feed}

-- ---- mark
-- the first byte is no blank, and the first three are no BOM
abbrev bom : List ℕ → Bool
bom s = eqb (get_or s 0 0) 239 && (eqb (get_or s 1 0) 187 && eqb (get_or s 2 0) 191)

pub record Open (s : List ℕ) : Type 0 where
  pub no_blank : eqb (get_or s 0 0) blank ≡ false
  pub no_bom : bom s ≡ false

pub mark_open : (s : List ℕ) → mark s ≡ 0 → Open s
mark_open s h = go (eqb (get_or s 0 0) blank) (bom s) refl refl h
  where
    go : (t u : Bool) → eqb (get_or s 0 0) blank ≡ t → bom s ≡ u → ◌≡◌ {A = ℕ} (cond t 1 (cond u 3 0)) 0 → Open s
    go true u p q e = absurd (not-suc-le-zero {n = 0} (omega arith))
    go false true p q e = absurd (not-suc-le-zero {n = 0} (omega arith))
    go false false p q e = record { no_blank = p; no_bom = q }

pub open_mark : (s : List ℕ) → Open s → mark s ≡ 0
open_mark s o = rw (o.no_blank, o.no_bom)

pub mark_most : (s : List ℕ) → mark s ≤ 3
mark_most s = go (eqb (get_or s 0 0) blank) (bom s)
  where
    go : (t u : Bool) → cond t 1 (cond u 3 0) ≤ 3
    go true u = omega arith
    go false true = omega arith
    go false false = omega arith

-- ---- unmarked
pub unmarked_stays : (n : ℕ) (s : List ℕ) → mark s ≡ 0 → unmarked_by n s ≡ s
unmarked_stays zero s h = refl
unmarked_stays (suc n) s h = ap (λ (k : ℕ). unmarked_by n (drop k s)) h ∙ unmarked_stays n s h

unmarked_by_mark : (n : ℕ) (s : List ℕ) → length s ≤ n → mark (unmarked_by n s) ≡ 0
unmarked_by_mark zero [] h = refl
unmarked_by_mark zero (b ∷ s) h = absurd (not-suc-le-zero {n = 0} (omega arith))
unmarked_by_mark (suc n) s h = go (mark s) refl (λ r l. unmarked_by_mark n r l)
  where
    go : (m : ℕ) → mark s ≡ m → ((r : List ℕ) → length r ≤ n → mark (unmarked_by n r) ≡ 0) → mark (unmarked_by n (drop m s)) ≡ 0
    go zero e ih = ap mark (unmarked_stays n s e) ∙ e
    go (suc m) e ih = ih (drop (suc m) s) (omega (arith, length-drop (suc m) s))

pub unmarked_open : (s : List ℕ) → Open (unmarked s)
unfolding unmarked
unmarked_open s = mark_open (unmarked_by (length s) s) (unmarked_by_mark (length s) s (omega arith))

pub unmarked_same : (s : List ℕ) → Open s → unmarked s ≡ s
unfolding unmarked
unmarked_same s o = unmarked_stays (length s) s (open_mark s o)

-- ---- Open, of a text's front and of what is put together
open_front : (p q : List ℕ) → Open (p ++ q) → Open p
open_front [] q o = record { no_blank = refl; no_bom = refl }
open_front (a ∷ []) q o = record { no_blank = o.no_blank; no_bom = none (eqb a 239) }
  where
    none : (t : Bool) → (t && false) ≡ false
    none true = refl
    none false = refl
open_front (a ∷ b ∷ []) q o = record { no_blank = o.no_blank; no_bom = none (eqb a 239) (eqb b 187) }
  where
    none : (t u : Bool) → (t && (u && false)) ≡ false
    none true true = refl
    none true false = refl
    none false u = refl
open_front (a ∷ b ∷ c ∷ p) q o = record { no_blank = o.no_blank; no_bom = o.no_bom }

-- what follows begins with a byte below 127
pub open_before : (p : List ℕ) (b : ℕ) (q : List ℕ) → Open p → Open (b ∷ q) → ltb b 127 ≡ true → Open (p ++ (b ∷ q))
open_before [] b q o n low = n
open_before (a ∷ []) b q o n low = record { no_blank = o.no_blank; no_bom = none (eqb a 239) }
  where
    not-bom : eqb b 187 ≡ false
    not-bom = ne_eqb b 187 (λ e. not-suc-le-zero {n = 0} (omega (arith, ltb-true b 127 low)))

    none : (t : Bool) → (t && (eqb b 187 && eqb (get_or q 0 0) 191)) ≡ false
    none true = rw not-bom
    none false = refl
open_before (a ∷ c ∷ []) b q o n low = record { no_blank = o.no_blank; no_bom = none (eqb a 239) (eqb c 187) }
  where
    not-bom : eqb b 191 ≡ false
    not-bom = ne_eqb b 191 (λ e. not-suc-le-zero {n = 0} (omega (arith, ltb-true b 127 low)))

    none : (t u : Bool) → (t && (u && eqb b 191)) ≡ false
    none true true = not-bom
    none true false = refl
    none false u = refl
open_before (a ∷ c ∷ d ∷ p) b q o n low = record { no_blank = o.no_blank; no_bom = o.no_bom }

-- ---- a field
open_unled : (s : List ℕ) → Open s → unled s ≡ s
open_unled [] o = refl
open_unled (b ∷ s) o = rw o.no_blank

untrailed_front : (last : Bool) (s : List ℕ) → (r : List ℕ) × (s ≡ untrailed last s ++ r)
untrailed_front last [] = ([], refl)
untrailed_front last (b ∷ s) = go (edge last b && empty (untrailed last s)) (untrailed_front last s)
  where
    go : (t : Bool) → (r : List ℕ) × (s ≡ untrailed last s ++ r) → (r : List ℕ) × (b ∷ s ≡ cond t [] (b ∷ untrailed last s) ++ r)
    go true q = (b ∷ s, refl)
    go false q = (q.0, ap (λ (l : List ℕ). b ∷ l) q.1)

open_trimmed : (last : Bool) (s : List ℕ) → Open s → Open (trimmed last s)
open_trimmed last s o =
    let w = untrailed_front last s in
    let u : Open (untrailed last s) = open_front (untrailed last s) w.0 (rw w.1 at o) in
    rw (open_unled (untrailed last s) u) u

-- bytes above 126
abbrev high : ℕ → Bool
high b = not (ltb b 127)

unled_low : (s : List ℕ) → Free high s → Open (unled s)
unled_low [] h = record { no_blank = refl; no_bom = refl }
unled_low (b ∷ s) h = go (eqb b blank) refl (unled_low s h.1)
  where
    low : eqb b 239 ≡ false
    low = ne_eqb b 239 (λ e. true_false (ap (λ (k : ℕ). high k) e) h.0)

    go : (t : Bool) → eqb b blank ≡ t → Open (unled s) → Open (cond t (unled s) (b ∷ s))
    go true e o = o
    go false e o = record { no_blank = e; no_bom = rw low }

-- what stands between quotes has bytes up to 126 only
closes_low : (s : List ℕ) → closes s ≡ true → Free high (within s)
closes_low [] h = tt
closes_low (b ∷ s) h = go (eqb b quote) (λ e. closes_low s e) h
  where
    go : (t : Bool) → (closes s ≡ true → Free high (within s)) → cond t (empty s) (leb 32 b && (ltb b 127 && closes s)) ≡ true → Free high (cond t [] (b ∷ within s))
    go true ih e = tt
    go false ih e =
        let past = (and_both (leb 32 b) (ltb b 127 && closes s) e).1 in
        let both = and_both (ltb b 127) (closes s) past in
        (ap not both.0, ih both.1)

open_unquoted : (last : Bool) (s : List ℕ) → Open s → Open (unquoted last s)
open_unquoted last [] o = o
open_unquoted last (b ∷ s) o = go (eqb b quote && closes s) refl
  where
    go : (t : Bool) → (eqb b quote && closes s) ≡ t → Open (cond t (trimmed last (within s)) (b ∷ s))
    go true e = unled_low (untrailed last (within s)) (untrailed_free high last (within s) (closes_low s (and_both (eqb b quote) (closes s) e).1))
    go false e = o

open_zeros : (f : List ℕ) (n : ℕ) → Open f → Open (f ++ replicate n 48)
open_zeros f zero o = rw (append-nil f) o
open_zeros f (suc n) o = open_before f 48 (replicate n 48) o (record { no_blank = refl; no_bom = refl }) refl

open_repaired : (last : Bool) (want : ℕ) (f : List ℕ) → Open f → Open (repaired last want f)
unfolding repaired bared
open_repaired last want f o = open_zeros (bared last f) (lacking want (bared last f)) (open_unquoted last (trimmed last f) (open_trimmed last f o))

-- ---- a line
-- a tab or a semicolon
stop_is : (b : ℕ) → parts b ≡ true → (b ≡ tab) ⊎ (b ≡ semicolon)
stop_is b e = go (eqb b tab) refl e
  where
    go : (t : Bool) → eqb b tab ≡ t → (t || eqb b semicolon) ≡ true → (b ≡ tab) ⊎ (b ≡ semicolon)
    go true p q = inl (eqb-true b tab p)
    go false p q = inr (eqb-true b semicolon q)

stop_open : (b : ℕ) (q : List ℕ) → parts b ≡ true → Open (b ∷ q)
stop_open b q e = ⊎_elim (λ p. rw p (record { no_blank = refl; no_bom = refl })) (λ p. rw p (record { no_blank = refl; no_bom = refl })) (stop_is b e)

stop_low : (b : ℕ) → parts b ≡ true → ltb b 127 ≡ true
stop_low b e = ⊎_elim (λ p. rw p) (λ p. rw p) (stop_is b e)

open_fields : (row : Bool) (k : ℕ) (c : Cut) → Parted parts c → Open (joined c) → Open (joined (repairs row k c))
open_fields row k (lastly f) h o = open_repaired true (wanted row k) f o
open_fields row k (ended f stop c) h o =
    open_before (repaired false (wanted row k) f) stop (joined (repairs row (k + 1) c)) (open_repaired false (wanted row k) f (open_front f (stop ∷ joined c) o)) (stop_open stop _ h.1) (stop_low stop h.1)

open_line : (line : List ℕ) → Open line → Open (line_tidied line)
unfolding line_tidied
open_line line o = let c = cut tab semicolon line in open_fields (is_row c) 0 c (cut_parted tab semicolon line) (rw (cut_joins tab semicolon line) o)

-- ---- lines
open_above : (line rest : List ℕ) → Open line → Open (above line rest)
unfolding above
open_above line rest o = go (empty rest && bare line)
  where
    go : (t : Bool) → Open (cond t [] (line ++ (feed ∷ rest)))
    go true = record { no_blank = refl; no_bom = refl }
    go false = open_before line feed rest o (record { no_blank = refl; no_bom = refl }) refl

pub open_lines : (c : Cut) → Open (joined c) → Open (lines_tidied c)
open_lines (lastly line) o = open_above (line_tidied line) [] (open_line line o)
open_lines (ended line stop c) o = open_above (line_tidied line) (lines_tidied c) (open_line line (open_front line (stop ∷ joined c) o))
