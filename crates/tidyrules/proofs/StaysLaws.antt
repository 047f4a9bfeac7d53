-- Texts that `tidy` leaves as they are: lines that stay, each with its LF. No contract cites this file.
-- In order: a text of such lines; a line by its fields; a field.
use mathlib.Core.Path.{◌≡◌, refl, sym, ap, ap₂, subst, ◌∙◌}
use mathlib.Core.Bool.{Bool, true, false, cond, not, ◌&&◌, ◌||◌, false≢true}
use mathlib.Core.List.{List, [], ◌∷◌, ◌++◌, append_assoc, append-nil}
use Prim.Native.Nat.{ℕ, zero, suc, ◌+◌, ◌≤◌, ◌<◌}
use native.Mathlib.Nat.{not-suc-le-zero}
use native.Mathlib.Omega.{arith}
use borrow.Author.Tests.{ltb-true, eqb-true, ne_eqb, not-false, not-true, lt-ltb}
use lib.Dec.{ltb, eqb}
use lib.ListN.{length, replicate}
use Rattle.numbers.proofs.TestLaws.{and_both, both_and}
use Rattle.text.specs.Fields.{tab, feed}
use Rattle.tidyrules.specs.Cut.{Cut, lastly, ended, one_of, cut, joined}
use Rattle.tidyrules.specs.Fields.{blank, return, quote, empty, edge, unled, untrailed, trimmed, unquoted, decimals_of, short, lacking, filled, bared, repaired}
use Rattle.tidyrules.specs.Tidied.{semicolon, is_row, wanted, repairs, line_tidied, bare, above, lines_tidied, unmarked, tidied}
use Rattle.tidyrules.proofs.CutLaws.{Free, Quiet, Parted, cut_piece, free_append, joined_quiet}
use Rattle.tidyrules.proofs.LineLaws.{is_feed, parts, none, line_settled}
use Rattle.tidyrules.proofs.MarkLaws.{Open, open_before, unmarked_same}

-- ---- a text
-- a line that stays as it is, wherever it stands
pub record Steady (line : List ℕ) : Type 0 where
  pub free : Free is_feed line
  pub same : line_tidied line ≡ line
  pub some : bare line ≡ false
  pub begins : Open line

pub data Stays : List ℕ → Type 0 where
  nothing : Stays []
  line : {l rest : List ℕ} → Steady l → Stays rest → Stays (l ++ (feed ∷ rest))

-- the same text, otherwise put
pub stays_is : {s t : List ℕ} → s ≡ t → Stays s → Stays t
stays_is e h = subst Stays e h

pub stays_append : {s t : List ℕ} → Stays s → Stays t → Stays (s ++ t)
stays_append nothing k = k
stays_append {t = t} (line {l} {rest} h r) k = stays_is (sym (append_assoc l (feed ∷ rest) t)) (line h (stays_append r k))

stays_open : {s : List ℕ} → Stays s → Open s
stays_open nothing = record { no_blank = refl; no_bom = refl }
stays_open (line {l} {rest} h r) = open_before l feed rest h.begins (record { no_blank = refl; no_bom = refl }) refl

above_some : (l rest : List ℕ) → bare l ≡ false → above l rest ≡ l ++ (feed ∷ rest)
unfolding above
above_some l rest e = go (empty rest)
  where
    go : (t : Bool) → cond (t && bare l) [] (l ++ (feed ∷ rest)) ≡ l ++ (feed ∷ rest)
    go true = rw e
    go false = refl

stays_lines : {s : List ℕ} → Stays s → lines_tidied (cut feed feed s) ≡ s
stays_lines nothing = none
stays_lines (line {l} {rest} h r) =
    ap lines_tidied (cut_piece feed feed l feed rest h.free refl) ∙ ap₂ above h.same (stays_lines r) ∙ above_some l rest h.some

pub stays_tidied : {s : List ℕ} → Stays s → tidied s ≡ s
unfolding tidied
stays_tidied {s} h = ap (λ (t : List ℕ). lines_tidied (cut feed feed t)) (unmarked_same s (stays_open h)) ∙ stays_lines h

-- ---- bytes that tidy never touches: 35..126 but the semicolon
abbrev pub odd : ℕ → Bool
odd b = not (ltb 34 b && (ltb b 127 && not (eqb b semicolon)))

module _ (b : ℕ) (h : odd b ≡ false) where
  front : (34 < b) × (b < 127)
  front =
      let e = not-false _ h in
      let w = and_both (ltb 34 b) (ltb b 127 && not (eqb b semicolon)) e in
      (ltb-true 34 b w.0, ltb-true b 127 (and_both (ltb b 127) (not (eqb b semicolon)) w.1).0)

  not-semicolon : eqb b semicolon ≡ false
  not-semicolon =
      let e = not-false _ h in
      let w = and_both (ltb 34 b) (ltb b 127 && not (eqb b semicolon)) e in
      not-true _ (and_both (ltb b 127) (not (eqb b semicolon)) w.1).1

  not_low : (k : ℕ) → k ≤ 34 → eqb b k ≡ false
  not_low k l = ne_eqb b k (λ e. not-suc-le-zero {n = 0} (omega (arith, front.0)))

  not-high : (k : ℕ) → 127 ≤ k → eqb b k ≡ false
  not-high k l = ne_eqb b k (λ e. not-suc-le-zero {n = 0} (omega (arith, front.1)))

  odd-parts : parts b ≡ false
  odd-parts = rw (not_low tab (omega arith), not-semicolon)

  odd-feed : is_feed b ≡ false
  odd-feed = rw (not_low feed (omega arith))

  odd-edge : (last : Bool) → edge last b ≡ false
  odd-edge true = rw (not_low blank (omega arith), not_low return (omega arith))
  odd-edge false = rw (not_low blank (omega arith))

pub odd_free : (test : ℕ → Bool) → ((b : ℕ) → odd b ≡ false → test b ≡ false) → (s : List ℕ) → Free odd s → Free test s
odd_free test f [] h = tt
odd_free test f (b ∷ s) h = (f b h.0, odd_free test f s h.1)

-- ---- a field
even_untrailed : (last : Bool) (s : List ℕ) → Free odd s → untrailed last s ≡ s
even_untrailed last [] h = refl
even_untrailed last (b ∷ s) h = rw (odd-edge b h.0 last) (ap (λ (l : List ℕ). b ∷ l) (even_untrailed last s h.1))

even_unled : (s : List ℕ) → Free odd s → unled s ≡ s
even_unled [] h = refl
even_unled (b ∷ s) h = rw (not_low b h.0 blank (omega arith))

even_unquoted : (last : Bool) (s : List ℕ) → Free odd s → unquoted last s ≡ s
even_unquoted last [] h = refl
even_unquoted last (b ∷ s) h = rw (not_low b h.0 quote (omega arith))

even_bared : (last : Bool) (s : List ℕ) → Free odd s → bared last s ≡ s
unfolding bared
even_bared last s h = rw (even_untrailed last s h, even_unled s h) (even_unquoted last s h)

-- a field of such bytes that lacks no decimals
even_repaired : (last : Bool) (want : ℕ) (s : List ℕ) → Free odd s → lacking want s ≡ 0 → repaired last want s ≡ s
unfolding repaired
even_repaired last want s h e = ap (filled want) (even_bared last s h) ∙ ap (λ (n : ℕ). s ++ replicate n 48) e ∙ append-nil s

-- ---- a line by its fields
-- each field has such bytes only and lacks no decimals, and each stop is a tab or a semicolon; k is the first field's number
abbrev pub Even : (row : Bool) → (k : ℕ) → Cut → Type 0
Even row k (lastly f) = Free odd f × (lacking (wanted row k) f ≡ 0)
Even row k (ended f stop c) = Free odd f × (lacking (wanted row k) f ≡ 0) × (parts stop ≡ true) × Even row (k + 1) c

stop_feed : (b : ℕ) → parts b ≡ true → is_feed b ≡ false
stop_feed b e = go (eqb b feed) refl
  where
    go : (t : Bool) → eqb b feed ≡ t → is_feed b ≡ false
    go true q = absurd (false≢true (sym (ap parts (eqb-true b feed q)) ∙ e))
    go false q = rw q

module _ (row : Bool) where
  even-repairs : (k : ℕ) (c : Cut) → Even row k c → repairs row k c ≡ c
  even-repairs k (lastly f) h = ap lastly (even_repaired true (wanted row k) f h.0 h.1)
  even-repairs k (ended f stop c) h = ap₂ (λ (g : List ℕ) (d : Cut). ended g stop d) (even_repaired false (wanted row k) f h.0 h.1) (even-repairs (k + 1) c h.3)

  even-parted : (k : ℕ) (c : Cut) → Even row k c → Parted parts c
  even-parted k (lastly f) h = odd_free parts odd-parts f h.0
  even-parted k (ended f stop c) h = (odd_free parts odd-parts f h.0, h.2, even-parted (k + 1) c h.3)

  even-quiet : (k : ℕ) (c : Cut) → Even row k c → Quiet is_feed c
  even-quiet k (lastly f) h = odd_free is_feed odd-feed f h.0
  even-quiet k (ended f stop c) h = (odd_free is_feed odd-feed f h.0, stop_feed stop h.2, even-quiet (k + 1) c h.3)

-- the first field begins with a byte of these
abbrev pub first : Cut → List ℕ
first (lastly f) = f
first (ended f stop c) = f

begun : (f rest : List ℕ) → Free odd f → 0 < length f → (bare (f ++ rest) ≡ false) × Open (f ++ rest)
begun [] rest h k = absurd (not-suc-le-zero {n = 0} (omega arith))
begun (b ∷ f) rest h k = (rw (odd-parts b h.0), record { no_blank = not_low b h.0 blank (omega arith); no_bom = rw (not-high b h.0 239 (omega arith)) })

pub even_steady : (c : Cut) → Even (is_row c) 0 c → 0 < length (first c) → Steady (joined c)
even_steady c h k =
    let b = start c h k in
    record {
      free = joined_quiet is_feed c (even-quiet (is_row c) 0 c h);
      same = line_settled c (even-parted (is_row c) 0 c h) (even-repairs (is_row c) 0 c h);
      some = b.0;
      begins = b.1;
    }
  where
    start : (d : Cut) → Even (is_row d) 0 d → 0 < length (first d) → (bare (joined d) ≡ false) × Open (joined d)
    start (lastly f) h k = subst (λ (l : List ℕ). (bare l ≡ false) × Open l) (append-nil f) (begun f [] h.0 k)
    start (ended f stop d) h k = begun f (stop ∷ joined d) h.0 k
