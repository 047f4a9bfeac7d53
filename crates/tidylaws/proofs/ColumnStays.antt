-- A line as the calculator writes it, by its head and its columns, is one that `tidy` leaves as it is: its fields have digits, signs and points only, and no
-- decimals are missing. No contract cites this file. In order: a field's bytes; its decimals; the fields of a line; the line.
use mathlib.Core.Path.{◌≡◌, refl, sym, ap, subst, ◌∙◌}
use mathlib.Core.Bool.{Bool, true, false, cond, not}
use mathlib.Core.List.{List, [], ◌∷◌, ◌++◌, append_assoc}
use Prim.Native.Nat.{ℕ, zero, suc, ◌+◌, ◌/◌, ◌%◌, ◌^◌, ◌-◌, ◌<◌}
use native.Mathlib.Nat.{not-suc-le-zero}
use native.Mathlib.Omega.{arith}
use borrow.Author.Tests.{ne_eqb, lt-ltb}
use lib.Dec.{eqb}
use lib.IntN.{ℤ, pos, negsuc}
use lib.ListN.{length, get_or, drop}
use Rattle.types.specs.LineColumns.{Column, number, signed, share, power, flow, factor}
use Rattle.text.specs.Fields.{tab, feed, dash, is_digit, digits}
use Rattle.text.specs.Written.{decimal, decimal_ℤ, share_text}
use Rattle.text.specs.Point.{point, last_digits, pointed, pointed_ℤ}
use Rattle.text.proofs.NumberTrip.{digit_range, digits_cons, is_digit_lem, decimal_digits, decimal_some}
use Rattle.text.proofs.PointLaws.{last_long}
use Rattle.columns.specs.declared.Head.{Head}
use Rattle.columns.specs.declared.Head.TheVariants.{Lettered, Indexed, Bare}
use Rattle.columns.specs.Columns.{power_decimals, factor_decimals}
use Rattle.columns.specs.ColumnText.{field_text, fields_ended, index_text, head_text, columns_text}
use Rattle.tidyrules.specs.Cut.{Cut, lastly, ended, joined, ended_by}
use Rattle.tidyrules.specs.Fields.{digits_only, decimals_past, decimals_of, short, lacking}
use Rattle.tidyrules.specs.Tidied.{semicolon, is_row, wanted}
use Rattle.tidyrules.proofs.CutLaws.{Free, free_append}
use Rattle.tidyrules.proofs.LineLaws.{parts}
use Rattle.tidyrules.proofs.StaysLaws.{odd, Stays, nothing, line, stays_is, Even, first, even_steady}

-- ---- a field's bytes
digit_even : (b : ℕ) → is_digit b ≡ true → odd b ≡ false
digit_even b e =
    let r = digit_range b e in
    rw (lt-ltb 34 b (omega arith), lt-ltb b 127 (omega arith), ne_eqb b semicolon (λ q. not-suc-le-zero {n = 0} (omega arith)))

digits_even : (s : List ℕ) → digits s ≡ s → Free odd s
digits_even [] e = tt
digits_even (b ∷ s) e = let k = digits_cons b s e in (digit_even b k.0, digits_even s k.1)

decimal_even : (n : ℕ) → Free odd (decimal n)
decimal_even n = digits_even (decimal n) (decimal_digits n)

last_digit : (k n : ℕ) → is_digit (48 + n / 10 ^ k % 10) ≡ true
last_digit k n = is_digit_lem (n / 10 ^ k % 10) (omega arith)

last_even : (k n : ℕ) → Free odd (last_digits k n)
unfolding last_digits
last_even zero n = tt
last_even (suc k) n = (digit_even (48 + n / 10 ^ k % 10) (last_digit k n), last_even k n)

pointed_even : (k n : ℕ) → Free odd (pointed k n)
unfolding pointed
pointed_even k n = free_append odd (decimal (n / 10 ^ k)) (point ∷ last_digits k n) (decimal_even (n / 10 ^ k)) (refl, last_even k n)

pointed_ℤ_even : (k : ℕ) (z : ℤ) → Free odd (pointed_ℤ k z)
unfolding pointed_ℤ
pointed_ℤ_even k (pos n) = pointed_even k n
pointed_ℤ_even k (negsuc n) = (refl, pointed_even k (suc n))

decimal_ℤ_even : (z : ℤ) → Free odd (decimal_ℤ z)
unfolding decimal_ℤ
decimal_ℤ_even (pos n) = decimal_even n
decimal_ℤ_even (negsuc n) = (refl, decimal_even (suc n))

share_even : (z : ℤ) → Free odd (share_text z)
share_even (pos n) = decimal_even n
share_even (negsuc n) = (refl, tt)

field_even : (c : Column) (z : ℤ) → Free odd (field_text c z)
unfolding field_text
field_even number z = decimal_ℤ_even z
field_even signed z = decimal_ℤ_even z
field_even share z = share_even z
field_even power z = pointed_ℤ_even power_decimals z
field_even flow z = pointed_ℤ_even power_decimals z
field_even factor z = pointed_ℤ_even factor_decimals z

-- ---- its decimals
last_only : (k n : ℕ) → digits_only (last_digits k n) ≡ true
unfolding last_digits
last_only zero n = refl
last_only (suc k) n = rw (last_digit k n) (last_only k n)

past_digits_lem : (ds : List ℕ) (k n : ℕ) → digits ds ≡ ds → decimals_past true (ds ++ (point ∷ last_digits k n)) ≡ k
past_digits_lem [] k n e = rw (last_only k n) (last_long k n)
past_digits_lem (d ∷ ds) k n e = let w = digits_cons d ds e in rw w.0 (past_digits_lem ds k n w.1)

past_pointed : (ds : List ℕ) (k n : ℕ) → digits ds ≡ ds → 0 < length ds → decimals_past false (ds ++ (point ∷ last_digits k n)) ≡ k
past_pointed [] k n e h = absurd (not-suc-le-zero {n = 0} (omega arith))
past_pointed (d ∷ ds) k n e h = let w = digits_cons d ds e in rw w.0 (past_digits_lem ds k n w.1)

of_pointed : (ds : List ℕ) (k n : ℕ) → digits ds ≡ ds → 0 < length ds → decimals_of (ds ++ (point ∷ last_digits k n)) ≡ k
of_pointed [] k n e h = absurd (not-suc-le-zero {n = 0} (omega arith))
of_pointed (d ∷ ds) k n e h =
    let w = digits_cons d ds e in
    let r = digit_range d w.0 in
    rw (ne_eqb d dash (λ q. not-suc-le-zero {n = 0} (omega arith))) (past_pointed (d ∷ ds) k n e h)

pointed_decimals : (k : ℕ) (z : ℤ) → decimals_of (pointed_ℤ k z) ≡ k
unfolding pointed_ℤ pointed
pointed_decimals k (pos n) = of_pointed (decimal (n / 10 ^ k)) k n (decimal_digits (n / 10 ^ k)) (decimal_some (n / 10 ^ k))
pointed_decimals k (negsuc n) = past_pointed (decimal (suc n / 10 ^ k)) k (suc n) (decimal_digits (suc n / 10 ^ k)) (decimal_some (suc n / 10 ^ k))

-- the decimals that a column's field has; 0 where it has no point
abbrev pub decimals_by : Column → ℕ
decimals_by number = 0
decimals_by signed = 0
decimals_by share = 0
decimals_by power = power_decimals
decimals_by flow = power_decimals
decimals_by factor = factor_decimals

short_none : (has : ℕ) → short 0 has ≡ 0
short_none has = go (eqb has 0)
  where
    go : (t : Bool) → ◌≡◌ {A = ℕ} (cond t 0 (0 - has)) 0
    go true = refl
    go false = omega arith

field_full : (c : Column) (z : ℤ) → lacking (decimals_by c) (field_text c z) ≡ 0
unfolding field_text
field_full number z = short_none (decimals_of (decimal_ℤ z))
field_full signed z = short_none (decimals_of (decimal_ℤ z))
field_full share z = short_none (decimals_of (share_text z))
field_full power z = ap (short power_decimals) (pointed_decimals power_decimals z)
field_full flow z = ap (short power_decimals) (pointed_decimals power_decimals z)
field_full factor z = ap (short factor_decimals) (pointed_decimals factor_decimals z)

-- ---- the fields of a line
-- the fields of columns as pieces, the last one's LF left out
abbrev fields_cut : (sep : ℕ) → Column → List Column → (zs : List ℤ) → Cut
fields_cut sep c [] zs = lastly (field_text c (get_or zs 0 (pos 0)))
fields_cut sep c (d ∷ cs) zs = ended (field_text c (get_or zs 0 (pos 0))) sep (fields_cut sep d cs (drop 1 zs))

fields_joined : (sep : ℕ) (c : Column) (cs : List Column) (zs : List ℤ) → joined (fields_cut sep c cs zs) ++ (feed ∷ []) ≡ fields_ended sep feed (c ∷ cs) zs
unfolding fields_ended
fields_joined sep c [] zs = refl
fields_joined sep c (d ∷ cs) zs =
    append_assoc (field_text c (get_or zs 0 (pos 0))) (sep ∷ joined (fields_cut sep d cs (drop 1 zs))) (feed ∷ [])
    ∙ ap (λ (l : List ℕ). field_text c (get_or zs 0 (pos 0)) ++ (sep ∷ l)) (fields_joined sep d cs (drop 1 zs))

-- each column has the decimals that are wanted of its field, the first of which is field k
abbrev pub Suits : (row : Bool) → (k : ℕ) → List Column → Type 0
Suits row k [] = Unit {0}
Suits row k (c ∷ cs) = (wanted row k ≡ decimals_by c) × Suits row (k + 1) cs

fields_even : (row : Bool) (k sep : ℕ) (c : Column) (cs : List Column) (zs : List ℤ) → parts sep ≡ true → Suits row k (c ∷ cs) → Even row k (fields_cut sep c cs zs)
fields_even row k sep c [] zs p h =
    (field_even c (get_or zs 0 (pos 0)), ap (λ (w : ℕ). lacking w (field_text c (get_or zs 0 (pos 0)))) h.0 ∙ field_full c (get_or zs 0 (pos 0)))
fields_even row k sep c (d ∷ cs) zs p h =
    (field_even c (get_or zs 0 (pos 0)), ap (λ (w : ℕ). lacking w (field_text c (get_or zs 0 (pos 0)))) h.0 ∙ field_full c (get_or zs 0 (pos 0)), p, fields_even row (k + 1) sep d cs (drop 1 zs) p h.1)

fields_ended_lem : (b sep : ℕ) (c : Column) (cs : List Column) (zs : List ℤ) → eqb sep b ≡ false → ended_by b (fields_cut sep c cs zs) ≡ false
fields_ended_lem b sep c [] zs e = refl
fields_ended_lem b sep c (d ∷ cs) zs e = rw e (fields_ended_lem b sep d cs (drop 1 zs) e)

-- ---- the line
-- the byte that parts the fields of a row of the planners' sheet, and that of any other line
abbrev pub sep_for : (row : Bool) → ℕ
sep_for true = semicolon
sep_for false = tab

sep_parts : (row : Bool) → parts (sep_for row) ≡ true
sep_parts true = refl
sep_parts false = refl

-- the fields of a line's head, before the others
abbrev head_cut : (sep : ℕ) → Head → Cut → Cut
head_cut sep (Lettered letter) c = ended (letter ∷ []) sep c
head_cut sep (Indexed letter i) c = ended (letter ∷ []) sep (ended (decimal i) sep c)
head_cut sep (Bare i) c = ended (decimal i) sep c

-- how many fields a head has
abbrev pub head_fields : Head → ℕ
head_fields (Lettered letter) = 1
head_fields (Indexed letter i) = 2
head_fields (Bare i) = 1

-- a head's letter is no byte that tidy touches; a row of the planners' sheet has no letter before its index
abbrev pub HeadEven : (row : Bool) → Head → Type 0
HeadEven row (Lettered letter) = odd letter ≡ false
HeadEven row (Indexed letter i) = (odd letter ≡ false) × (row ≡ false)
HeadEven row (Bare i) = Unit {0}

head_joined : (sep : ℕ) (head : Head) (c : Cut) → joined (head_cut sep head c) ≡ head_text sep head ++ joined c
unfolding head_text index_text
head_joined sep (Lettered letter) c = refl
head_joined sep (Indexed letter i) c = ap (λ (l : List ℕ). letter ∷ (sep ∷ l)) (sym (append_assoc (decimal i) (sep ∷ []) (joined c)))
head_joined sep (Bare i) c = sym (append_assoc (decimal i) (sep ∷ []) (joined c))

head_row : (row : Bool) (head : Head) (c : Cut) → ended_by (sep_for (not row)) c ≡ false → is_row (head_cut (sep_for row) head c) ≡ row
head_row true (Lettered letter) c e = rw e
head_row true (Indexed letter i) c e = rw e
head_row true (Bare i) c e = rw e
head_row false (Lettered letter) c e = rw e
head_row false (Indexed letter i) c e = rw e
head_row false (Bare i) c e = rw e

-- nothing is wanted of a line's first field, nor of any field of a line of tabs
first_full : (row : Bool) (f : List ℕ) → lacking (wanted row 0) f ≡ 0
first_full true f = short_none (decimals_of f)
first_full false f = short_none (decimals_of f)

head_even : (row : Bool) (head : Head) (c : Cut) → HeadEven row head → Even row (head_fields head) c → Even row 0 (head_cut (sep_for row) head c)
head_even row (Lettered letter) c h e = ((h, tt), first_full row (letter ∷ []), sep_parts row, e)
head_even row (Indexed letter i) c h e = ((h.0, tt), first_full row (letter ∷ []), sep_parts row, (decimal_even i, index-full, sep_parts row, e))
  where
    index-full : lacking (wanted row 1) (decimal i) ≡ 0
    index-full = ap (λ (r : Bool). lacking (wanted r 1) (decimal i)) h.1 ∙ short_none (decimals_of (decimal i))
head_even row (Bare i) c h e = (decimal_even i, first_full row (decimal i), sep_parts row, e)

head_some : (sep : ℕ) (head : Head) (c : Cut) → 0 < length (first (head_cut sep head c))
head_some sep (Lettered letter) c = omega arith
head_some sep (Indexed letter i) c = omega arith
head_some sep (Bare i) c = decimal_some i

module _ (row : Bool) (head : Head) (c : Column) (cs : List Column) (zs : List ℤ) where
  pub columns_stay : HeadEven row head → Suits row (head_fields head) (c ∷ cs) → Stays (columns_text (sep_for row) head (c ∷ cs) zs)
  unfolding columns_text
  columns_stay h k =
      let sep = sep_for row in
      let fields = fields_cut sep c cs zs in
      let all = head_cut sep head fields in
      let is : is_row all ≡ row = head_row row head fields (others row) in
      let even : Even row 0 all = head_even row head fields h (fields_even row (head_fields head) sep c cs zs (sep_parts row) k) in
      let whole : joined all ++ (feed ∷ []) ≡ head_text sep head ++ fields_ended sep feed (c ∷ cs) zs =
      ap (λ (l : List ℕ). l ++ (feed ∷ [])) (head_joined sep head fields) ∙ append_assoc (head_text sep head) (joined fields) (feed ∷ []) ∙ ap (λ (l : List ℕ). head_text sep head ++ l) (fields_joined sep c cs zs)
      in
      stays_is whole (line (even_steady all (subst (λ (r : Bool). Even r 0 all) (sym is) even) (head_some sep head fields)) nothing)
    where
      others : (r : Bool) → ended_by (sep_for (not r)) (fields_cut (sep_for r) c cs zs) ≡ false
      others true = fields_ended_lem tab semicolon c cs zs refl
      others false = fields_ended_lem semicolon tab c cs zs refl
