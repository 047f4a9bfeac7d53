-- A good field ends in one byte: what reads as a field before one byte does not read as one before another. So a line that is good by a list of columns
-- is wrong by any shorter list. No contract cites this file.
-- In order: the byte that ends a field; fields and a shorter list; lines.
use mathlib.Core.Path.{◌≡◌, refl, sym, ap, ◌∙◌}
use mathlib.Core.Bool.{Bool, true, false, cond, ◌&&◌}
use mathlib.Core.List.{List, [], ◌∷◌, ◌++◌}
use Prim.Native.Nat.{ℕ, zero, suc, ◌+◌, ◌*◌, ◌-◌, ◌≤◌, ◌<◌}
use native.Mathlib.Nat.{add-zero}
use native.Mathlib.Omega.{arith}
use lib.Dec.{eqb, leb, ltb}
use lib.IntN.{ℤ, pos}
use lib.ListN.{length, get_or, drop, length-append, drop_of_length-le}
use borrow.Author.Tests.{leb-true, eqb-true, eqb-false}
use Rattle.numbers.specs.Ints.{minus}
use Rattle.numbers.proofs.TestLaws.{and_both}
use Rattle.types.specs.LineColumns.{Column, number, signed, share, power, flow, factor}
use Rattle.text.specs.Fields.{Parsed, feed, dash, is_digit, digits, value, plain, number_at, positive, negative, signed_at, share_at, with_number}
use Rattle.text.specs.Point.{point, decimals_at, whole_most, after_whole, point_at, negated, signed_point_at}
use Rattle.text.specs.Line.{ended}
use Rattle.text.proofs.NumberTrip.{zero_one, value_is, no_value}
use Rattle.columns.specs.declared.Head.{Head}
use Rattle.columns.specs.Columns.{field_at, Values, values, wrong, push, onward, stop_of, fields_at}
use Rattle.columns.specs.ColumnText.{field_text, fields_ended}
use Rattle.columns.specs.ColumnLine.{head_at, to_end, rest_at, after_number, columns_line}
use Rattle.columns.proofs.ColumnTrip.{Ends, feed_ends, no_values, fields_read}
use Rattle.std.specs.Prelude.{Ok, Err}

-- ---- the byte that ends a field
-- the byte after the digits at a place
abbrev past_digits : (line : List ℕ) → (at : ℕ) → ℕ
past_digits line at = get_or (drop at line) (length (digits (drop at line))) 0

-- the byte after a point and its k decimals
abbrev past_point : (k : ℕ) → (line : List ℕ) → (at : ℕ) → ℕ
past_point k line at = with_number (number_at line at point) 0 (λ v next. get_or line (next + k) 0)

-- the byte that ends the field of a column
abbrev end_byte : Column → (line : List ℕ) → (at : ℕ) → ℕ
end_byte number line at = past_digits line at
end_byte signed line at = cond (eqb (get_or line at 0) dash) (past_digits line (at + 1)) (past_digits line at)
end_byte share line at = cond (eqb (get_or line at 0) dash) (get_or line (at + 1) 0) (past_digits line at)
end_byte power line at = past_point 3 line at
end_byte flow line at = cond (eqb (get_or line at 0) dash) (past_point 3 line (at + 1)) (past_point 3 line at)
end_byte factor line at = cond (eqb (get_or line at 0) dash) (past_point 5 line (at + 1)) (past_point 5 line at)

-- k decimals that were read end in `stop`
decimals_end : (minus : Bool) (line : List ℕ) (stop k at w v m : ℕ) → decimals_at minus k line at w stop ≡ Ok (v, m) → get_or line (at + k) 0 ≡ stop
unfolding decimals_at
decimals_end minus line stop zero at w v m e = ap (λ (j : ℕ). get_or line j 0) (add-zero at) ∙ go (minus && eqb w 0) (eqb (get_or line at 0) stop) refl e
  where
    go : (t u : Bool) → eqb (get_or line at 0) stop ≡ u → ◌≡◌ {A = Parsed ℕ} (cond t (Err (at - 1)) (cond u (Ok (w, at + 1)) (Err at))) (Ok (v, m)) → get_or line at 0 ≡ stop
    go true u q e = absurd (no_value (at - 1) v m e)
    go false true q e = eqb-true _ _ q
    go false false q e = absurd (no_value at v m e)
decimals_end minus line stop (suc k) at w v m e = go (decimals_end minus line stop k (at + 1) (w * 10 + (get_or line at 0 - 48)) v m) (is_digit (get_or line at 0)) e
  where
    go : (decimals_at minus k line (at + 1) (w * 10 + (get_or line at 0 - 48)) stop ≡ Ok (v, m) → get_or line (at + 1 + k) 0 ≡ stop)
        → (t : Bool) → ◌≡◌ {A = Parsed ℕ} (cond t (decimals_at minus k line (at + 1) (w * 10 + (get_or line at 0 - 48)) stop) (Err at)) (Ok (v, m)) → get_or line (at + suc k) 0 ≡ stop
    go ih true e = let j : at + suc k ≡ at + 1 + k = omega arith in ap (λ (j : ℕ). get_or line j 0) j ∙ ih e
    go ih false e = absurd (no_value at v m e)

module _ (line : List ℕ) (stop : ℕ) where
  number-end : (at v next : ℕ) → number_at line at stop ≡ Ok (v, next) → past_digits line at ≡ stop
  unfolding number_at
  number-end at v next e =
      let d = digits (drop at line) in
      let both = and_both (plain d) _ (sure (value 0 d) (at + length d + 1) _ _ e) in
      eqb-true (past_digits line at) stop (and_both (ltb (length d) (length (drop at line))) _ both.1).1
    where
      sure : (w m p : ℕ) (t : Bool) → ◌≡◌ {A = Parsed ℕ} (cond t (Ok (w, m)) (Err p)) (Ok (v, next)) → t ≡ true
      sure w m p true e = refl
      sure w m p false e = let x : ◌≡◌ {A = ℕ} 0 1 = cc in absurd (zero_one x)

  module _ (at : ℕ) (z : ℤ) (next : ℕ) where
    positive-end : (n : Parsed ℕ) → number_at line at stop ≡ n → positive n ≡ Ok (z, next) → past_digits line at ≡ stop
    positive-end (Ok (v, m)) q e = number-end at v m q
    positive-end (Err place) q e = absurd (no_value place z next e)

    negative-end : (n : Parsed ℕ) → number_at line (at + 1) stop ≡ n → negative (get_or line (at + 1) 0) (at + 1) n ≡ Ok (z, next) → past_digits line (at + 1) ≡ stop
    negative-end (Ok (v, m)) q e = number-end (at + 1) v m q
    negative-end (Err place) q e = absurd (no_value _ z next e)

    -- a number with its point, and a signed one
    module _ (k : ℕ) where
      point-end : (minus : Bool) (p v m : ℕ) → point_at minus k line p stop ≡ Ok (v, m) → past_point k line p ≡ stop
      unfolding point_at
      point-end minus p v m e = go (number_at line p point) refl e
        where
          by : (w q : ℕ) (t : Bool) → ◌≡◌ {A = Parsed ℕ} (cond t (decimals_at minus k line q w stop) (Err (p + whole_most k))) (Ok (v, m)) → get_or line (q + k) 0 ≡ stop
          by w q true e = decimals_end minus line stop k q w v m e
          by w q false e = absurd (no_value (p + whole_most k) v m e)

          go : (n : Parsed ℕ) → number_at line p point ≡ n → after_whole minus k line p stop n ≡ Ok (v, m) → with_number n 0 (λ v next. get_or line (next + k) 0) ≡ stop
          go (Err place) q e = absurd (no_value _ v m e)
          go (Ok (w, q)) r e = by w q (leb (q - p) (whole_most k + 1)) e

      plus-end : (n : Parsed ℕ) → point_at false k line at stop ≡ n → positive n ≡ Ok (z, next) → past_point k line at ≡ stop
      plus-end (Ok (v, m)) q e = point-end false at v m q
      plus-end (Err place) q e = absurd (no_value place z next e)

      minus-end : (n : Parsed ℕ) → point_at true k line (at + 1) stop ≡ n → negated n ≡ Ok (z, next) → past_point k line (at + 1) ≡ stop
      minus-end (Ok (v, m)) q e = point-end true (at + 1) v m q
      minus-end (Err place) q e = absurd (no_value place z next e)

      signed-end : signed_point_at k line at stop ≡ Ok (z, next) → cond (eqb (get_or line at 0) dash) (past_point k line (at + 1)) (past_point k line at) ≡ stop
      unfolding signed_point_at
      signed-end e = go (eqb (get_or line at 0) dash) e
        where
          go : (t : Bool) → cond t (negated (point_at true k line (at + 1) stop)) (positive (point_at false k line at stop)) ≡ Ok (z, next) → cond t (past_point k line (at + 1)) (past_point k line at) ≡ stop
          go true e = minus-end (point_at true k line (at + 1) stop) refl e
          go false e = plus-end (point_at false k line at stop) refl e

    field_end : (c : Column) → field_at c line at stop ≡ Ok (z, next) → end_byte c line at ≡ stop
    unfolding field_at signed_at share_at
    field_end number e = positive-end (number_at line at stop) refl e
    field_end signed e = go (eqb (get_or line at 0) dash) e
      where
        go : (t : Bool) → cond t (negative (get_or line (at + 1) 0) (at + 1) (number_at line (at + 1) stop)) (positive (number_at line at stop)) ≡ Ok (z, next)
            → cond t (past_digits line (at + 1)) (past_digits line at) ≡ stop
        go true e = negative-end (number_at line (at + 1) stop) refl e
        go false e = positive-end (number_at line at stop) refl e
    field_end share e = go (eqb (get_or line at 0) dash) e
      where
        alone : (t : Bool) → eqb (get_or line (at + 1) 0) stop ≡ t → ◌≡◌ {A = Parsed ℤ} (cond t (Ok (minus 1, at + 2)) (Err (at + 1))) (Ok (z, next)) → get_or line (at + 1) 0 ≡ stop
        alone true q e = eqb-true (get_or line (at + 1) 0) stop q
        alone false q e = absurd (no_value (at + 1) z next e)

        go : (t : Bool) → ◌≡◌ {A = Parsed ℤ} (cond t (cond (eqb (get_or line (at + 1) 0) stop) (Ok (minus 1, at + 2)) (Err (at + 1))) (positive (number_at line at stop))) (Ok (z, next))
            → cond t (get_or line (at + 1) 0) (past_digits line at) ≡ stop
        go true e = alone (eqb (get_or line (at + 1) 0) stop) refl e
        go false e = positive-end (number_at line at stop) refl e
    field_end power e = plus-end 3 (point_at false 3 line at stop) refl e
    field_end flow e = signed-end 3 e
    field_end factor e = signed-end 5 e

-- ---- fields and a shorter list
record First (s : Parsed ℤ) (rest : ℕ → Values) (next : ℕ) : Type 0 where
  z : ℤ
  at : ℕ
  is : s ≡ Ok (z, at)
  zs : List ℤ
  then : rest at ≡ values zs next

first_whole : (s : Parsed ℤ) (rest : ℕ → Values) (zs : List ℤ) (next : ℕ) → onward s rest ≡ values zs next → First s rest next
first_whole (Err place) rest zs next e = absurd (no_values place zs next e)
first_whole (Ok (z, at)) rest zs next e = go (rest at) refl e
  where
    go : (v : Values) → rest at ≡ v → push z v ≡ values zs next → First (Ok (z, at)) rest next
    go (wrong place) q e = absurd (no_values place zs next e)
    go (values ys m) q e = let same : m ≡ next = cc in record { z = z; at = at; is = refl; zs = ys; then = q ∙ ap (values ys) same }

whole_at : (z y : ℤ) (m n : ℕ) → ◌≡◌ {A = Parsed ℤ} (Ok (z, m)) (Ok (y, n)) → m ≡ n
whole_at z y m n e = (value_is z y m n e).1

module _ (sep : ℕ) (ends : Ends sep) (other : eqb sep feed ≡ false) (line : List ℕ) (d : Column) (ds : List Column) where
  shorter : (cs : List Column) (at : ℕ) (zs : List ℤ) (n : ℕ) → fields_at sep feed (cs ++ (d ∷ ds)) line at ≡ values zs n
      → (ys : List ℤ) (m : ℕ) → fields_at sep feed cs line at ≡ values ys m → ended line m ≡ true → ⊥
  unfolding fields_at fields_ended
  shorter [] at zs n long ys m short last =
      let same : at ≡ m = cc in
      let past : length line ≤ at = omega (arith, leb-true (length line) m last) in
      let none : drop at line ≡ [] = drop_of_length-le line past in
      let here = (fields_read sep feed ends feed_ends (d ∷ ds) line at zs n long).here in
      let text = fields_ended sep feed (d ∷ ds) zs in
      let some : 0 < length text = omega (arith, length-append (field_text d (get_or zs 0 (pos 0))) (stop_of sep feed ds ∷ fields_ended sep feed ds (drop 1 zs))) in
      omega (arith, some, ap length (sym none ∙ here), length-append text (drop n line))
  shorter (c ∷ []) at zs n long ys m short last =
      let f = first_whole (field_at c line at sep) _ zs n long in
      let g = first_whole (field_at c line at feed) _ ys m short in
      eqb-false sep feed other (sym (field_end line sep at f.z f.at c f.is) ∙ field_end line feed at g.z g.at c g.is)
  shorter (c ∷ e ∷ cs) at zs n long ys m short last =
      let f = first_whole (field_at c line at sep) _ zs n long in
      let g = first_whole (field_at c line at sep) _ ys m short in
      let same : f.at ≡ g.at = whole_at f.z g.z f.at g.at (sym f.is ∙ g.is) in
      shorter (e ∷ cs) f.at f.zs n f.then g.zs m (ap (λ (p : ℕ). fields_at sep feed (e ∷ cs) line p) same ∙ g.then) last

  -- ---- lines
  ends_whole : (v : Values) (zs : List ℤ) (n : ℕ) → to_end line v ≡ values zs n → (v ≡ values zs n) × (ended line n ≡ true)
  ends_whole (wrong place) zs n e = absurd (no_values place zs n e)
  ends_whole (values ys m) zs n e = go (ended line m) refl e
    where
      go : (t : Bool) → ended line m ≡ t → cond t (values ys m) (wrong m) ≡ values zs n → (values ys m ≡ values zs n) × (ended line n ≡ true)
      go false q e = absurd (no_values m zs n e)
      go true q e = let same : m ≡ n = cc in (e, ap (ended line) (sym same) ∙ q)

  module _ (cs : List Column) (zs ys : List ℤ) (n m : ℕ) where
    rest-shorter : (at : ℕ) → rest_at sep (cs ++ (d ∷ ds)) line at ≡ values zs n → rest_at sep cs line at ≡ values ys m → ⊥
    unfolding rest_at
    rest-shorter at long short =
        let l = ends_whole (fields_at sep feed (cs ++ (d ∷ ds)) line at) zs n long in
        let s = ends_whole (fields_at sep feed cs line at) ys m short in
        shorter cs at zs n l.0 ys m s.0 s.1

    pub line_shorter : (head : Head) → columns_line sep head (cs ++ (d ∷ ds)) line ≡ values zs n → columns_line sep head cs line ≡ values ys m → ⊥
    unfolding columns_line
    line_shorter head long short = go (head_at sep head line) long short
      where
        go : (v : Parsed ℕ) → after_number v (λ at. rest_at sep (cs ++ (d ∷ ds)) line at) ≡ values zs n → after_number v (λ at. rest_at sep cs line at) ≡ values ys m → ⊥
        go (Err place) long short = no_values place zs n long
        go (Ok (v, at)) long short = rest-shorter at long short
