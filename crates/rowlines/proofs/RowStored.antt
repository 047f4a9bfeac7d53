-- The loop over rows' lines: i rows are in their places, each with its stretch of the factors, as lines of any section are stored (`Stored`). No contract cites this file.
use Prim.Native.Nat.{ℕ, ◌+◌, ◌*◌, ◌-◌, ◌≤◌, ◌<◌}
use mathlib.Core.Path.{◌≡◌, refl, sym, ap, subst, ◌∙◌}
use mathlib.Core.List.{List, ◌++◌}
use native.Mathlib.Omega.{arith}
use lib.IntN.{ℤ}
use lib.ListN.{length, set, take, drop, length-set}
use lib.Seq.{length-paste}
use Rattle.numbers.proofs.ListLaws.{stretch_left}
use Rattle.text.specs.Line.{line_at, after, Line, refusal_of}
use Rattle.tablerules.proofs.StretchLaws.{stretch_end}
use Rattle.lines.specs.Lines.{RowLine, row}
use Rattle.sections.specs.Section.{Section, read, fault, lines_at}
use Rattle.rowlines.specs.Rows.{cut}
use Rattle.rowlines.proofs.RowLaws.{cut_long, cut_set}
use Rattle.sections.proofs.StoredLaws.{Stored, stored_none, stored_all, stored_bad, stored_more}
use Rattle.std.specs.Prelude.{Ok, Err}
use Rattle.text.specs.declared.LineFault.{LineFault}

-- n items of f from s on are lent, and come back as ys
abbrev back : (f ys : List ℤ) (s n : ℕ) → List ℤ
back f ys s n = take s f ++ (ys ++ drop (s + n - s) (drop s f))

module _ (judge : List ℕ → ℕ → Line RowLine) (first : ℕ) (text : List ℕ) (at zones : ℕ) (c₀ : List (List ℤ)) (f₀ : List ℤ) where
  abbrev section : Section RowLine
  section = lines_at judge first (length c₀) text at 0

  pub record RowsStored (c : List (List ℤ)) (f : List ℤ) (i p : ℕ) : Type 0 where
    pub rows_long : length c ≡ length c₀
    pub factors_long : length f ≡ length c₀ * zones
    pub stored : Stored judge first text at (cut zones c₀ f₀) (length c₀) (cut zones c f) i p

  pub rows_stored_none : at ≤ length text → length f₀ ≡ length c₀ * zones → RowsStored c₀ f₀ 0 at
  rows_stored_none h l = record {
    rows_long = refl;
    factors_long = l;
    stored = subst (λ (n : ℕ). Stored judge first text at (cut zones c₀ f₀) n (cut zones c₀ f₀) 0 at) (cut_long zones c₀ f₀) (stored_none judge first text at (cut zones c₀ f₀) h);
  }

  module _ (c : List (List ℤ)) (f : List ℤ) (i p : ℕ) (u : RowsStored c f i p) where
    same : (b : Section RowLine) → b ≡ lines_at judge first (length (cut zones c₀ f₀)) text at 0 → b ≡ section
    same b e = e ∙ ap (λ (n : ℕ). lines_at judge first n text at 0) (cut_long zones c₀ f₀)

    pub rows_stored_all : length c₀ ≤ i → read (cut zones c f) p ≡ section
    rows_stored_all h = same _ (stored_all judge first text at (cut zones c₀ f₀) (length c₀) (cut zones c f) i p u.stored h)

    module _ (h : i < length c₀) where
      pub rows_stored_room : i * zones + zones ≤ length f
      rows_stored_room = omega (arith, stretch_end zones (length c₀) i h, u.factors_long)

      pub rows_stored_back : (part : List ℤ) → length part ≡ zones → length (back f part (i * zones) zones) ≡ length c₀ * zones
      rows_stored_back part wide = ap length (stretch_left f part (i * zones) zones (i * zones + zones - i * zones) (omega arith) wide) ∙ length-paste f (i * zones) part zones rows_stored_room (omega arith) ∙ u.factors_long

      pub rows_stored_bad : (bad : LineFault) → judge (line_at text p) i ≡ Err bad → fault (refusal_of bad (first + i)) ≡ section
      rows_stored_bad bad q = same _ (stored_bad judge first text at (cut zones c₀ f₀) (length c₀) (cut zones c f) i p u.stored h bad q)

      pub rows_stored_more : (r part : List ℤ) → length part ≡ zones → judge (line_at text p) i ≡ Ok (row r part) → RowsStored (set c i r) (back f part (i * zones) zones) (i + 1) (after text p)
      rows_stored_more r part wide q =
          let s = i * zones in
          let k : s + zones - s ≡ zones = omega arith in
          let is : cut zones (set c i r) (back f part s zones) ≡ set (cut zones c f) i (row r part) =
          ap (λ (m : ℕ). cut zones (set c i r) (take s f ++ (part ++ drop m (drop s f)))) k
          ∙ cut_set zones c f i r part (omega (arith, u.rows_long)) (u.factors_long ∙ ap (λ (n : ℕ). n * zones) (sym u.rows_long)) wide in
          record {
            rows_long = length-set c i r ∙ u.rows_long;
            factors_long = rows_stored_back part wide;
            stored = subst (λ (ls : List RowLine). Stored judge first text at (cut zones c₀ f₀) (length c₀) ls (i + 1) (after text p)) (sym is)
                (stored_more judge first text at (cut zones c₀ f₀) (length c₀) (cut zones c f) i p u.stored h (row r part) q);
          }
