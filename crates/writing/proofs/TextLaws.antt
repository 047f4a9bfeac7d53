-- The text of a good table as its writers make it: header, Z, T, B and C lines, one after another, and their lengths. No contract cites this file.
use mathlib.Core.Path.{◌≡◌, sym, ap, ◌∙◌}
use mathlib.Core.List.{List, [], ◌∷◌, ◌++◌, append_assoc}
use Prim.Native.Char.{code}
use Prim.Native.Nat.{ℕ, ◌+◌, ◌*◌, ◌≤◌}
use native.Mathlib.Omega.{arith}
use lib.IntN.{ℤ}
use lib.ListN.{length, length-append}
use Rattle.numbers.proofs.BelowLaws.{sum_cong}
use Rattle.limits.specs.Limits.{bytes_most}
use Rattle.types.specs.LineColumns.{zone_columns}
use Rattle.types.specs.Ranges.{at_ℤ}
use Rattle.text.specs.Fields.{tab}
use Rattle.text.specs.Put.{Put}
use Rattle.text.proofs.PutLaws.{put_more, put_room, lines_length}
use Rattle.columns.specs.declared.Head.TheVariants.{Indexed}
use Rattle.columns.proofs.ColumnPut.{line_long}
use Rattle.tablerules.specs.Table.{Table}
use Rattle.tablerules.specs.Good.{Good}
use Rattle.tablerules.proofs.JudgeLaws.{exact_factors}
use Rattle.layout.specs.Layout.{header_text}
use Rattle.writing.specs.Writing.{table_text, position_text_at, positions_text, zones_text, allocateds_text, borders_text, rows_text}
use Rattle.writing.proofs.LengthLaws.{never_too_long}

-- ---- the parts of the text
module _ (t : Table) (g : Good t) where
  abbrev h : List ℕ
  h = header_text t.header

  abbrev z : List ℕ
  z = zones_text t.nets

  abbrev a : List ℕ
  a = allocateds_text t.allocated

  abbrev b : List ℕ
  b = borders_text t.borders

  abbrev c : List ℕ
  c = rows_text t.header.zones t.rows t.factors

  text-parts : (((h ++ z) ++ a) ++ b) ++ c ≡ table_text t
  unfolding table_text
  text-parts = rw (g.exact.nets_long, g.exact.allocated_long, g.exact.borders_long, g.exact.rows_long) (simp append_assoc)

  pub text_length : length (table_text t) ≡ length h + length z + length a + length b + length c
  text_length = sym (ap length text-parts) ∙ simp length-append

  -- one after another
  module _ {out o1 : List ℕ} {n1 : ℕ} (p1 : Put h 0 out n1 o1) where
    pub zones_room : length (table_text t) ≤ length out → n1 + length z ≤ length o1
    zones_room r = put_room p1 (length z) (omega (arith, text_length))

    module _ {n2 : ℕ} {o2 : List ℕ} (p2 : Put z n1 o1 n2 o2) where
      pub allocated_room : length (table_text t) ≤ length out → n2 + length a ≤ length o2
      allocated_room r = put_room (put_more p1 (omega arith) p2) (length a) (omega (arith, text_length, length-append h z))

      module _ {n3 : ℕ} {o3 : List ℕ} (p3 : Put a n2 o2 n3 o3) where
        pub borders_room : length (table_text t) ≤ length out → n3 + length b ≤ length o3
        borders_room r =
            put_room (put_more (put_more p1 (omega arith) p2) (omega arith) p3) (length b)
            (omega (arith, text_length, length-append h z, length-append (h ++ z) a))

        module _ {n4 : ℕ} {o4 : List ℕ} (p4 : Put b n3 o3 n4 o4) where
          pub rows_room : length (table_text t) ≤ length out → n4 + length c ≤ length o4
          rows_room r =
              put_room (put_more (put_more (put_more p1 (omega arith) p2) (omega arith) p3) (omega arith) p4) (length c)
              (omega (arith, text_length, length-append h z, length-append (h ++ z) a, length-append ((h ++ z) ++ a) b))

          pub text_put : {n5 : ℕ} {o5 : List ℕ} → Put c n4 o4 n5 o5 → Put (table_text t) 0 out n5 o5
          text_put p5 = rw text-parts at (put_more (put_more (put_more (put_more p1 (omega arith) p2) (omega arith) p3) (omega arith) p4) (omega arith) p5)

  -- the factors of all rows, as many as the row records ask for
  pub factors_all : length t.factors ≡ length t.rows * t.header.zones
  factors_all = exact_factors t g.exact

  -- adding the lengths of the parts does not overflow
  pub text_within : length h + length z + length a + length b + length c ≤ bytes_most
  text_within = omega (arith, text_length, never_too_long t g)

-- ---- T lines are as long as Z lines of the same positions
pub letters_alike : (letter : ℕ) (nets : List ℤ) → length (zones_text nets) ≡ length (positions_text letter nets)
letters_alike letter nets =
    lines_length (position_text_at (code "Z") nets) (length nets)
    ∙ sum_cong (length nets) _ _ (λ i l. line_long tab (Indexed (code "Z") i) zone_columns (at_ℤ nets i ∷ []) ∙ sym (line_long tab (Indexed letter i) zone_columns (at_ℤ nets i ∷ [])))
    ∙ sym (lines_length (position_text_at letter nets) (length nets))
