-- The laws of `specs/CornerText.antt`: how long a line is, lent tables, and what `corner_flows_good` tells. No contract cites this file.
use Rattle.std.specs.Prelude.{Err, Ok}
use mathlib.Core.Path.{◌≡◌, refl, sym, ap, ◌∙◌}
use mathlib.Core.List.{List, [], ◌∷◌}
use Prim.Native.Char.{code}
use Prim.Native.Nat.{ℕ, ◌+◌, ◌^◌, ◌≤◌, ◌<◌}
use native.Mathlib.Omega.{arith}
use lib.IntN.{ℤ, pos}
use lib.ListN.{length, take, drop, length-append}
use lib.Seq.{take_at}
use lib.Pow.{pow_mono}
use lib.Signed.{mag}
use mir.Syntax.{w64}
use mir.Val.{hbits}
use Rattle.numbers.specs.Below.{over}
use Rattle.refusals.specs.declared.Refusal.{Refusal}
use Rattle.refusals.specs.Answers.{said_judgement}
use Rattle.refusals.specs.Refusals.{Judged, Ruling}
use Rattle.refusals.proofs.RefusalLaws.{passed_is, refused_is, not_passed, then_next, then_refused}
use Rattle.text.specs.Fields.{tab}
use Rattle.text.specs.Left.{TextLeft, text_left}
use Rattle.text.specs.Written.{decimal, decimal_ℤ}
use Rattle.text.proofs.DigitLaws.{decimal_u64, decimal_i64}
use Rattle.text.proofs.LeftLaws.{text_refused}
use Rattle.columns.specs.declared.Head.TheVariants.{Indexed}
use Rattle.columns.specs.ColumnText.{field_text, fields_length, line_length}
use Rattle.columns.proofs.ColumnPut.{line_long}
use Rattle.tablerules.specs.Table.{Table, front, factors_at, judge_lent}
use Rattle.tablerules.specs.Good.{Good}
use Rattle.cornerrules.specs.Corners.{flows_of, judge_corner_sheet, judge_corners, FlowsLeft, flows_left, sheet_left}
use Rattle.cornerrules.proofs.SheetLaws.{flows_long, passed_sheet, sheet_refused, sheet_all, corners_passed}
use Rattle.cornertext.specs.CornerText.{sheet_most, corner_columns, corner_line, line_most, corners_text, sheet_text_of, corner_text_left}

-- ---- a line's length
module _ (row corner : ℕ) (flow : ℤ) where
  pub corner_line_is : length (corner_line row corner flow) ≡ line_length (Indexed (code "K") row) corner_columns (pos corner ∷ flow ∷ [])
  corner_line_is = line_long tab (Indexed (code "K") row) corner_columns (pos corner ∷ flow ∷ [])

  pub corner_line_long : length (corner_line row corner flow) ≡ 5 + length (decimal row) + length (decimal corner) + length (decimal_ℤ flow)
  unfolding fields_length field_text decimal_ℤ
  corner_line_long = omega (arith, corner_line_is)

  -- no K line of machine numbers is longer
  pub corner_line_most : row < 2 ^ 64 → corner < sheet_most → mag flow < 2 ^ hbits w64 → length (corner_line row corner flow) ≤ line_most
  corner_line_most h k l = omega (arith, corner_line_long, decimal_u64 row h, decimal_u64 corner (omega arith), decimal_i64 flow l)

-- ---- lent tables: what judging refuses is refused, and else the text is that of the front's sheet
module _ (given : Table) (row : ℕ) (r : Ruling) (said : said_judgement r (front given) ≡ judge_lent given) (out : List ℕ) where
  pub text_judged_not : (w : Refusal) → r ≡ Err w → ◌≡◌ {A = TextLeft} (record { answer = Err w; out = out }) (corner_text_left given row out)
  unfolding judge_corners corner_text_left
  text_judged_not w e = text_refused out (then_refused _ (then_refused _ (sym said ∙ ap (λ (j : Ruling). said_judgement j (front given)) e)))

  pub text_judged : r ≡ (Ok tt) → text_left (sheet_text_of (judge_corner_sheet (front given) row) row) out ≡ corner_text_left given row out
  unfolding corner_text_left
  text_judged ok = ap (λ (j : Judged Table). text_left (sheet_text_of j row) out) (corners_passed given row r said ok)

-- ---- what `corner_flows_good` tells of a judgement, where its room is enough for every sheet
module _ (t : Table) (row : ℕ) where
  abbrev pub sheet_of : Table → List ℤ
  sheet_of u = flows_of (factors_at u row) u.borders

  -- the flows that were filled in
  pub record FlowsTold (n : ℕ) (o : List ℤ) : Type 0 where
    pub table : Table
    pub judged : judge_corner_sheet t row ≡ Ok table
    pub first : take n o ≡ sheet_of table
    pub few : n ≤ sheet_most
    pub long : n ≤ length o

  pub text_on : (out : List ℕ) {n : ℕ} {o : List ℤ} → FlowsTold n o → text_left (Ok (corners_text row (take n o))) out ≡ text_left (sheet_text_of (judge_corner_sheet t row) row) out
  text_on out told = ap (λ (flows : List ℤ). text_left (Ok (corners_text row flows)) out) told.first ∙ ap (λ (j : Judged (List ℕ)). text_left j out) (sym (then_next _ told.judged))

  module _ (good : Good t) (room : List ℤ) {o : List ℤ} (r : Judged ℕ) (e : flows_left r o ≡ sheet_left (judge_corner_sheet t row) row room) (enough : sheet_most ≤ length room) where
    on-passed : (u : Table) → judge_corner_sheet t row ≡ Ok u → flows_left r o ≡ flows_left (Ok (length (sheet_of u))) (over (sheet_of u) room)
    on-passed u q =
        let s = passed_sheet t row good u q in
        e ∙ sheet_all (judge_corner_sheet t row) row room u q s (omega (arith, pow_mono s.few))

    on-refused : (v : Refusal) → judge_corner_sheet t row ≡ Err v → r ≡ Err v
    on-refused v q = ap (λ (l : FlowsLeft). l.answer) (e ∙ sheet_refused (judge_corner_sheet t row) row room v q)

    pub told_refused : (out : List ℕ) (w : Refusal) → r ≡ Err w → ◌≡◌ {A = TextLeft} (record { answer = Err w; out = out }) (text_left (sheet_text_of (judge_corner_sheet t row) row) out)
    told_refused out w k = go (judge_corner_sheet t row) refl
      where
        said : r ≡ Err w
        said = k

        go : (j : Judged Table) → judge_corner_sheet t row ≡ j → ◌≡◌ {A = TextLeft} (record { answer = Err w; out = out }) (text_left (sheet_text_of (judge_corner_sheet t row) row) out)
        go (Ok u) q = absurd (not_passed w (length (sheet_of u)) (sym said ∙ ap (λ (l : FlowsLeft). l.answer) (on-passed u q)))
        go (Err v) q = text_refused out (then_refused _ (q ∙ ap Err (refused_is v w (sym (on-refused v q) ∙ said))))

    pub told_passed : (n : ℕ) → r ≡ Ok n → FlowsTold n o
    told_passed n k = go (judge_corner_sheet t row) refl
      where
        said : r ≡ Ok n
        said = k

        go : (j : Judged Table) → judge_corner_sheet t row ≡ j → FlowsTold n o
        go (Ok u) q =
            let l = on-passed u q in
            let i : n ≡ length (sheet_of u) = passed_is n (length (sheet_of u)) (sym said ∙ ap (λ (x : FlowsLeft). x.answer) l) in
            let w : o ≡ over (sheet_of u) room = ap (λ (x : FlowsLeft). x.out) l in
            let s = passed_sheet t row good u q in
            record {
              table = u;
              judged = q;
              first = ap (take n) w ∙ take_at (sheet_of u) (drop (length (sheet_of u)) room) n (sym i);
              few = omega (arith, i, flows_long s, pow_mono s.few);
              long = omega (arith, i, ap length w, length-append (sheet_of u) (drop (length (sheet_of u)) room));
            }
        go (Err v) q = absurd (not_passed v n (sym (on-refused v q) ∙ said))
