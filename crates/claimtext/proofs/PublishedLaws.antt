-- The laws of `specs/Published.antt`: a row's line and its length, and which judgement decides. No contract cites this file.
-- `published-fits` is for a caller that lends room for the longest list.
use Rattle.std.specs.Prelude.{Err, Ok, None}
use mathlib.Core.Path.{◌≡◌, refl, sym, ap, ◌∙◌}
use mathlib.Core.Bool.{Bool, true, false, cond, not, ◌&&◌}
use mathlib.Core.List.{List, [], ◌∷◌}
use Prim.Native.Char.{code}
use Prim.Native.Nat.{ℕ, ◌^◌, ◌≤◌, ◌<◌}
use native.Mathlib.Nat.{mul-le-mul_right}
use native.Mathlib.Omega.{arith}
use borrow.Author.Tests.{lt-ltb, le-ltb}
use lib.Dec.{ltb}
use lib.IntN.{ℤ, pos}
use lib.ListN.{length}
use lib.Signed.{mag}
use mir.Syntax.{w64}
use mir.Val.{hbits}
use Rattle.numbers.proofs.IntLaws.{within_fits}
use Rattle.limits.specs.Limits.{rows_most, bytes_most}
use Rattle.refusals.specs.declared.Refusal.{Refusal}
use Rattle.refusals.specs.Answers.{said_judgement}
use Rattle.refusals.specs.Refusals.{Judged, then, too_long, Ruling}
use Rattle.refusals.proofs.RefusalLaws.{passed_is, none_passed, not_passed, then_passed, then_next, then_refused}
use Rattle.types.specs.Ranges.{at_ℤ}
use Rattle.types.proofs.RangeLaws.{header_in_lem}
use Rattle.text.specs.Fields.{tab}
use Rattle.text.specs.Left.{TextLeft, text_left}
use Rattle.text.proofs.DigitLaws.{decimal_u64, decimal_i64}
use Rattle.text.proofs.LeftLaws.{text_refused}
use Rattle.text.proofs.PutLaws.{lines_most_lem, lines_cong}
use Rattle.columns.specs.declared.Head.TheVariants.{Indexed}
use Rattle.columns.specs.ColumnText.{field_text, fields_length, line_length}
use Rattle.columns.proofs.ColumnPut.{line_long}
use Rattle.tablerules.specs.Table.{Table, front, judge_lent}
use Rattle.tablerules.specs.Good.{Good}
use Rattle.tablerules.proofs.GoodLaws.{judged_front, told_judged}
use Rattle.staterules.specs.Standings.{Standings, standings_of}
use Rattle.staterules.specs.States.{kept}
use Rattle.claimrules.specs.Claims.{claimed_in, judge_claims, claims_of, remaining}
use Rattle.claims.specs.Named.{named_rows, flagged}
use Rattle.claims.proofs.NameLaws.{exists_pos, flagged_named}
use Rattle.claims.proofs.JudgeLaws.{rams_lent, states_lent, known_claims}
use Rattle.claimline.specs.ClaimText.{claims_in}
use Rattle.claimtext.specs.Published.{published_columns, row_line, line_most, published_line, published_text, published_most, published_of, published_answer, published_left}
use Rattle.claims.specs.Unflagged.{unflagged}

-- ---- a row's line
module _ (row : ℕ) (ram : ℤ) where
  pub row_line_long : length (row_line row ram) ≡ line_length (Indexed (code "D") row) published_columns (ram ∷ [])
  row_line_long = line_long tab (Indexed (code "D") row) published_columns (ram ∷ [])

  -- no D line of machine numbers is longer
  pub row_line_most : row < 2 ^ 64 → mag ram < 2 ^ hbits w64 → line_length (Indexed (code "D") row) published_columns (ram ∷ []) ≤ line_most
  unfolding fields_length field_text
  row_line_most h k = omega (arith, decimal_u64 row h, decimal_i64 ram k)

module _ (m : Standings) (listed : ℕ → Bool) (row : ℕ) where
  pub published_here : listed row ≡ true → published_line m listed row ≡ row_line row (at_ℤ m.rams row)
  unfolding published_line
  published_here e = rw e

  pub published_not : listed row ≡ false → published_line m listed row ≡ []
  unfolding published_line
  published_not e = rw e

-- the rows whose flag is not set are those that remain
pub unflagged_text : (m : Standings) (claims : List (List ℤ)) {flags : List Bool} → length m.states ≤ rows_most → flags ≡ named_rows claims (length claims)
    → published_text m (unflagged m.states flags) ≡ published_text m (remaining m.states claims)
unfolding published_text published_line unflagged remaining
unflagged_text m claims {flags} few e =
    lines_cong (length m.states) 0 _ _ (λ j h. ap (λ (v : Bool). cond (kept m.states j && not v) (row_line j (at_ℤ m.rams j)) []) (told j (omega arith)))
  where
    told : (j : ℕ) → j < length m.states → flagged flags (pos j) ≡ claimed_in claims (length claims) (pos j)
    told j h = ap (λ (l : List Bool). flagged l (pos j)) e ∙ flagged_named claims (length claims) (length m.states) few (pos j) (exists_pos (length m.states) j h)

-- ---- a good table, whose rows were filled in
module _ {t : Table} (good : Good t) (m : Standings) (e : m ≡ standings_of t) (claims : List (List ℤ)) (out : List ℕ) (r : Ruling) (said : said_judgement r m ≡ judge_claims t.header.zones t.factors m claims) where
  pub claims_refused : (w : Refusal) → r ≡ Err w → ◌≡◌ {A = TextLeft} (record { answer = Err w; out = out }) (text_left (published_of t claims) out)
  unfolding published_of
  claims_refused w q = text_refused out (then_refused _ (sym (known_claims good m e claims r said) ∙ ap (λ (j : Ruling). said_judgement j (standings_of t)) q))

  pub claims_accepted : r ≡ (Ok tt) → {flags : List Bool} → flags ≡ named_rows claims (length claims)
      → text_left (Ok (published_text m (unflagged m.states flags))) out ≡ text_left (published_of t claims) out
  unfolding published_of
  claims_accepted q flags =
      let few : length m.states ≤ rows_most = omega (arith, states_lent good m e, (header_in_lem t.header good.exact.header).rows_most_lem) in
      ap (λ (text : List ℕ). text_left (Ok text) out) (unflagged_text m claims few flags ∙ ap (λ (n : Standings). published_text n (remaining n.states claims)) e)
      ∙ ap (λ (j : Judged (List ℕ)). text_left j out) (sym (then_next _ (sym (known_claims good m e claims r said) ∙ ap (λ (j : Ruling). said_judgement j (standings_of t)) q)))

-- ---- lent tables
module _ (given : Table) (list out : List ℕ) where
  pub list_long : bytes_most < length list → ◌≡◌ {A = TextLeft} (record { answer = Err too_long; out = out }) (published_left given list out)
  unfolding published_left published_answer
  list_long h = text_refused out (ap (λ (b : Bool). cond b (Err too_long) (then (judge_lent given) (λ t. published_of t (claims_in list)))) (lt-ltb bytes_most (length list) h))

  module _ (short : length list ≤ bytes_most) (r : Ruling) (said : said_judgement r (front given) ≡ judge_lent given) where
    past-length : published_answer given list ≡ then (judge_lent given) (λ t. published_of t (claims_in list))
    unfolding published_answer
    past-length = ap (λ (b : Bool). cond b (Err too_long) (then (judge_lent given) (λ t. published_of t (claims_in list)))) (le-ltb bytes_most (length list) short)

    pub table_refused : (w : Refusal) → r ≡ Err w → ◌≡◌ {A = TextLeft} (record { answer = Err w; out = out }) (published_left given list out)
    unfolding published_left
    table_refused w e = text_refused out (past-length ∙ then_refused _ (sym said ∙ ap (λ (j : Ruling). said_judgement j (front given)) e))

    pub table_judged : r ≡ (Ok tt) → text_left (published_of (front given) (claims_in list)) out ≡ published_left given list out
    unfolding published_left
    table_judged e = ap (λ (j : Judged (List ℕ)). text_left j out) (sym (past-length ∙ then_next _ (told_judged None given r said e)))

-- ---- the longest list
module _ {t : Table} (good : Good t) (listed : ℕ → Bool) where
  line_most_lem : (row : ℕ) → row < length (standings_of t).states → length (published_line (standings_of t) listed row) ≤ line_most
  line_most_lem row h = go (listed row) refl
    where
      ram : ℤ
      ram = at_ℤ (standings_of t).rams row

      long : length (row_line row ram) ≤ line_most
      long =
          let few = (header_in_lem t.header good.exact.header).rows_most_lem in
          let states = states_lent good (standings_of t) refl in
          let rams = rams_lent good (standings_of t) refl in
          omega (
            arith,
            row_line_long row ram,
            row_line_most row ram (omega arith) (within_fits (rams.each.at row (omega (arith, rams.long))) tt).sfits,
          )

      go : (v : Bool) → listed row ≡ v → length (published_line (standings_of t) listed row) ≤ line_most
      go true e = omega (arith, ap length (published_here (standings_of t) listed row e), long)
      go false e = omega (arith, ap length (published_not (standings_of t) listed row e))

  text_most : length (published_text (standings_of t) listed) ≤ published_most
  unfolding published_text
  text_most =
      let few = (header_in_lem t.header good.exact.header).rows_most_lem in
      let states = states_lent good (standings_of t) refl in
      omega (
        arith,
        lines_most_lem (published_line (standings_of t) listed) (length (standings_of t).states) line_most_lem,
        mul-le-mul_right {m = length (standings_of t).states} {n = rows_most} line_most (omega arith),
      )

-- ---- a list that is published: its claims were accepted
pub record Publishes (t : Table) (claims : List (List ℤ)) (text : List ℕ) : Type 0 where
  pub accepted : claims_of t claims ≡ Ok (standings_of t)
  pub is : text ≡ published_text (standings_of t) (remaining (standings_of t).states claims)

-- the rows whose claims were accepted are the table's
pub claims_rows : (t : Table) (claims : List (List ℤ)) (m : Standings) → claims_of t claims ≡ Ok m → m ≡ standings_of t
unfolding claims_of judge_claims
claims_rows t claims m e = sym (passed_is _ _ (none_passed _ _ _ _ m e).1)

module _ (t : Table) (claims : List (List ℤ)) (text : List ℕ) (e : published_of t claims ≡ Ok text) where
  published : Publishes t claims text
  unfolding published_of
  published =
      let a = then_passed (claims_of t claims) _ text e in
      let rows : a.it ≡ standings_of t = claims_rows t claims a.it a.first in
      record {
        accepted = a.first ∙ ap Ok rows;
        is = sym (passed_is _ _ a.second) ∙ ap (λ (m : Standings). published_text m (remaining m.states claims)) rows;
      }

  -- whatever is published fits
  pub published_fits : Good t → length text ≤ published_most
  published_fits good = omega (arith, ap length published.is, text_most good (remaining (standings_of t).states claims))

-- what is published of lent tables
pub publishes : (given : Table) (list text : List ℕ) → published_answer given list ≡ Ok text → Publishes (front given) (claims_in list) text
unfolding published_answer
publishes given list text e = go (ltb bytes_most (length list)) e
  where
    go : (v : Bool) → cond v (Err too_long) (then (judge_lent given) (λ t. published_of t (claims_in list))) ≡ Ok text → Publishes (front given) (claims_in list) text
    go true q = absurd (not_passed too_long text q)
    go false q =
        let a = then_passed (judge_lent given) _ text q in
        published (front given) (claims_in list) text (ap (λ (t : Table). published_of t (claims_in list)) (sym (judged_front given a.it a.first)) ∙ a.second)
