-- The laws of `judge_claims` that a loop over claims asks for (`Judging`), what a judged table gives it, and the answer of the open call. No contract cites this file.
use Rattle.std.specs.Prelude.{Err, Ok, None}
use mathlib.Core.Path.{◌≡◌, refl, sym, ap, ap₂, subst, ◌∙◌}
use mathlib.Core.Bool.{Bool, true, false, cond, not, ◌&&◌}
use mathlib.Core.List.{List, []}
use Prim.Native.Nat.{ℕ, ◌+◌, ◌<◌, ◌≤◌}
use native.Mathlib.Omega.{arith}
use lib.IntN.{ℤ, pos}
use lib.ListN.{length, get_or}
use Rattle.numbers.specs.Ints.{Within}
use Rattle.numbers.proofs.BelowLaws.{Looked, looked_none, looked_all, looked_here, looked_more, table_get}
use Rattle.numbers.proofs.IntLaws.{within_le}
use Rattle.limits.specs.Limits.{rows_most}
use Rattle.refusals.specs.declared.Refusal.{Refusal}
use Rattle.refusals.specs.Answers.{said_judgement}
use Rattle.refusals.specs.Refusals.{unless, refuse_first, malformed_claim, not_borne_out, Ruling}
use Rattle.refusals.proofs.RefusalLaws.{not_passed, first_found, first_none_next, then_refused, then_next}
use Rattle.types.specs.Ranges.{at_ℤ}
use Rattle.tablerules.specs.Table.{Table, front, judge_lent}
use Rattle.tablerules.specs.Good.{Good}
use Rattle.tablerules.proofs.GoodLaws.{told_judged}
use Rattle.marginrules.specs.Margin.{ram_at}
use Rattle.marginrules.proofs.JudgedLaws.{good_factors}
use Rattle.marginrules.proofs.Small as small
use Rattle.staterules.specs.Standings.{Standings, standings_of, standings_with}
use Rattle.staterules.proofs.StandingsLaws.{rows_in_lem}
use Rattle.claimrules.specs.Claims.{claimed_row, formed_by, formed, borne_out, judge_claims, claims_of, claims_answer}
use Rattle.claims.specs.Named.{named_rows, none_named, flagged, name_row, judge_claim}
use Rattle.claims.specs.Magnitudes.{Lent, value_most}
use Rattle.claims.proofs.NameLaws.{named_none, named_long, name_more, formed_flags}

-- ---- the first faulty claim
abbrev pub faulty : (zones : ℕ) → (f rams : List ℤ) → (states : List ℕ) → (claims : List (List ℤ)) → (k : ℕ) → Bool
faulty zones f rams states claims k = not (formed states claims k && borne_out zones f rams (get_or claims k []))

-- the claims before k are not faulty, and the rows that they name are flagged
pub record Judging (zones : ℕ) (f rams : List ℤ) (states : List ℕ) (claims : List (List ℤ)) (before : List Bool) (k : ℕ) : Type 0 where
  pub looked : Looked (length claims) (faulty zones f rams states claims) k
  pub flags : before ≡ named_rows claims k

module _ (zones : ℕ) (f rams : List ℤ) (states : List ℕ) (claims : List (List ℤ)) where
  abbrev m : Standings
  m = standings_with rams states

  abbrev found : ℕ → Bool
  found = faulty zones f rams states claims

  abbrev why : ℕ → Refusal
  why k = cond (formed states claims k) (not_borne_out k) (malformed_claim k)

  pub judging_none : {before : List Bool} → before ≡ none_named → Judging zones f rams states claims before 0
  judging_none e = record { looked = looked_none _ _; flags = e ∙ named_none claims }

  module _ {before : List Bool} {k : ℕ} (u : Judging zones f rams states claims before k) where
    pub judging_long : length before ≡ rows_most
    judging_long = ap length u.flags ∙ named_long claims k

    pub judging_all : length claims ≤ k → Ok m ≡ judge_claims zones f m claims
    unfolding judge_claims
    judging_all h = sym (first_none_next (Ok m) (length claims) found why (sym (looked_all _ _ k u.looked h)))

    -- claim k, judged by flags
    module _ (h : k < length claims) (few : length states ≤ rows_most) {named : List Bool} (all : named ≡ named_rows claims (length claims)) {claim : List ℤ} (is : claim ≡ get_or claims k [])
        (r : Ruling) (said : said_judgement r m ≡ judge_claim zones f m (flagged named) (flagged before) claim k) where
      told : said_judgement r m ≡ cond (found k) (Err (why k)) (Ok m)
      unfolding judge_claim unless
      told =
          said
          ∙ ap₂ (λ (v w : Bool). cond v (cond w (Ok m) (Err (not_borne_out k))) (Err (malformed_claim k)))
          (ap₂ (λ (n b : List Bool). formed_by states (flagged n) (flagged b) claim) all u.flags ∙ formed_flags states few claims k is)
          (ap (borne_out zones f rams) is)
          ∙ cases (formed states claims k) (borne_out zones f rams (get_or claims k []))
        where
          cases : (v w : Bool) → cond v (cond w (Ok m) (Err (not_borne_out k))) (Err (malformed_claim k)) ≡ cond (not (v && w)) (Err (cond v (not_borne_out k) (malformed_claim k))) (Ok m)
          cases true true = refl
          cases true false = refl
          cases false w = refl

      pub judging_refused : (w : Refusal) → r ≡ Err w → Err w ≡ judge_claims zones f m claims
      unfolding judge_claims
      judging_refused w e = go (found k) refl
        where
          is-refused : said_judgement r m ≡ Err w
          is-refused = ap (λ (j : Ruling). said_judgement j m) e

          go : (v : Bool) → found k ≡ v → Err w ≡ refuse_first (length claims) found why (Ok m)
          go true q = sym is-refused ∙ told ∙ ap (λ (v : Bool). cond v (Err (why k)) (Ok m)) q ∙ sym (first_found (Ok m) (length claims) found why (sym (looked_here _ _ k u.looked h q)))
          go false q = absurd (not_passed w m (sym is-refused ∙ told ∙ ap (λ (v : Bool). cond v (Err (why k)) (Ok m)) q))

      pub judging_more : r ≡ (Ok tt) → {row : ℤ} → row ≡ claimed_row claim → {more : List Bool} → more ≡ name_row row before → Judging zones f rams states claims more (k + 1)
      judging_more e {row} own q = record { looked = looked_more _ _ k u.looked h (go (found k) refl); flags = q ∙ ap (name_row row) u.flags ∙ name_more claims k (own ∙ ap claimed_row is) }
        where
          go : (v : Bool) → found k ≡ v → found k ≡ false
          go true q = absurd (not_passed (why k) m (sym (told ∙ ap (λ (v : Bool). cond v (Err (why k)) (Ok m)) q) ∙ ap (λ (j : Ruling). said_judgement j m) e))
          go false q = q

-- ---- a judged table's factors and RAMs, as the functions on a claim ask for them
pub ram_at_lem : (t : Table) (i : ℕ) → i < t.header.rows → at_ℤ (standings_of t).rams i ≡ ram_at t i
unfolding standings_of
ram_at_lem t i h = table_get t.header.rows (ram_at t) i (pos 0) h

module _ {t : Table} (good : Good t) (m : Standings) (e : m ≡ standings_of t) where
  pub factors_lent : Lent t.header.rows t.header.zones 0 t.factors
  factors_lent =
      let f = good_factors good in
      record { long = f.long; within = f.some; each = record { at = λ i h. within_le (f.each.at i h) (omega arith) } }

  pub rams_lent : Lent t.header.rows 1 0 m.rams
  rams_lent =
      let long = (rows_in_lem t m e).rams_long in
      record { long = omega (arith, long); within = omega arith; each = record { at = λ i h. ram-within i (omega (arith, long)) } }
    where
      ram-within : (i : ℕ) → i < t.header.rows → Within value_most (at_ℤ m.rams i)
      ram-within i h = subst (Within value_most) (sym (ap (λ (n : Standings). at_ℤ n.rams i) e ∙ ram_at_lem t i h)) (within_le (small.ram_in good i h) (omega arith))

  pub states_lent : length m.states ≡ t.header.rows
  states_lent = (rows_in_lem t m e).states_long

  pub known_claims : (claims : List (List ℤ)) (r : Ruling) → said_judgement r m ≡ judge_claims t.header.zones t.factors m claims → said_judgement r (standings_of t) ≡ claims_of t claims
  unfolding claims_of
  known_claims claims r h = subst (λ (n : Standings). said_judgement r n ≡ judge_claims t.header.zones t.factors n claims) e h

-- ---- the open call
module _ (given : Table) (claims : List (List ℤ)) (r : Ruling) (said : said_judgement r (front given) ≡ judge_lent given) where
  pub answer_refused : (w : Refusal) → r ≡ Err w → Err w ≡ claims_answer given claims
  unfolding claims_answer
  answer_refused w e = sym (then_refused _ (sym said ∙ ap (λ (j : Ruling). said_judgement j (front given)) e))

  pub answer_judged : r ≡ (Ok tt) → claims_of (front given) claims ≡ claims_answer given claims
  unfolding claims_answer
  answer_judged e = sym (then_next _ (told_judged None given r said e))
