-- 02, E10: taking all claimed rows of an accepted list out leaves the same set of allowed net positions among those that sum to zero, whole or not: each is
-- q / k for a k above 0 (`claimed-rows-can-go`). Of whole kW it is the same without the k (`whole_same`).
-- No contract cites this file.
use Rattle.std.specs.Prelude.{Ok}
use mathlib.Core.Path.{◌≡◌, refl, sym, ap, subst, ◌∙◌}
use mathlib.Core.Bool.{Bool, true, false, not}
use mathlib.Core.List.{List, []}
use mathlib.Core.Logic.{◌↔◌}
use Prim.Native.Nat.{ℕ, ◌<◌}
use native.Mathlib.Omega.{arith}
use borrow.Author.Tests.{not-true, not-false}
use lib.IntN.{ℤ, pos, one, nat_abs, ◌*ℤ◌, *ℤ-one, *ℤ_comm}
use lib.ListN.{length, get_or}
use lib.Signed.{lt_z, ◌≤ℤ◌}
use Rattle.numbers.specs.Ints.{same_ℤ, sum_ℤ}
use Rattle.numbers.proofs.IntLaws.{inside_pos, same_true, lt_z_false}
use Rattle.numbers.proofs.BelowLaws.{sum_ℤ_cong}
use Rattle.theorems.proofs.SignedSums.{mul_assoc_ℤ, sum_ℤ_left, times_le_ℤ}
use Rattle.numbers.proofs.FirstLaws.{some_has}
use Rattle.numbers.proofs.TestLaws.{and_both, both_and, all_true_lem}
use Rattle.refusals.proofs.RefusalLaws.{none_passed, then_passed}
use Rattle.types.specs.Ranges.{at_ℤ, exists}
use Rattle.types.proofs.RangeLaws.{exists_in}
use Rattle.tablerules.specs.Table.{Table, front, factors_at, judge_lent}
use Rattle.tablerules.proofs.GoodLaws.{judged_front}
use Rattle.marginrules.specs.Margin.{ram_at}
use Rattle.staterules.specs.Standings.{Standings, standings_of}
use Rattle.staterules.proofs.StandingsLaws.{rows_in_lem}
use Rattle.staterules.specs.States.{kept}
use Rattle.claimrules.specs.Claims.{times_most, claimed_row, denominator, pairs, cited_row, multiplier, kept_row, claimed_in, formed, cited_sum, own_sum, excess, factor_at, level, borne_out, judge_claims, claims_of, claims_answer, remaining}
use Rattle.promises.specs.Allowed.{net_load, Allowed, Same, WholeAllowed}
use Rattle.theorems.proofs.Outweighed.{outweighed}
use Rattle.claims.proofs.FormLaws.{claim_formed}
use Rattle.claims.proofs.JudgeLaws.{ram_at_lem}
use Rattle.claimtext.proofs.PublishedLaws.{claims_rows}

-- ---- a kept row, as a number of the table's rows
pub record RowIn (states : List ℕ) (row : ℤ) : Type 0 where
  pub is : row ≡ pos (nat_abs row)
  pub below : nat_abs row < length states
  pub is_kept : kept states (nat_abs row) ≡ true

row_in : (states : List ℕ) (row : ℤ) → kept_row states row ≡ true → RowIn states row
unfolding kept_row
row_in states row e =
    let both = and_both (exists (length states) row) (kept states (nat_abs row)) e in
    let here = exists_in (length states) row both.0 in
    record { is = here.0; below = here.1; is_kept = both.1 }

-- ---- both sides of an inequality
ap₂_le : {a b c d : ℤ} → a ≡ b → c ≡ d → a ≤ℤ c → b ≤ℤ d
ap₂_le {b} {c} e f h = subst (λ (x : ℤ). b ≤ℤ x) f (subst (λ (x : ℤ). x ≤ℤ c) e h)

-- an inequality of multiplied values and their sum, both sides taken k times
taken_times : (k n : ℕ) (m value : ℕ → ℤ) (d own : ℤ) → sum_ℤ n (λ j. m j *ℤ value j) ≤ℤ (d *ℤ own) → sum_ℤ n (λ j. m j *ℤ (pos k *ℤ value j)) ≤ℤ (d *ℤ (pos k *ℤ own))
taken_times k n m value d own h =
    ap₂_le
    (sym (sum_ℤ_left n (pos k) (λ j. m j *ℤ value j)) ∙ sum_ℤ_cong n _ _ (λ j l. exchanged (pos k) (m j) (value j)))
    (exchanged (pos k) d own)
    (times_le_ℤ k _ _ h)
  where
    exchanged : (x y z : ℤ) → x *ℤ (y *ℤ z) ≡ y *ℤ (x *ℤ z)
    exchanged x y z = sym (mul_assoc_ℤ x y z) ∙ ap (λ (w : ℤ). w *ℤ z) (*ℤ_comm x y) ∙ mul_assoc_ℤ y x z

-- ---- an accepted list

-- the claim of a claimed row
pub record ClaimOf (claims : List (List ℤ)) (row : ℤ) : Type 0 where
  pub at : ℕ
  pub within : at < length claims
  pub is : claimed_row (get_or claims at []) ≡ row

claim_of : (claims : List (List ℤ)) (row : ℤ) → claimed_in claims (length claims) row ≡ true → ClaimOf claims row
unfolding claimed_in
claim_of claims row e =
    let k = some_has (length claims) (λ e. same_ℤ (claimed_row (get_or claims e [])) row) e in
    record { at = k.0; within = k.1; is = same_true _ row k.2 }

module _ (t : Table) (claims : List (List ℤ)) (accepted : claims_of t claims ≡ Ok (standings_of t)) where
  abbrev states : List ℕ
  states = (standings_of t).states

  abbrev rams : List ℤ
  rams = (standings_of t).rams

  good : (k : ℕ) → k < length claims → (formed states claims k ≡ true) × (borne_out t.header.zones t.factors rams (get_or claims k []) ≡ true)
  unfolding claims_of judge_claims
  good k h = and_both _ _ (not-false _ ((none_passed _ _ _ _ (standings_of t) accepted).0 k h))

  below_rows : {row : ℤ} → RowIn states row → nat_abs row < t.header.rows
  below_rows {row} r = subst (λ (n : ℕ). nat_abs row < n) (rows_in_lem t (standings_of t) refl).states_long r.below

  -- the load of net positions q / k on a cited row is within its RAM where the loads of the remaining rows are
  cited-within : (k : ℕ) (q : ℕ → ℤ) → Allowed t (remaining states claims) k q → (row : ℤ) → kept_row states row ≡ true → claimed_in claims (length claims) row ≡ false
      → net_load t q (nat_abs row) ≤ℤ (pos k *ℤ ram_at t (nat_abs row))
  unfolding remaining
  cited-within k q rest row Kept-here free =
      let r = row_in states row Kept-here in
      rest.each _ (below_rows r) (both_and _ _ r.is_kept (ap not (ap (claimed_in claims (length claims)) (sym r.is) ∙ free)))

  -- the load on a claimed row is within its RAM where the loads of the remaining rows are
  claimed-within : (k : ℕ) (q : ℕ → ℤ) → sum_ℤ t.header.zones q ≡ pos 0 → Allowed t (remaining states claims) k q → (e : ℕ) → e < length claims
      → net_load t q (nat_abs (claimed_row (get_or claims e []))) ≤ℤ (pos k *ℤ ram_at t (nat_abs (claimed_row (get_or claims e []))))
  unfolding formed net_load borne_out level excess cited_sum own_sum
  claimed-within k q zero-sum rest e h =
      let claim = get_or claims e [] in
      let c = claim_formed states (claimed_in claims (length claims)) (claimed_in claims e) claim (good e h).0 in
      let own = nat_abs (claimed_row claim) in
      let ram-of : (row : ℤ) → kept_row states row ≡ true → at_ℤ rams (nat_abs row) ≡ ram_at t (nat_abs row) = λ row e. ram_at_lem t _ (below_rows (row_in states row e)) in
      let truth = and_both _ (not (lt_z (own_sum claim (at_ℤ rams)) (cited_sum claim (at_ℤ rams)))) (good e h).1 in
      outweighed t.header.zones (nat_abs (pairs claim)) (λ j z. at_ℤ (factors_at t (nat_abs (cited_row claim j))) z) (multiplier claim)
      (λ z. at_ℤ (factors_at t own) z) (denominator claim) q
      (excess claim (factor_at t.header.zones t.factors 0))
      (λ z l. same_true _ _ (all_true_lem t.header.zones (λ z. same_ℤ (excess claim (factor_at t.header.zones t.factors z)) (excess claim (factor_at t.header.zones t.factors 0))) truth.0 z l))
      zero-sum
      (λ j. pos k *ℤ ram_at t (nat_abs (cited_row claim j)))
      (pos k *ℤ ram_at t own)
      (inside_pos 1 times_most _ c.times)
      (λ j l. inside_pos 1 times_most _ (c.cited j l).times)
      (λ j l. let p = c.cited j l in cited-within k q rest (cited_row claim j) p.row p.free)
      (taken_times k (nat_abs (pairs claim)) (multiplier claim) (λ j. ram_at t (nat_abs (cited_row claim j))) (denominator claim) (ram_at t own)
      (ap₂_le
      (sum_ℤ_cong (nat_abs (pairs claim)) _ _ (λ j l. ap (λ (x : ℤ). multiplier claim j *ℤ x) (ram-of (cited_row claim j) (c.cited j l).row)))
      (ap (λ (x : ℤ). denominator claim *ℤ x) (ram-of (claimed_row claim) c.row))
      (lt_z_false (not-true _ truth.1))))

  -- taking all claimed rows out leaves the same set of allowed net positions
  pub claimed_rows_can_go : Same t (kept states) (remaining states claims)
  unfolding remaining
  claimed_rows_can_go =
      record {
        same = λ k some q zero-sum. (
          (λ all. record { each = λ i h l. all.each i h (and_both (kept states i) _ l).0 }),
          (λ rest. record { each = λ i h l. by-claim k q zero-sum rest i h l (claimed_in claims (length claims) (pos i)) refl }),
        );
      }
    where
      by-claim : (k : ℕ) (q : ℕ → ℤ) → sum_ℤ t.header.zones q ≡ pos 0 → Allowed t (remaining states claims) k q → (i : ℕ) → i < t.header.rows → kept states i ≡ true
          → (v : Bool) → claimed_in claims (length claims) (pos i) ≡ v → net_load t q i ≤ℤ (pos k *ℤ ram_at t i)
      by-claim k q zero-sum rest i h l true e =
          let c = claim_of claims (pos i) e in
          subst (λ (j : ℕ). net_load t q j ≤ℤ (pos k *ℤ ram_at t j)) (ap nat_abs c.is) (claimed-within k q zero-sum rest c.at c.within)
      by-claim k q zero-sum rest i h l false e = rest.each i h (both_and _ _ l (ap not e))

-- ---- whole net positions
-- a number taken once
once : (x : ℤ) → pos 1 *ℤ x ≡ x
unfolding one
once x = *ℤ_comm (pos 1) x ∙ *ℤ-one x

module _ (t : Table) (q : ℕ → ℤ) where
  -- q / 1 is allowed where q is
  whole-allowed : (listed : ℕ → Bool) → Allowed t listed 1 q → WholeAllowed t listed q
  whole-allowed listed a = record { each = λ i h l. ap₂_le refl (once (ram_at t i)) (a.each i h l) }

  allowed-whole : (listed : ℕ → Bool) → WholeAllowed t listed q → Allowed t listed 1 q
  allowed-whole listed a = record { each = λ i h l. ap₂_le refl (sym (once (ram_at t i))) (a.each i h l) }

  -- two lists that allow the same net positions allow the same whole ones
  pub whole_same : (listed listed' : ℕ → Bool) → Same t listed listed' → sum_ℤ t.header.zones q ≡ pos 0 → WholeAllowed t listed q ↔ WholeAllowed t listed' q
  whole_same listed listed' s zero-sum =
      let both = s.same 1 (omega arith) q zero-sum in
      ((λ a. whole-allowed listed' (both.0 (allowed-whole listed a))), (λ a. whole-allowed listed (both.1 (allowed-whole listed' a))))

-- claimed rows can go, in lent tables whose claims the open call accepts
pub accepted_rows_can_go : (given : Table) (claims : List (List ℤ)) (m : Standings) → claims_answer given claims ≡ Ok m
    → Same (front given) (kept m.states) (remaining m.states claims)
unfolding claims_answer
accepted_rows_can_go given claims m e =
    let a = then_passed (judge_lent given) (λ t. claims_of t claims) m e in
    let same-table : a.it ≡ front given = judged_front given a.it a.first in
    let judged : claims_of (front given) claims ≡ Ok m = subst (λ (t : Table). claims_of t claims ≡ Ok m) same-table a.second in
    let is : m ≡ standings_of (front given) = claims_rows (front given) claims m judged in
    subst (λ (n : Standings). Same (front given) (kept n.states) (remaining n.states claims)) (sym is)
    (claimed_rows_can_go (front given) claims (judged ∙ ap Ok is))
