-- The laws behind the functions that list corners: the flows with one border more used, item by item, and the corners of a list from those of a shorter one.
-- No contract cites this file.
use mathlib.Core.Path.{◌≡◌, refl, sym, ap, ap₂, subst, ◌∙◌}
use mathlib.Core.Bool.{true, cond}
use mathlib.Core.List.{List, [], ◌∷◌, ◌++◌}
use mathlib.Core.Logic.{⊎_elim}
use Prim.Native.Nat.{ℕ, suc, ◌+◌, ◌*◌, ◌-◌, ◌^◌, ◌≤◌, ◌<◌}
use native.Mathlib.Nat.{two-pow-succ, not-suc-le-zero, le_refl, mul-le-mul}
use native.Mathlib.Omega.{arith}
use borrow.Author.Tests.{lt-ltb, le-ltb}
use lib.Dec.{ltb}
use lib.IntN.{ℤ, pos, ◌+ℤ◌}
use lib.ListN.{length, get_or, set, take, drop, length-append, length-drop, take-append-drop, get_or-append}
use lib.Seq.{length-take-le, get_or-take, get_or-append-add, take_at, drop_at, drop-drop}
use Rattle.numbers.specs.Ints.{Within, AllWithin}
use Rattle.numbers.specs.Below.{table, over}
use Rattle.numbers.proofs.IntLaws.{within_le, within_pos, within_mul}
use Rattle.numbers.proofs.BelowLaws.{le_or_lt, table_of, table_long, table_get}
use Rattle.numbers.proofs.ListLaws.{Filled, filled_more, filled_over}
use Rattle.types.specs.declared.Border.{Border}
use Rattle.types.specs.LineLimits.{lta_most}
use Rattle.types.specs.Ranges.{at_ℤ, border_of, border_fits}
use Rattle.marginrules.specs.Margin.{signed_factor, lta_kw, corner_part}
use Rattle.marginrules.specs.Magnitudes.{FactorsInRange, BorderInRange, BordersInRange, p_most}
use Rattle.marginrules.proofs.MagnitudeLaws.{signed_within}
use Rattle.marginrules.proofs.JudgedLaws.{border_ranges}
use Rattle.cornerrules.specs.Corners.{sheet_borders_most, raised_by, corner_flows, part_of, flows_of}
use Rattle.cornerrules.specs.Listed.{part_most, corner_flow_most, FlowsListed}
use Rattle.cornerrules.proofs.CornerLaws.{raised_length, raised_at, flows_length, flows_cong, flow_within}

-- ---- after the first `count` flows, each of them again with one border more used
module _ (part : ℤ) (old : List ℤ) (count : ℕ) where
  abbrev pub first : List ℤ
  first = take count old

  -- the flow that belongs at number k
  abbrev pub flow_at : ℕ → ℤ
  flow_at k = cond (ltb k count) (at_ℤ old k) (at_ℤ old (k - count) +ℤ part)

  flow-low : (k : ℕ) → k < count → flow_at k ≡ at_ℤ old k
  flow-low k h = rw (lt-ltb k count h)

  flow-high : (k : ℕ) → count ≤ k → flow_at k ≡ at_ℤ old (k - count) +ℤ part
  flow-high k h = rw (le-ltb k count h)

  -- the flows below k are listed, and the rest is not changed
  pub record Using (out : List ℤ) (k : ℕ) : Type 0 where
    pub low : count ≤ k
    pub so_far : Filled flow_at (count + count) old out k

  module _ (room : count + count ≤ length old) where
    first-long : length first ≡ count
    first-long = length-take-le count old (omega arith)

    pub using_none : Using old count
    using_none =
        record {
          low = le_refl count;
          so_far = record {
            high = omega arith;
            so_far =
                sym (take-append-drop count old)
                ∙ ap (λ (l : List ℤ). l ++ drop count old) (table_of count flow_at first (pos 0) first-long (λ k h. get_or-take count old k (pos 0) h ∙ sym (flow-low k h)));
            as_long = refl;
          };
        }

    module _ {out : List ℤ} {k : ℕ} (u : Using out k) where
      -- the flows that are read are not changed
      pub using_read : k < count + count → at_ℤ out (k - count) ≡ at_ℤ old (k - count)
      using_read h =
          let j = k - count in
          let l : j < count = omega (arith, u.low) in
          rw u.so_far.so_far
          (get_or-append (table k flow_at) (drop k old) (pos 0) j (omega (arith, table_long k flow_at, u.low))
          ∙ table_get k flow_at j (pos 0) (omega (arith, u.low)) ∙ flow-low j l)

      pub using_more : (v : ℤ) → k < count + count → v ≡ at_ℤ out (k - count) +ℤ part → Using (set out k v) (k + 1)
      using_more v h e =
          record {
            low = omega (arith, u.low);
            so_far = filled_more u.so_far v h room (e ∙ ap (λ (z : ℤ). z +ℤ part) (using_read h) ∙ sym (flow-high k u.low));
          }

      pub using_within : {m : ℕ} → AllWithin m first → k < count + count → Within m (at_ℤ out (k - count))
      using_within all h =
          let l : k - count < count = omega (arith, u.low) in
          rw (using_read h, ← get_or-take count old (k - count) (pos 0) l) (all.at (k - count) (omega (arith, first-long)))

      both : table (count + count) flow_at ≡ first ++ raised_by part first
      both =
          sym (table_of (count + count) flow_at (first ++ raised_by part first) (pos 0)
          (length-append first (raised_by part first) ∙ omega (arith, first-long, raised_length part first))
          (λ i h. ⊎_elim
          (λ l.
          let j = i - count in
          let e : length first + j ≡ i = omega (arith, first-long) in
          subst (λ (x : ℕ). at_ℤ (first ++ raised_by part first) x ≡ flow_at i) e
          (get_or-append-add first (raised_by part first) j (pos 0)
          ∙ raised_at part first j (omega (arith, first-long))
          ∙ ap (λ (z : ℤ). z +ℤ part) (get_or-take count old j (pos 0) (omega arith))
          ∙ sym (flow-high i l)))
          (λ l. get_or-append first (raised_by part first) (pos 0) i (omega (arith, first-long)) ∙ get_or-take count old i (pos 0) l ∙ sym (flow-low i l))
          (le_or_lt count i)))

      pub using_all : count + count ≤ k → (next : ℕ) → next ≡ count + count → FlowsListed (first ++ raised_by part first) old next out
      using_all h next e =
          record {
            counted = e ∙ sym (table_long (count + count) flow_at) ∙ ap length both;
            wrote = filled_over u.so_far h ∙ ap (λ (l : List ℤ). over l old) both;
          }

-- ---- a border's part, in grains
module _ {factors : List ℤ} (all : FactorsInRange factors) {border : Border} (bound : BorderInRange (length factors) border) where
  pub factor_within : Within p_most (signed_factor factors border)
  factor_within = signed_within all.each bound

  pub kw_most : lta_kw border ≤ lta_most * 1000
  unfolding lta_kw
  kw_most = omega (arith, bound.lta_in)

  pub part_within : Within part_most (corner_part factors border)
  unfolding corner_part
  part_within = within_mul factor_within (within_pos kw_most)

-- ---- the corners of no border
nothing : (factors : List ℤ) (borders : List (List ℤ)) → length borders ≡ 0 → flows_of factors borders ≡ pos 0 ∷ []
unfolding corner_flows
nothing factors borders e = ap (corner_flows (part_of factors borders)) e

first_set : (old : List ℤ) → 0 < length old → set old 0 (pos 0) ≡ pos 0 ∷ drop 1 old
first_set [] h = absurd (not-suc-le-zero h)
first_set (z ∷ old) h = refl

pub list_none : (factors : List ℤ) (borders : List (List ℤ)) {old : List ℤ} → length borders ≡ 0 → 0 < length old → FlowsListed (flows_of factors borders) old 1 (set old 0 (pos 0))
list_none factors borders {old} e h =
    let n = nothing factors borders e in
    record { counted = sym (ap length n); wrote = first_set old h ∙ ap (λ (flows : List ℤ). over flows old) (sym n) }

-- ---- the corners of all borders, from those of all but the last
module _ (factors : List ℤ) (borders : List (List ℤ)) (few : length borders ≤ sheet_borders_most) (f : FactorsInRange factors) (b : BordersInRange (length factors) borders) where
  pub part_of_within : (k : ℕ) → k < length borders → Within part_most (part_of factors borders k)
  part_of_within k h = part_within f (border_ranges (length factors) (get_or borders k []) (b.each k h))

  flows-within : AllWithin corner_flow_most (flows_of factors borders)
  flows-within =
      let long = flows_length (part_of factors borders) (length borders) in
      record {
        at = λ k h. within_le (flow_within (part_of factors borders) (length borders) part_of_within k (omega (arith, long))) (mul-le-mul few (le_refl part_most));
      }

module _ (factors : List ℤ) (borders : List (List ℤ)) (some : length borders ≡ 0 → ⊥) where
  abbrev last : ℕ
  last = length borders - 1

  abbrev shorter : List (List ℤ)
  shorter = take last borders

  last-suc : length borders ≡ suc last
  last-suc = omega arith

  pub shorter_long : length shorter ≡ last
  shorter_long = length-take-le last borders (omega arith)

  pub shorter_ranges : {zones : ℕ} → BordersInRange zones borders → BordersInRange zones shorter
  shorter_ranges {zones} b =
      record {
        few = omega (arith, shorter_long, b.few);
        each = λ k h. subst (λ (raw : List ℤ). border_fits zones raw ≡ true) (sym (get_or-take last borders k [] (omega (arith, shorter_long)))) (b.each k (omega (arith, shorter_long)));
      }

  twice_two : 2 ^ length borders ≡ 2 ^ length shorter + 2 ^ length shorter
  twice_two = ap (λ (n : ℕ). 2 ^ n) last-suc ∙ two-pow-succ last ∙ ap (λ (n : ℕ). 2 ^ n + 2 ^ n) (sym shorter_long)

  pub shorter_room : {room : ℕ} → 2 ^ length borders ≤ room → 2 ^ length shorter ≤ room
  shorter_room h = omega (arith, twice_two)

  abbrev rest : List ℤ
  rest = flows_of factors shorter

  -- the corners of the shorter list, and then the same with the last border used
  flows-more : flows_of factors borders ≡ rest ++ raised_by (part_of factors borders last) rest
  unfolding corner_flows
  flows-more =
      let same : corner_flows (part_of factors borders) last ≡ rest =
      flows_cong (part_of factors borders) (part_of factors shorter) last (λ k h. ap (λ (raw : List ℤ). corner_part factors (border_of raw)) (sym (get_or-take last borders k [] h)))
      ∙ ap (corner_flows (part_of factors shorter)) (sym shorter_long)
      in
      ap (corner_flows (part_of factors borders)) last-suc ∙ ap (λ (r : List ℤ). r ++ raised_by (part_of factors borders last) r) same

  module _ {old mid : List ℤ} {count : ℕ} (room : 2 ^ length borders ≤ length old) (l : FlowsListed rest old count mid) where
    rest-long : length rest ≡ 2 ^ length shorter
    rest-long = flows_length (part_of factors shorter) (length shorter)

    mid-first : take count mid ≡ rest
    mid-first = ap (take count) l.wrote ∙ take_at rest (drop (length rest) old) count (sym l.counted)

    mid-rest : drop (length rest) mid ≡ drop (length rest) old
    mid-rest = ap (drop (length rest)) l.wrote ∙ drop_at rest (drop (length rest) old) (length rest) refl

    mid-long : length mid ≡ length old
    mid-long = ap length l.wrote ∙ length-append rest (drop (length rest) old) ∙ omega (arith, length-drop (length rest) old, rest-long, twice_two)

    pub room_used : count + count ≤ length mid
    room_used = omega (arith, mid-long, l.counted, rest-long, twice_two)

    pub within_used : length borders ≤ sheet_borders_most → FactorsInRange factors → BordersInRange (length factors) borders → AllWithin corner_flow_most (take count mid)
    within_used few f b = rw mid-first (flows-within factors shorter (omega (arith, shorter_long)) f (shorter_ranges b))

    -- what is written over what was written in front
    over-again : (new : List ℤ) → length rest ≤ length new → over new mid ≡ over new old
    over-again new h =
        let d = length new - length rest in
        let e : length rest + d ≡ length new = omega arith in
        ap (λ (t : List ℤ). new ++ t)
        (ap (λ (k : ℕ). drop k mid) (sym e) ∙ sym (drop-drop d (length rest) mid) ∙ ap (drop d) mid-rest ∙ drop-drop d (length rest) old ∙ ap (λ (k : ℕ). drop k old) e)

    pub list_more : {part : ℤ} {next : ℕ} {out : List ℤ} → part ≡ part_of factors borders last → FlowsListed (take count mid ++ raised_by part (take count mid)) mid next out
        → FlowsListed (flows_of factors borders) old next out
    list_more {part} {next} {out} e q =
        let same : take count mid ++ raised_by part (take count mid) ≡ flows_of factors borders = ap₂ (λ (z : ℤ) (r : List ℤ). r ++ raised_by z r) e mid-first ∙ sym flows-more in
        record {
          counted = q.counted ∙ ap length same;
          wrote =
              q.wrote ∙ ap (λ (flows : List ℤ). over flows mid) same
              ∙ over-again (flows_of factors borders) (omega (arith, rest-long, flows_length (part_of factors borders) (length borders), twice_two));
        }
