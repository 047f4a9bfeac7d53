-- The laws of `specs/Ranges.antt` that the judging constructors and the crates above cite. No contract cites this file.
use mathlib.Core.Path.{◌≡◌, refl, sym, ap, subst, ◌∙◌}
use mathlib.Core.Bool.{Bool, true, false, cond, not, ◌&&◌, ◌||◌, and-eq-true_iff, true≢false}
use mathlib.Core.List.{List, [], ◌∷◌}
use Prim.Native.Nat.{ℕ, ◌≤◌, ◌<◌}
use native.Mathlib.Omega.{arith}
use borrow.Author.Tests.{leb-true, ltb-true, le-ltb, not-true}
use lib.Dec.{T, ltb, leb, leb→le}
use lib.IntN.{ℤ, pos, negsuc, nat_abs}
use lib.Signed.{lt_z, non_neg}
use Rattle.numbers.specs.Ints.{Within, minus, same_ℤ, inside}
use Rattle.numbers.proofs.IntLaws.{Between, same_true, same_false, inside_true, inside_within, inside_pos, within_pos}
use Rattle.limits.specs.Limits.{zones_least, zones_most, borders_least, borders_most, rows_least, rows_most}
use Rattle.types.specs.declared.Header.{Header}
use Rattle.types.specs.declared.Share.TheVariants.{Standard, Written}
use Rattle.types.specs.LineLimits.{intraday_mark, net_most, lta_least, lta_most, fmax_least, fmax_most, frm_least, flow_most, share_most, share_standard, va_least, va_most, factor_most}
use Rattle.types.specs.Ranges.{at_ℤ, header_tests, header_fits, is_intraday, allocated_items, profiled, zone_tests, zone_fits, exists, no_hubs, hub_tests, hubs_fit, border_tests, border_fits, border_of, share_of, row_of, row_tests, row_fits, factor_fits, worth, default_of}
use Rattle.types.proofs.AllLaws.{all_at}

-- ---- numbers from 0 on

pub not_below : (z : ℤ) → not (lt_z z (pos 0)) ≡ true → T (non_neg z)
not_below (pos n) e = tt
not_below (negsuc n) e = subst T (sym e) tt

-- the test `z as u64 < zones`, of a z that is not below 0
pub exists_test : (zones : ℕ) (z : ℤ) → not (lt_z z (pos 0)) ≡ true → ltb (nat_abs z) zones ≡ exists zones z
unfolding exists
exists_test zones (pos n) e = rw e
exists_test zones (negsuc n) e = absurd (subst T (sym e) tt)

-- ---- what is known of a record that fits

pub record HeaderIn (h : Header) : Type 0 where
  pub zones_least_lem : zones_least ≤ h.zones
  pub zones_most_lem : h.zones ≤ zones_most
  pub borders_least_lem : borders_least ≤ h.borders
  pub borders_most_lem : h.borders ≤ borders_most
  pub rows_least_lem : rows_least ≤ h.rows
  pub rows_most_lem : h.rows ≤ rows_most
  pub share : inside (minus 1) (pos share_most) h.share ≡ true
  pub intraday : h.intraday ≤ intraday_mark

pub header_in_lem : (h : Header) → header_fits h ≡ true → HeaderIn h
unfolding header_fits
header_in_lem h e =
    let all = all_at (header_tests h) e in
    let zones = (and-eq-true_iff _ _).0 (all 0) in
    let borders = (and-eq-true_iff _ _).0 (all 1) in
    let rows = (and-eq-true_iff _ _).0 (all 2) in
    record {
      zones_least_lem = leb-true _ _ zones.0;
      zones_most_lem = leb-true _ _ zones.1;
      borders_least_lem = leb-true _ _ borders.0;
      borders_most_lem = leb-true _ _ borders.1;
      rows_least_lem = leb-true _ _ rows.0;
      rows_most_lem = leb-true _ _ rows.1;
      share = all 3;
      intraday = leb-true _ _ (all 4);
    }

-- a header in range stays in range whatever follows the Z lines
pub profiled_fits : (h : Header) (intraday : Bool) → header_fits h ≡ true → header_fits (profiled h intraday) ≡ true
unfolding header_fits
profiled_fits h intraday e = let all = all_at (header_tests h) e in rw (all 0, all 1, all 2, all 3) (go intraday)
  where
    go : (t : Bool) → (leb (cond t intraday_mark 0) intraday_mark && true) ≡ true
    go true = refl
    go false = refl

-- the T records: as many as zones, or none
module _ (h : Header) where
  pub allocated_most : allocated_items h ≤ h.zones
  unfolding allocated_items
  allocated_most = go (is_intraday h)
    where
      go : (t : Bool) → cond t h.zones 0 ≤ h.zones
      go true = omega arith
      go false = omega arith

  pub allocated_all : is_intraday h ≡ true → allocated_items h ≡ h.zones
  unfolding allocated_items
  allocated_all e = rw e

  pub allocated_none : is_intraday h ≡ false → allocated_items h ≡ 0
  unfolding allocated_items
  allocated_none e = rw e

pub zone_in : (net : ℤ) → zone_fits net ≡ true → Within net_most net
unfolding zone_fits
zone_in net e = inside_within net_most net (all_at (zone_tests net) e 0)

pub exists_in : (zones : ℕ) (z : ℤ) → exists zones z ≡ true → (z ≡ pos (nat_abs z)) × (nat_abs z < zones)
unfolding exists
exists_in zones (pos n) e = (refl, ltb-true n zones ((and-eq-true_iff (not (lt_z (pos n) (pos 0))) (lt_z (pos n) (pos zones))).0 e).1)
exists_in zones (negsuc n) e = absurd (subst T (sym e) tt)

-- hubs that fit: none, or two that exist and are not equal
pub data HubsIn (zones : ℕ) (sending receiving : ℤ) : Type 0 where
  none : sending ≡ minus 1 → receiving ≡ minus 1 → HubsIn zones sending receiving
  both : (sending ≡ pos (nat_abs sending)) × (nat_abs sending < zones) → (receiving ≡ pos (nat_abs receiving)) × (nat_abs receiving < zones) → (sending ≡ receiving → ⊥) → HubsIn zones sending receiving

module _ (zones : ℕ) (sending receiving : ℤ) where
  pub hubs_in : hubs_fit zones sending receiving ≡ true → HubsIn zones sending receiving
  unfolding hubs_fit
  hubs_in e = let all = all_at (hub_tests zones sending receiving) e in go (no_hubs sending receiving) refl (all 0) (all 1)
    where
      go : (t : Bool) → no_hubs sending receiving ≡ t → (t || exists zones sending) ≡ true → (t || (exists zones receiving && not (same_ℤ sending receiving))) ≡ true
          → HubsIn zones sending receiving
      go true q s r = let a = (and-eq-true_iff _ _).0 q in none (same_true sending (minus 1) a.0) (same_true receiving (minus 1) a.1)
      go false q s r =
          let a = (and-eq-true_iff _ _).0 r in
          both (exists_in zones sending s) (exists_in zones receiving a.0) (same_false sending receiving (not-true (same_ℤ sending receiving) a.1))

  -- a sending hub that is not below 0 comes with a receiving hub
  pub hubs_natural : hubs_fit zones sending receiving ≡ true → lt_z sending (pos 0) ≡ false → (sending ≡ pos (nat_abs sending)) × (receiving ≡ pos (nat_abs receiving))
  hubs_natural e q = go (hubs_in e)
    where
      go : HubsIn zones sending receiving → (sending ≡ pos (nat_abs sending)) × (receiving ≡ pos (nat_abs receiving))
      go (none s r) = absurd (true≢false (sym (ap (λ (z : ℤ). lt_z z (pos 0)) s) ∙ q))
      go (both s r apart) = (s.0, r.0)

-- the raw numbers are those of the border
pub record BorderIn (zones : ℕ) (raw : List ℤ) : Type 0 where
  pub from : at_ℤ raw 0 ≡ pos (border_of raw).from
  pub to : at_ℤ raw 1 ≡ pos (border_of raw).to
  pub lta : at_ℤ raw 2 ≡ pos (border_of raw).lta
  pub from_below : (border_of raw).from < zones
  pub to_below : (border_of raw).to < zones
  pub apart : (border_of raw).from ≡ (border_of raw).to → ⊥
  pub lta_most_lem : (border_of raw).lta ≤ lta_most
  pub hubs_fit_lem : hubs_fit zones (at_ℤ raw 3) (at_ℤ raw 4) ≡ true
  pub hubs : HubsIn zones (at_ℤ raw 3) (at_ℤ raw 4)

pub border_in : (zones : ℕ) (raw : List ℤ) → border_fits zones raw ≡ true → BorderIn zones raw
unfolding border_fits border_of hubs_fit
border_in zones raw e =
    let all = all_at (border_tests zones raw) e in
    let later = (and-eq-true_iff _ _).0 (all 1) in
    let from = exists_in zones (at_ℤ raw 0) (all 0) in
    let to = exists_in zones (at_ℤ raw 1) later.0 in
    let lta = inside_pos lta_least lta_most (at_ℤ raw 2) (all 2) in
    let hubs : hubs_fit zones (at_ℤ raw 3) (at_ℤ raw 4) ≡ true = rw (all 3, all 4) in
    record {
      from = from.0;
      to = to.0;
      lta = lta.is;
      from_below = from.1;
      to_below = to.1;
      apart = λ q. same_false (at_ℤ raw 0) (at_ℤ raw 1) (not-true (same_ℤ (at_ℤ raw 0) (at_ℤ raw 1)) later.1) (from.0 ∙ ap pos q ∙ sym to.0);
      lta_most_lem = lta.most;
      hubs_fit_lem = hubs;
      hubs = hubs_in zones (at_ℤ raw 3) (at_ℤ raw 4) hubs;
    }

pub record RowIn (raw : List ℤ) : Type 0 where
  pub fmax : Between fmax_least fmax_most (row_of raw).fmax
  pub frm : Between frm_least (nat_abs (row_of raw).fmax) (row_of raw).frm
  pub fref : Within flow_most (row_of raw).fref
  pub f0all : Within flow_most (row_of raw).f0all
  pub share : inside (minus 1) (pos share_most) (at_ℤ raw 4) ≡ true
  pub cva : Between va_least va_most (row_of raw).cva
  pub iva : Between va_least va_most (row_of raw).iva

pub row_in : (raw : List ℤ) → row_fits raw ≡ true → RowIn raw
unfolding row_fits row_of
row_in raw e =
    let all = all_at (row_tests raw) e in
    let fmax = inside_pos fmax_least fmax_most (at_ℤ raw 0) (all 0) in
    record {
      fmax = fmax;
      frm = inside_pos frm_least (nat_abs (at_ℤ raw 0)) (at_ℤ raw 1) (subst (λ (z : ℤ). inside (pos frm_least) z (at_ℤ raw 1) ≡ true) fmax.is (all 1));
      fref = inside_within flow_most (at_ℤ raw 2) (all 2);
      f0all = inside_within flow_most (at_ℤ raw 3) (all 3);
      share = all 4;
      cva = inside_pos va_least va_most (at_ℤ raw 5) (all 5);
      iva = inside_pos va_least va_most (at_ℤ raw 6) (all 6);
    }

-- a raw share: -1 or a share of Fmax
pub raw_share_in : (r : ℤ) → inside (minus 1) (pos share_most) r ≡ true → Within share_most r
raw_share_in (pos n) e = within_pos (leb→le n share_most (inside_true (minus 1) (pos share_most) (pos n) e).1.le)
raw_share_in (negsuc n) e = record { abs = omega (arith, leb→le n 0 (inside_true (minus 1) (pos share_most) (negsuc n) e).0.le) }

-- what R is worth is a share of Fmax where the default is, "-" too
pub share_in : (default : ℤ) → Within share_most default → (r : ℤ) → inside (minus 1) (pos share_most) r ≡ true → Within share_most (worth default (share_of r))
unfolding worth share_of
share_in default d (pos n) e = rw (le-ltb n 0 (omega arith)) (raw_share_in (pos n) e)
share_in default d (negsuc n) e = d

pub default_in : (h : Header) → header_fits h ≡ true → Within share_most (default_of h)
unfolding default_of
default_in h e = share_in (pos share_standard) (within_pos (omega arith)) h.share (header_in_lem h e).share

-- what R is worth is in R's range where the default is, and not below 0
module _ (default : ℤ) (r : ℤ) where
  pub worth_fits : inside (minus 1) (pos share_most) default ≡ true → inside (minus 1) (pos share_most) r ≡ true → inside (minus 1) (pos share_most) (worth default (share_of r)) ≡ true
  unfolding worth share_of
  worth_fits d e = go (lt_z r (pos 0))
    where
      go : (t : Bool) → inside (minus 1) (pos share_most) (worth default (cond t Standard (Written r))) ≡ true
      go true = d
      go false = e

  pub worth_low : lt_z default (pos 0) ≡ false → lt_z (worth default (share_of r)) (pos 0) ≡ false
  unfolding worth share_of
  worth_low d = go (lt_z r (pos 0)) refl
    where
      go : (t : Bool) → lt_z r (pos 0) ≡ t → lt_z (worth default (cond t Standard (Written r))) (pos 0) ≡ false
      go true e = d
      go false e = e

pub default_fits : (h : Header) → header_fits h ≡ true → inside (minus 1) (pos share_most) (default_of h) ≡ true
unfolding default_of inside
default_fits h e = worth_fits (pos share_standard) h.share refl (header_in_lem h e).share

pub default_low : (h : Header) → lt_z (default_of h) (pos 0) ≡ false
unfolding default_of
default_low h = worth_low (pos share_standard) h.share refl

pub factor_in : (factor : ℤ) → factor_fits factor ≡ true → Within factor_most factor
unfolding factor_fits
factor_in factor e = inside_within factor_most factor e
