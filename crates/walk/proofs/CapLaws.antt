-- How caps become the raises: a row tightens them and they still cap (`Capped`); after the last row they are the raises.
-- First caps: the margin of the first row that loads the border. No contract cites this file.
use mathlib.Core.Path.{◌≡◌, refl, sym, ap, ◌∙◌, subst}
use mathlib.Core.List.{List}
use mathlib.Core.Logic.{⊎_elim}
use Prim.Native.Nat.{ℕ, ◌+◌, ◌*◌, ◌/◌, ◌≤◌, ◌<◌}
use native.Mathlib.Nat.{not-suc-le-zero, le_refl, le_trans, le_antisymm, le_of_eq, mul-le-mul_right, le-div_iff_mul-le, div-le_self}
use native.Mathlib.Numerals.{add-one}
use native.Mathlib.Omega.{arith}
use lib.ListN.{length, set, length-set}
use lib.Seq.{get_or-set_same, get_or-set_other}
use Rattle.numbers.specs.Below.{at, table}
use Rattle.numbers.proofs.BelowLaws.{lt_suc_cases, le_or_lt, table_long, table_get, table_of}
use Rattle.rounds.specs.Rounds.{Grid, sharers, raise, alone, raises}
use Rattle.rounds.specs.AllRounds.{Ready}
use Rattle.rounds.proofs.LeastLaws.{least_some, least_one, least_mono, div_mono}
use Rattle.rounds.proofs.Round.{raise_le, alone_le}
use Rattle.rounds.proofs.Loops.{ready_at}
use Rattle.walk.specs.Walk.{First, Cap, Caps, tightened}
use Rattle.caps.specs.Tight.{tight}
use Rattle.caps.proofs.TightLaws.{tight_le, tight_share, tight_over}

-- ---- row by row

-- w caps the raises of the margins m, and the rows f 0, .., f (k - 1), of `last` that are looked at, allow no less
pub record Capped (g : Grid) (m w : List ℕ) (f : ℕ → ℕ) (last k : ℕ) : Type 0 where
  pub high : k ≤ last
  pub long : length w ≡ g.borders
  pub caps : Caps g m w
  pub under : (k' : ℕ) → k' < k → (b : ℕ) → b < g.borders → at w b * g.p (f k') b ≤ at m (f k') / sharers g (f k')

pub capped_none : (g : Grid) (m w : List ℕ) (f : ℕ → ℕ) (last : ℕ) → length w ≡ g.borders → Caps g m w → Capped g m w f last 0
capped_none g m w f last l q = record { high = omega arith; long = l; caps = q; under = λ k' h. absurd (not-suc-le-zero h) }

module _ {g : Grid} {m w : List ℕ} {f : ℕ → ℕ} {last k : ℕ} (u : Capped g m w f last k) where
  module _ (hk : k < last) (i : ℕ) (ei : i ≡ f k) (hi : i < g.rows) (share : ℕ) (e : share ≡ at m i / sharers g i) (w' : List ℕ) (ew : w' ≡ table g.borders (tightened g i share w)) where
    capped_at : (b : ℕ) → b < g.borders → at w' b ≡ tight (g.p i b) share (at w b)
    unfolding tightened
    capped_at b hb = ap (λ (l : List ℕ). at l b) ew ∙ table_get g.borders (tightened g i share w) b 0 hb

    pub capped_less : (b : ℕ) → b < g.borders → at w' b ≤ at w b
    capped_less b hb = omega (arith, capped_at b hb, tight_le (g.p i b) share (at w b))

    pub capped_more : Capped g m w' f last (k + 1)
    capped_more =
        record {
          high = omega arith;
          long = ap length ew ∙ table_long g.borders (tightened g i share w);
          caps = λ b hb.
              let c = u.caps b hb in
              let d : (z : 0 < at w' b) → 0 < at w b = λ z. omega (arith, capped_less b hb) in
              record {
                over =
                    rw (capped_at b hb)
                    (tight_over (g.p i b) share (at w b) (raise g m b) c.over (λ z. rw e (raise_le g m i b hi z)));
                row = λ z. c.row (d z);
                inside = λ z. c.inside (d z);
                loads = λ z. c.loads (d z);
              };
          under = λ k' h b hb.
              ⊎_elim
              (λ a. le_trans (mul-le-mul_right (g.p (f k') b) (capped_less b hb)) (u.under k' a b hb))
              (λ y. subst (λ (r : ℕ). at w' b * g.p r b ≤ at m r / sharers g r) (ei ∙ ap f (sym y)) (rw (capped_at b hb, ← e) (tight_share (g.p i b) share (at w b))))
              (lt_suc_cases k' k (rw add-one at h));
        }

  -- w is the raises, where no row allows less
  pub capped_all : ((i : ℕ) → i < g.rows → (b : ℕ) → b < g.borders → at w b * g.p i b ≤ at m i / sharers g i) → w ≡ raises g m
  unfolding raises raise
  capped_all under =
      table_of g.borders (raise g m) w 0 u.long
      (λ b hb.
      let c = u.caps b hb in
      ⊎_elim
      (λ z. omega (arith, c.over))
      (λ z.
      let s = least_some g.rows (λ i. g.p i b) (λ i. at m i / sharers g i / g.p i b) (c.row z) (c.inside z) (c.loads z) in
      le_antisymm
      (le_trans ((le-div_iff_mul-le s.counts).1 (under s.i s.below b hb)) (le_of_eq s.is))
      c.over)
      (le_or_lt (at w b) 0))

-- all rows, one after the other, each by the share that the code computes
module _ {g : Grid} {m w : List ℕ} {i : ℕ} (u : Capped g m w (λ i. i) g.rows i) where
  pub capped_by : {ns : List ℕ} → Ready g ns m → i < g.rows → (share : ℕ) → share ≡ at m i / at ns i → (w' : List ℕ) → w' ≡ table g.borders (tightened g i share w) → Capped g m w' (λ i. i) g.rows (i + 1)
  capped_by q hi share e w' ew = capped_more u hi i refl hi share (e ∙ ap (λ (k : ℕ). at m i / k) (ready_at q i hi)) w' ew

  pub capped_rows : g.rows ≤ i → w ≡ raises g m
  capped_rows h = capped_all u (λ i' hi b hb. u.under i' (omega arith) b hb)

-- ---- first caps

-- no row allows a border more than its margin
pub margin_first : (g : Grid) (m : List ℕ) (i b f : ℕ) → i < g.rows → f ≡ g.p i b → 0 < f → First g m b (at m i)
margin_first g m i b f hi e z =
    let y : 0 < g.p i b = omega arith in
    record { over = le_trans (alone_le g m i b hi y) (div-le_self (at m i) (g.p i b)); some = λ z. (i, hi, y, le_refl (at m i)) }

-- a border that none of the first i rows loads
pub record Unloaded (g : Grid) (b i : ℕ) : Type 0 where
  pub high : i ≤ g.rows
  pub none : (i' : ℕ) → i' < i → g.p i' b ≡ 0

pub unloaded_none : (g : Grid) (b : ℕ) → Unloaded g b 0
unloaded_none g b = record { high = omega arith; none = λ i' h. absurd (not-suc-le-zero h) }

pub unloaded_more : {g : Grid} {b i : ℕ} → Unloaded g b i → (f : ℕ) → i < g.rows → f ≡ g.p i b → f ≤ 0 → Unloaded g b (i + 1)
unloaded_more {g} {b} {i} u f hi e l =
    record {
      high = omega arith;
      none = λ i' h. ⊎_elim (λ a. u.none i' a) (λ y. omega (arith, ap (λ (k : ℕ). g.p k b) y)) (lt_suc_cases i' i (rw add-one at h));
    }

pub unloaded_first : {g : Grid} {b i : ℕ} → Unloaded g b i → (m : List ℕ) → g.rows ≤ i → First g m b 0
unfolding alone
unloaded_first {g} {b} {i} u m h =
    record {
      over =
          ⊎_elim
          (λ l. l)
          (λ l. let s = least_one g.rows (λ i. g.p i b) (λ i. at m i / g.p i b) l in omega (arith, s.counts, u.none s.i (omega (arith, s.below))))
          (le_or_lt (alone g m b) 0);
      some = λ z. absurd (not-suc-le-zero z);
    }

-- among sharers a border rises by no more than it could take alone
pub first_cap : {g : Grid} {m : List ℕ} {b v : ℕ} → First g m b v → Cap g m b v
unfolding raise alone
first_cap {g} {m} {b} {v} f =
    record {
      over =
          le_trans
          (least_mono g.rows (λ i. g.p i b) (λ i. at m i / sharers g i / g.p i b) (λ i. at m i / g.p i b) (λ i hi hp. div_mono (g.p i b) (div-le_self (at m i) (sharers g i))))
          f.over;
      row = λ z. (f.some z).0;
      inside = λ z. (f.some z).1;
      loads = λ z. (f.some z).2;
    }

-- the borders before b have their cap
pub record FirstCaps (g : Grid) (m v : List ℕ) (b : ℕ) : Type 0 where
  pub high : b ≤ g.borders
  pub long : length v ≡ g.borders
  pub found : (c : ℕ) → c < b → Cap g m c (at v c)

pub first_caps_none : (g : Grid) (m v : List ℕ) → length v ≡ g.borders → FirstCaps g m v 0
first_caps_none g m v l = record { high = omega arith; long = l; found = λ c h. absurd (not-suc-le-zero h) }

pub first_caps_more : {g : Grid} {m v : List ℕ} {b : ℕ} → FirstCaps g m v b → b < g.borders → (w : ℕ) → Cap g m b w → FirstCaps g m (set v b w) (b + 1)
first_caps_more {g} {m} {v} {b} u hb w q =
    record {
      high = omega arith;
      long = simp length-set u.long;
      found = λ c h.
          ⊎_elim
          (λ a. rw (get_or-set_other v b c w 0 (λ y. omega arith)) (u.found c a))
          (λ y. rw (y, get_or-set_same v b w 0 (omega (arith, u.long))) q)
          (lt_suc_cases c b (rw add-one at h));
    }

pub first_caps_all : {g : Grid} {m v : List ℕ} {b : ℕ} → FirstCaps g m v b → g.borders ≤ b → Caps g m v
first_caps_all u h c hc = u.found c (omega arith)
