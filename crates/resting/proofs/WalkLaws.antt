-- A round visits only the near rows (`Walking` is the walk's invariant); a resting row would lower no cap. `Waiting` holds between two rounds: a round keeps it
-- (`waiting-next`), and so do lowering the margins and sorting again (`block-renewed`).
-- No contract cites this file.
use mathlib.Core.Path.{◌≡◌, refl, sym, ap, ap₂, ◌∙◌}
use mathlib.Core.List.{List}
use mathlib.Core.Logic.{inl, inr, ⊎_elim}
use Prim.Native.Nat.{ℕ, ◌+◌, ◌*◌, ◌-◌, ◌/◌, ◌^◌, ◌≤◌, ◌<◌}
use native.Mathlib.Nat.{le_trans, le_refl, mul-le-mul, mul-le-mul_left, mul-le-mul_right, add-mul, one-mul, div-mul-le_self}
use native.Mathlib.Omega.{arith}
use lib.ListN.{length, set, replicate, length-replicate, get_or-replicate}
use Rattle.numbers.specs.Below.{at, table}
use Rattle.numbers.proofs.BelowLaws.{table_long, table_get}
use Rattle.numbers.proofs.ListLaws.{Filled, filled_rest, filled_more}
use Rattle.rounds.specs.Rounds.{Grid, sharers, raises, load, lowered, risen}
use Rattle.rounds.specs.AllRounds.{Ready}
use Rattle.rounds.proofs.Round.{raises_long}
use Rattle.rounds.proofs.Loops.{ready_at}
use Rattle.walk.specs.Walk.{Listed, tightened, most_load, Loadable}
use Rattle.walk.proofs.ListedLaws.{listed_all, listed_zero, listed_less}
use Rattle.walk.proofs.LoadLaws.{slack_part}
use Rattle.walk.proofs.CapLaws.{Capped, capped_none, capped_less, capped_more, capped_all}
use Rattle.nearness.specs.Near.{Yields, Sortable, Sorted}
use Rattle.nearness.proofs.RaiseLaws.{raises_within, most_within}
use Rattle.nearness.proofs.YieldLaws.{load_yields, most_yields}
use Rattle.resting.specs.Resting.{left_to, Settleable, near_row, near_rows, Waiting, Renewed, Walkable, Steppable, stepped}
use Rattle.resting.proofs.LoadLaws.{load_add, load_none, load_less, most_less, left_at, left_step, left_none, raises_less, raises_cap}
use Rattle.resting.proofs.WatchLaws.{near_inside, watched_block, watched_none}

-- ---- the walk

-- the first k near rows have tightened the caps, which were w₀
pub record Walking (g : Grid) (s d near : List ℕ) (count : ℕ) (w₀ w : List ℕ) (k : ℕ) : Type 0 where
  pub capped : Capped g (left_to g d s) w (near_row near count) (near_rows g near count) k
  pub lower : (b : ℕ) → b < g.borders → at w b ≤ at w₀ b

module _ {g : Grid} {ns s d w₀ list : List ℕ} {near : List ℕ} {count : ℕ} (q : Walkable g ns s d w₀ list near count) where
  -- the margins before the round, and after it
  unfoldable old : List ℕ
  old = left_to g q.before s

  old-found : w₀ ≡ raises g old
  unfolding old
  old-found = q.waiting.found

  old-left : left_to g d s ≡ left_to g w₀ old
  unfolding old
  old-left = ap (λ (l : List ℕ). left_to g l s) q.gained ∙ left_step g q.before s w₀

  old-at : (i : ℕ) → i < g.rows → at old i ≡ at s i - load g i q.before
  unfolding old
  old-at i hi = left_at g q.before s i hi

  pub gained_long : length d ≡ g.borders
  gained_long = ap length q.gained ∙ table_long g.borders (risen w₀ q.before)

  gained-at : (b : ℕ) → b < g.borders → at d b ≡ at q.before b + at w₀ b
  unfolding risen
  gained-at b hb = ap (λ (l : List ℕ). at l b) q.gained ∙ table_get g.borders (risen w₀ q.before) b 0 hb

  gained-load : (i : ℕ) → load g i d ≡ load g i q.before + load g i w₀
  gained-load i = ap (load g i) q.gained ∙ load_add g i w₀ q.before

  -- no row loses more than it had
  pub gained_within : (i : ℕ) → i < g.rows → load g i d ≤ at s i
  gained_within i hi = omega (arith, gained-load i, old-at i hi, raises_within g old old-found i hi, q.waiting.within i hi)

  gained-listed : Listed g.borders d list
  gained-listed = rw q.gained q.waiting.listed

  pub walk_long : length w₀ ≡ g.borders
  walk_long = raises_long g old old-found

  pub walking_none : Walking g s d near count w₀ w₀ 0
  walking_none =
      record {
        capped = capped_none g (left_to g d s) w₀ _ _ walk_long (rw old-left (raises_cap g old old-found));
        lower = λ b hb. le_refl (at w₀ b);
      }

  module _ {w : List ℕ} {k : ℕ} (u : Walking g s d near count w₀ w k) where
    walk-lower : (b : ℕ) → b < g.borders → at w b ≤ at d b
    walk-lower b hb = omega (arith, u.lower b hb, gained-at b hb)

    walk_listed : Listed g.borders w list
    walk_listed = listed_less gained-listed w walk-lower

    module _ (hk : k < near_rows g near count) (i : ℕ) (ei : i ≡ near_row near count k) where
      pub walk_row : i < g.rows
      walk_row = omega (arith, near_inside q.waiting.watched k hk)

      -- n times the most part is within the margin before the round
      pub walk_step : Steppable g ns s d w list i
      walk_step =
          record {
            ready = q.waiting.ready;
            row = walk_row;
            loadable =
                record {
                  raises = gained_long;
                  caps = u.capped.long;
                  listed = gained-listed;
                  lower = walk-lower;
                  fits = omega (arith, gained_within i walk_row, q.waiting.fits i walk_row);
                };
            listed = walk_listed;
            within = gained_within i walk_row;
            product =
                omega (
                  arith,
                  mul-le-mul_right (sharers g i) (most_less g i w w₀ u.lower),
                  most_within g old old-found i walk_row,
                  old-at i walk_row,
                  q.waiting.fits i walk_row,
                );
          }

      module _ (w' : List ℕ) (ew : w' ≡ stepped g s d w i) where
        pub walking_more : Walking g s d near count w₀ w' (k + 1)
        walking_more =
            record {
              capped = capped_more u.capped hk i ei walk_row (at (left_to g d s) i / sharers g i) refl w' ew;
              lower = λ b hb. le_trans (capped_less u.capped hk i ei walk_row (at (left_to g d s) i / sharers g i) refl w' ew b hb) (u.lower b hb);
            }

    -- a resting row allows no less
    rest-slack : (i : ℕ) → i < g.rows → q.wait * load g i w₀ + load g i q.before + most_load g i w₀ * sharers g i ≤ at s i → most_load g i w * sharers g i ≤ at (left_to g d s) i
    rest-slack i hi h =
        omega (
          arith,
          mul-le-mul_right (sharers g i) (most_less g i w w₀ u.lower),
          mul-le-mul_right (load g i w₀) q.some,
          one-mul (load g i w₀),
          gained-load i,
          left_at g d s i hi,
        )

    -- a row that yields to a row that was looked at allows no less
    led-slack : (i : ℕ) → i < g.rows → (j : ℕ) → j < near_rows g near count → Yields g s list (near_row near count j) i → ((b : ℕ) → b < g.borders → at w b * g.p (near_row near count j) b ≤ at (left_to g d s) (near_row near count j) / sharers g (near_row near count j)) → most_load g i w * sharers g i ≤ at (left_to g d s) i
    led-slack i hi j hj y h =
        let t : ℕ = near_row near count j in
        let ht : t < g.rows = near_inside q.waiting.watched j hj in
        let share : ℕ = at (left_to g d s) t / sharers g t in
        let m : most_load g i w * sharers g i ≤ share * sharers g t = mul-le-mul (most_yields y walk_listed share h) y.share in
        omega (
          arith,
          m,
          div-mul-le_self (at (left_to g d s) t) (sharers g t),
          left_at g d s t ht,
          left_at g d s i hi,
          load_yields y gained-listed,
          gained_within t ht,
          y.margin,
        )

    within : (i : ℕ) → most_load g i w * sharers g i ≤ at (left_to g d s) i → (b : ℕ) → b < g.borders → at w b * g.p i b ≤ at (left_to g d s) i / sharers g i
    within i h b hb = slack_part g i w u.capped.long (sharers g i) (at (left_to g d s) i) (most_load g i w) refl refl h b hb

    pub walking_all : near_rows g near count ≤ k → w ≡ raises g (left_to g d s)
    walking_all h =
        capped_all u.capped
        (λ i hi b hb.
        ⊎_elim
        (λ z. within i (led-slack i hi z.place z.before z.yields (u.capped.under z.place (omega (arith, z.before)))) b hb)
        (λ z. within i (rest-slack i hi z) b hb)
        (q.waiting.watched.each i hi))

  -- ---- a round later

  module _ {w : List ℕ} (e : w ≡ raises g (left_to g d s)) where
    fell : (b : ℕ) → b < g.borders → at w b ≤ at w₀ b
    fell = raises_less g old old-found (e ∙ ap (raises g) old-left)

    rests-on : (wait i : ℕ) → q.wait ≡ wait + 1 → q.wait * load g i w₀ + load g i q.before + most_load g i w₀ * sharers g i ≤ at s i → wait * load g i w + load g i d + most_load g i w * sharers g i ≤ at s i
    rests-on wait i y h =
        let t : (wait + 1) * load g i w₀ + load g i q.before + most_load g i w₀ * sharers g i ≤ at s i = rw y at h in
        omega (
          arith,
          mul-le-mul_right (sharers g i) (most_less g i w w₀ fell),
          mul-le-mul_left wait (load_less g i w w₀ fell),
          add-mul wait 1 (load g i w₀),
          one-mul (load g i w₀),
          gained-load i,
        )

    pub waiting_next : (wait : ℕ) → q.wait ≡ wait + 1 → Waiting g ns s d w list near count wait
    unfolding risen
    waiting_next wait y =
        record {
          ready = q.waiting.ready;
          fits = q.waiting.fits;
          gained = gained_long;
          within = gained_within;
          found = e;
          listed =
              listed_zero gained-listed (table g.borders (risen w d))
              (λ b hb z. table_get g.borders (risen w d) b 0 hb ∙ omega (arith, fell b hb, gained-at b hb));
          room = q.waiting.room;
          watched =
              record {
                few = q.waiting.watched.few;
                inside = q.waiting.watched.inside;
                each = λ i hi. ⊎_elim (λ z. inl z) (λ z. inr (rests-on wait i y z)) (q.waiting.watched.each i hi);
              };
        }

-- what walking row i leaves, by the loss and the n that the code finds
pub step_left : {g : Grid} {ns s d w list : List ℕ} {i : ℕ} → Steppable g ns s d w list i → (loss : ℕ) → loss ≡ load g i d → table g.borders (tightened g i ((at s i - loss) / at ns i) w) ≡ stepped g s d w i
step_left {g} {ns} {s} {d} {w} {list} {i} q loss e =
    ap (λ (share : ℕ). table g.borders (tightened g i share w))
    (ap₂ ◌/◌ (ap (λ (l : ℕ). at s i - l) e ∙ sym (left_at g d s i q.row)) (ready_at q.ready i q.row))

-- ---- taking the losses

-- a row of `settle`
module _ {g : Grid} {s₀ d list : List ℕ} (q : Settleable g s₀ d list) {s : List ℕ} {i : ℕ} (u : Filled (lowered g d s₀) g.rows s₀ s i) (hi : i < g.rows) where
  settle-old : at s i ≡ at s₀ i
  settle-old = filled_rest u 0 (omega (arith, q.margins))

  pub settle_loadable : at s i < 2 ^ 64 → Loadable g i d d list
  settle_loadable h =
      record {
        raises = q.gained;
        caps = q.gained;
        listed = q.listed;
        lower = λ b hb. le_refl (at d b);
        fits = omega (arith, settle-old, q.within i hi);
      }

  module _ (loss : ℕ) (el : loss ≡ load g i d) where
    pub settle_loss : loss ≤ at s i
    settle_loss = omega (arith, settle-old, q.within i hi)

    pub settle_more : Filled (lowered g d s₀) g.rows s₀ (set s i (at s i - loss)) (i + 1)
    unfolding lowered
    settle_more = filled_more u (at s i - loss) hi (omega (arith, q.margins)) (ap₂ ◌-◌ settle-old el)

-- at the start nothing is gained, all borders are listed, and no row
pub waiting_start : {g : Grid} {ns s d w list near : List ℕ} → Ready g ns s → ((i : ℕ) → i < g.rows → at s i < 2 ^ 64) → length d ≡ g.borders → ((b : ℕ) → b < g.borders → at d b ≡ 0) → w ≡ raises g (left_to g d s) → list ≡ table g.borders (λ b. b) → length near ≤ g.rows → Waiting g ns s d w list near 0 0
waiting_start {g} {ns} {s} {d} {w} {list} {near} r f ld z ew el l =
    let within : (i : ℕ) → i < g.rows → load g i d ≤ at s i = λ i hi. omega (arith, load_none g i d z) in
    record {
      ready = r;
      fits = f;
      gained = ld;
      within = within;
      found = ew;
      listed = listed_all g.borders (table g.borders (risen w d)) list el;
      room = l;
      watched = watched_none g s d w list near ew within;
    }

-- a block later
module _ {g : Grid} {ns s d w list : List ℕ} {near : List ℕ} {count wait : ℕ} (u : Waiting g ns s d w list near count wait) where
  gaining-at : (b : ℕ) → b < g.borders → at (table g.borders (risen w d)) b ≡ at d b + at w b
  unfolding risen
  gaining-at b hb = table_get g.borders (risen w d) b 0 hb

  pub waiting_settleable : Settleable g s d list
  waiting_settleable =
      record {
        margins = u.ready.margins;
        gained = u.gained;
        listed = listed_less u.listed d (λ b hb. omega (arith, gaining-at b hb));
        within = u.within;
      }

  caps-long : length w ≡ g.borders
  caps-long = raises_long g (left_to g d s) u.found

  -- the list holds the borders whose cap is above 0
  pub waiting_caps : Listed (length w) w list
  waiting_caps = rw caps-long (listed_less u.listed w (λ b hb. omega (arith, gaining-at b hb)))

  module _ {s' : List ℕ} (es : s' ≡ left_to g d s) {list' : List ℕ} (k : Listed (length w) w list') where
    kept-caps : Listed g.borders w list'
    kept-caps = rw caps-long at k

    pub block_sortable : Sortable g ns s' w list'
    block_sortable =
        record {
          ready = record { counts = u.ready.counts; margins = ap length es ∙ table_long g.rows (lowered g d s) };
          fits = λ i hi. omega (arith, ap (λ (l : List ℕ). at l i) es, left_at g d s i hi, u.fits i hi);
          found = u.found ∙ ap (raises g) (sym es);
          listed = kept-caps;
        }

    module _ {d' : List ℕ} (ed : d' ≡ replicate (length d) 0) where
      cleared : (b : ℕ) → b < g.borders → at d' b ≡ 0
      cleared b hb = ap (λ (l : List ℕ). at l b) ed ∙ get_or-replicate (length d) b 0 0 (omega (arith, u.gained))

      block_same : left_to g d' s' ≡ left_to g d s
      block_same = left_none g d' s' cleared block_sortable.ready.margins ∙ es

      waiting-block : {near' : List ℕ} {count' wait' : ℕ} → length near' ≡ length near → Sorted g s' w list' wait' near' count' (length near') → Waiting g ns s' d' w list' near' count' wait'
      unfolding risen
      waiting-block {near'} {count'} {wait'} el a =
          let l : length near' ≤ g.rows = omega (arith, u.room) in
          record {
            ready = block_sortable.ready;
            fits = block_sortable.fits;
            gained = ap length ed ∙ length-replicate (length d) 0 ∙ u.gained;
            within = λ i hi. omega (arith, load_none g i d' cleared);
            found = u.found ∙ ap (raises g) (sym block_same);
            listed = listed_less kept-caps (table g.borders (risen w d')) (λ b hb. omega (arith, table_get g.borders (risen w d') b 0 hb, cleared b hb));
            room = l;
            watched = watched_block a l d' cleared;
          }

      pub block_renewed : {near' : List ℕ} {count' wait' : ℕ} → length near' ≡ length near → Sorted g s' w list' wait' near' count' (length near') → 0 < wait' → (wait'' : ℕ) → wait'' ≡ wait' → Renewed g ns s d near s' d' w list' near' count' wait''
      block_renewed en a z wait'' e = rw e (record { waiting = waiting-block en a; some = z; same = block_same; places = en })
