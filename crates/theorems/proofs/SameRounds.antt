-- Two lists of rows give the same rounds and exchanges (`same-rounds`) where each row of one is covered by a row of the other, with the same factors and a margin no higher.
-- So rows that another covers may be left out, and rows may stand in any order (`reordered`).
use mathlib.Core.Path.{◌≡◌, refl, sym, ap, ap₂, ◌∙◌}
use mathlib.Core.List.{List}
use Prim.Native.Nat.{ℕ, suc, ◌*◌, ◌/◌, ◌≤◌, ◌<◌}
use native.Mathlib.Nat.{le_antisymm}
use native.Mathlib.Omega.{arith}
use Rattle.numbers.specs.Below.{sum, count, at}
use Rattle.numbers.proofs.BelowLaws.{sum_cong, count_cong}
use Rattle.rounds.specs.Rounds.{Grid, State, sharers, raise, raises, load, next, raised, Rounds, done, more}
use Rattle.rounds.proofs.LeastLaws.{least_below, div_mono}
use Rattle.rounds.proofs.Round.{raises_at, next_margin, next_x}

-- Row i of g is covered by a row of g'.
pub record Cover (g g' : Grid) (m m' : List ℕ) (i : ℕ) : Type 0 where
  pub row : ℕ
  pub below : row < g'.rows
  pub same : (b : ℕ) → b < g.borders → g'.p row b ≡ g.p i b
  pub lower : at m' row ≤ at m i

-- Each row of g that loads a border is covered by a row of g'.
abbrev pub Covers : Grid → Grid → List ℕ → List ℕ → Type 0
Covers g g' m m' = (i b : ℕ) → i < g.rows → b < g.borders → 0 < g.p i b → Cover g g' m m' i

module _ (g g' : Grid) (eb : g'.borders ≡ g.borders) where
  same-sharers : (m m' : List ℕ) (i : ℕ) (c : Cover g g' m m' i) → sharers g' c.row ≡ sharers g i
  unfolding sharers
  same-sharers m m' i c = ap (λ (k : ℕ). count k (g'.p c.row)) eb ∙ count_cong g.borders (g'.p c.row) (g.p i) c.same

  raise-covered : (m m' : List ℕ) → Covers g g' m m' → Covers g' g m' m → (b : ℕ) → b < g.borders → raise g' m' b ≤ raise g m b
  unfolding raise
  raise-covered m m' cs cs' b hb =
      least_below g'.rows (λ i. g'.p i b) (λ i. at m' i / sharers g' i / g'.p i b) g.rows (λ i. g.p i b) (λ i. at m i / sharers g i / g.p i b)
      (λ i hi hp.
      let c = cs i b hi hb hp in
      (c.row, c.below, rw (c.same b hb) hp, rw (same-sharers m m' i c, c.same b hb) (div_mono (g.p i b) (div_mono (sharers g i) c.lower))))
      (λ i' hi hp.
      let hb' : b < g'.borders = omega arith in
      let c = cs' i' b hi hb' hp in
      (c.row, c.below, rw (c.same b hb') hp))

module _ (g g' : Grid) (eb : g'.borders ≡ g.borders) (s s' : State) (cs : Covers g g' s.margins s'.margins) (cs' : Covers g' g s'.margins s.margins) where
  same-raise : (b : ℕ) → b < g.borders → raise g' s'.margins b ≡ raise g s.margins b
  same-raise b hb =
      le_antisymm
      (raise-covered g g' eb s.margins s'.margins cs cs' b hb)
      (raise-covered g' g (sym eb) s'.margins s.margins cs' cs b (omega arith))

  same-raises : (b : ℕ) → b < g.borders → at (raises g' s'.margins) b ≡ at (raises g s.margins) b
  same-raises b hb = raises_at g' s'.margins b (omega arith) ∙ same-raise b hb ∙ sym (raises_at g s.margins b hb)

  same-raised : raised g' s' ≡ raised g s
  unfolding raised
  same-raised = ap (λ (k : ℕ). count k (raise g' s'.margins)) eb ∙ count_cong g.borders _ _ same-raise

  same_load : (i : ℕ) (c : Cover g g' s.margins s'.margins i) → load g' c.row (raises g' s'.margins) ≡ load g i (raises g s.margins)
  unfolding load
  same_load i c =
      ap (λ (k : ℕ). sum k (λ b. g'.p c.row b * at (raises g' s'.margins) b)) eb
      ∙ sum_cong g.borders _ _ (λ b hb. ap₂ ◌*◌ (c.same b hb) (same-raises b hb))

  next-covers : Covers g g' (next g s).margins (next g' s').margins
  next-covers i b hi hb hp =
      let c = cs i b hi hb hp in
      record {
        row = c.row;
        below = c.below;
        same = c.same;
        lower = omega (arith, next_margin g s i hi, next_margin g' s' c.row c.below, same_load i c, c.lower);
      }

  next-same-x : ((b : ℕ) → b < g.borders → at s'.x b ≡ at s.x b) → (b : ℕ) → b < g.borders → at (next g' s').x b ≡ at (next g s).x b
  next-same-x e b hb = omega (arith, next_x g s b hb, next_x g' s' b (omega arith), same-raises b hb, e b hb)

pub same_rounds : {g g' : Grid} → g'.borders ≡ g.borders → {s s' t t' : State} {k k' : ℕ} → Covers g g' s.margins s'.margins → Covers g' g s'.margins s.margins → ((b : ℕ) → b < g.borders → at s'.x b ≡ at s.x b) → Rounds g s k t → Rounds g' s' k' t' → (k' ≡ k) × ((b : ℕ) → b < g.borders → at t'.x b ≡ at t.x b)
same_rounds eb cs cs' ex (done e) (done e') = (refl, ex)
same_rounds {g} {g'} eb cs cs' ex (done {s = s} e) (more {s = s'} l' w') = let z : ⊥ = omega (arith, same-raised g g' eb s s' cs cs') in absurd z
same_rounds {g} {g'} eb cs cs' ex (more {s = s} l w) (done {s = s'} e') = let z : ⊥ = omega (arith, same-raised g g' eb s s' cs cs') in absurd z
same_rounds {g} {g'} eb cs cs' ex (more {s = s} l w) (more {s = s'} l' w') =
    let u = same_rounds eb (next-covers g g' eb s s' cs cs') (next-covers g' g (sym eb) s' s cs' cs) (next-same-x g g' eb s s' cs cs' ex) w w' in
    (ap suc u.0, u.1)

-- Rows in any order: row i of the second is row σ i of the first.
pub reordered : (g g' : Grid) (s s' : State) (σ τ : ℕ → ℕ) → g'.borders ≡ g.borders → g'.rows ≡ g.rows → ((i : ℕ) → i < g.rows → (σ i < g.rows) × (τ i < g.rows) × (σ (τ i) ≡ i)) → ((i b : ℕ) → i < g.rows → b < g.borders → g'.p i b ≡ g.p (σ i) b) → ((i : ℕ) → i < g.rows → at s'.margins i ≡ at s.margins (σ i)) → ((b : ℕ) → b < g.borders → at s'.x b ≡ at s.x b) → {t t' : State} {k k' : ℕ} → Rounds g s k t → Rounds g' s' k' t' → (k' ≡ k) × ((b : ℕ) → b < g.borders → at t'.x b ≡ at t.x b)
reordered g g' s s' σ τ eb er perm ep em ex w w' =
    same_rounds eb
    (λ i b hi hb hp.
    let q = perm i hi in
    record {
      row = τ i;
      below = omega (arith, q.1);
      same = λ b' hb'. ep (τ i) b' q.1 hb' ∙ ap (λ (j : ℕ). g.p j b') q.2;
      lower = omega (arith, em (τ i) q.1, ap (at s.margins) q.2);
    })
    (λ i b hi hb hp.
    let hi' : i < g.rows = omega arith in
    let q = perm i hi' in
    record {
      row = σ i;
      below = q.0;
      same = λ b' hb'. sym (ep i b' hi' (omega arith));
      lower = omega (arith, em i hi');
    })
    ex w w'
