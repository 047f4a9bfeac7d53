-- The byte named for a field is the first that no good field could have there (02, E5), for a number, a signed number and R: `blames`. There is no second
-- such byte: `blames-only`; so 0 is said exactly where there is none. Nothing is asked of the byte that parts the fields.
use lib.IntN.{ℤ}
use mathlib.Core.Path.{◌≡◌, refl, sym, ap, subst, ◌∙◌}
use mathlib.Core.Bool.{Bool, true, false, ◌||◌, false≢true}
use mathlib.Core.Logic.{◌⊎◌, ⊎_elim}
use mathlib.Core.List.{List}
use Prim.Native.Nat.{ℕ, zero, suc, ◌+◌, ◌≤◌, ◌<◌}
use native.Mathlib.Omega.{arith}
use lib.ListN.{length}
use Rattle.numbers.proofs.BelowLaws.{le_or_lt}
use Rattle.numbers.proofs.TestLaws.{or_neither}
use Rattle.types.specs.LineColumns.{Column}
use Rattle.text.specs.Fields.{Parsed, feed}
use Rattle.columns.specs.Columns.{field_at}
use Rattle.blame.specs.Blame.{good_at, byte_at, blamed}
use Rattle.faults.specs.FirstBad.{Could, FirstBad, Blames}
use Rattle.blame.proofs.BlameLaws.{good_sep, good_feed, byte_good, byte_here, byte_end}
use Rattle.faults.proofs.AgreeLaws.{agree_less}
use Rattle.faults.proofs.FieldBad.{field_no, field_could}
use Rattle.std.specs.Prelude.{Ok, Err, is_ok}

or_none : (t u : Bool) → t ≡ false → u ≡ false → (t || u) ≡ false
or_none t u p q = rw (p, q)

module _ (sep : ℕ) (c : Column) (line : List ℕ) (at : ℕ) where
  pub could_less : (m n : ℕ) → m ≤ n → Could sep c line at n → Could sep c line at m
  could_less m n h k = record { other = k.other; agrees = agree_less line k.other n k.agrees m h; good = k.good }

  itself : (n : ℕ) → good_at sep c line at ≡ true → Could sep c line at n
  itself n e = record { other = line; agrees = refl; good = e }

  bad-there : (first place : ℕ) → at ≤ length line → field_at c line at first ≡ Err place → good_at sep c line at ≡ false → place < length line → FirstBad sep c line at place
  unfolding good_at
  bad-there first place l e g h =
      let o = or_neither (is_ok (field_at c line at sep)) (is_ok (field_at c line at feed)) g in
      record {
        within = h;
        before = field_could sep line at first place l c e;
        with_it = λ k. false≢true
            (sym (or_none _ _ (field_no line k.other at first sep place l h k.agrees c e o.0) (field_no line k.other at first feed place l h k.agrees c e o.1)) ∙ k.good);
      }

  -- a field that `sep` or an LF should end: the byte named for it is its first bad byte
  pub blames : (stop : ℕ) → (stop ≡ sep) ⊎ (stop ≡ feed) → at ≤ length line → Blames sep c line at (blamed sep c line at (field_at c line at stop))
  blames stop s l = go (field_at c line at stop) refl
    where
      zero-no : (place : ℕ) → 0 ≡ place + 1 → ⊥
      zero-no place e = omega arith

      whole-good : is_ok (field_at c line at stop) ≡ true → good_at sep c line at ≡ true
      whole-good w =
          ⊎_elim
          (λ (e : stop ≡ sep). sym (good_sep sep c line at (ap (λ (x : ℕ). is_ok (field_at c line at x)) (sym e) ∙ w)))
          (λ (e : stop ≡ feed). fed (is_ok (field_at c line at sep)) refl (ap (λ (x : ℕ). is_ok (field_at c line at x)) (sym e) ∙ w))
          s
        where
          fed : (t : Bool) → is_ok (field_at c line at sep) ≡ t → is_ok (field_at c line at feed) ≡ true → good_at sep c line at ≡ true
          fed true q w = sym (good_sep sep c line at q)
          fed false q w = sym (good_feed sep c line at q) ∙ w

      none_named : (byte : ℕ) → 0 ≡ byte → Could sep c line at (length line) → Blames sep c line at byte
      none_named byte z k = record { named = λ place e. absurd (zero-no place (z ∙ e)); none = λ e. k }

      go : (f : Parsed ℤ) → field_at c line at stop ≡ f → Blames sep c line at (blamed sep c line at f)
      go (Ok (z, next)) e = none_named 0 refl (itself (length line) (whole-good (ap is_ok e)))
      go (Err place) e = by (good_at sep c line at) refl
        where
          by : (t : Bool) → good_at sep c line at ≡ t → Blames sep c line at (byte_at sep c line at place)
          by true g = none_named _ (byte_good sep c line at place g) (itself (length line) g)
          by false g =
              ⊎_elim
              (λ (h : length line ≤ place). none_named _ (byte_end sep c line at place g h) (could_less (length line) place h (field_could sep line at stop place l c e)))
              (λ (h : place < length line).
              let b = byte_here sep c line at place g h in
              record {
                named = λ x q. let y : place ≡ x = omega (arith, b, q) in subst (λ (j : ℕ). FirstBad sep c line at j) y (bad-there stop place l e g h);
                none = λ q. absurd (zero-no place (sym (b ∙ q)));
              })
              (le_or_lt (length line) place)

  -- there is no second such byte
  pub blames_only : (byte place : ℕ) → Blames sep c line at byte → FirstBad sep c line at place → byte ≡ place + 1
  blames_only zero place b f = absurd (f.with_it (could_less (place + 1) (length line) (omega (arith, f.within)) (b.none refl)))
  blames_only (suc x) place b f =
      let g : FirstBad sep c line at x = b.named x (omega arith) in
      ⊎_elim
      (λ (h : place ≤ x). ⊎_elim (λ (k : x ≤ place). omega arith) (λ (k : place < x). absurd (f.with_it (could_less (place + 1) x (omega arith) g.before))) (le_or_lt x place))
      (λ (h : x < place). absurd (g.with_it (could_less (x + 1) place (omega arith) f.before)))
      (le_or_lt place x)
