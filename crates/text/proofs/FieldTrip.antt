-- R, read and written: "-" alone, which is kept as -1, or a number. No contract cites this file.
use mathlib.Core.Path.{◌≡◌, refl, sym, ap, ap₂, subst, ◌∙◌}
use mathlib.Core.Bool.{Bool, true, false, cond}
use mathlib.Core.List.{List, ◌∷◌, ◌++◌}
use Prim.Native.Nat.{ℕ, suc, ◌+◌, ◌^◌, ◌<◌}
use native.Mathlib.Omega.{arith}
use lib.Dec.{eqb}
use lib.IntN.{ℤ, pos, negsuc}
use lib.ListN.{length, get_or, drop}
use lib.Seq.{drop-cons, drop-drop}
use borrow.Author.Tests.{eqb-true, eq-eqb}
use Rattle.numbers.specs.Ints.{minus}
use Rattle.text.specs.Fields.{Parsed, is_digit, number_at, positive, share_at}
use Rattle.text.specs.Written.{decimal, share_text}
use Rattle.text.proofs.FieldLaws.{some_within, share_plus}
use Rattle.text.proofs.NumberTrip.{number_read, number_written, number_rest, value_is, no_value, first_digit, first_at, decimal_digits, decimal_some}
use Rattle.std.specs.Prelude.{Ok, Err}

-- what R may be as it is kept
abbrev pub ShareKept : ℤ → Type 0
ShareKept (pos n) = n < 10 ^ 10
ShareKept (negsuc n) = n ≡ 0

pub record ReadR (line : List ℕ) (at stop : ℕ) (r : ℤ) (next : ℕ) : Type 0 where
  pub here : drop at line ≡ share_text r ++ (stop ∷ drop next line)

module _ (line : List ℕ) (at stop : ℕ) where
  share_dash : get_or line at 0 ≡ 45 → cond {A = Parsed ℤ} (eqb (get_or line (at + 1) 0) stop) (Ok (minus 1, at + 2)) (Err (at + 1)) ≡ share_at line at stop
  unfolding share_at
  share_dash e = rw (eq-eqb (get_or line at 0) 45 e)

  module _ (r : ℤ) (next : ℕ) (some : 0 < stop) where
    plus : (n : Parsed ℕ) → n ≡ number_at line at stop → positive n ≡ Ok (r, next) → ReadR line at stop r next
    plus (Err place) q e = absurd (no_value place r next e)
    plus (Ok (v, m)) q e =
        let w = value_is (pos v) r m next e in
        subst (λ (y : ℤ). ReadR line at stop y next) w.0
        (record { here = (number_read line at stop v m q).here ∙ ap (λ (y : ℕ). decimal v ++ (stop ∷ drop y line)) w.1 })

    lone : get_or line at 0 ≡ 45 → (t : Bool) → eqb (get_or line (at + 1) 0) stop ≡ t → ◌≡◌ {A = Parsed ℤ} (cond t (Ok (minus 1, at + 2)) (Err (at + 1))) (Ok (r, next)) → ReadR line at stop r next
    lone h false q e = absurd (no_value (at + 1) r next e)
    lone h true q e =
        let w = value_is (minus 1) r (at + 2) next e in
        let b : get_or line (at + 1) 0 ≡ stop = eqb-true _ _ q in
        let l : at < length line = some_within line at (omega arith) in
        let m : suc at < length line = omega (arith, some_within line (at + 1) (omega arith)) in
        let x : suc (suc at) ≡ next = omega (arith, w.1) in
        let y : suc at ≡ at + 1 = omega arith in
        subst (λ (y : ℤ). ReadR line at stop y next) w.0
        (record {
          here = drop-cons line at 0 l
              ∙ ap₂ (λ (x : ℕ) (s : List ℕ). x ∷ s) h (drop-cons line (suc at) 0 m ∙ ap₂ (λ (x : ℕ) (s : List ℕ). x ∷ s) (ap (λ (k : ℕ). get_or line k 0) y ∙ b) (ap (λ (k : ℕ). drop k line) x));
        })

    pub share_read : share_at line at stop ≡ Ok (r, next) → ReadR line at stop r next
    share_read e = go (eqb (get_or line at 0) 45) refl
      where
        go : (t : Bool) → eqb (get_or line at 0) 45 ≡ t → ReadR line at stop r next
        go true h = lone (eqb-true _ _ h) (eqb (get_or line (at + 1) 0) stop) refl (share_dash (eqb-true _ _ h) ∙ e)
        go false h = plus (number_at line at stop) refl (share_plus line at stop h ∙ e)

-- what is written of R reads as itself, and what follows it stands at the place after
pub record WrittenR (line : List ℕ) (at stop : ℕ) (r : ℤ) (rest : List ℕ) : Type 0 where
  pub next : ℕ
  pub is : share_at line at stop ≡ Ok (r, next)
  pub then : drop next line ≡ rest

pub share_written : (line : List ℕ) (at stop : ℕ) (r : ℤ) (rest : List ℕ) → drop at line ≡ share_text r ++ (stop ∷ rest) → ShareKept r → is_digit stop ≡ false → WrittenR line at stop r rest
share_written line at stop (pos n) rest here h e =
    let f : eqb (get_or line at 0) 45 ≡ false = rw (first_at line at _ here) (first_digit (decimal n) (stop ∷ rest) (decimal_digits n) (decimal_some n)) in
    record {
      next = at + length (decimal n) + 1;
      is = sym (share_plus line at stop f) ∙ ap positive (number_written line at stop n rest here h e);
      then = number_rest line at stop n rest here;
    }
share_written line at stop (negsuc n) rest here h e =
    let f : get_or line (at + 1) 0 ≡ stop = first_at line (at + 1) _ (sym (drop-drop 1 at line) ∙ ap (drop 1) here) in
    record {
      next = at + 2;
      is = sym (share_dash line at stop (first_at line at _ here)) ∙ rw (eq-eqb (get_or line (at + 1) 0) stop f) (ap (λ (k : ℕ). Ok (negsuc k, at + 2)) (sym h));
      then = sym (drop-drop 2 at line) ∙ ap (drop 2) here;
    }
