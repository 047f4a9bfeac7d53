-- What is known where a line of fields, read one after another, holds something. One law for each link of such a chain. No contract cites this file.
use mathlib.Core.Path.{◌≡◌, ap, ap₂, ◌∙◌}
use mathlib.Core.Bool.{true}
use mathlib.Core.List.{List, ◌∷◌}
use Prim.Native.Nat.{ℕ, ◌≤◌, ◌<◌}
use native.Mathlib.Omega.{arith}
use lib.Dec.{leb, eqb}
use lib.ListN.{length, get_or, drop}
use lib.Seq.{drop-cons}
use borrow.Author.Tests.{leb-true, eqb-true}
use Rattle.text.specs.Line.{Line, headed}
use Rattle.text.proofs.NumberTrip.{and_both, zero_one}
use Rattle.std.specs.Prelude.{Ok, Err}
use Rattle.text.specs.declared.LineFault.{LineFault}

pub holds_is : {A : Type 0} (a b : A) → ◌≡◌ {A = Line A} (Ok a) (Ok b) → a ≡ b
holds_is a b e = cc

pub no_fault : {A : Type 0} (bad : LineFault) (a : A) → ◌≡◌ {A = Line A} (Err bad) (Ok a) → ⊥
no_fault bad a e = let x : ◌≡◌ {A = ℕ} 0 1 = cc in zero_one x

-- a line with its letter is the letter, the byte that parts its fields, and what stands after
pub headed_line : (letter sep : ℕ) (line : List ℕ) → headed letter sep line ≡ true → line ≡ letter ∷ sep ∷ drop 2 line
headed_line letter sep line e =
    let a = and_both (leb 2 (length line)) _ e in
    let b = and_both (eqb (get_or line 0 0) letter) _ a.1 in
    let two : 2 ≤ length line = leb-true 2 (length line) a.0 in
    let one : 1 < length line = omega arith in
    let some : 0 < length line = omega arith in
    drop-cons line 0 0 some
    ∙ ap₂ (λ (x : ℕ) (l : List ℕ). x ∷ l) (eqb-true _ _ b.0) (drop-cons line 1 0 one ∙ ap (λ (x : ℕ). x ∷ drop 2 line) (eqb-true _ _ b.1))
