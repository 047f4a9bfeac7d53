-- The laws of `specs/Label.antt`. No contract cites this file.
use mathlib.Core.Path.{◌≡◌, refl, sym, ap, ◌∙◌}
use mathlib.Core.Bool.{cond}
use mathlib.Core.List.{List, [], ◌∷◌}
use Prim.Native.Char.{code}
use Prim.Native.Nat.{ℕ, ◌+◌, ◌-◌, ◌≤◌, ◌<◌}
use native.Mathlib.Numerals.{add-one}
use native.Mathlib.Omega.{arith}
use lib.Dec.{eqb}
use lib.ListN.{length, get_or, take, drop, length-drop, drop_of_length-le}
use lib.Seq.{drop-cons, take_all}
use borrow.Author.Tests.{eq-eqb, ne_eqb, le-leb, lt-leb}
use Rattle.daylines.specs.Label.{past_last_from, past_last, without_ending, label_of}

-- what was passed, and what is left to look at, from place i on
pub record Looked (text : List ℕ) (byte past i : ℕ) : Type 0 where
  pub within : i ≤ length text
  pub behind : past ≤ i
  pub left : past_last_from byte i past (drop i text) ≡ past_last byte text

pub looked_none : (text : List ℕ) (byte : ℕ) → Looked text byte 0 0
unfolding past_last
looked_none text byte = record { within = omega arith; behind = omega arith; left = refl }

module _ {text : List ℕ} {byte past i : ℕ} (l : Looked text byte past i) (h : i < length text) where
  next : past_last_from byte (i + 1) (cond (eqb (get_or text i 0) byte) (i + 1) past) (drop (i + 1) text) ≡ past_last byte text
  next = let e : past_last_from byte i past (drop i text) ≡ past_last_from byte (i + 1) (cond (eqb (get_or text i 0) byte) (i + 1) past) (drop (i + 1) text) = rw (drop-cons text i 0 h, ← add-one i) in sym e ∙ l.left

  pub looked_here : (past' : ℕ) → get_or text i 0 ≡ byte → past' ≡ i + 1 → Looked text byte past' (i + 1)
  looked_here past' e p = rw p (record { within = omega arith; behind = omega arith; left = rw (eq-eqb (get_or text i 0) byte e) at next })

  pub looked_past : (past' : ℕ) → (get_or text i 0 ≡ byte → ⊥) → past' ≡ past → Looked text byte past' (i + 1)
  looked_past past' e p = rw p (record { within = omega arith; behind = omega (arith, l.behind); left = rw (ne_eqb (get_or text i 0) byte e) at next })

pub looked_all : {text : List ℕ} {byte past i : ℕ} → Looked text byte past i → length text ≤ i → past ≡ past_last byte text
looked_all {text} {byte} {past} {i} l h =
    let e : past_last_from byte i past (drop i text) ≡ past = rw (drop_of_length-le text h) in
    sym e ∙ l.left

-- the label, by where the ending begins
module _ (file : List ℕ) {dot : ℕ} (d : dot ≡ past_last (code ".") file) where
  pub ending_none : dot ≤ 1 → file ≡ without_ending file
  unfolding without_ending
  ending_none h = rw (sym d, le-leb dot 1 h)

  pub ending_off : 1 < dot → take (dot - 1) file ≡ without_ending file
  unfolding without_ending
  ending_off h = rw (sym d, lt-leb dot 1 h)

-- the name without its folder, and then without its ending, is the label
pub folder_off : (name : List ℕ) {base : ℕ} → base ≡ past_last (code "/") name → without_ending (take (length name - base) (drop base name)) ≡ label_of name
unfolding label_of
folder_off name {base} b = ap without_ending (take_all (length name - base) (drop base name) (omega (arith, length-drop base name)) ∙ ap (λ (k : ℕ). drop k name) b)
