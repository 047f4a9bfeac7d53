-- The laws of `specs/Table.antt`'s `room_for` and `room_for_p`: which buffer is named, and what is known where none is. No contract cites this file.
use Rattle.std.specs.Prelude.{Err, Ok, None, Option, Some}
use mathlib.Core.Path.{◌≡◌, refl, sym, ap, ◌∙◌}
use mathlib.Core.Bool.{Bool, true, false, cond}
use Prim.Native.Nat.{ℕ, ◌*◌, ◌≤◌, ◌<◌}
use lib.Dec.{ltb}
use native.Mathlib.Nat.{mul-le-mul}
use Rattle.limits.specs.Limits.{zones_most, rows_most}
use Rattle.refusals.specs.Refusals.{Judged, then, need, too_short, Ruling}
use Rattle.refusals.specs.Answers.{said_judgement}
use Rattle.refusals.proofs.RefusalLaws.{need_passed, need_enough, need_short}
use Rattle.types.specs.declared.Header.{Header}
use Rattle.types.specs.Ranges.{header_fits, allocated_items}
use Rattle.types.proofs.RangeLaws.{header_in_lem}
use Rattle.tablerules.specs.Table.{room_for, room_for_p}

-- rows x zones of a header in range
pub factors_most : (h : Header) → header_fits h ≡ true → h.rows * h.zones ≤ rows_most * zones_most
factors_most h e = let k = header_in_lem h e in mul-le-mul k.rows_most_lem k.zones_most_lem

module _ {A : Type 0} (h : Header) (z t b c f : ℕ) (next : Judged A) where
  pub room_short_z : z < h.zones → Err (too_short h.zones) ≡ room_for h z t b c f next
  unfolding room_for
  room_short_z l = sym (need_short _ _ _ l)

  module _ (hz : h.zones ≤ z) where
    pub room_short_t : t < allocated_items h → Err (too_short (allocated_items h)) ≡ room_for h z t b c f next
    unfolding room_for
    room_short_t l = sym (need_enough _ _ _ hz ∙ need_short _ _ _ l)

    module _ (ht : allocated_items h ≤ t) where
      pub room_short_b : b < h.borders → Err (too_short h.borders) ≡ room_for h z t b c f next
      unfolding room_for
      room_short_b l = sym (need_enough _ _ _ hz ∙ need_enough _ _ _ ht ∙ need_short _ _ _ l)

      module _ (hb : h.borders ≤ b) where
        pub room_short_c : c < h.rows → Err (too_short h.rows) ≡ room_for h z t b c f next
        unfolding room_for
        room_short_c l = sym (need_enough _ _ _ hz ∙ need_enough _ _ _ ht ∙ need_enough _ _ _ hb ∙ need_short _ _ _ l)

        module _ (hc : h.rows ≤ c) where
          pub room_short_f : f < h.rows * h.zones → Err (too_short (h.rows * h.zones)) ≡ room_for h z t b c f next
          unfolding room_for
          room_short_f l = sym (need_enough _ _ _ hz ∙ need_enough _ _ _ ht ∙ need_enough _ _ _ hb ∙ need_enough _ _ _ hc ∙ need_short _ _ _ l)

          pub room_enough : h.rows * h.zones ≤ f → next ≡ room_for h z t b c f next
          unfolding room_for
          room_enough l = sym (need_enough _ _ _ hz ∙ need_enough _ _ _ ht ∙ need_enough _ _ _ hb ∙ need_enough _ _ _ hc ∙ need_enough _ _ _ l)

pub record Enough (h : Header) (z t b c f : ℕ) : Type 0 where
  pub zones : h.zones ≤ z
  pub allocated : allocated_items h ≤ t
  pub borders : h.borders ≤ b
  pub rows : h.rows ≤ c
  pub factors : h.rows * h.zones ≤ f

pub room_passed : {A : Type 0} (h : Header) (z t b c f : ℕ) (next : Judged A) (a : A) → room_for h z t b c f next ≡ Ok a → Enough h z t b c f × (next ≡ Ok a)
unfolding room_for
room_passed h z t b c f next a e =
    let p = need_passed a _ _ _ e in
    let u = need_passed a _ _ _ p.1 in
    let q = need_passed a _ _ _ u.1 in
    let r = need_passed a _ _ _ q.1 in
    let s = need_passed a _ _ _ r.1 in
    (record { zones = p.0; allocated = u.0; borders = q.0; rows = r.0; factors = s.0 }, s.1)

-- lengths are judged the same way whatever comes next
need_then : {A B : Type 0} (n has : ℕ) (j : Judged A) (f : A → Judged B) → then (need n has j) f ≡ need n has (then j f)
unfolding then need
need_then n has j f = go (ltb has n)
  where
    go : (t : Bool) → then (cond t (Err (too_short n)) j) f ≡ cond t (Err (too_short n)) (then j f)
    go true = refl
    go false = refl

room_then : {A B : Type 0} (h : Header) (z t b c f : ℕ) (j : Judged A) (g : A → Judged B) → then (room_for h z t b c f j) g ≡ room_for h z t b c f (then j g)
unfolding room_for
room_then h z t b c f j g =
    need_then _ _ _ g
    ∙ ap (need h.zones z) (need_then _ _ _ g ∙ ap (need (allocated_items h) t)
    (need_then _ _ _ g ∙ ap (need h.borders b) (need_then _ _ _ g ∙ ap (need h.rows c) (need_then _ _ _ g))))

pub room_of : {A B : Type 0} (h : Header) (z t b c f : ℕ) (x : A) (r : Ruling) → said_judgement r x ≡ room_for h z t b c f (Ok x) → (next : Judged B)
    → then (said_judgement r x) (λ y. next) ≡ room_for h z t b c f next
unfolding then
room_of h z t b c f x r e next = ap (λ j. then j (λ y. next)) e ∙ room_then h z t b c f (Ok x) (λ y. next)

-- ---- room for p
module _ {A : Type 0} (h : Header) {room : Option ℕ} {items : ℕ} (is : room ≡ Some items) (next : Judged A) where
  pub p_short : items < h.rows * h.borders → Err (too_short (h.rows * h.borders)) ≡ room_for_p room h next
  p_short l = sym (ap (λ (o : Option ℕ). room_for_p o h next) is ∙ need_short _ _ _ l)

  pub p_enough : h.rows * h.borders ≤ items → next ≡ room_for_p room h next
  p_enough l = sym (ap (λ (o : Option ℕ). room_for_p o h next) is ∙ need_enough _ _ _ l)

pub p_room_of : {A B : Type 0} (room : Option ℕ) (h : Header) (x : A) (r : Ruling) → said_judgement r x ≡ room_for_p room h (Ok x) → (next : Judged B)
    → then (said_judgement r x) (λ y. next) ≡ room_for_p room h next
unfolding then
p_room_of None h x r e next = ap (λ j. then j (λ y. next)) e
p_room_of (Some items) h x r e next = ap (λ j. then j (λ y. next)) e ∙ need_then (h.rows * h.borders) items (Ok x) (λ y. next)

pub p_room_passed : {A : Type 0} (items : ℕ) (h : Header) (next : Judged A) (a : A) → room_for_p (Some items) h next ≡ Ok a → (h.rows * h.borders ≤ items) × (next ≡ Ok a)
p_room_passed items h next a e = need_passed a _ _ _ e

pub p_room_left : {A : Type 0} (room : Option ℕ) (h : Header) (next : Judged A) (a : A) → room_for_p room h next ≡ Ok a → next ≡ Ok a
p_room_left None h next a e = e
p_room_left (Some items) h next a e = (p_room_passed items h next a e).1
