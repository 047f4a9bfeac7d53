-- The laws of `specs/Constructors.antt`: what an answer of a judging constructor says of the raw record. No contract cites this file.
use Rattle.std.specs.Prelude.{None, Option, Some}
use mathlib.Core.Path.{◌≡◌, refl}
use mathlib.Core.Bool.{Bool, true, false, cond}
use mathlib.Core.List.{List}
use Prim.Native.Nat.{ℕ}
use lib.IntN.{ℤ}
use Rattle.numbers.proofs.TestLaws.{zero_one}
use Rattle.types.specs.declared.Zone.{Zone}
use Rattle.types.specs.declared.Border.{Border}
use Rattle.types.specs.declared.Row.{Row}
use Rattle.types.specs.Ranges.{zone_fits, border_fits, border_of, row_fits, row_of}
use Rattle.types.specs.Constructors.{zone_read, border_read, row_read}

module _ (net : ℤ) where
  pub zone_good : (z : Zone) → zone_read net ≡ Some z → zone_fits net ≡ true
  unfolding zone_read
  zone_good z e = go (zone_fits net) e
    where
      go : (t : Bool) → cond {A = Option Zone} t (Some (record { net = net })) None ≡ Some z → t ≡ true
      go true e = refl
      go false e = absurd (zero_one cc)

  pub zone_out_lem : zone_read net ≡ None → zone_fits net ≡ false
  unfolding zone_read
  zone_out_lem e = go (zone_fits net) e
    where
      go : (t : Bool) → cond {A = Option Zone} t (Some (record { net = net })) None ≡ None → t ≡ false
      go true e = absurd (zero_one cc)
      go false e = refl

module _ (zones : ℕ) (raw : List ℤ) where
  pub border_good : (b : Border) → border_read zones raw ≡ Some b → (border_fits zones raw ≡ true) × (border_of raw ≡ b)
  unfolding border_read
  border_good b e = go (border_fits zones raw) e
    where
      go : (t : Bool) → cond t (Some (border_of raw)) None ≡ Some b → (t ≡ true) × (border_of raw ≡ b)
      go true e = (refl, cc)
      go false e = absurd (zero_one cc)

  pub border_out_lem : border_read zones raw ≡ None → border_fits zones raw ≡ false
  unfolding border_read
  border_out_lem e = go (border_fits zones raw) e
    where
      go : (t : Bool) → cond {A = Option Border} t (Some (border_of raw)) None ≡ None → t ≡ false
      go true e = absurd (zero_one cc)
      go false e = refl

module _ (raw : List ℤ) where
  pub row_good_lem : (r : Row) → row_read raw ≡ Some r → (row_fits raw ≡ true) × (row_of raw ≡ r)
  unfolding row_read
  row_good_lem r e = go (row_fits raw) e
    where
      go : (t : Bool) → cond t (Some (row_of raw)) None ≡ Some r → (t ≡ true) × (row_of raw ≡ r)
      go true e = (refl, cc)
      go false e = absurd (zero_one cc)

  pub row_out_lem : row_read raw ≡ None → row_fits raw ≡ false
  unfolding row_read
  row_out_lem e = go (row_fits raw) e
    where
      go : (t : Bool) → cond {A = Option Row} t (Some (row_of raw)) None ≡ None → t ≡ false
      go true e = absurd (zero_one cc)
      go false e = refl
