-- The B line: a line that holds a raw border record is its text, and that text holds the record. No contract cites this file.
use mathlib.Core.Path.{◌≡◌, refl, ap₂, subst}
use mathlib.Core.Bool.{Bool, true, false, cond}
use mathlib.Core.List.{List, [], ◌∷◌, ◌++◌}
use Prim.Native.Char.{code}
use Prim.Native.Nat.{ℕ, ◌^◌, ◌≤◌, ◌<◌}
use native.Mathlib.Omega.{arith}
use lib.IntN.{ℤ, pos}
use lib.ListN.{length, get_or}
use lib.Signed.{lt_z}
use Rattle.limits.specs.Limits.{zones_most}
use Rattle.types.specs.LineColumns.{number, border_columns, hub_columns, border_items}
use Rattle.types.specs.Ranges.{border_fits, border_of}
use Rattle.types.proofs.RangeLaws.{HubsIn, none, both, BorderIn, border_in}
use Rattle.text.specs.Fields.{tab}
use Rattle.text.specs.Line.{line_of}
use Rattle.columns.specs.declared.Head.TheVariants.{Indexed}
use Rattle.columns.specs.Columns.{values, wrong}
use Rattle.columns.specs.Optional.{optional_line, written_by, optional_text}
use Rattle.columns.proofs.ColumnTrip.{tab_ends, line_one}
use Rattle.columns.proofs.OptionalTrip.{OptionalKept, left, given, kept_many, optional_judged, optional_written}
use Rattle.lines.specs.Lines.{border_bad, border_out, border_line}
use Rattle.std.specs.Prelude.{Ok, Err}
use Rattle.text.specs.declared.LineFault.TheVariants.{Form, Range}

-- what is known of a record that a B line holds
pub record BorderHeld (zones : ℕ) (raw : List ℤ) : Type 0 where
  pub wide : length raw ≡ border_items
  pub fits : border_fits zones raw ≡ true

-- its numbers are those of the columns: all five, or three and two that say that there are no hubs
border_kept : (zones : ℕ) (raw : List ℤ) → BorderHeld zones raw → zones ≤ zones_most → OptionalKept border_columns hub_columns raw
unfolding border_of
border_kept zones [] held few = absurd (omega (arith, held.wide))
border_kept zones (a ∷ []) held few = absurd (omega (arith, held.wide))
border_kept zones (a ∷ b ∷ []) held few = absurd (omega (arith, held.wide))
border_kept zones (a ∷ b ∷ c ∷ []) held few = absurd (omega (arith, held.wide))
border_kept zones (a ∷ b ∷ c ∷ d ∷ []) held few = absurd (omega (arith, held.wide))
border_kept zones (a ∷ b ∷ c ∷ d ∷ e ∷ f ∷ raw) held few = absurd (omega (arith, held.wide))
border_kept zones (a ∷ b ∷ c ∷ d ∷ e ∷ []) held few =
    let k = border_in zones (a ∷ b ∷ c ∷ d ∷ e ∷ []) held.fits in
    go k k.hubs
  where
    go : BorderIn zones (a ∷ b ∷ c ∷ d ∷ e ∷ []) → HubsIn zones d e → OptionalKept border_columns hub_columns (a ∷ b ∷ c ∷ d ∷ e ∷ [])
    go k (none s r) =
        left (a ∷ b ∷ c ∷ []) (ap₂ (λ (x y : ℤ). a ∷ b ∷ c ∷ x ∷ y ∷ []) s r)
        ((k.from, omega (arith, k.from_below)), ((k.to, omega (arith, k.to_below)), ((k.lta, omega (arith, k.lta_most_lem)), tt)))
    go k (both s r apart) =
        given (
          (k.from, omega (arith, k.from_below)),
          (
            (k.to, omega (arith, k.to_below)),
            (
              (k.lta, omega (arith, k.lta_most_lem)),
              (
                (s.0, omega (arith, s.1)),
                ((r.0, omega (arith, r.1)), tt),
              ),
            ),
          ),
        )

module _ (zones : ℕ) (line : List ℕ) (i : ℕ) (raw : List ℤ) where
  pub border_read_lem : border_line zones line i ≡ Ok raw → (line ≡ optional_text tab (Indexed (code "B") i) border_columns hub_columns raw) × BorderHeld zones raw
  unfolding border_line
  border_read_lem e =
      let h = optional_judged tab tab_ends refl (Indexed (code "B") i) border_columns (number ∷ []) (border_fits zones) (λ raw. raw) (border_bad line i) (border_out zones line) line raw e in
      subst (λ (y : List ℤ). (line ≡ optional_text tab (Indexed (code "B") i) border_columns hub_columns y) × BorderHeld zones y) h.made
      (h.read.here, record { wide = kept_many border_columns hub_columns h.zs h.read.kept; fits = h.fit })

  -- the B line by what was read of it
  module _ (next : ℕ) (e : values raw next ≡ optional_line tab (Indexed (code "B") i) border_columns hub_columns line) where
    pub border_holds : border_fits zones raw ≡ true → Ok raw ≡ border_line zones line i
    unfolding border_line
    border_holds f = rw (← e, f)

    pub border_range : border_fits zones raw ≡ false → Err (Range (border_out zones line raw)) ≡ border_line zones line i
    unfolding border_line
    border_range f = rw (← e, f)

pub border_form : (zones : ℕ) (line : List ℕ) (i place : ℕ) → wrong place ≡ optional_line tab (Indexed (code "B") i) border_columns hub_columns line → Err (Form (border_bad line i)) ≡ border_line zones line i
unfolding border_line
border_form zones line i place e = rw (← e)

module _ (zones i : ℕ) (raw : List ℤ) where
  pub border_written : i < 10 ^ 10 → zones ≤ zones_most → BorderHeld zones raw → border_line zones (optional_text tab (Indexed (code "B") i) border_columns hub_columns raw) i ≡ Ok raw
  unfolding border_line
  border_written small few held =
      let line = optional_text tab (Indexed (code "B") i) border_columns hub_columns raw in
      optional_written tab tab_ends refl (Indexed (code "B") i) border_columns (number ∷ []) (border_fits zones) (λ raw. raw) (border_bad line i) (border_out zones line) raw small (border_kept zones raw held few) held.fits

  pub border_one : (r : List ℕ) → line_of (optional_text tab (Indexed (code "B") i) border_columns hub_columns raw ++ r) ≡ optional_text tab (Indexed (code "B") i) border_columns hub_columns raw
  border_one r = line_one tab refl (Indexed (code "B") i) (written_by border_columns hub_columns raw) raw r (some (lt_z (get_or raw 3 (pos 0)) (pos 0))) refl
    where
      some : (t : Bool) → 0 < length (cond t border_columns (border_columns ++ hub_columns))
      some true = omega arith
      some false = omega arith
