-- The laws of `specs/RowSheet.antt`'s writing: what `write_rows` leaves by what was judged. No contract cites this file.
use Rattle.std.specs.Prelude.{Err, None, Ok, Some}
use mathlib.Core.Path.{◌≡◌, sym, ap, ◌∙◌}
use mathlib.Core.Bool.{Bool, true, false, not}
use mathlib.Core.List.{List, []}
use Prim.Native.Nat.{ℕ, ◌+◌, ◌*◌, ◌<◌}
use borrow.Author.Tests.{not-false}
use lib.IntN.{ℤ}
use lib.ListN.{length, get_or, take}
use Rattle.numbers.specs.Below.{first_from}
use Rattle.numbers.proofs.BelowLaws.{first_none}
use Rattle.refusals.specs.declared.Refusal.{Refusal}
use Rattle.refusals.specs.Refusals.{Judged, then, out_of_range}
use Rattle.refusals.proofs.RefusalLaws.{then_next, then_refused, unless_ok, unless_refused, first_none_next, first_found}
use Rattle.types.specs.declared.Header.{Header}
use Rattle.types.specs.Ranges.{header_fits}
use Rattle.text.specs.Left.{TextLeft, text_left}
use Rattle.text.proofs.LeftLaws.{text_refused}
use Rattle.tablerules.specs.Table.{row_good, stretch}
use Rattle.rowsheet.specs.RowSheet.{Rows, row_room, sheet_of, rows_in_range, judge_rows, write_rows_left}
use Rattle.rowsheet.proofs.SheetLaws.{room_passed, room_enough, room_refused}

-- ---- records in range
module _ (zones : ℕ) (c : List (List ℤ)) (f : List ℤ) where
  abbrev rows : Rows
  rows = record { rows = c; factors = f }

  abbrev out_at : ℕ → Bool
  out_at i = not (row_good (get_or c i []) (stretch zones f i))

  pub row_out_lem : (i : ℕ) → Some i ≡ first_from (length c) 0 out_at → (out : List ℕ) → ◌≡◌ {A = TextLeft} (record { answer = Err (out_of_range (1 + i)); out = out }) (text_left (then (rows_in_range zones rows) (λ t. Ok (sheet_of zones t))) out)
  unfolding rows_in_range
  row_out_lem i e out = text_refused out (then_refused _ (first_found _ _ _ _ (sym e)))

  pub rows_in_lem : None ≡ first_from (length c) 0 out_at → (i : ℕ) → i < length c → row_good (get_or c i []) (stretch zones f i) ≡ true
  rows_in_lem e i h = not-false _ (first_none (length c) out_at (sym e) i h)

  pub rows_on : None ≡ first_from (length c) 0 out_at → (out : List ℕ) → text_left (Ok (sheet_of zones rows)) out ≡ text_left (then (rows_in_range zones rows) (λ t. Ok (sheet_of zones t))) out
  unfolding rows_in_range
  rows_on e out = ap (λ (j : Judged (List ℕ)). text_left j out) (sym (then_next _ (first_none_next _ _ _ _ (sym e))))

-- ---- the call
module _ (h : Header) (c : List (List ℤ)) (f : List ℤ) (out : List ℕ) where
  pub header_out_lem : header_fits h ≡ false → ◌≡◌ {A = TextLeft} (record { answer = Err (out_of_range 1); out = out }) (write_rows_left h c f out)
  unfolding write_rows_left judge_rows
  header_out_lem e = text_refused out (then_refused _ (unless_refused _ _ e))

  module _ (e : header_fits h ≡ true) where
    pub room_out : (w : Refusal) → Err w ≡ row_room h (length c) (length f) (Ok h) → ◌≡◌ {A = TextLeft} (record { answer = Err w; out = out }) (write_rows_left h c f out)
    unfolding write_rows_left judge_rows
    room_out w q = text_refused out (then_refused _ (unless_ok _ _ e ∙ room_refused h (length c) (length f) h _ w (sym q)))

    pub front_on : Ok h ≡ row_room h (length c) (length f) (Ok h)
        → text_left (then (rows_in_range h.zones (record { rows = take h.rows c; factors = take (h.rows * h.zones) f })) (λ t. Ok (sheet_of h.zones t))) out ≡ write_rows_left h c f out
    unfolding write_rows_left judge_rows
    front_on q =
        let n = room_passed h (length c) (length f) (Ok h) h (sym q) in
        ap (λ (j : Judged Rows). text_left (then j (λ t. Ok (sheet_of h.zones t))) out) (room_enough h (length c) (length f) _ n.0 n.1 ∙ sym (unless_ok _ _ e))
