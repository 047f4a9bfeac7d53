-- The laws of what reading leaves (`tables_left`), with or without a correction sheet: a table with room for it; a table that was read; a refusal.
-- `judged` is what the texts come to. No contract cites this file.
use Rattle.std.specs.Prelude.{Err, Ok}
use mathlib.Core.Path.{◌≡◌, refl, sym, ap, ◌∙◌}
use mathlib.Core.List.{List}
use lib.IntN.{ℤ}
use lib.ListN.{length}
use Rattle.numbers.specs.Below.{over}
use Rattle.refusals.specs.declared.Refusal.{Refusal}
use Rattle.refusals.specs.Answers.{said_judgement}
use Rattle.refusals.specs.Refusals.{Judged, Ruling}
use Rattle.refusals.proofs.RefusalLaws.{passed_is, then_passed, then_next, then_refused, either_passed, either_refused, answer_passed}
use Rattle.types.specs.declared.Header.{Header}
use Rattle.tablerules.specs.Table.{Table, lent, table_room}
use Rattle.tablerules.proofs.RoomLaws.{Enough, room_enough, room_passed, room_of}
use Rattle.reading.specs.Places.{read_said}
use Rattle.reading.specs.Reading.{ReadLeft, tables_left}

pub left_is : (r : Judged Header) {z z' a a' : List ℤ} {b b' c c' : List (List ℤ)} {f f' : List ℤ} → z ≡ z' → a ≡ a' → b ≡ b' → c ≡ c' → f ≡ f' → read_said r z a b c f ≡ read_said r z' a' b' c' f'
left_is r ez ea eb ec ef = cc

module _ (judged : Judged Table) (z a : List ℤ) (b c : List (List ℤ)) (f : List ℤ) where
  abbrev leaves : Table → ReadLeft
  leaves t = record { answer = Ok t.header; z = over t.nets z; t = over t.allocated a; b = over t.borders b; c = over t.rows c; f = over t.factors f }

  pub read_left_lem : (t : Table) → judged ≡ Ok t → Enough t.header (length z) (length a) (length b) (length c) (length f) → tables_left judged z a b c f ≡ leaves t
  unfolding tables_left
  read_left_lem t e n = either_passed _ _ (then_next _ e ∙ sym (room_enough _ _ _ _ _ _ _ n.zones n.allocated n.borders n.rows n.factors))

  pub record Taken (h : Header) : Type 0 where
    pub it : Table
    pub read : judged ≡ Ok it
    pub header : it.header ≡ h
    pub left : tables_left judged z a b c f ≡ leaves it

  pub read_taken : (h : Header) → (tables_left judged z a b c f).answer ≡ Ok h → Taken h
  unfolding tables_left
  read_taken h e =
      let d = answer_passed _ _ _ (λ (l : ReadLeft). l.answer) h (λ w. refl) e in
      let r = then_passed judged _ d.0 d.1 in
      let n = room_passed _ _ _ _ _ _ _ d.0 r.second in
      let t : r.it ≡ d.0 = passed_is _ _ n.1 in
      record {
        it = r.it;
        read = r.first;
        header = ap (λ (t : Table). t.header) t ∙ passed_is _ _ d.2;
        left = read_left_lem r.it r.first n.0;
      }

  -- ---- a refusal leaves all as it was: the texts', or 8
  abbrev as_it_was : Refusal → ReadLeft
  as_it_was w = record { answer = Err w; z = z; t = a; b = b; c = c; f = f }

  pub text_refused : (w : Refusal) → Err w ≡ judged → read_said (Err w) z a b c f ≡ tables_left judged z a b c f
  unfolding tables_left
  text_refused w e = sym (either_refused leaves as_it_was (then_refused _ (sym e)))

  pub room_refused : (t : Table) → judged ≡ Ok t → (r : Ruling) → said_judgement r t.header ≡ table_room t.header (lent t.header z a b c f) (Ok t.header)
      → (w : Refusal) → r ≡ Err w → read_said (Err w) z a b c f ≡ tables_left judged z a b c f
  unfolding tables_left
  room_refused t e r said w k =
      sym
      (either_refused leaves as_it_was
      (then_next _ e ∙ sym (room_of t.header _ _ _ _ _ t.header r said (Ok t)) ∙ then_refused _ (ap (λ (j : Ruling). said_judgement j t.header) k)))
