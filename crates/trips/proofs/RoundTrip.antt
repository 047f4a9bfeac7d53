-- Reading and writing the table are each other's inverse (01, "The table as text"), as definitions and as what the calls leave.
-- `Good` (specs/Good.antt of table) is what judging gives: lengths as the header says, each record in range, no border twice. `Shaped` is what a lent
-- record's type says of it: five numbers for a border, seven for a row. Reading gives both (`read-good`, `read-shaped` in reading).
use Rattle.std.specs.Prelude.{Ok}
use mathlib.Core.Path.{◌≡◌, sym, ap, ◌∙◌}
use mathlib.Core.List.{List}
use Prim.Native.Nat.{ℕ, ◌*◌, ◌≤◌}
use lib.IntN.{ℤ}
use lib.ListN.{length, take}
use lib.Seq.{take_at}
use Rattle.numbers.specs.Below.{over}
use Rattle.types.specs.declared.Header.{Header}
use Rattle.types.specs.Ranges.{allocated_items}
use Rattle.text.specs.Left.{text_left}
use Rattle.text.proofs.LeftLaws.{text_left_lem}
use Rattle.tablerules.specs.Table.{Table, lent, front}
use Rattle.tablerules.specs.Good.{Good, Shaped}
use Rattle.tablerules.proofs.GoodLaws.{judged_good, over_judged}
use Rattle.rowlines.specs.Rows.{as_given}
use Rattle.reading.specs.Reading.{read_text, ReadLeft, read_left}
use Rattle.reading.proofs.ReadLaws.{opened, reading, read_good}
use Rattle.reading.proofs.LeftLaws.{read_left_lem, read_taken}
use Rattle.writing.specs.Writing.{table_text, write_left}
use Rattle.writing.proofs.LengthLaws.{never_too_long}
use Rattle.trips.proofs.TableTrip.{read_text_lem, text_read}
use Rattle.writing.proofs.LeftLaws.{write_on, write_accepted}

-- a table that was read and is written again gives the same text, byte for byte
pub read_write : (text : List ℕ) (t : Table) → read_text text ≡ Ok t → table_text t ≡ text
read_write text t e = read_text_lem text t (opened as_given text t (reading text t e).lines)

-- a good table, written, reads back as itself, "-" in R too
pub write_read : (t : Table) → Good t → Shaped t → read_text (table_text t) ≡ Ok t
write_read t g s = text_read t g s (never_too_long t g)

-- ---- round trips of the calls

-- what `read` left, `write` writes again as the very text it was read from
pub read_then_write : (text : List ℕ) (z a : List ℤ) (b c : List (List ℤ)) (f : List ℤ) (h : Header) (out : List ℕ) → let r = read_left text z a b c f in r.answer ≡ Ok h → length text ≤ length out
    → write_left (lent h r.z r.t r.b r.c r.f) out ≡ record { answer = Ok (length text); out = over text out }
read_then_write text z a b c f h out e room =
    let u = read_taken (read_text text) z a b c f h e in
    let t = u.it in
    let same : table_text t ≡ text = read_write text t u.read in
    ap (λ (l : ReadLeft). write_left (lent h l.z l.t l.b l.c l.f) out) u.left
    ∙ ap (λ (k : Header). write_left (lent k (over t.nets z) (over t.allocated a) (over t.borders b) (over t.rows c) (over t.factors f)) out) (sym u.header)
    ∙ sym (write_on _ out t (sym (over_judged t (read_good text t u.read) z a b c f)))
    ∙ ap (λ (l : List ℕ). text_left (Ok l) out) same
    ∙ text_left_lem text out room

-- what `write` wrote, `read` reads back into buffers with room for it: the header, and the records that were lent, as many as it says
pub write_then_read : (given : Table) (out : List ℕ) (n : ℕ) (z a : List ℤ) (b c : List (List ℤ)) (f : List ℤ) → let h = given.header in let w = write_left given out in
    Shaped (front given) → w.answer ≡ Ok n → h.zones ≤ length z → allocated_items h ≤ length a → h.borders ≤ length b → h.rows ≤ length c → h.rows * h.zones ≤ length f
    → read_left (take n w.out) z a b c f ≡ record { answer = Ok h; z = over (front given).nets z; t = over (front given).allocated a; b = over (front given).borders b; c = over (front given).rows c; f = over (front given).factors f }
write_then_read given out n z a b c f shaped e hz ha hb hc hf =
    let w = write_accepted given out n e in
    let t = front given in
    let text : take n (write_left given out).out ≡ table_text t = ap (take n) w.left ∙ take_at (table_text t) _ n w.bytes in
    ap (λ (l : List ℕ). read_left l z a b c f) text
    ∙ read_left_lem (read_text (table_text t)) z a b c f t (write_read t (judged_good given t w.judged) shaped) (record { zones = hz; allocated = ha; borders = hb; rows = hc; factors = hf })
