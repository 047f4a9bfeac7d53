-- That what the code puts, byte by byte, is a labelled text. No contract cites this file.
-- In order: what is left of a text; what stands before a byte; a labelled text, and that there is room for an hour's.
use mathlib.Core.Path.{◌≡◌, refl, sym, ap, subst, ◌∙◌}
use mathlib.Core.Bool.{Bool, true, false}
use mathlib.Core.List.{List, [], ◌∷◌, ◌++◌, append_assoc, append-nil}
use Prim.Native.Nat.{ℕ, ◌+◌, ◌*◌, ◌≤◌, ◌<◌}
use native.Mathlib.Nat.{mul-le-mul}
use native.Mathlib.Numerals.{add-one}
use native.Mathlib.Omega.{arith}
use lib.Dec.{eqb}
use lib.ListN.{length, get_or, drop, length-append, drop_of_length-le}
use lib.Seq.{drop-cons}
use Rattle.limits.specs.Limits.{bytes_most}
use Rattle.text.specs.Fields.{tab, feed}
use Rattle.text.specs.Put.{Put}
use Rattle.text.proofs.PutLaws.{put_none, put_more, put_room, put_kept, put_whole}
use Rattle.output.specs.Buffer.{Printed}
use Rattle.output.proofs.PuttingLaws.{Putting, putting_none, putting_room, putting_kept, putting_more, putting_all, put_printed}
use Rattle.daylines.specs.Labelled.{heading, labelled_from, labelled, lines_begun}
use Rattle.daylines.specs.Room.{label_most, lines_most, hour_room}
use Rattle.daylines.proofs.LabelledLaws.{labelled_length}

-- ---- what is left from byte k on
pub labelled_next : (label : List ℕ) (begins : Bool) (text : List ℕ) (k : ℕ) → k < length text
    → labelled_from label begins (drop k text) ≡ heading label begins ++ ((get_or text k 0 ∷ []) ++ labelled_from label (eqb (get_or text k 0) feed) (drop (k + 1) text))
unfolding labelled_from
labelled_next label begins text k h = rw (add-one, drop-cons text k 0 h)

pub labelled_past : (label : List ℕ) (begins : Bool) (text : List ℕ) (k : ℕ) → length text ≤ k → labelled_from label begins (drop k text) ≡ []
unfolding labelled_from
labelled_past label begins text k h = rw (drop_of_length-le text h)

-- ---- what stands before a byte
module _ (label : List ℕ) where
  pub heading_none : (begins : Bool) (at : ℕ) (out : List ℕ) → begins ≡ false → Put (heading label begins) at out at out
  unfolding heading
  heading_none begins at out e = rw e (put_none at out)

  pub heading_long : (begins : Bool) → begins ≡ true → length (heading label begins) ≡ length label + 1
  unfolding heading
  heading_long begins e = rw e (length-append label (tab ∷ []))

  pub heading_some : (begins : Bool) {at m n : ℕ} {out mid out' : List ℕ} → begins ≡ true → at ≤ length out → Put label at out m mid → Put (tab ∷ []) m mid n out' → Put (heading label begins) at out n out'
  unfolding heading
  heading_some begins e h p q = rw e (put_more p h q)

-- ---- the loop over the bytes of a text
pub record Labelling (label text out₀ out : List ℕ) (next : ℕ) (begins : Bool) (k : ℕ) : Type 0 where
  pub within : k ≤ length text
  pub putting : Putting (labelled label text) (labelled_from label begins (drop k text)) 0 out₀ out next

module _ {label text out₀ out : List ℕ} {next : ℕ} {begins : Bool} {k : ℕ} (room : length (labelled label text) ≤ length out₀) (l : Labelling label text out₀ out next begins k) where
  abbrev more : List ℕ
  more = labelled_from label (eqb (get_or text k 0) feed) (drop (k + 1) text)

  enough : 0 + length (labelled label text) ≤ length out₀
  enough = omega arith

  pub heading_room : k < length text → next + length (heading label begins) ≤ length out
  heading_room h =
      omega (
        arith,
        putting_room l.putting enough,
        ap length (labelled_next label begins text k h),
        length-append (heading label begins) ((get_or text k 0 ∷ []) ++ more),
      )

  headed : k < length text → {mid : List ℕ} {m : ℕ} → Put (heading label begins) next out m mid → Putting (labelled label text) ((get_or text k 0 ∷ []) ++ more) 0 out₀ mid m
  headed h p = putting_more l.putting enough (heading label begins) ((get_or text k 0 ∷ []) ++ more) (labelled_next label begins text k h) p

  pub byte_room : k < length text → {mid : List ℕ} {m : ℕ} → Put (heading label begins) next out m mid → m < length mid
  byte_room h p = omega (arith, putting_room (headed h p) enough)

  pub labelling_more : k < length text → {mid out' : List ℕ} {m n : ℕ} → Put (heading label begins) next out m mid → Put (get_or text k 0 ∷ []) m mid n out'
      → Labelling label text out₀ out' n (eqb (get_or text k 0) feed) (k + 1)
  labelling_more h p q = record { within = omega arith; putting = putting_more (headed h p) enough (get_or text k 0 ∷ []) more refl q }

  pub labelling_kept : length out ≡ length out₀
  labelling_kept = putting_kept l.putting enough

  pub labelling_all : length text ≤ k → Printed next (labelled label text) out
  labelling_all h = put_printed (putting_all l.putting enough (labelled_past label begins text k h))

-- ---- no hour's lines are too long
pub hour_fits : (label text : List ℕ) → length label ≤ label_most → length text ≤ bytes_most → lines_begun true text ≤ lines_most → length (labelled label text) ≤ hour_room
hour_fits label text l t n =
    let wide : length label + 1 ≤ label_most + 1 = omega arith in
    let more : lines_begun true text * (length label + 1) ≤ lines_most * (label_most + 1) = mul-le-mul n wide in
    omega (arith, labelled_length label true text)
