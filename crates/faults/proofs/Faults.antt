-- The byte named in a line (02, E5): the first bad byte of a field, the fields before it good, or the index (`line-fault`); it lies in the
-- line (`fault-within`). Where a line that begins with its letter has such a byte, it is named (`fault-line`): so 0 is said exactly where there is none
-- (`none-line`) or another letter (`other-letter`).
-- Of the byte that parts the fields only this is asked: it is not 0, for past a line's end 0 is read.
-- In order: a good field ends in the line; fields; a line; fields with a bad byte; a line with one; a line with none; the byte lies in the line.
use mathlib.Core.Path.{◌≡◌, refl, sym, ap, ◌∙◌}
use mathlib.Core.Bool.{Bool, true, false, cond, ◌&&◌, false≢true}
use mathlib.Core.Logic.{◌⊎◌, inl, inr, ◌↔◌}
use mathlib.Core.List.{List, [], ◌∷◌}
use Prim.Native.Nat.{ℕ, zero, suc, ◌+◌, ◌≤◌, ◌<◌}
use native.Mathlib.Omega.{arith}
use lib.Dec.{leb, ltb, eqb, lit<}
use lib.IntN.{ℤ}
use lib.ListN.{length, get_or, drop}
use borrow.Author.Tests.{eqb-true, eqb-false, eq-eqb, ne_eqb, leb-true, not-true}
use Rattle.numbers.specs.Ints.{minus}
use Rattle.numbers.proofs.TestLaws.{zero_one, and_both}
use Rattle.types.specs.LineColumns.{Column, number, signed, share, power, flow, factor}
use Rattle.text.specs.Fields.{Parsed, feed, digits, value, plain, first_bad, number_at, positive, share_at}
use Rattle.text.specs.Line.{headed}
use Rattle.text.specs.Point.{point_at}
use Rattle.text.proofs.NumberTrip.{number_read, signed_read, no_value, value_is}
use Rattle.text.proofs.FieldLaws.{some_within, share_plus}
use Rattle.text.proofs.PointTrip.{plus_read, signed_point_read}
use Rattle.columns.specs.declared.Head.{Head}
use Rattle.columns.specs.declared.Head.TheVariants.{Lettered, Indexed, Bare}
use Rattle.columns.specs.Columns.{field_at, stop_of}
use Rattle.columns.specs.ColumnLine.{begun}
use Rattle.blame.specs.Blame.{byte_at, blamed, or_later, fields_byte, other_index, index_byte, byte_after, line_byte}
use Rattle.faults.specs.FirstBad.{FirstBad, Found, here, later, Fault, index, other, field, LineFault}
use Rattle.blame.proofs.BlameLaws.{line_other}
use Rattle.faults.proofs.FieldBad.{share_dash}
use Rattle.faults.proofs.Blames.{blames, blames_only}
use Rattle.std.specs.Prelude.{Ok, Err}

-- ---- a good field ends in the line
module _ (line : List ℕ) (at stop : ℕ) (some : 0 < stop) (z : ℤ) (next : ℕ) where
  plus-within : (n : Parsed ℕ) → number_at line at stop ≡ n → positive n ≡ Ok (z, next) → next ≤ length line
  plus-within (Err place) q e = absurd (no_value place z next e)
  plus-within (Ok (v, m)) q e = omega (arith, (number_read line at stop v m (sym q)).within, (value_is _ z m next e).1)

  share-within : share_at line at stop ≡ Ok (z, next) → next ≤ length line
  share-within e = go (eqb (get_or line at 0) 45) refl
    where
      lone : (t : Bool) → eqb (get_or line (at + 1) 0) stop ≡ t → ◌≡◌ {A = Parsed ℤ} (cond t (Ok (minus 1, at + 2)) (Err (at + 1))) (Ok (z, next)) → next ≤ length line
      lone true q e = omega (arith, some_within line (at + 1) (omega (arith, eqb-true (get_or line (at + 1) 0) stop q, some)), (value_is _ z (at + 2) next e).1)
      lone false q e = absurd (no_value (at + 1) z next e)

      go : (t : Bool) → eqb (get_or line at 0) 45 ≡ t → next ≤ length line
      go true d = lone (eqb (get_or line (at + 1) 0) stop) refl (share_dash line at stop (eqb-true _ _ d) ∙ e)
      go false d = plus-within (number_at line at stop) refl (share_plus line at stop d ∙ e)

  field-within : (c : Column) → field_at c line at stop ≡ Ok (z, next) → next ≤ length line
  unfolding field_at
  field-within number e = plus-within (number_at line at stop) refl e
  field-within signed e = (signed_read line at stop z next e).within
  field-within share e = share-within e
  field-within power e = (plus_read 3 (lit< tt) line at stop some z next (point_at false 3 line at stop) refl e).within
  field-within flow e = (signed_point_read 3 (lit< tt) line at stop some z next e).within
  field-within factor e = (signed_point_read 5 (lit< tt) line at stop some z next e).within

module _ (sep : ℕ) (some : 0 < sep) where
  -- ---- fields
  stop-either : (cs : List Column) → (stop_of sep feed cs ≡ sep) ⊎ (stop_of sep feed cs ≡ feed)
  stop-either [] = inr refl
  stop-either (c ∷ cs) = inl refl

  stop-some : (cs : List Column) → 0 < stop_of sep feed cs
  stop-some [] = omega arith
  stop-some (c ∷ cs) = some

  fields-found : (columns : List Column) (line : List ℕ) (at place : ℕ) → at ≤ length line → fields_byte sep columns line at ≡ place + 1 → Found sep line columns at place
  unfolding fields_byte
  fields-found [] line at place l e = absurd (omega arith)
  fields-found (c ∷ cs) line at place l e = go (λ next h q. fields-found cs line next place h q) (field_at c line at (stop_of sep feed cs)) refl e
    where
      go : ((next : ℕ) → next ≤ length line → fields_byte sep cs line next ≡ place + 1 → Found sep line cs next place)
          → (f : Parsed ℤ) → field_at c line at (stop_of sep feed cs) ≡ f → or_later f (blamed sep c line at f) (λ (next : ℕ). fields_byte sep cs line next) ≡ place + 1 → Found sep line (c ∷ cs) at place
      go ih (Ok (z, next)) q e = later q (ih next (field-within line at (stop_of sep feed cs) (stop-some cs) z next c q) e)
      go ih (Err p) q e = here ((blames sep c line at (stop_of sep feed cs) (stop-either cs) l).named place (ap (blamed sep c line at) q ∙ e))

  -- ---- a line
  headed-long : (letter : ℕ) (line : List ℕ) → headed letter sep line ≡ true → 2 ≤ length line
  headed-long letter line e = leb-true _ _ (and_both (leb 2 (length line)) _ e).0

  index-fault : (at : ℕ) (columns : List Column) (line : List ℕ) (i place : ℕ) → at ≤ length line → index_byte sep at columns line i (number_at line at sep) ≡ place + 1 → Fault sep at columns line i place
  unfolding field_at
  index-fault at columns line i place l e = indexed (number_at line at sep) refl e
    where
      valued : (v next : ℕ) → number_at line at sep ≡ Ok (v, next) → (t : Bool) → eqb v i ≡ t → cond t (fields_byte sep columns line next) (at + 1) ≡ place + 1 → Fault sep at columns line i place
      valued v next q true s e =
          let same : v ≡ i = eqb-true v i s in
          field next (q ∙ ap (λ (x : ℕ). Ok (x, next)) same) (fields-found columns line next place (number_read line at sep v next (sym q)).within e)
      valued v next q false s e = other v next (inl q) (eqb-false v i s) (omega arith)

      -- the index that `sep` does not end, by what it is before an LF
      ended : (p : ℕ) → number_at line at sep ≡ Err p → (n : Parsed ℕ) → number_at line at feed ≡ n → (t : Bool) → other_index i n ≡ t
          → cond t (at + 1) (byte_at sep number line at p) ≡ place + 1 → Fault sep at columns line i place
      ended p q (Ok (v, next)) r true s e = other v next (inr r) (eqb-false v i (not-true _ s)) (omega arith)
      ended p q (Err m) r true s e = absurd (false≢true s)
      ended p q n r false s e = index ((blames sep number line at sep (inl refl) l).named place (ap (blamed sep number line at) (ap positive q) ∙ e))

      indexed : (n : Parsed ℕ) → number_at line at sep ≡ n → index_byte sep at columns line i n ≡ place + 1 → Fault sep at columns line i place
      indexed (Ok (v, next)) q e = valued v next q (eqb v i) refl e
      indexed (Err p) q e = ended p q (number_at line at feed) refl (other_index i (number_at line at feed)) refl e

  pub line_fault : (head : Head) (columns : List Column) (line : List ℕ) (place : ℕ) → line_byte sep head columns line ≡ place + 1 → LineFault sep head columns line place
  unfolding line_byte
  line_fault head columns line place e = go (begun sep head line) refl e
    where
      after : (h : Head) → begun sep h line ≡ true → byte_after sep h columns line ≡ place + 1 → LineFault sep h columns line place
      after (Lettered letter) b e = fields-found columns line 2 place (headed-long letter line b) e
      after (Indexed letter i) b e = index-fault 2 columns line i place (headed-long letter line b) e
      after (Bare i) b e = index-fault 0 columns line i place (omega arith) e

      go : (t : Bool) → begun sep head line ≡ t → cond t (byte_after sep head columns line) 0 ≡ place + 1 → LineFault sep head columns line place
      go true b e = after head b e
      go false b e = absurd (omega arith)

  -- ---- fields with a bad byte: it is named
  -- a field with a bad byte is not good, and this byte is the one named for it
  bad-named : (c : Column) (cs : List Column) (line : List ℕ) (at place : ℕ) → at ≤ length line → FirstBad sep c line at place → blamed sep c line at (field_at c line at (stop_of sep feed cs)) ≡ place + 1
  bad-named c cs line at place l f = blames_only sep c line at _ place (blames sep c line at (stop_of sep feed cs) (stop-either cs) l) f

  -- the first field with a bad byte: the fields before it are good
  found-fields : (columns : List Column) (line : List ℕ) (at place : ℕ) → at ≤ length line → Found sep line columns at place → fields_byte sep columns line at ≡ place + 1
  unfolding fields_byte
  found-fields [] line at place l f = elim f [ ]
  found-fields (c ∷ cs) line at place l (here f) = go (field_at c line at (stop_of sep feed cs)) (bad-named c cs line at place l f)
    where
      go : (r : Parsed ℤ) → blamed sep c line at r ≡ place + 1 → or_later r (blamed sep c line at r) (λ (next : ℕ). fields_byte sep cs line next) ≡ place + 1
      go (Ok (z, next)) e = absurd (omega arith)
      go (Err p) e = e
  found-fields (c ∷ cs) line at place l (later {next} {z} q f) = rw q (found-fields cs line next place (field-within line at (stop_of sep feed cs) (stop-some cs) z next c q) f)

  -- ---- a line with a bad byte: it is named
  -- an index is worth the same whatever ends it
  worth : (line : List ℕ) (at stop v next : ℕ) → number_at line at stop ≡ Ok (v, next) → v ≡ value 0 (digits (drop at line))
  unfolding number_at
  worth line at stop v next e =
      let d = digits (drop at line) in
      go (plain d && (ltb (length d) (length (drop at line)) && eqb (get_or (drop at line) (length d) 0) stop)) (at + length d + 1) (first_bad d at) e
    where
      go : (t : Bool) (m b : ℕ) → ◌≡◌ {A = Parsed ℕ} (cond t (Ok (value 0 (digits (drop at line)), m)) (Err b)) (Ok (v, next)) → v ≡ value 0 (digits (drop at line))
      go true m b e = sym (value_is (value 0 (digits (drop at line))) v m next e).0
      go false m b e = let z : ◌≡◌ {A = ℕ} 0 1 = cc in absurd (zero_one z)

  -- an index and the fields after it: the index's form, then its value, then the fields
  fault-index : (at : ℕ) (columns : List Column) (line : List ℕ) (i place : ℕ) → at ≤ length line → Fault sep at columns line i place → index_byte sep at columns line i (number_at line at sep) ≡ place + 1
  unfolding field_at
  fault-index at columns line i place l (index f) = go (number_at line at sep) refl (number_at line at feed) refl
    where
      named : (stop : ℕ) → (stop ≡ sep) ⊎ (stop ≡ feed) → blamed sep number line at (positive (number_at line at stop)) ≡ place + 1
      named stop s = blames_only sep number line at _ place (blames sep number line at stop s l) f

      go : (n : Parsed ℕ) → number_at line at sep ≡ n → (m : Parsed ℕ) → number_at line at feed ≡ m → index_byte sep at columns line i n ≡ place + 1
      go (Ok (v, next)) q m r = absurd (omega (arith, ap (λ (n : Parsed ℕ). blamed sep number line at (positive n)) (sym q) ∙ named sep (inl refl)))
      go (Err p) q (Ok (v, next)) r = absurd (omega (arith, ap (λ (n : Parsed ℕ). blamed sep number line at (positive n)) (sym r) ∙ named feed (inr refl)))
      go (Err p) q (Err b) r = rw r (ap (λ (n : Parsed ℕ). blamed sep number line at (positive n)) (sym q) ∙ named sep (inl refl))
  fault-index at columns line i place l (other v next (inl q) n e) = rw (q, ne_eqb v i n) (omega arith)
  fault-index at columns line i place l (other v next (inr q) n e) = go (number_at line at sep) refl
    where
      go : (m : Parsed ℕ) → number_at line at sep ≡ m → index_byte sep at columns line i m ≡ place + 1
      go (Ok (w, k)) r =
          let same : w ≡ v = worth line at sep w k r ∙ sym (worth line at feed v next q) in
          rw (ne_eqb w i (λ x. n (sym same ∙ x))) (omega arith)
      go (Err p) r = rw (q, ne_eqb v i n) (omega arith)
  fault-index at columns line i place l (field next q f) = rw (q, eq-eqb i i refl) (found-fields columns line next place (number_read line at sep i next (sym q)).within f)

  -- a line that begins with its letter, where its head has one
  pub fault_line : (head : Head) (columns : List Column) (line : List ℕ) (place : ℕ) → begun sep head line ≡ true → LineFault sep head columns line place → line_byte sep head columns line ≡ place + 1
  unfolding line_byte
  fault_line (Lettered letter) columns line place b f = rw b (found-fields columns line 2 place (headed-long letter line b) f)
  fault_line (Indexed letter i) columns line place b f = rw b (fault-index 2 columns line i place (headed-long letter line b) f)
  fault_line (Bare i) columns line place b f = fault-index 0 columns line i place (omega arith) f

  -- ---- 0 is said exactly where no byte is bad, or the letter is another
  -- a byte that names exactly the places of P is 0 exactly where P has none
  none_named : (P : ℕ → Type 0) (byte : ℕ) → ((place : ℕ) → byte ≡ place + 1 → P place) → ((place : ℕ) → P place → byte ≡ place + 1) → (byte ≡ 0) ↔ ((place : ℕ) → P place → ⊥)
  none_named P zero to from = ((λ e place f. zero_one (omega (arith, from place f))), (λ none. refl))
  none_named P (suc byte) to from = ((λ e place f. zero_one (omega arith)), (λ none. absurd (none byte (to byte (omega arith)))))

  pub none_line : (head : Head) (columns : List Column) (line : List ℕ) → begun sep head line ≡ true → (line_byte sep head columns line ≡ 0) ↔ ((place : ℕ) → LineFault sep head columns line place → ⊥)
  none_line head columns line b = none_named (LineFault sep head columns line) _ (line_fault head columns line) (λ place. fault_line head columns line place b)

  -- a line with another letter has 0, whatever its fields are
  pub other_letter : (head : Head) (columns : List Column) (line : List ℕ) → begun sep head line ≡ false → line_byte sep head columns line ≡ 0
  other_letter head columns line b = sym (line_other sep head columns line b)

-- ---- the byte named lies in the line
module _ (sep : ℕ) (line : List ℕ) where
  found_within : {columns : List Column} {at place : ℕ} → Found sep line columns at place → place < length line
  found_within (here f) = f.within
  found_within (later q f) = found_within f

  index-within : (at : ℕ) (columns : List Column) (i place : ℕ) → Fault sep at columns line i place → place < length line
  index-within at columns i place (index f) = f.within
  index-within at columns i place (other v next (inl q) n e) = omega (arith, (number_read line at sep v next (sym q)).within, (number_read line at sep v next (sym q)).after)
  index-within at columns i place (other v next (inr q) n e) = omega (arith, (number_read line at feed v next (sym q)).within, (number_read line at feed v next (sym q)).after)
  index-within at columns i place (field next q f) = found_within f

  pub fault_within : (head : Head) (columns : List Column) (place : ℕ) → LineFault sep head columns line place → place < length line
  fault_within (Lettered letter) columns place f = found_within f
  fault_within (Indexed letter i) columns place f = index-within 2 columns i place f
  fault_within (Bare i) columns place f = index-within 0 columns i place f
