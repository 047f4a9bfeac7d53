-- The round trip of columns, both ways and over any list of them: what was read is what stands there, and what is written reads as itself. No contract cites this file.
-- `Ends` is all that is asked of the byte that parts the fields: it is not 0, and no digit. For a line to be one line it is no LF either.
-- In order: what is kept of a column; one field; fields; a line's head; a whole line, and one that is judged; two parts.
use mathlib.Core.Path.{◌≡◌, refl, sym, ap, ap₂, subst, ◌∙◌}
use mathlib.Core.Bool.{Bool, true, false, cond, false≢true}
use mathlib.Core.List.{List, [], ◌∷◌, ◌++◌, append_assoc, append-nil}
use Prim.Native.Nat.{ℕ, suc, ◌+◌, ◌^◌, ◌<◌}
use native.Mathlib.Nat.{not-suc-le-zero}
use native.Mathlib.Omega.{arith}
use lib.Dec.{eqb, lit<}
use lib.IntN.{ℤ, pos, nat_abs}
use lib.ListN.{length, get_or, drop, drop_of_length-le}
use borrow.Author.Tests.{le-leb, leb-true, eqb-true, eq-eqb}
use Rattle.numbers.specs.Ints.{minus}
use Rattle.types.specs.LineColumns.{Column, number, signed, share, power, flow, factor}
use Rattle.text.specs.Fields.{Parsed, tab, feed, is_digit, number_at, positive, share_at}
use Rattle.text.specs.Line.{line_of, plainly, headed, ended}
use Rattle.text.specs.Written.{decimal, decimal_ℤ}
use Rattle.text.specs.Point.{point_at, pointed, pointed_ℤ}
use Rattle.text.proofs.NumberTrip.{zero_one, value_is, no_value, number_read, number_written, number_rest, signed_read, signed_written, signed_rest}
use Rattle.text.proofs.FieldTrip.{ShareKept, share_read, share_written}
use Rattle.text.proofs.PointTrip.{point_read, point_written, point_rest, signed_point_read, signed_point_written, signed_point_rest, pointed_ℤ_no_feed}
use Rattle.text.proofs.ChainLaws.{holds_is, no_fault, headed_line}
use Rattle.text.proofs.LineLaws.{HasNoFeed, line_past}
use Rattle.text.proofs.WrittenLaws.{ended_text, decimal_no_feed, decimal_ℤ_no_feed, share_no_feed}
use Rattle.columns.specs.declared.Head.{Head}
use Rattle.columns.specs.declared.Head.TheVariants.{Lettered, Indexed, Bare}
use Rattle.columns.specs.Columns.{field_at, Values, values, wrong, push, onward, stop_of, fields_at}
use Rattle.columns.specs.ColumnText.{field_text, fields_ended, index_text, head_text, columns_text}
use Rattle.columns.specs.ColumnLine.{own_index, index_at, begun, numbered, head_at, to_end, rest_at, after_number, columns_line, judged}
use Rattle.std.specs.Prelude.{Ok, Err}
use Rattle.text.specs.declared.LineFault.TheVariants.{Form, Range}

-- ---- what is kept of a column
abbrev pub Kept : Column → ℤ → Type 0
Kept number z = (z ≡ pos (nat_abs z)) × (nat_abs z < 10 ^ 10)
Kept signed z = nat_abs z < 10 ^ 10
Kept share z = ShareKept z
Kept power z = (z ≡ pos (nat_abs z)) × (nat_abs z < 10 ^ 10)
Kept flow z = nat_abs z < 10 ^ 10
Kept factor z = nat_abs z < 10 ^ 10

-- one value for each column
abbrev pub AllKept : List Column → List ℤ → Type 0
AllKept [] [] = Unit {0}
AllKept [] (z ∷ zs) = ⊥
AllKept (c ∷ cs) [] = ⊥
AllKept (c ∷ cs) (z ∷ zs) = Kept c z × AllKept cs zs

pub kept_long : (cs : List Column) (zs : List ℤ) → AllKept cs zs → length zs ≡ length cs
kept_long [] [] k = refl
kept_long [] (z ∷ zs) k = absurd k
kept_long (c ∷ cs) [] k = absurd k
kept_long (c ∷ cs) (z ∷ zs) k = ap suc (kept_long cs zs k.1)

-- ---- one field
pub record FieldRead (c : Column) (line : List ℕ) (at stop : ℕ) (z : ℤ) (next : ℕ) : Type 0 where
  pub here : drop at line ≡ field_text c z ++ (stop ∷ drop next line)
  pub kept : Kept c z

module _ (line : List ℕ) (at stop : ℕ) (z : ℤ) (next : ℕ) where
  number-field : (n : Parsed ℕ) → number_at line at stop ≡ n → positive n ≡ Ok (z, next) → FieldRead number line at stop z next
  unfolding field_text decimal_ℤ
  number-field (Err place) q e = absurd (no_value place z next e)
  number-field (Ok (v, m)) q e =
      let w = value_is (pos v) z m next e in
      let r = number_read line at stop v m (sym q) in
      subst (λ (y : ℤ). FieldRead number line at stop y next) w.0
      (record { here = r.here ∙ ap (λ (y : ℕ). decimal v ++ (stop ∷ drop y line)) w.1; kept = (refl, r.small) })

  power-field : 0 < stop → (n : Parsed ℕ) → point_at false 3 line at stop ≡ n → positive n ≡ Ok (z, next) → FieldRead power line at stop z next
  unfolding field_text pointed_ℤ
  power-field some (Err place) q e = absurd (no_value place z next e)
  power-field some (Ok (v, m)) q e =
      let w = value_is (pos v) z m next e in
      let r = point_read false 3 (lit< tt) line at stop some v m q in
      subst (λ (y : ℤ). FieldRead power line at stop y next) w.0
      (record { here = r.here ∙ ap (λ (y : ℕ). pointed 3 v ++ (stop ∷ drop y line)) w.1; kept = (refl, r.small) })

  number-kept : (n : Parsed ℕ) → number_at line at stop ≡ n → positive n ≡ Ok (z, next) → ShareKept z
  number-kept (Err place) q e = absurd (no_value place z next e)
  number-kept (Ok (v, m)) q e = subst ShareKept (value_is (pos v) z m next e).0 (number_read line at stop v m (sym q)).small

  share_kept : share_at line at stop ≡ Ok (z, next) → ShareKept z
  unfolding share_at
  share_kept e = go (eqb (get_or line at 0) 45) e
    where
      alone : (t : Bool) → ◌≡◌ {A = Parsed ℤ} (cond t (Ok (minus 1, at + 2)) (Err (at + 1))) (Ok (z, next)) → ShareKept z
      alone true e = subst ShareKept (value_is (minus 1) z (at + 2) next e).0 refl
      alone false e = absurd (no_value (at + 1) z next e)

      go : (t : Bool) → ◌≡◌ {A = Parsed ℤ} (cond t (cond (eqb (get_or line (at + 1) 0) stop) (Ok (minus 1, at + 2)) (Err (at + 1))) (positive (number_at line at stop))) (Ok (z, next)) → ShareKept z
      go true e = alone (eqb (get_or line (at + 1) 0) stop) e
      go false e = number-kept (number_at line at stop) refl e

  pub field_read : (c : Column) → 0 < stop → field_at c line at stop ≡ Ok (z, next) → FieldRead c line at stop z next
  unfolding field_at field_text
  field_read number some e = number-field (number_at line at stop) refl e
  field_read signed some e = let r = signed_read line at stop z next e in record { here = r.here; kept = r.small }
  field_read share some e =
      record { here = (share_read line at stop z next some e).here; kept = share_kept e }
  field_read power some e = power-field some (point_at false 3 line at stop) refl e
  field_read flow some e = let r = signed_point_read 3 (lit< tt) line at stop some z next e in record { here = r.here; kept = r.small }
  field_read factor some e = let r = signed_point_read 5 (lit< tt) line at stop some z next e in record { here = r.here; kept = r.small }

pub record FieldWritten (c : Column) (line : List ℕ) (at stop : ℕ) (z : ℤ) (rest : List ℕ) : Type 0 where
  pub next : ℕ
  pub is : field_at c line at stop ≡ Ok (z, next)
  pub then : drop next line ≡ rest

module _ (line : List ℕ) (at stop : ℕ) (z : ℤ) (rest : List ℕ) (apart : is_digit stop ≡ false) where
  pub field_written : (c : Column) → drop at line ≡ field_text c z ++ (stop ∷ rest) → Kept c z → FieldWritten c line at stop z rest
  unfolding field_at field_text decimal_ℤ pointed_ℤ
  field_written number here k =
      let n = nat_abs z in
      let t : drop at line ≡ decimal n ++ (stop ∷ rest) = here ∙ ap (λ (y : ℤ). decimal_ℤ y ++ (stop ∷ rest)) k.0 in
      record {
        next = at + length (decimal n) + 1;
        is = ap positive (number_written line at stop n rest t k.1 apart) ∙ ap (λ (y : ℤ). Ok (y, at + length (decimal n) + 1)) (sym k.0);
        then = number_rest line at stop n rest t;
      }
  field_written signed here k = record { next = at + length (decimal_ℤ z) + 1; is = signed_written line at stop z rest here k apart; then = signed_rest line at stop z rest here }
  field_written share here k =
      let w = share_written line at stop z rest here k apart in
      record { next = w.next; is = w.is; then = w.then }
  field_written power here k =
      let n = nat_abs z in
      let t : drop at line ≡ pointed 3 n ++ (stop ∷ rest) = here ∙ ap (λ (y : ℤ). pointed_ℤ 3 y ++ (stop ∷ rest)) k.0 in
      record {
        next = at + length (pointed 3 n) + 1;
        is = ap positive (point_written false 3 (lit< tt) line at stop n rest t k.1 (λ e. absurd (false≢true e))) ∙ ap (λ (y : ℤ). Ok (y, at + length (pointed 3 n) + 1)) (sym k.0);
        then = point_rest false 3 (lit< tt) line at stop n rest t;
      }
  field_written flow here k = record { next = at + length (pointed_ℤ 3 z) + 1; is = signed_point_written 3 (lit< tt) line at stop z rest here k; then = signed_point_rest 3 line at stop z rest here }
  field_written factor here k = record { next = at + length (pointed_ℤ 5 z) + 1; is = signed_point_written 5 (lit< tt) line at stop z rest here k; then = signed_point_rest 5 line at stop z rest here }

pub field_no_feed : (c : Column) (z : ℤ) → HasNoFeed (field_text c z)
unfolding field_text
field_no_feed number z = decimal_ℤ_no_feed z
field_no_feed signed z = decimal_ℤ_no_feed z
field_no_feed share z = share_no_feed z
field_no_feed power z = pointed_ℤ_no_feed 3 z
field_no_feed flow z = pointed_ℤ_no_feed 3 z
field_no_feed factor z = pointed_ℤ_no_feed 5 z

-- ---- fields
pub values_is : (zs ys : List ℤ) (m n : ℕ) → values zs m ≡ values ys n → (zs ≡ ys) × (m ≡ n)
values_is zs ys m n e = (cc, cc)

pub no_values : (place : ℕ) (ys : List ℤ) (n : ℕ) → wrong place ≡ values ys n → ⊥
no_values place ys n e = let x : ◌≡◌ {A = ℕ} 0 1 = cc in zero_one x

pub record FieldsRead (sep last : ℕ) (cs : List Column) (line : List ℕ) (at : ℕ) (zs : List ℤ) (next : ℕ) : Type 0 where
  pub here : drop at line ≡ fields_ended sep last cs zs ++ drop next line
  pub kept : AllKept cs zs

-- a byte that ends fields
pub record Ends (b : ℕ) : Type 0 where
  pub some : 0 < b
  pub apart : is_digit b ≡ false

module _ (sep last : ℕ) (s : Ends sep) (l : Ends last) where
  stop-ends : (cs : List Column) → Ends (stop_of sep last cs)
  stop-ends [] = l
  stop-ends (c ∷ cs) = s

  pub fields_read : (cs : List Column) (line : List ℕ) (at : ℕ) (zs : List ℤ) (next : ℕ) → fields_at sep last cs line at ≡ values zs next → FieldsRead sep last cs line at zs next
  unfolding fields_at fields_ended
  fields_read [] line at zs next e =
      let w = values_is [] zs at next e in
      subst (λ (y : List ℤ). FieldsRead sep last [] line at y next) w.0 (record { here = ap (λ (k : ℕ). drop k line) w.1; kept = tt })
  fields_read (c ∷ cs) line at zs next e = go (λ m ys. fields_read cs line m ys next) (field_at c line at (stop_of sep last cs)) refl e
    where
      stop : ℕ
      stop = stop_of sep last cs

      more : ((m : ℕ) (ys : List ℤ) → fields_at sep last cs line m ≡ values ys next → FieldsRead sep last cs line m ys next) → (z : ℤ) (m : ℕ) → field_at c line at stop ≡ Ok (z, m)
          → (v : Values) → fields_at sep last cs line m ≡ v → push z v ≡ values zs next → FieldsRead sep last (c ∷ cs) line at zs next
      more ih z m q (wrong place) k e = absurd (no_values place zs next e)
      more ih z m q (values ys o) k e =
          let w = values_is (z ∷ ys) zs o next e in
          let r = ih m ys (k ∙ ap (values ys) w.1) in
          let f = field_read line at stop z m c (stop-ends cs).some q in
          subst (λ (y : List ℤ). FieldsRead sep last (c ∷ cs) line at y next) w.0
          (record {
            here = f.here ∙ ap (λ (l : List ℕ). field_text c z ++ (stop ∷ l)) r.here ∙ sym (append_assoc (field_text c z) (stop ∷ fields_ended sep last cs ys) (drop next line));
            kept = (f.kept, r.kept);
          })

      go : ((m : ℕ) (ys : List ℤ) → fields_at sep last cs line m ≡ values ys next → FieldsRead sep last cs line m ys next)
          → (s : Parsed ℤ) → field_at c line at stop ≡ s → onward s (λ m. fields_at sep last cs line m) ≡ values zs next → FieldsRead sep last (c ∷ cs) line at zs next
      go ih (Err place) q e = absurd (no_values place zs next e)
      go ih (Ok (z, m)) q e = more ih z m q (fields_at sep last cs line m) refl e

pub record FieldsWritten (sep last : ℕ) (cs : List Column) (line : List ℕ) (at : ℕ) (zs : List ℤ) (rest : List ℕ) : Type 0 where
  pub next : ℕ
  pub is : fields_at sep last cs line at ≡ values zs next
  pub then : drop next line ≡ rest

module _ (sep last : ℕ) (s : Ends sep) (l : Ends last) (line rest : List ℕ) where
  pub fields_written : (cs : List Column) (zs : List ℤ) (at : ℕ) → AllKept cs zs → drop at line ≡ fields_ended sep last cs zs ++ rest → FieldsWritten sep last cs line at zs rest
  unfolding fields_at fields_ended
  fields_written [] [] at k here = record { next = at; is = refl; then = here }
  fields_written [] (z ∷ zs) at k here = absurd k
  fields_written (c ∷ cs) [] at k here = absurd k
  fields_written (c ∷ cs) (z ∷ zs) at k here =
      let stop = stop_of sep last cs in
      let t : drop at line ≡ field_text c z ++ (stop ∷ (fields_ended sep last cs zs ++ rest)) = here ∙ append_assoc (field_text c z) (stop ∷ fields_ended sep last cs zs) rest in
      let f = field_written line at stop z (fields_ended sep last cs zs ++ rest) (stop-ends sep last s l cs).apart c t k.0 in
      let w = fields_written cs zs f.next k.1 f.then in
      record { next = w.next; is = rw (f.is, w.is); then = w.then }

-- ---- a line's head
pub tab_ends : Ends tab
tab_ends = record { some = omega arith; apart = refl }

pub feed_ends : Ends feed
feed_ends = record { some = omega arith; apart = refl }

-- an index from a place on
record IndexRead (sep : ℕ) (line : List ℕ) (i first at : ℕ) : Type 0 where
  here : drop first line ≡ index_text sep i ++ drop at line
  small : i < 10 ^ 10

index_read : (sep first : ℕ) (line : List ℕ) (i v at : ℕ) → index_at sep first line i ≡ Ok (v, at) → IndexRead sep line i first at
unfolding index_text
index_read sep first line i v at e = numbered (number_at line first sep) refl e
  where
    own : (index next : ℕ) → number_at line first sep ≡ Ok (index, next) → (t : Bool) → eqb index i ≡ t → ◌≡◌ {A = Parsed ℕ} (cond t (Ok (index, next)) (Err first)) (Ok (v, at)) → IndexRead sep line i first at
    own index next q false k e = absurd (no_value first v at e)
    own index next q true k e =
        let r = number_read line first sep index next (sym q) in
        let x : index ≡ i = eqb-true index i k in
        let w = value_is index v next at e in
        record {
          here = r.here ∙ ap₂ (λ (n m : ℕ). decimal n ++ (sep ∷ drop m line)) x w.1 ∙ sym (append_assoc (decimal i) (sep ∷ []) (drop at line));
          small = rw x at r.small;
        }

    numbered : (n : Parsed ℕ) → number_at line first sep ≡ n → own_index first i n ≡ Ok (v, at) → IndexRead sep line i first at
    numbered (Err place) q e = absurd (no_value place v at e)
    numbered (Ok (index, next)) q e = own index next q (eqb index i) refl e

-- what is asked of a head to be read again: an index has ten digits at most
abbrev pub Small : Head → Type 0
Small (Lettered letter) = Unit {0}
Small (Indexed letter i) = i < 10 ^ 10
Small (Bare i) = i < 10 ^ 10

record HeadRead (sep : ℕ) (head : Head) (line : List ℕ) (at : ℕ) : Type 0 where
  here : line ≡ head_text sep head ++ drop at line
  small : Small head

module _ (sep : ℕ) (line : List ℕ) (v at : ℕ) where
  numbered-read : (head : Head) → begun sep head line ≡ true → numbered sep head line ≡ Ok (v, at) → HeadRead sep head line at
  unfolding head_text
  numbered-read (Lettered letter) h e = record { here = headed_line letter sep line h ∙ ap (λ (n : ℕ). letter ∷ sep ∷ drop n line) (value_is 0 v 2 at e).1; small = tt }
  numbered-read (Indexed letter i) h e =
      let r = index_read sep 2 line i v at e in
      record { here = headed_line letter sep line h ∙ ap (λ (l : List ℕ). letter ∷ sep ∷ l) r.here; small = r.small }
  numbered-read (Bare i) h e = let r = index_read sep 0 line i v at e in record { here = r.here; small = r.small }

  head_read : (head : Head) → head_at sep head line ≡ Ok (v, at) → HeadRead sep head line at
  unfolding head_at
  head_read head e = go (begun sep head line) refl e
    where
      go : (t : Bool) → begun sep head line ≡ t → ◌≡◌ {A = Parsed ℕ} (cond t (numbered sep head line) (Err 0)) (Ok (v, at)) → HeadRead sep head line at
      go false h e = absurd (no_value 0 v at e)
      go true h e = numbered-read head h e

headed_is : (sep letter : ℕ) (s : List ℕ) → headed letter sep (letter ∷ sep ∷ s) ≡ true
headed_is sep letter s = rw (le-leb 2 (suc (suc (length s))) (omega arith), eq-eqb letter letter refl, eq-eqb sep sep refl)

record IndexWritten (sep first : ℕ) (line : List ℕ) (i : ℕ) (rest : List ℕ) : Type 0 where
  next : ℕ
  is : index_at sep first line i ≡ Ok (i, next)
  then : drop next line ≡ rest

index_written : (sep first : ℕ) (line : List ℕ) (i : ℕ) (rest : List ℕ) → drop first line ≡ index_text sep i ++ rest → is_digit sep ≡ false → i < 10 ^ 10 → IndexWritten sep first line i rest
unfolding index_text
index_written sep first line i rest e apart small =
    let here : drop first line ≡ decimal i ++ (sep ∷ rest) = e ∙ append_assoc (decimal i) (sep ∷ []) rest in
    record {
      next = first + length (decimal i) + 1;
      is = rw (number_written line first sep i rest here small apart, eq-eqb i i refl);
      then = number_rest line first sep i rest here;
    }

record HeadWritten (sep : ℕ) (head : Head) (rest : List ℕ) : Type 0 where
  value : ℕ
  next : ℕ
  is : head_at sep head (head_text sep head ++ rest) ≡ Ok (value, next)
  then : drop next (head_text sep head ++ rest) ≡ rest

head_written : (sep : ℕ) (head : Head) (rest : List ℕ) → is_digit sep ≡ false → Small head → HeadWritten sep head rest
unfolding head_at head_text
head_written sep (Lettered letter) rest apart small = record { value = 0; next = 2; is = rw (headed_is sep letter rest); then = refl }
head_written sep (Indexed letter i) rest apart small =
    let after = index_text sep i ++ rest in
    let w = index_written sep 2 (letter ∷ sep ∷ after) i rest refl apart small in
    record { value = i; next = w.next; is = rw (headed_is sep letter after) w.is; then = w.then }
head_written sep (Bare i) rest apart small =
    let w = index_written sep 0 (index_text sep i ++ rest) i rest refl apart small in
    record { value = i; next = w.next; is = w.is; then = w.then }

-- ---- a whole line
pub record LineRead (sep : ℕ) (head : Head) (cs : List Column) (line : List ℕ) (zs : List ℤ) : Type 0 where
  pub here : line ≡ columns_text sep head cs zs
  pub kept : AllKept cs zs
  pub small : Small head

module _ (sep : ℕ) (parts : Ends sep) (head : Head) (cs : List Column) where
  pub line_read : (line : List ℕ) (zs : List ℤ) (next : ℕ) → columns_line sep head cs line ≡ values zs next → LineRead sep head cs line zs
  unfolding columns_line rest_at columns_text
  line_read line zs next e = headed-by (head_at sep head line) refl e
    where
      end : (at : ℕ) → HeadRead sep head line at → (ys : List ℤ) (m : ℕ) → fields_at sep feed cs line at ≡ values ys m → (t : Bool) → ended line m ≡ t → cond t (values ys m) (wrong m) ≡ values zs next → LineRead sep head cs line zs
      end at r ys m q false k e = absurd (no_values m zs next e)
      end at r ys m q true k e =
          let f = fields_read sep feed parts feed_ends cs line at ys m q in
          let last : drop m line ≡ [] = drop_of_length-le line (leb-true (length line) m k) in
          subst (LineRead sep head cs line) (values_is ys zs m next e).0
          (record {
            here = r.here ∙ ap (λ (l : List ℕ). head_text sep head ++ l) (f.here ∙ ap (λ (l : List ℕ). fields_ended sep feed cs ys ++ l) last ∙ append-nil (fields_ended sep feed cs ys));
            kept = f.kept;
            small = r.small;
          })

      fielded : (at : ℕ) → HeadRead sep head line at → (v : Values) → fields_at sep feed cs line at ≡ v → to_end line v ≡ values zs next → LineRead sep head cs line zs
      fielded at r (wrong place) q e = absurd (no_values place zs next e)
      fielded at r (values ys m) q e = end at r ys m q (ended line m) refl e

      headed-by : (n : Parsed ℕ) → head_at sep head line ≡ n → after_number n (λ at. rest_at sep cs line at) ≡ values zs next → LineRead sep head cs line zs
      headed-by (Err place) q e = absurd (no_values place zs next e)
      headed-by (Ok (v, at)) q e = fielded at (head_read sep line v at head q) (fields_at sep feed cs line at) refl e

  pub record LineWritten (zs : List ℤ) : Type 0 where
    pub next : ℕ
    pub is : columns_line sep head cs (columns_text sep head cs zs) ≡ values zs next

  pub line_written : (zs : List ℤ) → Small head → AllKept cs zs → LineWritten zs
  unfolding columns_line rest_at columns_text
  line_written zs small k =
      let rest = fields_ended sep feed cs zs in
      let line = head_text sep head ++ rest in
      let x = head_written sep head rest parts.apart small in
      let f = fields_written sep feed parts feed_ends line [] cs zs x.next k (x.then ∙ sym (append-nil rest)) in
      record { next = f.next; is = rw (x.is, f.is, ended_text line f.next f.then) }

-- the text of fields is one line, whatever follows it
fields_one : (sep : ℕ) → eqb sep feed ≡ false → (c : Column) (cs : List Column) (zs : List ℤ) (r : List ℕ) → line_of (fields_ended sep feed (c ∷ cs) zs ++ r) ≡ fields_ended sep feed (c ∷ cs) zs
unfolding fields_ended
fields_one sep other c [] zs r =
    let f = field_text c (get_or zs 0 (pos 0)) in
    ap line_of (append_assoc f (feed ∷ []) r) ∙ line_past f (feed ∷ r) (field_no_feed c (get_or zs 0 (pos 0)))
fields_one sep other c (d ∷ ds) zs r =
    let f = field_text c (get_or zs 0 (pos 0)) in
    let rest = fields_ended sep feed (d ∷ ds) (drop 1 zs) in
    ap line_of (append_assoc f (sep ∷ rest) r) ∙ line_past f (sep ∷ (rest ++ r)) (field_no_feed c (get_or zs 0 (pos 0)))
    ∙ rw other (ap (λ (l : List ℕ). f ++ (sep ∷ l)) (fields_one sep other d ds (drop 1 zs) r))

-- what is asked of a head for its text to be one line: its letter is no LF
abbrev pub NoFeed : Head → Type 0
NoFeed (Lettered letter) = eqb letter feed ≡ false
NoFeed (Indexed letter i) = eqb letter feed ≡ false
NoFeed (Bare i) = Unit {0}

module _ (sep : ℕ) (other : eqb sep feed ≡ false) where
  index-one : (i : ℕ) (s : List ℕ) → line_of (index_text sep i ++ s) ≡ index_text sep i ++ line_of s
  unfolding index_text
  index-one i s =
      let d = decimal i in
      ap line_of (append_assoc d (sep ∷ []) s) ∙ line_past d (sep ∷ s) (decimal_no_feed i)
      ∙ rw other (sym (append_assoc d (sep ∷ []) (line_of s)))

  head-one : (head : Head) (s : List ℕ) → NoFeed head → line_of (head_text sep head ++ s) ≡ head_text sep head ++ line_of s
  unfolding head_text
  head-one (Lettered letter) s e = rw (e, other)
  head-one (Indexed letter i) s e = rw (e, other) (ap (λ (l : List ℕ). letter ∷ sep ∷ l) (index-one i s))
  head-one (Bare i) s e = index-one i s

  pub line_one : (head : Head) (cs : List Column) (zs : List ℤ) (r : List ℕ) → 0 < length cs → NoFeed head → line_of (columns_text sep head cs zs ++ r) ≡ columns_text sep head cs zs
  unfolding columns_text
  line_one head [] zs r some e = absurd (not-suc-le-zero some)
  line_one head (c ∷ cs) zs r some e =
      let fields = fields_ended sep feed (c ∷ cs) zs in
      ap line_of (append_assoc (head_text sep head) fields r) ∙ head-one head (fields ++ r) e
      ∙ ap (λ (l : List ℕ). head_text sep head ++ l) (fields_one sep other c cs zs r)

-- ---- a line that is judged by its values, whatever it holds of them
pub record JudgedValues {A : Type 0} (fits : List ℤ → Bool) (make : List ℤ → A) (v : Values) (a : A) : Type 0 where
  pub zs : List ℤ
  pub next : ℕ
  pub is : v ≡ values zs next
  pub fit : fits zs ≡ true
  pub made : make zs ≡ a

module _ {A : Type 0} (fits : List ℤ → Bool) (make : List ℤ → A) (bad : ℕ) (out : List ℤ → ℕ) where
  pub judged_is : (a : A) (v : Values) → judged fits make bad out v ≡ Ok a → JudgedValues fits make v a
  judged_is a (wrong place) e = absurd (no_fault (Form bad) a e)
  judged_is a (values zs next) e = go (fits zs) refl e
    where
      go : (t : Bool) → fits zs ≡ t → cond t (Ok (make zs)) (Err (Range (out zs))) ≡ Ok a → JudgedValues fits make (values zs next) a
      go false q e = absurd (no_fault (Range (out zs)) a e)
      go true q e = record { zs = zs; next = next; is = refl; fit = q; made = holds_is (make zs) a e }

  -- the bytes to blame change nothing else (02, E5: numbers and order are unchanged): what a line comes to is the same without them
  pub judged_plainly : (v : Values) → plainly (judged fits make bad out v) ≡ judged fits make 0 (λ zs. 0) v
  judged_plainly (wrong place) = refl
  judged_plainly (values zs next) = go (fits zs)
    where
      go : (t : Bool) → plainly (cond t (Ok (make zs)) (Err (Range (out zs)))) ≡ cond t (Ok (make zs)) (Err (Range 0))
      go true = refl
      go false = refl

  module _ (sep : ℕ) (parts : Ends sep) (head : Head) (cs : List Column) where
    -- a line that holds a is the text of values that make a
    pub record Holding (line : List ℕ) (a : A) : Type 0 where
      pub zs : List ℤ
      pub read : LineRead sep head cs line zs
      pub fit : fits zs ≡ true
      pub made : make zs ≡ a

    pub judged_read : (line : List ℕ) (a : A) → judged fits make bad out (columns_line sep head cs line) ≡ Ok a → Holding line a
    judged_read line a e =
        let j = judged_is a (columns_line sep head cs line) e in
        record { zs = j.zs; read = line_read sep parts head cs line j.zs j.next j.is; fit = j.fit; made = j.made }

    -- the text of values holds what they make
    pub judged_written : (zs : List ℤ) → Small head → AllKept cs zs → fits zs ≡ true → judged fits make bad out (columns_line sep head cs (columns_text sep head cs zs)) ≡ Ok (make zs)
    judged_written zs small k f = rw ((line_written sep parts head cs zs small k).is, f)

-- ---- two parts
pub kept_append : (cs ds : List Column) (zs ys : List ℤ) → AllKept cs zs → AllKept ds ys → AllKept (cs ++ ds) (zs ++ ys)
kept_append [] ds [] ys k l = l
kept_append [] ds (z ∷ zs) ys k l = absurd k
kept_append (c ∷ cs) ds [] ys k l = absurd k
kept_append (c ∷ cs) ds (z ∷ zs) ys k l = (k.0, kept_append cs ds zs ys k.1 l)
