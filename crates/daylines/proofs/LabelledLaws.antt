-- The laws of `specs/Labelled.antt`'s `labelled` and `lines_begun`. No contract cites this file.
-- In order: `Ended`; how long a labelled text is; texts one after another; one line; its pieces.
use mathlib.Core.Path.{◌≡◌, refl, sym, ap, subst, ◌∙◌}
use mathlib.Core.Bool.{Bool, true, false, cond, false≢true}
use mathlib.Core.List.{List, [], ◌∷◌, ◌++◌, map, append_assoc, append-nil}
use Prim.Native.Nat.{ℕ, zero, suc, ◌+◌, ◌*◌, ◌<◌}
use native.Mathlib.Nat.{add-mul}
use native.Mathlib.Omega.{arith}
use lib.Dec.{eqb}
use lib.ListN.{length, length-append}
use borrow.Author.Tests.{eqb-true}
use Rattle.text.specs.Fields.{tab, feed}
use Rattle.text.specs.Line.{line_of}
use Rattle.text.specs.Written.{lines_text}
use Rattle.text.proofs.LineLaws.{HasNoFeed}
use Rattle.corrections.specs.Corrections.{joined, pieces}
use Rattle.daylines.specs.Labelled.{heading, labelled_from, labelled, lines_begun, Ended}

-- ---- whether the last line is ended is told by the last byte
pub ended_past : (begins : Bool) (x : List ℕ) (b : ℕ) (text : List ℕ) → Ended (eqb b feed) text → Ended begins (x ++ (b ∷ text))
ended_past begins [] b text e = e
ended_past begins (c ∷ x) b text e = ended_past (eqb c feed) x b text e

pub ended_append : (begins : Bool) (x y : List ℕ) → Ended begins x → Ended true y → Ended begins (x ++ y)
ended_append begins [] y e f = subst (λ (v : Bool). Ended v y) (sym e) f
ended_append begins (b ∷ x) y e f = ended_append (eqb b feed) x y e f

-- ---- how long a labelled text is
heading_length : (label : List ℕ) (begins : Bool) → length (heading label begins) ≡ cond begins 1 0 * (length label + 1)
unfolding heading
heading_length label true = omega (arith, length-append label (tab ∷ []))
heading_length label false = omega arith

pub labelled_length : (label : List ℕ) (begins : Bool) (text : List ℕ) → length (labelled_from label begins text) ≡ length text + lines_begun begins text * (length label + 1)
unfolding labelled_from lines_begun
labelled_length label begins [] = omega arith
labelled_length label begins (b ∷ text) =
    let rest = labelled_from label (eqb b feed) text in
    let n = cond {A = ℕ} begins 1 0 in
    omega (
      arith,
      length-append (heading label begins) (b ∷ rest),
      heading_length label begins,
      labelled_length label (eqb b feed) text,
      add-mul n (lines_begun (eqb b feed) text) (length label + 1),
    )

-- ---- texts one after another
pub labelled_append : (label : List ℕ) (begins : Bool) (x y : List ℕ) → Ended begins x → labelled_from label begins (x ++ y) ≡ labelled_from label begins x ++ labelled label y
unfolding labelled_from
labelled_append label begins [] y e = ap (λ (v : Bool). labelled_from label v y) e
labelled_append label begins (b ∷ x) y e =
    let rest = labelled_from label (eqb b feed) x in
    ap (λ (l : List ℕ). heading label begins ++ (b ∷ l)) (labelled_append label (eqb b feed) x y e)
    ∙ sym (append_assoc (heading label begins) (b ∷ rest) (labelled label y))

pub begun_append : (begins : Bool) (x y : List ℕ) → Ended begins x → lines_begun begins (x ++ y) ≡ lines_begun begins x + lines_begun true y
unfolding lines_begun
begun_append begins [] y e = rw e (omega arith)
begun_append begins (b ∷ x) y e = omega (arith, begun_append (eqb b feed) x y e)

pub labelled_ended : (label : List ℕ) (begins : Bool) (text : List ℕ) → Ended begins text → Ended begins (labelled_from label begins text)
unfolding labelled_from
labelled_ended label begins [] e = e
labelled_ended label begins (b ∷ text) e = ended_past begins (heading label begins) b (labelled_from label (eqb b feed) text) (labelled_ended label (eqb b feed) text e)

-- ---- one line: what holds no LF, and an LF
pub record OneLine (line : List ℕ) : Type 0 where
  pub front : List ℕ
  pub plain : HasNoFeed front
  pub is : line ≡ front ++ (feed ∷ [])

-- what is a line whatever follows it is one
pub one_of : (line : List ℕ) → ((rest : List ℕ) → line_of (line ++ rest) ≡ line) → OneLine line
one_of [] h = absurd (omega (arith, ap length (h (0 ∷ []))))
one_of (b ∷ line) h = go (one_of line) (eqb b feed) refl
  where
    go : (((rest : List ℕ) → line_of (line ++ rest) ≡ line) → OneLine line) → (v : Bool) → eqb b feed ≡ v → OneLine (b ∷ line)
    go ih true e =
        let x : b ∷ [] ≡ b ∷ line = rw e at (h []) in
        let f : b ≡ feed = eqb-true b feed e in
        record { front = []; plain = tt; is = cc }
    go ih false e =
        let next : (rest : List ℕ) → line_of (line ++ rest) ≡ line = λ rest. let x : b ∷ line_of (line ++ rest) ≡ b ∷ line = rw e at (h rest) in cc in
        let o = ih next in
        record { front = b ∷ o.front; plain = (e, o.plain); is = ap (λ (l : List ℕ). b ∷ l) o.is }

pub one_ended : {line : List ℕ} → OneLine line → Ended true line
one_ended o = subst (λ (l : List ℕ). Ended true l) (sym o.is) (ended_past true o.front feed [] refl)

begun_none : (front : List ℕ) → HasNoFeed front → lines_begun false (front ++ (feed ∷ [])) ≡ 0
unfolding lines_begun
begun_none [] h = refl
begun_none (b ∷ front) h = rw h.0 (omega (arith, begun_none front h.1))

begun_one : (front : List ℕ) → HasNoFeed front → lines_begun true (front ++ (feed ∷ [])) ≡ 1
unfolding lines_begun
begun_one [] h = refl
begun_one (b ∷ front) h = rw h.0 (omega (arith, begun_none front h.1))

pub one_begun : {line : List ℕ} → OneLine line → lines_begun true line ≡ 1
one_begun o = ap (λ (l : List ℕ). lines_begun true l) o.is ∙ begun_one o.front o.plain

module _ (line : ℕ → List ℕ) (one : (k : ℕ) → OneLine (line k)) where
  pub lines_ended : (left i : ℕ) → Ended true (lines_text left i line)
  unfolding lines_text
  lines_ended zero i = refl
  lines_ended (suc left) i = ended_append true (line i) (lines_text left (i + 1) line) (one_ended (one i)) (lines_ended left (i + 1))

  pub lines_begun_lem : (left i : ℕ) → lines_begun true (lines_text left i line) ≡ left
  unfolding lines_text lines_begun
  lines_begun_lem zero i = refl
  lines_begun_lem (suc left) i = omega (arith, begun_append true (line i) (lines_text left (i + 1) line) (one_ended (one i)), one_begun (one i), lines_begun_lem left (i + 1))

-- ---- its pieces
pieces_some : (b : ℕ) (text : List ℕ) → 0 < length (pieces (b ∷ text))
pieces_some b text = go (eqb b feed) (pieces text)
  where
    go : (v : Bool) (ls : List (List ℕ)) → 0 < length (cond v ((b ∷ []) ∷ ls) (joined b ls))
    go true ls = omega arith
    go false [] = omega arith
    go false (l ∷ ls) = omega arith

-- the pieces of a text whose last line is ended go on with those of the next
pub pieces_append : (begins : Bool) (x y : List ℕ) → Ended begins x → pieces (x ++ y) ≡ pieces x ++ pieces y
pieces_append begins [] y e = refl
pieces_append begins (b ∷ x) y e = go (eqb b feed) x e (pieces_append (eqb b feed) x y e)
  where
    join : (ls ms : List (List ℕ)) → 0 < length ls → joined b (ls ++ ms) ≡ joined b ls ++ ms
    join [] ms h = absurd (omega arith)
    join (l ∷ ls) ms h = refl

    go : (v : Bool) (x : List ℕ) → Ended v x → pieces (x ++ y) ≡ pieces x ++ pieces y → cond v ((b ∷ []) ∷ pieces (x ++ y)) (joined b (pieces (x ++ y))) ≡ cond v ((b ∷ []) ∷ pieces x) (joined b (pieces x)) ++ pieces y
    go true x e ih = ap (λ (ls : List (List ℕ)). (b ∷ []) ∷ ls) ih
    go false [] e ih = absurd (false≢true e)
    go false (c ∷ x) e ih = ap (joined b) ih ∙ join (pieces (c ∷ x)) (pieces y) (pieces_some c x)

-- what holds no LF stays before the first piece
abbrev on_first : (List ℕ → List ℕ) → List (List ℕ) → List (List ℕ)
on_first f [] = []
on_first f (l ∷ ls) = f l ∷ ls

abbrev on_rest : (List ℕ → List ℕ) → List (List ℕ) → List (List ℕ)
on_rest f [] = []
on_rest f (l ∷ ls) = l ∷ map f ls

pieces_front : (x text : List ℕ) → HasNoFeed x → 0 < length (pieces text) → pieces (x ++ text) ≡ on_first (λ l. x ++ l) (pieces text)
pieces_front [] text h some = go (pieces text)
  where
    go : (ls : List (List ℕ)) → ls ≡ on_first (λ l. l) ls
    go [] = refl
    go (l ∷ ls) = refl
pieces_front (b ∷ x) text h some = rw h.0 (ap (joined b) (pieces_front x text h.1 some) ∙ go (pieces text) some)
  where
    go : (ls : List (List ℕ)) → 0 < length ls → joined b (on_first (λ l. x ++ l) ls) ≡ on_first (λ l. b ∷ (x ++ l)) ls
    go [] some = absurd (omega arith)
    go (l ∷ ls) some = refl

pub no_feed_append : (x y : List ℕ) → HasNoFeed x → HasNoFeed y → HasNoFeed (x ++ y)
no_feed_append [] y h k = k
no_feed_append (b ∷ x) y h k = (h.0, no_feed_append x y h.1 k)

module _ (label : List ℕ) (plain : HasNoFeed label) where
  abbrev put : List ℕ → List ℕ
  put line = label ++ (tab ∷ line)

  record Pieces (text : List ℕ) : Type 0 where
    whole : pieces (labelled_from label true text) ≡ map put (pieces text)
    rest : pieces (labelled_from label false text) ≡ on_rest put (pieces text)

  -- from what is left of a line to the whole of it
  headed : (b : ℕ) (text : List ℕ) → pieces (labelled_from label false (b ∷ text)) ≡ on_rest put (pieces (b ∷ text)) → Pieces (b ∷ text)
  unfolding labelled_from heading
  headed b text e =
      let body = b ∷ labelled_from label (eqb b feed) text in
      let front = pieces_front (label ++ (tab ∷ [])) body (no_feed_append label (tab ∷ []) plain (refl, tt)) (pieces_some b (labelled_from label (eqb b feed) text)) in
      record { whole = front ∙ ap (on_first (λ l. (label ++ (tab ∷ [])) ++ l)) e ∙ go (pieces (b ∷ text)); rest = e }
    where
      go : (ls : List (List ℕ)) → on_first (λ l. (label ++ (tab ∷ [])) ++ l) (on_rest put ls) ≡ map put ls
      go [] = refl
      go (l ∷ ls) = ap (λ (m : List ℕ). m ∷ map put ls) (append_assoc label (tab ∷ []) l)

  both : (text : List ℕ) → Pieces text
  unfolding labelled_from heading
  both [] = record { whole = refl; rest = refl }
  both (b ∷ text) = headed b text (go (eqb b feed) (both text) (pieces text))
    where
      join : (ls : List (List ℕ)) → joined b (on_rest put ls) ≡ on_rest put (joined b ls)
      join [] = refl
      join (l ∷ ls) = refl

      go : (v : Bool) → Pieces text → (ls : List (List ℕ)) → cond v ((b ∷ []) ∷ pieces (labelled_from label v text)) (joined b (pieces (labelled_from label v text))) ≡ on_rest put (cond v ((b ∷ []) ∷ pieces text) (joined b (pieces text)))
      go true p ls = ap (λ (ms : List (List ℕ)). (b ∷ []) ∷ ms) p.whole
      go false p ls = ap (joined b) p.rest ∙ join (pieces text)

  -- each piece of a labelled text is the label, a tab, and a piece of the text
  pub labelled_pieces : (text : List ℕ) → pieces (labelled label text) ≡ map (λ line. label ++ (tab ∷ line)) (pieces text)
  labelled_pieces text = (both text).whole
