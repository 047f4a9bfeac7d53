-- What the C interface answers: number, place and byte of the refusal, all 0 where there is none, and then the values (0 where refused).
-- `read_coded`, `text_coded`, `answered_coded`, `extract_coded`, `explained_coded`, `flows_coded`, `rows_coded`, `margins_coded`, `coded_judged` and `coded_bounded` are what contracts cite: a call's answer coded so, and each lent buffer as the call leaves it.
use Rattle.std.specs.Prelude.{List, ℕ, ℤ, pos, Err, Ok}
use Rattle.refusals.specs.Refusals.{Judged, Ruling, number_of, place_of, byte_of}
use Rattle.types.specs.declared.Header.{Header}
use Rattle.reading.specs.Reading.{ReadLeft}
use Rattle.text.specs.Left.{TextLeft}
use Rattle.extractrules.specs.Extraction.{ExtractLeft}
use Rattle.cornerrules.specs.Corners.{FlowsLeft}
use Rattle.coded.specs.declared.KeravnothRead.{KeravnothRead}
use Rattle.coded.specs.declared.KeravnothWritten.{KeravnothWritten}
use Rattle.coded.specs.declared.KeravnothAnswered.{KeravnothAnswered}
use Rattle.coded.specs.declared.KeravnothExtracted.{KeravnothExtracted}
use Rattle.coded.specs.declared.KeravnothFlows.{KeravnothFlows}
use Rattle.rowsheet.specs.RowSheet.{RowsLeft}
use Rattle.tightrules.specs.declared.RoundsMost.{RoundsMost}
use Rattle.partrules.specs.Parts.{MarginsLeft}
use Rattle.coded.specs.declared.KeravnothJudged.{KeravnothJudged}
use Rattle.coded.specs.declared.KeravnothBounded.{KeravnothBounded}
use Rattle.holding.specs.declared.Reasons.{Reasons}
use Rattle.why.specs.Why.{WhyLeft}
use Rattle.coded.specs.declared.KeravnothExplained.{KeravnothExplained}

-- the header of the table that was read
abbrev pub coded_read : Judged Header → KeravnothRead
coded_read (Ok h) = record { number = 0; place = 0; byte = 0; zones = h.zones; borders = h.borders; rows = h.rows; share = h.share; intraday = h.intraday }
coded_read (Err w) = record { number = number_of w; place = place_of w; byte = byte_of w; zones = 0; borders = 0; rows = 0; share = pos 0; intraday = 0 }

-- the bytes of the text that was written
abbrev pub coded_written : Judged ℕ → KeravnothWritten
coded_written (Ok n) = record { number = 0; place = 0; byte = 0; bytes = n }
coded_written (Err w) = record { number = number_of w; place = place_of w; byte = byte_of w; bytes = 0 }

-- the rounds
abbrev pub coded_extracted : Judged ℕ → KeravnothExtracted
coded_extracted (Ok n) = record { number = 0; place = 0; byte = 0; rounds = n }
coded_extracted (Err w) = record { number = number_of w; place = place_of w; byte = byte_of w; rounds = 0 }

-- the corners
abbrev pub coded_flows : Judged ℕ → KeravnothFlows
coded_flows (Ok n) = record { number = 0; place = 0; byte = 0; corners = n }
coded_flows (Err w) = record { number = number_of w; place = place_of w; byte = byte_of w; corners = 0 }

-- a judgement alone, by what was judged and as the code tells it
abbrev pub coded_judged : {A : Type 0} → Judged A → KeravnothJudged
coded_judged (Ok a) = record { number = 0; place = 0; byte = 0 }
coded_judged (Err w) = record { number = number_of w; place = place_of w; byte = byte_of w }

abbrev pub coded_ruling : Ruling → KeravnothJudged
coded_ruling (Ok tt) = record { number = 0; place = 0; byte = 0 }
coded_ruling (Err w) = record { number = number_of w; place = place_of w; byte = byte_of w }

-- an answer in text: the bytes that were written, and the number, place and byte that the text tells, all 0 where it is a result or was not written
abbrev pub coded_answered : Judged ℕ → (told : Ruling) → KeravnothAnswered
coded_answered (Ok n) told =
    record {
      number = 0;
      place = 0;
      byte = 0;
      bytes = n;
      told_number = (coded_ruling told).number;
      told_place = (coded_ruling told).place;
      told_byte = (coded_ruling told).byte;
    }
coded_answered (Err w) told = record { number = number_of w; place = place_of w; byte = byte_of w; bytes = 0; told_number = 0; told_place = 0; told_byte = 0 }

-- N, L, 2 x N x L and the sharper bound
abbrev pub coded_bounded : Judged RoundsMost → KeravnothBounded
coded_bounded (Ok most) = record { number = 0; place = 0; byte = 0; sharers = most.sharers; bits = most.bits; rounds = most.rounds; sharp = most.sharp }
coded_bounded (Err w) = record { number = number_of w; place = place_of w; byte = byte_of w; sharers = 0; bits = 0; rounds = 0; sharp = 0 }

-- a border's reasons: the rounds, the border's last, the row that the result names and the row that ended its rise
abbrev pub coded_explained : Judged Reasons → KeravnothExplained
coded_explained (Ok r) = record { number = 0; place = 0; byte = 0; rounds = r.rounds; last = r.last; named = r.named; ended = r.ended }
coded_explained (Err w) = record { number = number_of w; place = place_of w; byte = byte_of w; rounds = 0; last = 0; named = pos 0; ended = pos 0 }

-- what `keravnoth_read` leaves: its answer, and each lent table
pub record ReadCoded : Type 0 where
  pub answer : KeravnothRead
  pub z : List ℤ
  pub t : List ℤ
  pub b : List (List ℤ)
  pub c : List (List ℤ)
  pub f : List ℤ

abbrev pub read_found : (answer : KeravnothRead) → (z t : List ℤ) → (b c : List (List ℤ)) → (f : List ℤ) → ReadCoded
read_found answer z t b c f = record { answer = answer; z = z; t = t; b = b; c = c; f = f }

abbrev pub read_coded : ReadLeft → ReadCoded
read_coded l = read_found (coded_read l.answer) l.z l.t l.b l.c l.f

-- what a call leaves that fills one lent buffer: its answer, and the buffer
pub record OutCoded (A B : Type 0) : Type 0 where
  pub answer : A
  pub out : List B

abbrev pub out_found : {A B : Type 0} → (answer : A) → (out : List B) → OutCoded A B
out_found answer out = record { answer = answer; out = out }

-- what a call that writes text leaves: its answer, and the lent bytes
abbrev pub text_found : (answer : KeravnothWritten) → (out : List ℕ) → OutCoded KeravnothWritten ℕ
text_found answer out = out_found answer out

abbrev pub text_coded : TextLeft → OutCoded KeravnothWritten ℕ
text_coded l = text_found (coded_written l.answer) l.out

-- what an answer in text leaves: its answer with what the text tells, and the lent bytes
abbrev pub answered_found : (answer : KeravnothAnswered) → (out : List ℕ) → OutCoded KeravnothAnswered ℕ
answered_found answer out = out_found answer out

abbrev pub answered_coded : TextLeft → (told : Ruling) → OutCoded KeravnothAnswered ℕ
answered_coded l told = answered_found (coded_answered l.answer told) l.out

-- what `keravnoth_corner_flows` leaves: its answer, and the lent numbers
abbrev pub flows_found : (answer : KeravnothFlows) → (out : List ℤ) → OutCoded KeravnothFlows ℤ
flows_found answer out = out_found answer out

abbrev pub flows_coded : FlowsLeft → OutCoded KeravnothFlows ℤ
flows_coded l = flows_found (coded_flows l.answer) l.out

-- what `keravnoth_margins` leaves: its answer, and the lent records
abbrev pub margins_found : (answer : KeravnothJudged) → (out : List (List ℤ)) → OutCoded KeravnothJudged (List ℤ)
margins_found answer out = out_found answer out

abbrev pub margins_coded : MarginsLeft → OutCoded KeravnothJudged (List ℤ)
margins_coded l = margins_found (coded_judged l.answer) l.out

-- what `keravnoth_extract` leaves: its answer, the lent table of p, and the lent results
pub record ExtractCoded : Type 0 where
  pub answer : KeravnothExtracted
  pub p : List ℕ
  pub atcs : List (List ℤ)
  pub lefts : List (List ℤ)

abbrev pub extract_found : (answer : KeravnothExtracted) → (ps : List ℕ) → (atcs lefts : List (List ℤ)) → ExtractCoded
extract_found answer ps atcs lefts = record { answer = answer; p = ps; atcs = atcs; lefts = lefts }

abbrev pub extract_coded : ExtractLeft → ExtractCoded
extract_coded l = extract_found (coded_extracted l.answer) l.p l.atcs l.lefts

-- what `keravnoth_why` leaves: its answer, the lent table of p, and the lent records
pub record ExplainedCoded : Type 0 where
  pub answer : KeravnothExplained
  pub p : List ℕ
  pub ends : List (List ℤ)
  pub rows : List (List ℤ)

abbrev pub explained_found : (answer : KeravnothExplained) → (ps : List ℕ) → (ends rows : List (List ℤ)) → ExplainedCoded
explained_found answer ps ends rows = record { answer = answer; p = ps; ends = ends; rows = rows }

abbrev pub explained_coded : WhyLeft → ExplainedCoded
explained_coded l = explained_found (coded_explained l.answer) l.p l.ends l.rows

-- what `keravnoth_read_rows` leaves: its answer, the lent records and the lent factors
pub record RowsCoded : Type 0 where
  pub answer : KeravnothJudged
  pub c : List (List ℤ)
  pub f : List ℤ

abbrev pub rows_found : (answer : KeravnothJudged) → (c : List (List ℤ)) → (f : List ℤ) → RowsCoded
rows_found answer c f = record { answer = answer; c = c; f = f }

abbrev pub rows_coded : RowsLeft → RowsCoded
rows_coded l = rows_found (coded_judged l.answer) l.c l.f
