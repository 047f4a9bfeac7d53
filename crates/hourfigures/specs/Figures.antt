-- The figures of an hour for a day's sheet: what came of it, where each of its borders goes, and each ATC. `found_in`, `figures_by` and `kept_of` are what contracts cite.
use Rattle.std.specs.Prelude.{not, List, [], ℕ, ◌*◌, ℤ, eqb, take, Err, Ok}
use Rattle.limits.specs.Limits.{borders_most}
use Rattle.refusals.specs.declared.Refusal.{Refusal}
use Rattle.refusals.specs.Refusals.{Judged, either, number_of, place_of, byte_of}
use Rattle.types.specs.declared.Header.{Header}
use Rattle.daysheet.specs.declared.Hour.{Hour}
use Rattle.daysheet.specs.declared.Hour.TheVariants.{Answered, Refused, Unread}
use Rattle.hourfigures.specs.Items.{ways_of, atcs_of, pasted}

-- what an extraction tells of an hour: its rounds, and the ATC of each border
pub record Found : Type 0 where
  pub rounds : ℕ
  pub atcs : List ℕ

-- what an extraction into lent records tells
abbrev pub found_in : (borders : ℕ) → Judged ℕ → (records : List (List ℤ)) → Judged Found
found_in borders (Ok n) records = Ok (record { rounds = n; atcs = atcs_of (take borders records) })
found_in borders (Err w) records = Err w

-- what came of an hour, and the items of its borders
pub record Figures : Type 0 where
  pub hour : Hour
  pub ways : List ℕ
  pub atcs : List ℕ

abbrev pub figures : Hour → (ways atcs : List ℕ) → Figures
figures hour ways atcs = record { hour = hour; ways = ways; atcs = atcs }

-- only an hour that is answered has items; it is intraday where its header's mark is not 0
abbrev pub answered_hour : Header → (borders : List (List ℤ)) → Found → Figures
answered_hour h borders found = figures (Answered (record { rounds = found.rounds; borders = h.borders; intraday = not (eqb h.intraday 0) })) (ways_of borders) found.atcs

abbrev pub refused_hour : Refusal → Figures
refused_hour w = figures (Refused (number_of w) (place_of w) (byte_of w)) [] []

abbrev pub unread_hour : Figures
unread_hour = figures Unread [] []

-- the figures of a table that was read
unfoldable pub figures_by : Header → (borders : List (List ℤ)) → Judged Found → Figures
figures_by h borders found = either found (answered_hour h borders) refused_hour

-- what keeping an hour's figures as those of hour k leaves: what came of it, and both tables, which hold for each hour as many items as a table may have borders
abbrev pub kept_of : Figures → (k : ℕ) → (ways atcs : List ℕ) → Figures
kept_of f k ways atcs = figures f.hour (pasted (k * borders_most) f.ways ways) (pasted (k * borders_most) f.atcs atcs)
