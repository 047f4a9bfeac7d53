-- The laws of `specs/Standings.antt`: that what the code fills in is what the definitions say, and what is known of the rows of a table. No contract cites this file.
use mathlib.Core.Path.{◌≡◌, sym, ap, ap₂, subst, ◌∙◌}
use mathlib.Core.List.{List}
use Prim.Native.Nat.{ℕ, ◌*◌, ◌≤◌, ◌<◌}
use lib.IntN.{ℤ}
use lib.ListN.{length, take}
use Rattle.numbers.specs.Below.{at}
use Rattle.numbers.proofs.BelowLaws.{table_long, table_get}
use Rattle.types.specs.Ranges.{allocated_items}
use Rattle.tablerules.specs.Table.{Table, lent, front}
use Rattle.marginrules.specs.Margin.{ram_at, rams_of, starts_of}
use Rattle.staterules.specs.States.{state_of, states_of}
use Rattle.staterules.specs.Standings.{Standings, standings_of, standings_with}
use Rattle.staterules.proofs.StateLaws.{state_most}

-- n is as many T records as the header says
module _ (given : Table) (n : ℕ) (is : n ≡ allocated_items given.header) where
  abbrev cut : Table
  cut =
      let h = given.header in
      lent h (take h.zones given.nets) (take n given.allocated) (take h.borders given.borders) (take h.rows given.rows) (take (h.rows * h.zones) given.factors)

  cut-front : cut ≡ front given
  cut-front = rw is

  pub rows_are : {rams starts : List ℤ} {states : List ℕ} → rams ≡ rams_of cut → starts ≡ starts_of cut → states ≡ states_of cut.header cut.factors rams
      → (standings_with rams states ≡ standings_of (front given)) × (starts ≡ starts_of (front given))
  unfolding standings_of
  rows_are {rams} e s u =
      let ram : rams ≡ rams_of (front given) = e ∙ ap rams_of cut-front in
      (ap₂ standings_with ram (u ∙ ap (states_of cut.header cut.factors) ram), s ∙ ap starts_of cut-front)

pub record RowsIn (t : Table) (m : Standings) : Type 0 where
  pub rams_long : length m.rams ≡ t.header.rows
  pub states_long : length m.states ≡ t.header.rows
  pub states_in : (i : ℕ) → i < t.header.rows → at m.states i ≤ 2

pub rows_in_lem : (t : Table) (m : Standings) → m ≡ standings_of t → RowsIn t m
unfolding standings_of
rows_in_lem t m e =
    let state : ℕ → ℕ = state_of t.header t.factors (rams_of t) in
    subst (RowsIn t) (sym e) (record {
      rams_long = table_long t.header.rows (ram_at t);
      states_long = table_long t.header.rows state;
      states_in = λ i h. rw (table_get t.header.rows state i 0 h) (state_most t.header t.factors (rams_of t) i);
    })
