-- `margin::fill_rams` meets its contract. The loop's invariant: the first i rows have their RAM, and where their margin starts.
use Rattle.numbers.proofs.ListLaws.{Filled}
use Rattle.tablerules.specs.Table.{lent_view}
use Rattle.marginrules.specs.Margin.{ram_at, margin_of}
use Rattle.margin.proofs.fill_rams.Given as goal

abbrev pub invariant-loop-i : goal.invariant-loop-i
invariant-loop-i l = record {
  rams-filled : Filled (ram_at (lent_view l.view)) l.view.header.rows l.initial.rams l.rams l.i;
  starts-filled : Filled (margin_of (lent_view l.view)) l.view.header.rows l.initial.starts l.starts l.i;
}
