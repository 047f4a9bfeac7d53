-- `lending::read_with` meets its contract: refused texts leave all as it was (`text-refused`), and a table that was read goes on.
use Rattle.std.proofs.lemmas.Result.{err_from_is_err_and}
use mathlib.Core.Path.{sym, ap, ◌∙◌}
use native.Mathlib.Omega.{arith}
use Rattle.refusals.specs.Refusals.{Judged}
use Rattle.tablerules.specs.Table.{Table}
use Rattle.reading.specs.Reading.{tables_left}
use Rattle.reading.proofs.IntoLaws.{into_refused, into_read, into_good}
use Rattle.reading.proofs.LeftLaws.{text_refused}
use Rattle.lending.proofs.read_with.Goals as goal

pub put_table-requires : goal.put_table-requires
put_table-requires c = record {
  fits = (into_good c.args.text.now c.args.sheet.now c.read_into.result _ _ _ _ _ c.read_into.ensures c.in_ok-header.was).exact.header;
  roomy = record {
    zones = omega (arith, c.requires.0, c.read_into.auto.z);
    allocated = omega (arith, c.requires.1, c.read_into.auto.t);
    borders = omega (arith, c.requires.2, c.read_into.auto.b);
    rows = omega (arith, c.requires.3, c.read_into.auto.c);
    factors = omega (arith, c.requires.4, c.read_into.auto.f);
  };
}

pub returns : goal.returns
returns c = c.put_table.ensures
    ∙ ap (λ (j : Judged Table). tables_left j c.args.z.now c.args.t.now c.args.b.now c.args.c.now c.args.f.now) (sym (into_read c.args.text.now c.args.sheet.now c.read_into.result _ _ _ _ _ c.read_into.ensures c.in_ok-header.was))

pub returns-in_err-header : goal.returns-in_err-header
returns-in_err-header c =
    let p = err_from_is_err_and c.from_residual.result c.from_residual.ensures.1 in
    rw (p.1, p.2) (text_refused _ c.args.z.now c.args.t.now c.args.b.now c.args.c.now c.args.f.now _ (sym (into_refused c.args.text.now c.args.sheet.now c.read_into.result _ _ _ _ _ c.read_into.ensures c.in_err-header.was)))
