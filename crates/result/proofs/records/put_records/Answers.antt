-- `result::records::put_records` meets its contract: A lines, M lines and the R line, one after another (`text-put`).
use mathlib.Core.Path.{refl}
use Prim.Native.Nat.{◌+◌}
use native.Mathlib.Omega.{arith}
use lib.ListN.{length}
use Rattle.text.proofs.PutLaws.{put_room, put_whole}
use Rattle.result.specs.Records.{margin_lines, rounds_line}
use Rattle.result.proofs.RecordsLaws.{text_length, text_put}
use Rattle.result.proofs.records.put_records.Goals as goal

pub put_lines-margins_at-requires : goal.put_lines-margins_at-requires
put_lines-margins_at-requires c = (refl, omega (arith, c.requires, text_length c.args.atc.now c.args.left.now c.args.rounds))

pub put_lines-rounds_at-requires : goal.put_lines-rounds_at-requires
put_lines-rounds_at-requires c = let all = text_length c.args.atc.now c.args.left.now c.args.rounds in
    (refl, put_room c.put_lines-margins_at.ensures (length (margin_lines c.args.left.now)) (omega (arith, c.requires)))

pub put_rounds-requires : goal.put_rounds-requires
put_rounds-requires c = let all = text_length c.args.atc.now c.args.left.now c.args.rounds in
    let last = length (rounds_line c.args.rounds) in
    put_room c.put_lines-rounds_at.ensures last (put_room c.put_lines-margins_at.ensures (length (margin_lines c.args.left.now) + last) (omega (arith, c.requires)))

pub returns : goal.returns
returns c = put_whole (text_put c.args.atc.now c.args.left.now c.args.rounds c.put_lines-margins_at.ensures c.put_lines-rounds_at.ensures c.put_rounds.ensures)
