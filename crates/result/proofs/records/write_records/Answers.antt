-- `result::records::write_records` meets its contract: too short (`text-short`), or the text and then what stood there (`text_out`).
use native.Mathlib.Omega.{arith}
use Rattle.text.proofs.LeftLaws.{text_short, text_out}
use Rattle.result.specs.Records.{records_text}
use Rattle.result.proofs.records.write_records.Goals as goal

pub returns-then-out-needed : goal.returns-then-out-needed
returns-then-out-needed c = (text_short (records_text c.args.atc.now c.args.left.now c.args.rounds) c.args.out.now _ c.records_length-needed.ensures.0 (omega arith), omega (arith, c.records_length-needed.ensures.1))

pub put_records-requires : goal.put_records-requires
put_records-requires c = omega (arith, c.records_length-needed.ensures.0)

pub returns : goal.returns
returns c = (text_out (records_text c.args.atc.now c.args.left.now c.args.rounds) c.args.out.now (omega (arith, c.records_length-needed.ensures.0)) c.put_records.ensures, omega (arith, c.records_length-needed.ensures, c.put_records.ensures.0))
