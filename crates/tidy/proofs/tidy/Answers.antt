-- `tidy::tidy` meets its contract: a text that is too long, a room that is too short, or all lines stored in room for those that stay (`lines_stored`).
use Prim.Native.Nat.{◌≤◌}
use mathlib.Core.Path.{◌≡◌, ap, ◌∙◌}
use native.Mathlib.Omega.{arith}
use lib.ListN.{length}
use Rattle.tidyrules.specs.Tidied.{tidied}
use Rattle.tidy.proofs.BeginLaws.{unmarked_le}
use Rattle.tidy.proofs.TidyLaws as laws
use Rattle.tidy.proofs.tidy.Goals as goal

pub returns-then-text-gt-BYTES_MOST : goal.returns-then-text-gt-BYTES_MOST
returns-then-text-gt-BYTES_MOST c = laws.left_long c.args.text.now c.args.out.now c.if-text-gt-BYTES_MOST.true

pub write_lines-needed-requires : goal.write_lines-needed-requires
write_lines-needed-requires c = omega (arith, unmarked_le c.args.text.now, ap length c.unmarked-lines.ensures)

pub returns-then-out-needed : goal.returns-then-out-needed
returns-then-out-needed c = let is : c.write_lines-needed.result ≡ length (tidied c.args.text.now) = c.write_lines-needed.ensures.0 ∙ ap length (laws.lines_tidied_lem c.args.text.now c.unmarked-lines.result.now c.unmarked-lines.ensures) in
    laws.left_short c.args.text.now c.args.out.now (omega arith) c.write_lines-needed.result is c.if-out-needed.true

pub write_lines-requires : goal.write_lines-requires
write_lines-requires c = omega (arith, unmarked_le c.args.text.now, ap length c.unmarked-lines.ensures)

pub returns : goal.returns
returns c = let room : c.write_lines-needed.result ≤ length c.args.out.now = omega arith in
    let is : c.write_lines-needed.result ≡ length (tidied c.args.text.now) = c.write_lines-needed.ensures.0 ∙ ap length (laws.lines_tidied_lem c.args.text.now c.unmarked-lines.result.now c.unmarked-lines.ensures) in
    laws.left_written c.args.text.now c.args.out.now (omega arith) c.write_lines-needed.result _ room is (laws.lines_stored c.args.text.now c.args.out.now c.write_lines-needed.result _ is room (rw (← c.unmarked-lines.ensures) c.write_lines.ensures.1))
