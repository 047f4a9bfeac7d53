-- `printing::texts::write_in` meets its contract: the laws `read-said` and `unread-said`; a table that was read is good.
use Rattle.std.proofs.lemmas.Result.{err_from_is_err_and}
use Rattle.marks.specs.Marks.{every, listed}
use Rattle.reading.proofs.IntoLaws.{into_refused, into_read, into_good}
use Rattle.printing.proofs.PrintedLaws.{read_said_lem, unread_said}
use Rattle.printing.proofs.texts.write_in.Goals as goal

pub read_into-requires : goal.read_into-requires
read_into-requires c = (c.requires.0, c.requires.1, c.requires.2, c.requires.3, c.requires.4)

pub write_word-requires : goal.write_word-requires
write_word-requires c = (into_good c.args.text.now c.args.sheet.now c.read_into.result _ _ _ _ _ c.read_into.ensures c.in_ok-h.was, c.requires.5)

pub returns-in_err-h : goal.returns-in_err-h
returns-in_err-h c = let p = err_from_is_err_and c.from_residual.result c.from_residual.ensures.1 in rw (p.1, p.2) (unread_said c.args.word (every c.args.marks) (listed c.args.marks) c.args.file.now c.args.text.now c.args.sheet.now _
    (into_refused c.args.text.now c.args.sheet.now c.read_into.result _ _ _ _ _ c.read_into.ensures c.in_err-h.was) c.args.out.now)

pub returns : goal.returns
returns c = read_said_lem c.args.word (every c.args.marks) (listed c.args.marks) c.args.file.now c.args.text.now c.args.sheet.now _
    (into_read c.args.text.now c.args.sheet.now c.read_into.result _ _ _ _ _ c.read_into.ensures c.in_ok-h.was)
    c.write_word.ensures
