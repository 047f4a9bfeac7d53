-- `rewriting::rewritten::rewrite_in` meets its contract: a table that was read is good and is written (`rewrite-read`), and a refusal told (`rewrite-refused`).
use Rattle.std.proofs.lemmas.Result.{err_from_is_err_and}
use mathlib.Core.Path.{◌∙◌}
use Rattle.rewriting.proofs.RewriteLaws.{rewrite_good, rewrite_read, rewrite_refused}
use Rattle.rewriting.proofs.rewritten.rewrite_in.Goals as goal

pub write_good-requires : goal.write_good-requires
write_good-requires c = rewrite_good _ _ _ _ _ _ _ _ c.read_into.ensures _ c.in_ok-header.was

pub returns : goal.returns
returns c = c.write_good.ensures ∙ rewrite_read _ _ _ _ _ _ _ _ c.read_into.ensures _ c.in_ok-header.was _

pub returns-in_err-header : goal.returns-in_err-header
returns-in_err-header c =
    let p = err_from_is_err_and c.from_residual.result c.from_residual.ensures.1 in
    rw (p.1, p.2) (rewrite_refused _ _ _ _ _ _ _ _ c.read_into.ensures _ _ c.in_err-header.was)
