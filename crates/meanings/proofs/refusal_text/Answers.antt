-- `meanings::refusal_text` meets its contract: the code's lines are those of the list.
use Rattle.std.specs.Prelude.{Ok}
use mathlib.Core.Path.{ap, ◌∙◌}
use Prim.Native.Nat.{ℕ}
use Rattle.text.specs.Left.{text_left}
use Rattle.meanings.specs.Meanings.{meanings, lines_of, words_at, meaning_of, meaning_left}
use Rattle.meanings.proofs.refusal_text.Goals as goal

pub returns : goal.returns
unfolding meaning_left meaning_of
returns c = c.write_line.ensures ∙ ap (λ (k : ℕ). text_left (Ok (words_at (lines_of meanings) k)) c.args.out.now) c.line_for.ensures
