-- `answer::tell_refusal` meets its contract: the line of the three numbers is the refusal's (`refusal_as`).
use Rattle.std.specs.Prelude.{Ok}
use mathlib.Core.Path.{refl, ap, ◌∙◌}
use mathlib.Core.List.{List}
use Prim.Native.Nat.{ℕ}
use Rattle.text.specs.Left.{text_left}
use Rattle.result.proofs.RecordsLaws.{refusal_as}
use Rattle.answer.proofs.tell_refusal.Goals as goal

pub returns : goal.returns
returns c = record { out_after = c.write_refusal.ensures.0 ∙ ap (λ (s : List ℕ). text_left (Ok s) c.args.out.now) (refusal_as c.args.w c.number.ensures c.place.ensures c.byte.ensures); written_bound = (c.write_refusal.ensures.1, refl) }
