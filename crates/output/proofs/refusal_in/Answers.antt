-- `output::refusal_in` meets its contract: each number that was read is an equation, and an answer rewrites the definition with those that led to it.
use mathlib.Core.Path.{◌≡◌, sym, ◌∙◌}
use Rattle.text.specs.Fields.{tab, feed, number_at}
use Rattle.output.specs.Heard.{refusal_in}
use Rattle.output.proofs.refusal_in.Goals as goal
use Rattle.std.specs.Prelude.{Ok}

pub returns-in_default : goal.returns-in_default
unfolding refusal_in
returns-in_default c = rw (sym c.number_at.ensures ∙ c.in_default.is)

pub returns-in_default-number_at : goal.returns-in_default-number_at
unfolding refusal_in
returns-in_default-number_at c = let number_read : number_at c.args.line.now 2 tab ≡ Ok (c.in-Ok.number, c.in-Ok.at) = sym c.number_at.ensures ∙ c.in-Ok.is in
    rw (number_read, sym c.number_at-2.ensures ∙ c.in_default-number_at.is)

pub returns-in_default-number_at-2 : goal.returns-in_default-number_at-2
unfolding refusal_in
returns-in_default-number_at-2 c = let number_read : number_at c.args.line.now 2 tab ≡ Ok (c.in-Ok.number, c.in-Ok.at) = sym c.number_at.ensures ∙ c.in-Ok.is in
    let place_read : number_at c.args.line.now c.in-Ok.at tab ≡ Ok (c.in-Ok-number_at.place, c.in-Ok-number_at.next) = sym c.number_at-2.ensures ∙ c.in-Ok-number_at.is in
    rw (number_read, place_read, sym c.number_at-3.ensures ∙ c.in_default-number_at-2.is)

pub returns : goal.returns
unfolding refusal_in
returns c = let number_read : number_at c.args.line.now 2 tab ≡ Ok (c.in-Ok.number, c.in-Ok.at) = sym c.number_at.ensures ∙ c.in-Ok.is in
    let place_read : number_at c.args.line.now c.in-Ok.at tab ≡ Ok (c.in-Ok-number_at.place, c.in-Ok-number_at.next) = sym c.number_at-2.ensures ∙ c.in-Ok-number_at.is in
    let byte-read : number_at c.args.line.now c.in-Ok-number_at.next feed ≡ Ok (c.in-Ok-number_at-2.byte, c.in-Ok-number_at-2.field-0-1) = sym c.number_at-3.ensures ∙ c.in-Ok-number_at-2.is in
    rw (number_read, place_read, byte-read)
