-- `tidy::line::write_field` meets its contract: what the field holds, and then the zeros that it lacks.
use Prim.Native.Nat.{ℕ}
use mathlib.Core.Path.{◌≡◌, ap, ap₂, ◌∙◌}
use mathlib.Core.List.{List, ◌++◌}
use native.Mathlib.Omega.{arith}
use lib.ListN.{length, replicate}
use Rattle.tidyrules.specs.Fields.{bared, lacking, repaired}
use Rattle.tidy.proofs.ClipLaws.{clip_is, clip_long, clip_more}
use Rattle.tidyrules.proofs.LengthLaws.{repaired_length}
use Rattle.tidy.proofs.line.write_field.Goals as goal

pub copy-next-requires : goal.copy-next-requires
copy-next-requires c = let is : c.bared-g.result.now ≡ bared c.args.last c.args.f.now = c.bared-g.ensures in
    omega (arith, c.requires, repaired_length c.args.last c.args.want c.args.f.now, ap length is)

pub zeros-requires : goal.zeros-requires
zeros-requires c = let is : c.bared-g.result.now ≡ bared c.args.last c.args.f.now = c.bared-g.ensures in
    let more : c.lacking.result ≡ lacking c.args.want (bared c.args.last c.args.f.now) = c.lacking.ensures ∙ ap (lacking c.args.want) is in
    omega (arith, c.requires, c.copy-next.ensures.after, repaired_length c.args.last c.args.want c.args.f.now, ap length is)

pub shape_of-out : goal.shape_of-out
shape_of-out c = clip_long (clip_more c.copy-next.ensures c.zeros.ensures)

pub returns : goal.returns
unfolding repaired
returns c = let is : c.bared-g.result.now ≡ bared c.args.last c.args.f.now = c.bared-g.ensures in
    let more : c.lacking.result ≡ lacking c.args.want (bared c.args.last c.args.f.now) = c.lacking.ensures ∙ ap (lacking c.args.want) is in
    clip_is (ap₂ (λ (g : List ℕ) (n : ℕ). g ++ replicate n 48) is more) (clip_more c.copy-next.ensures c.zeros.ensures)
