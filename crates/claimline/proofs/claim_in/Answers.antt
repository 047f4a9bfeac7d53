-- `claimline::claim_in` meets its contract: the columns are as many as the pairs say (`number-letters`), and what they hold is the claim (`with-fields`).
use mathlib.Core.Path.{◌≡◌, sym, ap, ◌∙◌}
use mathlib.Core.List.{List}
use Prim.Native.Nat.{◌≤◌}
use native.Mathlib.Omega.{arith}
use borrow.Author.Rules.{rules}
use lib.IntN.{ℤ}
use lib.ListN.{length, take, drop, length-append}
use lib.Seq.{length-take-le, take_at}
use Rattle.claimline.specs.ClaimText.{fields_of, claim_record}
use Rattle.claimline.proofs.ReadLaws.{number_letters, with_bad, with_fields}
use Rattle.claimline.proofs.claim_in.Goals as goal

pub overflow_mul-n : goal.overflow_mul-n
overflow_mul-n c = omega (arith, c.requires.0)

pub overflow_add-n : goal.overflow_add-n
overflow_add-n c = omega (arith, c.requires.0)

pub shared_ref_as_front-line_at : goal.shared_ref_as_front-line_at
shared_ref_as_front-line_at c = omega (arith, c.requires.0)

pub slice_bounds-line_at-end-2 : goal.slice_bounds-line_at-end-2
slice_bounds-line_at-end-2 c = let few : fields_of c.args.pairs ≤ length c.args.fields.now = omega (arith, c.requires.0, c.requires.1) in
    few

pub slice_bounds-line_at-end-3 : goal.slice_bounds-line_at-end-3
slice_bounds-line_at-end-3 c = let few : fields_of c.args.pairs ≤ length c.args.fields.now = omega (arith, c.requires.0, c.requires.1) in
    sym (length-take-le _ _ few)

pub line_at-requires : goal.line_at-requires
line_at-requires c =
    let few : fields_of c.args.pairs ≤ length c.args.fields.now = omega (arith, c.requires.0, c.requires.1) in
    length-take-le _ _ (omega (arith, c.requires.0)) ∙ sym (length-take-le _ _ few)

pub returns-in_default : goal.returns-in_default
returns-in_default c = c.no_claim.ensures
    ∙ with_bad c.args.line.now c.args.pairs (number_letters (fields_of c.args.pairs) 34 (omega (arith, c.requires.0))) _ _ c.line_at.ensures _ c.in_default.is

pub slice_bounds-claim_record-end : goal.slice_bounds-claim_record-end
slice_bounds-claim_record-end c = let values : List ℤ = c.line_at.new.out in
    let few : fields_of c.args.pairs ≤ length c.args.fields.now = omega (arith, c.requires.0, c.requires.1) in
    let values_long : length values ≡ fields_of c.args.pairs = let kept : length values ≡ length (take (fields_of c.args.pairs) c.args.fields.now) = search rules in kept ∙ length-take-le _ _ few in
    omega (arith, values_long, length-append values (drop (fields_of c.args.pairs) c.args.fields.now))

pub slice_bounds-claim_record-end-2 : goal.slice_bounds-claim_record-end-2
slice_bounds-claim_record-end-2 c = let values : List ℤ = c.line_at.new.out in
    let few : fields_of c.args.pairs ≤ length c.args.fields.now = omega (arith, c.requires.0, c.requires.1) in
    let values_long : length values ≡ fields_of c.args.pairs = let kept : length values ≡ length (take (fields_of c.args.pairs) c.args.fields.now) = search rules in kept ∙ length-take-le _ _ few in
    sym (length-take-le _ _ (omega (arith, values_long, length-append values (drop (fields_of c.args.pairs) c.args.fields.now))))

pub returns : goal.returns
returns c = let values : List ℤ = c.line_at.new.out in
    let few : fields_of c.args.pairs ≤ length c.args.fields.now = omega (arith, c.requires.0, c.requires.1) in
    let values_long : length values ≡ fields_of c.args.pairs = let kept : length values ≡ length (take (fields_of c.args.pairs) c.args.fields.now) = search rules in kept ∙ length-take-le _ _ few in
    c.claim_record.ensures
    ∙ ap (claim_record c.args.pairs) (take_at values (drop (fields_of c.args.pairs) c.args.fields.now) (fields_of c.args.pairs) values_long)
    ∙ with_fields c.args.line.now c.args.pairs (number_letters (fields_of c.args.pairs) 34 (omega (arith, c.requires.0))) _ _ c.line_at.ensures c.requires.0 _ c.in-Ok.is
