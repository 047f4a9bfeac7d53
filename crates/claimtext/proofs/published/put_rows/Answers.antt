use mathlib.Core.List.{List}
use Prim.Native.Nat.{ℕ}
use native.Mathlib.Nat.{zero-add}
use native.Mathlib.Omega.{arith}
use lib.ListN.{length}
use Rattle.text.specs.Put.{Put}
use Rattle.text.proofs.PutLaws.{lines_none, lines_more, lines_all_lem, lines_room, put_kept}
use Rattle.staterules.specs.Standings.{standings_with}
use Rattle.claimtext.specs.Published.{published_line, published_text}
use Rattle.claims.specs.Unflagged.{unflagged}
use Rattle.claimtext.proofs.published.put_rows.Goals as goal

pub loop-i-init : goal.loop-i-init
loop-i-init c = (omega arith, lines_none _ _ _)

pub put_line-next-requires : goal.put_line-next-requires
unfolding published_text
put_line-next-requires c = let line : (row : ℕ) → List ℕ = published_line (standings_with c.args.rams.now c.args.states.now) (unflagged c.args.states.now c.args.named.now) in
    record { rams_len = (c.requires.rams_len.0, c.requires.rams_len.1, omega arith); row_in_bounds = lines_room line c.loop-i.i (length c.args.states.now) {at = 0} {out = c.args.out.now} (omega arith) (rw zero-add c.requires.named_in_bounds) c.loop-i.invariant.1 }

pub loop-i-preserved : goal.loop-i-preserved
loop-i-preserved c = let line : (row : ℕ) → List ℕ = published_line (standings_with c.args.rams.now c.args.states.now) (unflagged c.args.states.now c.args.named.now) in
    (omega arith, lines_more line (omega arith) c.loop-i.invariant.1 c.put_line-next.ensures)

pub shape_of-out : goal.shape_of-out
unfolding published_text
shape_of-out c = let all : Put (published_text (standings_with c.args.rams.now c.args.states.now) (unflagged c.args.states.now c.args.named.now)) 0 c.args.out.now c.loop-i.next c.loop-i.out = lines_all_lem (published_line (standings_with c.args.rams.now c.args.states.now) (unflagged c.args.states.now c.args.named.now)) c.loop-i.invariant.0 (omega arith) c.loop-i.invariant.1 in
    put_kept all (rw zero-add c.requires.named_in_bounds)

pub returns : goal.returns
unfolding published_text
returns c = let all : Put (published_text (standings_with c.args.rams.now c.args.states.now) (unflagged c.args.states.now c.args.named.now)) 0 c.args.out.now c.loop-i.next c.loop-i.out = lines_all_lem (published_line (standings_with c.args.rams.now c.args.states.now) (unflagged c.args.states.now c.args.named.now)) c.loop-i.invariant.0 (omega arith) c.loop-i.invariant.1 in
    all
