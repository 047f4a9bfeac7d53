-- `claimtext::published::put_line` meets its contract: a row that is not published has no line.
use mathlib.Core.Path.{◌≡◌, sym, subst, ◌∙◌}
use mathlib.Core.List.{List}
use Prim.Native.Nat.{ℕ, ◌+◌, ◌≤◌}
use native.Mathlib.Omega.{arith}
use lib.ListN.{length}
use Rattle.numbers.proofs.IntLaws.{plain}
use Rattle.text.specs.Put.{Put}
use Rattle.text.proofs.PutLaws.{put_none}
use Rattle.staterules.specs.Standings.{standings_with}
use Rattle.types.specs.Ranges.{at_ℤ}
use Rattle.claimtext.specs.Published.{row_line, published_line}
use Rattle.claims.specs.Unflagged.{unflagged}
use Rattle.claimtext.proofs.PublishedLaws.{published_here, published_not}
use Rattle.claimtext.proofs.published.put_line.Goals as goal

pub is_published-requires : goal.is_published-requires
is_published-requires c = (c.requires.rams_len.1, c.requires.rams_len.2)

pub offset_bounds-rams-row : goal.offset_bounds-rams-row
offset_bounds-rams-row c = omega (arith, c.requires.rams_len.1, c.requires.rams_len.2)

pub bounds-rams-row : goal.bounds-rams-row
bounds-rams-row c = omega (arith, c.requires.rams_len.0, c.requires.rams_len.2)

pub put_row-requires : goal.put_row-requires
put_row-requires c = let here : published_line (standings_with c.args.rams.now c.args.states.now) (unflagged c.args.states.now c.args.named.now) c.args.row ≡ row_line c.args.row (at_ℤ c.args.rams.now c.args.row) = published_here (standings_with c.args.rams.now c.args.states.now) (unflagged c.args.states.now c.args.named.now) c.args.row (sym c.is_published.ensures ∙ c.if-is_published.true) in
    simp (plain, c.put_row-arg-1.given) (subst (λ (l : List ℕ). c.args.at + length l ≤ length c.args.out.now) here c.requires.row_in_bounds)

pub returns-then-is_published : goal.returns-then-is_published
returns-then-is_published c = let here : published_line (standings_with c.args.rams.now c.args.states.now) (unflagged c.args.states.now c.args.named.now) c.args.row ≡ row_line c.args.row (at_ℤ c.args.rams.now c.args.row) = published_here (standings_with c.args.rams.now c.args.states.now) (unflagged c.args.states.now c.args.named.now) c.args.row (sym c.is_published.ensures ∙ c.if-is_published.true) in
    subst (λ (l : List ℕ). Put l c.args.at c.args.out.now c.put_row.result c.put_row.new.out) (sym here) (simp (plain, c.put_row-arg-1.given) at c.put_row.ensures)

pub returns : goal.returns
returns c = subst (λ (l : List ℕ). Put l c.args.at c.args.out.now c.args.at c.args.out.now)
    (sym (published_not (standings_with c.args.rams.now c.args.states.now) (unflagged c.args.states.now c.args.named.now) c.args.row (sym c.is_published.ensures ∙ c.if-is_published.false)))
    (put_none c.args.at c.args.out.now)
