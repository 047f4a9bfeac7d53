-- `meanings::write_line` meets its contract: too short (`text-short`), or the words and then what stood there (`text_out`).
use mathlib.Core.Path.{◌≡◌, sym, ap, ◌∙◌}
use mathlib.Core.List.{List, ◌++◌}
use Prim.Native.Nat.{ℕ, ◌-◌}
use native.Mathlib.Omega.{arith}
use lib.ListN.{length, take, drop}
use lib.Seq.{length-take-le}
use Rattle.text.specs.Line.{line_at}
use Rattle.text.proofs.LeftLaws.{text_short, text_out}
use Rattle.meanings.specs.Meanings.{line_begin, words_at}
use Rattle.meanings.proofs.write_line.Goals as goal

-- the words of a line are all but its last byte
module _ (list line : List ℕ) (k at n : ℕ) (begin : at ≡ line_begin list k) (is : line ≡ line_at list at) (less : n ≡ length line - 1) where
  same : line ≡ line_at list (line_begin list k)
  same = is ∙ ap (line_at list) begin

  words : take n line ≡ words_at list k
  words = ap (λ (j : ℕ). take j line) less ∙ ap (λ (l : List ℕ). take (length l - 1) l) same

  long : n ≡ length (words_at list k)
  long = sym (length-take-le n line (omega arith)) ∙ ap length words

pub returns-then-out-n : goal.returns-then-out-n
returns-then-out-n c = let e = long c.args.list.now _ c.args.k _ _ c.line_begin.ensures.0 c.line_at-line.ensures c.saturating_sub-n.ensures in
    text_short (words_at c.args.list.now c.args.k) c.args.out.now _ e (omega arith)

pub returns : goal.returns
returns c =
    let less : c.saturating_sub-n.result ≡ length c.line_at-line.result.now - 1 = c.saturating_sub-n.ensures in
    let e = long c.args.list.now _ c.args.k _ _ c.line_begin.ensures.0 c.line_at-line.ensures less in
    let put : c.copy_from_slice.new.self ≡ words_at c.args.list.now c.args.k = c.copy_from_slice.ensures.after ∙ words c.args.list.now _ c.args.k _ _ c.line_begin.ensures.0 c.line_at-line.ensures less in
    text_out (words_at c.args.list.now c.args.k) c.args.out.now (omega (arith, e)) (e, ap (λ (l : List ℕ). l ++ drop c.saturating_sub-n.result c.args.out.now) put ∙ ap (λ (j : ℕ). words_at c.args.list.now c.args.k ++ drop j c.args.out.now) e)
