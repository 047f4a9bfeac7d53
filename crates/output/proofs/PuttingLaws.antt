-- Bytes put one after another: what is put, what is still to be put, and that a text put from the front on is printed. No contract cites this file.
use mathlib.Core.Path.{◌≡◌, refl, sym, ap, subst, ◌∙◌}
use mathlib.Core.List.{List, [], ◌∷◌, ◌++◌, append_assoc, append-nil}
use Prim.Native.Nat.{ℕ, ◌+◌, ◌≤◌, ◌<◌}
use native.Mathlib.Numerals.{add-one}
use native.Mathlib.Omega.{arith}
use lib.ListN.{length, get_or, drop, length-append}
use lib.Seq.{drop-cons}
use Rattle.text.specs.Put.{Put}
use Rattle.text.proofs.PutLaws.{put_none, put_more, put_room, put_kept, put_whole}
use Rattle.output.specs.Buffer.{Printed}
use Rattle.output.proofs.BufferLaws.{over_printed}

-- ---- a text of which some is put, and the rest is to be put
pub record Putting (text rest : List ℕ) (at : ℕ) (out₀ out : List ℕ) (next : ℕ) : Type 0 where
  pub done : List ℕ
  pub put : Put done at out₀ next out
  pub all : done ++ rest ≡ text

module _ {text : List ℕ} {at : ℕ} {out₀ : List ℕ} where
  pub putting_none : Putting text text at out₀ out₀ at
  putting_none = record { done = []; put = put_none at out₀; all = refl }

  module _ {rest out : List ℕ} {next : ℕ} (p : Putting text rest at out₀ out next) (room : at + length text ≤ length out₀) where
    long : length p.done + length rest ≡ length text
    long = sym (length-append p.done rest) ∙ ap length p.all

    -- there is room for what comes next
    pub putting_room : next + length rest ≤ length out
    putting_room = put_room p.put (length rest) (omega (arith, long))

    pub putting_kept : length out ≡ length out₀
    putting_kept = put_kept p.put (omega (arith, long))

    pub putting_more : (piece more : List ℕ) {out' : List ℕ} {next' : ℕ} → rest ≡ piece ++ more → Put piece next out next' out' → Putting text more at out₀ out' next'
    putting_more piece more e q = record {
      done = p.done ++ piece;
      put = put_more p.put (omega arith) q;
      all = append_assoc p.done piece more ∙ ap (λ (l : List ℕ). p.done ++ l) (sym e) ∙ p.all;
    }

    pub putting_all : rest ≡ [] → Put text at out₀ next out
    putting_all e = subst (λ (s : List ℕ). Put s at out₀ next out) (sym (append-nil p.done) ∙ ap (λ (l : List ℕ). p.done ++ l) (sym e) ∙ p.all) p.put

-- what is left from byte k on
pub drop_next : (text : List ℕ) (k : ℕ) → k < length text → drop k text ≡ (get_or text k 0 ∷ []) ++ drop (k + 1) text
drop_next text k h = rw (add-one, drop-cons text k 0 h)

pub put_printed : {text out : List ℕ} {next : ℕ} {out' : List ℕ} → Put text 0 out next out' → Printed next text out'
put_printed {text} {out} {next} {out'} p = let w = put_whole p in over_printed text out out' next w.0 w.1
