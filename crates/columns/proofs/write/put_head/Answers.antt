-- `columns::write::put_head` meets its contract: a letter, an index, or the one after the other.
use mathlib.Core.Path.{◌≡◌, sym, subst}
use Prim.Native.Nat.{ℕ, ◌+◌, ◌≤◌}
use mathlib.Core.List.{List}
use native.Mathlib.Omega.{arith}
use lib.ListN.{length}
use Rattle.text.specs.Put.{Put}
use Rattle.text.proofs.PutLaws.{put_more, put_room}
use Rattle.columns.specs.declared.Head.{Head}
use Rattle.columns.specs.ColumnText.{index_text, head_text}
use Rattle.columns.proofs.write.put_head.Goals as goal

pub put_letter-requires : goal.put_letter-requires
unfolding head_text
put_letter-requires c =
    let room : (h : Head) → c.args.head ≡ h → c.args.at + length (head_text c.args.sep h) ≤ length c.args.out.now = λ h e. subst (λ (x : Head). c.args.at + length (head_text c.args.sep x) ≤ length c.args.out.now) e c.requires in
    room _ c.in-Lettered.is

pub put_letter-next-requires : goal.put_letter-next-requires
unfolding head_text
put_letter-next-requires c =
    let room : (h : Head) → c.args.head ≡ h → c.args.at + length (head_text c.args.sep h) ≤ length c.args.out.now = λ h e. subst (λ (x : Head). c.args.at + length (head_text c.args.sep x) ≤ length c.args.out.now) e c.requires in
    omega (arith, room _ c.in-Indexed.is)

pub put_index-requires : goal.put_index-requires
unfolding head_text
put_index-requires c =
    let room : (h : Head) → c.args.head ≡ h → c.args.at + length (head_text c.args.sep h) ≤ length c.args.out.now = λ h e. subst (λ (x : Head). c.args.at + length (head_text c.args.sep x) ≤ length c.args.out.now) e c.requires in
    put_room c.put_letter-next.ensures (length (index_text _ _)) (omega (arith, room _ c.in-Indexed.is))

pub put_index-requires-in-Bare : goal.put_index-requires-in-Bare
unfolding head_text
put_index-requires-in-Bare c =
    let room : (h : Head) → c.args.head ≡ h → c.args.at + length (head_text c.args.sep h) ≤ length c.args.out.now = λ h e. subst (λ (x : Head). c.args.at + length (head_text c.args.sep x) ≤ length c.args.out.now) e c.requires in
    room _ c.in-Bare.is

pub returns-in-Lettered : goal.returns-in-Lettered
unfolding head_text
returns-in-Lettered c =
    let told : (h : Head) → c.args.head ≡ h → (next : ℕ) (out : List ℕ) → Put (head_text c.args.sep h) c.args.at c.args.out.now next out → Put (head_text c.args.sep c.args.head) c.args.at c.args.out.now next out = λ h e next out p. subst (λ (x : Head). Put (head_text c.args.sep x) c.args.at c.args.out.now next out) (sym e) p in
    told _ c.in-Lettered.is _ _ c.put_letter.ensures

pub returns-in-Indexed : goal.returns-in-Indexed
unfolding head_text
returns-in-Indexed c =
    let room : (h : Head) → c.args.head ≡ h → c.args.at + length (head_text c.args.sep h) ≤ length c.args.out.now = λ h e. subst (λ (x : Head). c.args.at + length (head_text c.args.sep x) ≤ length c.args.out.now) e c.requires in
    let told : (h : Head) → c.args.head ≡ h → (next : ℕ) (out : List ℕ) → Put (head_text c.args.sep h) c.args.at c.args.out.now next out → Put (head_text c.args.sep c.args.head) c.args.at c.args.out.now next out = λ h e next out p. subst (λ (x : Head). Put (head_text c.args.sep x) c.args.at c.args.out.now next out) (sym e) p in
    told _ c.in-Indexed.is _ _ (put_more c.put_letter-next.ensures (omega (arith, room _ c.in-Indexed.is)) c.put_index.ensures)

pub returns-in-Bare : goal.returns-in-Bare
unfolding head_text
returns-in-Bare c =
    let told : (h : Head) → c.args.head ≡ h → (next : ℕ) (out : List ℕ) → Put (head_text c.args.sep h) c.args.at c.args.out.now next out → Put (head_text c.args.sep c.args.head) c.args.at c.args.out.now next out = λ h e next out p. subst (λ (x : Head). Put (head_text c.args.sep x) c.args.at c.args.out.now next out) (sym e) p in
    told _ c.in-Bare.is _ _ c.put_index-in-Bare.ensures
