-- That what the calls leave is what a program is to print (specs/Printed.antt). No contract cites this file.
-- In order: what a call said, by another name, and a refusal; a text that was read, or refused; the file that goes with a word.
-- What the calls leave for each word is in `WordLaws.antt`.
use Rattle.std.specs.Prelude.{Err, Ok}
use mathlib.Core.Path.{◌≡◌, sym, subst, ◌∙◌}
use mathlib.Core.Bool.{Bool}
use mathlib.Core.List.{List}
use Prim.Native.Nat.{ℕ, ◌≤◌, ◌<◌}
use borrow.Author.Tests.{lt-ltb, le-ltb}
use lib.ListN.{length}
use Rattle.limits.specs.Limits.{bytes_most}
use Rattle.refusals.specs.declared.Refusal.{Refusal}
use Rattle.refusals.specs.Refusals.{Judged, too_long}
use Rattle.refusals.proofs.RefusalLaws.{not_passed, then_next, then_refused}
use Rattle.text.proofs.LeftLaws.{text_refused}
use Rattle.tablerules.specs.Table.{Table}
use Rattle.reading.specs.Reading.{read_corrected}
use Rattle.result.specs.Refusal.{refusal_text}
use Rattle.output.specs.Buffer.{Printed, told_text}
use Rattle.command.specs.declared.asked.Word.{Word}
use Rattle.printing.specs.Printed.{Said, said_of, word_said, word_text}

-- ---- what a call said, by another name; and a refusal, which leaves the buffer as it was
pub said_as : {r : Judged ℕ} {said said' : Judged (List ℕ)} {before after : List ℕ} → said ≡ said' → Said r said before after → Said r said' before after
said_as {r} {before = before} {after = after} e s = subst (λ (j : Judged (List ℕ)). Said r j before after) e s

pub said_refused : (said : Judged (List ℕ)) (w : Refusal) (before : List ℕ) → said ≡ Err w → Said (Err w) said before before
said_refused said w before is = record { left = text_refused before is; fits = λ text e. absurd (not_passed w text (sym is ∙ e)) }

-- ---- a text that was read, and one that was refused
module _ (word : Word) (all : Bool) (marks file text sheet : List ℕ) where
  pub read_said_lem : (t : Table) → read_corrected text sheet ≡ Ok t → {r : Judged ℕ} {before after : List ℕ} → Said r (said_of word all marks file t) before after
      → Said r (word_said word all marks file text sheet) before after
  unfolding word_said
  read_said_lem t is s = said_as (sym (then_next (said_of word all marks file) is)) s

  pub unread_said : (w : Refusal) → read_corrected text sheet ≡ Err w → (before : List ℕ) → Said (Err w) (word_said word all marks file text sheet) before before
  unfolding word_said
  unread_said w is before = said_refused _ w before (then_refused (said_of word all marks file) is)

-- ---- the file that goes with a word: one that is too long is refused before all else
module _ (word : Word) (all : Bool) (marks file text sheet : List ℕ) {n : ℕ} {out : List ℕ} where
  pub long_printed : bytes_most < length file → Printed n (refusal_text too_long) out → Printed n (word_text word all marks file text sheet) out
  unfolding word_text
  long_printed h p = rw (lt-ltb bytes_most (length file) h) p

  pub short_printed : length file ≤ bytes_most → Printed n (told_text (word_said word all marks file text sheet)) out → Printed n (word_text word all marks file text sheet) out
  unfolding word_text
  short_printed h p = rw (le-ltb bytes_most (length file) h) p
