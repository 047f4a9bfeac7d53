-- What an open call that writes text leaves (01, "When the table is turned away"): its answer, and the lent bytes. Their contracts cite `text_said`.
use Rattle.std.specs.Prelude.{List, ℕ, length, Err, Ok}
use Rattle.numbers.specs.Below.{over}
use Rattle.refusals.specs.Refusals.{Judged, then, either, need}

pub record TextLeft : Type 0 where
  pub answer : Judged ℕ
  pub out : List ℕ

-- the text, where it is to be had and there is room for it (8, bytes); a refusal writes nothing
unfoldable pub text_left : Judged (List ℕ) → (out : List ℕ) → TextLeft
text_left judged out =
    either (then judged (λ text. need (length text) (length out) (Ok text)))
    (λ text. record { answer = Ok (length text); out = over text out })
    (λ w. record { answer = Err w; out = out })

-- what such a call says: its answer, and the lent bytes as it leaves them
abbrev pub text_said : Judged ℕ → (out : List ℕ) → TextLeft
text_said r out = record { answer = r; out = out }
