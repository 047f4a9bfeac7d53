-- What a buffer holds that goes to standard output. No contract can speak of standard output, so these speak of the buffer.
-- `Printed` is a text in front of it, `Told` what becomes of a call's answer, and `told_text` the text that it comes to.
use Rattle.std.specs.Prelude.{◌≡◌, List, ℕ, ◌≤◌, length, take, Err, Ok}
use Rattle.refusals.specs.Refusals.{Judged, either}
use Rattle.result.specs.Refusal.{refusal_text}

-- the first n bytes of the buffer are the text to print; that there are so many follows, and is said for the caller's `&out[..n]`
pub record Printed (n : ℕ) (text out : List ℕ) : Type 0 where
  pub within : n ≤ length out
  pub long : n ≡ length (take n out)
  pub whole : take n out ≡ text

-- how much of the buffer to print
abbrev pub bytes_of : Judged ℕ → ℕ
bytes_of (Ok n) = n
bytes_of (Err w) = 0

-- what is printed of a call that tells its refusal: its text, or one line E, number, place, byte
abbrev pub told_text : Judged (List ℕ) → List ℕ
told_text said = either said (λ text. text) refusal_text

-- what the buffer holds after such a call: what the call left there, or the E line
abbrev pub Told : Judged ℕ → (before : List ℕ) → (n : ℕ) → (after : List ℕ) → Type 0
Told (Ok m) before n after = (n ≡ m) × (after ≡ before)
Told (Err w) before n after = Printed n (refusal_text w) after
