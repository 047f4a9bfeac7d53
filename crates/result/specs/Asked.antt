-- How many bytes a call that writes a text asks for. Promises that a buffer is long enough are stated through it.
use Rattle.refusals.specs.Refusals.{Judged, place_of}
use Rattle.std.specs.Prelude.{ℕ, Err, Ok}

-- those that it wrote, or the place of 8
abbrev pub bytes_asked : Judged ℕ → ℕ
bytes_asked (Ok n) = n
bytes_asked (Err w) = place_of w
