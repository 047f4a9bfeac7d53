-- What the open call `rewrite_corrected` leaves.
use Rattle.std.specs.Prelude.{List, ℕ, Ok}
use Rattle.refusals.specs.Refusals.{then}
use Rattle.text.specs.Left.{TextLeft, text_left}
use Rattle.reading.specs.Reading.{read_corrected}
use Rattle.writing.specs.Writing.{table_text}

-- the open call `rewrite_corrected` (02, E2): the merged table's text
unfoldable pub rewrite_corrected_left : (text sheet out : List ℕ) → TextLeft
rewrite_corrected_left text sheet out = text_left (then (read_corrected text sheet) (λ t. Ok (table_text t))) out
