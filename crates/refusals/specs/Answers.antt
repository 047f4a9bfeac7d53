-- What a judgement alone says of something that stands at hand, in 01's words. Promises are stated through it.
use Rattle.std.specs.Prelude.{Result, Ok, Err}
use Rattle.refusals.specs.Refusals.{Judged, Ruling}

-- it passed, or was refused
abbrev pub said_judgement : {A : Type 0} → Ruling → A → Judged A
said_judgement (Ok u) a = Ok a
said_judgement (Err w) a = Err w
