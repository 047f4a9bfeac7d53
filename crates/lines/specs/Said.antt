-- What the code answers of a border's line, with what it stored, as `Line` of crate text says it. Promises are stated through `said_border`.
use Rattle.std.specs.Prelude.{List, ℤ, Result, Ok, Err}
use Rattle.text.specs.Line.{Line}
use Rattle.text.specs.declared.LineFault.{LineFault}

-- a border is the raw record that was stored; where a line holds none, what was stored says nothing
abbrev pub said_border : Result (Unit {0}) LineFault → (raw : List ℤ) → Line (List ℤ)
said_border (Ok u) raw = Ok raw
said_border (Err bad) raw = Err bad
