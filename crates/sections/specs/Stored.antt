-- What a section of lines comes to (`Section`) and what code that reads it leaves. Promises are stated through `stored_section`.
use Rattle.std.specs.Prelude.{List, ℕ, Err, Ok}
use Rattle.refusals.specs.Refusals.{Judged}
use Rattle.sections.specs.Section.{Section, read, fault}

-- an answer with what was stored: where the section ended, that is what its lines hold; where it was refused, what was stored says nothing
abbrev pub stored_section : {A : Type 0} → Judged ℕ → List A → Section A
stored_section (Ok next) xs = read xs next
stored_section (Err w) xs = fault w
