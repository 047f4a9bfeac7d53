-- Texts as people show them: a blank stands for a tab, and / for an LF.
use Rattle.std.specs.Prelude.{cond, List, [] as nil, ◌∷◌ as ◌then◌, ℕ, eqb}
use Prim.Native.Char.{Char, code}
use Prim.Native.String.{String, [], ◌∷◌}

abbrev pub byte_of : Char → ℕ
byte_of c = cond (eqb (code c) 32) 9 (cond (eqb (code c) 47) 10 (code c))

abbrev pub shown : String → List ℕ
shown [] = nil
shown (c ∷ s) = byte_of c then shown s
