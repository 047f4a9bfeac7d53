-- The hour's own bound as text: the `U` line.
use Rattle.std.specs.Prelude.{List, [], ◌∷◌, ℕ, ◌+◌, ◌*◌, Ok}
use Prim.Native.Char.{code}
use Rattle.refusals.specs.Refusals.{Judged, then}
use Rattle.text.specs.Written.{decimal, line_text}
use Rattle.tightrules.specs.declared.RoundsMost.{RoundsMost}

-- `U`, N, L, 2 N L, and the sharper bound
abbrev pub bound_line : (n l rounds sharp : ℕ) → List ℕ
bound_line n l rounds sharp = line_text (code "U") (decimal n ∷ decimal l ∷ decimal rounds ∷ decimal sharp ∷ [])

abbrev pub bound_text : RoundsMost → List ℕ
bound_text m = bound_line m.sharers m.bits m.rounds m.sharp

-- no U line is longer: letter, tabs and LF, and four machine numbers of at most 20 bytes each
abbrev pub bound_most : ℕ
bound_most = 6 + 4 * 20

-- the text of a bound, where it is answered
abbrev pub bound_text_of : Judged RoundsMost → Judged (List ℕ)
bound_text_of bounded = then bounded (λ m. Ok (bound_text m))
