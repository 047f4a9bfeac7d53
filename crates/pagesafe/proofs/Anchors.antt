-- How bytes stand on a page, computed: each sign of HTML, its neighbours, and the ends of what is plain. Nobody cites it: it refuses a definition that slipped.
use mathlib.Core.Path.{refl}
use mathlib.Core.List.{[], ◌∷◌, map}
use Rattle.numbers.specs.Computed.{◌is◌, Hold}
use Rattle.pagesafe.specs.declared.Shown.TheVariants.{AsItIs, Numbered, Blank, Strange}
use Rattle.pagesafe.specs.Shown.{shown_as}

-- ! " # % & ' ( ; < = > ?, LF and its neighbours, blank and ~ and theirs, the last byte
pub anchors : Hold (
    map shown_as (33 ∷ 34 ∷ 35 ∷ 37 ∷ 38 ∷ 39 ∷ 40 ∷ []) is (AsItIs ∷ Numbered ∷ AsItIs ∷ AsItIs ∷ Numbered ∷ Numbered ∷ AsItIs ∷ [])
    ∷ map shown_as (59 ∷ 60 ∷ 61 ∷ 62 ∷ 63 ∷ []) is (AsItIs ∷ Numbered ∷ AsItIs ∷ Numbered ∷ AsItIs ∷ [])
    ∷ map shown_as (0 ∷ 9 ∷ 10 ∷ 11 ∷ 31 ∷ 32 ∷ 126 ∷ 127 ∷ 255 ∷ []) is (Strange ∷ Strange ∷ Blank ∷ Strange ∷ Strange ∷ AsItIs ∷ AsItIs ∷ Strange ∷ Strange ∷ [])
    ∷ []
    )
anchors = refl
