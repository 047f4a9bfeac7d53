-- What an answer in text for C is (coded: specs/Coded, `answered_coded`), computed: of the worked hour, of an empty text, with a mark that is no border, and with too little room.
use mathlib.Core.Path.{refl}
use mathlib.Core.Bool.{true, false}
use mathlib.Core.List.{[], ◌∷◌, ◌++◌}
use lib.ListN.{replicate}
use Rattle.numbers.specs.Computed.{◌is◌, Hold}
use Rattle.text.specs.Shown.{shown}
use Rattle.answer.specs.Result.{answer_left, answer_marked_left, answer_corrected_left}
use Rattle.answer.specs.Told.{told_for, told_with}
use Rattle.figures.specs.Computing.{computing}
use Rattle.figures.specs.Hour.{hour_text, hour_result}
use Rattle.coded.specs.Coded.{answered_found, answered_coded}

pub told_anchors : Hold (
    -- a result tells nothing
    answered_coded (answer_left hour_text (replicate 117 7)) (told_for true [] hour_text)
    is answered_found (record { number = 0; place = 0; byte = 0; bytes = 116; told_number = 0; told_place = 0; told_byte = 0 }) (hour_result ++ (7 ∷ []))
    -- an empty text, a text that ends too soon, and a mark that is no border are told as the E line has them
    ∷ answered_coded (answer_left [] (replicate 10 7)) (told_for true [] [])
    is answered_found (record { number = 0; place = 0; byte = 0; bytes = 8; told_number = 2; told_place = 1; told_byte = 0 }) (shown "E 2 1 0/" ++ (7 ∷ 7 ∷ []))
    ∷ answered_coded (answer_corrected_left (shown "H 2 x") [] (replicate 8 7)) (told_with true [] (shown "H 2 x") [])
    is answered_found (record { number = 0; place = 0; byte = 0; bytes = 8; told_number = 2; told_place = 1; told_byte = 5 }) (shown "E 2 1 5/")
    ∷ answered_coded (answer_marked_left hour_text (1 ∷ 2 ∷ []) (replicate 9 7)) (told_for false (1 ∷ 2 ∷ []) hour_text)
    is answered_found (record { number = 0; place = 0; byte = 0; bytes = 9; told_number = 13; told_place = 2; told_byte = 0 }) (shown "E 13 2 0/")
    -- with too little room the call is refused, and nothing is told
    ∷ answered_coded (answer_left [] (replicate 7 7)) (told_for true [] [])
    is answered_found (record { number = 8; place = 8; byte = 0; bytes = 0; told_number = 0; told_place = 0; told_byte = 0 }) (replicate 7 7)
    ∷ [])
unfolding computing told_for told_with
told_anchors = refl
