-- The bytes of a field (01, "The table as text"): a digit with its value, a minus, a tab, an LF, anything else.
use Rattle.std.specs.Prelude.{cond, ℕ, ◌-◌, eqb}
use Rattle.text.specs.Fields.{tab, feed, dash, is_digit}
use Rattle.text.specs.declared.Class.{Class}
use Rattle.text.specs.declared.Class.TheVariants.{Digit, Minus, Tab, Feed, Other}

abbrev pub class_of : ℕ → Class
class_of b =
    cond (is_digit b) (Digit (b - 48)) (cond (eqb b dash) Minus (cond (eqb b tab) Tab (cond (eqb b feed) Feed Other)))
