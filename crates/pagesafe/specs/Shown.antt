-- How a byte of a text from outside stands on a page. `shown_as` is what the contract of `shown_as` cites.
-- Assumes nothing.
use Rattle.std.specs.Prelude.{Bool, cond, ◌||◌, ℕ, ltb, eqb}
use Rattle.pagesafe.specs.declared.Shown.{Shown}
use Rattle.pagesafe.specs.declared.Shown.TheVariants.{AsItIs, Numbered, Blank, Strange}

-- & < > " ': what a reader of HTML takes for a sign
abbrev pub is_sign : ℕ → Bool
is_sign b = eqb b 38 || (eqb b 60 || (eqb b 62 || (eqb b 34 || eqb b 39)))

-- a LF is a blank, and what is not plain ASCII is strange
abbrev pub shown_as : ℕ → Shown
shown_as b = cond (is_sign b) Numbered (cond (eqb b 10) Blank (cond (ltb b 32 || ltb 126 b) Strange AsItIs))
