-- The line of the hour that 01 checks whole, computed. Nobody cites it: it refuses a definition that slipped.
use mathlib.Core.Path.{◌≡◌, refl}
use Rattle.text.specs.Shown.{shown}
use Rattle.text.specs.Written.{text_of, decimal, fields_text, line_text}
use Rattle.boundtext.specs.BoundText.{bound_line, bound_most}

pub record Anchors : Type 0 where
  pub line : bound_line 2 22 88 22 ≡ shown "U 2 22 88 22/"
  -- the code's `TEXT_MOST`
  pub most : bound_most ≡ 86

pub anchors : Anchors
unfolding text_of decimal fields_text line_text
anchors = record { line = refl; most = refl }
