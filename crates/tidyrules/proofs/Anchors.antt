-- Texts and what `tidy` makes of each, one for each rule and each edge of a rule. Nobody cites them: they refuse a definition that slipped.
-- Texts are spelled: _ a blank, ^ a CR, / an LF, a blank a tab, ' a quote, ~ a BOM.
use mathlib.Core.Path.{◌≡◌, refl}
use mathlib.Core.Bool.{cond}
use mathlib.Core.List.{List, [] as nil, ◌∷◌ as ◌then◌, ◌++◌}
use Prim.Native.Nat.{ℕ}
use Prim.Native.Char.{Char, code}
use Prim.Native.String.{String, [], ◌∷◌}
use lib.Dec.{eqb}
use Rattle.numbers.specs.Computed.{Figure, ◌is◌, Hold}
use Rattle.tidyrules.specs.Fields.{bared, repaired}
use Rattle.tidyrules.specs.Tidied.{line_tidied, above, unmarked, tidied}

abbrev byte_of : ℕ → ℕ
byte_of c = cond (eqb c 32) 9 (cond (eqb c 47) 10 (cond (eqb c 94) 13 (cond (eqb c 95) 32 (cond (eqb c 39) 34 c))))

abbrev bytes_of : ℕ → List ℕ
bytes_of c = cond (eqb c 126) (239 then 187 then 191 then nil) (byte_of c then nil)

abbrev spelled : String → List ℕ
spelled [] = nil
spelled (c ∷ s) = bytes_of (code c) ++ spelled s

infix 66 ◌gives◌
abbrev ◌gives◌ : String → String → Figure
given gives said = tidied (spelled given) is spelled said

pub figures : Hold (
    -- the text's begin: a BOM, two, blanks before one, a BOM that is not at the begin, half of one
    ("~H 3/" gives "H 3/") then
    ("~~H/" gives "H/") then
    ("_~__~H/" gives "H/") then
    ("H~/" gives "H~/") then
    ("H/~Z/" gives "H/~Z/") then
    -- the ends of lines: CR, CR CR, blanks behind and before a CR, a CR within a line and before a semicolon; no last LF; nothing at all
    ("H 3^/Z 0^/" gives "H 3/Z 0/") then
    ("H^^/" gives "H/") then
    ("H_^_/" gives "H/") then
    ("H 3_^_^^__/" gives "H 3/") then
    ("H^3/" gives "H^3/") then
    ("a^;b/" gives "a^;b/") then
    ("a;^/" gives "a;/") then
    ("H 3" gives "H 3/") then
    ("a;" gives "a;/") then
    ("" gives "") then
    -- fields: blanks at their ends, not within
    ("C _1__ 2_/" gives "C 1 2/") then
    ("_a_b_;_c/" gives "a_b;c/") then
    ("__/a/" gives "/a/") then
    -- quotes around a field, blanks within them and outside, quotes twice, an empty field, one quote alone, one that opens and none that closes, one within,
    -- a semicolon between quotes, a byte above 126, a CR before LF behind a quote, quotes around a BOM and around blanks
    ("'a';b/" gives "a;b/") then
    ("_'_a_b__'_;b/" gives "a_b;b/") then
    ("''a'';b/" gives "''a'';b/") then
    ("'';b/" gives ";b/") then
    ("';b/" gives "';b/") then
    ("'a;b/" gives "'a;b/") then
    ("a'b';c/" gives "a'b';c/") then
    ("'a'b';c/" gives "'a'b';c/") then
    ("'a;b'/" gives "'a;b'/") then
    ("'~a';b/" gives "'~a';b/") then
    ("b;'a'^/" gives "b;a/") then
    ("b;'a^'/" gives "b;'a^'/") then
    ("'___a'/" gives "a/") then
    ("a/'__'/b/" gives "a//b/") then
    -- trimmed decimals: index, the four powers, R, the two powers, factors
    ("1.2;1.2;1.2;1.2;1.2;1.2;1.2;1.2;1.2;1.2/" gives "1.2;1.200;1.200;1.200;1.200;1.2;1.200;1.200;1.20000;1.20000/") then
    ("0;-0.5;;;;;;;-0.5/" gives "0;-0.500;;;;;;;-0.50000/") then
    ("0;'1.5';_1.5_;1.5_^/" gives "0;1.500;1.500;1.500/") then
    -- no number with a point, or not short of decimals: nothing behind the point, nothing before it, none at all, more decimals than wanted, two points, a plus, a comma, a sign alone
    ("0;1.;.5;15/" gives "0;1.;.5;15/") then
    ("0;1.2345;1.234;-.5/" gives "0;1.2345;1.234;-.5/") then
    ("0;1.2.3;+1.2;1,2/" gives "0;1.2.3;+1.2;1,2/") then
    ("0;-;--1.2;1.2-/" gives "0;-;--1.2;1.2-/") then
    ("0;1.2e1;1_.2/" gives "0;1.2e1;1_.2/") then
    -- a line with a tab, and one without a semicolon, has no decimals to come back
    ("C 0 1.2 1.2/" gives "C 0 1.2 1.2/") then
    ("C;1.2 1.2/" gives "C;1.2 1.2/") then
    ("1.2/" gives "1.2/") then
    -- lines at the end: empty rows of a spreadsheet go, one within stays, one with a figure stays
    ("a;b/;;;;/" gives "a;b/") then
    ("a;b/;;'';_^/ _ /_" gives "a;b/") then
    ("a//b///" gives "a//b/") then
    (";;;/a;b/" gives ";;;/a;b/") then
    ("a;b/;;0;/" gives "a;b/;;0;/") then
    ("///" gives "") then
    (";;;" gives "") then
    -- a line of the table, and a line of the planners' sheet
    ("C 0 100000 5000 -20000 0 - 0 0 -12345 0/" gives "C 0 100000 5000 -20000 0 - 0 0 -12345 0/") then
    ("0;1200.000;100.000;-20.500;0.000;-;0.000;0.000;-0.12345;0.00000/" gives "0;1200.000;100.000;-20.500;0.000;-;0.000;0.000;-0.12345;0.00000/") then
    nil)
unfolding tidied unmarked above line_tidied repaired bared
figures = refl
