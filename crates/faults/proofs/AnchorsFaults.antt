-- Faults of whole lines (02, E5), on lines whose byte is computed: where a fault is, that it is nowhere else, and lines that have none. Nobody cites it: it refuses a
-- relation of faults that is too wide, and a byte that is 0 where there is one. A blank stands for a tab, / for an LF; lines are Z lines of index 0.
use mathlib.Core.Path.{◌≡◌, refl, sym, ◌∙◌}
use mathlib.Core.Bool.{true}
use Prim.Native.Char.{Char, code}
use Prim.Native.Nat.{ℕ, ◌+◌}
use Prim.Native.String.{String}
use native.Mathlib.Omega.{arith}
use lib.Dec.{lit<}
use Rattle.types.specs.LineColumns.{zone_columns}
use Rattle.text.specs.Fields.{tab, number_at, signed_at}
use Rattle.text.specs.Line.{headed}
use Rattle.text.specs.Shown.{shown}
use Rattle.columns.specs.declared.Head.TheVariants.{Indexed}
use Rattle.columns.specs.Columns.{field_at}
use Rattle.blame.specs.Blame.{good_at, byte_at, fields_byte, line_byte}
use Rattle.faults.specs.FirstBad.{Fault}
use Rattle.faults.proofs.Faults.{line_fault, fault_line, none_line, other_letter}

abbrev byte : (letter : Char) → (s : String) → ℕ
byte letter s = line_byte tab (Indexed (code letter) 0) zone_columns (shown s)

-- `place` counts from 0: the byte of a fault at place p is p + 1
abbrev FaultAt : (s : String) → (place : ℕ) → Type 0
FaultAt s place = Fault tab 2 zone_columns (shown s) 0 place

pub record Faults : Type 0 where
  -- "+5": the plus, and no other byte
  pub plus : FaultAt "Z 0 +5/" 4
  pub plus_only : (place : ℕ) → FaultAt "Z 0 +5/" place → place ≡ 4
  -- another index: its first byte, and not the plus further right
  pub other_index_lem : FaultAt "Z 1 +5/" 2
  pub other_only : FaultAt "Z 1 +5/" 4 → ⊥
  -- a good line, a field too few, a field too many: none
  pub good : (place : ℕ) → FaultAt "Z 0 -5/" place → ⊥
  pub few : (place : ℕ) → FaultAt "Z 0/" place → ⊥
  pub many : (place : ℕ) → FaultAt "Z 0 5 6/" place → ⊥
  -- the letter comes first: a line of another letter has 0, whatever its fields
  pub letter_fault : FaultAt "Y 0 +5/" 4
  pub letter_first : byte "Z" "Y 0 +5/" ≡ 0

-- a line with a letter, by its byte
module _ (letter : Char) (s : String) (h : headed (code letter) tab (shown s) ≡ true) where
  only : (x place : ℕ) → byte letter s ≡ x → FaultAt s place → x ≡ place + 1
  only x place e f = sym e ∙ fault_line tab (lit< tt) (Indexed (code letter) 0) zone_columns (shown s) place h f

  none : byte letter s ≡ 0 → (place : ℕ) → FaultAt s place → ⊥
  none e = (none_line tab (lit< tt) (Indexed (code letter) 0) zone_columns (shown s) h).0 e

at_byte : (letter : Char) (s : String) (place : ℕ) → byte letter s ≡ place + 1 → FaultAt s place
at_byte letter s place e = line_fault tab (lit< tt) (Indexed (code letter) 0) zone_columns (shown s) place e

pub faults : Faults
unfolding number_at signed_at field_at good_at byte_at fields_byte line_byte
faults =
    record {
      plus = at_byte "Z" "Z 0 +5/" 4 refl;
      plus_only = λ place f. omega (arith, only "Z" "Z 0 +5/" refl 5 place refl f);
      other_index_lem = at_byte "Z" "Z 1 +5/" 2 refl;
      other_only = λ f. omega (arith, only "Z" "Z 1 +5/" refl 3 4 refl f);
      good = none "Z" "Z 0 -5/" refl refl;
      few = none "Z" "Z 0/" refl refl;
      many = none "Z" "Z 0 5 6/" refl refl;
      letter_fault = at_byte "Y" "Y 0 +5/" 4 refl;
      letter_first = other_letter tab (lit< tt) (Indexed (code "Z") 0) zone_columns (shown "Y 0 +5/") refl;
    }
