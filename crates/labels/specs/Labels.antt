-- Which labels a day may have: `name_good` and what it is made of are what contracts cite; `labels_good` and `labels_apart` say it of all hours, as they are judged.
use Rattle.std.specs.Prelude.{Bool, true, not, ◌&&◌, ◌||◌, List, [], ◌∷◌, ℕ, eqb, leb, ltb, length}
use Prim.Native.Char.{code}
use Rattle.arguments.specs.Same.{same_bytes}
use Rattle.daylines.specs.Room.{label_most}
use Rattle.daylines.specs.Label.{label_of}
use Rattle.daylines.specs.Day.{Hour}

-- a byte of a label: no control byte, and in a sheet neither a semicolon nor a quote
unfoldable pub label_byte : (sheet : Bool) → (byte : ℕ) → Bool
label_byte sheet byte = leb 32 byte && not (eqb byte 127) && not (sheet && (eqb byte (code ";") || eqb byte 34))

unfoldable pub label_bytes : (sheet : Bool) → (text : List ℕ) → Bool
label_bytes sheet [] = true
label_bytes sheet (b ∷ text) = label_byte sheet b && label_bytes sheet text

-- not empty
unfoldable pub label_text : (sheet : Bool) → (text : List ℕ) → Bool
label_text sheet text = ltb 0 (length text) && label_bytes sheet text

-- and no longer than the name of a file
abbrev pub is_label : (sheet : Bool) → (text : List ℕ) → Bool
is_label sheet text = label_text sheet text && leb (length text) label_most

-- a file's name: not that of standard input, and with a label
abbrev pub name_good : (sheet : Bool) → (name : List ℕ) → Bool
name_good sheet name = not (same_bytes (code "-" ∷ []) name) && is_label sheet (label_of name)

-- each hour has a label; none after an hour has that hour's
abbrev pub labels_good : (sheet : Bool) → List Hour → Bool
labels_good sheet [] = true
labels_good sheet (h ∷ hours) = is_label sheet h.label && labels_good sheet hours

abbrev pub none_same : (label : List ℕ) → List Hour → Bool
none_same label [] = true
none_same label (h ∷ hours) = not (same_bytes label h.label) && none_same label hours

abbrev pub labels_apart : List Hour → Bool
labels_apart [] = true
labels_apart (h ∷ hours) = none_same h.label hours && labels_apart hours
