-- Figures, each beside what it comes to, as one theorem: `Hold` of their list, by `refl` where they compute. It serves examples; no contract cites it.
use Rattle.std.specs.Prelude.{◌≡◌, List, map}

infix 68 ◌is◌
-- a value of any one type, and what it should be
pub record Figure : Type 1 where
  pub kind : Type 0
  pub value : kind
  pub said : kind

abbrev pub ◌is◌ : {A : Type 0} → (value said : A) → Figure
◌is◌ {A = A} value said = record { kind = A; value = value; said = said }

-- each is what it should be
abbrev pub Hold : (figures : List Figure) → Type 1
Hold figures = figures ≡ map (λ f. f.value is f.value) figures
