-- The version of the C interface: a major number for changes that a caller has to follow, a minor one for what is added, and a patch. `version` is what contracts cite.
use Rattle.std.specs.Prelude.{ℕ, ◌+◌, ◌*◌}

-- 1.0.0, as one number
abbrev pub version : ℕ
version = 10000 * 1 + 100 * 0 + 0
