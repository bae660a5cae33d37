-- A part of the memory in which all words are 0.
-- Assumes nothing.
use Rattle.std.specs.Prelude.{ℕ, ◌≤◌, ◌<◌, ◌≡◌, List, get_or}

-- from one place to before another
pub record Blank (ws : List ℕ) (from to : ℕ) : Type 0 where
  pub nothing : (j : ℕ) → from ≤ j → j < to → get_or ws j 0 ≡ 0
