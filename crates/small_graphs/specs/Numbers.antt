-- Numbers by arithmetic alone, so that another program can make the same ones.
-- Assumes nothing.
use Rattle.std.specs.Prelude.{ℕ, ◌+◌, ◌*◌, ◌/◌, ◌%◌, cond, eqb}

-- the number behind x, which is below 2 ^ 31
unfoldable pub next_number : ℕ → ℕ
next_number x = (x % 2147483648 * 1103515245 + 12345) % 2147483648

-- the number below `end` that x stands for, by its high bits; 0 where there is none
unfoldable pub number_below : ℕ → ℕ → ℕ
number_below x end = cond (eqb end 0) 0 (x / 65536 % end)
